-- The definitions computed on an example that was worked out by hand, over the table of document 01's book A: 0 1 → 1 1.
use mathlib.Core.Path.{◌≡◌, refl}
use mathlib.Core.Bool.{true}
use mathlib.Core.List.{[], ◌∷◌}
use Rattle.limits.specs.Limits.{standard}
use Rattle.typing.proofs.Examples.{bytes_a, at}
use Rattle.sessions.specs.Session.{gives, looks, closes, session}

-- 0 0 1 0 1 with a look, a wrong tag, a give without room and one after the close between: 0 1 1 0 1, as document 01 says
typed :
    session standard bytes_a (at 0 0)
    (gives 0 0
    ∷ looks 1
    ∷ gives 0 1
    ∷ gives 2 9
    ∷ gives 1 1
    ∷ gives 1 2
    ∷ looks 0
    ∷ gives 0 1
    ∷ gives 1 1
    ∷ closes 0
    ∷ gives 0 9
    ∷ closes 9
    ∷ [])
    ≡ record {
      sentence = record { state = 2; given = 5; closed = true };
      taken = 0 ∷ 0 ∷ 1 ∷ 0 ∷ 1 ∷ [];
      out = 0 ∷ 1 ∷ 1 ∷ 0 ∷ 1 ∷ [];
    }
typed = refl

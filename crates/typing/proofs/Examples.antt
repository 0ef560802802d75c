-- The definitions computed on examples that were worked out by hand, over the table of document 01's book A: 0 1 → 1 1. Its state 1 holds
-- a 0, and puts out 1 1 on a 1.
use Prim.Native.Nat.{ℕ}
use mathlib.Core.Path.{◌≡◌, refl}
use mathlib.Core.Bool.{true, false}
use mathlib.Core.List.{List, [], ◌∷◌}
use Rattle.limits.specs.Limits.{standard}
use Rattle.answers.specs.Outcome.{result, refused, nothing}
use Rattle.typing.specs.Typing.{opened, give, look, close}
use Rattle.typing.specs.declared.Sentence.{Sentence}

abbrev pub bytes_a : List ℕ
bytes_a =
    0x30 ∷ 2 ∷ 0 ∷ 3
    ∷ 0x31 ∷ 0 ∷ 0x33 ∷ 0 ∷ 1 ∷ 0x33 ∷ 0 ∷ 0 ∷ 0x34 ∷ 1
    ∷ 0x31 ∷ 1 ∷ 0x32 ∷ 0 ∷ 0x33 ∷ 0 ∷ 1 ∷ 0x34 ∷ 0 ∷ 0x33 ∷ 0 ∷ 2 ∷ 0x34 ∷ 1 ∷ 0x34 ∷ 1
    ∷ 0x31 ∷ 0 ∷ 0x33 ∷ 0 ∷ 2 ∷ 0x34 ∷ 0 ∷ 0x33 ∷ 0 ∷ 2 ∷ 0x34 ∷ 1 ∷ 0 ∷ []

abbrev pub at : ℕ → ℕ → Sentence
at state given = record { state = state; given = given; closed = false }

opens : opened standard bytes_a ≡ result (at 0 0)
opens = refl

-- a 0 that is held is what a look shows and what a close puts out
shows : look standard bytes_a (at 1 1) 1 ≡ record { sentence = at 1 1; put = result (0 ∷ []) }
shows = refl

closes_with_it : close standard bytes_a (at 1 1) 1 ≡ record { sentence = record { state = 1; given = 1; closed = true }; put = result (0 ∷ []) }
closes_with_it = refl

-- 65,534 tags given and 65,535; a state that is S; closed and such a state; no table
last-tag : give standard bytes_a (at 2 65534) 1 1 ≡ record { sentence = at 2 65535; put = result (1 ∷ []) }
last-tag = refl

too_many : give standard bytes_a (at 2 65535) 9 0 ≡ record { sentence = at 2 65535; put = refused 13 nothing }
too_many = refl

no_state : give standard bytes_a (at 3 65535) 9 0 ≡ record { sentence = at 3 65535; put = refused 16 nothing }
no_state = refl

closed-first :
    close standard bytes_a (record { state = 3; given = 0; closed = true }) 0
    ≡ record { sentence = record { state = 3; given = 0; closed = true }; put = refused 15 nothing }
closed-first = refl

no_table : (look standard (0x30 ∷ []) (record { state = 3; given = 0; closed = true }) 0).put ≡ refused 12 nothing
no_table = refl

-- limits out of range come before no table
no_limits : (look (record { pattern = 9; rules = 16; tags = 48 }) (0x30 ∷ []) (at 0 0) 0).put ≡ refused 17 nothing
no_limits = refl

-- a table of as many tags as the limits have
few_tags : opened (record { pattern = 6; rules = 16; tags = 2 }) bytes_a ≡ result (at 0 0)
few_tags = refl

-- a table whose state holds more tags than the limits allow
none-held : opened (record { pattern = 1; rules = 16; tags = 48 }) bytes_a ≡ refused 12 nothing
none-held = refl

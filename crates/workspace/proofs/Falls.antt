-- A sum falls where a part of it does and no part grows.
use Prim.Native.Nat.{ℕ, ◌≤◌, ◌<◌}
use native.Mathlib.Omega.{arith}
use native.Mathlib.Decide.{ℕ_discrete}
use mathlib.Core.Path.{◌≡◌, sym, ◌∙◌}
use lib.ListN.{length, get_or}
use Rattle.transducers.specs.Rounds.{total}
use Rattle.transducers.specs.Tabulate.{tabulate}
use Rattle.transducers.proofs.Tabulate.{length-tabulate, at-tabulate}
use Rattle.transducers.proofs.Rounds.{total_le, total-same}

pub total_falls : (n : ℕ) (f h : ℕ → ℕ) → ((i : ℕ) → i < n → f i ≤ h i) → (q : ℕ) → q < n → f q < h q → total (tabulate n 0 f) < total (tabulate n 0 h)
total_falls n f h all q hq less = go (ℕ_discrete (total (tabulate n 0 f)) (total (tabulate n 0 h)))
  where
    long : length (tabulate n 0 f) ≡ length (tabulate n 0 h)
    long = length-tabulate n 0 f ∙ sym (length-tabulate n 0 h)

    le : (i : ℕ) → i < length (tabulate n 0 f) → get_or (tabulate n 0 f) i 0 ≤ get_or (tabulate n 0 h) i 0
    le i g = let b : i < n = omega (arith, length-tabulate n 0 f) in omega (arith, at-tabulate n i f 0 b, at-tabulate n i h 0 b, all i b)

    go : Dec (total (tabulate n 0 f) ≡ total (tabulate n 0 h)) → total (tabulate n 0 f) < total (tabulate n 0 h)
    go (yes e) =
        absurd (omega (
          arith,
          total-same (tabulate n 0 f) (tabulate n 0 h) long le e q (omega (arith, hq, length-tabulate n 0 f)),
          at-tabulate n q f 0 hq,
          at-tabulate n q h 0 hq,
          less,
        ))
    go (no ne) = omega (arith, ne, total_le (tabulate n 0 f) (tabulate n 0 h) long le)

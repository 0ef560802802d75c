-- A word rewritten where it stands, part by part.
use Rattle.std.specs.Prelude.{ℕ, ◌≤◌, ◌≡◌, List, ◌++◌, length, take, drop}

-- s has become t as far as its first n tags, and what P makes of s is written to v, which is t itself or lies beside it, as far: Q makes the
-- rest of the tags behind them
pub record Begun (P Q : List ℕ → List ℕ) (s t v : List ℕ) (n : ℕ) : Type 0 where
  pub inside : n ≤ length t
  pub long : length t ≡ length s
  pub beside : length v ≡ length t
  pub cut : P s ≡ take n v ++ Q (drop n t)

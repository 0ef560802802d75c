-- Behaviors that differ in front only.
use Rattle.std.specs.Prelude.{ℕ, ◌≤◌, ◌≡◌, List, ◌++◌, length}
use Rattle.words.specs.Word.{Below}

-- on words of at most n tags P and Q answer the same but for a word in front of each
pub record Beside (k n : ℕ) (P Q : List ℕ → List ℕ) : Type 0 where
  pub left : List ℕ
  pub right : List ℕ
  pub rest : List ℕ → List ℕ
  pub left_is : (x : List ℕ) → Below k x → length x ≤ n → P x ≡ left ++ rest x
  pub right_is : (x : List ℕ) → Below k x → length x ≤ n → Q x ≡ right ++ rest x

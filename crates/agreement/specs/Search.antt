-- A search for a word of which two transducers S and T over k tags make different words (J. Hopcroft and R. Karp, "A linear algorithm for testing
-- equivalence of finite automata", 1971): a list of words, each with the states it leads to, and a label for each state of both.
use Rattle.std.specs.Prelude.{ℕ, zero, suc, ◌+◌, ◌-◌, ◌<◌, ◌≤◌, ◌≡◌, true, false, List, [], ◌∷◌, ◌++◌, eqb, ltb, length, take}
use Rattle.words.specs.Word.{Below}
use Rattle.transducers.specs.Transducer.{Shape, puts}
use Rattle.transducers.specs.Run.{walk}
use Rattle.agreement.specs.Beside.{Beside}

-- both make the same of a word
abbrev pub Agree : Shape → Shape → List ℕ → Type 0
Agree S T w = puts S 0 w ≡ puts T 0 w

-- the states of both in one row: those of S, and then those of T
abbrev pub total : Shape → Shape → ℕ
total S T = S.count + T.count

-- what is still put out from one of them
abbrev pub from : Shape → Shape → ℕ → List ℕ → List ℕ
from S T x = elim (ltb x S.count) [ true ↦ puts S x | false ↦ puts T (x - S.count) ]

-- the front of g that f is shorter by: what one who holds f has put out more than one who holds g
abbrev pub ahead : List ℕ → List ℕ → List ℕ
ahead f g = take (length g - length f) g

-- both make the same of a word with the tag a more, if they make the same of the word, which leads to p and q
abbrev pub StepAgrees : Shape → Shape → ℕ → ℕ → ℕ → Type 0
StepAgrees S T p q a =
    ahead (S.final p) (T.final q) ++ puts S p (a ∷ []) ≡ ahead (T.final q) (S.final p) ++ puts T q (a ∷ [])

-- another value at n
abbrev pub extend : {A : Type 0} → (ℕ → A) → ℕ → A → ℕ → A
extend f n v j = elim (eqb j n) [ true ↦ v | false ↦ f j ]

-- the label `one` becomes `other`
abbrev pub renamed : ℕ → ℕ → ℕ → ℕ
renamed one other l = elim (eqb l one) [ true ↦ other | false ↦ l ]

-- how many of the numbers below n are their own label
abbrev pub own : (ℕ → ℕ) → ℕ → ℕ
own label zero = 0
own label (suc n) = elim (eqb (label n) n) [ true ↦ suc (own label n) | false ↦ own label n ]

-- n words are listed, and each but for those that lead to states of one label has taken a label away
pub record Search (k : ℕ) (S T : Shape) (n : ℕ) (word : ℕ → List ℕ) (label : ℕ → ℕ) : Type 0 where
  pub below : (j : ℕ) → j < n → Below k (word j)
  pub agrees : (j : ℕ) → j < n → Agree S T (word j)
  pub short : (j : ℕ) → j < n → length (word j) ≤ j
  -- states of one label are beside one another if the states of every listed word are
  pub linked :
      (m : ℕ)
      → ((j : ℕ) → j < n → Beside k m (puts S (walk S 0 (word j))) (puts T (walk T 0 (word j))))
      → (x y : ℕ)
      → x < total S T
      → y < total S T
      → label x ≡ label y
      → Beside k m (from S T x) (from S T y)
  pub labels : (x : ℕ) → x < total S T → (label x < total S T) × (label (label x) ≡ label x)
  pub counted : n + own label (total S T) ≡ total S T

-- the j-th word with the tag a more is done with: both make the same of it, and its states have one label
pub record Closed (S T : Shape) (word : ℕ → List ℕ) (label : ℕ → ℕ) (j a : ℕ) : Type 0 where
  pub agrees : Agree S T (word j ++ (a ∷ []))
  pub level : label (S.next (walk S 0 (word j)) a) ≡ label (S.count + T.next (walk T 0 (word j)) a)

-- the first i words are done with on all tags, and the next one on the tags below a
pub record ClosedTo (k : ℕ) (S T : Shape) (word : ℕ → List ℕ) (label : ℕ → ℕ) (i a : ℕ) : Type 0 where
  pub words : (j b : ℕ) → j < i → b < k → Closed S T word label j b
  pub tags : (b : ℕ) → b < a → Closed S T word label i b

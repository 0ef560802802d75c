-- Merging: the result does the same, and each step leads to the least of the states that still put out the same.
use Rattle.std.specs.Prelude.{ℕ, ◌*◌, ◌-◌, ◌≤◌, ◌<◌, ◌≡◌, List, ◌∷◌, map, length, get_or}
use Rattle.words.specs.Front.{same_all}
use Rattle.transducers.specs.Transducer.{Shape, puts}
use Rattle.transducers.specs.Table.{Table, row, shape}
use Rattle.transducers.specs.Canonical.{Same}
use Rattle.transducers.specs.Rounds.{rounds, total}
use Rattle.transducers.specs.Find.{find}
use Rattle.transducers.specs.Tabulate.{tabulate, table}

-- the class of q, named by its least member
abbrev pub class : List ℕ → ℕ → ℕ
class cs q = get_or cs q 0

-- what has to be equal for two states to be alike: their classes so far, those of their next states, their final words and outputs
abbrev pub key_of : Table → List ℕ → ℕ → List (List ℕ)
key_of t cs q =
    let ss = (row t q).steps in
    (class cs q ∷ map (λ s. class cs s.next) ss) ∷ (row t q).final ∷ map (λ s. s.output) ss

-- each state to the least one with its key
abbrev pub refine : Table → List ℕ → List ℕ
refine t cs =
    let keys = tabulate (length t) 0 (key_of t cs) in
    map (λ key. find (same_all key) keys) keys

-- from a single class, refined until nothing changes
abbrev pub classes : Table → List ℕ
classes t =
    let n = length t in
    rounds (λ cs. n * n - total cs) (refine t) (n * n) (tabulate n 0 (λ q. 0))

-- each step leads to the class
abbrev pub merged : Shape → (ℕ → ℕ) → Shape
merged S c = record { count = S.count; next = λ q a. c (S.next q a); output = S.output; final = S.final }

abbrev pub merge : ℕ → Table → Table
merge k t = let cs = classes t in table k (merged (shape t) (class cs))

-- c names the classes of the states that still put out the same by their least members
pub record Classes (k : ℕ) (S : Shape) (c : ℕ → ℕ) : Type 0 where
  pub low : (q : ℕ) → q < S.count → c q ≤ q
  pub finals : (q : ℕ) → q < S.count → S.final (c q) ≡ S.final q
  pub outputs : (q a : ℕ) → q < S.count → a < k → S.output (c q) a ≡ S.output q a
  pub nexts : (q a : ℕ) → q < S.count → a < k → c (S.next (c q) a) ≡ c (S.next q a)
  pub coarsest : (p q : ℕ) → p < S.count → q < S.count → Same k (puts S p) (puts S q) → c p ≡ c q

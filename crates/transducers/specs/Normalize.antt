-- Normalization: the result does the same, and each state puts out as early as can be.
use Rattle.std.specs.Prelude.{ℕ, ◌<◌, List, [], ◌∷◌, ◌++◌, map, length, get_or, drop}
use Rattle.words.specs.Word.{Below, Prefix}
use Rattle.words.specs.Front.{meet}
use Rattle.transducers.specs.Transducer.{Shape, puts}
use Rattle.transducers.specs.Table.{Step, Table, row, shape}
use Rattle.transducers.specs.Rounds.{rounds, total}
use Rattle.transducers.specs.Tabulate.{tabulate, table}

-- the front of state q
abbrev pub front : List (List ℕ) → ℕ → List ℕ
front fs q = get_or fs q []

-- w, as far as each step and the front of its next state put it out
abbrev pub lower_row : List (List ℕ) → List Step → List ℕ → List ℕ
lower_row fs [] w = w
lower_row fs (s ∷ ss) w = lower_row fs ss (meet w (s.output ++ front fs s.next))

abbrev pub lower : Table → List (List ℕ) → List (List ℕ)
lower t fs = tabulate (length t) 0 (λ q. lower_row fs (row t q).steps (front fs q))

abbrev pub size : List (List ℕ) → ℕ
size fs = total (map length fs)

-- from the final words, lowered until nothing changes: 002's longest common prefix of all the outputs from each state
abbrev pub fronts : Table → List (List ℕ)
fronts t =
    let start = tabulate (length t) 0 (λ q. (row t q).final) in
    rounds size (lower t) (size start) start

-- each front is put out one step earlier
abbrev pub stripped : Shape → (ℕ → List ℕ) → Shape
stripped S F =
    record {
      count = S.count;
      next = S.next;
      output = λ q a. drop (length (F q)) (S.output q a ++ F (S.next q a));
      final = λ q. drop (length (F q)) (S.final q);
    }

abbrev pub normalize : ℕ → Table → Table
normalize k t = let fs = fronts t in table k (stripped (shape t) (front fs))

-- F gives each state a prefix of its final word that each of its steps, with the front of the next state, puts out too
pub record Consistent (k : ℕ) (S : Shape) (F : ℕ → List ℕ) : Type 0 where
  pub held : (q : ℕ) → q < S.count → Prefix (F q) (S.final q)
  pub steps : (q a : ℕ) → q < S.count → a < k → Prefix (F q) (S.output q a ++ F (S.next q a))

-- whatever begins all that q still puts out begins F q
abbrev pub Above : ℕ → Shape → (ℕ → List ℕ) → Type 0
Above k S F = (q : ℕ) → q < S.count → (z : List ℕ) → ((x : List ℕ) → Below k x → Prefix z (puts S q x)) → Prefix z (F q)

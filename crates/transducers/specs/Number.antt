-- Numbering: the result does the same, and its states are those reached from state 0, in the order of first reach.
use Rattle.std.specs.Prelude.{ℕ, zero, suc, List, [], ◌∷◌, ◌++◌, true, false, length, get_or, eqb, ltb}
use Rattle.transducers.specs.Transducer.{Shape}
use Rattle.transducers.specs.Table.{Step, Table, row, shape}
use Rattle.transducers.specs.Find.{find}
use Rattle.transducers.specs.Tabulate.{table}

-- the place of s in the list, its length if it is not there
abbrev pub place : List ℕ → ℕ → ℕ
place l s = find (eqb s) l

-- s is appended to the list if it is not there
abbrev pub note : List ℕ → ℕ → List ℕ
note l s = elim (ltb (place l s) (length l)) [ true ↦ l | false ↦ l ++ (s ∷ []) ]

-- "within a state lower tags first"
abbrev pub note_all : List Step → List ℕ → List ℕ
note_all [] l = l
note_all (s ∷ ss) l = note_all ss (note l s.next)

-- "lower-numbered states first": the next states of the i-th member, then those of the ones after it
abbrev pub visit : ℕ → Table → ℕ → List ℕ → List ℕ
visit zero t i l = l
visit (suc n) t i l = elim (ltb i (length l)) [ true ↦ visit n t (suc i) (note_all (row t (get_or l i 0)).steps l) | false ↦ l ]

-- the states in the order of first reach from state 0
abbrev pub order : Table → List ℕ
order t = visit (length t) t 0 (0 ∷ [])

-- each state by its place in the list
abbrev pub numbered : Shape → List ℕ → Shape
numbered S l =
    record {
      count = length l;
      next = λ q a. place l (S.next (get_or l q 0) a);
      output = λ q a. S.output (get_or l q 0) a;
      final = λ q. S.final (get_or l q 0);
    }

abbrev pub number : ℕ → Table → Table
number k t = let l = order t in table k (numbered (shape t) l)

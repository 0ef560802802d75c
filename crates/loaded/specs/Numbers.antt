-- The numbers of a loaded table. First K. Then a row of 2 K + 2 numbers for each state, state 0 first: what is put out at the end and a 0,
-- and for each tag where the next state's row begins and what is put out. Then the tags of the longer words, in the order of the rows.
use Rattle.std.specs.Prelude.{ℕ, zero, suc, ◌+◌, ◌*◌, Bool, true, false, ◌&&◌, List, [], ◌∷◌, ◌++◌, eqb, leb, length}
use Rattle.transducers.specs.Table.{Step, Row, Table, row}
use Rattle.tables.specs.Bytes.{joined}

abbrev pub row_size : ℕ → ℕ
row_size k = 2 * k + 2

-- where the row of state q begins
abbrev pub row_at : ℕ → ℕ → ℕ
row_at k q = 1 + q * row_size k

-- a word as one number: in its lowest byte how many tags; above it the tags, if they are no more than three, else the place of the first
abbrev pub entry : ℕ → List ℕ → ℕ
entry place [] = 0
entry place (a ∷ []) = 1 + 0x100 * a
entry place (a ∷ b ∷ []) = 2 + 0x100 * a + 0x10000 * b
entry place (a ∷ b ∷ c ∷ []) = 3 + 0x100 * a + 0x10000 * b + 0x1000000 * c
entry place (a ∷ b ∷ c ∷ d ∷ w) = length (a ∷ b ∷ c ∷ d ∷ w) + 0x100 * place

-- the tags that stand behind the rows
abbrev pub behind : List ℕ → List ℕ
behind w = elim (leb (length w) 3) [ true ↦ [] | false ↦ w ]

-- is the word empty, is it the tag a alone?
abbrev pub none : List ℕ → Bool
none [] = true
none (b ∷ w) = false

abbrev pub only : ℕ → List ℕ → Bool
only a [] = false
only a (b ∷ w) = eqb b a && none w

-- a state that holds nothing, puts out each tag as it is, and stays
abbrev pub stays : ℕ → ℕ → List Step → Bool
stays q a [] = true
stays q a (s ∷ ss) = (eqb s.next q && only a s.output) && stays q (suc a) ss

abbrev pub rests : Table → ℕ → Bool
rests t q = none (row t q).final && stays q 0 (row t q).steps

-- the first state that rests, from q on among n; one after them if none does
abbrev pub first_resting : Table → ℕ → ℕ → ℕ
first_resting t zero q = q
first_resting t (suc n) q = elim (rests t q) [ true ↦ q | false ↦ first_resting t n (suc q) ]

-- where a step leads that goes to the state q, if r rests: no row begins at `resting`, and the rest of the sentence is put out as it is
abbrev pub resting : ℕ
resting = 0xffffffff

abbrev pub next_at : ℕ → ℕ → ℕ → ℕ
next_at k r q = elim (eqb q r) [ true ↦ resting | false ↦ row_at k q ]

-- steps, with the place where the next longer word goes
abbrev pub step_numbers : ℕ → ℕ → ℕ → List Step → List ℕ
step_numbers k r place [] = []
step_numbers k r place (s ∷ ss) = next_at k r s.next ∷ entry place s.output ∷ step_numbers k r (place + length (behind s.output)) ss

abbrev pub steps_behind : List Step → List ℕ
steps_behind ss = joined (λ s. behind s.output) ss

abbrev pub row_numbers : ℕ → ℕ → ℕ → Row → List ℕ
row_numbers k r place x = entry place x.final ∷ 0 ∷ step_numbers k r (place + length (behind x.final)) x.steps

abbrev pub row_behind : Row → List ℕ
row_behind x = behind x.final ++ steps_behind x.steps

abbrev pub rows_numbers : ℕ → ℕ → ℕ → List Row → List ℕ
rows_numbers k r place [] = []
rows_numbers k r place (x ∷ xs) = row_numbers k r place x ++ rows_numbers k r (place + length (row_behind x)) xs

abbrev pub numbers : ℕ → Table → List ℕ
numbers k t = let r = first_resting t (length t) 0 in k ∷ (rows_numbers k r (row_at k (length t)) t ++ joined row_behind t)

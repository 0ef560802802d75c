-- Reading the bytes of a table, with the limits of the call. "12: table not well formed"; the theorem in proofs/Theorem.antt says that what is read are the
-- encodings of valid tables and nothing else.
use Rattle.std.specs.Prelude.{ℕ, zero, suc, ◌+◌, Bool, true, false, List, [], ◌∷◌, eqb, leb, ltb, length, drop}
use Rattle.limits.specs.Limits.{fewest_tags, most_states, most_held}
use Rattle.limits.specs.Within.{within}
use Rattle.limits.specs.declared.Limits.{Limits}
use Rattle.answers.specs.Outcome.{Outcome, result, refused, nothing, and_then, provided}
use Rattle.transducers.specs.Table.{Step, Row, Table, row}
use Rattle.tables.specs.Bytes.{number, tagged, joined, step_bytes, row_bytes}

-- a table over as many tags
pub record Decoded : Type 0 where
  pub tags : ℕ
  pub table : Table

abbrev pub malformed : {A : Type 0} → Outcome A
malformed = refused 12 nothing

-- the tags of the longest front that has the command with a tag below k, again and again
abbrev pub word : ℕ → ℕ → List ℕ → List ℕ
word c k [] = []
word c k (x ∷ []) = []
word c k (x ∷ a ∷ bs) =
    elim (eqb x c) [ false ↦ [] | true ↦ elim (ltb a k) [ false ↦ [] | true ↦ a ∷ word c k bs ] ]

-- a step at the front of the bytes, over k tags and s states
abbrev pub read_step : ℕ → ℕ → List ℕ → Outcome Step
read_step k s [] = malformed
read_step k s (c ∷ []) = malformed
read_step k s (c ∷ h ∷ []) = malformed
read_step k s (c ∷ h ∷ l ∷ bs) =
    provided 12 (eqb c 0x33)
    (provided 12 (ltb (number h l) s) (result (record { next = number h l; output = word 0x34 k bs })))

-- n parts, one after the other; `bytes` are a part's
abbrev pub many : {A : Type 0} → (List ℕ → Outcome A) → (A → List ℕ) → ℕ → List ℕ → Outcome (List A)
many read bytes zero bs = result []
many read bytes (suc n) bs =
    and_then (read bs) (λ v. and_then (many read bytes n (drop (length (bytes v)) bs)) (λ vs. result (v ∷ vs)))

-- a state, which holds at most h tags
abbrev pub read_row : ℕ → ℕ → ℕ → List ℕ → Outcome Row
read_row h k s [] = malformed
read_row h k s (c ∷ []) = malformed
read_row h k s (c ∷ n ∷ bs) =
    provided 12 (eqb c 0x31)
    (provided 12 (leb n h)
    (provided 12 (eqb (length (word 0x32 k bs)) n)
    (and_then (many (read_step k s) step_bytes k (drop (length (tagged 0x32 (word 0x32 k bs))) bs))
    (λ vs. result (record { final = word 0x32 k bs; steps = vs })))))

-- "00, the last byte"
abbrev pub ended : List ℕ → Bool
ended [] = false
ended (x ∷ []) = eqb x 0
ended (x ∷ y ∷ bs) = false

-- "each step from a state holding d to one holding e puts out exactly d + 1 − e tags"
abbrev pub steps_balanced : Table → ℕ → List Step → Bool
steps_balanced t d [] = true
steps_balanced t d (v ∷ vs) =
    elim (eqb (length v.output + length (row t v.next).final) (d + 1)) [ false ↦ false | true ↦ steps_balanced t d vs ]

abbrev pub rows_balanced : Table → List Row → Bool
rows_balanced t [] = true
rows_balanced t (r ∷ rs) =
    elim (steps_balanced t (length r.final) r.steps) [ false ↦ false | true ↦ rows_balanced t rs ]

-- the states after the head, the end, and what the states' held tags ask
abbrev pub read_table : ℕ → ℕ → ℕ → List ℕ → Outcome Decoded
read_table h k s bs =
    and_then (many (read_row h k s) row_bytes s bs)
    (λ t. provided 12 (ended (drop (length (joined row_bytes t)) bs))
    (provided 12 (eqb (length (row t 0).final) 0)
    (provided 12 (rows_balanced t t) (result (record { tags = k; table = t })))))

abbrev pub decode : Limits → List ℕ → Outcome Decoded
decode lim [] = malformed
decode lim (c ∷ []) = malformed
decode lim (c ∷ k ∷ []) = malformed
decode lim (c ∷ k ∷ h ∷ []) = malformed
decode lim (c ∷ k ∷ h ∷ l ∷ bs) =
    provided 12 (eqb c 0x30)
    (provided 12 (leb fewest_tags k)
    (provided 12 (leb k lim.tags)
    (provided 12 (leb 1 (number h l)) (provided 12 (leb (number h l) most_states) (read_table (most_held lim) k (number h l) bs)))))

-- what a call that is given a table begins with: 17, then 12
abbrev pub decode_within : Limits → List ℕ → Outcome Decoded
decode_within lim bytes = within lim (decode lim bytes)

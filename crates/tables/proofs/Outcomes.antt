-- How long a valid table can be, and that any bytes are read as a table or refused as 12, or as 17 where the limits are out of range.
use Prim.Native.Nat.{ℕ, zero, suc, ◌+◌, ◌*◌, ◌<◌, ◌≤◌}
use native.Mathlib.Omega.{arith}
use mathlib.Core.Path.{◌≡◌, refl, ◌∙◌}
use mathlib.Core.Bool.{Bool, true, false}
use mathlib.Core.List.{List, [], ◌∷◌}
use lib.Dec.{eqb, leb, ltb}
use lib.ListN.{length, drop, length-append}
use Rattle.limits.specs.Limits.{fewest_tags, most_tags, most_states, InRange, in_range, most_held}
use Rattle.limits.specs.declared.Limits.{Limits}
use Rattle.limits.proofs.Range.{held-few, without_is, in_range_lem, within-is, within-result}
use Rattle.answers.specs.Outcome.{Outcome, result, refused, nothing, and_then, provided}
use Rattle.transducers.specs.Table.{Step, Row, Table, row, no_step, no_row}
use Rattle.tables.specs.Valid.{ValidTable}
use Rattle.tables.specs.Bytes.{number, tagged, joined, step_bytes, row_bytes, encode}
use Rattle.tables.specs.Decode.{malformed, word, many, read_step, read_row, read_table, Decoded, decode, decode_within, ended, rows_balanced}
use Rattle.tables.proofs.Words.{length-tagged}
use Rattle.tables.proofs.Parts.{Every, every_of}

-- a state of limits in their ranges holds at most so many tags, and a step puts out at most one more
abbrev pub most : ℕ
most = 112

abbrev Short : Step → Type 0
Short v = length v.output ≤ most + 1

record ShortRow (r : Row) : Type 0 where
  held : length r.final ≤ most
  few : length r.steps ≤ most_tags
  steps : Every Short r.steps

steps-length : (vs : List Step) → Every Short vs → length (joined step_bytes vs) ≤ (3 + 2 * (most + 1)) * length vs
steps-length [] e = omega arith
steps-length (v ∷ vs) e =
    omega (arith, length-append (step_bytes v) (joined step_bytes vs), length-tagged 0x34 v.output, e.0, steps-length vs e.1)

rows-length :
    (rs : Table)
    → Every ShortRow rs
    → length (joined row_bytes rs) ≤ (2 + 2 * most + (3 + 2 * (most + 1)) * most_tags) * length rs
rows-length [] e = omega arith
rows-length (r ∷ rs) e =
    omega (
      arith,
      length-append (row_bytes r) (joined row_bytes rs),
      length-append (tagged 0x32 r.final) (joined step_bytes r.steps),
      length-tagged 0x32 r.final,
      e.0.held,
      e.0.few,
      steps-length r.steps e.0.steps,
      rows-length rs e.1,
    )

pub valid-length : (lim : Limits) (k : ℕ) (t : Table) → InRange lim → ValidTable lim k t → length (encode k t) < 0xffffff
valid-length lim k t r v =
    let short : Every ShortRow t =
    every_of ShortRow t no_row
    (λ q h. record {
      held = omega (arith, v.held q h, held-few lim r);
      few = omega (arith, v.whole q h, v.tags_most, r.few_tags);
      steps =
          every_of Short (row t q).steps no_step
          (λ a g. omega (arith, v.balanced q a h (omega (arith, v.whole q h)), v.held q h, held-few lim r));
    }) in
    omega (arith, length-append (joined row_bytes t) (0 ∷ []), rows-length t short, v.states_most)

-- each part is read, or refused as 12
pub data Read {A : Type 0} (o : Outcome A) : Type 0 where
  gave : (v : A) → o ≡ result v → Read o
  refuses : o ≡ malformed → Read o

pub read-provided : {A : Type 0} (b : Bool) (o : Outcome A) → Read o → Read (provided 12 b o)
read-provided true o r = r
read-provided false o r = refuses refl

pub read_then : {A B : Type 0} (o : Outcome A) (f : A → Outcome B) → Read o → ((v : A) → Read (f v)) → Read (and_then o f)
read_then o f (gave v e) g = rw e (g v)
read_then o f (refuses e) g = refuses (rw e refl)

read-many :
    {A : Type 0} (read : List ℕ → Outcome A) (bytes : A → List ℕ)
    → ((bs : List ℕ) → Read (read bs))
    → (n : ℕ) (bs : List ℕ)
    → Read (many read bytes n bs)
read-many read bytes one zero bs = gave [] refl
read-many read bytes one (suc n) bs =
    read_then (read bs) _ (one bs)
    (λ v. read_then (many read bytes n (drop (length (bytes v)) bs)) _ (read-many read bytes one n (drop (length (bytes v)) bs)) (λ vs. gave (v ∷ vs) refl))

module _ (k s : ℕ) where
  read-step : (bs : List ℕ) → Read (read_step k s bs)
  read-step [] = refuses refl
  read-step (c ∷ []) = refuses refl
  read-step (c ∷ h ∷ []) = refuses refl
  read-step (c ∷ h ∷ l ∷ bs) = read-provided (eqb c 0x33) _ (read-provided (ltb (number h l) s) _ (gave _ refl))

  read-row : (h : ℕ) (bs : List ℕ) → Read (read_row h k s bs)
  read-row h [] = refuses refl
  read-row h (c ∷ []) = refuses refl
  read-row h (c ∷ n ∷ bs) =
      let w = word 0x32 k bs in
      read-provided (eqb c 0x31) _
      (read-provided (leb n h) _
      (read-provided (eqb (length w) n) _ (read_then _ _ (read-many (read_step k s) step_bytes read-step k (drop (length (tagged 0x32 w)) bs)) (λ vs. gave _ refl))))

  read_table_lem : (h : ℕ) (bs : List ℕ) → Read (read_table h k s bs)
  read_table_lem h bs =
      read_then _ _ (read-many (read_row h k s) row_bytes (read-row h) s bs)
      (λ t. read-provided (ended (drop (length (joined row_bytes t)) bs)) _ (read-provided (eqb (length (row t 0).final) 0) _ (read-provided (rows_balanced t t) _ (gave _ refl))))

pub read-decode : (lim : Limits) (bs : List ℕ) → Read (decode lim bs)
read-decode lim [] = refuses refl
read-decode lim (c ∷ []) = refuses refl
read-decode lim (c ∷ k ∷ []) = refuses refl
read-decode lim (c ∷ k ∷ h ∷ []) = refuses refl
read-decode lim (c ∷ k ∷ h ∷ l ∷ bs) =
    read-provided (eqb c 0x30) _
    (read-provided (leb fewest_tags k) _
    (read-provided (leb k lim.tags) _
    (read-provided (leb 1 (number h l)) _ (read-provided (leb (number h l) most_states) _ (read_table_lem k (number h l) (most_held lim) bs)))))

-- what a call that is given a table begins with
pub data Begun {A : Type 0} (o : Outcome A) : Type 0 where
  read : (v : A) → o ≡ result v → Begun o
  not-read : o ≡ malformed → Begun o
  not-ranged : o ≡ refused 17 nothing → Begun o

pub begun : (lim : Limits) (bs : List ℕ) → Begun (decode_within lim bs)
begun lim bs = by (in_range lim) refl (read-decode lim bs)
  where
    by : (b : Bool) → in_range lim ≡ b → Read (decode lim bs) → Begun (decode_within lim bs)
    by true e (gave d f) = read d (within-is lim (decode lim bs) (in_range_lem lim e) ∙ f)
    by true e (refuses f) = not-read (within-is lim (decode lim bs) (in_range_lem lim e) ∙ f)
    by false e r = not-ranged (without_is lim (decode lim bs) e)

-- a table that was read has limits in their ranges, so its states hold few tags
pub read-few : (lim : Limits) (bs : List ℕ) (d : Decoded) → decode_within lim bs ≡ result d → most_held lim ≤ most
read-few lim bs d e = held-few lim (within-result lim (decode lim bs) d e).0

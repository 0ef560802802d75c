-- The theorem on tables and bytes: `decode` answers a table exactly if the table is valid and the bytes are its encoding.
use Prim.Native.Nat.{ℕ, ◌+◌, ◌<◌, ◌≤◌}
use native.Mathlib.Omega.{arith}
use mathlib.Core.Path.{◌≡◌, refl, sym, ap, ◌∙◌}
use mathlib.Core.Bool.{Bool, true, false}
use mathlib.Core.Logic.{◌↔◌}
use mathlib.Core.List.{List, [], ◌∷◌, ◌++◌}
use borrow.Author.Tests.{eq-eqb, le-leb, eqb-true, leb-true}
use lib.Dec.{eqb, leb}
use lib.ListN.{length, drop}
use lib.Seq.{drop-append_seam}
use Rattle.words.specs.Word.{Below}
use Rattle.limits.specs.Limits.{fewest_tags, most_states, most_held}
use Rattle.limits.specs.declared.Limits.{Limits}
use Rattle.limits.proofs.Range.{within-result}
use Rattle.answers.specs.Outcome.{result}
use Rattle.answers.proofs.Outcome.{passed, same-result, went}
use Rattle.transducers.specs.Table.{Step, Row, Table, row, no_step, no_row}
use Rattle.tables.specs.Valid.{ValidTable}
use Rattle.tables.specs.Bytes.{number, high, low, joined, row_bytes, encode}
use Rattle.tables.specs.Decode.{Decoded, many, read_row, read_table, decode, decode_within, ended, steps_balanced, rows_balanced}
use Rattle.tables.proofs.Words.{Stops, number_bytes, high-number, low-number}
use Rattle.tables.proofs.Parts.{Every, every_at, every_of, GoodStep, GoodRow, many_read, many_encoded, row_read, row_encoded}

never : {A : Type 0} → ◌≡◌ {A = ℕ} 0 1 → A
never e = absurd (omega arith)

ended_true : (bs : List ℕ) → ended bs ≡ true → bs ≡ 0 ∷ []
ended_true [] e = never cc
ended_true (x ∷ []) e = cc (eqb-true x 0 e)
ended_true (x ∷ y ∷ bs) e = never cc

empty : (w : List ℕ) → length w ≡ 0 → w ≡ []
empty [] e = refl
empty (a ∷ w) e = absurd (omega arith)

-- what `steps_balanced` and `rows_balanced` test
abbrev pub Balanced : Table → ℕ → Step → Type 0
Balanced t d v = length v.output + length (row t v.next).final ≡ d + 1

abbrev pub RowBalanced : Table → Row → Type 0
RowBalanced t r = Every (Balanced t (length r.final)) r.steps

module _ (t : Table) where
  both : (b c : Bool) → elim b [ false ↦ false | true ↦ c ] ≡ true → (b ≡ true) × (c ≡ true)
  both true c e = (refl, e)
  both false c e = never cc

  pub steps-balanced : (d : ℕ) (vs : List Step) → steps_balanced t d vs ≡ true → Every (Balanced t d) vs
  steps-balanced d [] e = tt
  steps-balanced d (v ∷ vs) e =
      let z = both (eqb (length v.output + length (row t v.next).final) (d + 1)) (steps_balanced t d vs) e in
      (eqb-true _ (d + 1) z.0, steps-balanced d vs z.1)

  pub rows-balanced : (rs : Table) → rows_balanced t rs ≡ true → Every (RowBalanced t) rs
  rows-balanced [] e = tt
  rows-balanced (r ∷ rs) e =
      let z = both (steps_balanced t (length r.final) r.steps) (rows_balanced t rs) e in
      (steps-balanced (length r.final) r.steps z.0, rows-balanced rs z.1)

  balanced-steps : (d : ℕ) (vs : List Step) → Every (Balanced t d) vs → steps_balanced t d vs ≡ true
  balanced-steps d [] e = refl
  balanced-steps d (v ∷ vs) e =
      cc (eq-eqb (length v.output + length (row t v.next).final) (d + 1) e.0, balanced-steps d vs e.1)

  pub balanced-rows : (rs : Table) → Every (RowBalanced t) rs → rows_balanced t rs ≡ true
  balanced-rows [] e = refl
  balanced-rows (r ∷ rs) e = cc (balanced-steps (length r.final) r.steps e.0, balanced-rows rs e.1)

module _ (lim : Limits) (k : ℕ) (t : Table) where
  pub valid_of :
      fewest_tags ≤ k
      → k ≤ lim.tags
      → 1 ≤ length t
      → length t ≤ most_states
      → (row t 0).final ≡ []
      → Every (GoodRow (most_held lim) k (length t)) t
      → Every (RowBalanced t) t
      → ValidTable lim k t
  valid_of k2 k48 s1 s256 start good balanced =
      let at : (q : ℕ) → q < length t → GoodRow (most_held lim) k (length t) (row t q) = λ q h. every_at (GoodRow (most_held lim) k (length t)) t no_row q good h in
      let inside : (q a : ℕ) → q < length t → a < k → a < length (row t q).steps = λ q a h g. omega (arith, (at q h).whole) in
      record {
        tags_least = k2;
        tags_most = k48;
        states_least = s1;
        states_most = s256;
        start = start;
        held = λ q h. (at q h).held;
        final_below = λ q h. (at q h).final_below;
        whole = λ q h. (at q h).whole;
        next_below = λ q a h g. (every_at (GoodStep k (length t)) (row t q).steps no_step a (at q h).steps (inside q a h g)).next_below;
        output_below = λ q a h g. (every_at (GoodStep k (length t)) (row t q).steps no_step a (at q h).steps (inside q a h g)).output_below;
        balanced =
            λ q a h g.
            every_at (Balanced t (length (row t q).final)) (row t q).steps no_step a
            (every_at (RowBalanced t) t no_row q balanced h)
            (inside q a h g);
      }

  module _ (v : ValidTable lim k t) where
    tag-inside : (q a : ℕ) → q < length t → a < length (row t q).steps → a < k
    tag-inside q a h g = omega (arith, v.whole q h)

    pub good_rows : Every (GoodRow (most_held lim) k (length t)) t
    good_rows =
        every_of (GoodRow (most_held lim) k (length t)) t no_row
        (λ q h. record {
          held = v.held q h;
          final_below = v.final_below q h;
          whole = v.whole q h;
          steps =
              every_of (GoodStep k (length t)) (row t q).steps no_step
              (λ a g. record {
                next_below = v.next_below q a h (tag-inside q a h g);
                output_below = v.output_below q a h (tag-inside q a h g);
              });
        })

    pub valid-balanced : Every (RowBalanced t) t
    valid-balanced =
        every_of (RowBalanced t) t no_row
        (λ q h. every_of (Balanced t (length (row t q).final)) (row t q).steps no_step
        (λ a g. v.balanced q a h (tag-inside q a h g)))

-- what is read
pub record Reading (most k s : ℕ) (bs : List ℕ) (d : Decoded) : Type 0 where
  pub tags : d.tags ≡ k
  pub states : length d.table ≡ s
  pub bytes : bs ≡ joined row_bytes d.table ++ (0 ∷ [])
  pub good : Every (GoodRow most k s) d.table
  pub start : (row d.table 0).final ≡ []
  pub balanced : Every (RowBalanced d.table) d.table

pub table-read : (most k s : ℕ) (bs : List ℕ) (d : Decoded) → Below 0x100 bs → read_table most k s bs ≡ result d → Reading most k s bs d
table-read most k s bs d b e =
    let rows = went (many (read_row most k s) row_bytes s bs) _ d e in
    let t = rows.first in
    let end = passed 12 (ended (drop (length (joined row_bytes t)) bs)) _ d rows.then in
    let start = passed 12 (eqb (length (row t 0).final) 0) _ d end.1 in
    let balanced = passed 12 (rows_balanced t t) _ d start.1 in
    let read = many_read (read_row most k s) row_bytes (GoodRow most k s) (row_read most k s) s bs t b rows.read in
    let made : Decoded = record { tags = k; table = t } in
    let same : made ≡ d = cc balanced.1 in
    rw (← same)
    (record {
      tags = refl;
      states = read.0;
      bytes = cc (read.1.begins, ended_true (drop (length (joined row_bytes t)) bs) end.0);
      good = read.1.good;
      start = empty (row t 0).final (eqb-true _ 0 start.0);
      balanced = rows-balanced t t balanced.0;
    })

pub decoded : (lim : Limits) (bs : List ℕ) (d : Decoded) → Below 0x100 bs → decode lim bs ≡ result d → ValidTable lim d.tags d.table × (bs ≡ encode d.tags d.table)
decoded lim [] d b e = never cc
decoded lim (c ∷ []) d b e = never cc
decoded lim (c ∷ k ∷ []) d b e = never cc
decoded lim (c ∷ k ∷ h ∷ []) d b e = never cc
decoded lim (c ∷ k ∷ h ∷ l ∷ bs) d b e =
    let s = number h l in
    let one = passed 12 (eqb c 0x30) _ d e in
    let two = passed 12 (leb fewest_tags k) _ d one.1 in
    let three = passed 12 (leb k lim.tags) _ d two.1 in
    let four = passed 12 (leb 1 s) _ d three.1 in
    let five = passed 12 (leb s most_states) _ d four.1 in
    let r = table-read (most_held lim) k s bs d b.1.1.1.1 five.1 in
    let t = d.table in (
      rw r.tags
          (valid_of lim k t
          (leb-true fewest_tags k two.0)
          (leb-true k lim.tags three.0)
          (rw r.states (leb-true 1 s four.0))
          (rw r.states (leb-true s most_states five.0))
          r.start
          (rw r.states r.good)
          r.balanced),
      cc (
        eqb-true c 0x30 one.0,
        r.tags,
        r.states,
        r.bytes,
        high-number h l b.1.1.1.0,
        low-number h l b.1.1.1.0,
      ),
    )

-- the cases of `decode`
pub head_at : (lim : Limits) (k h l : ℕ) (bs : List ℕ) → fewest_tags ≤ k → k ≤ lim.tags → 1 ≤ number h l → number h l ≤ most_states
    → decode lim (0x30 ∷ k ∷ h ∷ l ∷ bs) ≡ read_table (most_held lim) k (number h l) bs
head_at lim k h l bs k2 k48 s1 s256 =
    cc (
      le-leb fewest_tags k k2,
      le-leb k lim.tags k48,
      le-leb 1 (number h l) s1,
      le-leb (number h l) most_states s256,
    )

pub table-at : (most k s : ℕ) (bs : List ℕ) (t : Table) → many (read_row most k s) row_bytes s bs ≡ result t → ended (drop (length (joined row_bytes t)) bs) ≡ true
    → length (row t 0).final ≡ 0 → rows_balanced t t ≡ true → read_table most k s bs ≡ result (record { tags = k; table = t })
table-at most k s bs t e n h b = rw e (rw (n, eq-eqb (length (row t 0).final) 0 h, b) refl)

pub encoded : (lim : Limits) (k : ℕ) (t : Table) → ValidTable lim k t → decode lim (encode k t) ≡ result (record { tags = k; table = t })
encoded lim k t v =
    let s = length t in
    let n = number_bytes s in
    let bs = joined row_bytes t ++ (0 ∷ []) in
    let rows =
    many_encoded (read_row (most_held lim) k s) row_bytes (GoodRow (most_held lim) k s) (Stops 0x34)
    (λ r rest g st. row_encoded (most_held lim) k s r rest (omega (arith, v.tags_least)) g st)
    (λ r rest e. omega arith)
    t
    (0 ∷ [])
    (good_rows lim k t v)
    (λ e. omega arith) in
    let end : ended (drop (length (joined row_bytes t)) bs) ≡ true = rw (drop-append_seam (joined row_bytes t) (0 ∷ [])) refl in
    head_at lim k (high s) (low s) bs v.tags_least v.tags_most (rw n v.states_least) (rw n v.states_most)
    ∙ rw n (table-at (most_held lim) k s bs t rows end (ap length v.start) (balanced-rows t t (valid-balanced lim k t v)))

-- the theorem; every byte of a slice is below 0x100
pub decode-encode :
    (lim : Limits) (bs : List ℕ) (k : ℕ) (t : Table)
    → Below 0x100 bs
    → (decode lim bs ≡ result (record { tags = k; table = t })) ↔ (ValidTable lim k t × (bs ≡ encode k t))
decode-encode lim bs k t b = (
  λ e. decoded lim bs (record { tags = k; table = t }) b e,
  λ v. rw v.1 (encoded lim k t v.0),
)

-- what is read with limits in their ranges
pub decoded-within :
    (lim : Limits) (bs : List ℕ) (d : Decoded)
    → Below 0x100 bs
    → decode_within lim bs ≡ result d
    → ValidTable lim d.tags d.table × (bs ≡ encode d.tags d.table)
decoded-within lim bs d b e = decoded lim bs d b (within-result lim (decode lim bs) d e).1

-- a table is valid under wider limits too
pub valid_wider :
    (lim wide : Limits) (k : ℕ) (t : Table)
    → lim.pattern ≤ wide.pattern
    → lim.tags ≤ wide.tags
    → ValidTable lim k t
    → ValidTable wide k t
valid_wider lim wide k t longer more v =
    record {
      tags_least = v.tags_least;
      tags_most = omega (arith, v.tags_most);
      states_least = v.states_least;
      states_most = v.states_most;
      start = v.start;
      held = λ q h. omega (arith, v.held q h, longer);
      final_below = v.final_below;
      whole = v.whole;
      next_below = v.next_below;
      output_below = v.output_below;
      balanced = v.balanced;
    }

-- valid tables with the same bytes are one table, though each may be valid under its own limits
pub same_encoding :
    {lim other : Limits} (d e : Decoded)
    → ValidTable lim d.tags d.table
    → ValidTable other e.tags e.table
    → encode d.tags d.table ≡ encode e.tags e.table
    → d ≡ e
same_encoding {lim} {other} d e v w same =
    let wide : Limits = record { pattern = lim.pattern + other.pattern; rules = 1; tags = lim.tags + other.tags } in
    let first = encoded wide d.tags d.table (valid_wider lim wide d.tags d.table (omega arith) (omega arith) v) in
    let second = encoded wide e.tags e.table (valid_wider other wide e.tags e.table (omega arith) (omega arith) w) in
    same-result d e (sym first ∙ ap (decode wide) same ∙ second)

-- so bytes are read as the same table under all limits under which they are read
pub same-reading :
    (lim other : Limits) (bs : List ℕ) (d e : Decoded)
    → Below 0x100 bs
    → decode lim bs ≡ result d
    → decode other bs ≡ result e
    → d ≡ e
same-reading lim other bs d e b f g =
    let one = decoded lim bs d b f in
    let two = decoded other bs e b g in
    same_encoding d e one.0 two.0 (sym one.1 ∙ two.1)

-- Words and steps at a place of the bytes, and their entries.
use Prim.Native.Nat.{ℕ, zero, suc, ◌+◌, ◌*◌, ◌/◌, ◌<◌, ◌≤◌, ◌-◌}
use native.Mathlib.Numerals.{add-one}
use native.Mathlib.Decide.{dec_lt}
use native.Mathlib.Omega.{arith}
use native.Mathlib.Nat.{mul-le-mul, suc-mul, div-eq_of_eq-mul_left}
use mathlib.Core.Path.{◌≡◌, refl, sym, ap, ◌∙◌}
use mathlib.Core.Bool.{Bool, true}
use mathlib.Core.List.{List, [], ◌∷◌, ◌++◌}
use lib.ListN.{length, drop, get_or, set, length-drop, length-append}
use lib.Seq.{drop-cons, get_or-drop, get_or-set_same, get_or-set_other}
use Rattle.limits.specs.Limits.{most_tags, most_states}
use Rattle.answers.specs.Outcome.{result}
use Rattle.tables.specs.Bytes.{number, tagged, step_bytes}
use Rattle.tables.specs.Decode.{word, malformed, read_step}
use Rattle.tables.proofs.Words.{word_more, word-other, word_begins, length-tagged}
use Rattle.tables.proofs.Parts.{step-at}
use Rattle.steps.specs.Entry.{count_of, place_of, base_of, TagsAt, EntryOf, FinalEntry, StepEntry}
use Rattle.steps.specs.Part.{Part, SameBelow, Single, SingleIf}

pub drop_two : (bs : List ℕ) (at : ℕ) → at + 1 < length bs → drop at bs ≡ get_or bs at 0 ∷ get_or bs (at + 1) 0 ∷ drop (at + 2) bs
drop_two bs at h =
    let one : at + 1 ≡ suc at = omega arith in
    let two : at + 2 ≡ suc (suc at) = omega arith in
    let inside : suc at < length bs = omega arith in
    cc (one, two, drop-cons bs at 0 (omega arith), drop-cons bs (suc at) 0 inside)

pub drop_three : (bs : List ℕ) (at : ℕ) → at + 2 < length bs
    → drop at bs ≡ get_or bs at 0 ∷ get_or bs (at + 1) 0 ∷ get_or bs (at + 2) 0 ∷ drop (at + 3) bs
drop_three bs at h =
    let two : at + 2 ≡ suc (suc at) = omega arith in
    let three : at + 3 ≡ suc (suc (suc at)) = omega arith in
    let inside : suc (suc at) < length bs = omega arith in
    cc (two, three, drop_two bs at (omega arith), drop-cons bs (suc (suc at)) 0 inside)

-- few states of few tags have few entries
pub all-entries : (s k : ℕ) → s ≤ most_states → k ≤ most_tags → s * (k + 1) ≤ most_states * (most_tags + 1)
all-entries s k h g = mul-le-mul {n₂ = most_states} {m₂ = most_tags + 1} (omega arith) (omega arith)

-- the turns of the loop that goes through a word
module _ (c k : ℕ) (bs : List ℕ) (at : ℕ) where
  pub word-short : length bs - at ≤ 1 → length (word c k (drop at bs)) ≡ 0
  word-short h = short (drop at bs) (rw length-drop h)
    where
      short : (l : List ℕ) → length l ≤ 1 → length (word c k l) ≡ 0
      short [] h = refl
      short (x ∷ []) h = refl
      short (x ∷ y ∷ l) h = absurd (omega arith)

  module _ (h : 1 < length bs - at) where
    two : drop at bs ≡ get_or bs at 0 ∷ get_or bs (at + 1) 0 ∷ drop (at + 2) bs
    two = drop_two bs at (omega arith)

    pub word_turn : get_or bs at 0 ≡ c → get_or bs (at + 1) 0 < k → length (word c k (drop at bs)) ≡ suc (length (word c k (drop (at + 2) bs)))
    word_turn e g = rw two (ap length (word_more c k (get_or bs at 0) (get_or bs (at + 1) 0) (drop (at + 2) bs) e g))

    pub word-left : (get_or bs at 0 ≡ c → ⊥) → length (word c k (drop at bs)) ≡ 0
    word-left n = rw two (ap length (word-other c k (get_or bs at 0) (get_or bs (at + 1) 0) (drop (at + 2) bs) n))

-- where the tags of a word stand
pub tagged-at : (c : ℕ) (w rest : List ℕ) (j : ℕ) → j < length w → get_or (tagged c w ++ rest) (1 + 2 * j) 0 ≡ get_or w j 0
tagged-at c [] rest j h = absurd (omega arith)
tagged-at c (a ∷ w) rest zero h = refl
tagged-at c (a ∷ w) rest (suc j) h =
    let e : 1 + 2 * suc j ≡ suc (suc (1 + 2 * j)) = omega arith in
    rw e (tagged-at c w rest j (omega arith))

pub word_stands : (c k : ℕ) (bs : List ℕ) (from : ℕ) → from ≤ length bs → TagsAt bs (from + 1) (word c k (drop from bs))
word_stands c k bs from h =
    let w = word c k (drop from bs) in
    let rest = drop (length (tagged c w)) (drop from bs) in
    let begins = word_begins c k (drop from bs) in
    record {
      tags =
          λ j g.
          let e : from + 1 + 2 * j ≡ from + (1 + 2 * j) = omega arith in
          ap (λ (i : ℕ). get_or bs i 0) e
          ∙ sym (get_or-drop from bs (1 + 2 * j) 0)
          ∙ ap (λ (l : List ℕ). get_or l (1 + 2 * j) 0) begins
          ∙ tagged-at c w rest j g;
      inside = omega (arith, length-drop from bs, ap length begins, length-append (tagged c w) rest, length-tagged c w);
    }

-- a step at a place
module _ (k s : ℕ) (bs : List ℕ) (at : ℕ) where
  pub step-short : length bs - at < 3 → read_step k s (drop at bs) ≡ malformed
  step-short h = short (drop at bs) (rw length-drop h)
    where
      short : (l : List ℕ) → length l < 3 → read_step k s l ≡ malformed
      short [] h = refl
      short (x ∷ []) h = refl
      short (x ∷ y ∷ []) h = refl
      short (x ∷ y ∷ z ∷ l) h = absurd (omega arith)

  module _ (h : 3 ≤ length bs - at) where
    three : drop at bs ≡ get_or bs at 0 ∷ get_or bs (at + 1) 0 ∷ get_or bs (at + 2) 0 ∷ drop (at + 3) bs
    three = drop_three bs at (omega arith)

    pub step_part :
        (ix : List ℕ) (cell end next base e : ℕ)
        → get_or bs at 0 ≡ 0x33
        → next ≡ number (get_or bs (at + 1) 0) (get_or bs (at + 2) 0)
        → next < s
        → base ≡ next * (k + 1) + 1
        → end ≡ at + 3 + 2 * length (word 0x34 k (drop (at + 3) bs))
        → end ≤ length bs
        → EntryOf bs base (word 0x34 k (drop (at + 3) bs)) e
        → cell < length ix
        → Part (read_step k s) step_bytes (StepEntry k bs (set ix cell e) cell) bs at end
    step_part ix cell end next base e first numbered below based ends inside holds room =
        let made : read_step k s (0x33 ∷ get_or bs (at + 1) 0 ∷ get_or bs (at + 2) 0 ∷ drop (at + 3) bs)
        ≡ result (record { next = next; output = word 0x34 k (drop (at + 3) bs) }) =
        rw numbered (step-at k s (get_or bs (at + 1) 0) (get_or bs (at + 2) 0) (drop (at + 3) bs) (rw (← numbered) below)) in
        record {
          value = record { next = next; output = word 0x34 k (drop (at + 3) bs) };
          reads = rw (three, first) made;
          end = omega (arith, ends, length-tagged 0x34 (word 0x34 k (drop (at + 3) bs)));
          inside = inside;
          holds = rw (get_or-set_same ix cell e 0 room, ← based) holds;
        }

-- the entry of a word of one tag, and of another
pub cell-one :
    (bs w : List ℕ) (base from e tag : ℕ)
    → base_of e ≡ base
    → count_of e ≡ 1
    → place_of e ≡ tag
    → tag < 0x100
    → length w ≡ 1
    → tag ≡ get_or w 0 0
    → EntryOf bs base w e
cell-one bs w base from e tag b c p small one t =
    record {
      base_is = b;
      count_is = omega arith;
      tag_is = λ h. omega arith;
      stands = λ h. absurd (h one);
    }

pub word_first : (bs w : List ℕ) (from : ℕ) → length w ≡ 1 → TagsAt bs (from + 1) w → get_or bs (from + 1) 0 ≡ get_or w 0 0
word_first bs w from one st =
    let zero_more : from + 1 + 2 * 0 ≡ from + 1 = omega arith in
    rw zero_more at (st.tags 0 (omega arith))

pub final-cell :
    (bs w : List ℕ) (from n e : ℕ)
    → count_of e ≡ n
    → place_of e ≡ from + 1
    → length w ≡ n
    → TagsAt bs (from + 1) w
    → FinalEntry bs w e
final-cell bs w from n e c p l st = record { count_is = omega arith; stands = rw p st }

pub is_single_true : (bs : List ℕ) (at k s : ℕ) (r : Bool) → SingleIf r bs at k s → r ≡ true → Single bs at k s
is_single_true bs at k s r h e = rw e at h

-- a step that puts out one tag
module _ (bs : List ℕ) (at k s : ℕ) (one : Single bs at k s) where
  single_length : length (word 0x34 k (drop (at + 3) bs)) ≡ 1
  single_length =
      let four : at + 3 + 1 ≡ at + 4 = omega arith in
      let five : at + 3 + 2 ≡ at + 5 = omega arith in
      word_turn 0x34 k bs (at + 3) (omega (arith, one.long)) one.output (rw four one.tag_below)
      ∙ ap suc (rw five after)
    where
      after : length (word 0x34 k (drop (at + 5) bs)) ≡ 0
      after = go (dec_lt 1 (length bs - (at + 5)))
        where
          go : Dec (1 < length bs - (at + 5)) → length (word 0x34 k (drop (at + 5) bs)) ≡ 0
          go (yes h) = word-left 0x34 k bs (at + 5) h one.stops
          go (no h) = word-short 0x34 k bs (at + 5) (omega arith)

  pub single_part :
      (ix : List ℕ) (cell next base e : ℕ)
      → next ≡ number (get_or bs (at + 1) 0) (get_or bs (at + 2) 0)
      → base ≡ next * (k + 1) + 1
      → base_of e ≡ base
      → count_of e ≡ 1
      → place_of e ≡ get_or bs (at + 4) 0
      → get_or bs (at + 4) 0 < 0x100
      → cell < length ix
      → Part (read_step k s) step_bytes (StepEntry k bs (set ix cell e) cell) bs at (at + 5)
  single_part ix cell next base e numbered based b c p small room =
      let w = word 0x34 k (drop (at + 3) bs) in
      let four : at + 3 + 1 ≡ at + 4 = omega arith in
      let first : get_or bs (at + 4) 0 ≡ get_or w 0 0 =
      rw four at (word_first bs w (at + 3) single_length (word_stands 0x34 k bs (at + 3) (omega (arith, one.long)))) in
      step_part k s bs at (omega (arith, one.long)) ix cell (at + 5) next base e
      one.command
      numbered
      (omega (arith, one.next_below))
      based
      (omega (arith, single_length))
      (omega (arith, one.long))
      (cell-one bs w base (at + 3) e (get_or bs (at + 4) 0) b c p small single_length first)
      room

-- entries that are kept
pub kept_set : (ix : List ℕ) (cell e : ℕ) → SameBelow cell ix (set ix cell e)
kept_set ix cell e i h = get_or-set_other ix cell i e 0 (omega arith)

pub kept_then : (lo lo' : ℕ) (x y z : List ℕ) → lo ≤ lo' → SameBelow lo x y → SameBelow lo' y z → SameBelow lo x z
kept_then lo lo' x y z h f g i l = g i (omega arith) ∙ f i l

pub kept_at : (P : ℕ → Type 0) (lo c : ℕ) (x y : List ℕ) → SameBelow lo x y → c < lo → P (get_or x c 0) → P (get_or y c 0)
kept_at P lo c x y f h g = rw (f c h) g

-- the entries of the states, one after the other
pub row_next : (q k : ℕ) → (q + 1) * (k + 1) ≡ q * (k + 1) + (k + 1)
row_next q k = rw (add-one q) (suc-mul q (k + 1))

pub row_inside : (q s k n : ℕ) → q < s → s * (k + 1) ≤ n → q * (k + 1) + k < n
row_inside q s k n h g = omega (arith, mul-le-mul {n₁ = q + 1} {m₁ = k + 1} {n₂ = s} {m₂ = k + 1} (omega arith) (omega arith), row_next q k)

-- a state's entries begin after its final word's
pub next_of : (n k base : ℕ) → base ≡ n * (k + 1) + 1 → (base - 1) / (k + 1) ≡ n
next_of n k base e = div-eq_of_eq-mul_left (omega arith) (omega (arith, e))

-- Bytes that are written one after the other.
use Prim.Native.Nat.{ℕ, zero, suc, ◌+◌, ◌*◌, ◌-◌, ◌/◌, ◌%◌, ◌≤◌, ◌<◌}
use native.Mathlib.Omega.{arith}
use native.Mathlib.Numerals.{add-one, add-two, add-three}
use mathlib.Core.Path.{◌≡◌, refl, sym, ap, ◌∙◌, subst}
use mathlib.Core.List.{List, [], ◌∷◌, ◌++◌, append_assoc, append-nil}
use lib.ListN.{length, get_or, set, take, length-append}
use lib.Seq.{take-suc, take_all}
use Rattle.words.proofs.Word.{below_at}
use Rattle.words.proofs.Regions.{sets_more}
use Rattle.transducers.specs.Tabulate.{tabulate}
use Rattle.transducers.proofs.Tabulate.{length-tabulate}
use Rattle.tables.specs.Bytes.{tagged, joined, step_bytes, row_bytes, encode}
use Rattle.workspace.specs.declared.Grid.{Grid}
use Rattle.workspace.specs.Entries.{OUTPUT, FINAL}
use Rattle.workspace.specs.Cells.{at, word, Inner, In, Got}
use Rattle.workspace.proofs.Words.{word-length, word_at}
use Rattle.encoder.specs.Encoding.{BytesWritten, step_in, steps_in, row_in, rows_in, Bytes}

-- what is written after what was written
pub wrote_then : (l m o : List ℕ) (i j k : ℕ) (xs ys : List ℕ) → BytesWritten l m i xs j → BytesWritten m o j ys k → BytesWritten l o i (xs ++ ys) k
wrote_then l m o i j k xs ys a b =
    record {
      is = b.is ∙ cc (a.is, a.end, sets_more l i xs ys);
      end = omega (arith, a.end, b.end, length-append xs ys);
    }

pub wrote_none : (l : List ℕ) (i : ℕ) → BytesWritten l l i [] i
wrote_none l i = record { is = refl; end = omega arith }

pub wrote-is : (l m : List ℕ) (i j : ℕ) (xs ys : List ℕ) → xs ≡ ys → BytesWritten l m i xs j → BytesWritten l m i ys j
wrote-is l m i j xs ys e h = subst (λ (zs : List ℕ). BytesWritten l m i zs j) e h

-- ---- words

pub tagged-length : (c : ℕ) (w : List ℕ) → length (tagged c w) ≡ 2 * length w
tagged-length c [] = refl
tagged-length c (a ∷ w) = omega (arith, tagged-length c w)

tagged-append : (c : ℕ) (w v : List ℕ) → tagged c (w ++ v) ≡ tagged c w ++ tagged c v
tagged-append c [] v = refl
tagged-append c (a ∷ w) v = ap (λ (x : List ℕ). c ∷ a ∷ x) (tagged-append c w v)

-- one more tag of a word
pub tagged-next : (l m : List ℕ) (from to c : ℕ) (w : List ℕ) (i tag : ℕ) → i < length w → tag ≡ get_or w i 0 → BytesWritten l m from (tagged c (take i w)) to
    → BytesWritten l (set (set m to c) (to + 1) tag) from (tagged c (take (i + 1) w)) (to + 2)
tagged-next l m from to c w i tag h e p =
    let t : take (i + 1) w ≡ take i w ++ (tag ∷ []) = cc (take-suc w i 0 h, add-one i) in
    wrote-is l (set (set m to c) (to + 1) tag) from (to + 2) (tagged c (take i w) ++ (c ∷ tag ∷ [])) (tagged c (take (i + 1) w))
    (sym (ap (tagged c) t ∙ tagged-append c (take i w) (tag ∷ [])))
    (wrote_then l m (set (set m to c) (to + 1) tag) from to (to + 2) (tagged c (take i w)) (c ∷ tag ∷ []) p
    (record { is = ap (λ (n : ℕ). set (set m to c) n tag) (add-one to); end = refl }))

pub tagged-all : (l m : List ℕ) (from to c : ℕ) (w : List ℕ) (i : ℕ) → length w ≤ i → BytesWritten l m from (tagged c (take i w)) to → BytesWritten l m from (tagged c w) to
tagged-all l m from to c w i h p = wrote-is l m from to (tagged c (take i w)) (tagged c w) (ap (tagged c) (take_all i w h)) p

-- a tag of a word in the work slice
pub tag_got : (g : Grid) (W : List ℕ) (r c s i tag : ℕ) → Bytes g W r c s → i < at g W r c s → Got g W r c (s + i + 1) tag
    → (tag ≡ get_or (word g W r c s) i 0) × (tag < 0x100)
tag_got g W r c s i tag b h v =
    let e : tag ≡ get_or (word g W r c s) i 0 = v.is ∙ sym (word_at g W r c s i h) in
    (e, omega (arith, below_at 0x100 (word g W r c s) i (omega (arith, word-length g W r c s)) b.small))

-- ---- parts one after the other

module _ {A : Type 0} (bytes : A → List ℕ) (f : ℕ → A) where
  tabulate-next : (i j : ℕ) → tabulate (suc i) j f ≡ tabulate i j f ++ (f (j + i) ∷ [])
  tabulate-next zero j = let e : j ≡ j + 0 = omega arith in ap (λ (n : ℕ). f n ∷ []) e
  tabulate-next (suc i) j =
      let e : suc j + i ≡ j + suc i = omega arith in
      ap (λ (x : List A). f j ∷ x) (tabulate-next i (suc j) ∙ ap (λ (n : ℕ). tabulate i (suc j) f ++ (f n ∷ [])) e)

  joined-append : (xs : List A) (x : A) → joined bytes (xs ++ (x ∷ [])) ≡ joined bytes xs ++ bytes x
  joined-append [] x = append-nil (bytes x)
  joined-append (y ∷ xs) x =
      ap (λ (z : List ℕ). bytes y ++ z) (joined-append xs x) ∙ sym (append_assoc (bytes y) (joined bytes xs) (bytes x))

  -- the bytes of the first i parts
  abbrev pub first_parts : ℕ → List ℕ
  first_parts i = joined bytes (tabulate i 0 f)

  pub parts_next : (i : ℕ) → first_parts (i + 1) ≡ first_parts i ++ bytes (f i)
  parts_next i =
      let e : 0 + i ≡ i = omega arith in
      let t : tabulate (i + 1) 0 f ≡ tabulate i 0 f ++ (f i ∷ []) = cc (add-one i, tabulate-next i 0, e) in
      ap (joined bytes) t ∙ joined-append (tabulate i 0 f) (f i)

  parts_more : (i n : ℕ) → length (first_parts i) ≤ length (first_parts (n + i))
  parts_more i zero = let e : 0 + i ≡ i = omega arith in rw e (omega arith)
  parts_more i (suc n) =
      let e : suc n + i ≡ n + i + 1 = omega arith in
      omega (arith, parts_more i n, ap (λ (m : ℕ). length (first_parts m)) e, ap length (parts_next (n + i)), length-append (first_parts (n + i)) (bytes (f (n + i))))

  -- the next part has room where all of them have
  pub parts_room : (i n from to len : ℕ) → i < n → from + length (first_parts n) ≤ len → to ≡ from + length (first_parts i) → to + length (bytes (f i)) ≤ len
  parts_room i n from to len h r e =
      let d : n - (i + 1) + (i + 1) ≡ n = omega arith in
      omega (
        arith,
        ap length (parts_next i),
        length-append (first_parts i) (bytes (f i)),
        parts_more (i + 1) (n - (i + 1)),
        ap (λ (m : ℕ). length (first_parts m)) d,
      )

  pub parts_wrote : (l m o : List ℕ) (from to to' i : ℕ) → BytesWritten l m from (first_parts i) to → BytesWritten m o to (bytes (f i)) to' → BytesWritten l o from (first_parts (i + 1)) to'
  parts_wrote l m o from to to' i p q =
      wrote-is l o from to' (first_parts i ++ bytes (f i)) (first_parts (i + 1)) (sym (parts_next i)) (wrote_then l m o from to to' (first_parts i) (bytes (f i)) p q)

pub wrote_three : (l o : List ℕ) (from x y z : ℕ) (rest : List ℕ) (to : ℕ) → BytesWritten (set (set (set l from x) (from + 1) y) (from + 2) z) o (from + 3) rest to
    → BytesWritten l o from (x ∷ y ∷ z ∷ rest) to
wrote_three l o from x y z rest to h =
    record {
      is = h.is ∙ cc (add-one from, add-two from, add-three from);
      end = omega (arith, h.end);
    }

pub wrote_two : (l o : List ℕ) (from x y : ℕ) (rest : List ℕ) (to : ℕ) → BytesWritten (set (set l from x) (from + 1) y) o (from + 2) rest to
    → BytesWritten l o from (x ∷ y ∷ rest) to
wrote_two l o from x y rest to h = record { is = h.is ∙ cc (add-one from, add-two from); end = omega (arith, h.end) }

-- one more part is measured
pub parts_measured : {A : Type 0} (bytes : A → List ℕ) (f : ℕ → A) (i total n : ℕ) → total ≡ length (first_parts bytes f i) → n ≡ length (bytes (f i))
    → total + n ≡ length (first_parts bytes f (i + 1))
parts_measured bytes f i total n e h = omega (arith, ap length (parts_next bytes f i), length-append (first_parts bytes f i) (bytes (f i)))

pub step-long : (g : Grid) (W : List ℕ) (r a n : ℕ) → n ≡ at g W r a OUTPUT → 3 + 2 * n ≡ length (step_bytes (step_in g W r a))
step-long g W r a n e = omega (arith, tagged-length 0x34 (word g W r a OUTPUT), word-length g W r a 1)

pub row_long : (g : Grid) (W : List ℕ) (r n m : ℕ) → n ≡ at g W r g.tags FINAL → m ≡ length (joined step_bytes (steps_in g W r))
    → 2 + 2 * n + m ≡ length (row_bytes (row_in g W r))
row_long g W r n m e h =
    let final = tagged 0x32 (word g W r g.tags FINAL) in
    omega (
      arith,
      tagged-length 0x32 (word g W r g.tags FINAL),
      word-length g W r g.tags FINAL,
      length-append final (joined step_bytes (steps_in g W r)),
    )

pub table-long : (g : Grid) (W : List ℕ) (base n m : ℕ) → m ≡ length (joined row_bytes (rows_in g W base n)) → m + 5 ≡ length (encode g.tags (rows_in g W base n))
table-long g W base n m e = omega (arith, length-append (joined row_bytes (rows_in g W base n)) (0 ∷ []))

-- an entry of a word's cell is within the slice
pub inner_in : (g : Grid) (W : List ℕ) (r c s : ℕ) → Inner g W r c s → In g r c s
inner_in g W r c s h = record { row = h.row; cell = h.cell; entry = omega (arith, h.inside) }

-- four bytes, a part after them, and 00
pub wrote-head : (l o : List ℕ) (w x y z : ℕ) (rest : List ℕ) (to : ℕ) → BytesWritten (set (set (set (set l 0 w) 1 x) 2 y) 3 z) o 4 rest to
    → BytesWritten l (set o to 0) 0 (w ∷ x ∷ y ∷ z ∷ (rest ++ (0 ∷ []))) (to + 1)
wrote-head l o w x y z rest to h =
    let b : BytesWritten l o 0 (w ∷ x ∷ y ∷ z ∷ rest) to = record { is = h.is; end = omega (arith, h.end) } in
    wrote_then l o (set o to 0) 0 to (to + 1) (w ∷ x ∷ y ∷ z ∷ rest) (0 ∷ []) b (record { is = refl; end = refl })

pub encode-is : (g : Grid) (W : List ℕ) (base n k h l : ℕ) → k ≡ g.tags → h ≡ n / 0x100 → l ≡ n % 0x100
    → 0x30 ∷ k ∷ h ∷ l ∷ (joined row_bytes (rows_in g W base n) ++ (0 ∷ [])) ≡ encode g.tags (rows_in g W base n)
encode-is g W base n k h l e f d =
    let long = length-tabulate n 0 (λ q. row_in g W (base + q)) in
    let high_is : h ≡ length (rows_in g W base n) / 0x100 = f ∙ ap (λ (m : ℕ). m / 0x100) (sym long) in
    let low-is : l ≡ length (rows_in g W base n) % 0x100 = d ∙ ap (λ (m : ℕ). m % 0x100) (sym long) in
    four e high_is low-is
  where
    four : {x y z : ℕ} → k ≡ x → h ≡ y → l ≡ z
        → 0x30 ∷ k ∷ h ∷ l ∷ (joined row_bytes (rows_in g W base n) ++ (0 ∷ [])) ≡ 0x30 ∷ x ∷ y ∷ z ∷ (joined row_bytes (rows_in g W base n) ++ (0 ∷ []))
    four p q r = cc

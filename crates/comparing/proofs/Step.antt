-- One step of both tables.
use Prim.Native.Nat.{ℕ, ◌+◌, ◌*◌, ◌-◌, ◌≤◌, ◌<◌}
use native.Mathlib.Omega.{arith}
use mathlib.Core.Path.{◌≡◌, sym, ap, ◌∙◌, subst}
use mathlib.Core.Bool.{Bool, false}
use mathlib.Core.List.{List, [], ◌∷◌, ◌++◌}
use lib.ListN.{length, take, get_or, length-append}
use lib.Seq.{length-take-le, paste}
use Rattle.words.specs.Decides.{Decides}
use Rattle.words.proofs.Decides.{decides_no}
use Rattle.transducers.specs.Transducer.{Shape, puts}
use Rattle.transducers.specs.Table.{Table, shape}
use Rattle.agreement.specs.Search.{ahead, StepAgrees}
use Rattle.steps.specs.Entry.{place_of, count_of, base_of, TagsAt, FinalEntry, EntryOf}
use Rattle.steps.proofs.Places.{row_inside}
use Rattle.workspace.specs.declared.Grid.{Grid}
use Rattle.workspace.specs.Entries.{FINAL}
use Rattle.workspace.specs.Cells.{at, word}
use Rattle.workspace.specs.Holds.{standing}
use Rattle.workspace.proofs.Views.{in_table}
use Rattle.transduction.specs.Parts.{WordPut}
use Rattle.comparing.specs.Step.{Indexed, Comparable, FrontPut, StepPuts, Puttable, LeftPut, RightPut}
use Rattle.comparing.proofs.Rows.{final-count, final-put}
use Rattle.comparing.proofs.Words.{put_front, put_whole, put_then, front-stands}

-- ---- the words of an entry of the first table

-- the entry of the final word comes before its state's steps
entry-after : {bs ix w f : List ℕ} {e : ℕ} (s : StepPuts bs ix e w f) (base : ℕ) → base ≡ base_of e → FinalEntry bs f (get_or ix (base - 1) 0)
entry-after s base b = let there : base - 1 ≡ s.cell = omega (arith, s.output.base_is) in rw there s.final

-- what they need to be put
module _ {bs ix out : List ℕ} {e from : ℕ} (p : Puttable bs ix e out from) where
  size : count_of e ≡ length p.w
  size = omega (arith, p.puts.output.count_is, p.puts.short)

  pub output-place : (count_of e ≡ 1 → ⊥) → place_of e + 2 * count_of e ≤ length bs + 1
  output-place more = omega (arith, (p.puts.output.stands (λ one. more (size ∙ one))).inside, size)

  pub output-room : from + count_of e ≤ length out
  output-room = omega (arith, p.room, size)

  pub final-room :
      (mid : List ℕ) (to base place count : ℕ)
      → ((b : ℕ) (w : List ℕ) → EntryOf bs b w e → length w < 0xff → WordPut out mid from w to)
      → base ≡ base_of e
      → place ≡ place_of (get_or ix (base - 1) 0)
      → count ≡ count_of (get_or ix (base - 1) 0)
      → (place + 2 * count ≤ length bs + 1) × (to + count ≤ length out)
  final-room mid to base place count put b pl c =
      let entry = entry-after p.puts base b in
      let end = (put (p.puts.cell + 1) p.w p.puts.output p.puts.short).end in
      (omega (arith, entry.stands.inside, entry.count_is), omega (arith, end, entry.count_is, p.room))

-- both words have been put
pub step-put :
    (bs ix out mid last w f : List ℕ) (e from to base place count : ℕ)
    → StepPuts bs ix e w f
    → to + count ≤ length mid
    → WordPut out mid from w to
    → base ≡ base_of e
    → place ≡ place_of (get_or ix (base - 1) 0)
    → count ≡ count_of (get_or ix (base - 1) 0)
    → ((u : List ℕ) → length u ≡ count → TagsAt bs place u → last ≡ paste mid to u count)
    → FrontPut out last from (w ++ f) (to + count)
step-put bs ix out mid last w f e from to base place count s room put b pl c end =
    let entry = entry-after s base b in
    let n : length f ≡ count = omega (arith, entry.count_is) in
    put_then out mid from last w f to (to + count) (record { end = put.end; is = put.front })
    (put_whole mid last to f count (sym n) (omega arith) (end f n (rw pl entry.stands)))

-- ---- a step

module _ {bs ix : List ℕ} {g : Grid} {W : List ℕ} {n p q a : ℕ} {out : List ℕ} (c : Comparable bs ix g W n p q a out) where
  abbrev S : Shape
  S = shape c.table

  abbrev T : Shape
  T = standing g W 0 n

  -- the same of another table whose index it is, and of another buffer
  abbrev pub of_table : (t : Table) → Indexed g.tags t bs ix → p < length t → Comparable bs ix g W n p q a out
  of_table t i h =
      record {
        table = t;
        indexed = i;
        ready = c.ready;
        held = c.held;
        few_tags = c.few_tags;
        left = h;
        right = c.right;
        tag = c.tag;
        room = c.room;
      }

  pub of_buffer : (other : List ℕ) → length other ≡ length out → Comparable bs ix g W n p q a other
  of_buffer other long =
      record {
        table = c.table;
        indexed = c.indexed;
        ready = c.ready;
        held = c.held;
        few_tags = c.few_tags;
        left = c.left;
        right = c.right;
        tag = c.tag;
        room = omega (arith, c.room);
      }

  inside : p * (g.tags + 1) + g.tags < length ix
  inside = row_inside p (length c.table) g.tags (length ix) c.left c.indexed.room

  pub final-inside : p * (g.tags + 1) + 0 < length ix
  final-inside = omega (arith, inside)

  pub step-inside : p * (g.tags + 1) + (a + 1) < length ix
  step-inside = omega (arith, inside, c.tag)

  left-held : length (S.final p) ≤ 112
  left-held = c.indexed.held p c.left

  right-held : length (T.final q) ≤ 112
  right-held = c.held q (in_table g W 0 n c.ready q c.right)

  left_balance : length (S.output p a) + length (S.final (S.next p a)) ≡ length (S.final p) + 1
  left_balance = c.indexed.sound.balanced p a c.left c.tag

  right_balance : length (T.output q a) + length (T.final (T.next q a)) ≡ length (T.final q) + 1
  right_balance = c.ready.sound.balanced q a (in_table g W 0 n c.ready q c.right) c.tag

  final-entry : (e : ℕ) → e ≡ get_or ix (p * (g.tags + 1) + 0) 0 → FinalEntry bs (S.final p) e
  final-entry e i =
      let at-cell : p * (g.tags + 1) + 0 ≡ p * (g.tags + 1) = omega arith in
      rw (i, at-cell) (c.indexed.cells p c.left).final

  step-puts : (e : ℕ) → e ≡ get_or ix (p * (g.tags + 1) + (a + 1)) 0 → StepPuts bs ix e (S.output p a) (S.final (S.next p a))
  step-puts e i =
      let at-cell : p * (g.tags + 1) + (a + 1) ≡ p * (g.tags + 1) + 1 + a = omega arith in
      let next = S.next p a in
      let low : next < length c.table = c.indexed.sound.next_below p a c.left c.tag in
      record {
        cell = next * (g.tags + 1);
        inside = omega (arith, row_inside next (length c.table) g.tags (length ix) low c.indexed.room);
        output = rw (i, at-cell) ((c.indexed.cells p c.left).steps a c.tag);
        short = omega (arith, left_balance, left-held);
        final = (c.indexed.cells next low).final;
      }

  -- the final words' entries tell how much one holds more than the other
  module _ (e l m : ℕ) (i : e ≡ get_or ix (p * (g.tags + 1) + 0) 0) (sized : l ≡ count_of e) (held : m ≡ at g W q g.tags FINAL) where
    left-size : l ≡ length (S.final p)
    left-size = sized ∙ (final-entry e i).count_is

    right-size : m ≡ length (T.final q)
    right-size = held ∙ final-count c.ready c.few_tags q c.right

    -- the first table's words
    module _ (more : ℕ) (is : more ≡ m - l) where
      pub left-room : more ≤ length out
      left-room = omega (arith, right-size, right-held, c.room)

      pub left_puttable : (e' : ℕ) (mid : List ℕ) → e' ≡ get_or ix (p * (g.tags + 1) + (a + 1)) 0 → length mid ≡ length out → Puttable bs ix e' mid more
      left_puttable e' mid j long =
          record {
            w = S.output p a;
            f = S.final (S.next p a);
            puts = step-puts e' j;
            some = omega (arith, right-size, right-held, c.room);
            room = omega (arith, right-size, right-held, left-size, left-held, left_balance, c.room);
          }

      pub left-put :
          (mid last : List ℕ) (e' to : ℕ)
          → e' ≡ get_or ix (p * (g.tags + 1) + (a + 1)) 0
          → length last ≡ length out
          → mid ≡ paste out 0 (word g W q g.tags FINAL) more
          → ((w f : List ℕ) → StepPuts bs ix e' w f → FrontPut mid last more (w ++ f) to)
          → LeftPut S T p q a last to
      left-put mid last e' to j long first second =
          let size : more ≡ length (T.final q) - length (S.final p) = omega (arith, right-size, left-size) in
          let part = final-put c.ready c.few_tags q c.right out mid more (omega (arith, right-size)) first in
          let front : FrontPut out mid 0 (ahead (S.final p) (T.final q)) more = subst (λ (m : ℕ). FrontPut out mid 0 (take m (T.final q)) more) size part in
          let then = second (S.output p a) (S.final (S.next p a)) (step-puts e' j) in
          let both = length-append (S.output p a) (S.final (S.next p a)) in
          let all = put_then out mid 0 last (ahead (S.final p) (T.final q)) (puts S p (a ∷ [])) more to front then in
          record { inside = omega (arith, then.end, both, right-size, right-held, left-size, left-held, left_balance, c.room); is = all.is }

    -- the second table's
    module _ (more : ℕ) (is : more ≡ l - m) where
      pub right-place : (place : ℕ) → place ≡ place_of e → place + 2 * more ≤ length bs + 1
      right-place place pl = omega (arith, (final-entry e i).stands.inside, left-size)

      both_long : length (puts T q (a ∷ [])) ≡ length (T.final q) + 1
      both_long = length-append (T.output q a) (T.final (T.next q a)) ∙ right_balance

      pub right-room : more + length (puts T q (a ∷ [])) ≤ length out
      right-room = omega (arith, both_long, right-size, right-held, left-size, left-held, c.room)

      pub right-put :
          (mid last : List ℕ) (place to : ℕ)
          → place ≡ place_of e
          → length last ≡ length out
          → ((w : List ℕ) → length w ≡ more → TagsAt bs place w → mid ≡ paste out 0 w more)
          → FrontPut mid last more (puts T q (a ∷ [])) to
          → RightPut S T p q a last to
      right-put mid last place to pl long first second =
          let size : more ≡ length (S.final p) - length (T.final q) = omega (arith, right-size, left-size) in
          let w = ahead (T.final q) (S.final p) in
          let n : length w ≡ more = omega (arith, length-take-le (length (S.final p) - length (T.final q)) (S.final p) (omega arith)) in
          let stands : TagsAt bs place w = rw pl (front-stands bs (S.final p) (place_of e) (length (S.final p) - length (T.final q)) (omega arith) (final-entry e i).stands) in
          let front = put_front out mid w more (sym n) (first w n stands) in
          let all = put_then out mid 0 last w (puts T q (a ∷ [])) more to front second in
          record { inside = omega (arith, second.end, right-room); is = all.is }

-- ---- the comparison

module _ (S T : Shape) (p q a : ℕ) (left right : List ℕ) (m n : ℕ) (l : LeftPut S T p q a left m) (r : RightPut S T p q a right n) where
  -- words that are not equally long
  pub step-apart : (m ≡ n → ⊥) → Decides false (StepAgrees S T p q a)
  step-apart apart =
      decides_no (StepAgrees S T p q a)
      (λ same. apart (sym (length-take-le m left l.inside) ∙ ap length (l.is ∙ same ∙ sym r.is) ∙ length-take-le n right r.inside))

  pub step_decided : (b : Bool) → m ≡ n → Decides b (take m left ≡ take m right) → Decides b (StepAgrees S T p q a)
  step_decided b e d =
      let there : take m right ≡ ahead (T.final q) (S.final p) ++ puts T q (a ∷ []) = rw e r.is in
      record {
        so = λ yes. sym l.is ∙ d.so yes ∙ there;
        not = λ no same. d.not no (l.is ∙ same ∙ sym there);
      }

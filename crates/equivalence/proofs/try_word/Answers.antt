use Prim.Native.Nat.{ℕ, ◌+◌, ◌*◌, ◌≤◌, ◌<◌}
use native.Mathlib.Omega.{arith}
use mathlib.Core.Path.{◌≡◌, refl}
use mathlib.Core.List.{List}
use lib.ListN.{length}
use Rattle.agreement.specs.Stored.{left_at, right_at}
use Rattle.workspace.specs.Holds.{standing}
use Rattle.equivalence.specs.Tables.{table_in, given}
use Rattle.equivalence.specs.Search.{Followed}
use Rattle.equivalence.proofs.Tables.{few, bound, left-low, right-low, comparable}
use Rattle.equivalence.proofs.Trying.{tried_differs, tried_all}
use Rattle.equivalence.proofs.try_word.Goals as goal
use Rattle.equivalence.proofs.try_word.Goals.{Start}

-- the word's numbers and states are in their ranges
module _ (st : Start) where
  abbrev Tried : ℕ → List ℕ → List ℕ → ℕ → Type 0
  Tried a labels pairs n = Followed st.args.both.grid.tags (given st.args.both.lim st.args.both.table.now) (standing st.args.both.grid st.args.both.work.now 0 st.args.both.rows) st.args.both.states st.args.both.rows st.args.i a labels pairs n

  word_in : {a : ℕ} {labels : List ℕ} (pairs : List ℕ) {n : ℕ} → Tried a labels pairs n → (st.args.i < 512) × (4 * st.args.i + 4 ≤ length pairs)
  word_in pairs f =
      let b = bound st.requires.tables.0 f.searching in
      (omega (arith, b, few st.requires.tables.0, f.inside), omega (arith, b, f.inside, f.stored.pairs_long))

  left-at : {a : ℕ} (labels pairs : List ℕ) {n : ℕ} → Tried a labels pairs n → (p : ℕ) → p ≡ left_at pairs st.args.i → p < length (table_in st.args.both.lim st.args.both.table.now)
  left-at labels pairs f p e = omega (arith, e, left-low st.requires.tables.0 f.searching st.args.i f.inside)

  right-at : {a : ℕ} (labels pairs : List ℕ) {n : ℕ} → Tried a labels pairs n → (q : ℕ) → q ≡ right_at pairs st.args.i → q < st.args.both.rows
  right-at labels pairs f q e = omega (arith, e, right-low st.requires.tables.0 f.searching st.args.i f.inside)

pub left_of-p-requires : goal.left_of-p-requires
left_of-p-requires c = word_in (goal.at.left_of-p-requires c).Start _ c.loop-a.invariant.0

pub right_of-q-requires : goal.right_of-q-requires
right_of-q-requires c = word_in (goal.at.right_of-q-requires c).Start _ c.loop-a.invariant.0

pub step_agrees-agrees-requires-clause-comparable : goal.step_agrees-agrees-requires-clause-comparable
step_agrees-agrees-requires-clause-comparable c = let l = c.loop-a in comparable c.requires.tables.0 _ _ l.a (left-at (goal.at.step_agrees-agrees-requires-clause-comparable c).Start _ _ l.invariant.0 _ c.left_of-p.ensures) (right-at (goal.at.step_agrees-agrees-requires-clause-comparable c).Start _ _ l.invariant.0 _ c.right_of-q.ensures) (omega arith) l.one l.invariant.1.room

pub returns-then-not-agrees : goal.returns-then-not-agrees
returns-then-not-agrees c = let l = c.loop-a in
    let p = c.left_of-p in
    let q = c.right_of-q in
    let u = c.step_agrees-agrees in
    let decides = u.ensures (table_in c.args.both.lim c.args.both.table.now) c.requires.tables.0.indexed (left-at (goal.at.returns-then-not-agrees c).Start _ _ l.invariant.0 _ p.ensures) in
    (refl, tried_differs c.requires.tables.0 l.invariant.0 (omega arith) p.result q.result p.ensures q.ensures (decides.not (c.if-not-agrees.true)))

pub follow-count-requires-clause-p_value : goal.follow-count-requires-clause-p_value
follow-count-requires-clause-p_value c = let l = c.loop-a in
    let p = c.left_of-p in
    let q = c.right_of-q in
    let u = c.step_agrees-agrees in
    let decides = u.ensures (table_in c.args.both.lim c.args.both.table.now) c.requires.tables.0.indexed (left-at (goal.at.follow-count-requires-clause-p_value c).Start _ _ l.invariant.0 _ p.ensures) in (p.ensures, q.ensures, decides.so (c.if-not-agrees.false))

pub returns : goal.returns
returns c = let l = c.loop-a in
    tried_all c.requires.tables.0 l.invariant.0 (omega arith)

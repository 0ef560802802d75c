use Prim.Native.Nat.{◌<◌}
use native.Mathlib.Omega.{arith}
use borrow.Author.Rules.{rules}
use mathlib.Core.Path.{refl}
use lib.ListN.{length}
use Rattle.transduction.proofs.Turn.{going_start, turn_inside, turn_cell, turn_short, turn_place, turn_room, turn_count, turn_next, end-inside, end_base, end-place, end-count, end-made}
use Rattle.transduction.proofs.transduce.Goals as goal

pub loop-tag-init : goal.loop-tag-init
loop-tag-init c = let a = c.args in
    λ lim p. going_start a.table.now a.index.now a.sentence.now a.out.now p

pub entry_at-e-requires : goal.entry_at-e-requires
entry_at-e-requires c = let g = c.loop-tag.invariant c.args.lim c.requires in
    turn_inside g (omega arith)

pub put-at-requires : goal.put-at-requires
put-at-requires c = let g = c.loop-tag.invariant c.args.lim c.requires in
    let e = c.entry_at-e in (
      turn_place g (omega arith) e.result e.ensures,
      turn_room g (omega arith) e.result e.ensures,
      turn_count g (omega arith) e.result e.ensures,
    )

pub loop-tag-preserved : goal.loop-tag-preserved
loop-tag-preserved c = let a = c.args in
    let e = c.entry_at-e in
    let h : c.loop-tag.tag-index < length a.sentence.now = omega arith in
    λ lim p.
    let g = c.loop-tag.invariant lim p in
    let put =
    c.put-at.ensures _ _ (turn_cell g h e.result e.ensures) (turn_short g h e.result e.ensures) in
    turn_next g h e.result e.ensures c.put-at.new.out c.put-at.result put
    c.base_of-base.result
    c.base_of-base.ensures
    (search rules)

pub overflow_sub-e : goal.overflow_sub-e
overflow_sub-e c = let g = c.loop-tag.invariant c.args.lim c.requires in
    omega (arith, end_base g (omega arith))

pub offset_bounds-index-base : goal.offset_bounds-index-base
offset_bounds-index-base c = let g = c.loop-tag.invariant c.args.lim c.requires in
    omega (arith, end-inside g (omega arith))

pub bounds-index-base : goal.bounds-index-base
bounds-index-base c = let g = c.loop-tag.invariant c.args.lim c.requires in
    omega (arith, end-inside g (omega arith))

pub put_word-requires : goal.put_word-requires
put_word-requires c = let g = c.loop-tag.invariant c.args.lim c.requires in (
  omega (arith, end-place g (omega arith) _ refl),
  omega (arith, end-count g (omega arith) _ refl),
)

pub returns : goal.returns
returns c = let g = c.loop-tag.invariant c.args.lim c.requires in
    end-made g (omega arith) _ refl c.place_of.result c.count_of.result c.put_word.new.out (search rules) (search rules) c.put_word.ensures

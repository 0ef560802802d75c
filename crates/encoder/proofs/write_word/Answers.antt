use Prim.Native.Nat.{ℕ}
use native.Mathlib.Omega.{arith}
use mathlib.Core.Path.{◌≡◌, refl, sym, ◌∙◌}
use mathlib.Core.List.{List}
use lib.ListN.{length, length-set}
use Rattle.workspace.specs.Cells.{at, word}
use Rattle.workspace.proofs.Words.{word-length}
use Rattle.encoder.proofs.Encoding.{tagged-next, tagged-all, tagged-length, wrote_none, tag_got}
use Rattle.encoder.proofs.write_word.Goals as goal
use Rattle.encoder.proofs.write_word.Goals.{Start}

abbrev w : Start → List ℕ
w c = word c.args.g c.args.work.now c.args.r c.args.c c.args.s

-- the word's length
count : (st : Start) (n : ℕ) → n ≡ at st.args.g st.args.work.now st.args.r st.args.c st.args.s → n ≡ length (w st)
count c n e = e ∙ sym (word-length c.args.g c.args.work.now c.args.r c.args.c c.args.s)

pub loop-i-init : goal.loop-i-init
loop-i-init c = (
  refl,
  omega arith,
  omega (arith, tagged-length c.args.command (w (goal.at.loop-i-init c).Start), count (goal.at.loop-i-init c).Start c.get-n.result c.get-n.ensures.is, c.requires.s_in_bounds),
  wrote_none c.args.out.now c.args.from,
)

pub byte-requires : goal.byte-requires
byte-requires c = let l = c.loop-i in
    (tag_got c.args.g c.args.work.now c.args.r c.args.c c.args.s l.i c.get-tag.result c.requires.bytes (omega (arith, c.get-n.ensures.is)) c.get-tag.ensures).1

pub loop-i-preserved : goal.loop-i-preserved
loop-i-preserved c = let l = c.loop-i in
    let got = tag_got c.args.g c.args.work.now c.args.r c.args.c c.args.s l.i c.get-tag.result c.requires.bytes (omega (arith, c.get-n.ensures.is)) c.get-tag.ensures in (
      simp length-set (omega arith),
      omega arith,
      l.invariant.2,
      tagged-next c.args.out.now l.out c.args.from l.to c.args.command (w (goal.at.loop-i-preserved c).Start) l.i c.byte.result
          (omega (arith, count (goal.at.loop-i-preserved c).Start c.get-n.result c.get-n.ensures.is)) (c.byte.ensures ∙ got.0) l.invariant.3,
    )

pub returns : goal.returns
returns c = let l = c.loop-i in
    tagged-all c.args.out.now l.out c.args.from l.to c.args.command (w (goal.at.returns c).Start) l.i
    (omega (arith, count (goal.at.returns c).Start c.get-n.result c.get-n.ensures.is)) l.invariant.3

use native.Mathlib.Omega.{arith}
use Prim.Native.Nat.{ℕ}
use mathlib.Core.List.{append-nil}
use lib.ListN.{length-append, length-take}
use Rattle.workspace.proofs.Words.{word-length, written_same}
use Rattle.outputs.proofs.push_all.Goals as goal

pub loop-tag-init : goal.loop-tag-init
loop-tag-init c = let a = c.args in rw append-nil (written_same a.g a.work.now a.r a.c a.s)

pub push-requires-clause-fact : goal.push-requires-clause-fact
push-requires-clause-fact c =
    let a = c.args in
    omega (arith, c.loop-tag.invariant.size, word-length a.g a.work.now a.r a.c a.s, length-append {A = ℕ}, length-take {A = ℕ})

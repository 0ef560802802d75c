use Prim.Native.Nat.{◌*◌}
use Rattle.compose.specs.Products.{product_in}
use Rattle.compose.specs.Pairs.{StepsPaired}
use Rattle.compose.proofs.Pairing.steps.Given as goal

abbrev pub invariant-loop-a : goal.invariant-loop-a
invariant-loop-a l = StepsPaired l.g l.initial.work l.work l.self.base (l.self.n * l.self.m) l.len l.i l.s (product_in l.g l.initial.work l.self) l.a l.to

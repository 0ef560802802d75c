use native.Mathlib.Omega.{arith}
use lib.ListN.{length, get_or}
use Rattle.cascades.specs.Value.{kind_of}
use Rattle.minimal.proofs.Bits.{state-below}
use Rattle.alive.proofs.Alive.{stepped-below}
use Rattle.onerule.proofs.BitsStates.step.Goals as goal

pub leads-to-requires : goal.leads-to-requires
leads-to-requires c = let a = c.args in
    let s = c.requires.serves in
    let n = length a.pattern.tags.now in
    let mask = get_or a.self.now.masks.now a.a 0 in (
      s.some,
      s.short,
      state-below (kind_of a.self.now.everywhere) n a.q s.some c.requires.q_in.0,
      omega (arith, c.step-then.ensures, stepped-below n a.q mask (s.narrow.below a.a c.requires.q_in.2)),
    )

use Prim.Native.Nat.{ℕ, ◌≤◌, ◌<◌, ◌^◌}
use native.Mathlib.Omega.{arith}
use native.Mathlib.Nat.{pow-le-pow_right}
use Rattle.commands.proofs.read_set.Goals as goal

few : (i : ℕ) → i < 6 → 0x100 ^ i ≤ 0x100 ^ 5
few i h = pow-le-pow_right {n = 0x100} (omega arith) {i = i} {j = 5} (omega arith)

pub overflow_mul-set : goal.overflow_mul-set
overflow_mul-set c =
    let l = c.loop-i in omega (arith, l.invariant.1, few l.i (omega arith))

pub overflow_add-set : goal.overflow_add-set
overflow_add-set c =
    let l = c.loop-i in omega (arith, l.invariant.1, few l.i (omega arith), c.set_byte.ensures.1)

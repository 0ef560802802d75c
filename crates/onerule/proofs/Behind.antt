-- The row of the longest border stands before the state that goes by it.
use Prim.Native.Nat.{ℕ, ◌+◌, ◌<◌}
use native.Mathlib.Omega.{arith}
use mathlib.Core.Path.{◌≡◌, ap, ◌∙◌}
use mathlib.Core.List.{List}
use Rattle.borders.specs.Border.{border}
use Rattle.borders.proofs.Border.{border_le, border-below}
use Rattle.workspace.specs.declared.Grid.{Grid}
use Rattle.matcher.specs.Next.{goes, Behind}
use Rattle.matcher.proofs.Next.{restarts-back}
use Rattle.onerule.specs.States.{Before, in_lengths, ByLengths}

module _ (g : Grid) (W bs u : List ℕ) (base n e j b : ℕ) (by : ByLengths n bs u e) (h : j < n) (is : b ≡ border u j) where
  pub border_before : b < j + 1
  border_before = omega (arith, is, border_le u j (omega (arith, h, by.few)))

  pub behind_before : base + j < g.rows → Before g W base (in_lengths n u e) j → Behind g W (base + b) u j
  behind_before room before =
      record {
        inside = omega (arith, border_before);
        next_is = λ some l a ha.
            let lower = border-below u j some (omega (arith, l)) in
            before.next_is b a (omega (arith, is)) ha ∙ restarts-back u n e by.most by.free b a (omega (arith, is)) ∙ ap (λ (q : ℕ). goes u q a) is;
      }

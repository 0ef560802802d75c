-- A test decides P.
use Rattle.std.specs.Prelude.{◌≡◌, Bool, true, false}

pub record Decides (b : Bool) (P : Type 0) : Type 0 where
  pub so : b ≡ true → P
  pub not : b ≡ false → P → ⊥

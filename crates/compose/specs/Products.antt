-- Two transducers and the rows for their pairs of states, as one value of the code.
use Rattle.std.specs.Prelude.{ℕ, List}
use Rattle.transducers.specs.Transducer.{Shape}
use Rattle.transducers.specs.Compose.{product}
use Rattle.workspace.specs.declared.Grid.{Grid}
use Rattle.workspace.specs.Holds.{standing}
use Rattle.compose.specs.declared.Pairing.{Pairing}
use Rattle.compose.specs.Composed.{Composable}

abbrev pub Pairable : Grid → List ℕ → Pairing → Type 0
Pairable g W p = Composable g W p.first p.n p.second p.m p.base

-- what the second makes of what the first does
abbrev pub product_in : Grid → List ℕ → Pairing → Shape
product_in g W p = product (standing g W p.first p.n) (standing g W p.second p.m)

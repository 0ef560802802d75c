-- The fronts of the states: the first entry of a row's last cell is how much of its final word.
use Rattle.std.specs.Prelude.{ℕ, ◌+◌, ◌≤◌, ◌<◌, ◌≡◌, Bool, true, false, List, ◌++◌, length, take}
use Rattle.words.specs.Word.{Prefix}
use Rattle.transducers.specs.Normalize.{Above}
use Rattle.workspace.specs.declared.Grid.{Grid}
use Rattle.workspace.specs.Entries.{FRONT}
use Rattle.workspace.specs.Cells.{at, Kept, Spare}
use Rattle.workspace.specs.Holds.{Ready, standing}

abbrev pub front_size : Grid → List ℕ → ℕ → ℕ → ℕ
front_size g W base q = at g W (base + q) g.tags FRONT

abbrev pub front_at : Grid → List ℕ → ℕ → ℕ → ℕ → List ℕ
front_at g W base n q = take (front_size g W base q) ((standing g W base n).final q)

-- n rows hold a transducer, and each front is a part of the final word
pub record Fronted (g : Grid) (W : List ℕ) (base n : ℕ) : Type 0 where
  pub ready : Ready g W base n
  pub fronts : (q : ℕ) → q < n → front_size g W base q ≤ length ((standing g W base n).final q)

-- the front of q is put out by the step on a and the front after it
abbrev pub Rests : Grid → List ℕ → ℕ → ℕ → ℕ → ℕ → Type 0
Rests g W base n q a = Prefix (front_at g W base n q) ((standing g W base n).output q a ++ front_at g W base n ((standing g W base n).next q a))

-- fronts were lowered, and not too much
pub record Lowered (g : Grid) (W X : List ℕ) (base n : ℕ) : Type 0 where
  pub kept : Kept g W X (Spare g base (base + n) FRONT (FRONT + 1))
  pub less : (q : ℕ) → q < n → front_size g X base q ≤ front_size g W base q
  pub above : Above g.tags (standing g W base n) (front_at g W base n) → Above g.tags (standing g X base n) (front_at g X base n)

pub record Lesser (g : Grid) (W X : List ℕ) (base n : ℕ) : Type 0 where
  pub state : ℕ
  pub below : state < n
  pub less : front_size g X base state < front_size g W base state

-- some front fell, or nothing was written and P holds
pub record Turn (g : Grid) (W X : List ℕ) (base n : ℕ) (P : Type 0) (fell : Bool) : Type 0 where
  pub lowered : Lowered g W X base n
  pub falls : fell ≡ true → Lesser g W X base n
  pub rests : fell ≡ false → (X ≡ W) × P

-- nothing is left to lower
pub record Settled (g : Grid) (W X : List ℕ) (base n : ℕ) : Type 0 where
  pub lowered : Lowered g W X base n
  pub rests : (q a : ℕ) → q < n → a < g.tags → Rests g X base n q a

-- the fronts are the final words
pub record Started (g : Grid) (W X : List ℕ) (base n : ℕ) : Type 0 where
  pub kept : Kept g W X (Spare g base (base + n) FRONT (FRONT + 1))
  pub whole : (q : ℕ) → q < n → front_size g X base q ≡ length ((standing g W base n).final q)

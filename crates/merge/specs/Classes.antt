-- The classes of the states: entries of their rows' last cells.
use Rattle.std.specs.Prelude.{ℕ, ◌+◌, ◌≤◌, ◌<◌, ◌≡◌, ◌⊎◌, Bool, true, false, List, Result, Ok, Err}
use Rattle.transducers.specs.Transducer.{puts}
use Rattle.transducers.specs.Canonical.{Same, Early}
use Rattle.transducers.specs.Merge.{class, classes}
use Rattle.workspace.specs.declared.Grid.{Grid}
use Rattle.workspace.specs.Entries.{CLASS, NEW, LINK}
use Rattle.workspace.specs.Cells.{at, Kept, Spare}
use Rattle.workspace.specs.Holds.{Ready, table_at, standing}

-- the class so far, the new one, and the name that follows a name within its old class
abbrev pub class_of : Grid → List ℕ → ℕ → ℕ → ℕ
class_of g W base q = at g W (base + q) g.tags CLASS

abbrev pub new_of : Grid → List ℕ → ℕ → ℕ → ℕ
new_of g W base q = at g W (base + q) g.tags NEW

abbrev pub link_of : Grid → List ℕ → ℕ → ℕ → ℕ
link_of g W base q = at g W (base + q) g.tags LINK

-- alike by the words put out; alike by the classes of the next states
abbrev pub Words : Grid → List ℕ → ℕ → ℕ → ℕ → ℕ → Type 0
Words g W base n p q =
    ((standing g W base n).final p ≡ (standing g W base n).final q)
    × ((a : ℕ) → a < g.tags → (standing g W base n).output p a ≡ (standing g W base n).output q a)

abbrev pub Nexts : Grid → List ℕ → ℕ → ℕ → ℕ → ℕ → Type 0
Nexts g W base n p q = (a : ℕ) → a < g.tags → class_of g W base ((standing g W base n).next p a) ≡ class_of g W base ((standing g W base n).next q a)

abbrev pub Key : Grid → List ℕ → ℕ → ℕ → Bool → ℕ → ℕ → Type 0
Key g W base n true p q = Words g W base n p q
Key g W base n false p q = Nexts g W base n p q

-- classes are named by members that are no greater, and hold together what puts out the same
pub record Partition (g : Grid) (W : List ℕ) (base n : ℕ) : Type 0 where
  pub ready : Ready g W base n
  pub early : Early g.tags (standing g W base n)
  pub low : (q : ℕ) → q < n → class_of g W base q ≤ q
  pub own : (q : ℕ) → q < n → class_of g W base (class_of g W base q) ≡ class_of g W base q
  pub coarse : (p q : ℕ) → p < n → q < n → Same g.tags (puts (standing g W base n) p) (puts (standing g W base n) q) → class_of g W base p ≡ class_of g W base q

-- q names a new class
abbrev pub Name : Grid → List ℕ → ℕ → ℕ → Type 0
Name g W base q = new_of g W base q ≡ q

-- no name of p's class stands between p and q
abbrev pub Gap : Grid → List ℕ → ℕ → ℕ → ℕ → Type 0
Gap g W base p q = (o : ℕ) → p < o → o < q → Name g W base o → class_of g W base o ≡ class_of g W base p → ⊥

-- the name that follows p, if there is one below i
pub record Follows (g : Grid) (W : List ℕ) (base p i : ℕ) : Type 0 where
  pub above : p < link_of g W base p
  pub below : link_of g W base p < i
  pub name : Name g W base (link_of g W base p)
  pub same : class_of g W base (link_of g W base p) ≡ class_of g W base p
  pub gap : Gap g W base p (link_of g W base p)

-- the states below i have new classes
pub record Parted (g : Grid) (W : List ℕ) (base n : ℕ) (first : Bool) (i : ℕ) : Type 0 where
  pub part : Partition g W base n
  pub low : (q : ℕ) → q < i → new_of g W base q ≤ q
  pub name : (q : ℕ) → q < i → Name g W base (new_of g W base q)
  pub same : (q : ℕ) → q < i → class_of g W base (new_of g W base q) ≡ class_of g W base q
  pub alike : (q : ℕ) → q < i → Key g W base n first (new_of g W base q) q
  pub apart : (p q : ℕ) → p < i → q < i → Name g W base p → Name g W base q → class_of g W base p ≡ class_of g W base q → Key g W base n first p q → p ≡ q
  pub links : (p : ℕ) → p < i → Name g W base p → ((link_of g W base p ≡ 0) × Gap g W base p i) ⊎ Follows g W base p i

-- p is a name of q's class
pub record Naming (g : Grid) (W : List ℕ) (base q p : ℕ) : Type 0 where
  pub below : p < q
  pub name : Name g W base p
  pub same : class_of g W base p ≡ class_of g W base q

-- no name of q's class is alike, and p is the last one
pub record Last (g : Grid) (W : List ℕ) (base n : ℕ) (first : Bool) (q p : ℕ) : Type 0 where
  pub naming : Naming g W base q p
  pub last : link_of g W base p ≡ 0
  pub none : (o : ℕ) → o < q → Name g W base o → class_of g W base o ≡ class_of g W base q → Key g W base n first o q → ⊥

-- a name of q's class that is alike, or the last one where none is
abbrev pub Found : Grid → List ℕ → ℕ → ℕ → Bool → ℕ → Result ℕ ℕ → Type 0
Found g W base n first q (Ok p) = Naming g W base q p × Key g W base n first p q
Found g W base n first q (Err p) = Last g W base n first q p

-- one state more
pub record Placed (g : Grid) (W X : List ℕ) (base n : ℕ) (first : Bool) (i : ℕ) : Type 0 where
  pub kept : Kept g W X (Spare g base (base + n) NEW (LINK + 1))
  pub parted : Parted g X base n first i

-- the new classes are the classes
pub record Taken (g : Grid) (W X : List ℕ) (base n i : ℕ) (changed : Bool) : Type 0 where
  pub kept : Kept g W X (Spare g base (base + n) CLASS (CLASS + 1))
  pub taken : (q : ℕ) → q < i → class_of g X base q ≡ new_of g W base q
  pub still : (q : ℕ) → i ≤ q → class_of g X base q ≡ class_of g W base q
  pub moved : changed ≡ true → (q : ℕ) × (q < i) × (new_of g W base q ≡ class_of g W base q → ⊥)
  pub rests : changed ≡ false → (q : ℕ) → q < i → new_of g W base q ≡ class_of g W base q

-- the classes are those of the definition
pub record Merged (g : Grid) (W X : List ℕ) (base n : ℕ) : Type 0 where
  pub kept : Kept g W X (Spare g base (base + n) CLASS (LINK + 1))
  pub named : (q : ℕ) → q < n → class_of g X base q ≡ class (classes (table_at g W base n)) q

-- q names a new class, and no name follows it
pub record NewName (g : Grid) (W X : List ℕ) (base q : ℕ) : Type 0 where
  pub kept : Kept g W X (Spare g (base + q) (base + q + 1) NEW (LINK + 1))
  pub name : new_of g X base q ≡ q
  pub last : link_of g X base q ≡ 0

-- a round: the classes are split, or rest
pub record Round (g : Grid) (W X : List ℕ) (base n : ℕ) (first changed : Bool) : Type 0 where
  pub kept : Kept g W X (Spare g base (base + n) CLASS (LINK + 1))
  pub part : Partition g X base n
  pub grows : (q : ℕ) → q < n → class_of g W base q ≤ class_of g X base q
  pub within : (q : ℕ) → q < n → class_of g W base (class_of g X base q) ≡ class_of g W base q
  pub alike : (q : ℕ) → q < n → Key g W base n first (class_of g X base q) q
  pub moved : changed ≡ true → (q : ℕ) × (q < n) × (class_of g X base q ≡ class_of g W base q → ⊥)
  pub rests : changed ≡ false → (q : ℕ) → q < n → class_of g X base q ≡ class_of g W base q

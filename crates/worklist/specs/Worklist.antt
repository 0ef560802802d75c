-- A list of numbers below n in the notes of n rows, with a mark for each of its members.
use Rattle.std.specs.Prelude.{ℕ, suc, ◌+◌, ◌-◌, ◌≤◌, ◌<◌, ◌≡◌, List}
use Rattle.transducers.specs.Tabulate.{tabulate}
use Rattle.transducers.specs.Number.{note}
use Rattle.workspace.specs.declared.Grid.{Grid}
use Rattle.workspace.specs.Entries.{MEMBER, MARK, FINAL}
use Rattle.workspace.specs.Cells.{at, Sized, Kept, Spare}

-- the i-th member; one more than the place of s, and 0 if it is not there
abbrev pub member_of : Grid → List ℕ → ℕ → ℕ → ℕ
member_of g W base i = at g W (base + i) g.tags MEMBER

abbrev pub mark_of : Grid → List ℕ → ℕ → ℕ → ℕ
mark_of g W base s = at g W (base + s) g.tags MARK

-- so many members
unfoldable pub listed : Grid → List ℕ → ℕ → ℕ → List ℕ
listed g W base len = tabulate len 0 (member_of g W base)

-- the notes that it takes
abbrev pub ListNotes : Grid → ℕ → ℕ → ℕ → ℕ → ℕ → Type 0
ListNotes g base n r c e = Spare g base (base + n) MEMBER (MARK + 1) r c e

-- the rows are there, and a number below n can be noted
pub record Slots (g : Grid) (W : List ℕ) (base n : ℕ) : Type 0 where
  pub sized : Sized g W
  pub inside : base + n ≤ g.rows
  pub deep : FINAL < g.depth
  pub some : 0 < n
  pub small : n < 0x10000

-- a list of so many members, 0 first; each is marked with its place, and no other number is marked
pub record Worklist (g : Grid) (W : List ℕ) (base n len : ℕ) : Type 0 where
  pub slots : Slots g W base n
  pub some : 0 < len
  pub low : len ≤ n
  pub start : member_of g W base 0 ≡ 0
  pub below : (i : ℕ) → i < len → member_of g W base i < n
  pub marks : (i : ℕ) → i < len → mark_of g W base (member_of g W base i) ≡ suc i
  pub marked : (s : ℕ) → s < n → (mark_of g W base s ≡ 0 → ⊥) → (mark_of g W base s ≤ len) × (member_of g W base (mark_of g W base s - 1) ≡ s)

pub record Begun (g : Grid) (W X : List ℕ) (base n : ℕ) : Type 0 where
  pub kept : Kept g W X (ListNotes g base n)
  pub list : Worklist g X base n 1

-- the list has become longer, and only the region P differs
pub record Grown (P : ℕ → ℕ → ℕ → Type 0) (g : Grid) (W X : List ℕ) (base n len to : ℕ) : Type 0 where
  pub kept : Kept g W X P
  pub list : Worklist g X base n to
  pub more : len ≤ to
  pub old : (i : ℕ) → i < len → member_of g X base i ≡ member_of g W base i

-- s is a member, appended if it was none
pub record Entered (g : Grid) (W X : List ℕ) (base n len s to : ℕ) : Type 0 where
  pub grown : Grown (ListNotes g base n) g W X base n len to
  pub here : mark_of g X base s ≡ 0 → ⊥
  pub noted : listed g X base to ≡ note (listed g W base len) s

-- s is the p-th member
pub record Member (g : Grid) (W : List ℕ) (base len s p : ℕ) : Type 0 where
  pub below : p < len
  pub is : member_of g W base p ≡ s
  pub mark : mark_of g W base s ≡ suc p

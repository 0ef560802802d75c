-- The entries of a cell by their names. The code has the same names as constants.
use Rattle.std.specs.Prelude.{ℕ}

-- a step's cell: the next state, the number of tags put out; the tags come after it
abbrev pub NEXT : ℕ
NEXT = 0

abbrev pub OUTPUT : ℕ
OUTPUT = 1

-- a row's last cell: the number of tags of the final word; the tags come after it, and before it is what the phases note
abbrev pub FINAL : ℕ
FINAL = 7

-- normalization notes how many tags of the final word are put out earlier
abbrev pub FRONT : ℕ
FRONT = 0

-- merging notes the state's class, its new class, and the name that follows a name; to begin with, the first state of a bucket
abbrev pub CLASS : ℕ
CLASS = 1

abbrev pub NEW : ℕ
NEW = 2

abbrev pub LINK : ℕ
LINK = 3

abbrev pub HEAD : ℕ
HEAD = 2

-- a worklist notes its i-th member, and one more than the place of a member
abbrev pub MEMBER : ℕ
MEMBER = 4

abbrev pub MARK : ℕ
MARK = 5

-- What the comparison of a step asks and promises.
use Rattle.std.specs.Prelude.{ℕ, ◌+◌, ◌*◌, ◌<◌, ◌≤◌, ◌≡◌, List, [], ◌∷◌, ◌++◌, length, take, get_or}
use Rattle.limits.specs.Limits.{most_tags, most_states}
use Rattle.transducers.specs.Transducer.{Shape, puts}
use Rattle.transducers.specs.Table.{Table, shape}
use Rattle.transducers.specs.Canonical.{Sound, Held}
use Rattle.steps.specs.Entry.{FinalEntry, EntryOf}
use Rattle.indexing.specs.Entries.{TableEntries}
use Rattle.workspace.specs.declared.Grid.{Grid}
use Rattle.workspace.specs.Holds.{Ready, standing}
use Rattle.agreement.specs.Search.{ahead}

-- the most tags that a state holds, of any table under any limits
abbrev pub most : ℕ
most = 112

-- the index of the table t over k tags, which stands in the bytes
pub record Indexed (k : ℕ) (t : Table) (bs ix : List ℕ) : Type 0 where
  pub cells : TableEntries k (length t) bs ix t
  pub room : length t * (k + 1) ≤ length ix
  pub sound : Sound k (shape t)
  pub held : Held most (shape t)
  pub few_states : length t ≤ most_states

-- a step of two tables can be compared, and a buffer has room for its word
pub record Comparable (bs ix : List ℕ) (g : Grid) (W : List ℕ) (n p q a : ℕ) (out : List ℕ) : Type 0 where
  pub table : Table
  pub indexed : Indexed g.tags table bs ix
  pub ready : Ready g W 0 n
  pub held : Held most (standing g W 0 n)
  pub few_tags : g.tags ≤ most_tags
  pub left : p < length table
  pub right : q < n
  pub tag : a < g.tags
  pub room : most + 2 ≤ length out

-- a word has been put to a buffer after what was there, from one place to another
pub record FrontPut (before after : List ℕ) (from : ℕ) (w : List ℕ) (to : ℕ) : Type 0 where
  pub end : to ≡ from + length w
  pub is : take to after ≡ take from before ++ w

-- the entry e of a step that puts out w and leads to a state whose final word is f
pub record StepPuts (bs ix : List ℕ) (e : ℕ) (w f : List ℕ) : Type 0 where
  pub cell : ℕ
  pub inside : cell < length ix
  pub output : EntryOf bs (cell + 1) w e
  pub short : length w < 0xff
  pub final : FinalEntry bs f (get_or ix cell 0)

-- a buffer has room for both from a place on
pub record Puttable (bs ix : List ℕ) (e : ℕ) (out : List ℕ) (from : ℕ) : Type 0 where
  pub w : List ℕ
  pub f : List ℕ
  pub puts : StepPuts bs ix e w f
  pub some : from < length out
  pub room : from + length w + length f ≤ length out

-- the words of the step, put to the front of a buffer
pub record LeftPut (S T : Shape) (p q a : ℕ) (out : List ℕ) (n : ℕ) : Type 0 where
  pub inside : n ≤ length out
  pub is : take n out ≡ ahead (S.final p) (T.final q) ++ puts S p (a ∷ [])

pub record RightPut (S T : Shape) (p q a : ℕ) (out : List ℕ) (n : ℕ) : Type 0 where
  pub inside : n ≤ length out
  pub is : take n out ≡ ahead (T.final q) (S.final p) ++ puts T q (a ∷ [])

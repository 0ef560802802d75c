-- An entry of the index is one number: where the next state's entries begin, how many tags are put out, and the tag if it is one, else
-- where in the bytes the tags stand.
use Rattle.std.specs.Prelude.{ℕ, ◌+◌, ◌*◌, ◌/◌, ◌%◌, ◌<◌, ◌≤◌, min, ◌≡◌, List, length, get_or}
use Rattle.transducers.specs.Table.{Step}

abbrev pub base_of : ℕ → ℕ
base_of e = e % 0x100000000

abbrev pub count_of : ℕ → ℕ
count_of e = e / 0x100000000 % 0x100

abbrev pub place_of : ℕ → ℕ
place_of e = e / 0x10000000000

abbrev pub tag_of : ℕ → ℕ
tag_of e = place_of e % 0x100

-- from a place on, each second byte is a tag of the word
pub record TagsAt (bs : List ℕ) (place : ℕ) (w : List ℕ) : Type 0 where
  pub tags : (j : ℕ) → j < length w → get_or bs (place + 2 * j) 0 ≡ get_or w j 0
  pub inside : place + 2 * length w ≤ length bs + 1

-- the entry of a final word
pub record FinalEntry (bs w : List ℕ) (e : ℕ) : Type 0 where
  pub count_is : count_of e ≡ length w
  pub stands : TagsAt bs (place_of e) w

-- the entry of a word that is put out; one of more than 255 tags, which no valid table has, counts as 255
pub record EntryOf (bs : List ℕ) (base : ℕ) (w : List ℕ) (e : ℕ) : Type 0 where
  pub base_is : base_of e ≡ base
  pub count_is : count_of e ≡ min (length w) 0xff
  pub tag_is : length w ≡ 1 → tag_of e ≡ get_or w 0 0
  pub stands : (length w ≡ 1 → ⊥) → TagsAt bs (place_of e) w

-- the entry of a step: the next state's steps begin after its final word
abbrev pub StepEntry : ℕ → List ℕ → List ℕ → ℕ → Step → Type 0
StepEntry k bs ix c v = EntryOf bs (v.next * (k + 1) + 1) v.output (get_or ix c 0)

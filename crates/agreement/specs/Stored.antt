-- A search in two rows of numbers: the labels, and four numbers for each listed word: the states it leads to, the place in the list of the word without its
-- last tag, and that tag.
use Rattle.std.specs.Prelude.{ℕ, ◌+◌, ◌*◌, ◌<◌, ◌≡◌, List, [], ◌∷◌, ◌++◌, length, get_or}
use Rattle.transducers.specs.Transducer.{Shape}
use Rattle.transducers.specs.Run.{walk}
use Rattle.agreement.specs.Search.{Search, ClosedTo}

-- the numbers of the j-th word
abbrev pub left_at : List ℕ → ℕ → ℕ
left_at pairs j = get_or pairs (4 * j) 0

abbrev pub right_at : List ℕ → ℕ → ℕ
right_at pairs j = get_or pairs (4 * j + 1) 0

abbrev pub before_at : List ℕ → ℕ → ℕ
before_at pairs j = get_or pairs (4 * j + 2) 0

abbrev pub tag_at : List ℕ → ℕ → ℕ
tag_at pairs j = get_or pairs (4 * j + 3) 0

abbrev pub label_at : List ℕ → ℕ → ℕ
label_at labels x = get_or labels x 0

-- n words by their last tags: the first has none, and every other is an earlier one with a tag below k more
pub record Chained (k n : ℕ) (word : ℕ → List ℕ) (pairs : List ℕ) : Type 0 where
  pub first : word 0 ≡ []
  pub before : (j : ℕ) → 0 < j → j < n → before_at pairs j < j
  pub tag : (j : ℕ) → 0 < j → j < n → tag_at pairs j < k
  pub came : (j : ℕ) → 0 < j → j < n → word j ≡ word (before_at pairs j) ++ (tag_at pairs j ∷ [])

-- n words and the states they lead to are stored, and the first i are done with, and the next on the tags below a
pub record Searching (k : ℕ) (S T : Shape) (n i a : ℕ) (labels pairs : List ℕ) : Type 0 where
  pub word : ℕ → List ℕ
  pub search : Search k S T n word (label_at labels)
  pub chained : Chained k n word pairs
  pub lefts : (j : ℕ) → j < n → left_at pairs j ≡ walk S 0 (word j)
  pub rights : (j : ℕ) → j < n → right_at pairs j ≡ walk T 0 (word j)
  pub closed : ClosedTo k S T word (label_at labels) i a
  pub some : 0 < n

-- four numbers were put for the n-th word; those of the words before it are kept
pub record PairPut (before after : List ℕ) (n left right from tag : ℕ) : Type 0 where
  pub long : length after ≡ length before
  pub left_is : left_at after n ≡ left
  pub right_is : right_at after n ≡ right
  pub before_is : before_at after n ≡ from
  pub tag_is : tag_at after n ≡ tag
  pub kept : (c : ℕ) → c < 4 * n → get_or after c 0 ≡ get_or before c 0

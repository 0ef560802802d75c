-- What the parts of the walk of a sentence's way through a loaded table promise one another.
use Rattle.std.specs.Prelude.{ℕ, ◌+◌, ◌≤◌, ◌<◌, ◌≡◌, Bool, true, false, List, ◌++◌, length, take, drop, Option, MatchOption}
use Rattle.limits.specs.Limits.{most_tags, longest_sentence}
use Rattle.words.specs.Word.{Below}
use Rattle.answers.specs.Outcome.{result}
use Rattle.loaded.specs.Run.{word_of, way}

-- a word has been put to the buffer from one place to another
pub record PutWord (ns : List ℕ) (e : ℕ) (before after : List ℕ) (at to : ℕ) : Type 0 where
  pub word : List ℕ
  pub is : word_of ns e ≡ result word
  pub end : to ≡ at + length word
  pub front : take to after ≡ take at before ++ word

-- with no place it ends after n, if it is one; else no later than n
pub record Put (ns : List ℕ) (e : ℕ) (before after : List ℕ) (at n : ℕ) (to : Option ℕ) : Type 0 where
  pub long : length after ≡ length before
  pub ends : MatchOption to ((w : List ℕ) → word_of ns e ≡ result w → n < at + length w) (λ i. (i ≤ n) × PutWord ns e before after at i)

-- a sentence of tags below k, and a buffer for as many tags and three more
pub record Walkable (k : ℕ) (sentence : List ℕ) (room : ℕ) : Type 0 where
  pub few_tags : k ≤ most_tags
  pub short : length sentence ≤ longest_sentence
  pub below : Below k sentence
  pub fits : length sentence + 3 ≤ room

-- the rest of the sentence stands in the buffer after so many tags, if that makes as many as the sentence has
pub record Copied (r : Bool) (sentence : List ℕ) (from : ℕ) (before after : List ℕ) (at : ℕ) : Type 0 where
  pub long : length after ≡ length before
  pub so : r ≡ true → (at ≡ from) × (take (length sentence) after ≡ take at before ++ drop from sentence)
  pub not : r ≡ false → at ≡ from → ⊥

-- the way has come to its end, and its words stand in the buffer; or it has no end with as many tags as the sentence has
pub record Walked (r : Bool) (ns : List ℕ) (k : ℕ) (sentence after : List ℕ) : Type 0 where
  pub so : r ≡ true → way ns k 1 sentence ≡ result (take (length sentence) after)
  pub not : r ≡ false → (made : List ℕ) → way ns k 1 sentence ≡ result made → length made ≡ length sentence → ⊥

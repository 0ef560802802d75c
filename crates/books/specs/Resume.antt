-- How the reader's functions follow the definition: what one of them answers is where the reading goes on.
use Rattle.std.specs.Prelude.{ℕ, zero, suc, ◌+◌, ◌*◌, ◌≤◌, ◌<◌, ◌≡◌, List, [], ◌∷◌, ◌++◌, length, get_or, take, drop, Result, Ok, Err}
use Rattle.limits.specs.Limits.{most_rules, most_tags, longest_pattern}
use Rattle.limits.specs.declared.Limits.{Limits}
use Rattle.answers.specs.Outcome.{Outcome, result, refused, nothing}
use Rattle.answers.specs.Answer.{refusal, number_of}
use Rattle.answers.specs.declared.Reason.{Reason}
use Rattle.answers.specs.declared.Refusal.{Refusal}
use Rattle.cascades.specs.Rule.{Rule, Cascade}
use Rattle.cascades.specs.Pattern.{Class, word, plain}
use Rattle.cascades.specs.Value.{class_of, places, last_set}
use Rattle.books.specs.Arrays.{Arrays, Shaped, sets_at, rules_down, cascade_of}
use Rattle.books.specs.Read.{command, read_from, read}
use Rattle.books.specs.declared.Count.{Count}
use Rattle.books.specs.declared.Unread.{Unread}
use Rattle.books.specs.declared.Unread.TheVariants.{Refused, Sets}
use Rattle.books.specs.declared.Tags.{Tags}
use Rattle.books.specs.declared.Place.{Place}
use Rattle.books.specs.declared.Places.{Places}

-- the answer with the rules that the arrays hold is the outcome; it is `Sets` only where the arrays have no room for sets
abbrev pub ReadAs : Result Count Unread → Arrays → Outcome Cascade → Type 0
ReadAs (Ok b) a o = result (cascade_of b.tags a b.rules) ≡ o
ReadAs (Err (Refused r)) a o = refusal r ≡ o
ReadAs (Err Sets) a o = length a.sets ≡ 0

-- reading the bytes s from `at`, where a command is to come and the arrays hold m rules
abbrev pub read_commands : Limits → List ℕ → ℕ → ℕ → Arrays → ℕ → Outcome Cascade
read_commands lim s k m a at = read_from lim (command k (rules_down a m)) at (drop at s)

-- what an answer goes on to, with the next command at `next`; it is `Sets` only where the arrays have no room for sets
abbrev pub Resumed : Limits → List ℕ → ℕ → Arrays → Result Count Unread → Outcome Cascade → Type 0
Resumed lim s next a (Ok b) o = read_commands lim s b.tags b.rules a next ≡ o
Resumed lim s next a (Err (Refused r)) o = refusal r ≡ o
Resumed lim s next a (Err Sets) o = length a.sets ≡ 0

-- one part of the bytes s has been read: the whole reading, `from`, goes on at `next` with the answer
pub record Resumes (lim : Limits) (s : List ℕ) (from : Outcome Cascade) (next : ℕ) (a : Arrays) (answer : Result Count Unread) : Type 0 where
  pub goes_on : Resumed lim s next a answer from
  pub inside : (b : Count) → answer ≡ Ok b → (b.rules ≤ most_rules) × (next ≤ length s)
  pub shaped : Shaped a

-- the answer is a book only with at most 48 tags and no rule
abbrev pub NoRule : Result Count Unread → Type 0
NoRule answer = (b : Count) → answer ≡ Ok b → (b.tags ≤ most_tags) × (b.rules ≡ 0)

-- the answer is a book only with a rule more than m, which has no tag yet
pub record Opens (k m : ℕ) (a : Arrays) (answer : Result Count Unread) : Type 0 where
  pub one_more : (b : Count) → answer ≡ Ok b → (b.tags ≡ k) × (b.rules ≡ m + 1) × (m < most_rules) × (get_or a.lengths m 0 ≡ 0) × (sets_at a m ≡ 0)

-- the rule with the pattern w in place of its own
abbrev pub with_tags : Rule → List Class → Rule
with_tags r w = record { kind = r.kind; pattern = w; place = r.place; tag = r.tag }

-- reading the bytes s from `at`, where a command is to come and the last rule, r, has the pattern w so far
abbrev pub read_tags : Limits → List ℕ → ℕ → Rule → List Rule → List Class → ℕ → Outcome Cascade
read_tags lim s k r rs w at = read_from lim (command k (with_tags r w ∷ rs)) at (drop at s)

-- what an answer goes on to, with the pattern's tags in the row
abbrev pub tags_outcome : Limits → List ℕ → ℕ → Rule → List Rule → List ℕ → Result Tags Refusal → Outcome Cascade
tags_outcome lim s k r rs row (Ok t) = read_tags lim s k r rs (plain (take t.n row)) t.at
tags_outcome lim s k r rs row (Err x) = refusal x

-- the tags of a pattern have been read, up to a command that is no 22, from the byte `from` on, whatever its rule and the rules before it
pub record TagsRead (s : List ℕ) (from k most : ℕ) (row : List ℕ) (answer : Result Tags Refusal) : Type 0 where
  pub goes_on : (lim : Limits) (r : Rule) (rs : List Rule) → lim.pattern ≡ most → read_tags lim s k r rs [] from ≡ tags_outcome lim s k r rs row answer
  pub inside : (t : Tags) → answer ≡ Ok t → (from ≤ t.at) × (t.at ≤ length s) × (t.n ≤ longest_pattern) × (t.at < length s → get_or s t.at 0 ≡ 0x22 → ⊥)
  pub long : length row ≡ longest_pattern

-- one place of a pattern, which is w so far, has been read
abbrev pub place_outcome : Limits → List ℕ → ℕ → Rule → List Rule → List Class → Result Place Refusal → Outcome Cascade
place_outcome lim s k r rs w (Ok p) = read_tags lim s k r rs (w ++ (class_of p.tag p.set ∷ [])) p.at
place_outcome lim s k r rs w (Err x) = refusal x

pub record PlaceRead (s : List ℕ) (at k : ℕ) (answer : Result Place Refusal) : Type 0 where
  pub goes_on : (lim : Limits) (r : Rule) (rs : List Rule) (w : List Class) → length w < lim.pattern → read_tags lim s k r rs w at ≡ place_outcome lim s k r rs w answer
  pub inside : (p : Place) → answer ≡ Ok p → (at < p.at) × (p.at ≤ length s) × ((p.set ≡ 0 → ⊥) → p.tag ≡ 0)

-- the same of tags and sets, with the row of the sets
abbrev pub places_outcome : Limits → List ℕ → ℕ → Rule → List Rule → List ℕ → List ℕ → Result Places Refusal → Outcome Cascade
places_outcome lim s k r rs row sets (Ok t) = read_tags lim s k r rs (places (take t.n row) (take t.last sets)) t.at
places_outcome lim s k r rs row sets (Err x) = refusal x

-- n places, of which the last set stands before `last`; a set has 0 in the row
pub record Placed (row sets : List ℕ) (n last : ℕ) : Type 0 where
  pub few : n ≤ longest_pattern
  pub inside : last ≤ n
  pub last_is : last_set (places (take n row) (take last sets)) ≡ last
  pub word_is : word (places (take n row) (take last sets)) ≡ take n row

pub record PlacesRead (s : List ℕ) (from k most : ℕ) (row sets : List ℕ) (answer : Result Places Refusal) : Type 0 where
  pub goes_on : (lim : Limits) (r : Rule) (rs : List Rule) → lim.pattern ≡ most → read_tags lim s k r rs [] from ≡ places_outcome lim s k r rs row sets answer
  pub inside : (t : Places) → answer ≡ Ok t → (from ≤ t.at) × (t.at ≤ length s) × Placed row sets t.n t.last
  pub other : (t : Places) → answer ≡ Ok t → t.at < length s → (get_or s t.at 0 ≡ 0x22 → ⊥) × (get_or s t.at 0 ≡ 0x23 → ⊥)
  pub long : length row ≡ longest_pattern
  pub sets_long : length sets ≡ longest_pattern

-- the number that n bytes from `at` on make, high byte first
abbrev pub number_at : List ℕ → ℕ → ℕ → ℕ
number_at s at zero = 0
number_at s at (suc n) = number_at s at n * 0x100 + get_or s (at + n) 0

-- what an answer goes on to, with the pattern of the last of m rules in the arrays
abbrev pub Continued : Limits → List ℕ → ℕ → ℕ → Arrays → Result ℕ Refusal → Outcome Cascade → Type 0
Continued lim s k m a (Ok at) o = read_commands lim s k m a at ≡ o
Continued lim s k m a (Err x) o = refusal x ≡ o

-- the pattern of the last of m rules has been read, from the byte `from` on, up to a command that is neither 22 nor 23
pub record PatternRead (lim : Limits) (s : List ℕ) (from k m : ℕ) (whole : Outcome Cascade) (a : Arrays) (answer : Result ℕ Refusal) : Type 0 where
  pub goes_on : Continued lim s k m a answer whole
  pub inside : (at : ℕ) → answer ≡ Ok at → (from ≤ at) × (at ≤ length s)
  pub other : (at : ℕ) → answer ≡ Ok at → at < length s → (get_or s at 0 ≡ 0x22 → ⊥) × (get_or s at 0 ≡ 0x23 → ⊥)
  pub shaped : Shaped a

-- a reading has ended: its outcome, with the rules in the arrays
pub record Reads (from : Outcome Cascade) (a : Arrays) (answer : Result Count Unread) : Type 0 where
  pub outcome : ReadAs answer a from
  pub shaped : Shaped a

-- the bytes s have been read
pub record Whole (lim : Limits) (s : List ℕ) (a : Arrays) (answer : Result Count Unread) : Type 0 where
  pub outcome : ReadAs answer a (read lim s)
  pub shaped : Shaped a

-- what a test gives that may find a fault, before the byte is known
abbrev pub faulted : Result (Unit {0}) Reason → Outcome (Unit {0})
faulted (Ok u) = result tt
faulted (Err reason) = refused (number_of reason) nothing

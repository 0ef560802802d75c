-- What the functions that read a part of a table's bytes ask and promise.
use Rattle.std.specs.Prelude.{ℕ, ◌+◌, ◌-◌, ◌<◌, ◌≤◌, ◌≡◌, Bool, true, false, Option, Some, None, List, length, get_or, drop}
use Rattle.limits.specs.Limits.{most_tags, most_states}
use Rattle.answers.specs.Outcome.{Outcome, result}
use Rattle.tables.specs.Bytes.{number}
use Rattle.tables.specs.Decode.{malformed}

-- what the reader's functions ask: few tags and states, few bytes, and a place among them
pub record Asked (bs : List ℕ) (at k s : ℕ) : Type 0 where
  pub inside : at ≤ length bs
  pub few_bytes : length bs < 0xffffff
  pub few_tags : k ≤ most_tags
  pub few_states : s ≤ most_states

-- a part was read from one place to another, and the index has what it holds
pub record Part {A : Type 0} (read : List ℕ → Outcome A) (bytes : A → List ℕ) (Holds : A → Type 0) (bs : List ℕ) (from to : ℕ) : Type 0 where
  pub value : A
  pub reads : read (drop from bs) ≡ result value
  pub end : to ≡ from + length (bytes value)
  pub inside : to ≤ length bs
  pub holds : Holds value

abbrev pub PartRead : {A : Type 0} → (List ℕ → Outcome A) → (A → List ℕ) → (A → Type 0) → List ℕ → ℕ → Option ℕ → Type 0
PartRead read bytes Holds bs from (Some e) = Part read bytes Holds bs from e
PartRead read bytes Holds bs from None = read (drop from bs) ≡ malformed

-- the entries below are as before
abbrev pub SameBelow : ℕ → List ℕ → List ℕ → Type 0
SameBelow lo ix ix' = (c : ℕ) → c < lo → get_or ix' c 0 ≡ get_or ix c 0

-- a step that puts out one tag, the commonest, stands at a place
pub record Single (bs : List ℕ) (at k s : ℕ) : Type 0 where
  pub long : 5 < length bs - at
  pub command : get_or bs at 0 ≡ 0x33
  pub next_below : number (get_or bs (at + 1) 0) (get_or bs (at + 2) 0) < s
  pub output : get_or bs (at + 3) 0 ≡ 0x34
  pub tag_below : get_or bs (at + 4) 0 < k
  pub stops : get_or bs (at + 5) 0 ≡ 0x34 → ⊥

abbrev pub SingleIf : Bool → List ℕ → ℕ → ℕ → ℕ → Type 0
SingleIf true bs at k s = Single bs at k s
SingleIf false bs at k s = Unit {0}

-- The words of demand 3, and of demand 2 about the runs.
use Rattle.std.specs.Prelude.{ℕ, ◌≤◌, ◌<◌, ◌≡◌, List, [], length, get_or}
use Rattle.words.specs.Word.{Below, Prefix}
use Rattle.limits.specs.Limits.{most_states, InRange}
use Rattle.limits.specs.declared.Limits.{Limits}
use Rattle.answers.specs.Outcome.{result}
use Rattle.sentences.specs.Run.{Accepted}
use Rattle.cascades.specs.Rule.{Cascade, leading}
use Rattle.cascades.specs.Rewrite.{behavior}
use Rattle.books.specs.Ending.{read_ending}
use Rattle.transducers.specs.Transducer.{puts, Transducer, turns}
use Rattle.transducers.specs.Table.{Table, shape}
use Rattle.transducers.specs.Numbered.{AsReached}
use Rattle.tables.specs.Bytes.{number}
use Rattle.tables.specs.Decode.{Decoded, decode, decode_within}
use Rattle.compilation.specs.Compile.{entries}

-- the machine does what the cascade does, on every sentence: "any finite row of tags below K, also the empty one"
abbrev pub Does : (c : Cascade) → Transducer c.tags → Type 0
Does c M = (w : List ℕ) → Below c.tags w → turns M w ≡ behavior c w

-- it needs more than n states in every machine
abbrev pub NeedsMore : ℕ → Cascade → Type 0
NeedsMore n c = (M : Transducer c.tags) → Does c M → n < M.shape.count

-- "A leading part is the first i rules taken as a book, for any i from 1 to all of them": one that needs more than n states
pub record PartNeedsMore (c : Cascade) (n i : ℕ) : Type 0 where
  pub some : 1 ≤ i
  pub inside : i ≤ length c.rules
  pub more : NeedsMore n (leading i c)

-- "i the least such"
pub record Shortest (c : Cascade) (n i : ℕ) : Type 0 where
  pub part : PartNeedsMore c n i
  pub least : (j : ℕ) → PartNeedsMore c n j → i ≤ j

-- two books over equally many tags, each with its end tag, make the same of every sentence
abbrev pub Alike : Cascade → Cascade → Type 0
Alike c d = (w : List ℕ) → Below c.tags w → behavior c w ≡ behavior d w

-- what comes before the states: limits in their ranges, a valid book, whose bytes are read as the cascade with the call's end tag; a ceiling in
-- its range; and "A work slice is long enough if it has the entries under Bounds"
pub record Premises (lim : Limits) (book : List ℕ) (end n work : ℕ) (c : Cascade) : Type 0 where
  pub ranged : InRange lim
  pub reads : read_ending lim book end ≡ result c
  pub some : 1 ≤ n
  pub most : n ≤ most_states
  pub long : entries lim n c ≤ work

-- the bytes are a table for the cascade, well formed under the limits, and the smallest one, early and numbered
pub record SmallestTable (lim : Limits) (c : Cascade) (bytes : List ℕ) : Type 0 where
  pub table : Table
  pub decodes : decode lim bytes ≡ result (record { tags = c.tags; table = table })
  -- "the number it carries is the S in its bytes"
  pub carries : number (get_or bytes 2 0) (get_or bytes 3 0) ≡ length table
  pub does : (w : List ℕ) → Below c.tags w → puts (shape table) 0 w ≡ behavior c w
  pub smallest : (M : Transducer c.tags) → Does c M → length table ≤ M.shape.count
  pub early : (q : ℕ) → q < length table → (z : List ℕ) → ((x : List ℕ) → Below c.tags x → Prefix z (puts (shape table) q x)) → z ≡ []
  pub numbered : AsReached c.tags (shape table)

-- the bytes are the smallest table of the book
pub record Compiled (lim : Limits) (book : List ℕ) (end n work : ℕ) (bytes : List ℕ) : Type 0 where
  pub cascade : Cascade
  pub premises : Premises lim book end n work cascade
  pub smallest : SmallestTable lim cascade bytes

-- the first i rules of the book are the shortest leading part that needs more than n states
pub record Named (lim : Limits) (book : List ℕ) (end n work i : ℕ) : Type 0 where
  pub cascade : Cascade
  pub premises : Premises lim book end n work cascade
  pub shortest : Shortest cascade n i

-- the book's rules make this of a sentence that is not refused
pub record BookMakes (lim : Limits) (book : List ℕ) (end : ℕ) (sentence : List ℕ) (room : ℕ) (made : List ℕ) : Type 0 where
  pub ranged : InRange lim
  pub cascade : Cascade
  pub reads : read_ending lim book end ≡ result cascade
  pub accepted : Accepted cascade.tags sentence room
  pub made_is : made ≡ behavior cascade sentence

-- the table's transducer makes this of a sentence that is not refused
pub record TableMakes (lim : Limits) (bytes sentence : List ℕ) (room : ℕ) (made : List ℕ) : Type 0 where
  pub decoded : Decoded
  pub decodes : decode_within lim bytes ≡ result decoded
  pub accepted : Accepted decoded.tags sentence room
  pub made_is : made ≡ puts (shape decoded.table) 0 sentence

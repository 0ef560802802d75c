-- What the parts of a table's run promise one another.
use Rattle.std.specs.Prelude.{ℕ, ◌+◌, ◌*◌, ◌<◌, ◌≤◌, ◌≡◌, List, [], ◌++◌, length, take, drop, Result, Ok, Err}
use Rattle.words.specs.Word.{Below}
use Rattle.limits.specs.declared.Limits.{Limits}
use Rattle.answers.specs.Outcome.{Outcome, result, refused}
use Rattle.answers.specs.Answer.{refusal}
use Rattle.answers.specs.declared.Refusal.{Refusal}
use Rattle.sentences.specs.Run.{Ran}
use Rattle.transducers.specs.Transducer.{puts}
use Rattle.transducers.specs.Table.{Table, row, step, shape}
use Rattle.tables.specs.Valid.{ValidTable}
use Rattle.tables.specs.Decode.{Decoded, decode_within}
use Rattle.tables.specs.Run.{table_run}
use Rattle.steps.specs.Entry.{FinalEntry, EntryOf}
use Rattle.decoder.specs.Index.{Loaded}
use Rattle.transduction.specs.declared.Told.{Told}
use Rattle.transduction.specs.declared.Found.{Found}

-- a word was put to the output from one place to another; what lies after both is kept
pub record WordPut (out out' : List ℕ) (at : ℕ) (w : List ℕ) (to : ℕ) : Type 0 where
  pub end : to ≡ at + length w
  pub front : take to out' ≡ take at out ++ w
  pub kept : (c : ℕ) → at < c → to ≤ c → drop c out' ≡ drop c out

-- a sentence can be run: its tags are the table's, and there is room
pub record Runnable (lim : Limits) (bs ix sentence out : List ℕ) : Type 0 where
  pub tags : ℕ
  pub loaded : Loaded lim bs tags ix
  pub below : Below tags sentence
  pub room : length sentence ≤ length out

-- what the table puts out, if there is one
abbrev pub made : Outcome Decoded → List ℕ → List ℕ
made (result d) sentence = puts (shape d.table) 0 sentence
made (refused n p) sentence = []

-- the entry of a cell: of a state's final word, or of its step on a tag
pub record EntryAt (bs : List ℕ) (k : ℕ) (t : Table) (cell e : ℕ) : Type 0 where
  pub final : (q : ℕ) → q < length t → cell ≡ q * (k + 1) → FinalEntry bs (row t q).final e
  pub steps :
      (q a : ℕ)
      → q < length t
      → a < k
      → cell ≡ q * (k + 1) + 1 + a
      → EntryOf bs ((step t q a).next * (k + 1) + 1) (step t q a).output e

-- what is told of a table: its run over the sentence, and the entry of a cell
pub record ToldOf (lim : Limits) (bs : List ℕ) (k cell : ℕ) (sentence before after : List ℕ) (t : Told) : Type 0 where
  pub ran : Ran (table_run lim bs sentence (length before)) sentence before after (Ok t.changed)
  pub told : (d : Decoded) → decode_within lim bs ≡ result d → (d.tags ≡ k) × ValidTable lim k d.table × EntryAt bs k d.table cell t.entry

-- nothing but the refusal where the run is refused
abbrev pub Tells : Limits → List ℕ → ℕ → ℕ → List ℕ → List ℕ → List ℕ → Result Told Refusal → Type 0
Tells lim bs k cell sentence before after (Ok t) = ToldOf lim bs k cell sentence before after t
Tells lim bs k cell sentence before after (Err r) = Ran (table_run lim bs sentence (length before)) sentence before after (Err r)

-- a valid table was read, and the entry is that of the state's column, if there is one
pub record CellRead (lim : Limits) (bs : List ℕ) (state column k s e : ℕ) : Type 0 where
  pub table : Table
  pub decodes : decode_within lim bs ≡ result (record { tags = k; table = table })
  pub valid : ValidTable lim k table
  pub states : length table ≡ s
  pub final : state < s → column ≡ 0 → FinalEntry bs (row table state).final e
  pub steps :
      (a : ℕ)
      → state < s
      → a < k
      → column ≡ 1 + a
      → EntryOf bs ((step table state a).next * (k + 1) + 1) (step table state a).output e

abbrev pub FoundIn : Limits → List ℕ → ℕ → ℕ → Result Found Refusal → Type 0
FoundIn lim bs state column (Ok found) = CellRead lim bs state column found.size.tags found.size.states found.entry
FoundIn lim bs state column (Err r) = decode_within lim bs ≡ refusal r

-- What the parts of the search ask and promise, for the transducers S, of s states, and T, of m states, over k tags.
use Rattle.std.specs.Prelude.{ℕ, ◌+◌, ◌*◌, ◌≤◌, ◌<◌, ◌≡◌, List, ◌++◌, length, drop, Option, Some, None, Result, Ok, Err}
use Rattle.words.specs.Word.{Below}
use Rattle.transducers.specs.Transducer.{Shape, puts}
use Rattle.transducers.specs.Canonical as canonical
use Rattle.agreement.specs.Search.{StepAgrees}
use Rattle.agreement.specs.Stored.{Searching, left_at, right_at}
use Rattle.comparing.specs.Step.{most}
use Rattle.equivalence.specs.declared.Difference.{Difference}

-- the slices have room for the labels and the words of s + m states
pub record Stored (s m : ℕ) (labels pairs : List ℕ) : Type 0 where
  pub labels_long : s + m ≤ length labels
  pub pairs_long : 4 * (s + m) ≤ length pairs

pub record Buffers (one two : List ℕ) : Type 0 where
  pub room : most + 2 ≤ length one
  pub same : length two ≡ length one

-- a word was tried with a tag
pub record Followed (k : ℕ) (S T : Shape) (s m i a : ℕ) (labels pairs : List ℕ) (n : ℕ) : Type 0 where
  pub stored : Stored s m labels pairs
  pub searching : Searching k S T n i a labels pairs
  pub inside : i < n

-- the i-th word with the tag a more is a word on which both differ
pub record Apart (k : ℕ) (S T : Shape) (s m i a : ℕ) (pairs : List ℕ) : Type 0 where
  pub n : ℕ
  pub labels : List ℕ
  pub stored : Stored s m labels pairs
  pub searching : Searching k S T n i a labels pairs
  pub inside : i < n
  pub tag : a < k
  pub differs : StepAgrees S T (left_at pairs i) (right_at pairs i) a → ⊥

-- a word was tried with every tag
abbrev pub TriedAs : ℕ → Shape → Shape → ℕ → ℕ → ℕ → List ℕ → List ℕ → Result ℕ Difference → Type 0
TriedAs k S T s m i labels pairs (Ok n) = Stored s m labels pairs × Searching k S T n (i + 1) 0 labels pairs × (i < n)
TriedAs k S T s m i labels pairs (Err d) = (d.word ≡ i) × Apart k S T s m d.word d.tag pairs

-- every word was tried
abbrev pub Sought : ℕ → Shape → Shape → ℕ → ℕ → List ℕ → Result Unit Difference → Type 0
Sought k S T s m pairs (Ok u) = canonical.Same k (puts S 0) (puts T 0)
Sought k S T s m pairs (Err d) = Apart k S T s m d.word d.tag pairs

-- a sentence of n tags on which both differ stands at the front of the output slice
pub record Shown (k : ℕ) (S T : Shape) (before after : List ℕ) (n : ℕ) : Type 0 where
  pub sentence : List ℕ
  pub long : length sentence ≡ n
  pub some : 1 ≤ n
  pub short : n ≤ 512
  pub below : Below k sentence
  pub differs : puts S 0 sentence ≡ puts T 0 sentence → ⊥
  pub front : after ≡ sentence ++ drop n before

abbrev pub Judged : ℕ → Shape → Shape → List ℕ → List ℕ → Option ℕ → Type 0
Judged k S T before after None = canonical.Same k (puts S 0) (puts T 0) × (after ≡ before)
Judged k S T before after (Some n) = Shown k S T before after n

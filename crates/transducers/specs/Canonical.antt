-- What makes a transducer over k tags the smallest one.
use Rattle.std.specs.Prelude.{ℕ, suc, ◌≤◌, ◌<◌, ◌+◌, ◌≡◌, List, [], length}
use Rattle.words.specs.Word.{Below}
use Rattle.words.specs.Front.{first}
use Rattle.transducers.specs.Transducer.{Shape, puts}
use Rattle.transducers.specs.Run.{walk}
use Rattle.transducers.specs.Numbered.{AsReached}

-- P and Q answer alike on every word
abbrev pub Same : ℕ → (List ℕ → List ℕ) → (List ℕ → List ℕ) → Type 0
Same k P Q = (x : List ℕ) → Below k x → P x ≡ Q x

-- no tag begins every answer of P: 002's "normalized", document 01's "the words it can still put out have no common front"
abbrev pub Free : ℕ → (List ℕ → List ℕ) → Type 0
Free k P = (c : ℕ) → ((x : List ℕ) → Below k x → first (P x) ≡ suc c) → ⊥

-- next states are among the states
abbrev pub Inside : ℕ → Shape → Type 0
Inside k S = (q a : ℕ) → q < S.count → a < k → S.next q a < S.count

-- every state puts out as early as can be
abbrev pub Early : ℕ → Shape → Type 0
Early k S = (q : ℕ) → q < S.count → Free k (puts S q)

-- a word leads from state 0 to q
pub record Reached (k : ℕ) (S : Shape) (q : ℕ) : Type 0 where
  pub word : List ℕ
  pub below : Below k word
  pub leads : walk S 0 word ≡ q

-- states that are reached are told apart by what they still put out
abbrev pub Apart : ℕ → Shape → Type 0
Apart k S = (p q : ℕ) → p < S.count → q < S.count → Reached k S p → Reached k S q → Same k (puts S p) (puts S q) → p ≡ q

-- every state is reached from state 0, puts out as early as can be, and is told from every other by what it still puts out
pub record Minimal (k : ℕ) (S : Shape) : Type 0 where
  pub next_below : Inside k S
  pub reached : (q : ℕ) → q < S.count → Reached k S q
  pub early : Early k S
  pub apart : (p q : ℕ) → p < S.count → q < S.count → Same k (puts S p) (puts S q) → p ≡ q

-- what every transducer of a cascade over k tags keeps: "each step from a state holding d to one holding e puts out exactly
-- d + 1 − e tags", "every tag is below K, every next state below S, state 0 holds nothing"
pub record Sound (k : ℕ) (S : Shape) : Type 0 where
  pub some : 0 < S.count
  pub empty : S.final 0 ≡ []
  pub next_below : Inside k S
  pub output_below : (q a : ℕ) → q < S.count → a < k → Below k (S.output q a)
  pub final_below : (q : ℕ) → q < S.count → Below k (S.final q)
  pub balanced : (q a : ℕ) → q < S.count → a < k → length (S.output q a) + length (S.final (S.next q a)) ≡ length (S.final q) + 1

-- no state holds more than d tags
abbrev pub Held : ℕ → Shape → Type 0
Held d S = (q : ℕ) → q < S.count → length (S.final q) ≤ d

-- the transducer of document 01's compiled table: the smallest one, early and numbered
pub record Canonical (k : ℕ) (S : Shape) : Type 0 where
  pub some : 0 < S.count
  pub minimal : Minimal k S
  pub numbered : AsReached k S

-- equal at every state and tag in range
pub record Agree (k : ℕ) (S T : Shape) : Type 0 where
  pub counts : S.count ≡ T.count
  pub nexts : (q a : ℕ) → q < S.count → a < k → S.next q a ≡ T.next q a
  pub outputs : (q a : ℕ) → q < S.count → a < k → S.output q a ≡ T.output q a
  pub finals : (q : ℕ) → q < S.count → S.final q ≡ T.final q

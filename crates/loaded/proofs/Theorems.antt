-- The theorems about loaded tables: about the definitions, and about the call from nothing but what its contract says.
use Prim.Native.Nat.{ℕ, ◌≤◌, ◌<◌}
use native.Mathlib.Omega.{arith}
use mathlib.Core.Path.{◌≡◌, sym, ap, ◌∙◌, subst}
use mathlib.Core.Logic.{◌↔◌}
use mathlib.Core.Bool.{Bool, true, false, ◌&&◌}
use mathlib.Core.List.{List, ◌++◌}
use borrow.Author.Tests.{le-leb, eqb-true, ltb-true}
use lib.Dec.{eqb, leb, ltb}
use lib.ListN.{length, take, get_or}
use Rattle.limits.specs.Limits.{fewest_tags}
use Rattle.limits.specs.declared.Limits.{Limits}
use Rattle.limits.proofs.Range.{within-result}
use Rattle.words.specs.Word.{Below}
use Rattle.answers.specs.Outcome.{Outcome, result, refused, nothing, and_then, provided}
use Rattle.answers.specs.Slice.{fitting}
use Rattle.std.specs.Prelude.{Result, Ok}
use Rattle.answers.specs.Answer.{outcome_of}
use Rattle.answers.specs.declared.Refusal.{Refusal}
use Rattle.answers.proofs.Outcome.{passed, went}
use Rattle.answers.proofs.Slice.{front-result}
use Rattle.sentences.specs.Run.{highest, admitted, run}
use Rattle.sentences.proofs.Run.{highest-below}
use Rattle.transducers.specs.Transducer.{puts}
use Rattle.transducers.specs.Table.{shape}
use Rattle.tables.specs.Decode.{Decoded, decode, decode_within}
use Rattle.tables.specs.Run.{Size, size_of, table_run}
use Rattle.tables.proofs.Outcomes.{Begun, read, not-read, not-ranged, begun}
use Rattle.tables.proofs.Theorem.{decoded-within}
use Rattle.loaded.specs.Numbers.{numbers}
use Rattle.loaded.specs.Run.{way, sound, loaded_run, load_answer, LoadRan}
use Rattle.loaded.proofs.Way.{loaded_runs}
use Rattle.loaded.proofs.Count.{numbers-few}

differ : {A : Type 0} (n : ℕ) (x : A) → refused n nothing ≡ result x → ⊥
differ n x e = let z : ◌≡◌ {A = ℕ} 0 1 = cc in omega (arith, z)

-- ---- any numbers

-- "every tag of a result is below K whatever the numbers are", and it is as long as the sentence
pub any-numbers : (lim : Limits) (ns sentence : List ℕ) (room : ℕ) (made : List ℕ) → loaded_run lim ns sentence room ≡ result made
    → Below (get_or ns 0 0) made × (length made ≡ length sentence)
any-numbers lim ns sentence room made e =
    let k = get_or ns 0 0 in
    let a = (passed 12 (leb fewest_tags k && leb k lim.tags) _ made (within-result lim _ made e).1).1 in
    let b = (passed 11 (leb (length sentence) room) _ made (went (admitted k sentence) _ made a).then).1 in
    let w = went (way ns k 1 sentence) (sound k sentence) made b in
    let c = passed 12 (eqb (length w.first) (length sentence)) _ made w.then in
    let d = passed 12 (ltb (highest w.first) k) (result w.first) made c.1 in
    let same : w.first ≡ made = cc d.1 in
    (highest-below k made (subst (λ (v : List ℕ). highest v < k) same (ltb-true (highest w.first) k d.0)), ap length (sym same) ∙ eqb-true (length w.first) (length sentence) c.0)

-- ---- the numbers of a table

module _ (lim : Limits) (table : List ℕ) where
  abbrev loading : ℕ → Decoded → Outcome (List ℕ)
  loading room d = fitting room (numbers d.tags d.table)

  -- what is written for a table, with anything behind it, runs as that table: for every sentence and every output slice
  pub runs_as_table : Below 0x100 table → (room : ℕ) (ns : List ℕ) → load_answer lim table room ≡ result ns
      → (tail sentence : List ℕ) (out : ℕ) → loaded_run lim (ns ++ tail) sentence out ≡ table_run lim table sentence out
  runs_as_table bytes room ns e tail sentence out =
      let d = went (decode_within lim table) (loading room) ns e in
      let t = d.first in
      let same : numbers t.tags t.table ≡ ns = cc (passed 11 (leb (length (numbers t.tags t.table)) room) (result (numbers t.tags t.table)) ns d.then).1 in
      let valid = (decoded-within lim table t bytes d.read).0 in
      ap (λ (m : List ℕ). loaded_run lim (m ++ tail) sentence out) (sym same) ∙ loaded_runs lim (within-result lim (decode lim table) t d.read).0 t.tags t.table valid tail sentence out
      ∙ sym (ap (λ (o : Outcome Decoded). and_then o (λ x. run x.tags sentence out (puts (shape x.table) 0 sentence))) d.read)

  abbrev sizes : Decoded → Outcome Size
  sizes d = result (record { tags = d.tags; states = length d.table })

  -- 17 and 12 are given exactly where reading the table gives them
  refused-alike : (room n : ℕ) → (n ≡ 11 → ⊥) → (load_answer lim table room ≡ refused n nothing) ↔ (size_of lim table ≡ refused n nothing)
  refused-alike room n other = by (begun lim table)
    where
      eleven : (t : Bool) (ns : List ℕ) → provided 11 t (result ns) ≡ refused n nothing → ⊥
      eleven true ns e = differ n ns (sym e)
      eleven false ns e = let z : ◌≡◌ {A = ℕ} n 11 = cc in other z

      alike : (m : ℕ) → decode_within lim table ≡ refused m nothing → (load_answer lim table room ≡ refused n nothing) ↔ (size_of lim table ≡ refused n nothing)
      alike m e =
          let one = ap (λ (o : Outcome Decoded). and_then o (loading room)) e in
          let two = ap (λ (o : Outcome Decoded). and_then o sizes) e in (
            λ f. let z : ◌≡◌ {A = ℕ} m n = cc (sym one ∙ f) in two ∙ ap (λ (i : ℕ). refused i nothing) z,
            λ f. let z : ◌≡◌ {A = ℕ} m n = cc (sym two ∙ f) in one ∙ ap (λ (i : ℕ). refused i nothing) z,
          )

      by : Begun (decode_within lim table) → (load_answer lim table room ≡ refused n nothing) ↔ (size_of lim table ≡ refused n nothing)
      by (read d e) =
          let ns = numbers d.tags d.table in (
            λ f. absurd (eleven (leb (length ns) room) ns (sym (ap (λ (o : Outcome Decoded). and_then o (loading room)) e) ∙ f)),
            λ f. absurd (differ n _ (sym f ∙ ap (λ (o : Outcome Decoded). and_then o sizes) e)),
          )
      by (not-read e) = alike 12 e
      by (not-ranged e) = alike 17 e

  pub refused_12 : (room : ℕ) → (load_answer lim table room ≡ refused 12 nothing) ↔ (size_of lim table ≡ refused 12 nothing)
  refused_12 room = refused-alike room 12 (λ e. omega (arith, e))

  pub refused_17 : (room : ℕ) → (load_answer lim table room ≡ refused 17 nothing) ↔ (size_of lim table ≡ refused 17 nothing)
  refused_17 room = refused-alike room 17 (λ e. omega (arith, e))

  -- as many numbers as the table has bytes are always enough
  pub enough : Below 0x100 table → (room : ℕ) → length table ≤ room → (z : Size) → size_of lim table ≡ result z
      → (ns : List ℕ) × (load_answer lim table room ≡ result ns)
  enough bytes room long z e =
      let d = went (decode_within lim table) _ z e in
      let t = d.first in
      let two = decoded-within lim table t bytes d.read in
      let ns = numbers t.tags t.table in
      let fits = le-leb (length ns) room (omega (arith, numbers-few t.tags t.table two.0, ap length two.1, long)) in
      (ns, ap (λ (o : Outcome Decoded). and_then o (loading room)) d.read ∙ ap (λ (b : Bool). provided 11 b (result ns)) fits)

-- ---- the call

module _ (lim : Limits) (table before after : List ℕ) (answer : Result ℕ Refusal) (call : LoadRan lim table before after answer) where
  written_is : (n : ℕ) → answer ≡ Ok n → load_answer lim table (length before) ≡ result (take n after)
  written_is n e = front-result n before after (load_answer lim table (length before)) (ap outcome_of (sym e) ∙ call.answered) call.wrote

  -- the first n numbers run as the table
  pub call_runs : Below 0x100 table → (n : ℕ) → answer ≡ Ok n
      → (tail sentence : List ℕ) (out : ℕ) → loaded_run lim (take n after ++ tail) sentence out ≡ table_run lim table sentence out
  call_runs bytes n e = runs_as_table lim table bytes (length before) (take n after) (written_is n e)

-- What a run answers and writes, and what reading a table answers.
use Prim.Native.Nat.{ℕ, ◌+◌, ◌*◌, ◌<◌, ◌≤◌}
use native.Mathlib.Omega.{arith}
use mathlib.Core.Path.{◌≡◌, refl, sym, ap, ◌∙◌}
use mathlib.Core.List.{List, [], ◌++◌}
use lib.ListN.{length, take, drop}
use lib.Seq.{take_at}
use Rattle.limits.specs.Limits.{most_held}
use Rattle.limits.specs.declared.Limits.{Limits}
use Rattle.words.specs.Word.{Below}
use Rattle.words.proofs.Word.{below-drop}
use Rattle.answers.specs.Outcome.{Outcome, Place, result, refused, nothing}
use Rattle.answers.specs.Answer.{refusal}
use Rattle.answers.proofs.Outcome.{refusal_never}
use Rattle.answers.specs.declared.Refusal.{Refusal}
use Rattle.answers.specs.declared.Refusal.TheVariants.{AtByte, AtRule, Bare}
use Rattle.sentences.specs.Run.{run, changed, Accepted}
use Rattle.sentences.proofs.Run.{run-accepts, accepted-run}
use Rattle.transducers.specs.Transducer.{puts}
use Rattle.transducers.specs.Table.{shape}
use Rattle.tables.specs.Decode.{Decoded, decode_within}
use Rattle.tables.specs.Run.{table_run}
use Rattle.tables.proofs.Theorem.{table-read, decoded-within}
use Rattle.tables.proofs.Outcomes.{Begun, read, not-read, not-ranged, begun}
use Rattle.tables.proofs.Transduction.{run_length}
use Rattle.decoder.specs.Index.{Head, Loaded}
use Rattle.transduction.specs.Parts.{Runnable, made, ToldOf, CellRead}
use Rattle.transduction.specs.declared.Told.{Told}

-- an admitted sentence has tags below k and room for its result
admitted : (k : ℕ) (sentence : List ℕ) (room : ℕ) → ((m : List ℕ) → result m ≡ run k sentence room m) → Accepted k sentence room
admitted k sentence room f = (run-accepts k sentence room [] [] (sym (f []))).0

module _ (lim : Limits) (bs sentence out : List ℕ) (k : ℕ) (ix : List ℕ) (u : Loaded lim bs k ix) where
  abbrev m : List ℕ
  m = puts (shape u.table) 0 sentence

  module _ (f : (l : List ℕ) → result l ≡ run k sentence (length out) l) where
    pub run-ready : Runnable lim bs ix sentence out
    run-ready =
        let t = admitted k sentence (length out) f in
        record { tags = k; loaded = u; below = t.below; room = t.fits }

    module _ (out' : List ℕ) (w : out' ≡ made (decode_within lim bs) sentence ++ drop (length sentence) out) where
      whole : out' ≡ m ++ drop (length sentence) out
      whole = w ∙ ap (λ (o : Outcome Decoded). made o sentence ++ drop (length sentence) out) u.decodes

      long : length m ≡ length sentence
      long = run_length k u.table u.valid sentence (admitted k sentence (length out) f).below

      front : take (length sentence) out' ≡ m
      front = rw whole (take_at m (drop (length sentence) out) (length sentence) long)

      pub run-front : length sentence ≡ length (take (length sentence) out')
      run-front = sym (ap length front ∙ long)

-- what is refused before one result is refused before another
pub refused-alike : {A B : Type 0} (y : Refusal) (n : ℕ) (p : Place) → refusal {A = A} y ≡ refused n p → refusal {A = B} y ≡ refused n p
refused-alike (AtByte m i) n p e = cc
refused-alike (AtRule m i) n p e = cc
refused-alike (Bare m) n p e = cc

-- a table is valid exactly if its run over no tags is not refused; then the entry of its cell is told
module _ (lim : Limits) (bs : List ℕ) (bytes : Below 0x100 bs) where
  none_runs : (room : ℕ) (d : Decoded) → decode_within lim bs ≡ result d → changed [] (table_run lim bs [] room) ≡ result 0
  none_runs room d e =
      let v = (decoded-within lim bs d bytes e).0 in
      let a : Accepted d.tags [] room = record { short = omega arith; below = tt; fits = omega arith } in
      rw e (rw (accepted-run d.tags [] room (puts (shape d.table) 0 []) (omega (arith, v.tags_least)) a) refl)

  pub found_none : (room : ℕ) (x : Refusal) → refusal x ≡ changed [] (table_run lim bs [] room) → decode_within lim bs ≡ refusal x
  found_none room x e = by (begun lim bs)
    where
      by : Begun (decode_within lim bs) → decode_within lim bs ≡ refusal x
      by (read d f) = absurd (refusal_never x 0 (e ∙ none_runs room d f))
      by (not-read f) = f ∙ sym (refused-alike x 12 nothing (rw f at e))
      by (not-ranged f) = f ∙ sym (refused-alike x 17 nothing (rw f at e))

  pub found_entry : (k s cell : ℕ) (out out' : List ℕ) (t : Told) → ToldOf lim bs k cell [] out out' t → Head lim bs k s
      → (state column : ℕ) → (state < s → column ≤ k → cell ≡ state * (k + 1) + column) → CellRead lim bs state column k s t.entry
  found_entry k s cell out out' t tells head state column at = by (begun lim bs)
    where
      o : result t.changed ≡ changed [] (table_run lim bs [] (length out))
      o = tells.ran.answered

      by : Begun (decode_within lim bs) → CellRead lim bs state column k s t.entry
      by (read d f) =
          let u = tells.told d f in
          let r = table-read (most_held lim) k s (drop 4 bs) d (below-drop 0x100 4 bs bytes) (sym head.left ∙ f) in
          record {
            table = d.table;
            decodes = f ∙ ap (λ (j : ℕ). result (record { tags = j; table = d.table })) u.0;
            valid = u.1;
            states = r.states;
            final = λ h c. u.2.final state (omega (arith, r.states)) (omega (arith, at h (omega arith)));
            steps = λ a h g c. u.2.steps state a (omega (arith, r.states)) g (omega (arith, at h (omega arith)));
          }
      by (not-read f) =
          let z : result t.changed ≡ refused 12 nothing = rw f at o in
          let y : ◌≡◌ {A = ℕ} 0 1 = cc in absurd (omega arith)
      by (not-ranged f) =
          let z : result t.changed ≡ refused 17 nothing = rw f at o in
          let y : ◌≡◌ {A = ℕ} 0 1 = cc in absurd (omega arith)

-- The two tables, and what is answered of them.
use Prim.Native.Nat.{ℕ, ◌≤◌}
use native.Mathlib.Omega.{arith}
use mathlib.Core.Path.{◌≡◌, refl, sym, ap, ◌∙◌, subst}
use mathlib.Core.Bool.{Bool, true, false}
use mathlib.Core.List.{List}
use borrow.Author.Tests.{le-leb, lt-leb}
use lib.Dec.{leb}
use lib.ListN.{length}
use Rattle.std.specs.Prelude.{Option, Some, None, Result, Ok, Err}
use Rattle.words.specs.Word.{Below}
use Rattle.limits.specs.Limits.{most_states, InRange}
use Rattle.limits.specs.Work.{rule_holds}
use Rattle.limits.specs.declared.Limits.{Limits}
use Rattle.limits.proofs.Range.{within-result}
use Rattle.limits.proofs.Work.{not-deep}
use Rattle.answers.specs.Outcome.{Outcome, result, and_then, provided}
use Rattle.answers.specs.Answer.{refusal}
use Rattle.answers.proofs.Outcome.{refusal_then}
use Rattle.answers.specs.declared.Refusal.{Refusal}
use Rattle.cascades.specs.Rule.{Cascade}
use Rattle.books.specs.Arrays.{Arrays}
use Rattle.transducers.specs.Transducer.{Shape}
use Rattle.transducers.specs.Table.{Table, shape}
use Rattle.transducers.specs.Canonical.{Sound, Held}
use Rattle.tables.specs.Valid.{ValidTable}
use Rattle.tables.specs.Decode.{decode}
use Rattle.compilation.specs.Compile.{compile_cascade}
use Rattle.workspace.specs.declared.Grid.{Grid}
use Rattle.workspace.specs.Holds.{standing}
use Rattle.builder.specs.Rules.{Compilable}
use Rattle.builder.specs.Rows.{TableInRows}
use Rattle.comparing.specs.Step.{Indexed}
use Rattle.equivalence.specs.Tables.{Tables, table_of, table_in, given}
use Rattle.equivalence.specs.Search as equivalence
use Rattle.checking.specs.Check.{longest_shown, compared, Answers}
use Rattle.checker.specs.Ended.{pair_of, Given, Judges}

-- the verdict, where there is room for a sentence
module _ (k : ℕ) (S T : Shape) (before after : List ℕ) (room : longest_shown ≤ length before) where
  pub judged : (v : Option ℕ) → equivalence.Judged k S T before after v → Judges k S T before after (Ok v)
  judged None is = (room, is.0, is.1)
  judged (Some n) is = (room, is)

-- a valid table is a sound transducer
valid-sound : {lim : Limits} {k : ℕ} {t : Table} → ValidTable lim k t → Sound k (shape t)
valid-sound v =
    record {
      some = v.states_least;
      empty = v.start;
      next_below = v.next_below;
      output_below = v.output_below;
      final_below = v.final_below;
      balanced = v.balanced;
    }

-- the table that was read
module _ {lim : Limits} {bs ix : List ℕ} {k s : ℕ} (u : Given lim bs k s ix) where
  pub table_is : table_in lim bs ≡ u.loaded.table
  table_is = ap table_of u.loaded.decodes

  ranged : InRange lim
  ranged = (within-result lim (decode lim bs) _ u.loaded.decodes).0

  few-held : Held 112 (shape u.loaded.table)
  few-held q h = omega (arith, u.loaded.valid.held q h, ranged.short_pattern)

  pub indexed : Indexed k (table_in lim bs) bs ix
  indexed =
      subst (λ (t : Table). Indexed k t bs ix) (sym table_is)
      (record {
        cells = u.loaded.cells;
        room = u.loaded.room;
        sound = valid-sound u.loaded.valid;
        held = few-held;
        few_states = u.loaded.valid.states_most;
      })

  -- both tables can be compared
  module _ {g : Grid} {W : List ℕ} {states end m : ℕ} {a : Arrays} (ok : Compilable lim g W most_states states end m a) (tags : k ≡ g.tags) where
    few-depth : g.depth ≤ 120
    few-depth = omega (arith, ok.depth, not-deep (rule_holds lim) m (omega (arith, ok.readable.ranged.short_pattern)) ok.readable.held.few)

    pub both_tables : (c : Cascade) {X : List ℕ} {n : ℕ} → TableInRows g X most_states c n → Tables lim bs ix g X n s
    both_tables c rows =
        record {
          indexed = subst (λ (i : ℕ). Indexed i (table_in lim bs) bs ix) tags indexed;
          states = ap length table_is ∙ u.states;
          ready = rows.ready;
          held = λ q h. omega (arith, rows.ready.held q h, rows.ready.room, few-depth);
          few_states = rows.few;
          few_tags = omega (arith, ok.readable.tags, ok.readable.ranged.few_tags);
        }

-- what becomes of a cascade whose table is built or not
module _ (lim : Limits) (bs : List ℕ) (c : Cascade) (before : List ℕ) where
  abbrev room : ℕ
  room = length before

  pub not-compared : (r : Refusal) → compile_cascade most_states c ≡ refusal r → Answers (compared room (pair_of lim bs c)) before before (Err r)
  not-compared r e = (ap (λ (o : Outcome Table). and_then o (λ t. provided 11 (leb longest_shown room) (result (pair_of lim bs c)))) e ∙ refusal_then r _, refl)

  module _ (g : Grid) (W : List ℕ) (n : ℕ) (rows : TableInRows g W most_states c n) (tags : c.tags ≡ g.tags) where
    is-compared : (b : Bool) → leb longest_shown room ≡ b → compared room (pair_of lim bs c) ≡ provided 11 b (result (pair_of lim bs c))
    is-compared b e = cc (rows.is, e)

    below-tags : (w : List ℕ) → Below c.tags w → Below g.tags w
    below-tags w b = subst (λ (i : ℕ). Below i w) tags b

    pub answers_judged : (after : List ℕ) (r : Result (Option ℕ) Refusal) → Judges g.tags (given lim bs) (standing g W 0 n) before after r
        → Answers (compared room (pair_of lim bs c)) before after r
    answers_judged after (Ok None) j = (
      pair_of lim bs c,
      is-compared true (le-leb longest_shown room j.0),
      λ w b. j.1 w (below-tags w b) ∙ rows.does w (below-tags w b),
      j.2,
    )
    answers_judged after (Ok (Some i)) j =
        let shown = j.1 in (
          pair_of lim bs c,
          is-compared true (le-leb longest_shown room j.0),
          record {
            sentence = shown.sentence;
            long = shown.long;
            some = shown.some;
            short = omega (arith, shown.short);
            below = subst (λ (i : ℕ). Below i shown.sentence) (sym tags) shown.below;
            differs = λ e. shown.differs (e ∙ sym (rows.does shown.sentence shown.below));
            front = shown.front;
          },
        )
    answers_judged after (Err r) j = (
      is-compared false (lt-leb longest_shown room j.0) ∙ ap refusal (sym j.1),
      j.2,
    )

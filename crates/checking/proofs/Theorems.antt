-- Of any answer that the call may give, whichever sentence it shows.
use Prim.Native.Nat.{ℕ, ◌<◌}
use native.Mathlib.Omega.{arith}
use native.Mathlib.Decide.{dec_lt}
use mathlib.Core.Path.{◌≡◌, refl, sym, ap, ◌∙◌, subst}
use mathlib.Core.Logic.{◌↔◌}
use mathlib.Core.Bool.{Bool, true, false}
use mathlib.Core.List.{List}
use borrow.Author.Tests.{le-leb, lt-leb}
use lib.Dec.{leb}
use Rattle.std.specs.Prelude.{Option, Some, None, Result, Ok, Err}
use Rattle.limits.specs.Limits.{most_states}
use Rattle.limits.specs.declared.Limits.{Limits}
use Rattle.words.specs.Word.{Below}
use Rattle.answers.specs.Outcome.{Outcome, result, refused, nothing, provided}
use Rattle.answers.specs.Answer.{refusal}
use Rattle.answers.proofs.Outcome.{same-result, refusal_never}
use Rattle.answers.specs.declared.Reason.TheVariants.{ShortOutput}
use Rattle.answers.specs.declared.Refusal.{Refusal}
use Rattle.answers.specs.declared.Refusal.TheVariants.{Bare}
use Rattle.cascades.specs.Rule.{Cascade}
use Rattle.cascades.specs.Rewrite.{behavior}
use Rattle.transducers.specs.Transducer.{puts}
use Rattle.transducers.specs.Table.{Table, shape}
use Rattle.tables.specs.Decode.{Decoded}
use Rattle.compilation.specs.Compile.{compile_cascade, compile_answer}
use Rattle.compilation.proofs.Demand.{compiled}
use Rattle.checking.specs.Check.{longest_shown, Pair, checkable, checked, Alike, Shown, Answers}
use Rattle.checking.proofs.Tests.{given}

-- a result is no refusal, and is one
pub no_refusal : {A : Type 0} (o : Outcome A) (a : A) (r : Refusal) → o ≡ result a → o ≡ refusal r → ⊥
no_refusal o a r e f = refusal_never r a (sym f ∙ e)

one-result : (o : Outcome Pair) (p q : Pair) → o ≡ result p → o ≡ result q → p ≡ q
one-result o p q e f = same-result p q (sym e ∙ f)

-- "the checker says yes exactly if both make the same of every sentence"; otherwise no
module _ (o : Outcome Pair) (before after : List ℕ) (p : Pair) (e : o ≡ result p) where
  pub said_yes : Answers o before after (Ok None) → Alike p
  said_yes h = subst Alike (one-result o h.0 p h.1 e) h.2

  pub said_no : (n : ℕ) → Answers o before after (Ok (Some n)) → Shown p n before after
  said_no n h = subst (λ (q : Pair). Shown q n before after) (one-result o h.0 p h.1 e) h.2

  pub no_differs : (n : ℕ) → Shown p n before after → Alike p → ⊥
  no_differs n s alike = s.differs (alike s.sentence s.below)

  pub yes_exactly : (r : Result (Option ℕ) Refusal) → Answers o before after r → (r ≡ Ok None) ↔ Alike p
  yes_exactly (Ok None) h = (λ f. said_yes h, λ alike. refl)
  yes_exactly (Ok (Some n)) h =
      (λ f. said_yes (subst (Answers o before after) f h), λ alike. absurd (no_differs n (said_no n h) alike))
  yes_exactly (Err r) h =
      (λ f. said_yes (subst (Answers o before after) f h), λ alike. absurd (no_refusal o p r e h.0))

-- "11 comes exactly if the output slice has fewer than 1,024 tags, also where the answer would be yes"
module _ (lim : Limits) (book : List ℕ) (end : ℕ) (bytes : List ℕ) (work room : ℕ) (p : Pair) (tested : checkable lim book end bytes work ≡ result p)
    (t : Table) (built : compile_cascade most_states p.cascade ≡ result t) where
  told : (b : Bool) → leb longest_shown room ≡ b → checked lim book end bytes work room ≡ provided 11 b (result p)
  told b e = cc (tested, built, e)

  pub eleven_exactly : (checked lim book end bytes work room ≡ refused 11 nothing) ↔ (room < longest_shown)
  eleven_exactly = (λ e. by e (dec_lt room longest_shown), λ h. told false (lt-leb longest_shown room h))
    where
      by : checked lim book end bytes work room ≡ refused 11 nothing → Dec (room < longest_shown) → room < longest_shown
      by e (yes h) = h
      by e (no h) = absurd (no_refusal (checked lim book end bytes work room) p (Bare ShortOutput) (told true (le-leb longest_shown room (omega arith))) e)

-- a book's own table, whatever ceiling it was compiled with, gets no no
pub own-table : (lim : Limits) (book : List ℕ) (end : ℕ) (bytes : List ℕ) (n w r work : ℕ) (p : Pair)
    → compile_answer lim book end n w r ≡ result bytes → checkable lim book end bytes work ≡ result p → Alike p
own-table lim book end bytes n w r work p e tested =
    let c = compiled lim book end n w r bytes e in
    let g = given lim book end bytes work p tested in
    let cascades : c.cascade ≡ p.cascade = cc (c.premises.reads, g.premises.reads) in
    let read : Decoded = record { tags = c.cascade.tags; table = c.smallest.table } in
    let asked : Decoded = record { tags = p.cascade.tags; table = p.table } in
    let both : read ≡ asked = cc (c.smallest.decodes, g.decodes) in
    let tables : c.smallest.table ≡ p.table = ap (λ (d : Decoded). d.table) both in
    λ v below.
    ap (λ (t : Table). puts (shape t) 0 v) (sym tables)
    ∙ c.smallest.does v (subst (λ (d : Cascade). Below d.tags v) (sym cascades) below)
    ∙ ap (λ (d : Cascade). behavior d v) cascades

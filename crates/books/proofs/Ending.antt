-- Books with the end tag of a call.
use Prim.Native.Nat.{ℕ}
use native.Mathlib.Omega.{arith}
use mathlib.Core.Path.{◌≡◌, refl, sym, ap, ◌∙◌, subst}
use mathlib.Core.Bool.{Bool, true, false, not, ◌&&◌, ◌||◌}
use mathlib.Core.List.{List, [], ◌∷◌}
use borrow.Author.Tests.{eqb-true, not-true}
use lib.Dec.{eqb, leb}
use Rattle.limits.specs.Limits.{InRange, no_end}
use Rattle.limits.specs.declared.Limits.{Limits}
use Rattle.answers.specs.Outcome.{result}
use Rattle.answers.proofs.Outcome.{passed, went}
use Rattle.cascades.specs.Rule.{Rule, ValidRules, Cascade, ending}
use Rattle.cascades.specs.Ending.{misused, some_misused, bad_end}
use Rattle.cascades.specs.Spares.{Spare}
use Rattle.cascades.proofs.Ending.{no_or, spares_used, spare_outside}
use Rattle.books.specs.Book.{Valid, encode}
use Rattle.books.specs.Read.{read}
use Rattle.books.specs.Ending.{fitted, read_ending, ValidEnding}
use Rattle.books.proofs.Encode.{reads_exactly}

spare_used : (l k e : ℕ) (rs : List Rule) → ValidRules l k rs → some_misused e rs ≡ false → Spare e rs
spare_used l k e [] v h = tt
spare_used l k e (r ∷ rs) v h = let a = no_or (misused e r) (some_misused e rs) h in (spares_used l k e r v.0 a.0, spare_used l k e rs v.1 a.1)

-- the rules of a valid book leave its end tag where it is
pub valid_spare : {lim : Limits} (c : Cascade) → ValidEnding lim c → InRange lim → Spare c.end c.rules
valid_spare {lim} c v ranged = by (eqb c.end no_end) refl v.end_fits
  where
    by : (t : Bool) → eqb c.end no_end ≡ t → (not t && (leb c.tags c.end || some_misused c.end c.rules)) ≡ false → Spare c.end c.rules
    by true f h =
        spare_outside lim.pattern c.tags c.end (omega (arith, eqb-true c.end no_end f, v.book_valid.few_tags, ranged.few_tags)) c.rules v.book_valid.rules_valid
    by false f h = spare_used lim.pattern c.tags c.end c.rules v.book_valid.rules_valid (no_or (leb c.tags c.end) (some_misused c.end c.rules) h).1

-- the reader takes the encodings of valid cascades with the end tag, and nothing else
pub reads-ending : {lim : Limits} (book : List ℕ) (e : ℕ) (c : Cascade) → read_ending lim book e ≡ result c → ValidEnding lim c × (c.end ≡ e) × (book ≡ encode c)
reads-ending {lim} book e c h =
    let w = went (read lim book) (fitted e) c h in
    let d = w.first in
    let p = passed 14 (not (bad_end (ending e d))) (result (ending e d)) c w.then in
    let same : ending e d ≡ c = cc p.1 in
    let r = (reads_exactly book d).0 w.read in
    let valid : Valid lim (ending no_end d) = subst (Valid lim) (ap (λ (x : ℕ). ending x d) r.0.no_end_tag) r.0 in (
      subst (ValidEnding lim) same (record { book_valid = valid; end_fits = not-true (bad_end (ending e d)) p.0 }),
      ap (λ (x : Cascade). x.end) (sym same),
      r.1 ∙ ap encode same,
    )

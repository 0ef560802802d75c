-- Rules leave the end tag where it is, unless they change or make it.
use Prim.Native.Nat.{ℕ, zero, suc, ◌+◌, ◌≤◌, ◌<◌}
use native.Mathlib.Omega.{arith}
use mathlib.Core.Path.{◌≡◌, refl, subst, sym, ap, ◌∙◌}
use mathlib.Core.Bool.{Bool, true, false, ◌||◌, false≢true}
use mathlib.Core.List.{List, [], ◌∷◌, ◌++◌}
use borrow.Author.Tests.{eq-eqb, ne_eqb}
use lib.Dec.{eqb}
use lib.ListN.{length, take, drop, set, get_or, take-append-drop}
use lib.Seq.{get_or-drop}
use Rattle.words.specs.Word.{Below}
use Rattle.words.proofs.Word.{below_at}
use Rattle.words.proofs.Pieces.{without_below, piecewise_without, Marks, marks-same, marks-append, marks-set, Keeps, keeps_marks}
use Rattle.cascades.specs.Pattern.{Class, one, any, accepts, fits, some_set, word}
use Rattle.cascades.specs.Rule.{Kind, once, everywhere, Rule, SetsBelow, ValidRule, ValidRules, Cascade}
use Rattle.cascades.specs.Rewrite.{behind, rewrite, apply, apply_all, behavior}
use Rattle.cascades.specs.Ending.{before, misused}
use Rattle.cascades.specs.Leftmost.{Match}
use Rattle.cascades.specs.Spares.{Changes, Spares, Spare}
use Rattle.cascades.proofs.Pattern.{member_outside, word-length, fits-match, match_tail}

-- the tag at a place without sets behind it is the pattern's
pub match-at : (u : List Class) (m : List ℕ) (p : ℕ) → Match u m → some_set (drop p u) ≡ false → get_or m p 0 ≡ get_or (word u) p 0
match-at u m p h e = sym (first-at m p) ∙ ap (λ (x : List ℕ). get_or x 0 0) (match_tail u m p h e) ∙ first-at (word u) p
  where
    first-at : (w : List ℕ) (p : ℕ) → get_or (drop p w) 0 0 ≡ get_or w p 0
    first-at w p = get_or-drop p w 0 0 ∙ ap (λ (i : ℕ). get_or w i 0) (let z : p + 0 ≡ p = omega arith in z)

marks-rewrite : (e : ℕ) (r : Rule) → Spares e r → (n : ℕ) (w : List ℕ) → Marks e w (rewrite n r w)
marks-rewrite e r s zero w = marks-same e w
marks-rewrite e r s (suc n) [] = tt
marks-rewrite e r s (suc n) (a ∷ w) = by (fits u (a ∷ w)) refl (marks-rewrite e r s n w) (rest r.kind (marks-rewrite e r s n x))
  where
    u : List Class
    u = r.pattern

    x : List ℕ
    x = drop (length r.pattern) (a ∷ w)

    rest : (k : Kind) → Marks e x (rewrite n r x) → Marks e x (behind k (rewrite n r) x)
    rest once m = marks-same e x
    rest everywhere m = m

    by : (t : Bool) → fits r.pattern (a ∷ w) ≡ t → Marks e w (rewrite n r w) → Marks e x (behind r.kind (rewrite n r) x)
        → Marks e (a ∷ w) (elim t as (λ z. List ℕ) [ true ↦ set (take (length r.pattern) (a ∷ w)) r.place r.tag ++ behind r.kind (rewrite n r) (drop (length r.pattern) (a ∷ w)) | false ↦ a ∷ rewrite n r w ])
    by true h g m =
        let match = take (length r.pattern) (a ∷ w) in
        let here = fits-match r.pattern (a ∷ w) h in
        let old : get_or match r.place 0 ≡ get_or (word r.pattern) r.place 0 = match-at r.pattern match r.place here s.fixed in
        subst (λ (y : List ℕ). Marks e y (set (take (length r.pattern) (a ∷ w)) r.place r.tag ++ behind r.kind (rewrite n r) x)) (take-append-drop (length r.pattern) (a ∷ w))
        (marks-append e (take (length r.pattern) (a ∷ w)) (set (take (length r.pattern) (a ∷ w)) r.place r.tag) x (behind r.kind (rewrite n r) x)
        (marks-set e r.place r.tag (take (length r.pattern) (a ∷ w)) (λ f. s.old (sym old ∙ f)) s.new) m)
    by false h g m = ((λ f. f, λ f. f), g)

pub keeps_apply : (e : ℕ) (r : Rule) → Spares e r → Keeps e (apply r)
keeps_apply e r s = keeps_marks e (apply r) (λ w. marks-rewrite e r s (length w) w)

-- where the end tag is no tag the rules meet the whole sentence: document 01's cascades
pub without_end : (c : Cascade) → c.tags ≤ c.end → (w : List ℕ) → Below c.tags w → behavior c w ≡ apply_all c.rules w
without_end c h w b = piecewise_without c.end (apply_all c.rules) w (without_below c.end c.tags w h b)

before_outside : (k e : ℕ) → k ≤ e → (u : List Class) → Below k (word u) → SetsBelow k u → before e u ≡ false
before_outside k e h [] b sb = refl
before_outside k e h (c ∷ []) b sb = refl
before_outside k e h (one a ∷ d ∷ u) b sb = cc (ne_eqb a e (λ f. omega (arith, f, b.0)), before_outside k e h (d ∷ u) b.1 sb)
before_outside k e h (any s ∷ d ∷ u) b sb = cc (member_outside s k e sb.1 h, before_outside k e h (d ∷ u) b.1 sb.3)

pub misused_outside : (l k e : ℕ) → k ≤ e → (r : Rule) → ValidRule l k r → misused e r ≡ false
misused_outside l k e h r ok =
    let w = word r.pattern in
    cc (
      before_outside k e h r.pattern ok.pattern_below ok.sets_below,
      ne_eqb (get_or w r.place 0) e (λ f. omega (arith, f, below_at k w r.place (omega (arith, ok.place_inside, word-length r.pattern)) ok.pattern_below)),
      ne_eqb r.tag e (λ f. omega (arith, f, ok.tag_below)),
    )

pub no_or : (a b : Bool) → (a || b) ≡ false → (a ≡ false) × (b ≡ false)
no_or true b e = absurd (false≢true (sym e))
no_or false b e = (refl, e)

-- a test that is false
unequal : (a b : ℕ) → eqb a b ≡ false → a ≡ b → ⊥
unequal a b e f = false≢true (sym e ∙ eq-eqb a b f)

-- a valid rule changes a tag
pub valid_changes : (l k : ℕ) (r : Rule) → ValidRule l k r → Changes r
valid_changes l k r ok = record { inside = ok.place_inside; fixed = ok.sets_before; new = ok.tag_new }

-- what 14 tells of a rule that it is not given for
pub free_used : (e : ℕ) (r : Rule) → misused e r ≡ false → before e r.pattern ≡ false
free_used e r h = (no_or (before e r.pattern) (eqb (get_or (word r.pattern) r.place 0) e || eqb r.tag e) h).0

pub spares_used : (l k e : ℕ) (r : Rule) → ValidRule l k r → misused e r ≡ false → Spares e r
spares_used l k e r ok h =
    let a = no_or (before e r.pattern) (eqb (get_or (word r.pattern) r.place 0) e || eqb r.tag e) h in
    let b = no_or (eqb (get_or (word r.pattern) r.place 0) e) (eqb r.tag e) a.1 in
    record { fixed = ok.sets_before; old = unequal (get_or (word r.pattern) r.place 0) e b.0; new = unequal r.tag e b.1 }

-- no rule over k tags touches what is no tag
pub spare_outside : (l k e : ℕ) → k ≤ e → (rs : List Rule) → ValidRules l k rs → Spare e rs
spare_outside l k e h [] ok = tt
spare_outside l k e h (r ∷ rs) ok = (spares_used l k e r ok.0 (misused_outside l k e h r ok.0), spare_outside l k e h rs ok.1)

-- no place before the last accepts the end tag
pub before_at_lem : (e : ℕ) (u : List Class) → before e u ≡ false → (i : ℕ) → i + 1 < length u → accepts (get_or u i (one 0)) e ≡ false
before_at_lem e [] h i l = absurd (omega (arith, l))
before_at_lem e (c ∷ []) h i l = absurd (omega (arith, l))
before_at_lem e (c ∷ d ∷ u) h zero l = (no_or (accepts c e) (before e (d ∷ u)) h).0
before_at_lem e (c ∷ d ∷ u) h (suc i) l = before_at_lem e (d ∷ u) (no_or (accepts c e) (before e (d ∷ u)) h).1 i (omega (arith, l))

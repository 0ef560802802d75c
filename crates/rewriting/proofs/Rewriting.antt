-- A rule in the part of a sentence that lies behind its matches so far, and the numbers beside the sentence.
use Prim.Native.Nat.{ℕ, zero, suc, ◌+◌, ◌-◌, ◌≤◌, ◌<◌}
use native.Mathlib.Omega.{arith}
use mathlib.Core.Path.{◌≡◌, sym, ap, ◌∙◌, subst}
use mathlib.Core.Bool.{Bool, true, false, not, false≢true}
use mathlib.Core.List.{List, []}
use lib.ListN.{length, take, drop, get_or, set, length-drop}
use lib.Seq.{get_or-drop, get_or-take, drop-drop, drop-set-lt}
use Rattle.words.specs.Word.{prefix}
use Rattle.words.specs.Parts.{Begun}
use Rattle.words.proofs.Parts.{begun_once}
use Rattle.cascades.specs.Pattern.{Class, fits, word, plain}
use Rattle.cascades.specs.Rule.{once, Rule}
use Rattle.cascades.specs.Value.{rule, rule_with, rule_of, kind_of, Formed}
use Rattle.cascades.specs.declared.Rule.{Rule as Value}
use Rattle.cascades.specs.Spares.{Changes}
use Rattle.cascades.proofs.Pattern.{plain-pattern, fits-plain, fits-length, fits-match}
use Rattle.cascades.proofs.Ending.{match-at}
use Rattle.cascades.specs.Rewrite.{behind, apply}
use Rattle.cascades.proofs.Rewrite.{begun_other, begun_short, begun_match}
use Rattle.std.specs.Prelude.{Option, Some, None}
use Rattle.leftmost.specs.Leftmost.{Found}
use Rattle.leftmost.proofs.Leftmost.{place_is}
use Rattle.traces.specs.Note.{note}
use Rattle.traces.proofs.Note.{note-set}

-- the first `from` tags are done, and in the part behind them the rewriting goes on as it began
abbrev pub Going : Rule → List ℕ → List ℕ → ℕ → Type 0
Going r s₀ s = Begun (apply r) (apply r) s₀ s s

-- the number x stands beside each tag that has become another, and from a place on none has
pub record Noted (x : ℕ) (s₀ v₀ s v : List ℕ) (from : ℕ) : Type 0 where
  pub numbers : v ≡ note x s₀ s v₀
  pub rest : drop from s ≡ drop from s₀

module _ (r : Rule) (changes : Changes r) (s₀ s : List ℕ) (from : ℕ) (done : Going r s₀ s from) where
  abbrev u : List Class
  u = r.pattern

  abbrev p : ℕ
  p = r.place

  -- at no place before the part's d-th does a match begin
  passed-places : (d : ℕ) → from + d ≤ length s → ((i : ℕ) → i < d → fits u (drop i (drop from s)) ≡ false) → Going r s₀ s (from + d)
  passed-places zero h f = let e : from + 0 ≡ from = omega arith in rw e done
  passed-places (suc d) h f =
      let e : from + suc d ≡ from + d + 1 = omega arith in
      rw e (begun_other r s₀ s (from + d) (passed-places d (omega arith) (λ i l. f i (omega arith))) (omega arith) (sym (place_is (fits u) s from d) ∙ f d (omega arith)))

  module _ (i : ℕ) (f : Found (fits u) (drop from s) (Some i)) where
    here : fits u (drop (from + i) s) ≡ true
    here = sym (place_is (fits u) s from i) ∙ f.here

    pub room-behind : from + i + length u ≤ length s
    room-behind = omega (arith, fits-length u (drop (from + i) s) here, length-drop (from + i) s, changes.inside)

    -- its leftmost match gets the new tag
    pub match-behind : Begun (apply r) (behind r.kind (apply r)) s₀ (set s (from + i + p) r.tag) (set s (from + i + p) r.tag) (from + i + length u)
    match-behind = begun_match r s₀ s (from + i) (passed-places i (omega (arith, room-behind)) f.least) changes.inside here

    -- which is another than it was, and gets the number
    pub match-noted : (x : ℕ) (v₀ v : List ℕ) → Noted x s₀ v₀ s v from
        → Noted x s₀ v₀ (set s (from + i + p) r.tag) (set v (from + i + p) x) (from + i + length u)
    match-noted x v₀ v b =
        record {
          numbers =
              ap (λ (y : List ℕ). set y (from + i + p) x) b.numbers
              ∙ sym (note-set x s₀ s v₀ (from + i + p) r.tag (omega (arith, room-behind, inside, done.long)) (omega (arith, room-behind, inside)) (λ e. changes.new (sym old ∙ e)));
          rest =
              drop-set-lt (from + i + length u) s (from + i + p) r.tag (omega (arith, inside))
              ∙ same-behind;
        }
      where
        inside : p < length u
        inside = changes.inside

        same-behind : drop (from + i + length u) s ≡ drop (from + i + length u) s₀
        same-behind =
            let e : from + i + length u ≡ from + (i + length u) = omega arith in
            rw e (sym (drop-drop (i + length u) from s) ∙ ap (drop (i + length u)) b.rest ∙ drop-drop (i + length u) from s₀)

        old : get_or s₀ (from + i + p) 0 ≡ get_or (word u) p 0
        old =
            let e : from + i + p ≡ from + (i + p) = omega arith in
            ap (λ (n : ℕ). get_or s₀ n 0) e ∙ sym (get_or-drop from s₀ (i + p) 0) ∙ ap (λ (y : List ℕ). get_or y (i + p) 0) (sym b.rest) ∙ get_or-drop from s (i + p) 0
            ∙ ap (λ (n : ℕ). get_or s n 0) (sym e) ∙ sym (get_or-drop (from + i) s p 0)
            ∙ sym (get_or-take (length u) (drop (from + i) s) p 0 inside)
            ∙ match-at u (take (length u) (drop (from + i) s)) p (fits-match u (drop (from + i) s) here) changes.fixed

  -- it has none
  pub none-behind : Found (fits u) (drop from s) None → s ≡ apply r s₀
  none-behind f =
      let e : from + (length s - from) ≡ length s = omega (arith, done.inside) in
      begun_short r s₀ s (from + (length s - from)) (passed-places (length s - from) (omega arith) (λ i l. f i)) (omega (arith, changes.inside))

-- behind a match the sentence is x up to n: a rule that fires once is done, and one that fires everywhere goes on
module _ (u : List Class) (p t : ℕ) (s₀ x : List ℕ) (n : ℕ) where
  abbrev Matched : Bool → Type 0
  Matched b = Begun (apply (rule_with (kind_of b) u p t)) (behind (kind_of b) (apply (rule_with (kind_of b) u p t))) s₀ x x n

  pub fired-once : (b : Bool) → not b ≡ true → Matched b → x ≡ apply (rule_with (kind_of b) u p t) s₀
  fired-once true e m = absurd (false≢true e)
  fired-once false e m = begun_once (apply (rule_with once u p t)) s₀ x n m

  pub fires_again : (b : Bool) → not b ≡ false → Matched b → Going (rule_with (kind_of b) u p t) s₀ x n
  fires_again true e m = m
  fires_again false e m = absurd (false≢true (sym e))

-- behind a match of a rule that fires once the sentence is what it is, of one that fires everywhere the rewriting goes on
module _ (u : List Class) (p t : ℕ) (b : Bool) (changes : Changes (rule_with (kind_of b) u p t)) (s₀ s : List ℕ) (from : ℕ)
    (done : Going (rule_with (kind_of b) u p t) s₀ s from) (i : ℕ) (found : Found (fits u) (drop from s) (Some i)) where
  abbrev next : List ℕ
  next = set s (from + i + p) t

  pub fired_next : b ≡ false → next ≡ apply (rule_with (kind_of b) u p t) s₀
  fired_next e = fired-once u p t s₀ next (from + i + length u) b (ap not e) (match-behind (rule_with (kind_of b) u p t) changes s₀ s from done i found)

  -- the number has been put too
  pub again_noted : b ≡ true → (x : ℕ) (v₀ v w : List ℕ) → w ≡ set v (from + i + p) x → Noted x s₀ v₀ s v from → (n : ℕ) → n ≡ length u
      → Going (rule_with (kind_of b) u p t) s₀ next (from + (i + n)) × Noted x s₀ v₀ next w (from + (i + n))
  again_noted e x v₀ v w put noted n is =
      let m : from + i + length u ≡ from + (i + n) = omega arith in
      let after = match-noted (rule_with (kind_of b) u p t) changes s₀ s from done i found x v₀ v noted in (
        subst (Going (rule_with (kind_of b) u p t) s₀ next) m (fires_again u p t s₀ next (from + i + length u) b (ap not e) (match-behind (rule_with (kind_of b) u p t) changes s₀ s from done i found)),
        record { numbers = put ∙ after.numbers; rest = subst (λ (k : ℕ). drop k next ≡ drop k s₀) m after.rest },
      )

-- without sets the search is that for a word
pub found_plain : (u s : List ℕ) (r : Option ℕ) → Found (prefix u) s r → Found (fits (plain u)) s r
found_plain u s (Some i) f = record { here = fits-plain u (drop i s) ∙ f.here; least = λ j l. fits-plain u (drop j s) ∙ f.least j l }
found_plain u s None f = λ i. fits-plain u (drop i s) ∙ f i

-- a rule without a row of sets
pub of_tags : (v : Value) → Formed v [] → rule_of v [] ≡ rule (kind_of v.everywhere) (take v.length v.row) v.place v.tag
of_tags v f = ap (λ (u : List Class). rule_with (kind_of v.everywhere) u v.place v.tag) (sym (plain-pattern v [] (omega (arith, f.sets_long))))

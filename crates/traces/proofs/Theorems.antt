-- Each tag with its rule (document 02, W6): the sentence is the run's, and the number beside a tag is that of the last rule that rewrote it.
use Prim.Native.Nat.{ℕ, zero, suc, ◌+◌, ◌≤◌, ◌<◌}
use native.Mathlib.Omega.{arith}
use native.Mathlib.Decide.{ℕ_discrete, dec_lt}
use mathlib.Core.Path.{◌≡◌, refl, sym, ap, ◌∙◌, subst}
use mathlib.Core.Logic.{◌⊎◌, inl, inr}
use mathlib.Core.List.{List, [], ◌∷◌, ◌++◌}
use lib.ListN.{length, take, get_or, replicate, length-replicate, get_or-replicate}
use lib.Seq.{take_all, take-nil, take-append_seam, take-append-add}
use Rattle.words.specs.Pieces.{pieces}
use Rattle.words.proofs.Pieces.{piecewise_same}
use Rattle.cascades.specs.Rule.{Rule, ValidRule, ValidRules, Cascade, ValidCascade}
use Rattle.cascades.specs.Spares.{Changes}
use Rattle.cascades.proofs.Ending.{valid_changes}
use Rattle.cascades.specs.Rewrite.{apply, apply_all, behavior}
use Rattle.cascades.proofs.Rewrite.{apply_all-long, apply_all-append}
use Rattle.traces.specs.Trace.{Traced, beside, mark, trace_rule, trace_from, trace, tags_of, numbers_of, traced}
use Rattle.traces.specs.Last.{tag_behind, LastRule, InPiece, Told}
use Rattle.traces.proofs.Note.{mark-long, mark-kept, mark-put, mark_is_apply}
use Rattle.traces.proofs.Places.{each_same, piecewise-long, piecewise-at, in_piece}

-- ---- the sentence

pub trace_from-tags : (i : ℕ) (rs : List Rule) (t : Traced) → (trace_from i rs t).tags ≡ apply_all rs t.tags
trace_from-tags i [] t = refl
trace_from-tags i (r ∷ rs) t = trace_from-tags (suc i) rs (trace_rule i r t)

pub trace-tags : (rs : List Rule) (w : List ℕ) → (trace rs w).tags ≡ apply_all rs w
trace-tags rs w = trace_from-tags _ rs _

-- one rule more
pub trace_snoc : (i : ℕ) (rs : List Rule) (r : Rule) (t : Traced) → trace_from i (rs ++ (r ∷ [])) t ≡ trace_rule (i + length rs) r (trace_from i rs t)
trace_snoc i [] r t = let e : i ≡ i + 0 = omega arith in ap (λ (n : ℕ). trace_rule n r t) e
trace_snoc i (q ∷ rs) r t =
    let e : suc i + length rs ≡ i + suc (length rs) = omega arith in
    trace_snoc (suc i) rs r (trace_rule i q t) ∙ ap (λ (n : ℕ). trace_rule n r (trace_from (suc i) rs (trace_rule i q t))) e

-- the sentence that it leaves is the run's
pub traced-tags : (c : Cascade) (w : List ℕ) → (traced c w).tags ≡ behavior c w
traced-tags c w = each_same (tags_of c.rules) (apply_all c.rules) (trace-tags c.rules) (pieces c.end w)

-- ---- the numbers of one piece

trace_from-long : (i : ℕ) (rs : List Rule) (t : Traced) → length (trace_from i rs t).numbers ≡ length t.numbers
trace_from-long i [] t = refl
trace_from-long i (r ∷ rs) t = trace_from-long (suc i) rs (trace_rule i r t) ∙ mark-long r i t.tags t.numbers

pub numbers-long : (rs : List Rule) (w : List ℕ) → length (numbers_of rs w) ≡ length w
numbers-long rs w = trace_from-long _ rs _ ∙ length-replicate (length w) 0

-- of rules that are numbered from i on: none rewrote the place, and its number is what it was; or the rule that has j before it did, and none
-- behind it
record Spared (rs : List Rule) (w : List ℕ) (q old n : ℕ) : Type 0 where
  is : n ≡ old
  kept : (j : ℕ) → tag_behind rs w q (suc j) ≡ tag_behind rs w q j

record Rewritten (i : ℕ) (rs : List Rule) (w : List ℕ) (q n : ℕ) : Type 0 where
  at : ℕ
  inside : at < length rs
  is : n ≡ i + at
  rewrote : tag_behind rs w q at ≡ tag_behind rs w q (suc at) → ⊥
  kept : (j : ℕ) → at < j → tag_behind rs w q (suc j) ≡ tag_behind rs w q j

module _ (l k q : ℕ) where
  numbered-from : (i : ℕ) (rs : List Rule) → ValidRules l k rs → (w v : List ℕ) → q < length v
      → Spared rs w q (get_or v q 0) (get_or (trace_from i rs (beside w v)).numbers q 0) ⊎ Rewritten i rs w q (get_or (trace_from i rs (beside w v)).numbers q 0)
  numbered-from i [] ok w v h = inl (record { is = refl; kept = λ j. ap (λ (rs : List Rule). get_or (apply_all rs w) q 0) (sym (take-nil j)) })
  numbered-from i (r ∷ rs) ok w v h =
      by (numbered-from (suc i) rs ok.1 w' v' (omega (arith, h, mark-long r i w v))) (ℕ_discrete (get_or w q 0) (get_or w' q 0))
    where
      changes : Changes r
      changes = valid_changes l k r ok.0

      w' : List ℕ
      w' = apply r w

      v' : List ℕ
      v' = mark (length w) r i w v

      n : ℕ
      n = get_or (trace_from (suc i) rs (beside w' v')).numbers q 0

      by : Spared rs w' q (get_or v' q 0) n ⊎ Rewritten (suc i) rs w' q n → Dec (get_or w q 0 ≡ get_or w' q 0) → Spared (r ∷ rs) w q (get_or v q 0) n ⊎ Rewritten i (r ∷ rs) w q n
      by (inr b) d =
          inr (record {
            at = suc b.at;
            inside = omega (arith, b.inside);
            is = omega (arith, b.is);
            rewrote = b.rewrote;
            kept = λ j g. later j g b.kept;
          })
        where
          later : (j : ℕ) → suc b.at < j → ((j : ℕ) → b.at < j → tag_behind rs w' q (suc j) ≡ tag_behind rs w' q j) → tag_behind (r ∷ rs) w q (suc j) ≡ tag_behind (r ∷ rs) w q j
          later zero g kept = absurd (omega arith)
          later (suc j) g kept = kept j (omega arith)
      by (inl a) (yes e) = inl (record { is = a.is ∙ mark-kept r changes i w v q e; kept = λ j. all j a.kept })
        where
          all : (j : ℕ) → ((j : ℕ) → tag_behind rs w' q (suc j) ≡ tag_behind rs w' q j) → tag_behind (r ∷ rs) w q (suc j) ≡ tag_behind (r ∷ rs) w q j
          all zero kept = sym e
          all (suc j) kept = kept j
      by (inl a) (no d) =
          inr (record {
            at = 0;
            inside = omega arith;
            is = a.is ∙ mark-put r changes i w v q d h ∙ omega arith;
            rewrote = d;
            kept = λ j g. behind_it j g a.kept;
          })
        where
          behind_it : (j : ℕ) → 0 < j → ((j : ℕ) → tag_behind rs w' q (suc j) ≡ tag_behind rs w' q j) → tag_behind (r ∷ rs) w q (suc j) ≡ tag_behind (r ∷ rs) w q j
          behind_it zero g kept = absurd (omega arith)
          behind_it (suc j) g kept = kept j

  last_in_piece : (rs : List Rule) → ValidRules l k rs → (w : List ℕ) → q < length w → LastRule rs w q (get_or (numbers_of rs w) q 0)
  last_in_piece rs ok w h = by (numbered-from 1 rs ok w (replicate (length w) 0) (omega (arith, h, length-replicate {A = ℕ} (length w) 0)))
    where
      by : {n : ℕ} → Spared rs w q (get_or (replicate (length w) 0) q 0) n ⊎ Rewritten 1 rs w q n → LastRule rs w q n
      by (inl a) =
          let none = a.is ∙ get_or-replicate (length w) q 0 0 h in
          record { few = omega (arith, none); rewrote = λ i e. absurd (omega (arith, e, none)); kept = λ i g. a.kept i }
      by (inr b) =
          record {
            few = omega (arith, b.is, b.inside);
            rewrote = λ i e f.
                let before : b.at ≡ i = omega (arith, e, b.is) in
                let now : suc i ≡ suc b.at = ap suc (sym before) in
                b.rewrote (ap (tag_behind rs w q) before ∙ f ∙ ap (tag_behind rs w q) (e ∙ now));
            kept = λ i g. b.kept i (omega (arith, g, b.is));
          }

-- ---- what LastRule says

module _ (rs : List Rule) (w : List ℕ) (q n : ℕ) (last : LastRule rs w q n) where
  -- behind that rule the tag is the result's
  result-tag : get_or (apply_all rs w) q 0 ≡ tag_behind rs w q n
  result-tag = ap (λ (x : List Rule). get_or (apply_all x w) q 0) (sym (take_all (length rs) rs (omega arith))) ∙ stays (length rs) last.few
    where
      stays : (m : ℕ) → n ≤ m → tag_behind rs w q m ≡ tag_behind rs w q n
      stays zero h = let e : zero ≡ n = omega arith in ap (tag_behind rs w q) e
      stays (suc m) h = by (dec_lt m n) (stays m)
        where
          by : Dec (m < n) → (n ≤ m → tag_behind rs w q m ≡ tag_behind rs w q n) → tag_behind rs w q (suc m) ≡ tag_behind rs w q n
          by (yes g) rec = let e : suc m ≡ n = omega arith in ap (tag_behind rs w q) e
          by (no g) rec = last.kept m (omega (arith, g)) ∙ rec (omega (arith, g))

  -- one number at most is that of the last rule
  pub last_one : (m : ℕ) → LastRule rs w q m → n ≡ m
  last_one m other = by (dec_lt n m) (dec_lt m n)
    where
      before_last : (a b : ℕ) → LastRule rs w q a → LastRule rs w q b → a < b → ⊥
      before_last a zero x y h = omega arith
      before_last a (suc b) x y h = y.rewrote b refl (sym (x.kept b (omega arith)))

      by : Dec (n < m) → Dec (m < n) → n ≡ m
      by (yes h) d = absurd (before_last n m last other h)
      by (no g) (yes h) = absurd (before_last m n other last h)
      by (no g) (no h) = omega (arith, g, h)

-- ---- the rule with a number

valid-there : (l k : ℕ) (front : List Rule) (r : Rule) (back : List Rule) → ValidRules l k (front ++ (r ∷ back)) → ValidRule l k r
valid-there l k [] r back ok = ok.0
valid-there l k (q ∷ front) r back ok = valid-there l k front r back ok.1

-- a tag that a rule has rewritten is its new tag
rewritten_tag : (l k : ℕ) (r : Rule) → ValidRule l k r → (w : List ℕ) (q : ℕ) → q < length w → (get_or w q 0 ≡ get_or (apply r w) q 0 → ⊥) → get_or (apply r w) q 0 ≡ r.tag
rewritten_tag l k r ok w q h d =
    ap (λ (x : List ℕ). get_or x q 0) (sym (mark_is_apply r w)) ∙ mark-put r (valid_changes l k r ok) r.tag w w q d h

module _ (l k : ℕ) (rs front : List Rule) (r : Rule) (back : List Rule) (there : rs ≡ front ++ (r ∷ back)) (ok : ValidRules l k rs) (w : List ℕ) (q : ℕ) where
  last_made : q < length w → LastRule rs w q (suc (length front)) → tag_behind rs w q (suc (length front)) ≡ r.tag
  last_made h last =
      let up_to : take (length front) rs ≡ front = ap (take (length front)) there ∙ take-append_seam front (r ∷ back) in
      let next : suc (length front) ≡ length front + 1 = omega arith in
      let with : take (suc (length front)) rs ≡ front ++ (r ∷ []) = ap (λ (n : ℕ). take n rs) next ∙ ap (take (length front + 1)) there ∙ take-append-add front (r ∷ back) 1 in
      let before : tag_behind rs w q (length front) ≡ get_or (apply_all front w) q 0 = ap (λ (x : List Rule). get_or (apply_all x w) q 0) up_to in
      let now : tag_behind rs w q (suc (length front)) ≡ get_or (apply r (apply_all front w)) q 0 =
      ap (λ (x : List Rule). get_or (apply_all x w) q 0) with ∙ ap (λ (x : List ℕ). get_or x q 0) (apply_all-append front (r ∷ []) w)
      in
      now
      ∙ rewritten_tag l k r (valid-there l k front r back (subst (ValidRules l k) there ok)) (apply_all front w) q (omega (arith, h, apply_all-long front w))
      (λ e. last.rewrote (length front) refl (before ∙ e ∙ sym now))

-- ---- sentences

-- one number a tag
pub traced-long : (c : Cascade) (w : List ℕ) → length (traced c w).numbers ≡ length w
traced-long c w = piecewise-long (numbers_of c.rules) (numbers-long c.rules) c.end w

module _ (l : ℕ) (c : Cascade) (ok : ValidCascade l c) (w : List ℕ) where
  module _ (q : ℕ) where
    -- the number at a place is that of the last rule that rewrote it, in its piece
    last-rule : (i : InPiece (pieces c.end w) q) → LastRule c.rules i.piece i.place (get_or (traced c w).numbers q 0)
    last-rule i =
        subst (LastRule c.rules i.piece i.place) (sym (piecewise-at (numbers_of c.rules) (numbers-long c.rules) c.end w q i))
        (last_in_piece l c.tags i.place c.rules ok i.piece i.inside)

    -- and the tag there is what it was behind that rule
    tag-there : (i : InPiece (pieces c.end w) q) → get_or (behavior c w) q 0 ≡ tag_behind c.rules i.piece i.place (get_or (traced c w).numbers q 0)
    tag-there i = piecewise-at (apply_all c.rules) (apply_all-long c.rules) c.end w q i ∙ result-tag c.rules i.piece i.place (get_or (traced c w).numbers q 0) (last-rule i)

    module _ (h : q < length w) where
      unnumbered : get_or (traced c w).numbers q 0 ≡ 0 → get_or (behavior c w) q 0 ≡ get_or w q 0
      unnumbered e =
          let i = in_piece c.end w q h in
          tag-there i ∙ ap (tag_behind c.rules i.piece i.place) e
          ∙ sym (piecewise-at (λ p. p) (λ p. refl) c.end w q i)
          ∙ ap (λ (x : List ℕ). get_or x q 0) (piecewise_same c.end w)

      numbered : (get_or (behavior c w) q 0 ≡ get_or w q 0 → ⊥) → 0 < get_or (traced c w).numbers q 0
      numbered d = by (ℕ_discrete (get_or (traced c w).numbers q 0) 0)
        where
          by : Dec (get_or (traced c w).numbers q 0 ≡ 0) → 0 < get_or (traced c w).numbers q 0
          by (yes e) = absurd (d (unnumbered e))
          by (no n) = omega (arith, n)

      numbered-tag : (front : List Rule) (r : Rule) (back : List Rule) → c.rules ≡ front ++ (r ∷ back) → get_or (traced c w).numbers q 0 ≡ suc (length front)
          → get_or (behavior c w) q 0 ≡ r.tag
      numbered-tag front r back there e =
          let i = in_piece c.end w q h in
          tag-there i ∙ ap (tag_behind c.rules i.piece i.place) e
          ∙ last_made l c.tags c.rules front r back there ok i.piece i.place i.inside (subst (LastRule c.rules i.piece i.place) e (last-rule i))

      -- all that a place tells
      pub told : Told c w q (get_or (behavior c w) q 0) (get_or (traced c w).numbers q 0)
      told = record { there = in_piece c.end w q h; last = last-rule; same = unnumbered; some = numbered; new = numbered-tag }

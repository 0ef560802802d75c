-- A rule's number stands where the rule has rewritten a tag.
use Prim.Native.Nat.{ℕ, zero, suc, ◌<◌}
use native.Mathlib.Omega.{arith}
use mathlib.Core.Path.{◌≡◌, refl, sym, ap, ap₂, ◌∙◌}
use mathlib.Core.Bool.{Bool, true, false}
use mathlib.Core.List.{List, [], ◌∷◌, ◌++◌}
use borrow.Author.Tests.{eq-eqb, ne_eqb}
use lib.Dec.{eqb}
use lib.ListN.{length, take, drop, set, get_or, length-append, length-set, take-append-drop}
use Rattle.cascades.specs.Pattern.{Class, fits}
use Rattle.cascades.specs.Rule.{Kind, once, everywhere, Rule}
use Rattle.cascades.specs.Rewrite.{behind, rewrite, apply}
use Rattle.cascades.specs.Spares.{Changes}
use Rattle.cascades.proofs.Pattern.{fits-match, match-length}
use Rattle.cascades.proofs.Rewrite.{apply-long}
use Rattle.cascades.proofs.Ending.{match-at}
use Rattle.traces.specs.Trace.{mark}
use Rattle.traces.specs.Note.{note}

-- where nothing differs
pub note-same : (x : ℕ) (w v : List ℕ) → note x w w v ≡ v
note-same x [] v = refl
note-same x (a ∷ w) [] = refl
note-same x (a ∷ w) (c ∷ v) =
    ap₂ (λ (b : Bool) (r : List ℕ). elim b [ true ↦ c | false ↦ x ] ∷ r) (eq-eqb a a refl) (note-same x w v)

-- one place more that differs: the tag there becomes another
pub note-set : (x : ℕ) (w w' v : List ℕ) (p t : ℕ) → p < length w → p < length w' → (get_or w p 0 ≡ t → ⊥)
    → note x w (set w' p t) v ≡ set (note x w w' v) p x
note-set x [] w' v p t h g d = absurd (omega arith)
note-set x (a ∷ w) [] v p t h g d = absurd (omega arith)
note-set x (a ∷ w) (b ∷ w') [] zero t h g d = refl
note-set x (a ∷ w) (b ∷ w') [] (suc p) t h g d = refl
note-set x (a ∷ w) (b ∷ w') (c ∷ v) zero t h g d = ap (λ (y : Bool). elim y [ true ↦ c | false ↦ x ] ∷ note x w w' v) (ne_eqb a t d)
note-set x (a ∷ w) (b ∷ w') (c ∷ v) (suc p) t h g d = ap (λ (r : List ℕ). elim (eqb a b) [ true ↦ c | false ↦ x ] ∷ r) (note-set x w w' v p t (omega arith) (omega arith) d)

pub note-long : (x : ℕ) (w w' v : List ℕ) → length (note x w w' v) ≡ length v
note-long x [] w' v = refl
note-long x (a ∷ w) [] v = refl
note-long x (a ∷ w) (b ∷ w') [] = refl
note-long x (a ∷ w) (b ∷ w') (c ∷ v) = ap suc (note-long x w w' v)

note-nothing : (x : ℕ) (w w' : List ℕ) → note x w w' [] ≡ []
note-nothing x [] w' = refl
note-nothing x (a ∷ w) [] = refl
note-nothing x (a ∷ w) (b ∷ w') = refl

-- two parts
note-append : (x : ℕ) (w w' y y' v : List ℕ) → length w ≡ length w'
    → note x (w ++ y) (w' ++ y') v ≡ note x w w' (take (length w) v) ++ note x y y' (drop (length w) v)
note-append x [] [] y y' v h = refl
note-append x [] (b ∷ w') y y' v h = absurd (omega arith)
note-append x (a ∷ w) [] y y' v h = absurd (omega arith)
note-append x (a ∷ w) (b ∷ w') y y' [] h = sym (note-nothing x y y')
note-append x (a ∷ w) (b ∷ w') y y' (c ∷ v) h = ap (λ (r : List ℕ). elim (eqb a b) [ true ↦ c | false ↦ x ] ∷ r) (note-append x w w' y y' v (omega arith))

-- at a place that does not differ, and at one that does
pub note-kept : (x : ℕ) (w w' v : List ℕ) (q : ℕ) → get_or w q 0 ≡ get_or w' q 0 → length w ≡ length w' → get_or (note x w w' v) q 0 ≡ get_or v q 0
note-kept x [] w' v q e l = refl
note-kept x (a ∷ w) [] v q e l = refl
note-kept x (a ∷ w) (b ∷ w') [] q e l = refl
note-kept x (a ∷ w) (b ∷ w') (c ∷ v) zero e l = ap (λ (y : Bool). elim y [ true ↦ c | false ↦ x ]) (eq-eqb a b e)
note-kept x (a ∷ w) (b ∷ w') (c ∷ v) (suc q) e l = note-kept x w w' v q e (omega arith)

pub note-put : (x : ℕ) (w w' v : List ℕ) (q : ℕ) → (get_or w q 0 ≡ get_or w' q 0 → ⊥) → q < length v → length w ≡ length w' → get_or (note x w w' v) q 0 ≡ x
note-put x [] [] v q e h l = absurd (e refl)
note-put x [] (b ∷ w') v q e h l = absurd (omega arith)
note-put x (a ∷ w) [] v q e h l = absurd (omega arith)
note-put x (a ∷ w) (b ∷ w') [] q e h l = absurd (omega arith)
note-put x (a ∷ w) (b ∷ w') (c ∷ v) zero e h l = ap (λ (y : Bool). elim y [ true ↦ c | false ↦ x ]) (ne_eqb a b e)
note-put x (a ∷ w) (b ∷ w') (c ∷ v) (suc q) e h l = note-put x w w' v q e (omega arith) (omega arith)

-- a rule writes its number exactly where it makes another tag: its new tag is another than the one at p
module _ (r : Rule) (changes : Changes r) (x : ℕ) where
  abbrev u : List Class
  u = r.pattern

  mark_notes : (n : ℕ) (w v : List ℕ) → mark n r x w v ≡ note x w (rewrite n r w) v
  mark_notes zero w v = sym (note-same x w v)
  mark_notes (suc n) [] v = refl
  mark_notes (suc n) (a ∷ w) v = by (fits u (a ∷ w)) refl (mark_notes n w (drop 1 v)) (rest r.kind (mark_notes n y (drop (length u) v)))
    where
      y : List ℕ
      y = drop (length u) (a ∷ w)

      rest : (k : Kind) → mark n r x y (drop (length u) v) ≡ note x y (rewrite n r y) (drop (length u) v)
          → behind k (mark n r x y) (drop (length u) v) ≡ note x y (behind k (rewrite n r) y) (drop (length u) v)
      rest once e = sym (note-same x y (drop (length u) v))
      rest everywhere e = e

      first : (v : List ℕ) → take 1 v ++ note x w (rewrite n r w) (drop 1 v) ≡ note x (a ∷ w) (a ∷ rewrite n r w) v
      first [] = note-nothing x w (rewrite n r w)
      first (c ∷ v) = ap (λ (b : Bool). elim b [ true ↦ c | false ↦ x ] ∷ note x w (rewrite n r w) v) (sym (eq-eqb a a refl))

      by : (t : Bool) → fits u (a ∷ w) ≡ t → mark n r x w (drop 1 v) ≡ note x w (rewrite n r w) (drop 1 v)
          → behind r.kind (mark n r x y) (drop (length u) v) ≡ note x y (behind r.kind (rewrite n r) y) (drop (length u) v)
          → ◌≡◌ {A = List ℕ}
          (elim t [ true ↦ set (take (length u) v) r.place x ++ behind r.kind (mark n r x y) (drop (length u) v) | false ↦ take 1 v ++ mark n r x w (drop 1 v) ])
          (note x (a ∷ w) (elim t [ true ↦ set (take (length u) (a ∷ w)) r.place r.tag ++ behind r.kind (rewrite n r) y | false ↦ a ∷ rewrite n r w ]) v)
      by true p e f =
          let m = take (length u) (a ∷ w) in
          let match = fits-match u (a ∷ w) p in
          let is : a ∷ w ≡ m ++ y = sym (take-append-drop (length u) (a ∷ w)) in
          let long : length m ≡ length u = match-length u m match in
          let inside : r.place < length m = omega (arith, changes.inside) in
          let other : get_or m r.place 0 ≡ r.tag → ⊥ = λ g. changes.new (sym (match-at u m r.place match changes.fixed) ∙ g) in
          let z = behind r.kind (rewrite n r) y in
          sym (ap (λ (s : List ℕ). note x s (set m r.place r.tag ++ z) v) is
          ∙ note-append x m (set m r.place r.tag) y z v (sym (length-set m r.place r.tag))
          ∙ ap₂ (λ (s t : List ℕ). s ++ t)
          (note-set x m m (take (length m) v) r.place r.tag inside inside other ∙ ap (λ (s : List ℕ). set s r.place x) (note-same x m (take (length m) v)) ∙ ap (λ (i : ℕ). set (take i v) r.place x) long)
          (ap (λ (i : ℕ). note x y z (drop i v)) long ∙ sym f))
      by false p e f = ap (λ (s : List ℕ). take 1 v ++ s) e ∙ first v

  pub mark_is_note : (w v : List ℕ) → mark (length w) r x w v ≡ note x w (apply r w) v
  mark_is_note w v = mark_notes (length w) w v

  -- at a place
  module _ (w v : List ℕ) (q : ℕ) where
    pub mark-kept : get_or w q 0 ≡ get_or (apply r w) q 0 → get_or (mark (length w) r x w v) q 0 ≡ get_or v q 0
    mark-kept e = ap (λ (y : List ℕ). get_or y q 0) (mark_is_note w v) ∙ note-kept x w (apply r w) v q e (sym (apply-long r w))

    pub mark-put : (get_or w q 0 ≡ get_or (apply r w) q 0 → ⊥) → q < length v → get_or (mark (length w) r x w v) q 0 ≡ x
    mark-put e h = ap (λ (y : List ℕ). get_or y q 0) (mark_is_note w v) ∙ note-put x w (apply r w) v q e h (sym (apply-long r w))

-- the new tag, written as the number is, in the sentence itself is what the rule makes of it
mark-tag : (r : Rule) (n : ℕ) (w : List ℕ) → mark n r r.tag w w ≡ rewrite n r w
mark-tag r zero w = refl
mark-tag r (suc n) [] = refl
mark-tag r (suc n) (a ∷ w) = by (fits r.pattern (a ∷ w)) (mark-tag r n w) (rest r.kind (mark-tag r n y))
  where
    y : List ℕ
    y = drop (length r.pattern) (a ∷ w)

    front : List ℕ
    front = set (take (length r.pattern) (a ∷ w)) r.place r.tag

    rest : (k : Kind) → mark n r r.tag y y ≡ rewrite n r y → behind k (mark n r r.tag y) y ≡ behind k (rewrite n r) y
    rest once e = refl
    rest everywhere e = e

    by : (t : Bool) → mark n r r.tag w w ≡ rewrite n r w → behind r.kind (mark n r r.tag y) y ≡ behind r.kind (rewrite n r) y
        → ◌≡◌ {A = List ℕ}
        (elim t [ true ↦ front ++ behind r.kind (mark n r r.tag y) y | false ↦ a ∷ mark n r r.tag w w ])
        (elim t [ true ↦ front ++ behind r.kind (rewrite n r) y | false ↦ a ∷ rewrite n r w ])
    by true e f = ap (λ (s : List ℕ). front ++ s) f
    by false e f = ap (λ (s : List ℕ). a ∷ s) e

pub mark_is_apply : (r : Rule) (w : List ℕ) → mark (length w) r r.tag w w ≡ apply r w
mark_is_apply r w = mark-tag r (length w) w

-- a rule's number takes no room of its own
mark-size : (n : ℕ) (r : Rule) (x : ℕ) (w v : List ℕ) → length (mark n r x w v) ≡ length v
mark-size zero r x w v = refl
mark-size (suc n) r x [] v = refl
mark-size (suc n) r x (a ∷ w) v = by (fits r.pattern (a ∷ w)) (mark-size n r x w (drop 1 v)) (rest r.kind (mark-size n r x y (drop m v)))
  where
    m : ℕ
    m = length r.pattern

    y : List ℕ
    y = drop m (a ∷ w)

    rest : (k : Kind) → length (mark n r x y (drop m v)) ≡ length (drop m v) → length (behind k (mark n r x y) (drop m v)) ≡ length (drop m v)
    rest once e = refl
    rest everywhere e = e

    joined : (i : ℕ) (p q : List ℕ) → length p ≡ length (take i v) → length q ≡ length (drop i v) → length (p ++ q) ≡ length v
    joined i p q e f = omega (arith, length-append p q, e, f, length-append (take i v) (drop i v), ap length (take-append-drop i v))

    by : (t : Bool) → length (mark n r x w (drop 1 v)) ≡ length (drop 1 v) → length (behind r.kind (mark n r x y) (drop m v)) ≡ length (drop m v)
        → length {A = ℕ} (elim t [ true ↦ set (take m v) r.place x ++ behind r.kind (mark n r x y) (drop m v) | false ↦ take 1 v ++ mark n r x w (drop 1 v) ]) ≡ length v
    by true e f = joined m (set (take m v) r.place x) (behind r.kind (mark n r x y) (drop m v)) (length-set (take m v) r.place x) f
    by false e f = joined 1 (take 1 v) (mark n r x w (drop 1 v)) refl e

pub mark-long : (r : Rule) (x : ℕ) (w v : List ℕ) → length (mark (length w) r x w v) ≡ length v
mark-long r x w v = mark-size (length w) r x w v

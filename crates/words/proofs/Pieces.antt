-- Laws of pieces.
use Prim.Native.Nat.{ℕ, zero, suc, ◌<◌, ◌≤◌}
use native.Mathlib.Omega.{arith}
use mathlib.Core.Path.{◌≡◌, refl, sym, ap, ap₂, ◌∙◌, subst}
use mathlib.Core.Logic.{◌↔◌}
use mathlib.Core.Bool.{Bool, true, false, false≢true}
use mathlib.Core.List.{List, [], ◌∷◌, ◌++◌, map, append-nil}
use borrow.Author.Tests.{eqb-true, ne_eqb, eq-eqb}
use lib.Dec.{eqb}
use lib.ListN.{get_or, set}
use Rattle.words.specs.Word.{Below}
use Rattle.words.specs.Pieces.{onto, pieces, each, piecewise}

-- no tag of the word is e
abbrev pub Without : ℕ → List ℕ → Type 0
Without e [] = Unit {0}
Without e (a ∷ w) = (a ≡ e → ⊥) × Without e w

-- what is no tag stands in no sentence
pub without_below : (e k : ℕ) (w : List ℕ) → k ≤ e → Below k w → Without e w
without_below e k [] h b = tt
without_below e k (a ∷ w) h b = (λ f. omega (arith, f, b.0), without_below e k w h b.1)

-- a word without e is one piece
pub pieces_without : (e : ℕ) (w : List ℕ) → Without e w → pieces e w ≡ w ∷ []
pieces_without e [] h = refl
pieces_without e (a ∷ w) h = rw (ne_eqb a e h.0, pieces) (ap (onto a) (pieces_without e w h.1))

pub piecewise_without : (e : ℕ) (f : List ℕ → List ℕ) (w : List ℕ) → Without e w → piecewise e f w ≡ f w
piecewise_without e f w h = ap (each f) (pieces_without e w h) ∙ append-nil (f w)

-- a piece that ends with e, and nothing else of it is e
pub record Ends (e : ℕ) (p : List ℕ) : Type 0 where
  pub front : List ℕ
  pub free : Without e front
  pub is : p ≡ front ++ (e ∷ [])

-- all end with e but the last, which is without it
abbrev pub Pieces : ℕ → List (List ℕ) → Type 0
Pieces e [] = ⊥
Pieces e (p ∷ []) = Without e p
Pieces e (p ∷ q ∷ ps) = Ends e p × Pieces e (q ∷ ps)

pub cut-front : (e : ℕ) (x w : List ℕ) → Without e x → pieces e ((x ++ (e ∷ [])) ++ w) ≡ (x ++ (e ∷ [])) ∷ pieces e w
cut-front e [] w h = rw (eq-eqb e e refl, pieces) refl
cut-front e (a ∷ x) w h = rw (ne_eqb a e h.0, pieces) (ap (onto a) (cut-front e x w h.1))

-- pieces that are joined are cut again
pub pieces-joined : (e : ℕ) (ps : List (List ℕ)) → Pieces e ps → pieces e (each (λ p. p) ps) ≡ ps
pieces-joined e [] h = absurd h
pieces-joined e (p ∷ []) h = ap (pieces e) (append-nil p) ∙ pieces_without e p h
pieces-joined e (p ∷ q ∷ ps) h =
    let r = pieces-joined e (q ∷ ps) h.1 in
    ap (λ (x : List ℕ). pieces e (x ++ each (λ y. y) (q ∷ ps))) h.0.is ∙ cut-front e h.0.front (each (λ y. y) (q ∷ ps)) h.0.free
    ∙ ap₂ (λ (x : List ℕ) (xs : List (List ℕ)). x ∷ xs) (sym h.0.is) r

-- a word's pieces are pieces
pub pieces_are : (e : ℕ) (w : List ℕ) → Pieces e (pieces e w)
pieces_are e [] = tt
pieces_are e (a ∷ w) = by (eqb a e) refl (pieces e w) (pieces_are e w)
  where
    by : (t : Bool) → eqb a e ≡ t → (ps : List (List ℕ)) → Pieces e ps → Pieces e (elim t as (λ x. List (List ℕ)) [ true ↦ (a ∷ []) ∷ ps | false ↦ onto a ps ])
    by t f [] h = absurd h
    by true f (p ∷ ps) h = (record { front = []; free = tt; is = ap (λ (x : ℕ). x ∷ []) (eqb-true a e f) }, h)
    by false f (p ∷ []) h = (λ g. absurd (false≢true (sym f ∙ eq-eqb a e g)), h)
    by false f (p ∷ q ∷ ps) h =
        (record { front = a ∷ h.0.front; free = (λ g. absurd (false≢true (sym f ∙ eq-eqb a e g)), h.0.free); is = ap (λ (x : List ℕ). a ∷ x) h.0.is }, h.1)

-- g leaves every e where it is
pub record Keeps (e : ℕ) (g : List ℕ → List ℕ) : Type 0 where
  pub without : (p : List ℕ) → Without e p → Without e (g p)
  pub ends : (p : List ℕ) → Ends e p → Ends e (g p)

-- what is made of each piece are the pieces of the result
pieces-each : (e : ℕ) (g : List ℕ → List ℕ) → Keeps e g → (ps : List (List ℕ)) → Pieces e ps → Pieces e (map g ps)
pieces-each e g keeps [] h = absurd h
pieces-each e g keeps (p ∷ []) h = keeps.without p h
pieces-each e g keeps (p ∷ q ∷ ps) h = (keeps.ends p h.0, pieces-each e g keeps (q ∷ ps) h.1)

each_map : (f g : List ℕ → List ℕ) (ps : List (List ℕ)) → each f (map g ps) ≡ each (λ p. f (g p)) ps
each_map f g [] = refl
each_map f g (p ∷ ps) = ap (λ (x : List ℕ). f (g p) ++ x) (each_map f g ps)

-- one after the other, piece by piece, is both on each piece
pub piecewise_then : (e : ℕ) (f g : List ℕ → List ℕ) → Keeps e g → (w : List ℕ) → piecewise e f (piecewise e g w) ≡ piecewise e (λ p. f (g p)) w
piecewise_then e f g keeps w =
    let ps = pieces e w in
    let cut : pieces e (each g ps) ≡ map g ps = ap (pieces e) (sym (each_map (λ p. p) g ps)) ∙ pieces-joined e (map g ps) (pieces-each e g keeps ps (pieces_are e w)) in
    ap (each f) cut ∙ each_map f g ps

-- joined as they are, the pieces are the word
pub piecewise_same : (e : ℕ) (w : List ℕ) → piecewise e (λ p. p) w ≡ w
piecewise_same e [] = refl
piecewise_same e (a ∷ w) = by (eqb a e) (pieces e w) (piecewise_same e w)
  where
    by : (t : Bool) (ps : List (List ℕ)) → each (λ p. p) ps ≡ w → each (λ p. p) (elim t as (λ x. List (List ℕ)) [ true ↦ (a ∷ []) ∷ ps | false ↦ onto a ps ]) ≡ a ∷ w
    by true ps h = ap (λ (x : List ℕ). a ∷ x) h
    by false [] h = ap (λ (x : List ℕ). a ∷ x) h
    by false (p ∷ ps) h = ap (λ (x : List ℕ). a ∷ x) h

-- two words have e at the same places, and are equally long
abbrev pub Marks : ℕ → List ℕ → List ℕ → Type 0
Marks e [] [] = Unit {0}
Marks e [] (b ∷ v) = ⊥
Marks e (a ∷ w) [] = ⊥
Marks e (a ∷ w) (b ∷ v) = ((a ≡ e) ↔ (b ≡ e)) × Marks e w v

pub marks-same : (e : ℕ) (w : List ℕ) → Marks e w w
marks-same e [] = tt
marks-same e (a ∷ w) = ((λ h. h, λ h. h), marks-same e w)

pub marks-append : (e : ℕ) (w v x y : List ℕ) → Marks e w v → Marks e x y → Marks e (w ++ x) (v ++ y)
marks-append e [] [] x y h g = g
marks-append e [] (b ∷ v) x y h g = absurd h
marks-append e (a ∷ w) [] x y h g = absurd h
marks-append e (a ∷ w) (b ∷ v) x y h g = (h.0, marks-append e w v x y h.1 g)

-- a tag that is not e has become another that is not
pub marks-set : (e p t : ℕ) (w : List ℕ) → (get_or w p 0 ≡ e → ⊥) → (t ≡ e → ⊥) → Marks e w (set w p t)
marks-set e p t [] h g = tt
marks-set e zero t (a ∷ w) h g = ((λ f. absurd (h f), λ f. absurd (g f)), marks-same e w)
marks-set e (suc p) t (a ∷ w) h g = ((λ f. f, λ f. f), marks-set e p t w h g)

without_marks : (e : ℕ) (w v : List ℕ) → Marks e w v → Without e w → Without e v
without_marks e [] [] h f = tt
without_marks e [] (b ∷ v) h f = absurd h
without_marks e (a ∷ w) [] h f = tt
without_marks e (a ∷ w) (b ∷ v) h f = (λ g. f.0 (h.0.1 g), without_marks e w v h.1 f.1)

ends-marks : (e : ℕ) (x v : List ℕ) → Without e x → Marks e (x ++ (e ∷ [])) v → Ends e v
ends-marks e [] [] f h = absurd h
ends-marks e [] (b ∷ []) f h = record { front = []; free = tt; is = ap (λ (y : ℕ). y ∷ []) (h.0.0 refl) }
ends-marks e [] (b ∷ c ∷ v) f h = absurd h.1
ends-marks e (a ∷ x) [] f h = absurd h
ends-marks e (a ∷ x) (b ∷ v) f h =
    let r = ends-marks e x v f.1 h.1 in
    record { front = b ∷ r.front; free = (λ g. f.0 (h.0.1 g), r.free); is = ap (λ (y : List ℕ). b ∷ y) r.is }

pub keeps_marks : (e : ℕ) (g : List ℕ → List ℕ) → ((w : List ℕ) → Marks e w (g w)) → Keeps e g
keeps_marks e g marks =
    record {
      without = λ p h. without_marks e p (g p) (marks p) h;
      ends = λ p h. ends-marks e h.front (g p) h.free (subst (λ (x : List ℕ). Marks e x (g p)) h.is (marks p));
    }

pub keeps_then : (e : ℕ) (f g : List ℕ → List ℕ) → Keeps e f → Keeps e g → Keeps e (λ w. f (g w))
keeps_then e f g a b = record { without = λ p h. a.without (g p) (b.without p h); ends = λ p h. a.ends (g p) (b.ends p h) }

-- the pieces of a word of tags below k are such words, and what is made of them alone counts
pub piecewise-below : (e k : ℕ) (f g : List ℕ → List ℕ) → ((p : List ℕ) → Below k p → f p ≡ g p) → (w : List ℕ) → Below k w → piecewise e f w ≡ piecewise e g w
piecewise-below e k f g same w h = by (pieces e w) (below-pieces w h)
  where
    Belows : List (List ℕ) → Type 0
    Belows [] = Unit {0}
    Belows (p ∷ ps) = Below k p × Belows ps

    below-onto : (a : ℕ) (ps : List (List ℕ)) → a < k → Belows ps → Belows (onto a ps)
    below-onto a [] h g = ((h, tt), tt)
    below-onto a (p ∷ ps) h g = ((h, g.0), g.1)

    below-pieces : (w : List ℕ) → Below k w → Belows (pieces e w)
    below-pieces [] h = (tt, tt)
    below-pieces (a ∷ w) h = at (eqb a e) (pieces e w) (below-pieces w h.1)
      where
        at : (t : Bool) (ps : List (List ℕ)) → Belows ps → Belows (elim t as (λ x. List (List ℕ)) [ true ↦ (a ∷ []) ∷ ps | false ↦ onto a ps ])
        at true ps g = ((h.0, tt), g)
        at false ps g = below-onto a ps h.0 g

    by : (ps : List (List ℕ)) → Belows ps → each f ps ≡ each g ps
    by [] h = refl
    by (p ∷ ps) h = ap₂ (λ (x y : List ℕ). x ++ y) (same p h.0) (by ps h.1)

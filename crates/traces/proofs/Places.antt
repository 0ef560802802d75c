-- The places of a sentence in its pieces.
use Prim.Native.Nat.{ℕ, ◌+◌, ◌-◌, ◌<◌}
use native.Mathlib.Omega.{arith}
use native.Mathlib.Decide.{dec_lt}
use mathlib.Core.Path.{◌≡◌, refl, sym, ap, ap₂, ◌∙◌, subst}
use mathlib.Core.List.{List, [], ◌∷◌, ◌++◌, append_assoc}
use lib.ListN.{length, get_or, length-append, get_or-append}
use lib.Seq.{get_or-append-add}
use Rattle.words.specs.Pieces.{pieces, each, piecewise}
use Rattle.words.proofs.Pieces.{piecewise_same}
use Rattle.traces.specs.Last.{InPiece}

each_append : (f : List ℕ → List ℕ) (ps qs : List (List ℕ)) → each f (ps ++ qs) ≡ each f ps ++ each f qs
each_append f [] qs = refl
each_append f (p ∷ ps) qs = ap (λ (x : List ℕ). f p ++ x) (each_append f ps qs) ∙ sym (append_assoc (f p) (each f ps) (each f qs))

-- what is made of each piece alone counts
pub each_same : (f g : List ℕ → List ℕ) → ((p : List ℕ) → f p ≡ g p) → (ps : List (List ℕ)) → each f ps ≡ each g ps
each_same f g e [] = refl
each_same f g e (p ∷ ps) = ap₂ (λ (x y : List ℕ). x ++ y) (e p) (each_same f g e ps)

-- what keeps the length of each piece keeps that of all
module _ (f : List ℕ → List ℕ) (long : (p : List ℕ) → length (f p) ≡ length p) where
  each_long : (ps : List (List ℕ)) → length (each f ps) ≡ length (each (λ p. p) ps)
  each_long [] = refl
  each_long (p ∷ ps) = omega (arith, length-append (f p) (each f ps), length-append p (each (λ q. q) ps), long p, each_long ps)

  pub piecewise-long : (e : ℕ) (w : List ℕ) → length (piecewise e f w) ≡ length w
  piecewise-long e w = each_long (pieces e w) ∙ ap length (piecewise_same e w)

  -- what it makes of a place is what it makes of it in its piece
  pub piecewise-at : (e : ℕ) (w : List ℕ) (q : ℕ) (i : InPiece (pieces e w) q) → get_or (piecewise e f w) q 0 ≡ get_or (f i.piece) i.place 0
  piecewise-at e w q i =
      let x = f i.piece in
      let there : q ≡ length (each f i.before) + i.place = omega (arith, i.is, each_long i.before) in
      ap₂ (λ (y : List ℕ) (n : ℕ). get_or y n 0) (ap (each f) i.cut ∙ each_append f i.before (i.piece ∷ i.behind)) there
      ∙ get_or-append-add (each f i.before) (x ++ each f i.behind) i.place 0
      ∙ get_or-append x (each f i.behind) 0 i.place (omega (arith, i.inside, long i.piece))

-- every place is one of a piece
split : (ps : List (List ℕ)) (q : ℕ) → q < length (each (λ p. p) ps) → InPiece ps q
split [] q h = absurd (omega arith)
split (p ∷ ps) q h = by (dec_lt q (length p)) (split ps (q - length p))
  where
    by : Dec (q < length p) → (q - length p < length (each (λ x. x) ps) → InPiece ps (q - length p)) → InPiece (p ∷ ps) q
    by (yes l) rest = record { before = []; piece = p; behind = ps; place = q; cut = refl; inside = l; is = omega arith }
    by (no n) rest =
        let s = rest (omega (arith, n, h, length-append p (each (λ x. x) ps))) in
        record {
          before = p ∷ s.before;
          piece = s.piece;
          behind = s.behind;
          place = s.place;
          cut = ap (λ (x : List (List ℕ)). p ∷ x) s.cut;
          inside = s.inside;
          is = omega (arith, n, s.is, length-append p (each (λ x. x) s.before));
        }

pub in_piece : (e : ℕ) (w : List ℕ) (q : ℕ) → q < length w → InPiece (pieces e w) q
in_piece e w q h = split (pieces e w) q (subst (λ (x : List ℕ). q < length x) (sym (piecewise_same e w)) h)

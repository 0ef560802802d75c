-- The pieces of a sentence, one by one.
use Prim.Native.Nat.{ℕ, ◌+◌, ◌<◌}
use native.Mathlib.Omega.{arith}
use native.Mathlib.Numerals.{add-one}
use mathlib.Core.Path.{◌≡◌, refl, sym, ap, ap₂, ◌∙◌, subst}
use mathlib.Core.List.{List, [], ◌∷◌, ◌++◌, append-nil}
use lib.ListN.{length, take, drop, get_or, take-append-drop, length-append, length-drop}
use lib.Seq.{drop-length, take-suc, take_all, take_at, drop_at, length-take-le}
use Rattle.limits.specs.Limits.{no_end}
use Rattle.words.specs.Word.{Below}
use Rattle.words.specs.Pieces.{pieces, each, piecewise}
use Rattle.words.specs.Parts.{Begun}
use Rattle.words.proofs.Pieces.{Without, without_below, piecewise_without, cut-front}
use Rattle.application.specs.Pieces.{FirstPiece}

nothing_of : (w : List ℕ) → length w ≡ 0 → w ≡ []
nothing_of [] h = refl
nothing_of (a ∷ w) h = absurd (omega arith)

without_append : (e : ℕ) (w v : List ℕ) → Without e w → Without e v → Without e (w ++ v)
without_append e [] v h g = g
without_append e (a ∷ w) v h g = (h.0, without_append e w v h.1 g)

module _ (e : ℕ) (s : List ℕ) (i : ℕ) (free : Without e (take i s)) where
  -- one more tag that is not the end tag
  pub passed-more : i < length s → (get_or s i 0 ≡ e → ⊥) → Without e (take (i + 1) s)
  passed-more h n = rw (add-one i, take-suc s i 0 h) (without_append e (take i s) (get_or s i 0 ∷ []) free (n, tt))

  -- the end tag
  pub ends-here : i < length s → get_or s i 0 ≡ e → FirstPiece s e (i + 1)
  ends-here h is =
      record {
        inside = omega arith;
        some = λ z. omega arith;
        cut = λ f z. ap (each f) (ap (pieces e) whole ∙ cut-front e (take i s) (drop (i + 1) s) free)
            ∙ ap (λ (x : List ℕ). f x ++ piecewise e f (drop (i + 1) s)) (sym front);
      }
    where
      front : take (i + 1) s ≡ take i s ++ (e ∷ [])
      front = ap (λ (n : ℕ). take n s) (add-one i) ∙ take-suc s i 0 h ∙ ap (λ (x : ℕ). take i s ++ (x ∷ [])) is

      whole : s ≡ (take i s ++ (e ∷ [])) ++ drop (i + 1) s
      whole = sym (take-append-drop (i + 1) s) ∙ ap (λ (x : List ℕ). x ++ drop (i + 1) s) front

  -- no end tag
  pub ends_nowhere : i ≡ length s → FirstPiece s e i
  ends_nowhere is =
      record {
        inside = omega arith;
        some = λ z. omega arith;
        cut = λ f z. piecewise_without e f s (subst (Without e) all free) ∙ sym (ap₂ (λ (x y : List ℕ). f x ++ piecewise e f y) all rest ∙ ap (λ (x : List ℕ). f s ++ (x ++ [])) z ∙ append-nil (f s));
      }
    where
      all : take i s ≡ s
      all = take_all i s (omega arith)

      rest : drop i s ≡ []
      rest = ap (λ (n : ℕ). drop n s) is ∙ drop-length s

-- the first piece has been rewritten where it stands, and in v, which lies beside the sentence, stands what G makes of it
begun_beside : (e : ℕ) (G : List ℕ → List ℕ) → ((w : List ℕ) → length (G w) ≡ length w) → (s x v y : List ℕ) (r : ℕ) → FirstPiece s e r
    → length x ≡ length s → drop r x ≡ drop r s → length v ≡ length s → y ≡ G (take r s) ++ drop r v → Begun (piecewise e G) (piecewise e G) s x y r
begun_beside e G long s x v y r piece size rest beside is =
    let front : length (G (take r s)) ≡ r = long (take r s) ∙ length-take-le r s piece.inside in
    record {
      inside = omega (arith, size, piece.inside);
      long = size;
      beside = omega (arith, ap length is, length-append (G (take r s)) (drop r v), front, length-drop r v, piece.inside, size, beside);
      cut =
          piece.cut G (nothing_of (G []) (long []))
          ∙ sym (ap₂ (λ (a b : List ℕ). a ++ piecewise e G b)
          (ap (take r) is ∙ take_at (G (take r s)) (drop r v) r front)
          rest);
    }

module _ (e : ℕ) (F : List ℕ → List ℕ) (long : (w : List ℕ) → length (F w) ≡ length w) (s x : List ℕ) (r : ℕ) (piece : FirstPiece s e r) (is : x ≡ F (take r s) ++ drop r s) where
  front : length (F (take r s)) ≡ r
  front = long (take r s) ∙ length-take-le r s piece.inside

  size : length x ≡ length s
  size = omega (arith, ap length is, length-append (F (take r s)) (drop r s), front, length-drop r s, piece.inside)

  rest : drop r x ≡ drop r s
  rest = ap (drop r) is ∙ drop_at (F (take r s)) (drop r s) r front

  -- the sentence itself
  pub begun_piece : Begun (piecewise e F) (piecewise e F) s x x r
  begun_piece = begun_beside e F long s x s x r piece size rest refl is

  -- and numbers beside it
  pub begun_numbers : (G : List ℕ → List ℕ) → ((w : List ℕ) → length (G w) ≡ length w) → (v y : List ℕ) → length v ≡ length s → y ≡ G (take r s) ++ drop r v
      → Begun (piecewise e G) (piecewise e G) s x y r
  begun_numbers G g-long v y beside there = begun_beside e G g-long s x v y r piece size rest beside there

-- nothing is made of nothing
pub piecewise-nothing : (e : ℕ) (F : List ℕ → List ℕ) → ((w : List ℕ) → length (F w) ≡ length w) → piecewise e F [] ≡ []
piecewise-nothing e F long = ap (λ (l : List ℕ). l ++ []) (nothing_of (F []) (long []))

-- tags only, and no end tag: one piece
pub one_piece : (e : ℕ) (F : List ℕ → List ℕ) (s : List ℕ) → e ≡ no_end → Below no_end s → F s ≡ piecewise e F s
one_piece e F s is below = sym (piecewise_without e F s (without_below e no_end s (omega (arith, is)) below))

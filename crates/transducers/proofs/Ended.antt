-- The transducer that begins afresh after an end tag does with each piece what the transducer does.
use Prim.Native.Nat.{ℕ, ◌+◌, ◌<◌}
use native.Mathlib.Omega.{arith}
use mathlib.Core.Path.{◌≡◌, sym, ap, ◌∙◌}
use mathlib.Core.Bool.{Bool, true, false}
use mathlib.Core.List.{List, [], ◌∷◌, ◌++◌, append-nil, append_assoc}
use lib.Dec.{eqb}
use lib.ListN.{length, length-append}
use Rattle.words.specs.Word.{Below}
use Rattle.words.specs.Pieces.{onto, pieces, each, piecewise}
use Rattle.words.proofs.Word.{below-append}
use Rattle.words.proofs.Pieces.{Pieces, pieces_are}
use Rattle.transducers.specs.Transducer.{Shape, puts}
use Rattle.transducers.specs.Canonical.{Sound}
use Rattle.transducers.specs.Ended.{ended}

-- what f makes of the first piece, and g of each further one
abbrev each_from : (List ℕ → List ℕ) → (List ℕ → List ℕ) → List (List ℕ) → List ℕ
each_from f g [] = f []
each_from f g (p ∷ ps) = f p ++ each g ps

module _ (e : ℕ) (S : Shape) where
  -- the first piece from the state q, each further one from the start
  puts-from : (q : ℕ) (w : List ℕ) → puts (ended e S) q w ≡ each_from (puts S q) (puts S 0) (pieces e w)
  puts-from q [] = sym (append-nil (S.final q))
  puts-from q (a ∷ w) = by (eqb a e) (pieces e w) (pieces_are e w) (puts-from 0 w) (puts-from (S.next q a) w)
    where
      by : (t : Bool) (ps : List (List ℕ)) → Pieces e ps → puts (ended e S) 0 w ≡ each_from (puts S 0) (puts S 0) ps
          → puts (ended e S) (S.next q a) w ≡ each_from (puts S (S.next q a)) (puts S 0) ps
          → ◌≡◌ {A = List ℕ}
          ((elim t as (λ x. List ℕ) [ true ↦ S.output q a ++ S.final (S.next q a) | false ↦ S.output q a ]) ++ puts (ended e S) (elim t as (λ x. ℕ) [ true ↦ 0 | false ↦ S.next q a ]) w)
          (each_from (puts S q) (puts S 0) (elim t as (λ x. List (List ℕ)) [ true ↦ (a ∷ []) ∷ ps | false ↦ onto a ps ]))
      by t [] n h g = absurd n
      by true (p ∷ ps) n h g = ap (λ (x : List ℕ). (S.output q a ++ S.final (S.next q a)) ++ x) h
      by false (p ∷ ps) n h g = ap (λ (x : List ℕ). S.output q a ++ x) g ∙ sym (append_assoc (S.output q a) (puts S (S.next q a) p) (each (puts S 0) ps))

  -- what S does, piece by piece
  pub does-ended : (w : List ℕ) → puts (ended e S) 0 w ≡ piecewise e (puts S 0) w
  does-ended w = by (pieces e w) (pieces_are e w) (puts-from 0 w)
    where
      by : (ps : List (List ℕ)) → Pieces e ps → puts (ended e S) 0 w ≡ each_from (puts S 0) (puts S 0) ps → puts (ended e S) 0 w ≡ each (puts S 0) ps
      by [] n h = absurd n
      by (p ∷ ps) n h = h

  module _ (k : ℕ) (sound : Sound k S) where
    pub sound-ended : Sound k (ended e S)
    sound-ended =
        record {
          some = sound.some;
          empty = sound.empty;
          next_below = λ q a h g. next_in q a h g (eqb a e);
          output_below = λ q a h g. output_in q a h g (eqb a e);
          final_below = sound.final_below;
          balanced = λ q a h g. even q a h g (eqb a e);
        }
      where
        next_in : (q a : ℕ) → q < S.count → a < k → (t : Bool) → elim t as (λ x. ℕ) [ true ↦ 0 | false ↦ S.next q a ] < S.count
        next_in q a h g true = sound.some
        next_in q a h g false = sound.next_below q a h g

        output_in : (q a : ℕ) → q < S.count → a < k → (t : Bool) → Below k (elim t as (λ x. List ℕ) [ true ↦ S.output q a ++ S.final (S.next q a) | false ↦ S.output q a ])
        output_in q a h g true =
            below-append k (S.output q a) (S.final (S.next q a)) (sound.output_below q a h g) (sound.final_below (S.next q a) (sound.next_below q a h g))
        output_in q a h g false = sound.output_below q a h g

        even : (q a : ℕ) → q < S.count → a < k → (t : Bool)
            → length {A = ℕ} (elim t as (λ x. List ℕ) [ true ↦ S.output q a ++ S.final (S.next q a) | false ↦ S.output q a ]) + length (S.final (elim t as (λ x. ℕ) [ true ↦ 0 | false ↦ S.next q a ]))
            ≡ length (S.final q) + 1
        even q a h g true = omega (arith, length-append (S.output q a) (S.final (S.next q a)), sound.balanced q a h g, ap length sound.empty)
        even q a h g false = sound.balanced q a h g

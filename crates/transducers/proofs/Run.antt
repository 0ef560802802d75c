-- Laws of runs: what is put out at once and later, in range and in length; and of the order of steps.
use Prim.Native.Nat.{ℕ, ◌+◌, ◌*◌, ◌≤◌, ◌<◌}
use native.Mathlib.Omega.{arith}
use native.Mathlib.Nat.{mul-le-mul_right}
use mathlib.Core.Logic.{inl, inr}
use mathlib.Core.Path.{◌≡◌, refl, sym, ap, ◌∙◌}
use mathlib.Core.List.{List, [], ◌∷◌, ◌++◌, append_assoc}
use lib.ListN.{length, length-append}
use Rattle.words.specs.Word.{Below}
use Rattle.words.proofs.Word.{below-append}
use Rattle.transducers.specs.Transducer.{Shape, puts}
use Rattle.transducers.specs.Run.{walk, outputs}
use Rattle.transducers.specs.Canonical.{Inside, Sound, Held}
use Rattle.transducers.specs.Numbered.{Before, Earlier}

pub puts-append : (S : Shape) (q : ℕ) (w x : List ℕ) → puts S q (w ++ x) ≡ outputs S q w ++ puts S (walk S q w) x
puts-append S q [] x = refl
puts-append S q (a ∷ w) x = ap (λ (l : List ℕ). S.output q a ++ l) (puts-append S (S.next q a) w x)
    ∙ sym (append_assoc (S.output q a) (outputs S (S.next q a) w) (puts S (walk S (S.next q a) w) x))

pub walk-append : (S : Shape) (q : ℕ) (w x : List ℕ) → walk S q (w ++ x) ≡ walk S (walk S q w) x
walk-append S q [] x = refl
walk-append S q (a ∷ w) x = walk-append S (S.next q a) w x

pub walk-below : (k : ℕ) (S : Shape) → Inside k S → (q : ℕ) → q < S.count → (w : List ℕ) → Below k w → walk S q w < S.count
walk-below k S in_range_lem q hq [] hw = hq
walk-below k S in_range_lem q hq (a ∷ w) hw = walk-below k S in_range_lem (S.next q a) (in_range_lem q a hq hw.0) w hw.1

module _ (k : ℕ) (S : Shape) (sound : Sound k S) where
  pub outputs-below : (q : ℕ) → q < S.count → (w : List ℕ) → Below k w → Below k (outputs S q w)
  outputs-below q hq [] hw = tt
  outputs-below q hq (a ∷ w) hw =
      below-append k (S.output q a) (outputs S (S.next q a) w) (sound.output_below q a hq hw.0)
      (outputs-below (S.next q a) (sound.next_below q a hq hw.0) w hw.1)

  pub puts-below : (q : ℕ) → q < S.count → (w : List ℕ) → Below k w → Below k (puts S q w)
  puts-below q hq [] hw = sound.final_below q hq
  puts-below q hq (a ∷ w) hw =
      below-append k (S.output q a) (puts S (S.next q a) w) (sound.output_below q a hq hw.0)
      (puts-below (S.next q a) (sound.next_below q a hq hw.0) w hw.1)

  -- what is put out and held is as long as what was held and read
  pub outputs-length : (q : ℕ) → q < S.count → (w : List ℕ) → Below k w
      → length (outputs S q w) + length (S.final (walk S q w)) ≡ length (S.final q) + length w
  outputs-length q hq [] hw = omega arith
  outputs-length q hq (a ∷ w) hw =
      let rest = outputs-length (S.next q a) (sound.next_below q a hq hw.0) w hw.1 in
      omega (arith, length-append (S.output q a) (outputs S (S.next q a) w), sound.balanced q a hq hw.0)

  pub puts-length : (q : ℕ) → q < S.count → (w : List ℕ) → Below k w → length (puts S q w) ≡ length (S.final q) + length w
  puts-length q hq [] hw = omega arith
  puts-length q hq (a ∷ w) hw =
      let rest = puts-length (S.next q a) (sound.next_below q a hq hw.0) w hw.1 in
      omega (arith, length-append (S.output q a) (puts S (S.next q a) w), sound.balanced q a hq hw.0)

-- a step puts out at most one tag more than its state holds
pub output-length : (k d : ℕ) (S : Shape) → Sound k S → Held d S → (q a : ℕ) → q < S.count → a < k → length (S.output q a) ≤ d + 1
output-length k d S sound held q a hq ha = omega (arith, sound.balanced q a hq ha, held q hq)

-- a step that is earlier is so in another transducer too, wherever it leads there
pub earlier_in : {k : ℕ} {S T : Shape} {p a q r : ℕ} (e : Earlier k S p a q) → T.next e.state e.tag ≡ r → Earlier k T p a r
earlier_in e leads = record { state = e.state; tag = e.tag; tag_below = e.tag_below; before = e.before; leads = leads }

-- an earlier step has a lower place in the order of steps
pub earlier_place : (k : ℕ) (S : Shape) (p a q : ℕ) (e : Earlier k S p a q) → (e.state ≤ p) × (e.state * k + e.tag < p * k + a)
earlier_place k S p a q e = go e.before
  where
    go : Before e.state e.tag p a → (e.state ≤ p) × (e.state * k + e.tag < p * k + a)
    go (inl h) = omega (arith, mul-le-mul_right k h, e.tag_below)
    go (inr h) = omega (arith, ap (λ (s : ℕ). s * k) h.0, h.0, h.1)

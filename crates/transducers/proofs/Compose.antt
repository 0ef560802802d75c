-- Laws of composition: the result does what the second makes of what the first does, and holds what both hold.
use Prim.Native.Nat.{ℕ, ◌+◌, ◌*◌, ◌/◌, ◌%◌, ◌<◌}
use native.Mathlib.Omega.{arith}
use native.Mathlib.Nat.{mul-le-mul_right, mul-add-div_right, mul-add-mod_self_right, div-eq_of_lt, mod-eq_of_lt, mod-lt, zero-div, zero-mod, div-lt_iff_lt-mul, add-zero}
use mathlib.Core.Path.{◌≡◌, sym, ap, ap₂, ◌∙◌}
use mathlib.Core.List.{List, [], ◌∷◌, ◌++◌}
use lib.ListN.{length}
use Rattle.words.specs.Word.{Below}
use Rattle.transducers.specs.Transducer.{Shape, puts}
use Rattle.transducers.specs.Table.{Table, shape}
use Rattle.transducers.specs.Run.{walk, outputs}
use Rattle.transducers.specs.Canonical.{Same, Sound, Held}
use Rattle.transducers.specs.Tabulate.{Doing}
use Rattle.transducers.specs.Compose.{product, compose}
use Rattle.transducers.proofs.Run.{puts-append, walk-below, outputs-below, puts-below, outputs-length, puts-length}
use Rattle.transducers.proofs.Tabulate.{doing-table}

module _ (k : ℕ) (A R : Shape) (a-sound : Sound k A) (r-sound : Sound k R) where
  first_of : (q r : ℕ) → r < R.count → (q * R.count + r) / R.count ≡ q
  first_of q r h = mul-add-div_right r-sound.some q r ∙ ap (λ (m : ℕ). q + m) (div-eq_of_lt h) ∙ add-zero q

  second_of : (q r : ℕ) → r < R.count → (q * R.count + r) % R.count ≡ r
  second_of q r h = mul-add-mod_self_right q R.count r ∙ mod-eq_of_lt h

  -- the states of a pair
  q_below : (s : ℕ) → s < A.count * R.count → s / R.count < A.count
  q_below s h = (div-lt_iff_lt-mul r-sound.some).1 h

  r_below : (s : ℕ) → s % R.count < R.count
  r_below s = mod-lt s r-sound.some

  read_below : (q r a : ℕ) → q < A.count → r < R.count → a < k → walk R r (A.output q a) < R.count
  read_below q r a hq hr ha = walk-below k R r-sound.next_below r hr (A.output q a) (a-sound.output_below q a hq ha)

  -- puts (q, r) x = puts R r (puts A q x)
  pub puts-product : (q r : ℕ) → q < A.count → r < R.count → (x : List ℕ) → Below k x
      → puts (product A R) (q * R.count + r) x ≡ puts R r (puts A q x)
  puts-product q r hq hr [] hx = rw (first_of q r hr, second_of q r hr)
  puts-product q r hq hr (a ∷ x) hx =
      rw (first_of q r hr, second_of q r hr)
      (ap (λ (l : List ℕ). outputs R r (A.output q a) ++ l)
      (puts-product (A.next q a) (walk R r (A.output q a)) (a-sound.next_below q a hq hx.0) (read_below q r a hq hr hx.0) x hx.1)
      ∙ sym (puts-append R r (A.output q a) (puts A (A.next q a) x)))

  -- |final (q, r)| = |final q| + |final r|
  pub final-length : (s : ℕ) → s < A.count * R.count
      → length ((product A R).final s) ≡ length (A.final (s / R.count)) + length (R.final (s % R.count))
  final-length s h = omega (arith, puts-length k R r-sound (s % R.count) (r_below s) (A.final (s / R.count)) (a-sound.final_below (s / R.count) (q_below s h)))

  pub sound-product : Sound k (product A R)
  sound-product =
      record {
        some = omega (arith, a-sound.some, r-sound.some, mul-le-mul_right R.count a-sound.some);
        empty = rw (zero-div R.count, zero-mod R.count, a-sound.empty) r-sound.empty;
        next_below = next_in;
        output_below = λ s a h g.
            outputs-below k R r-sound (s % R.count) (r_below s) (A.output (s / R.count) a) (a-sound.output_below (s / R.count) a (q_below s h) g);
        final_below = λ s h. puts-below k R r-sound (s % R.count) (r_below s) (A.final (s / R.count)) (a-sound.final_below (s / R.count) (q_below s h));
        balanced = even;
      }
    where
      next_in : (s a : ℕ) → s < A.count * R.count → a < k → (product A R).next s a < A.count * R.count
      next_in s a h g =
          omega (
            arith,
            read_below (s / R.count) (s % R.count) a (q_below s h) (r_below s) g,
            mul-le-mul_right R.count (a-sound.next_below (s / R.count) a (q_below s h) g),
          )

      even : (s a : ℕ) → s < A.count * R.count → a < k
          → length ((product A R).output s a) + length ((product A R).final ((product A R).next s a)) ≡ length ((product A R).final s) + 1
      even s a h g =
          let q = s / R.count in
          let r = s % R.count in
          let o = A.output q a in
          let to = read_below q r a (q_below s h) (r_below s) g in
          let d = final-length ((product A R).next s a) (next_in s a h g)
          ∙ ap₂ (λ (i j : ℕ). length (A.final i) + length (R.final j)) (first_of (A.next q a) (walk R r o) to) (second_of (A.next q a) (walk R r o) to) in
          omega (
            arith,
            d,
            final-length s h,
            a-sound.balanced q a (q_below s h) g,
            outputs-length k R r-sound r (r_below s) o (a-sound.output_below q a (q_below s h) g),
          )

-- the composition does what the second makes of what the first does, and what the states hold adds up
pub doing-compose : (k d e : ℕ) (f g : List ℕ → List ℕ) (t u : Table) → Doing k d f t → Doing k e g u → Doing k (d + e) (λ w. g (f w)) (compose k t u)
doing-compose k d e f g t u a b = doing-table k (product A R) (sound-product k A R a.sound b.sound) (d + e) (λ w. g (f w)) held does
  where
    A : Shape
    A = shape t

    R : Shape
    R = shape u

    held : Held (d + e) (product A R)
    held s h =
        omega (
          arith,
          final-length k A R a.sound b.sound s h,
          a.held (s / R.count) (q_below k A R a.sound b.sound s h),
          b.held (s % R.count) (r_below k A R a.sound b.sound s),
        )

    does : Same k (puts (product A R) 0) (λ w. g (f w))
    does x hx =
        let zero-pair : 0 ≡ 0 * R.count + 0 = omega arith in
        ap (λ (s : ℕ). puts (product A R) s x) zero-pair
        ∙ puts-product k A R a.sound b.sound 0 0 a.sound.some b.sound.some x hx
        ∙ b.does (puts A 0 x) (puts-below k A a.sound 0 a.sound.some x hx)
        ∙ ap g (a.does x hx)

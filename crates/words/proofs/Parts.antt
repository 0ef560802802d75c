-- A word rewritten where it stands, part by part.
use Prim.Native.Nat.{ℕ, ◌+◌, ◌-◌, ◌≤◌}
use native.Mathlib.Omega.{arith}
use mathlib.Core.Path.{◌≡◌, refl, sym, ap, ap₂, ◌∙◌}
use mathlib.Core.List.{List, [], ◌++◌, append-nil, append_assoc}
use lib.ListN.{length, take, drop, take-append-drop, length-append, length-drop}
use lib.Seq.{drop-length, take_all, take_at, drop_at, length-take-le}
use Rattle.words.specs.Parts.{Begun}

pub begun_start : (P : List ℕ → List ℕ) (s v : List ℕ) → length v ≡ length s → Begun P P s s v 0
begun_start P s v h = record { inside = omega arith; long = refl; beside = h; cut = refl }

-- all of it
pub begun_all : (P : List ℕ → List ℕ) (s t v : List ℕ) (n : ℕ) → P [] ≡ [] → n ≡ length t → Begun P P s t v n → v ≡ P s
begun_all P s t v n none all b =
    sym (b.cut ∙ ap₂ (λ (x y : List ℕ). x ++ P y) (take_all n v (omega (arith, all, b.beside))) (ap (λ (i : ℕ). drop i t) all ∙ drop-length t) ∙ ap (λ (x : List ℕ). v ++ x) none ∙ append-nil v)

-- what lies behind stays as it is
pub begun_once : (P : List ℕ → List ℕ) (s t : List ℕ) (n : ℕ) → Begun P (λ w. w) s t t n → t ≡ P s
begun_once P s t n b = sym (b.cut ∙ take-append-drop n t)

-- ---- one part more

-- the part lent from a place on
abbrev lent : List ℕ → ℕ → List ℕ
lent s from = take (length s - from) (drop from s)

pub lent_long : (s : List ℕ) (from : ℕ) → from ≤ length s → length (lent s from) ≡ length s - from
lent_long s from h = length-take-le (length s - from) (drop from s) (omega (arith, length-drop from s))

-- the word, where the part has become x
abbrev next : List ℕ → ℕ → List ℕ → List ℕ
next s from x = take from s ++ (x ++ drop (length s - from) (drop from s))

module _ (s : List ℕ) (from : ℕ) (inside : from ≤ length s) (x : List ℕ) (long : length x ≡ length s - from) where
  next_parts : (n : ℕ) → next s from x ≡ (take from s ++ take n x) ++ drop n x
  next_parts n =
      ap (λ (l : List ℕ). take from s ++ (x ++ l)) (ap (λ (i : ℕ). drop i (drop from s)) (sym (length-drop from s)) ∙ drop-length (drop from s))
      ∙ ap (λ (l : List ℕ). take from s ++ l) (append-nil x ∙ sym (take-append-drop n x))
      ∙ sym (append_assoc (take from s) (take n x) (drop n x))

  front_long : (n : ℕ) → n ≤ length x → length (take from s ++ take n x) ≡ from + n
  front_long n h = length-append (take from s) (take n x) ∙ ap₂ (λ (i j : ℕ). i + j) (length-take-le from s inside) (length-take-le n x h)

  take_next : (n : ℕ) → n ≤ length x → take (from + n) (next s from x) ≡ take from s ++ take n x
  take_next n h = ap (take (from + n)) (next_parts n) ∙ take_at (take from s ++ take n x) (drop n x) (from + n) (front_long n h)

  drop-next : (n : ℕ) → n ≤ length x → drop (from + n) (next s from x) ≡ drop n x
  drop-next n h = ap (drop (from + n)) (next_parts n) ∙ drop_at (take from s ++ take n x) (drop n x) (from + n) (front_long n h)

  next-long : length (next s from x) ≡ length s
  next-long =
      omega (
        arith,
        ap length (next_parts 0),
        length-append (take from s ++ take 0 x) (drop 0 x),
        front_long 0 (omega arith),
        length-drop 0 x,
        long,
        inside,
      )

-- it was rewritten where it stands, and what lies before it stayed
module _ (P : List ℕ → List ℕ) (s₀ s v x y : List ℕ) (from n : ℕ) where
  pub begun_next : Begun P P s₀ s v from → Begun P P (lent s from) x y n → Begun P P s₀ (next s from x) (next v from y) (from + n)
  begun_next done b =
      let lent_is : lent s from ≡ drop from s = take_all (length s - from) (drop from s) (omega (arith, length-drop from s)) in
      let x-long : length x ≡ length s - from = b.long ∙ lent_long s from done.inside in
      let y-long : length y ≡ length v - from = omega (arith, b.beside, x-long, done.beside) in
      let s-long = next-long s from done.inside x x-long in
      let v-inside : from ≤ length v = omega (arith, done.inside, done.beside) in
      record {
        inside = omega (arith, s-long, b.inside, x-long, done.inside);
        long = s-long ∙ done.long;
        beside = omega (arith, s-long, next-long v from v-inside y y-long, done.beside);
        cut =
            done.cut ∙ ap (λ (l : List ℕ). take from v ++ P l) (sym lent_is) ∙ ap (λ (l : List ℕ). take from v ++ l) b.cut
            ∙ sym (append_assoc (take from v) (take n y) (P (drop n x)))
            ∙ sym (ap₂ (λ (i j : List ℕ). i ++ P j)
            (take_next v from v-inside y y-long n (omega (arith, b.inside, b.beside)))
            (drop-next s from done.inside x x-long n b.inside));
      }

-- The loop over the pattern's tags.
use Prim.Native.Nat.{ℕ, suc, ◌+◌, ◌-◌, ◌*◌, ◌≤◌, ◌<◌}
use native.Mathlib.Omega.{arith}
use native.Mathlib.Decide.{ℕ_discrete}
use native.Mathlib.Numerals.{add-one}
use mathlib.Core.Path.{◌≡◌, sym, ap, ◌∙◌}
use mathlib.Core.Logic.{◌⊎◌, inl, inr}
use mathlib.Core.List.{List}
use lib.ListN.{length, get_or, set, drop, length-set}
use lib.Seq.{get_or-set_same, get_or-set_other, drop-set-lt}
use Rattle.borders.specs.Border.{border, counted}
use Rattle.borders.proofs.Border.{grown, tried, border-below, border-grown, grown_shorter, tried_shorter, grown-none, tried_none, grown-longer, tried_once, counted_tried, counted-few}

-- the borders of the first j tags stand in X; that of one tag more is b's and that tag's
pub record Running (u B X : List ℕ) (j b count : ℕ) : Type 0 where
  pub low : 0 < j
  pub high : j ≤ length u
  pub below : b < j
  pub long : length X ≡ length B
  pub rest : drop (suc (length u)) X ≡ drop (suc (length u)) B
  pub found : (i : ℕ) → i ≤ j → get_or X i 0 ≡ border u i
  pub grows : j < length u → grown u (get_or u j 0) b ≡ border u (suc j)
  pub counts : j < length u → count + tried u (get_or u j 0) b ≡ counted u j
  pub done : j ≡ length u → count ≡ counted u (j - 1)

-- one border more
found_next : (u X : List ℕ) (j v : ℕ) → j + 1 < length X → v ≡ border u (j + 1) → ((i : ℕ) → i ≤ j → get_or X i 0 ≡ border u i)
    → (i : ℕ) → i ≤ j + 1 → get_or (set X (j + 1) v) i 0 ≡ border u i
found_next u X j v h is found i l = by (ℕ_discrete i (j + 1))
  where
    by : Dec (i ≡ j + 1) → get_or (set X (j + 1) v) i 0 ≡ border u i
    by (yes e) = ap (λ (n : ℕ). get_or (set X (j + 1) v) n 0) e ∙ get_or-set_same X (j + 1) v 0 h ∙ is ∙ ap (border u) (sym e)
    by (no n) = get_or-set_other X (j + 1) i v 0 n ∙ found i (omega arith)

-- the array where the loop begins: the first two borders are none
abbrev pub begun : List ℕ → List ℕ
begun B = set (set B 0 0) 1 0

module _ (u B : List ℕ) (room : length u < length B) where
  pub begun_long : length (begun B) ≡ length B
  begun_long = length-set (set B 0 0) 1 0 ∙ length-set B 0 0

  module _ (X : List ℕ) (j b count : ℕ) (s : Running u (begun B) X j b count) (h : j < length u) where
    -- the last comparison of a tag: the border of one tag more is v
    running-next : (v : ℕ) → grown u (get_or u j 0) b ≡ v → tried u (get_or u j 0) b ≡ 1 → Running u (begun B) (set X (j + 1) v) (j + 1) v (count + 1)
    running-next v is once =
        record {
          low = omega arith;
          high = omega arith;
          below = omega (arith, more, border-below u (j + 1) (omega arith) (omega arith));
          long = length-set X (j + 1) v ∙ s.long;
          rest = drop-set-lt (suc (length u)) X (j + 1) v (omega arith) ∙ s.rest;
          found = found_next u X j v (omega (arith, s.long, begun_long)) more s.found;
          grows = λ l. ap (grown u (get_or u (j + 1) 0)) more ∙ sym (border-grown u (j + 1) (omega arith) l);
          counts = λ l. omega (arith, all, counted_tried u (j + 1) (omega arith), ap (counted u) back, ap (tried u (get_or u (j + 1) 0)) more);
          done = λ e. omega (arith, all, ap (counted u) back);
        }
      where
        more : v ≡ border u (j + 1)
        more = sym is ∙ s.grows h ∙ ap (border u) (sym (add-one j))

        back : j + 1 - 1 ≡ j
        back = omega arith

        all : count + 1 ≡ counted u j
        all = omega (arith, s.counts h, once)

    pub running_on : (v : ℕ) → ((get_or u j 0 ≡ get_or u b 0) × (v ≡ b + 1)) ⊎ ((get_or u j 0 ≡ get_or u b 0 → ⊥) × (b ≡ 0) × (v ≡ b))
        → Running u (begun B) (set X (j + 1) v) (j + 1) v (count + 1)
    running_on v (inl (same, is)) = running-next v (grown-longer u (get_or u j 0) b (sym same) ∙ sym (add-one b) ∙ sym is) (tried_once u (get_or u j 0) b (sym same))
    running_on v (inr (other, none, is)) =
        running-next v (grown-none u (get_or u j 0) b (λ e. other (sym e)) none ∙ sym none ∙ sym is) (tried_none u (get_or u j 0) b none)

    -- a comparison that is not the last: the border is shortened to its own
    pub running_shorter : (get_or u j 0 ≡ get_or u b 0 → ⊥) → 0 < b → Running u (begun B) X j (get_or X b 0) (count + 1)
    running_shorter other some =
        record {
          low = s.low;
          high = s.high;
          below = omega (arith, is, border-below u b some (omega (arith, s.below)), s.below);
          long = s.long;
          rest = s.rest;
          found = s.found;
          grows = λ l. ap (grown u (get_or u j 0)) is ∙ sym (grown_shorter u (get_or u j 0) b (omega (arith, s.below)) (λ e. other (sym e)) some) ∙ s.grows l;
          counts = λ l. omega (arith, s.counts l, tried_shorter u (get_or u j 0) b (λ e. other (sym e)) some, ap (tried u (get_or u j 0)) is);
          done = λ e. absurd (omega arith);
        }
      where
        is : get_or X b 0 ≡ border u b
        is = s.found b (omega (arith, s.below))

    pub border_shorter : 0 < b → get_or X b 0 < b
    border_shorter some = omega (arith, s.found b (omega (arith, s.below)), border-below u b some (omega (arith, s.below)))

    pub count_small : count < 2 * length u
    count_small = omega (arith, s.counts h, counted-few u j h)

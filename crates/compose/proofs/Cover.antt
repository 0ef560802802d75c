-- A transducer whose states stand for states of another does what that does.
use Prim.Native.Nat.{ℕ, ◌<◌}
use native.Mathlib.Omega.{arith}
use mathlib.Core.Path.{◌≡◌, ap, ap₂, ◌∙◌}
use mathlib.Core.List.{List, [], ◌∷◌, ◌++◌}
use lib.ListN.{length}
use Rattle.words.specs.Word.{Below}
use Rattle.transducers.specs.Transducer.{Shape, puts}
use Rattle.transducers.specs.Canonical.{Inside, Sound, Held}

module _ (k : ℕ) (S T : Shape) (key : ℕ → ℕ) where
  -- the state i of T stands for the state key i of S
  pub record Covers : Type 0 where
    pub some : 0 < T.count
    pub start : key 0 ≡ 0
    pub below : (i : ℕ) → i < T.count → key i < S.count
    pub inside : Inside k T
    pub nexts : (i a : ℕ) → i < T.count → a < k → key (T.next i a) ≡ S.next (key i) a
    pub outputs : (i a : ℕ) → i < T.count → a < k → T.output i a ≡ S.output (key i) a
    pub finals : (i : ℕ) → i < T.count → T.final i ≡ S.final (key i)

  module _ (c : Covers) where
    pub covers-puts : (x : List ℕ) → Below k x → (i : ℕ) → i < T.count → puts T i x ≡ puts S (key i) x
    covers-puts [] hx i h = c.finals i h
    covers-puts (a ∷ x) hx i h =
        ap₂ (λ (u v : List ℕ). u ++ v) (c.outputs i a h hx.0)
        (covers-puts x hx.1 (T.next i a) (c.inside i a h hx.0) ∙ ap (λ (s : ℕ). puts S s x) (c.nexts i a h hx.0))

    pub covers-sound : Sound k S → Sound k T
    covers-sound s =
        record {
          some = c.some;
          empty = c.finals 0 c.some ∙ ap S.final c.start ∙ s.empty;
          next_below = c.inside;
          output_below = λ q a h l. rw (c.outputs q a h l) (s.output_below (key q) a (c.below q h) l);
          final_below = λ q h. rw (c.finals q h) (s.final_below (key q) (c.below q h));
          balanced = λ q a h l.
              omega (
                arith,
                ap length (c.outputs q a h l),
                ap length (c.finals (T.next q a) (c.inside q a h l)),
                ap (λ (j : ℕ). length (S.final j)) (c.nexts q a h l),
                ap length (c.finals q h),
                s.balanced (key q) a (c.below q h) l,
              );
        }

    pub covers-held : (d : ℕ) → Held d S → Held d T
    covers-held d held q h = omega (arith, ap length (c.finals q h), held (key q) (c.below q h))

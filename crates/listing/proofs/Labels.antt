-- Labels that are given anew one by one, and words that are listed.
use Prim.Native.Nat.{ℕ, ◌+◌, ◌≤◌, ◌<◌}
use native.Mathlib.Omega.{arith}
use native.Mathlib.Decide.{ℕ_discrete}
use mathlib.Core.Path.{◌≡◌, refl, ap, ◌∙◌}
use mathlib.Core.List.{List}
use lib.ListN.{length, set, length-set}
use lib.Seq.{get_or-set_same, get_or-set_other}
use Rattle.agreement.specs.Search.{renamed}
use Rattle.agreement.specs.Stored.{label_at, PairPut}
use Rattle.listing.specs.Listing.{Labeled, Linked}

-- the labels below x are given anew, and the others are as before
pub record Labeling (before after : List ℕ) (label : ℕ → ℕ) (x : ℕ) : Type 0 where
  pub long : length after ≡ length before
  pub done : (y : ℕ) → y < x → label_at after y ≡ label y
  pub rest : (y : ℕ) → x ≤ y → label_at after y ≡ label_at before y

module _ (before : List ℕ) (label : ℕ → ℕ) where
  pub labeling_start : Labeling before before label 0
  labeling_start = record { long = refl; done = λ y h. absurd (omega arith); rest = λ y h. refl }

  pub labeling_next : (after : List ℕ) (x v : ℕ) → Labeling before after label x → x < length before → v ≡ label x → Labeling before (set after x v) label (x + 1)
  labeling_next after x v l h e =
      record {
        long = length-set after x v ∙ l.long;
        done = λ y less. by y less (ℕ_discrete y x);
        rest = λ y more. get_or-set_other after x y v 0 (λ f. omega (arith, f)) ∙ l.rest y (omega arith);
      }
    where
      by : (y : ℕ) → y < x + 1 → Dec (y ≡ x) → label_at (set after x v) y ≡ label y
      by y less (yes f) = ap (label_at (set after x v)) f ∙ get_or-set_same after x v 0 (omega (arith, l.long)) ∙ e ∙ ap label (sym_of f)
        where
          sym_of : y ≡ x → x ≡ y
          sym_of f = omega arith
      by y less (no d) = get_or-set_other after x y v 0 d ∙ l.done y (omega (arith, d))

  pub labeling_end : (after : List ℕ) (x total : ℕ) → Labeling before after label x → total ≤ x → Labeled before after total label
  labeling_end after x total l h = record { long = l.long; is = λ y less. l.done y (omega arith) }

-- whether two labels are one
module _ (labels pairs : List ℕ) (total n x y left right before tag : ℕ) where
  pub linked-level : label_at labels y ≡ label_at labels x → Linked labels pairs labels pairs total n x y left right before tag n
  linked-level e =
      record { labels_long = refl; pairs_long = refl; level = λ f. (refl, refl, refl); listed = λ d. absurd (d e) }

  pub linked-listed : (labels' pairs' : List ℕ) (one other : ℕ) → one ≡ label_at labels y → other ≡ label_at labels x → (one ≡ other → ⊥)
      → PairPut pairs pairs' n left right before tag → Labeled labels labels' total (λ z. renamed one other (label_at labels z))
      → Linked labels pairs labels' pairs' total n x y left right before tag (n + 1)
  linked-listed labels' pairs' one other e f d put l =
      record {
        labels_long = l.long;
        pairs_long = put.long;
        level = λ g. absurd (d (e ∙ g ∙ other-is));
        listed = λ g. (refl, put, rw (← e, ← f) l);
      }
    where
      other-is : label_at labels x ≡ other
      other-is = omega (arith, f)

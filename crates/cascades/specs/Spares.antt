-- Rules that change a tag, and rules that leave one where it is.
use Rattle.std.specs.Prelude.{ℕ, ◌<◌, ◌≡◌, false, List, [], ◌∷◌, length, drop, get_or}
use Rattle.cascades.specs.Pattern.{some_set, word}
use Rattle.cascades.specs.Rule.{Rule}

-- the place is in the pattern, no set stands there or behind it, and the new tag is another than the one there
pub record Changes (r : Rule) : Type 0 where
  pub inside : r.place < length r.pattern
  pub fixed : some_set (drop r.place r.pattern) ≡ false
  pub new : get_or (word r.pattern) r.place 0 ≡ r.tag → ⊥

-- neither the tag that the rule changes, which stands at its place, nor the one that it makes is e
pub record Spares (e : ℕ) (r : Rule) : Type 0 where
  pub fixed : some_set (drop r.place r.pattern) ≡ false
  pub old : get_or (word r.pattern) r.place 0 ≡ e → ⊥
  pub new : r.tag ≡ e → ⊥

abbrev pub Spare : ℕ → List Rule → Type 0
Spare e [] = Unit {0}
Spare e (r ∷ rs) = Spares e r × Spare e rs

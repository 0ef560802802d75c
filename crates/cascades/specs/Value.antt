-- A rule by its parts, and as one value of the code with its sets beside.
use Rattle.std.specs.Prelude.{ℕ, suc, ◌≤◌, ◌≡◌, Bool, true, false, List, [], ◌∷◌, eqb, length, take}
use Rattle.limits.specs.Limits.{longest_pattern}
use Rattle.cascades.specs.Pattern.{Class, one, any, some_set, word, plain}
use Rattle.cascades.specs.Rule.{Kind, once, everywhere, Rule}
use Rattle.cascades.specs.declared.Rule.{Rule as Value}

abbrev pub rule_with : Kind → List Class → ℕ → ℕ → Rule
rule_with k u p t = record { kind = k; pattern = u; place = p; tag = t }

-- without a set
abbrev pub rule : Kind → List ℕ → ℕ → ℕ → Rule
rule k u p t = rule_with k (plain u) p t

abbrev pub kind_of : Bool → Kind
kind_of true = everywhere
kind_of false = once

-- the pattern of a row of tags and a row of sets, 0 for a tag; behind the last set no row of sets is needed
abbrev pub class_of : ℕ → ℕ → Class
class_of a s = elim (eqb s 0) [ true ↦ one a | false ↦ any s ]

abbrev pub places : List ℕ → List ℕ → List Class
places [] ss = []
places (a ∷ u) [] = one a ∷ places u []
places (a ∷ u) (s ∷ ss) = class_of a s ∷ places u ss

-- one more than the place of the last set, 0 for none
abbrev pub last_set : List Class → ℕ
last_set [] = 0
last_set (c ∷ u) = elim (some_set (c ∷ u)) [ true ↦ suc (last_set u) | false ↦ 0 ]

-- the rule that it is, with the row of its sets
abbrev pub rule_of : Value → List ℕ → Rule
rule_of v ss = rule_with (kind_of v.everywhere) (places (take v.length v.row) (take v.sets ss)) v.place v.tag

-- the pattern is in the rows, which have room for it, and `sets` says where its last set is
pub record Formed (v : Value) (ss : List ℕ) : Type 0 where
  pub row_long : length v.row ≡ longest_pattern
  pub length_short : v.length ≤ longest_pattern
  pub sets_long : v.sets ≤ length ss
  pub last_is : last_set (rule_of v ss).pattern ≡ v.sets
  pub word_is : word (rule_of v ss).pattern ≡ take v.length v.row

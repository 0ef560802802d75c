-- Tables of cascades and transducers of rules, computed.
use mathlib.Core.Path.{◌≡◌, refl}
use mathlib.Core.List.{[], ◌∷◌}
use lib.ListN.{length}
use Rattle.cascades.specs.Pattern.{one, any}
use Rattle.cascades.specs.Rule.{Kind, once, everywhere, Rule}
use Rattle.cascades.specs.Value.{rule, rule_with}
use Rattle.transducers.specs.Transducer.{puts}
use Rattle.minimal.specs.OneRule.{one_rule}
use Rattle.minimal.specs.TableOf.{table_of}

-- 0 → 1, then 1 0 → 0 0, over two tags: three states. There would be four if states were merged before the output is as early as it can be
pub early_then_merged : length (table_of (record { tags = 2; rules = rule once (0 ∷ []) 0 1 ∷ rule once (1 ∷ 0 ∷ []) 0 0 ∷ []; end = 255 })) ≡ 3
early_then_merged = refl

-- the pattern {0,1} {0,2} 0, whose last tag becomes 1
abbrev sets : Kind → Rule
sets k = rule_with k (any 3 ∷ any 5 ∷ one 0 ∷ []) 2 1

-- after 0 0 and after 1 2 the longest match alive has two tags, but only after 0 0 does 2 0 complete one: the longest alone is no state
pub alive_told : puts (one_rule (sets once)) 0 (0 ∷ 0 ∷ 2 ∷ 0 ∷ []) ≡ 0 ∷ 0 ∷ 2 ∷ 1 ∷ []
alive_told = refl

pub alive_other : puts (one_rule (sets once)) 0 (1 ∷ 2 ∷ 2 ∷ 0 ∷ []) ≡ 1 ∷ 2 ∷ 2 ∷ 0 ∷ []
alive_other = refl

-- 1 2 0 and behind it 0 0 0 are matches: the 0 that ends the first counts for no other
pub alive_again : puts (one_rule (sets everywhere)) 0 (1 ∷ 2 ∷ 0 ∷ 0 ∷ 0 ∷ 0 ∷ 0 ∷ []) ≡ 1 ∷ 2 ∷ 1 ∷ 0 ∷ 0 ∷ 1 ∷ 0 ∷ []
alive_again = refl

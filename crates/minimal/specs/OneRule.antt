-- The transducer of one rule: it does what the rule does, and without sets is the smallest one that does.
-- 002, definition 2, after Simon's string matching automaton: the states are the prefixes of the pattern u, here by their lengths.
use Rattle.std.specs.Prelude.{ℕ, suc, true, false, List, [], ◌∷◌, ◌++◌, length, take}
use Rattle.words.specs.Overlap.{overlap}
use Rattle.cascades.specs.Pattern.{word}
use Rattle.cascades.specs.Rule.{Kind, once, everywhere, Rule, has_set}
use Rattle.transducers.specs.Transducer.{Shape}
use Rattle.transducers.specs.Table.{Table}
use Rattle.transducers.specs.Tabulate.{table}
use Rattle.transducers.specs.Ended.{ended}
use Rattle.minimal.specs.Matcher.{Matcher, matching}
use Rattle.minimal.specs.Bits.{bits}

-- of a pattern of n tags: the states, and the one after a match. A leftmost rule has a state for what lies behind its match; an everywhere
-- rule begins again there: "Such a rule's smallest table has |u| states" (document 02, W4)
abbrev pub states : Kind → ℕ → ℕ
states once n = suc n
states everywhere n = n

abbrev pub fired : Kind → ℕ → ℕ
fired once n = n
fired everywhere n = 0

-- what was matched and the tag, if that is a prefix of u, otherwise the longest border of it: the overlap of both with u (fact 1)
abbrev pub borders : Kind → List ℕ → Matcher
borders k u =
    record { states = states k (length u); longest = λ s. s; step = λ s a. overlap u (take s u ++ (a ∷ [])); fired = fired k (length u) }

-- rules without sets go by borders, rules with sets by bits
abbrev pub matcher_of : Rule → Matcher
matcher_of r = elim (has_set r) [ true ↦ bits r.kind r.pattern | false ↦ borders r.kind (word r.pattern) ]

abbrev pub one_rule : Rule → Shape
one_rule r = matching (word r.pattern) r.place r.tag (matcher_of r)

-- it begins afresh after an end tag
abbrev pub rule_table : ℕ → ℕ → Rule → Table
rule_table k e r = table k (ended e (one_rule r))

-- What a rule may not do with an end tag (document 02, W1).
use Rattle.std.specs.Prelude.{ℕ, Bool, false, not, ◌&&◌, ◌||◌, List, [], ◌∷◌, eqb, leb, get_or}
use Rattle.limits.specs.Limits.{no_end}
use Rattle.cascades.specs.Pattern.{Class, accepts, word}
use Rattle.cascades.specs.Rule.{Rule, Cascade}

-- does a place before the last accept e? "an end tag in a set counts as in W1" (document 02, W9)
abbrev pub before : ℕ → List Class → Bool
before e [] = false
before e (c ∷ []) = false
before e (c ∷ d ∷ u) = accepts c e || before e (d ∷ u)

-- "a pattern with the end tag before its last place, or a rule that changes or makes the end tag"
abbrev pub misused : ℕ → Rule → Bool
misused e r = before e r.pattern || (eqb (get_or (word r.pattern) r.place 0) e || eqb r.tag e)

abbrev pub some_misused : ℕ → List Rule → Bool
some_misused e [] = false
some_misused e (r ∷ rs) = misused e r || some_misused e rs

-- "14: end tag neither below K nor 255, or a pattern with the end tag before its last place, or a rule that changes or makes the end tag"
abbrev pub bad_end : Cascade → Bool
bad_end c = not (eqb c.end no_end) && (leb c.tags c.end || some_misused c.end c.rules)

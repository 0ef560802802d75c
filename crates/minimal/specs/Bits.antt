-- The matches still alive, kept as bits (document 02, W9): 002's string matching automaton, its states by sets of matched lengths.
use Rattle.std.specs.Prelude.{ℕ, zero, suc, ◌+◌, ◌-◌, ◌*◌, ◌/◌, ◌^◌, true, false, List, [], ◌∷◌, eqb, length}
use Rattle.std.specs.Int.Bits.{bit_and}
use Rattle.cascades.specs.Pattern.{Class, accepts}
use Rattle.cascades.specs.Rule.{Kind, once, everywhere}
use Rattle.minimal.specs.Matcher.{Matcher}

-- which places of the pattern accept the tag, as bits: the lowest is for the first place
abbrev pub accepting : List Class → ℕ → ℕ
accepting [] a = 0
accepting (c ∷ u) a = elim (accepts c a) [ true ↦ 1 | false ↦ 0 ] + 2 * accepting u a

-- the binary length of a number of at most n digits
abbrev pub width : ℕ → ℕ → ℕ
width zero s = 0
width (suc n) s = elim (eqb s 0) [ true ↦ 0 | false ↦ suc (width n (s / 2)) ]

-- of a pattern of n places: the sets of matched lengths below n, bit i − 1 for the length i; and the state after a match
abbrev pub alive_states : Kind → ℕ → ℕ
alive_states once n = suc (2 ^ (n - 1))
alive_states everywhere n = 2 ^ (n - 1)

abbrev pub alive_fired : Kind → ℕ → ℕ
alive_fired once n = 2 ^ (n - 1)
alive_fired everywhere n = 0

-- "The matches still alive are kept as bits, one for each matched length": shifted by one, the new start put in, and masked by the places that
-- accept the tag
abbrev pub bits : Kind → List Class → Matcher
bits k u =
    record {
      states = alive_states k (length u);
      longest = width (length u);
      step = λ s a. bit_and (2 * s + 1) (accepting u a);
      fired = alive_fired k (length u);
    }

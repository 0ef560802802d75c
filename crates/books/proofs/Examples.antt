-- Both kinds of rules and sets of tags (document 02, W4 and W9), computed on books that were worked out by hand.
use Prim.Native.Nat.{ℕ, zero, suc}
use mathlib.Core.Path.{◌≡◌, refl}
use mathlib.Core.List.{List, [], ◌∷◌, ◌++◌}
use Rattle.limits.specs.Limits.{standard, no_end}
use Rattle.answers.specs.Outcome.{result, refused, byte}
use Rattle.cascades.specs.Pattern.{one, any}
use Rattle.cascades.specs.Rule.{once, everywhere}
use Rattle.books.specs.Read.{read}

-- 0 0 → 1 0, everywhere
one-everywhere : read standard (0x20 ∷ 0x02 ∷ 0x24 ∷ 0x00 ∷ 0x01 ∷ 0x22 ∷ 0x00 ∷ 0x22 ∷ 0x00 ∷ 0x00 ∷ [])
    ≡ result (record { tags = 2; rules = record { kind = everywhere; pattern = one 0 ∷ one 0 ∷ []; place = 0; tag = 1 } ∷ []; end = no_end })
one-everywhere = refl

-- 0 → 1, once, then 1 → 0, everywhere
mixed : read standard (0x20 ∷ 0x02 ∷ 0x21 ∷ 0x00 ∷ 0x01 ∷ 0x22 ∷ 0x00 ∷ 0x24 ∷ 0x00 ∷ 0x00 ∷ 0x22 ∷ 0x01 ∷ 0x00 ∷ [])
    ≡ result (record { tags = 2; rules = record { kind = once; pattern = one 0 ∷ []; place = 0; tag = 1 } ∷ record { kind = everywhere; pattern = one 1 ∷ []; place = 0; tag = 0 } ∷ []; end = no_end })
mixed = refl

-- 24 closes the rule before, which has no pattern yet
closes-empty : read standard (0x20 ∷ 0x02 ∷ 0x21 ∷ 0x00 ∷ 0x01 ∷ 0x24 ∷ []) ≡ refused 3 (byte 5)
closes-empty = refl

-- n rules of each kind
abbrev pairs : ℕ → List ℕ
pairs zero = []
pairs (suc n) = 0x21 ∷ 0x00 ∷ 0x01 ∷ 0x22 ∷ 0x00 ∷ 0x24 ∷ 0x00 ∷ 0x01 ∷ 0x22 ∷ 0x00 ∷ pairs n

-- 24 opens a seventeenth rule
seventeenth : read standard (0x20 ∷ 0x02 ∷ (pairs 8 ++ (0x24 ∷ []))) ≡ refused 7 (byte 82)
seventeenth = refl

-- ---- sets

-- the head of a book over 3 tags whose rule has the place p and the new tag 0; 23 and a set of the tags whose bits are in its last byte
abbrev over_3 : ℕ → List ℕ → List ℕ
over_3 p rest = 0x20 ∷ 0x03 ∷ 0x21 ∷ p ∷ 0x00 ∷ rest

abbrev set_of : ℕ → List ℕ → List ℕ
set_of bits rest = 0x23 ∷ 0x00 ∷ 0x00 ∷ 0x00 ∷ 0x00 ∷ 0x00 ∷ bits ∷ rest

-- {0,1} 2 → the same tag and 0
with_set : read standard (over_3 1 (set_of 0x03 (0x22 ∷ 0x02 ∷ 0x00 ∷ [])))
    ≡ result (record { tags = 3; rules = record { kind = once; pattern = any 3 ∷ one 2 ∷ []; place = 1; tag = 0 } ∷ []; end = no_end })
with_set = refl

-- the high byte comes first: tag 40 is the lowest bit of the first byte
high-first : read standard (0x20 ∷ 0x30 ∷ 0x21 ∷ 0x01 ∷ 0x00 ∷ 0x23 ∷ 0x01 ∷ 0x00 ∷ 0x00 ∷ 0x00 ∷ 0x00 ∷ 0x01 ∷ 0x22 ∷ 0x02 ∷ 0x00 ∷ [])
    ≡ result (record { tags = 48; rules = record { kind = once; pattern = any 0x10000000001 ∷ one 2 ∷ []; place = 1; tag = 0 } ∷ []; end = no_end })
high-first = refl

-- one tag, and none, are too few: at the set's last byte
one_tag : read standard (over_3 1 (set_of 0x01 [])) ≡ refused 18 (byte 11)
one_tag = refl

no_tag : read standard (over_3 1 (set_of 0x00 [])) ≡ refused 18 (byte 11)
no_tag = refl

-- K is no tag, and that comes before
tag_k : read standard (over_3 1 (set_of 0x0b [])) ≡ refused 4 (byte 11)
tag_k = refl

tag_k_alone : read standard (over_3 1 (set_of 0x08 [])) ≡ refused 4 (byte 11)
tag_k_alone = refl

-- a set at the place, or after it: at the closing byte, and before 6 (the row has 0 there, which is the new tag)
at_place : read standard (over_3 0 (set_of 0x03 (0x22 ∷ 0x02 ∷ 0x00 ∷ []))) ≡ refused 19 (byte 14)
at_place = refl

after-place : read standard (over_3 0 (0x22 ∷ 0x00 ∷ set_of 0x03 (0x00 ∷ []))) ≡ refused 19 (byte 14)
after-place = refl

-- bytes are missing in a set
set-cut : read standard (over_3 1 (0x23 ∷ 0x00 ∷ 0x00 ∷ 0x00 ∷ 0x00 ∷ 0x00 ∷ [])) ≡ refused 1 (byte 11)
set-cut = refl

-- a seventh place
seventh : read standard (over_3 1 (set_of 0x03 (set_of 0x03 (set_of 0x03 (set_of 0x03 (set_of 0x03 (set_of 0x03 (0x23 ∷ [])))))))) ≡ refused 3 (byte 47)
seventh = refl

-- no rule is open
no_rule : read standard (0x20 ∷ 0x03 ∷ 0x23 ∷ []) ≡ refused 1 (byte 2)
no_rule = refl

-- Valid books, and their bytes (document 01, "Bytes of a book"; document 02, W4 and W9).
use Rattle.std.specs.Prelude.{ℕ, zero, suc, ◌/◌, ◌%◌, ◌^◌, ◌≤◌, ◌≡◌, List, [], ◌∷◌, ◌++◌, length}
use Rattle.limits.specs.Limits.{fewest_tags, no_end}
use Rattle.limits.specs.declared.Limits.{Limits}
use Rattle.cascades.specs.Pattern.{Class, one, any}
use Rattle.cascades.specs.Rule.{Kind, once, everywhere, Rule, Cascade, ValidCascade}

-- "K 2 to 48; at most 16 rules", each with "a pattern u of 1 to 6 tags": in place of 48, 16 and 6 the limits of the call (document 02, W8)
pub record Valid (lim : Limits) (b : Cascade) : Type 0 where
  pub enough_tags : fewest_tags ≤ b.tags
  pub few_tags : b.tags ≤ lim.tags
  pub few_rules : length b.rules ≤ lim.rules
  pub rules_valid : ValidCascade lim.pattern b
  -- a book's bytes have no end tag: a call names it
  pub no_end_tag : b.end ≡ no_end

-- the n lowest bytes of a number, "high byte first"
abbrev pub bytes_of : ℕ → ℕ → List ℕ
bytes_of zero s = []
bytes_of (suc n) s = s / 0x100 ^ n % 0x100 ∷ bytes_of n s

-- "22, then a tag (1 byte). The next tag of the pattern"; "Command 23 with six bytes stands for a pattern tag and gives a set as 48 bits"
abbrev pub encode_class : Class → List ℕ
encode_class (one a) = 0x22 ∷ a ∷ []
encode_class (any s) = 0x23 ∷ bytes_of 6 s

abbrev pub encode_pattern : List Class → List ℕ
encode_pattern [] = []
encode_pattern (c ∷ u) = encode_class c ++ encode_pattern u

-- "Command 24 opens a rule as 21 does, with the same operands, but marks it everywhere"
abbrev pub opener : Kind → ℕ
opener once = 0x21
opener everywhere = 0x24

-- "21, then p and the new tag (1 byte each). Opens a rule and closes the one before"
abbrev pub encode_rule : Rule → List ℕ
encode_rule r = opener r.kind ∷ r.place ∷ r.tag ∷ encode_pattern r.pattern

abbrev pub encode_rules : List Rule → List ℕ
encode_rules [] = []
encode_rules (r ∷ rs) = encode_rule r ++ encode_rules rs

-- "20, then K (1 byte). Opens the book, once"; "00. Closes the last rule and the book; it is the last byte"
abbrev pub encode : Cascade → List ℕ
encode b = 0x20 ∷ b.tags ∷ (encode_rules b.rules ++ (0x00 ∷ []))

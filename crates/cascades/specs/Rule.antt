-- Rules and cascades (document 01, "Rule, cascade, machine"; 002, section 2).
use Rattle.std.specs.Prelude.{ℕ, ◌^◌, ◌≤◌, ◌<◌, ◌≡◌, Bool, false, ◌||◌, List, [], ◌∷◌, length, take, drop, get_or}
use Rattle.words.specs.Word.{Below}
use Rattle.cascades.specs.Pattern.{Class, one, any, ones, some_set, word}

-- where a rule fires: at its leftmost match, once; or everywhere (document 02, W4)
pub data Kind : Type 0 where
  once : Kind
  everywhere : Kind

-- "A rule has a pattern u of 1 to 6 tags, a place p counted from 0, and a new tag"; in place of a tag may stand a set (document 02, W9)
pub record Rule : Type 0 where
  pub kind : Kind
  pub pattern : List Class
  pub place : ℕ
  pub tag : ℕ

-- the rule has a set
abbrev pub has_set : Rule → Bool
has_set r = some_set r.pattern

-- each set of the pattern is given "as 48 bits" and holds tags below k, "at least two"
abbrev pub SetsBelow : ℕ → List Class → Type 0
SetsBelow k [] = Unit {0}
SetsBelow k (one a ∷ u) = SetsBelow k u
SetsBelow k (any s ∷ u) = (s < 2 ^ 48) × (s < 2 ^ k) × (2 ≤ ones k s) × SetsBelow k u

-- a rule over k tags whose pattern has at most l places; the new tag is another than the one at the place; "Sets stand before p only"
pub record ValidRule (l k : ℕ) (r : Rule) : Type 0 where
  pub short : length r.pattern ≤ l
  pub pattern_below : Below k (word r.pattern)
  pub sets_below : SetsBelow k r.pattern
  pub place_inside : r.place < length r.pattern
  pub tag_below : r.tag < k
  pub sets_before : some_set (drop r.place r.pattern) ≡ false
  pub tag_new : get_or (word r.pattern) r.place 0 ≡ r.tag → ⊥

abbrev pub ValidRules : ℕ → ℕ → List Rule → Type 0
ValidRules l k [] = Unit {0}
ValidRules l k (r ∷ rs) = ValidRule l k r × ValidRules l k rs

-- a book's rules in order, over its K tags (document 01's "book"; 002's cascade with its tag set), and the end tag of the call, 255 for none
-- (document 02, W1)
pub record Cascade : Type 0 where
  pub tags : ℕ
  pub rules : List Rule
  pub end : ℕ

-- the same with other rules
abbrev pub having : Cascade → List Rule → Cascade
having c rs = record { tags = c.tags; rules = rs; end = c.end }

-- the same with another end tag: "one book with two end tags counts as two books"
abbrev pub ending : ℕ → Cascade → Cascade
ending e c = record { tags = c.tags; rules = c.rules; end = e }

-- "A leading part is the first i rules taken as a book"
abbrev pub leading : ℕ → Cascade → Cascade
leading i c = having c (take i c.rules)

-- some rule has a set
abbrev pub some_has_set : List Rule → Bool
some_has_set [] = false
some_has_set (r ∷ rs) = has_set r || some_has_set rs

-- its rules are valid for its tags, with at most l places in a pattern
abbrev pub ValidCascade : ℕ → Cascade → Type 0
ValidCascade l c = ValidRules l c.tags c.rules

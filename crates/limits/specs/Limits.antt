-- The bounds of document 01, and the limits that a call is given (document 02, W8). src/lib.rt has them for code.
use Rattle.std.specs.Prelude.{ℕ, ◌-◌, ◌*◌, ◌≤◌, Bool, ◌&&◌, leb}
use Rattle.limits.specs.declared.Limits.{Limits}

-- "sentence at most 65,535 tags; ceiling N of states 1 to 256" (document 01, "Bounds")
abbrev pub longest_sentence : ℕ
longest_sentence = 65535

abbrev pub most_states : ℕ
most_states = 256

-- "an end tag, or 255 for none" (document 02, W1): no tag is 255
abbrev pub no_end : ℕ
no_end = 255

-- "one record that every reader, run and compiler takes: most tags in a pattern (L, 1 to 8), most rules (1 to 16), greatest K (2 to 48)"
abbrev pub longest_pattern : ℕ
longest_pattern = 8

abbrev pub most_rules : ℕ
most_rules = 16

abbrev pub fewest_tags : ℕ
fewest_tags = 2

abbrev pub most_tags : ℕ
most_tags = 48

abbrev pub limits_of : ℕ → ℕ → ℕ → Limits
limits_of pattern rules tags = record { pattern = pattern; rules = rules; tags = tags }

pub record InRange (lim : Limits) : Type 0 where
  pub some_pattern : 1 ≤ lim.pattern
  pub short_pattern : lim.pattern ≤ longest_pattern
  pub some_rules : 1 ≤ lim.rules
  pub few_rules : lim.rules ≤ most_rules
  pub some_tags : fewest_tags ≤ lim.tags
  pub few_tags : lim.tags ≤ most_tags

abbrev pub between : ℕ → ℕ → ℕ → Bool
between least most n = leb least n && leb n most

abbrev pub in_range : Limits → Bool
in_range lim = between 1 longest_pattern lim.pattern && (between 1 most_rules lim.rules && between fewest_tags most_tags lim.tags)

-- "The old numbers are L = 6, 16 and 48"
abbrev pub standard : Limits
standard = limits_of 6 16 48

-- "a state holds at most (L − 1) × 16 tags"
abbrev pub most_held : Limits → ℕ
most_held lim = (lim.pattern - 1) * most_rules

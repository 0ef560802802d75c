-- A book that limits allow is allowed by wider ones, and it is read as the same cascade under all limits under which it is read.
use Prim.Native.Nat.{ℕ, ◌+◌, ◌≤◌}
use native.Mathlib.Omega.{arith}
use mathlib.Core.Path.{◌≡◌, sym, ap, ◌∙◌}
use mathlib.Core.List.{List, [], ◌∷◌}
use Rattle.limits.specs.Limits.{limits_of}
use Rattle.limits.specs.declared.Limits.{Limits}
use Rattle.answers.specs.Outcome.{result}
use Rattle.answers.proofs.Outcome.{same-result, went}
use Rattle.cascades.specs.Rule.{Rule, ValidRule, ValidRules, Cascade}
use Rattle.books.specs.Book.{Valid}
use Rattle.books.specs.Read.{read}
use Rattle.books.specs.Ending.{fitted, read_ending}
use Rattle.books.proofs.Encode.{reads_exactly}

rule_wider : (l m k : ℕ) (r : Rule) → l ≤ m → ValidRule l k r → ValidRule m k r
rule_wider l m k r h v =
    record {
      short = omega (arith, v.short);
      pattern_below = v.pattern_below;
      sets_below = v.sets_below;
      place_inside = v.place_inside;
      tag_below = v.tag_below;
      sets_before = v.sets_before;
      tag_new = v.tag_new;
    }

rules_wider : (l m k : ℕ) (rs : List Rule) → l ≤ m → ValidRules l k rs → ValidRules m k rs
rules_wider l m k [] h v = tt
rules_wider l m k (r ∷ rs) h v = (rule_wider l m k r h v.0, rules_wider l m k rs h v.1)

pub valid_wider : (lim wide : Limits) (c : Cascade) → lim.pattern ≤ wide.pattern → lim.rules ≤ wide.rules → lim.tags ≤ wide.tags → Valid lim c → Valid wide c
valid_wider lim wide c pattern rules tags v =
    record {
      enough_tags = v.enough_tags;
      few_tags = omega (arith, v.few_tags);
      few_rules = omega (arith, v.few_rules);
      rules_valid = rules_wider lim.pattern wide.pattern c.tags c.rules pattern v.rules_valid;
      no_end_tag = v.no_end_tag;
    }

pub same-cascade : (lim other : Limits) (bs : List ℕ) (c d : Cascade) → read lim bs ≡ result c → read other bs ≡ result d → c ≡ d
same-cascade lim other bs c d e f =
    let wide : Limits = limits_of (lim.pattern + other.pattern) (lim.rules + other.rules) (lim.tags + other.tags) in
    let x = (reads_exactly bs c).0 e in
    let y = (reads_exactly bs d).0 f in
    let first : read wide bs ≡ result c = (reads_exactly bs c).1 (valid_wider lim wide c (omega arith) (omega arith) (omega arith) x.0, x.1) in
    let second : read wide bs ≡ result d = (reads_exactly bs d).1 (valid_wider other wide d (omega arith) (omega arith) (omega arith) y.0, y.1) in
    same-result c d (sym first ∙ second)

-- with an end tag
pub same-ending : (lim other : Limits) (bs : List ℕ) (e : ℕ) (c d : Cascade) → read_ending lim bs e ≡ result c → read_ending other bs e ≡ result d → c ≡ d
same-ending lim other bs e c d f g =
    let x = went (read lim bs) (fitted e) c f in
    let y = went (read other bs) (fitted e) d g in
    same-result c d (sym x.then ∙ ap (fitted e) (same-cascade lim other bs x.first y.first x.read y.read) ∙ y.then)

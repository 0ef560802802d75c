-- What the arrays hold after a reading: the book's rules, or its refusal.
use Prim.Native.Nat.{ℕ, zero, suc, ◌<◌}
use native.Mathlib.Decide.{ℕ_discrete}
use native.Mathlib.Omega.{arith}
use mathlib.Core.Path.{◌≡◌, sym, ◌∙◌, subst}
use mathlib.Core.List.{List, reverse-reverse}
use lib.ListN.{length, length-reverse}
use Rattle.limits.specs.Limits.{InRange}
use Rattle.limits.specs.declared.Limits.{Limits}
use Rattle.answers.specs.Outcome.{result}
use Rattle.answers.specs.Answer.{refusal}
use Rattle.answers.specs.declared.Refusal.{Refusal}
use Rattle.cascades.specs.Rule.{ValidRule, ValidRules}
use Rattle.books.specs.Read.{read}
use Rattle.books.specs.Arrays.{Arrays, rule_at, rules_down, rules_of, cascade_of, RulesHeld}
use Rattle.books.specs.Resume.{ReadAs, Whole}
use Rattle.std.specs.Prelude.{Result, Ok, Err}
use Rattle.books.specs.declared.Count.{Count}
use Rattle.books.specs.declared.Unread.{Unread}
use Rattle.books.specs.declared.Unread.TheVariants.{Refused, Sets}
use Rattle.books.proofs.Arrays.{down-length}
use Rattle.books.proofs.Encode.{reads_exactly, valid-reverse}

down-valid : (l k : ℕ) (a : Arrays) (m : ℕ) → ValidRules l k (rules_down a m) → (i : ℕ) → i < m → ValidRule l k (rule_at a i)
down-valid l k a zero h i n = elim n [ ]
down-valid l k a (suc m) h i n = at (ℕ_discrete i m) (down-valid l k a m h.1 i)
  where
    at : Dec (i ≡ m) → (i < m → ValidRule l k (rule_at a i)) → ValidRule l k (rule_at a i)
    at (yes e) f = rw e h.0
    at (no d) f = f (omega arith)

pub rules-long : (a : Arrays) (m : ℕ) → length (rules_of a m) ≡ m
rules-long a m = length-reverse (rules_down a m) ∙ down-length a m

module _ {lim : Limits} (bytes : List ℕ) (a : Arrays) (r : Result Count Unread) (w : Whole lim bytes a r) where
  pub was_refused : (x : Refusal) → r ≡ Err (Refused x) → read lim bytes ≡ refusal x
  was_refused x f = sym (subst (λ (y : Result Count Unread). ReadAs y a (read lim bytes)) f w.outcome)

  pub was_sets : r ≡ Err Sets → length a.sets ≡ 0
  was_sets f = subst (λ (y : Result Count Unread). ReadAs y a (read lim bytes)) f w.outcome

  module _ (b : Count) (f : r ≡ Ok b) where
    pub was_read : read lim bytes ≡ result (cascade_of b.tags a b.rules)
    was_read = sym (subst (λ (y : Result Count Unread). ReadAs y a (read lim bytes)) f w.outcome)

    pub rules-held : InRange lim → RulesHeld lim.pattern b.tags b.rules a
    rules-held ranged =
        let v = ((reads_exactly bytes (cascade_of b.tags a b.rules)).0 was_read).0 in
        record {
          shaped = w.shaped;
          few = omega (arith, v.few_rules, rules-long a b.rules, ranged.few_rules);
          valid =
              down-valid lim.pattern b.tags a b.rules
              (subst (ValidRules lim.pattern b.tags) (reverse-reverse (rules_down a b.rules)) (valid-reverse lim.pattern b.tags (rules_of a b.rules) v.rules_valid));
        }

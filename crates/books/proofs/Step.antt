-- The step at a command: its cases, and that 21 and 24 open a rule of their kind.
use Prim.Native.Nat.{ℕ}
use mathlib.Core.Path.{◌≡◌, refl}
use mathlib.Core.Bool.{Bool, true, false}
use mathlib.Core.List.{List}
use borrow.Author.Tests.{eqb-true}
use lib.Dec.{eqb}
use Rattle.limits.specs.declared.Limits.{Limits}
use Rattle.answers.specs.Outcome.{Outcome, result, refused, nothing, and_then}
use Rattle.cascades.specs.Rule.{Kind, once, everywhere, Rule}
use Rattle.cascades.specs.Value.{kind_of}
use Rattle.books.specs.Book.{opener}
use Rattle.books.specs.Read.{Stage, command, pattern_tag, set_byte, ended, closing, next_class, next_rule, command_step, step}

by_test : (P : Outcome Stage → Type 0) (t : Bool) (x y : Outcome Stage) → (t ≡ true → P x) → P y → P (elim t [ true ↦ x | false ↦ y ])
by_test P true x y f g = f refl
by_test P false x y f g = g

-- 22 and 23: what stands at the next place of the pattern, and the stage that it leads to
pub data Part : Type 0 where
  tag : Part
  set : Part

abbrev pub opens_part : Part → ℕ
opens_part tag = 0x22
opens_part set = 0x23

abbrev pub first_of : Part → ℕ → Rule → List Rule → Stage
first_of tag k r rs = pattern_tag k r rs
first_of set k r rs = set_byte k r rs 5 0

-- what holds of every case holds of the step
pub by_command : (lim : Limits) (P : Outcome Stage → Type 0) (k : ℕ) (rs : List Rule) (b : ℕ) → (b ≡ 0x00 → P (and_then (closing rs) (λ x. result (ended k rs))))
    → ((kind : Kind) → b ≡ opener kind → P (next_rule lim k kind rs)) → ((part : Part) → b ≡ opens_part part → P (next_class lim rs (first_of part k))) → P (refused 1 nothing)
    → P (command_step lim k rs b)
by_command lim P k rs b ends opens parts unknown =
    by_test P (eqb b 0x00) (and_then (closing rs) (λ x. result (ended k rs))) _ (λ e. ends (eqb-true b 0x00 e))
    (by_test P (eqb b 0x21) (next_rule lim k once rs) _ (λ e. opens once (eqb-true b 0x21 e))
    (by_test P (eqb b 0x24) (next_rule lim k everywhere rs) _ (λ e. opens everywhere (eqb-true b 0x24 e))
    (by_test P (eqb b 0x22) (next_class lim rs (first_of tag k)) _ (λ e. parts tag (eqb-true b 0x22 e))
    (by_test P (eqb b 0x23) (next_class lim rs (first_of set k)) (refused 1 nothing) (λ e. parts set (eqb-true b 0x23 e)) unknown))))

pub step_opens : (lim : Limits) (k : ℕ) (rs : List Rule) (kind : Kind) → step lim (command k rs) (opener kind) ≡ next_rule lim k kind rs
step_opens lim k rs once = refl
step_opens lim k rs everywhere = refl

-- the command that opened a rule tells its kind
pub opener-kind : (kind : Kind) → kind_of (eqb (opener kind) 0x24) ≡ kind
opener-kind once = refl
opener-kind everywhere = refl

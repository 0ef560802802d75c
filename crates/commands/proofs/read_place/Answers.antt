use Prim.Native.Nat.{ℕ, ◌+◌}
use native.Mathlib.Omega.{arith}
use mathlib.Core.Path.{◌≡◌, refl, sym, ap, ap₂, ◌∙◌, subst}
use mathlib.Core.List.{[], ◌∷◌, ◌++◌}
use borrow.Author.Rules.{rules}
use lib.ListN.{length, get_or}
use Rattle.answers.specs.Outcome.{result, and_then}
use Rattle.cascades.specs.Pattern.{Class, any}
use Rattle.cascades.specs.Value.{class_of}
use Rattle.books.specs.Read.{Stage, set_read}
use Rattle.books.specs.Resume.{read_tags, number_at, faulted}
use Rattle.books.proofs.Commands.{set_missing, set_fault, set-taken}
use Rattle.books.proofs.Resume.{place-refused, place-to}
use Rattle.books.proofs.SoFar.{some-tag, any-class}
use Rattle.std.specs.Prelude.{Result, Ok}
use Rattle.answers.specs.declared.Reason.{Reason}
use Rattle.answers.specs.declared.Reason.TheVariants.{BadCommand}
use Rattle.answers.specs.declared.Refusal.TheVariants.{AtByte}
use Rattle.commands.proofs.read_place.Goals as goal

-- `commands::read_place` meets its contract: each return is a case of the definition at 22 or 23.
-- what a set's fault tells
abbrev Told : ℕ → Result (Unit {0}) Reason → ℕ → Type 0
Told k n set = (next : Stage) → set_read k set next ≡ and_then (faulted n) (λ x. result next)

pub returns-then-s-at-le-SET : goal.returns-then-s-at-le-SET
returns-then-s-at-le-SET c =
    let a = c.args in
    let h = c.requires in
    let is : get_or a.s.now a.at 0 ≡ 0x23 = h.2 (search rules) in
    place-refused a.s.now a.at a.k (AtByte BadCommand (length a.s.now)) (λ lim r rs w room. set_missing lim a.s.now a.k r rs w a.at h.0 is room (λ i. omega (arith, c.type_inv.s i)) (omega arith))

pub returns-in-Err : goal.returns-in-Err
returns-in-Err c =
    let a = c.args in
    let h = c.requires in
    let is : get_or a.s.now a.at 0 ≡ 0x23 = h.2 (search rules) in
    let fault = c.check_set in
    let told = subst (Told a.k fault.result) c.read_set-set.ensures fault.ensures in
    place-refused a.s.now a.at a.k (AtByte c.in-Err.reason (a.at + 6))
    (λ lim r rs w room. set_fault lim a.s.now a.k r rs w a.at h.0 is room (λ i. omega (arith, c.type_inv.s i)) (omega arith) fault.result told c.in-Err.reason c.in-Err.is)

pub returns : goal.returns
returns c =
    let a = c.args in
    let h = c.requires in
    let s = a.s.now in
    let is : get_or s a.at 0 ≡ 0x23 = h.2 (search rules) in
    let fault = c.check_set in
    let set = c.read_set-set in
    let told = subst (Told a.k fault.result) set.ensures fault.ensures in
    let ok : fault.result ≡ Ok tt = c.in_default.is in
    let some = some-tag a.k set.result (subst (λ (n : Result (Unit {0}) Reason). Told a.k n set.result) ok fault.ensures) in
    let next : a.at + 7 ≡ a.at + 6 + 1 = omega arith in
    let class : any (number_at s (a.at + 1) 6) ≡ class_of 0 set.result = ap any (sym set.ensures) ∙ any-class 0 set.result some in
    place-to s a.at a.k (record { tag = 0; set = set.result; at = a.at + 6 + 1 }) (omega arith) (omega arith) (λ d. refl)
    (λ lim r rs w room.
    set-taken lim s a.k r rs w a.at h.0 is room (λ i. omega (arith, c.type_inv.s i)) (omega arith) fault.result told ok
    ∙ ap₂ (λ (x : Class) (y : ℕ). read_tags lim s a.k r rs (w ++ (x ∷ [])) y) class next)

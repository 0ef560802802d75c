use Prim.Native.Nat.{ℕ, ◌+◌, ◌-◌}
use native.Mathlib.Omega.{arith}
use mathlib.Core.List.{List, ◌++◌}
use mathlib.Core.Path.{◌≡◌, sym, ap₂, ◌∙◌, subst}
use lib.ListN.{length, take, drop}
use Rattle.words.specs.Parts.{Begun}
use Rattle.words.proofs.Parts.{lent_long, begun_next, begun_all}
use Rattle.cascades.specs.Rule.{Rule}
use Rattle.cascades.specs.Rewrite.{apply_all}
use Rattle.cascades.proofs.Rewrite.{apply_all-long}
use Rattle.traces.specs.Trace.{numbers_of}
use Rattle.traces.proofs.Theorems.{numbers-long}
use Rattle.application.proofs.Pieces.{piecewise-nothing}
use Rattle.application.proofs.apply_pieces.Invariants.{making, numbering, rules_in}
use Rattle.application.proofs.apply_pieces.Goals as goal
use Rattle.application.proofs.apply_pieces.Goals.{After-apply_first-from}

-- one piece more
module _ (c : After-apply_first-from) where
  abbrev rules : List Rule
  rules = rules_in c.args.rules.now c.args.sets.now c.args.m

  abbrev from : ℕ
  from = c.loop-from.from

  abbrev s : List ℕ
  s = c.loop-from.s

  abbrev v : List ℕ
  v = c.loop-from.v

  abbrev noted : ℕ
  noted = c.min-noted.result

  abbrev made : List ℕ
  made = c.apply_first-from.new.s

  abbrev numbered : List ℕ
  numbered = c.apply_first-from.new.v

  abbrev next : List ℕ
  next = take from s ++ (made ++ drop (length s - from) (drop from s))

  sentence : Begun (making rules c.args.end) (making rules c.args.end) c.args.s.now next next (from + c.apply_first-from.result)
  sentence = begun_next (making rules c.args.end) c.args.s.now s s made made from c.apply_first-from.result c.loop-from.invariant.0 c.apply_first-from.ensures.s

  numbers : length c.args.v.now ≡ length c.args.s.now
      → Begun (numbering rules c.args.end) (numbering rules c.args.end) c.args.s.now next (take noted v ++ (numbered ++ drop (length v - noted) (drop noted v))) (from + c.apply_first-from.result)
  numbers beside =
      let inv = c.loop-from.invariant in
      let as_long : length v ≡ length s = omega (arith, beside, inv.1, inv.0.long) in
      let there : noted ≡ from = omega (arith, c.min-noted.ensures, as_long, inv.0.inside) in
      let lent : length (take (length v - noted) (drop noted v)) ≡ length (take (length s - from) (drop from s)) =
      lent_long v noted (omega (arith, there, as_long, inv.0.inside)) ∙ ap₂ (λ (i j : ℕ). i - j) as_long there ∙ sym (lent_long s from inv.0.inside)
      in
      subst (λ (n : ℕ). Begun (numbering rules c.args.end) (numbering rules c.args.end) c.args.s.now next (take n v ++ (numbered ++ drop (length v - n) (drop n v))) (from + c.apply_first-from.result)) (sym there)
      (begun_next (numbering rules c.args.end) c.args.s.now s v made numbered from c.apply_first-from.result (inv.2 beside) (c.apply_first-from.ensures.v lent))

pub loop-from-preserved : goal.loop-from-preserved
loop-from-preserved c =
    let p = (goal.at.loop-from-preserved c).After-apply_first-from in
    (sentence p, omega arith, numbers p)

pub returns-clause-s : goal.returns-clause-s
returns-clause-s c =
    let a = c.args in
    let l = c.loop-from in
    let rules = rules_in a.rules.now a.sets.now a.m in
    begun_all (making rules a.end) a.s.now l.s l.s l.from (piecewise-nothing a.end (apply_all rules) (apply_all-long rules)) (omega (arith, l.invariant.0.inside)) l.invariant.0

pub returns-clause-v : goal.returns-clause-v
returns-clause-v c beside =
    let a = c.args in
    let l = c.loop-from in
    let rules = rules_in a.rules.now a.sets.now a.m in
    begun_all (numbering rules a.end) a.s.now l.s l.v l.from (piecewise-nothing a.end (numbers_of rules) (numbers-long rules)) (omega (arith, l.invariant.0.inside)) (l.invariant.2 beside)

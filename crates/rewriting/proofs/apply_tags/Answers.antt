use mathlib.Core.Path.{sym, ap, ◌∙◌, subst}
use mathlib.Core.List.{List, []}
use Prim.Native.Nat.{ℕ}
use Rattle.cascades.specs.Rule.{Rule}
use Rattle.cascades.specs.Value.{rule_of}
use Rattle.cascades.specs.Spares.{Changes}
use Rattle.cascades.specs.Rewrite.{apply}
use Rattle.rewriting.proofs.Rewriting.{of_tags}
use Rattle.traces.specs.Note.{note}
use Rattle.traces.proofs.Note.{mark_is_note}
use Rattle.rewriting.proofs.apply_tags.Goals as goal

pub rewrite-requires : goal.rewrite-requires
rewrite-requires c = subst Changes (of_tags c.args.rule c.requires.0) c.requires.1

pub returns-clause-s : goal.returns-clause-s
returns-clause-s c =
    let a = c.args in
    let w = c.rewrite in
    let made = w.ensures.s ∙ sym (ap (λ (r : Rule). apply r a.s.now) (of_tags a.rule c.requires.0)) in made

pub returns-clause-v : goal.returns-clause-v
returns-clause-v c =
    let a = c.args in
    let w = c.rewrite in
    let made = w.ensures.s ∙ sym (ap (λ (r : Rule). apply r a.s.now) (of_tags a.rule c.requires.0)) in w.ensures.v ∙ ap (λ (y : List ℕ). note a.x a.s.now y a.v.now) made
    ∙ sym (mark_is_note (rule_of a.rule []) c.requires.1 a.x a.s.now a.v.now)

use mathlib.Core.Path.{sym, ap, ◌∙◌}
use mathlib.Core.List.{List}
use Prim.Native.Nat.{ℕ}
use Rattle.cascades.specs.Value.{rule_of}
use Rattle.traces.specs.Note.{note}
use Rattle.traces.proofs.Note.{mark_is_note}
use Rattle.rewriting.proofs.apply_sets.Goals as goal

pub returns-clause-v : goal.returns-clause-v
returns-clause-v c =
    let a = c.args in
    let w = c.rewrite in w.ensures.v ∙ ap (λ (y : List ℕ). note a.x a.s.now y a.v.now) w.ensures.s
    ∙ sym (mark_is_note (rule_of a.rule a.sets.now) c.requires.2 a.x a.s.now a.v.now)

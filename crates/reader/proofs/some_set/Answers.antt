use native.Mathlib.Omega.{arith}
use mathlib.Core.Path.{refl, sym}
use Rattle.cascades.specs.Rule.{has_set, some_has_set}
use Rattle.books.specs.Arrays.{Arrays, arrays}
use Rattle.books.proofs.Arrays.{no_set, a_set}
use Rattle.books.proofs.Some.{none_more, one_of}
use Rattle.reader.proofs.some_set.Goals as goal
use Rattle.reader.proofs.some_set.Goals.{Start}

abbrev held : Start → Arrays
held st = arrays st.args.rules.now st.args.sets.now

pub returns-then-rules-i-ne0 : goal.returns-then-rules-i-ne0
returns-then-rules-i-ne0 c =
    let st = (goal.at.returns-then-rules-i-ne0 c).Start in
    let l = c.loop-i in
    sym (one_of has_set some_has_set refl (λ r rs. refl) (held st) c.args.m l.i (a_set (held st) c.requires.shaped l.i (omega (arith, c.requires.m_le_most_rules)) (omega (arith, c.if-rules-i-ne0.true))) (omega arith))

pub loop-i-preserved : goal.loop-i-preserved
loop-i-preserved c =
    let st = (goal.at.loop-i-preserved c).Start in
    let l = c.loop-i in
    none_more has_set some_has_set refl (λ r rs. refl) (held st) l.i l.invariant (no_set (held st) c.requires.shaped l.i (omega (arith, c.requires.m_le_most_rules)) c.if-rules-i-ne0.false)

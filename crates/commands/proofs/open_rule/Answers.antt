use native.Mathlib.Omega.{arith}
use Prim.Native.Nat.{◌+◌}
use lib.ListN.{get_or}
use Rattle.answers.specs.Outcome.{Outcome}
use Rattle.cascades.specs.Rule.{Cascade}
use Rattle.books.specs.Arrays.{Arrays, arrays}
use Rattle.books.specs.Resume.{read_commands}
use Rattle.books.proofs.Arrays.{opened-arrays, opened-shaped}
use Rattle.books.proofs.Commands.{rule_too_many, rule_no_place, rule_no_tag, rule-high, rule-opened}
use Rattle.books.proofs.Resume.{resumes_refused, resumes_book}
use Rattle.answers.specs.declared.Reason.TheVariants.{BadCommand, BadTag, TooManyRules}
use Rattle.commands.proofs.open_rule.Goals as goal
use Rattle.commands.proofs.open_rule.Goals.{Start}

-- `commands::open_rule` meets its contract: each return is a case of the definition at 21 and 24.
abbrev held : Start → Arrays
held st = arrays st.args.rules.now st.args.sets.now

abbrev entry : Start → Outcome Cascade
entry st = read_commands st.args.lim st.args.s.now st.args.k st.args.m (held st) st.args.at

pub returns-then-lim-m-clause-resumes : goal.returns-then-lim-m-clause-resumes
returns-then-lim-m-clause-resumes c =
    let st = (goal.at.returns-then-lim-m-clause-resumes c).Start in
    resumes_refused c.args.s.now (entry st) (c.args.at + 1 + 1 + 1) (held st) c.requires.shaped c.refused-then-lim-m.result TooManyRules c.args.at c.refused-then-lim-m.ensures
    (rule_too_many c.args.lim c.args.s.now c.args.k c.args.m (held st) c.args.at c.requires.m_le_most_rules.1 c.requires.m_le_most_rules.2.0 c.requires.m_le_most_rules.2.1 c.in_default.ensures (omega arith))

pub returns-then-s-first-clause-resumes : goal.returns-then-s-first-clause-resumes
returns-then-s-first-clause-resumes c =
    let st = (goal.at.returns-then-s-first-clause-resumes c).Start in
    resumes_refused c.args.s.now (entry st) (c.args.at + 1 + 1 + 1) (held st) c.requires.shaped c.refused-then-s-first.result BadCommand (c.args.at + 1) c.refused-then-s-first.ensures
    (rule_no_place c.args.lim c.args.s.now c.args.k c.args.m (held st) c.args.at c.requires.m_le_most_rules.1 c.requires.m_le_most_rules.2.0 c.requires.m_le_most_rules.2.1 c.in_default.ensures (omega arith) (omega arith))

pub returns-then-s-second-clause-resumes : goal.returns-then-s-second-clause-resumes
returns-then-s-second-clause-resumes c =
    let st = (goal.at.returns-then-s-second-clause-resumes c).Start in
    resumes_refused c.args.s.now (entry st) (c.args.at + 1 + 1 + 1) (held st) c.requires.shaped c.refused-then-s-second.result BadCommand (c.args.at + 1 + 1) c.refused-then-s-second.ensures
    (rule_no_tag c.args.lim c.args.s.now c.args.k c.args.m (held st) c.args.at c.requires.m_le_most_rules.1 c.requires.m_le_most_rules.2.0 c.requires.m_le_most_rules.2.1 c.in_default.ensures (omega arith) (omega arith))

pub returns-then-k-tag-clause-resumes : goal.returns-then-k-tag-clause-resumes
returns-then-k-tag-clause-resumes c =
    let st = (goal.at.returns-then-k-tag-clause-resumes c).Start in
    resumes_refused c.args.s.now (entry st) (c.args.at + 1 + 1 + 1) (held st) c.requires.shaped c.refused-then-k-tag.result BadTag (c.args.at + 1 + 1) c.refused-then-k-tag.ensures
    (rule-high c.args.lim c.args.s.now c.args.k c.args.m (held st) c.args.at c.requires.m_le_most_rules.1 c.requires.m_le_most_rules.2.0 c.requires.m_le_most_rules.2.1 c.in_default.ensures (omega arith) (omega arith) (omega arith))

pub returns-clause-resumes : goal.returns-clause-resumes
returns-clause-resumes c =
    let st = (goal.at.returns-clause-resumes c).Start in
    let place = get_or c.args.s.now (c.args.at + 1) 0 in
    let tag = get_or c.args.s.now (c.args.at + 1 + 1) 0 in
    let command = get_or c.args.s.now c.args.at 0 in
    let after = opened-arrays (held st) c.args.m place tag command in
    resumes_book c.args.s.now (entry st) (c.args.at + 1 + 1 + 1) after
    (opened-shaped (held st) c.requires.shaped c.args.m (omega arith) place tag command) (record { tags = c.args.k; rules = c.args.m + 1 }) (omega arith) (omega arith)
    (rule-opened c.args.lim c.args.s.now c.args.k c.args.m (held st) c.args.at c.requires.m_le_most_rules.1 c.requires.m_le_most_rules.2.0 c.requires.m_le_most_rules.2.1 c.in_default.ensures (omega arith) c.requires.shaped (omega arith) (omega arith) c.requires.in_range)

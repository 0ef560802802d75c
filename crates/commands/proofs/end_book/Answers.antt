use native.Mathlib.Omega.{arith}
use mathlib.Core.Path.{sym, subst}
use Rattle.limits.specs.declared.Limits.{Limits}
use Rattle.answers.specs.Outcome.{Outcome}
use Rattle.cascades.specs.Rule.{Cascade}
use Rattle.books.specs.Arrays.{Arrays, arrays}
use Rattle.books.specs.Resume.{ReadAs, read_commands}
use Rattle.std.specs.Prelude.{Result}
use Rattle.books.specs.declared.Count.{Count}
use Rattle.books.specs.declared.Unread.{Unread}
use Rattle.books.proofs.Commands.{end_more}
use Rattle.commands.proofs.end_book.Goals as goal
use Rattle.commands.proofs.end_book.Goals.{Start}

-- `commands::end_book` meets its contract: each return is a case of the definition at 00.
abbrev held : Start → Arrays
held st = arrays st.args.rules.now st.args.sets.now

abbrev whole : Start → Limits → Outcome Cascade
whole st lim = read_commands lim st.args.s.now st.args.k st.args.m (held st) st.args.at

pub returns-then-next-s : goal.returns-then-next-s
returns-then-next-s c lim =
    let st = (goal.at.returns-then-next-s c).Start in
    subst (λ (r : Result Count Unread). ReadAs r (held st) (whole st lim)) (sym c.refused-then-next-s.ensures)
    (sym (end_more lim c.args.s.now c.args.k c.args.m (held st) c.args.at c.requires.m_le_most_rules.1 c.requires.m_le_most_rules.2 c.in_default.ensures (omega arith)))

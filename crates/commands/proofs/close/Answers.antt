use native.Mathlib.Omega.{arith}
use borrow.Author.Rules.{rules}
use Rattle.books.specs.Arrays.{Arrays, arrays}
use Rattle.books.proofs.Arrays.{closing_outside, closing-set, closing_same, closing-none}
use Rattle.commands.proofs.close.Goals as goal
use Rattle.commands.proofs.close.Goals.{Start}

-- `commands::close` meets its contract: each return is a case of `closing` at the last rule.
abbrev held : Start → Arrays
held s = arrays s.args.rules.now s.args.sets.now

pub returns-then-n-p : goal.returns-then-n-p
returns-then-n-p c = closing_outside (held (goal.at.returns-then-n-p c).Start) c.requires.shaped c.args.m c.requires.m_le_most_rules (search rules) (search rules) (omega arith)

pub returns-then-p-from : goal.returns-then-p-from
returns-then-p-from c = closing-set (held (goal.at.returns-then-p-from c).Start) c.requires.shaped c.args.m c.requires.m_le_most_rules (search rules) (search rules) (omega arith) (omega arith)

pub returns-then-rules-last : goal.returns-then-rules-last
returns-then-rules-last c = closing_same (held (goal.at.returns-then-rules-last c).Start) c.requires.shaped c.args.m c.requires.m_le_most_rules (search rules) (search rules) (omega arith) (omega arith) (cc c.if-rules-last.true)

pub returns : goal.returns
returns c = closing-none (held (goal.at.returns c).Start) c.requires.shaped c.args.m c.requires.m_le_most_rules (search rules) (search rules) (omega arith) (omega arith) (λ e. c.if-rules-last.false (cc))

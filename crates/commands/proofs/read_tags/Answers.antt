use native.Mathlib.Omega.{arith}
use borrow.Author.Rules.{rules}
use Prim.Native.Nat.{ℕ, ◌+◌, ◌≤◌}
use mathlib.Core.Path.{◌≡◌, ap, ◌∙◌}
use mathlib.Core.List.{List}
use lib.ListN.{length, get_or, take, length-set}
use lib.Seq.{length-take-le}
use Rattle.limits.specs.Limits.{longest_pattern}
use Rattle.cascades.specs.Pattern.{Class, plain}
use Rattle.cascades.proofs.Pattern.{plain-length}
use Rattle.books.specs.Resume.{read_tags}
use Rattle.books.proofs.Commands.{tag_too_many, tag_missing, tag-high, tag-taken}
use Rattle.books.proofs.Resume.{tags-refused}
use Rattle.books.proofs.SoFar.{plain_more}
use Rattle.answers.specs.declared.Reason.TheVariants.{BadCommand, BadPattern, BadTag}
use Rattle.answers.specs.declared.Refusal.TheVariants.{AtByte}
use Rattle.commands.proofs.read_tags.Goals as goal
use Rattle.commands.proofs.read_tags.Goals.{Start}

-- so many tags so far
tags : (st : Start) (row : List ℕ) (n : ℕ) → n ≤ st.args.most → length row ≡ longest_pattern → length (plain (take n row)) ≡ n
tags st row n h long = plain-length (take n row) ∙ length-take-le n row (omega (arith, st.requires.2))

pub returns-then-most-n : goal.returns-then-most-n
returns-then-most-n c =
    let l = c.loop-at in
    let s = c.args.s.now in
    let is : get_or s l.at 0 ≡ 0x22 = search rules in
    tags-refused s c.args.from c.args.k c.args.most l.row l.invariant.3 (AtByte BadPattern l.at)
    (λ lim r rs e. l.invariant.4 lim r rs e ∙ tag_too_many lim s c.args.k r rs (plain (take l.n l.row)) l.at (omega arith) is (omega (arith, tags (goal.at.returns-then-most-n c).Start l.row l.n l.invariant.2 l.invariant.3)))

pub returns-then-s-byte : goal.returns-then-s-byte
returns-then-s-byte c =
    let l = c.loop-at in
    let s = c.args.s.now in
    let is : get_or s l.at 0 ≡ 0x22 = search rules in
    tags-refused s c.args.from c.args.k c.args.most l.row l.invariant.3 (AtByte BadCommand (l.at + 1))
    (λ lim r rs e. l.invariant.4 lim r rs e ∙ tag_missing lim s c.args.k r rs (plain (take l.n l.row)) l.at (omega arith) is (omega (arith, tags (goal.at.returns-then-s-byte c).Start l.row l.n l.invariant.2 l.invariant.3)) (omega arith))

pub returns-then-k-tag : goal.returns-then-k-tag
returns-then-k-tag c =
    let l = c.loop-at in
    let s = c.args.s.now in
    let is : get_or s l.at 0 ≡ 0x22 = search rules in
    tags-refused s c.args.from c.args.k c.args.most l.row l.invariant.3 (AtByte BadTag (l.at + 1))
    (λ lim r rs e. l.invariant.4 lim r rs e ∙ tag-high lim s c.args.k r rs (plain (take l.n l.row)) l.at (omega arith) is (omega (arith, tags (goal.at.returns-then-k-tag c).Start l.row l.n l.invariant.2 l.invariant.3)) (omega arith) (omega arith))

pub loop-at-preserved : goal.loop-at-preserved
loop-at-preserved c =
    let l = c.loop-at in
    let s = c.args.s.now in
    let is : get_or s l.at 0 ≡ 0x22 = search rules in
    let tag = get_or s (l.at + 1) 0 in (
      omega (arith, l.invariant.0),
      omega arith,
      omega arith,
      length-set l.row l.n tag ∙ l.invariant.3,
      λ lim r rs e. l.invariant.4 lim r rs e ∙ tag-taken lim s c.args.k r rs (plain (take l.n l.row)) l.at (omega arith) is (omega (arith, tags (goal.at.loop-at-preserved c).Start l.row l.n l.invariant.2 l.invariant.3)) (omega arith) (omega arith)
          ∙ ap (λ (u : List Class). read_tags lim s c.args.k r rs u (l.at + 2)) (plain_more l.row l.n tag (omega (arith, l.invariant.3, c.requires.2))),
    )

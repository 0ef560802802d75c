use Prim.Native.Nat.{ℕ}
use mathlib.Core.Path.{refl, subst}
use mathlib.Core.List.{List, []}
use lib.ListN.{length}
use Rattle.answers.specs.Outcome.{Outcome}
use Rattle.sentences.specs.Run.{Ran}
use Rattle.books.specs.Arrays.{arrays}
use Rattle.tagger.proofs.Run.{book_runs_whole, applicable}
use Rattle.tagger.proofs.run_whole.Goals as goal

pub run_rules-requires : goal.run_rules-requires
run_rules-requires c =
    let r = c.read_plain_into in
    let a = arrays r.new.rules [] in
    (applicable c.args.book.now a r.result r.ensures c.requires c.in-Ok.count c.in-Ok.is, refl)

pub returns-in-Ok : goal.returns-in-Ok
returns-in-Ok c =
    let r = c.read_plain_into in
    let a = arrays r.new.rules [] in
    let u = c.run_rules in
    subst (λ (o : Outcome (List ℕ)). Ran o c.args.sentence.now c.args.out.now u.new.out u.result)
    (book_runs_whole c.args.book.now a r.result r.ensures c.requires c.in-Ok.count c.in-Ok.is c.args.sentence.now (length c.args.out.now))
    u.ensures

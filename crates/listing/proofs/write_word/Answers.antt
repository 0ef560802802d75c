use native.Mathlib.Omega.{arith}
use Prim.Native.Nat.{ℕ, ◌≤◌, ◌<◌}
use mathlib.Core.Path.{◌≡◌}
use mathlib.Core.List.{List}
use lib.ListN.{length}
use Rattle.agreement.specs.Stored.{Chained}
use Rattle.listing.proofs.Words.{before-length}
use Rattle.listing.proofs.write_word.Goals as goal
use Rattle.listing.proofs.write_word.Goals.{Start}

-- a word that has a tag is not empty
some_left : (st : Start) (at left : ℕ) → 0 < at → at < st.args.n → ((word : ℕ → List ℕ) → Chained st.args.k st.args.n word st.args.pairs.now → left ≡ length (word at)) → 1 ≤ left
some_left c at left some inside is =
    let s = c.requires.0 in
    omega (arith, is s.word s.chained, before-length c.args.k c.args.n s.word c.args.pairs.now s.chained at some inside)

pub overflow_sub-left : goal.overflow_sub-left
overflow_sub-left c = some_left (goal.at.overflow_sub-left c).Start c.loop-at.at c.loop-at.left (omega arith) c.loop-at.invariant.0 (λ word ch. (c.loop-at.invariant.3 word ch).0)

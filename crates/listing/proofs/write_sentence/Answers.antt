use native.Mathlib.Omega.{arith}
use Prim.Native.Nat.{ℕ, ◌<◌}
use mathlib.Core.Path.{◌≡◌}
use mathlib.Core.List.{List}
use lib.ListN.{length}
use Rattle.agreement.specs.Stored.{Chained}
use Rattle.listing.proofs.Words.{sentence-put}
use Rattle.listing.proofs.write_sentence.Goals as goal
use Rattle.listing.proofs.write_sentence.Goals.{Start}

-- `listing::write_sentence` meets its contract.
-- a word is shorter than its place in the list
long_less : (st : Start) (long : ℕ) → ((word : ℕ → List ℕ) → Chained st.args.k st.args.n word st.args.pairs.now → long ≡ length (word st.args.j)) → long < st.args.n
long_less c long is = let s = c.requires.0 in omega (arith, is s.word s.chained, s.short c.args.j c.requires.1, c.requires.1)

pub returns : goal.returns
returns c = let a = c.args in
    let l = c.word_length-long in
    λ word ch.
    sentence-put (word a.j) a.out.now _ a.tag _ l.result (l.ensures word ch) (omega (arith, long_less (goal.at.returns c).Start l.result l.ensures, c.requires.3)) c.byte.ensures (c.write_word.ensures word ch)

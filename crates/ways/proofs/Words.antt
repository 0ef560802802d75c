-- Words that are put to the buffer.
use Prim.Native.Nat.{ℕ, suc, ◌+◌, ◌/◌, ◌≤◌, ◌<◌}
use native.Mathlib.Omega.{arith}
use mathlib.Core.Path.{◌≡◌, refl, sym, ap, ◌∙◌}
use mathlib.Core.Bool.{Bool, true, false}
use mathlib.Core.List.{List, ◌++◌, append_assoc}
use borrow.Author.Tests.{le-leb, leb-true, leb-false}
use lib.Dec.{leb}
use Rattle.std.specs.Prelude.{MatchOption}
use Rattle.std.specs.Bool.{then_some}
use lib.ListN.{length, take, drop, set, length-set}
use lib.Seq.{length-take-le, take-append-le, take-append-add, sets, sets-eq}
use Rattle.answers.specs.Outcome.{Outcome, result}
use Rattle.loaded.specs.Run.{byte_of, above, word_of}
use Rattle.ways.specs.Walk.{PutWord, Put}

word_is : (u v : List ℕ) → ◌≡◌ {A = Outcome (List ℕ)} (result u) (result v) → length u ≡ length v
word_is u v e = cc

module _ (ns : List ℕ) (e : ℕ) (b : List ℕ) (at n : ℕ) (low : at ≤ n) where
  -- a word of at most three tags
  module _ (few : byte_of e ≤ 3) where
    short-is : word_of ns e ≡ result (take (byte_of e) (above e))
    short-is = cc (le-leb (byte_of e) 3 few)

    short-long : length (take (byte_of e) (above e)) ≡ byte_of e
    short-long = length-take-le (byte_of e) (above e) few

    three : List ℕ
    three = set (set (set b at (byte_of (e / 0x100))) (at + 1) (byte_of (e / 0x10000))) (at + 2) (byte_of (e / 0x1000000))

    three_is : three ≡ sets b at (above e)
    unfolding three
    three_is =
        let one : at + 1 ≡ suc at = omega arith in
        let two : at + 2 ≡ suc (suc at) = omega arith in
        rw (one, two) refl

    pub put-short : n + 3 ≤ length b
        → Put ns e b (set (set (set b at (byte_of (e / 0x100))) (at + 1) (byte_of (e / 0x10000))) (at + 2) (byte_of (e / 0x1000000))) at n (then_some (leb (at + byte_of e) n) (at + byte_of e))
    unfolding three
    put-short room = record { long = simp length-set refl; ends = by (leb (at + byte_of e) n) refl }
      where
        whole : sets b at (above e) ≡ take at b ++ (above e ++ drop (at + 3) b)
        whole = sets-eq (above e) b at (omega (arith, room, low)) ∙ append_assoc (take at b) (above e) (drop (at + 3) b)

        at_long : length (take at b) ≡ at
        at_long = length-take-le at b (omega (arith, room, low))

        front : take (at + byte_of e) three ≡ take at b ++ take (byte_of e) (above e)
        front =
            ap (take (at + byte_of e)) (three_is ∙ whole)
            ∙ ap (λ (i : ℕ). take (i + byte_of e) (take at b ++ (above e ++ drop (at + 3) b))) (sym at_long)
            ∙ take-append-add (take at b) (above e ++ drop (at + 3) b) (byte_of e)
            ∙ ap (λ (l : List ℕ). take at b ++ l) (take-append-le (byte_of e) (above e) (drop (at + 3) b) few)

        by : (t : Bool) → leb (at + byte_of e) n ≡ t
            → MatchOption (then_some t (at + byte_of e)) ((w : List ℕ) → word_of ns e ≡ result w → n < at + length w) (λ i. (i ≤ n) × PutWord ns e b three at i)
        by true f = (leb-true (at + byte_of e) n f, record { word = take (byte_of e) (above e); is = short-is; end = omega (arith, short-long); front = front })
        by false f = λ w is. omega (arith, leb-false (at + byte_of e) n f, word_is (take (byte_of e) (above e)) w (sym short-is ∙ is), short-long)

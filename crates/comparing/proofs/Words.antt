-- Words in buffers: put there tag by tag and one after the other.
use Prim.Native.Nat.{ℕ, ◌+◌, ◌≤◌, ◌<◌}
use native.Mathlib.Nat.{zero-add}
use native.Mathlib.Numerals.{add-one}
use native.Mathlib.Omega.{arith}
use mathlib.Core.Path.{◌≡◌, sym, ap, ◌∙◌}
use mathlib.Core.List.{List, ◌++◌, append_assoc}
use lib.ListN.{length, take, get_or, set, length-append}
use lib.Seq.{take-length, get_or-take, length-take-le, paste, paste-suc, take-paste}
use Rattle.steps.specs.Entry.{TagsAt}
use Rattle.comparing.specs.Step.{FrontPut}

-- one more tag of a word
pub paste_next : (out now w : List ℕ) (from i tag : ℕ) → from + i < length out → i < length w → tag ≡ get_or w i 0
    → now ≡ paste out from w i → set now (from + i) tag ≡ paste out from w (i + 1)
paste_next out now w from i tag room h t e = rw (e, t, add-one) (paste-suc out from w i 0 room h)

-- the front of a word has been put, the whole word, and one word after another
module _ (out after : List ℕ) (from : ℕ) where
  pub put-part : (w : List ℕ) (n : ℕ) → n ≤ length w → from ≤ length out → after ≡ paste out from w n → FrontPut out after from (take n w) (from + n)
  put-part w n h room e =
      record { end = omega (arith, length-take-le n w h); is = ap (take (from + n)) e ∙ take-paste out from w n room h }

  pub put_whole : (w : List ℕ) (n : ℕ) → n ≡ length w → from ≤ length out → after ≡ paste out from w n → FrontPut out after from w (from + n)
  put_whole w n h room e =
      let all : take n w ≡ w = rw h (take-length w) in
      rw all at (put-part w n (omega arith) room e)

  pub put_then : (last u v : List ℕ) (mid to : ℕ) → FrontPut out after from u mid → FrontPut after last mid v to → FrontPut out last from (u ++ v) to
  put_then last u v mid to x y =
      record {
        end = omega (arith, x.end, y.end, length-append u v);
        is = y.is ∙ ap (λ (l : List ℕ). l ++ v) x.is ∙ append_assoc (take from out) u v;
      }

-- a whole word at the front
pub put_front : (out after w : List ℕ) (n : ℕ) → n ≡ length w → after ≡ paste out 0 w n → FrontPut out after 0 w n
put_front out after w n h e = rw (zero-add n) at (put_whole out after 0 w n h (omega arith) e)

-- the front of a word stands where the word does
pub front-stands : (bs w : List ℕ) (place n : ℕ) → n ≤ length w → TagsAt bs place w → TagsAt bs place (take n w)
front-stands bs w place n h st =
    record {
      tags = λ j l. let lt : j < n = omega (arith, length-take-le n w h) in st.tags j (omega arith) ∙ sym (get_or-take n w j 0 lt);
      inside = omega (arith, st.inside, length-take-le n w h);
    }

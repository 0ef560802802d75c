-- A word is put out: no tag, one or more.
use Prim.Native.Nat.{ℕ, ◌+◌, ◌*◌, ◌<◌, ◌≤◌, ◌-◌}
use native.Mathlib.Numerals.{add-one}
use native.Mathlib.Omega.{arith}
use mathlib.Core.Path.{◌≡◌, refl, sym, ap, ◌∙◌}
use mathlib.Core.List.{List}
use lib.ListN.{length, drop, get_or, set, length-set}
use lib.Seq.{drop-drop, take-set-le, drop-set-lt, take-length, paste, paste-suc, take-paste, drop-paste}
use Rattle.steps.specs.Entry.{count_of, place_of, TagsAt, EntryOf}
use Rattle.transduction.specs.Parts.{WordPut}

-- a turn of the loop that puts a word
pub put_next :
    (bs out now w : List ℕ) (place at j : ℕ)
    → TagsAt bs place w
    → at + length w ≤ length out
    → j < length w
    → now ≡ paste out at w j
    → set now (at + j) (get_or bs (place + 2 * j) 0) ≡ paste out at w (j + 1)
put_next bs out now w place at j st room h e =
    rw (e, st.tags j h, add-one) (paste-suc out at w j 0 (omega arith) h)

-- a word of no tag, of one and of more
module _ (out : List ℕ) (at : ℕ) (inside : at < length out) where
  kept_set : (v c : ℕ) → at < c → drop c (set out at v) ≡ drop c out
  kept_set v c h = drop-set-lt c out at v h

  pub put-more : (v : ℕ) (w : List ℕ) → at + length w ≤ length out → WordPut out (paste (set out at v) at w (length w)) at w (at + length w)
  put-more v w room =
      let d = set out at v in
      let long : at ≤ length d = simp length-set (omega arith) in
      record {
        end = refl;
        front =
            take-paste d at w (length w) long (omega arith)
            ∙ rw (take-length w, take-set-le at out at v (omega arith)) refl;
        kept =
            λ c h g.
            let n = at + length w in
            let e : n + (c - n) ≡ c = omega arith in
            let whole = drop-paste d at w (length w) long (omega arith) in
            ap (λ (i : ℕ). drop i (paste d at w (length w))) (sym e)
            ∙ sym (drop-drop (c - n) n (paste d at w (length w)))
            ∙ ap (λ (l : List ℕ). drop (c - n) l) whole
            ∙ drop-drop (c - n) n d
            ∙ ap (λ (i : ℕ). drop i d) e
            ∙ kept_set v c h;
      }

  -- the word of an entry
  module _ (bs w : List ℕ) (base e : ℕ) (cell : EntryOf bs base w e) (short : length w < 0xff) where
    pub put-many :
        (v count place : ℕ) (out' : List ℕ)
        → count ≡ count_of e
        → 2 ≤ count
        → place ≡ place_of e
        → at + count ≤ length out
        → ((u : List ℕ) → length u ≡ count → TagsAt bs place u → out' ≡ paste (set out at v) at u count)
        → WordPut out out' at w (at + count)
    put-many v count place out' c many p room f =
        let n : count ≡ length w = omega (arith, cell.count_is) in
        let e : out' ≡ paste (set out at v) at w count = f w (sym n) (rw p (cell.stands (λ o. omega arith))) in
        rw (e, n) (put-more v w (omega arith))

-- A listed word from its last tag to its first.
use Prim.Native.Nat.{ℕ, ◌+◌, ◌-◌, ◌≤◌, ◌<◌}
use native.Mathlib.Omega.{arith}
use mathlib.Core.Path.{◌≡◌, sym, ap, ap₂, ◌∙◌}
use mathlib.Core.List.{List, [], ◌∷◌, ◌++◌, append_assoc}
use lib.ListN.{length, drop, get_or, set, length-append, length-set}
use lib.Seq.{set-append_seam, get_or-set_same, drop-set-lt}
use Rattle.words.proofs.Word.{drop-step}
use Rattle.agreement.specs.Stored.{before_at, tag_at, Chained}

-- a word stands in front, and one more tag is put behind it
pub sentence-put : (w out mid : List ℕ) (a v long : ℕ) → long ≡ length w → long < length out → v ≡ a → mid ≡ w ++ drop (length w) out
    → (long + 1 ≡ length (w ++ (a ∷ []))) × (set mid long v ≡ (w ++ (a ∷ [])) ++ drop (long + 1) out)
sentence-put w out mid a v long e h t is = (
  omega (arith, length-append w (a ∷ [])),
  ap (λ (l : List ℕ). set l long v) (is ∙ ap (λ (i : ℕ). w ++ drop i out) (sym e) ∙ ap (λ (l : List ℕ). w ++ l) (drop-step out long 0 h))
      ∙ ap₂ (λ (i x : ℕ). set (w ++ (get_or out long 0 ∷ drop (long + 1) out)) i x) e t
      ∙ set-append_seam w (get_or out long 0) (drop (long + 1) out) a ∙ sym (append_assoc w (a ∷ []) (drop (long + 1) out)),
)

module _ (k n : ℕ) (word : ℕ → List ℕ) (pairs : List ℕ) (ch : Chained k n word pairs) (at : ℕ) (some : 0 < at) (inside : at < n) where
  -- the word before is shorter by one
  pub before-length : length (word at) ≡ length (word (before_at pairs at)) + 1
  before-length = ap length (ch.came at some inside) ∙ length-append (word (before_at pairs at)) (tag_at pairs at ∷ [])

  -- one more of its tags stands in its place
  pub put_last : (out rest : List ℕ) (left tag : ℕ) → left ≡ length (word at) → left ≤ length out → tag ≡ tag_at pairs at → word at ++ drop left out ≡ rest
      → word (before_at pairs at) ++ drop (left - 1) (set out (left - 1) tag) ≡ rest
  put_last out rest left tag e room t is =
      let p = left - 1 in
      let less : p < length out = omega (arith, before-length) in
      let back : p + 1 ≡ left = omega (arith, before-length) in
      let tail : drop p (set out p tag) ≡ tag_at pairs at ∷ drop left out =
      drop-step (set out p tag) p 0 (omega (arith, length-set out p tag)) ∙ ap₂ (λ (x : ℕ) (l : List ℕ). x ∷ l) (get_or-set_same out p tag 0 less ∙ t) (ap (λ (i : ℕ). drop i (set out p tag)) back ∙ drop-set-lt left out p tag (omega arith)) in
      ap (λ (l : List ℕ). word (before_at pairs at) ++ l) tail
      ∙ sym (append_assoc (word (before_at pairs at)) (tag_at pairs at ∷ []) (drop left out))
      ∙ ap (λ (l : List ℕ). l ++ drop left out) (sym (ch.came at some inside)) ∙ is

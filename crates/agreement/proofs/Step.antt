-- Laws of one tag more: what both make of a word with a tag more, by what they hold after the word.
use Prim.Native.Nat.{ℕ, ◌+◌, ◌-◌, ◌≤◌}
use native.Mathlib.Omega.{arith}
use native.Mathlib.Decide.{dec_le}
use mathlib.Core.Logic.{◌↔◌}
use mathlib.Core.Path.{◌≡◌, sym, ap, ◌∙◌}
use mathlib.Core.List.{List, [], ◌∷◌, ◌++◌, append_assoc, append-nil, append_cancel_left}
use lib.ListN.{length, take, length-append}
use lib.Seq.{take-append_seam, take-append-add}
use Rattle.words.specs.Word.{Below}
use Rattle.transducers.specs.Transducer.{Shape, puts}
use Rattle.transducers.specs.Run.{walk, outputs}
use Rattle.transducers.proofs.Run.{puts-append}
use Rattle.agreement.specs.Beside.{Beside}
use Rattle.agreement.specs.Search.{Agree, StepAgrees, ahead}
use Rattle.agreement.proofs.Beside.{beside-fronts, beside_back}

-- the front o is m and what f is shorter than g by, and g is not the shorter one
abbrev Level : List ℕ → List ℕ → List ℕ → List ℕ → Type 0
Level o m f g = (o ≡ m ++ ahead f g) × (ahead g f ≡ [])

-- the shorter of two rests of a word stands behind the longer front
front-longer : (o m f g : List ℕ) → o ++ f ≡ m ++ g → length f ≤ length g → Level o m f g
front-longer o m f g e le = (longer, ap (λ (n : ℕ). take n f) none)
  where
    none : length f - length g ≡ 0
    none = omega arith

    long : length o ≡ length m + (length g - length f)
    long = omega (arith, length-append o f, length-append m g, ap length e)

    longer : o ≡ m ++ ahead f g
    longer =
        sym (take-append_seam o f) ∙ ap (take (length o)) e ∙ ap (λ (n : ℕ). take n (m ++ g)) long
        ∙ take-append-add m g (length g - length f)

-- what one is ahead by stands for both fronts
level_on : (o m f g x y : List ℕ) → Level o m f g → ahead f g ++ x ≡ ahead g f ++ y → o ++ x ≡ m ++ y
level_on o m f g x y l e =
    ap (λ (u : List ℕ). u ++ x) l.0 ∙ append_assoc m (ahead f g) x ∙ ap (λ (u : List ℕ). m ++ u) e
    ∙ ap (λ (u : List ℕ). m ++ (u ++ y)) l.1

level_off : (o m f g x y : List ℕ) → Level o m f g → o ++ x ≡ m ++ y → ahead f g ++ x ≡ ahead g f ++ y
level_off o m f g x y l e =
    append_cancel_left m (ahead f g ++ x) y (sym (append_assoc m (ahead f g) x) ∙ ap (λ (u : List ℕ). u ++ x) (sym l.0) ∙ e)
    ∙ ap (λ (u : List ℕ). u ++ y) (sym l.1)

-- two fronts of a word go on to one word if and only if what they are ahead by does
levels : (o m f g x y : List ℕ) → o ++ f ≡ m ++ g → (o ++ x ≡ m ++ y) ↔ (ahead f g ++ x ≡ ahead g f ++ y)
levels o m f g x y e = by (dec_le (length f) (length g))
  where
    by : Dec (length f ≤ length g) → (o ++ x ≡ m ++ y) ↔ (ahead f g ++ x ≡ ahead g f ++ y)
    by (yes le) = let l = front-longer o m f g e le in (level_off o m f g x y l, level_on o m f g x y l)
    by (no nle) =
        let l = front-longer m o g f (sym e) (omega arith) in
        (λ h. sym (level_off m o g f y x l (sym h)), λ h. sym (level_on m o g f y x l (sym h)))

module _ (S T : Shape) (w : List ℕ) where
  -- what both make of a word that goes on with x, by the states that w leads to
  agree_split : (x : List ℕ) → Agree S T (w ++ x) → outputs S 0 w ++ puts S (walk S 0 w) x ≡ outputs T 0 w ++ puts T (walk T 0 w) x
  agree_split x e = sym (puts-append S 0 w x) ∙ e ∙ puts-append T 0 w x

  agree_join : (x : List ℕ) → outputs S 0 w ++ puts S (walk S 0 w) x ≡ outputs T 0 w ++ puts T (walk T 0 w) x → Agree S T (w ++ x)
  agree_join x e = puts-append S 0 w x ∙ e ∙ sym (puts-append T 0 w x)

  agree_end : Agree S T w → outputs S 0 w ++ S.final (walk S 0 w) ≡ outputs T 0 w ++ T.final (walk T 0 w)
  agree_end e = agree_split [] (ap (puts S 0) (append-nil w) ∙ e ∙ ap (puts T 0) (sym (append-nil w)))

  -- both make the same of all words that begin with w and go on with at most n tags, if their states are beside one another
  pub beside-agrees : (k n : ℕ) → Agree S T w → Beside k n (puts S (walk S 0 w)) (puts T (walk T 0 w))
      → (x : List ℕ) → Below k x → length x ≤ n → Agree S T (w ++ x)
  beside-agrees k n e b x hx le = agree_join x (beside_back k n b (outputs S 0 w) (outputs T 0 w) (agree_end e) x hx le)

  pub agrees-beside : (k n : ℕ) → ((x : List ℕ) → Below k x → length x ≤ n → Agree S T (w ++ x))
      → Beside k n (puts S (walk S 0 w)) (puts T (walk T 0 w))
  agrees-beside k n e = beside-fronts k n (outputs S 0 w) (outputs T 0 w) (λ x hx le. agree_split x (e x hx le))

  module _ (a : ℕ) (e : Agree S T w) where
    step_levels : Agree S T (w ++ (a ∷ [])) ↔ StepAgrees S T (walk S 0 w) (walk T 0 w) a
    step_levels = (λ h. both.0 (agree_split (a ∷ []) h), λ h. agree_join (a ∷ []) (both.1 h))
      where
        both : (outputs S 0 w ++ puts S (walk S 0 w) (a ∷ []) ≡ outputs T 0 w ++ puts T (walk T 0 w) (a ∷ [])) ↔ StepAgrees S T (walk S 0 w) (walk T 0 w) a
        both =
            levels (outputs S 0 w) (outputs T 0 w) (S.final (walk S 0 w)) (T.final (walk T 0 w)) (puts S (walk S 0 w) (a ∷ []))
            (puts T (walk T 0 w) (a ∷ [])) (agree_end e)

    pub step-agrees : StepAgrees S T (walk S 0 w) (walk T 0 w) a → Agree S T (w ++ (a ∷ []))
    step-agrees = step_levels.1

    pub agrees-step : Agree S T (w ++ (a ∷ [])) → StepAgrees S T (walk S 0 w) (walk T 0 w) a
    agrees-step = step_levels.0

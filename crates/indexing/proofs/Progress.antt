-- Parts that are read one after the other: how far a loop has come.
use Prim.Native.Nat.{ℕ, suc, ◌+◌, ◌<◌, ◌≤◌, ◌-◌}
use native.Mathlib.Decide.{dec_lt}
use native.Mathlib.Omega.{arith}
use mathlib.Core.Path.{◌≡◌, refl, sym, ap, ◌∙◌}
use mathlib.Core.List.{List, [], ◌∷◌, ◌++◌, append_assoc, append-nil}
use lib.ListN.{length, drop, get_or, length-append, get_or-append}
use lib.Seq.{drop-drop, get_or_at}
use Rattle.answers.specs.Outcome.{Outcome, result, refused, and_then}
use Rattle.tables.specs.Bytes.{joined}
use Rattle.tables.specs.Decode.{malformed, many}
use Rattle.steps.specs.Part.{Part}

abbrev pub prepend : {A : Type 0} → List A → Outcome (List A) → Outcome (List A)
prepend l o = and_then o (λ vs. result (l ++ vs))

prepend_more : {A : Type 0} (l : List A) (v : A) (o : Outcome (List A)) → prepend l (and_then o (λ vs. result (v ∷ vs))) ≡ prepend (l ++ (v ∷ [])) o
prepend_more l v (result vs) = rw append_assoc refl
prepend_more l v (refused n p) = refl

joined-append : {A : Type 0} (bytes : A → List ℕ) (a b : List A) → joined bytes (a ++ b) ≡ joined bytes a ++ joined bytes b
joined-append bytes [] b = refl
joined-append bytes (x ∷ a) b = rw append_assoc (ap (λ (l : List ℕ). bytes x ++ l) (joined-append bytes a b))

-- n parts are read, from one place to another
pub record Progress {A : Type 0} (read : List ℕ → Outcome A) (bytes : A → List ℕ) (d : A) (Holds : ℕ → A → Type 0) (bs : List ℕ) (from n to : ℕ) : Type 0 where
  pub parts : List A
  pub count : length parts ≡ n
  pub more : (m : ℕ) → many read bytes (n + m) (drop from bs) ≡ prepend parts (many read bytes m (drop to bs))
  pub end : to ≡ from + length (joined bytes parts)
  pub inside : to ≤ length bs
  pub holds : (i : ℕ) → i < n → Holds i (get_or parts i d)

module _ {A : Type 0} (read : List ℕ → Outcome A) (bytes : A → List ℕ) (d : A) (bs : List ℕ) (from : ℕ) where
  module _ (Holds Holds' : ℕ → A → Type 0) (Held : A → Type 0) (n to to' : ℕ) (p : Progress read bytes d Holds bs from n to) (v : Part read bytes Held bs to to') where
    more-next : (m : ℕ) → many read bytes (n + 1 + m) (drop from bs) ≡ prepend (p.parts ++ (v.value ∷ [])) (many read bytes m (drop to' bs))
    more-next m =
        let e : n + 1 + m ≡ n + suc m = omega arith in
        let rest : drop to' bs ≡ drop (length (bytes v.value)) (drop to bs) =
        rw v.end (sym (drop-drop (length (bytes v.value)) to bs)) in
        let turn : many read bytes (suc m) (drop to bs) ≡ and_then (many read bytes m (drop to' bs)) (λ vs. result (v.value ∷ vs)) =
        rw (v.reads, rest) refl in
        rw e (p.more (suc m) ∙ ap (λ (o : Outcome (List A)). prepend p.parts o) turn ∙ prepend_more p.parts v.value (many read bytes m (drop to' bs)))

    holds-next : ((i : ℕ) (u : A) → i < n → Holds i u → Holds' i u) → Holds' n v.value → (i : ℕ) → i < n + 1 → Holds' i (get_or (p.parts ++ (v.value ∷ [])) i d)
    holds-next keep last i h = go (dec_lt i n)
      where
        go : Dec (i < n) → Holds' i (get_or (p.parts ++ (v.value ∷ [])) i d)
        go (yes g) =
            let inside : i < length p.parts = omega (arith, p.count) in
            rw (get_or-append p.parts (v.value ∷ []) d i inside) (keep i (get_or p.parts i d) g (p.holds i g))
        go (no g) =
            let e : i ≡ n = omega arith in
            let c : length p.parts ≡ i = omega (arith, p.count) in
            rw (get_or_at p.parts v.value [] d i c, e) last

    pub progress_next : ((i : ℕ) (u : A) → i < n → Holds i u → Holds' i u) → Holds' n v.value → Progress read bytes d Holds' bs from (n + 1) to'
    progress_next keep last =
        let more_bytes = joined-append bytes p.parts (v.value ∷ []) in
        record {
          parts = p.parts ++ (v.value ∷ []);
          count = omega (arith, length-append p.parts (v.value ∷ []), p.count);
          more = more-next;
          end =
              omega (
                arith,
                v.end,
                p.end,
                ap length more_bytes,
                length-append (joined bytes p.parts) (joined bytes (v.value ∷ [])),
                length-append (bytes v.value) [],
              );
          inside = v.inside;
          holds = holds-next keep last;
        }

  module _ (Holds : ℕ → A → Type 0) (n to : ℕ) (p : Progress read bytes d Holds bs from n to) where
    pub progress_all : Part (many read bytes n) (joined bytes) (λ vs. (i : ℕ) → i < n → Holds i (get_or vs i d)) bs from to
    progress_all =
        let e : n + 0 ≡ n = omega arith in
        record {
          value = p.parts;
          reads = ap (λ (m : ℕ). many read bytes m (drop from bs)) (sym e) ∙ p.more 0 ∙ ap result (append-nil p.parts);
          end = p.end;
          inside = p.inside;
          holds = p.holds;
        }

    pub progress_not : (m : ℕ) → n < m → read (drop to bs) ≡ malformed → many read bytes m (drop from bs) ≡ malformed
    progress_not m h e =
        let left : n + suc (m - (n + 1)) ≡ m = omega arith in
        let turn : many read bytes (suc (m - (n + 1))) (drop to bs) ≡ malformed = rw e refl in
        ap (λ (i : ℕ). many read bytes i (drop from bs)) (sym left)
        ∙ p.more (suc (m - (n + 1)))
        ∙ ap (λ (o : Outcome (List A)). prepend p.parts o) turn

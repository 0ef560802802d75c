-- The head of a table: its faults, and what is left after it.
use Prim.Native.Nat.{ℕ, ◌<◌, ◌≤◌}
use native.Mathlib.Omega.{arith}
use mathlib.Core.Path.{◌≡◌, refl, ap, ◌∙◌}
use mathlib.Core.Bool.{Bool, false}
use mathlib.Core.List.{List, [], ◌∷◌}
use borrow.Author.Tests.{ne_eqb}
use lib.Dec.{eqb}
use lib.ListN.{length, drop, get_or}
use Rattle.words.specs.Word.{Below}
use Rattle.limits.specs.Limits.{fewest_tags, most_states, InRange}
use Rattle.limits.specs.declared.Limits.{Limits}
use Rattle.limits.proofs.Range.{within-is}
use Rattle.answers.specs.Outcome.{Outcome, provided}
use Rattle.tables.specs.Bytes.{number}
use Rattle.tables.specs.Decode.{Decoded, malformed, decode, decode_within}
use Rattle.tables.proofs.Theorem.{decoded, head_at}
use Rattle.tables.proofs.Outcomes.{Read, gave, refuses, read-decode, valid-length}
use Rattle.decoder.specs.Index.{Head}

-- a test that fails refuses, whatever stands before it
failed : {A : Type 0} (b : Bool) (o : Outcome A) → b ≡ false → provided 12 b o ≡ malformed
failed b o e = rw e refl

-- the faults of a head, each as 12
pub head_long : (lim : Limits) → InRange lim → (bs : List ℕ) → Below 0x100 bs → 0xffffff ≤ length bs → decode_within lim bs ≡ malformed
head_long lim r bs b h = within-is lim (decode lim bs) r ∙ go (read-decode lim bs)
  where
    go : Read (decode lim bs) → decode lim bs ≡ malformed
    go (refuses e) = e
    go (gave d e) =
        let v = decoded lim bs d b e in
        absurd (omega (arith, ap length v.1, valid-length lim d.tags d.table r v.0))

pub head-short : (lim : Limits) → InRange lim → (bs : List ℕ) → length bs < 4 → decode_within lim bs ≡ malformed
head-short lim r bs h = within-is lim (decode lim bs) r ∙ short bs h
  where
    short : (l : List ℕ) → length l < 4 → decode lim l ≡ malformed
    short [] h = refl
    short (x ∷ []) h = refl
    short (x ∷ y ∷ []) h = refl
    short (x ∷ y ∷ z ∷ []) h = refl
    short (x ∷ y ∷ z ∷ w ∷ l) h = absurd (omega arith)

module _ (lim : Limits) (c k h l : ℕ) (bs : List ℕ) where
  command_fault : (c ≡ 0x30 → ⊥) → decode lim (c ∷ k ∷ h ∷ l ∷ bs) ≡ malformed
  command_fault n = failed (eqb c 0x30) _ (ne_eqb c 0x30 n)

four : (bs : List ℕ) → 4 ≤ length bs → bs ≡ get_or bs 0 0 ∷ get_or bs 1 0 ∷ get_or bs 2 0 ∷ get_or bs 3 0 ∷ drop 4 bs
four [] h = absurd (omega arith)
four (x ∷ []) h = absurd (omega arith)
four (x ∷ y ∷ []) h = absurd (omega arith)
four (x ∷ y ∷ z ∷ []) h = absurd (omega arith)
four (x ∷ y ∷ z ∷ w ∷ l) h = refl

module _ (lim : Limits) (ranged : InRange lim) (bs : List ℕ) (long : 4 ≤ length bs) where
  here : (o : Outcome Decoded) → decode lim (get_or bs 0 0 ∷ get_or bs 1 0 ∷ get_or bs 2 0 ∷ get_or bs 3 0 ∷ drop 4 bs) ≡ o → decode_within lim bs ≡ o
  here o e = within-is lim (decode lim bs) ranged ∙ ap (decode lim) (four bs long) ∙ e

  pub head-command : (get_or bs 0 0 ≡ 0x30 → ⊥) → decode_within lim bs ≡ malformed
  head-command n = here _ (command_fault lim (get_or bs 0 0) (get_or bs 1 0) (get_or bs 2 0) (get_or bs 3 0) (drop 4 bs) n)

  pub head_read :
      (k s : ℕ)
      → length bs < 0xffffff
      → get_or bs 0 0 ≡ 0x30
      → k ≡ get_or bs 1 0
      → s ≡ number (get_or bs 2 0) (get_or bs 3 0)
      → fewest_tags ≤ k
      → k ≤ lim.tags
      → 1 ≤ s
      → s ≤ most_states
      → Head lim bs k s
  head_read k s short e ek es k2 k48 s1 s256 =
      record {
        ranged = ranged;
        left = here _ (rw (e, ek, es) (head_at lim (get_or bs 1 0) (get_or bs 2 0) (get_or bs 3 0) (drop 4 bs) (omega arith) (omega arith) (omega arith) (omega arith)));
        inside = long;
        few_bytes = short;
        some_tags = k2;
        few_tags = omega (arith, k48, ranged.few_tags);
        some_states = s1;
        few_states = s256;
      }

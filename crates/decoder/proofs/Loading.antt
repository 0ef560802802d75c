-- What reading the bytes after the head tells of a table.
use Prim.Native.Nat.{ℕ}
use mathlib.Core.Path.{◌≡◌, sym, ◌∙◌, subst}
use mathlib.Core.Bool.{Bool, true, false}
use mathlib.Core.List.{List}
use lib.ListN.{length, drop}
use Rattle.words.specs.Word.{Below}
use Rattle.words.proofs.Word.{below-drop}
use Rattle.limits.specs.Limits.{most_held}
use Rattle.limits.specs.declared.Limits.{Limits}
use Rattle.tables.specs.Decode.{malformed, decode_within}
use Rattle.tables.proofs.Theorem.{table-read}
use Rattle.decoder.specs.Index.{Head, Loaded, LoadedIf}

-- whether it is valid
module _ (lim : Limits) (bs : List ℕ) (k : ℕ) (ix : List ℕ) (r : Bool) (l : LoadedIf r lim bs k ix) where
  pub is-loaded : r ≡ true → Loaded lim bs k ix
  is-loaded e = subst (λ (b : Bool). LoadedIf b lim bs k ix) e l

  pub not-loaded : r ≡ false → decode_within lim bs ≡ malformed
  not-loaded e = subst (λ (b : Bool). LoadedIf b lim bs k ix) e l

-- it has the states that the head says
pub states-read : {lim : Limits} (bs ix : List ℕ) (k s : ℕ) → Head lim bs k s → Below 0x100 bs → (l : Loaded lim bs k ix) → length l.table ≡ s
states-read {lim} bs ix k s head bytes l =
    (table-read (most_held lim) k s (drop 4 bs) (record { tags = k; table = l.table }) (below-drop 0x100 4 bs bytes) (sym head.left ∙ l.decodes)).states

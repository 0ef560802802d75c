-- A way comes to its end, or is refused as 12.
use Prim.Native.Nat.{ℕ, ◌+◌, ◌*◌, ◌/◌}
use mathlib.Core.Path.{refl}
use mathlib.Core.Bool.{Bool, true, false}
use mathlib.Core.List.{List, [], ◌∷◌, ◌++◌, map}
use lib.Dec.{eqb, leb}
use lib.ListN.{length, take, drop, get_or}
use Rattle.answers.specs.Outcome.{result, provided}
use Rattle.tables.proofs.Outcomes.{Read, gave, read-provided, read_then}
use Rattle.loaded.specs.Numbers.{row_size, resting}
use Rattle.loaded.specs.Run.{byte_of, above, word_of, way}

word_read : (ns : List ℕ) (e : ℕ) → Read (word_of ns e)
word_read ns e = by (leb (byte_of e) 3)
  where
    by : (t : Bool) → Read {A = List ℕ} (elim t [
      | true ↦ result (take (byte_of e) (above e))
      | false ↦ provided 12 (leb (e / 0x100 + byte_of e) (length ns)) (result (map byte_of (take (byte_of e) (drop (e / 0x100) ns))))
    ])
    by true = gave _ refl
    by false = read-provided (leb (e / 0x100 + byte_of e) (length ns)) _ (gave _ refl)

pub way-read : (ns : List ℕ) (k p : ℕ) (w : List ℕ) → Read (way ns k p w)
way-read ns k p [] = read-provided (leb (p + row_size k) (length ns)) _ (word_read ns (get_or ns p 0))
way-read ns k p (a ∷ w) =
    read-provided (leb (p + row_size k) (length ns)) _
    (read_then (word_of ns (get_or ns (p + 2 * a + 3) 0)) _ (word_read ns (get_or ns (p + 2 * a + 3) 0))
    (λ u. read_then _ _ (onward (get_or ns (p + 2 * a + 2) 0) (way-read ns k (get_or ns (p + 2 * a + 2) 0) w)) (λ v. gave (u ++ v) refl)))
  where
    onward : (x : ℕ) → Read (way ns k x w) → Read {A = List ℕ} (elim (eqb x resting) [ true ↦ result w | false ↦ way ns k x w ])
    onward x r = by (eqb x resting)
      where
        by : (t : Bool) → Read {A = List ℕ} (elim t [ true ↦ result w | false ↦ way ns k x w ])
        by true = gave w refl
        by false = r

-- The order of first reach, tag by tag and member by member.
use Prim.Native.Nat.{ℕ, zero, suc, ◌+◌, ◌-◌, ◌≤◌, ◌<◌}
use native.Mathlib.Omega.{arith}
use native.Mathlib.Numerals.{add-one}
use mathlib.Core.Path.{◌≡◌, refl, sym, ap, ◌∙◌}
use mathlib.Core.Bool.{Bool, true, false, true≢false}
use mathlib.Core.List.{List}
use lib.ListN.{length, get_or, drop, drop_of_length-le}
use lib.Seq.{drop-cons}
use lib.Dec.{ltb}
use borrow.Author.Tests.{lt-ltb, le-ltb}
use Rattle.transducers.specs.Table.{Step, Table, no_step, row}
use Rattle.transducers.specs.Number.{note, note_all, visit}

-- a row's next states, tag by tag
pub note_all-next : (ss : List Step) (l : List ℕ) (a : ℕ) → a < length ss
    → note_all (drop a ss) l ≡ note_all (drop (a + 1) ss) (note l (get_or ss a no_step).next)
note_all-next ss l a h =
    ap (λ (r : List Step). note_all r l) (drop-cons ss a no_step h)
    ∙ ap (λ (j : ℕ). note_all (drop j ss) (note l (get_or ss a no_step).next)) (sym (add-one a))

pub note_all-end : (ss : List Step) (l : List ℕ) (a : ℕ) → length ss ≤ a → note_all (drop a ss) l ≡ l
note_all-end ss l a h = ap (λ (r : List Step). note_all r l) (drop_of_length-le ss {i = a} h)

-- the search, member by member
pub visit-next : (m : ℕ) (t : Table) (i : ℕ) (l : List ℕ) → 0 < m → i < length l
    → visit m t i l ≡ visit (m - 1) t (i + 1) (note_all (row t (get_or l i 0)).steps l)
visit-next zero t i l hm h = absurd (omega arith)
visit-next (suc m) t i l hm h =
    let e : m ≡ suc m - 1 = omega arith in
    taken (ltb i (length l)) (lt-ltb i (length l) h)
    ∙ ap (λ (j : ℕ). visit j t (suc i) (note_all (row t (get_or l i 0)).steps l)) e
    ∙ ap (λ (j : ℕ). visit (suc m - 1) t j (note_all (row t (get_or l i 0)).steps l)) (sym (add-one i))
  where
    taken : (b : Bool) → b ≡ true
        → ◌≡◌ {A = List ℕ} (elim b [ true ↦ visit m t (suc i) (note_all (row t (get_or l i 0)).steps l) | false ↦ l ]) (visit m t (suc i) (note_all (row t (get_or l i 0)).steps l))
    taken true e = refl
    taken false e = absurd (true≢false (sym e))

pub visit-end : (m : ℕ) (t : Table) (i : ℕ) (l : List ℕ) → length l ≤ i → visit m t i l ≡ l
visit-end zero t i l h = refl
visit-end (suc m) t i l h = left (ltb i (length l)) (le-ltb i (length l) h)
  where
    left : (b : Bool) → b ≡ false → ◌≡◌ {A = List ℕ} (elim b [ true ↦ visit m t (suc i) (note_all (row t (get_or l i 0)).steps l) | false ↦ l ]) l
    left true e = absurd (true≢false e)
    left false e = refl

-- The whole table: what its last byte, its first state and its counts tell once the states are read.
use Prim.Native.Nat.{ℕ, suc, ◌+◌, ◌*◌, ◌<◌, ◌≤◌, ◌-◌}
use native.Mathlib.Nat.{zero-mul}
use native.Mathlib.Omega.{arith}
use mathlib.Core.Path.{◌≡◌, refl, sym, ap, ◌∙◌}
use mathlib.Core.Bool.{Bool, true, false}
use mathlib.Core.List.{List, [], ◌∷◌}
use borrow.Author.Tests.{eq-eqb, ne_eqb}
use lib.Dec.{eqb}
use lib.ListN.{length, drop, get_or, length-drop, drop_of_length-le}
use lib.Seq.{drop-drop, drop-cons}
use Rattle.words.specs.Word.{Below}
use Rattle.limits.specs.Limits.{most_held}
use Rattle.limits.specs.declared.Limits.{Limits}
use Rattle.limits.proofs.Range.{held-few}
use Rattle.answers.specs.Outcome.{result}
use Rattle.transducers.specs.Table.{row}
use Rattle.tables.specs.Bytes.{joined, row_bytes}
use Rattle.tables.specs.Decode.{malformed, many, read_row, read_table, decode_within, ended, rows_balanced}
use Rattle.words.specs.Decides.{Decides}
use Rattle.steps.specs.Entry.{count_of}
use Rattle.steps.specs.Part.{Part}
use Rattle.indexing.specs.Entries.{TableEntries}
use Rattle.leveling.specs.Level.{Level, Linked}
use Rattle.decoder.specs.Index.{Head, LoadedIf}
use Rattle.words.proofs.Word.{below-drop}
use Rattle.tables.proofs.Parts.{Every, GoodRow, many_read, row_read}
use Rattle.leveling.proofs.Level.{held, linked, levels_balanced, balanced_levels}
use Rattle.tables.proofs.Theorem.{table-at, decoded-within}

-- the states were read after the head; what is left are the last byte and the held tags
module _
    {lim : Limits} (k s : ℕ) (bs ix : List ℕ) (end : ℕ)
    (head : Head lim bs k s)
    (bytes : Below 0x100 bs)
    (p : Part (many (read_row (most_held lim) k s) row_bytes s) (joined row_bytes) (TableEntries k s bs ix) bs 4 end)
  where
    few : most_held lim < 0xfe
    few = omega (arith, held-few lim head.ranged)

    rows : (length p.value ≡ s) × Every (GoodRow (most_held lim) k s) p.value
    rows =
        let r = many_read (read_row (most_held lim) k s) row_bytes (GoodRow (most_held lim) k s) (row_read (most_held lim) k s) s (drop 4 bs) p.value (below-drop 0x100 4 bs bytes) p.reads in
        (r.0, r.1.good)

    behind : drop (length (joined row_bytes p.value)) (drop 4 bs) ≡ drop end bs
    behind = rw p.end (drop-drop (length (joined row_bytes p.value)) 4 bs)

    last_case : ended (drop (length (joined row_bytes p.value)) (drop 4 bs)) ≡ false → read_table (most_held lim) k s (drop 4 bs) ≡ malformed
    last_case e = rw p.reads (rw e refl)

    ended-not : (l : List ℕ) → (length l ≡ 1 → ⊥) → ended l ≡ false
    ended-not [] n = refl
    ended-not (x ∷ []) n = absurd (n refl)
    ended-not (x ∷ y ∷ l) n = refl

    pub load_longer : (length bs - end ≡ 1 → ⊥) → decode_within lim bs ≡ malformed
    load_longer n = head.left ∙ last_case (rw behind (ended-not (drop end bs) (λ e. n (rw length-drop at e))))

    module _ (one : length bs - end ≡ 1) where
      last : drop end bs ≡ get_or bs end 0 ∷ []
      last =
          let h : end < length bs = omega arith in
          let past : length bs ≤ suc end = omega arith in
          let none : drop (suc end) bs ≡ [] = drop_of_length-le bs past in
          drop-cons bs end 0 h ∙ ap (λ (l : List ℕ). get_or bs end 0 ∷ l) none

      pub load_other : (get_or bs end 0 ≡ 0 → ⊥) → decode_within lim bs ≡ malformed
      load_other n = head.left ∙ last_case (rw (behind, last) (ne_eqb (get_or bs end 0) 0 n))

      module _ (zero-last : get_or bs end 0 ≡ 0) where
        ends : ended (drop (length (joined row_bytes p.value)) (drop 4 bs)) ≡ true
        ends = rw (behind, last) (eq-eqb (get_or bs end 0) 0 zero-last)

        first_held : count_of (get_or ix 0 0) ≡ length (row p.value 0).final
        first_held = rw zero-mul at (held (most_held lim) few k s bs ix p.value rows.0 rows.1 p.holds 0 (omega (arith, head.some_states)))

        start_case : eqb (length (row p.value 0).final) 0 ≡ false → read_table (most_held lim) k s (drop 4 bs) ≡ malformed
        start_case e = rw p.reads (rw (ends, e) refl)

        pub load_start : (count_of (get_or ix 0 0) ≡ 0 → ⊥) → decode_within lim bs ≡ malformed
        load_start n = head.left ∙ start_case (ne_eqb _ 0 (λ e. n (first_held ∙ e)))

        level_case : eqb (length (row p.value 0).final) 0 ≡ true → rows_balanced p.value p.value ≡ false → read_table (most_held lim) k s (drop 4 bs) ≡ malformed
        level_case e f = rw p.reads (rw (ends, e, f) refl)

        not-balanced : (b : Bool) → (b ≡ true → ⊥) → b ≡ false
        not-balanced true n = absurd (n refl)
        not-balanced false n = refl

        pub load_all :
            s * (k + 1) ≤ length ix
            → count_of (get_or ix 0 0) ≡ 0
            → (r : Bool)
            → Decides r ((q a : ℕ) → q < s → a < k → Level ix (q * (k + 1)) a)
            → LoadedIf r lim bs k ix
        load_all room e true d =
            let t = p.value in
            let decodes : decode_within lim bs ≡ result (record { tags = k; table = t }) =
            head.left ∙ table-at (most_held lim) k s (drop 4 bs) t p.reads ends (sym first_held ∙ e) (levels_balanced (most_held lim) few k s bs ix t rows.0 rows.1 p.holds (d.so refl)) in
            record {
              table = t;
              decodes = decodes;
              valid = (decoded-within lim bs (record { tags = k; table = t }) bytes decodes).0;
              cells = rw rows.0 p.holds;
              room = rw rows.0 room;
            }
        load_all room e false d =
            head.left
            ∙ level_case (eq-eqb _ 0 (sym first_held ∙ e))
            (not-balanced (rows_balanced p.value p.value) (λ b. d.not refl (balanced_levels (most_held lim) few k s bs ix p.value rows.0 rows.1 p.holds b)))

    pub load_linked : s * (k + 1) ≤ length ix → (q a : ℕ) → q < s → a < k → Linked ix (q * (k + 1)) a
    load_linked room q a h g = linked (most_held lim) few k s bs ix p.value rows.0 rows.1 p.holds q a h g room

-- Every outcome of the calls is legible: a number for C can tell it.
use Prim.Native.Nat.{ℕ, suc, ◌^◌, ◌≤◌, ◌<◌}
use native.Mathlib.Omega.{arith}
use mathlib.Core.Path.{◌≡◌, refl, sym, subst}
use mathlib.Core.Bool.{Bool, true, false, not, ◌&&◌}
use mathlib.Core.List.{List, [], ◌∷◌}
use borrow.Author.Tests.{leb-true}
use lib.Dec.{eqb, leb, ltb}
use lib.ListN.{length, get_or}
use Rattle.limits.specs.Limits.{fewest_tags, longest_sentence, in_range, standard}
use Rattle.limits.specs.declared.Limits.{Limits}
use Rattle.limits.proofs.Range.{standard_range}
use Rattle.words.specs.Word.{Below, differences}
use Rattle.answers.specs.Outcome.{Outcome, result, refused, nothing, byte, rule, and_then, provided}
use Rattle.answers.specs.Slice.{fitting, long_of}
use Rattle.sentences.specs.Run.{highest, run, changed}
use Rattle.sentences.proofs.Run.{RunEnds, too_long, high-tag, no_room, made_of, run_ends}
use Rattle.cascades.specs.Rule.{Cascade, ending}
use Rattle.cascades.specs.Ending.{bad_end}
use Rattle.cascades.specs.Rewrite.{behavior}
use Rattle.books.specs.Read.{read}
use Rattle.books.specs.Ending.{fitted, read_ending}
use Rattle.books.specs.Answer.{Sizes, sizes, book_outcome}
use Rattle.std.specs.Prelude.{Result}
use Rattle.answers.specs.declared.Refusal.{Refusal}
use Rattle.books.specs.declared.Book.{Book}
use Rattle.books.proofs.Refusal.{BookRefusal, book_refusal}
use Rattle.books.proofs.Encode.{reads_exactly}
use Rattle.tagging.specs.Run.{book_run}
use Rattle.transducers.specs.Transducer.{puts}
use Rattle.transducers.specs.Table.{Table, shape}
use Rattle.minimal.specs.TableOf.{table_of}
use Rattle.tables.specs.Bytes.{encode}
use Rattle.tables.specs.Decode.{Decoded, decode}
use Rattle.tables.specs.Run.{Size, size_of, table_run}
use Rattle.tables.proofs.Theorem.{decoded}
use Rattle.tables.proofs.Outcomes.{Read, gave, refuses, read-decode, valid-length}
use Rattle.decoder.specs.Answer.{table_outcome}
use Rattle.steps.specs.declared.Size as steps
use Rattle.loaded.specs.Numbers.{numbers}
use Rattle.loaded.specs.Run.{way, sound, loaded_run, load_answer}
use Rattle.loaded.proofs.Refusal.{way-read}
use Rattle.loaded.proofs.Count.{numbers-few}
use Rattle.compilation.specs.Compile.{built, compile_answer}
use Rattle.compilation.proofs.Answer.{Told, fits, exceeds, told, table-valid, Proper, Tested, names_nothing, names_byte, goes_on, test}
use Rattle.compilation.proofs.Parts.{whole-few}
use Rattle.starter.specs.Starter.{starter_answer}
use Rattle.starter.proofs.Starter.{bytes, computed, long}
use Rattle.packing.specs.Packed.{Legible, LegibleByte}
use Rattle.sizing.specs.Sizes.{book_size, book_sizes, table_size, table_sizes}

-- 12, and what 11 is given for
malformed-told : Legible (refused 12 nothing)
malformed-told = (omega arith, omega arith, λ e. omega arith)

legible_fitting : (made : List ℕ) → length made < 2 ^ 56 → (t : Bool) → Legible (long_of (provided 11 t (result made)))
legible_fitting made h true = h
legible_fitting made h false = (omega arith, omega arith, λ e. omega arith)

-- ---- the outcomes of runs

differences-most : (v w : List ℕ) → differences v w ≤ length v
differences-most [] w = omega arith
differences-most (a ∷ v) [] = omega arith
differences-most (a ∷ v) (b ∷ w) = by (eqb a b) (differences-most v w)
  where
    by : (t : Bool) → differences v w ≤ length v → elim t as (λ x. ℕ) [ true ↦ differences v w | false ↦ suc (differences v w) ] ≤ suc (length v)
    by true h = omega arith
    by false h = omega arith

legible_run : (k : ℕ) (s : List ℕ) (room : ℕ) (made : List ℕ) → Legible (changed s (run k s room made))
legible_run k s room made = by (run_ends k s room made)
  where
    by : {o : Outcome (List ℕ)} → RunEnds k s room made o → Legible (changed s o)
    by too_long = (omega arith, omega arith, λ e. omega arith)
    by high-tag = (omega arith, omega arith, λ e. omega arith)
    by no_room = (omega arith, omega arith, λ e. omega arith)
    by (made_of a) = omega (arith, differences-most s made, a.short)

pub legible_book : (lim : Limits) (book : List ℕ) (end : ℕ) (s : List ℕ) (room : ℕ) → Legible (changed s (book_run lim book end s room))
legible_book lim book end s room = in_range_or (in_range lim) (and_then (read_ending lim book end) after) (by (read lim book) (book_refusal lim book))
  where
    in_range_or : (b : Bool) (o : Outcome (List ℕ)) → Legible (changed s o) → Legible (changed s (provided 17 b o))
    in_range_or true o h = h
    in_range_or false o h = (omega arith, omega arith, λ e. omega arith)

    after : Cascade → Outcome (List ℕ)
    after c = run c.tags s room (behavior c s)

    fits : (c : Cascade) (b : Bool) → Legible (changed s (and_then (provided 14 b (result (ending end c))) after))
    fits c true = legible_run c.tags s room (behavior (ending end c) s)
    fits c false = (omega arith, omega arith, λ e. omega arith)

    by : (o : Outcome Cascade) → BookRefusal lim o → Legible (changed s (and_then (and_then o (fitted end)) after))
    by (result c) n = fits c (not (bad_end (ending end c)))
    by (refused j nothing) n = absurd n
    by (refused j (byte i)) n = (n.0.0, omega (arith, n.0.1), λ e. omega (arith, e, n.0.2 (omega arith)))
    by (refused j (rule i)) n = absurd n

pub legible_table : (lim : Limits) (table s : List ℕ) (room : ℕ) → Legible (changed s (table_run lim table s room))
legible_table lim table s room = by (in_range lim) (read-decode lim table)
  where
    after : Outcome Decoded → Outcome (List ℕ)
    after o = and_then o (λ d. run d.tags s room (puts (shape d.table) 0 s))

    by : (b : Bool) → Read (decode lim table) → Legible (changed s (after (provided 17 b (decode lim table))))
    by false r = (omega arith, omega arith, λ e. omega arith)
    by true (gave d e) = subst (λ (x : Outcome Decoded). Legible (changed s (after x))) (sym e) (legible_run d.tags s room (puts (shape d.table) 0 s))
    by true (refuses e) = subst (λ (x : Outcome Decoded). Legible (changed s (after x))) (sym e) malformed-told

-- a loaded table's run: any numbers
module _ (ns s : List ℕ) where
  abbrev k : ℕ
  k = get_or ns 0 0

  abbrev after : Outcome (List ℕ) → Outcome (List ℕ)
  after o = and_then o (sound k s)

  legible_sound : (made : List ℕ) (a b : Bool) → length s ≤ longest_sentence → Legible (changed s (provided 12 a (provided 12 b (result made))))
  legible_sound made true true short = omega (arith, differences-most s made, short)
  legible_sound made true false short = malformed-told
  legible_sound made false b short = malformed-told

  pub legible_loaded : (room : ℕ) → Legible (changed s (loaded_run standard ns s room))
  legible_loaded room =
      by (leb fewest_tags k && leb k standard.tags) (leb (length s) longest_sentence) (ltb (highest s) k) (leb (length s) room) refl (way-read ns k 1 s)
    where
      by : (a b c d : Bool) → leb (length s) longest_sentence ≡ b → Read (way ns k 1 s)
          → Legible (changed s (provided 12 a (and_then (provided 13 b (provided 4 c (result (tt {0})))) (λ x. provided 11 d (after (way ns k 1 s))))))
      by false b c d e r = malformed-told
      by true false c d e r = (omega arith, omega arith, λ e. omega arith)
      by true true false d e r = (omega arith, omega arith, λ e. omega arith)
      by true true true false e r = (omega arith, omega arith, λ e. omega arith)
      by true true true true e (gave v f) =
          subst (λ (o : Outcome (List ℕ)). Legible (changed s (after o))) (sym f)
          (legible_sound v (eqb (length v) (length s)) (ltb (highest v) k) (leb-true (length s) longest_sentence e))
      by true true true true e (refuses f) = subst (λ (o : Outcome (List ℕ)). Legible (changed s (after o))) (sym f) malformed-told

-- ---- of the readers, and of loading

pub legible_read_book : (book : List ℕ) → LegibleByte (book_sizes book)
legible_read_book book = by (read standard book) refl (book_refusal standard book)
  where
    by : (o : Outcome Cascade) → read standard book ≡ o → BookRefusal standard o → LegibleByte (book_size (sizes o))
    by (result c) e n = let v = ((reads_exactly book c).0 e).0 in omega (arith, v.few_tags, v.few_rules)
    by (refused j nothing) e n = absurd n
    by (refused j (byte i)) e n = (n.0.0, omega (arith, n.0.1), omega (arith, n.1 standard_range))
    by (refused j (rule i)) e n = absurd n

pub legible_book_answer : (book : List ℕ) (r : Result Book Refusal) → book_outcome r ≡ sizes (read standard book) → LegibleByte (book_size (book_outcome r))
legible_book_answer book r e = subst (λ (o : Outcome Sizes). LegibleByte (book_size o)) (sym e) (legible_read_book book)

module _ (table : List ℕ) (bytes : Below 0x100 table) where
  pub legible_read_table : Legible (table_sizes table)
  legible_read_table = by (read-decode standard table)
    where
      after : Outcome Decoded → Outcome ℕ
      after o = table_size (and_then {A = Decoded} {B = Size} o (λ d. result (record { tags = d.tags; states = length d.table })))

      by : Read (decode standard table) → Legible (after (decode standard table))
      by (gave d e) =
          let v = (decoded standard table d bytes e).0 in
          subst (λ (x : Outcome Decoded). Legible (after x)) (sym e) (omega (arith, v.tags_most, v.states_most))
      by (refuses e) = subst (λ (x : Outcome Decoded). Legible (after x)) (sym e) malformed-told

  pub legible_table_answer : (r : Result steps.Size Refusal) → table_outcome r ≡ size_of standard table → Legible (table_size (table_outcome r))
  legible_table_answer r e = subst (λ (o : Outcome Size). Legible (table_size o)) (sym e) legible_read_table

  pub legible_load : (room : ℕ) → Legible (long_of (load_answer standard table room))
  legible_load room = by (read-decode standard table)
    where
      after : Outcome Decoded → Outcome ℕ
      after o = long_of (and_then o (λ d. fitting room (numbers d.tags d.table)))

      by : Read (decode standard table) → Legible (after (decode standard table))
      by (gave d e) =
          let v = (decoded standard table d bytes e).0 in
          let ns = numbers d.tags d.table in
          let few : length ns < 2 ^ 56 = omega (arith, numbers-few d.tags d.table v, valid-length standard d.tags d.table standard_range v) in
          subst (λ (x : Outcome Decoded). Legible (after x)) (sym e) (legible_fitting ns few (leb (length ns) room))
      by (refuses e) = subst (λ (x : Outcome Decoded). Legible (after x)) (sym e) malformed-told

-- ---- of compile

module _ (lim : Limits) (book : List ℕ) (end n work room : ℕ) where
  pub legible_compile : Legible (long_of (compile_answer lim book end n work room))
  legible_compile = by (test lim book end n work)
    where
      late : (c : Cascade) → Proper lim c → 1 ≤ n → n ≤ 256 → {o : Outcome Table} → Told n c o
          → Legible (long_of (and_then o (λ t. fitting room (encode c.tags t))))
      late c v some most (fits f) =
          let t = table_of c in
          let few = table-valid c v (omega (arith, whole-few c n some f)) in
          legible_fitting (encode c.tags t) (omega (arith, valid-length lim c.tags t v.ranged few)) (leb (length (encode c.tags t)) room)
      late c v some most (exceeds i x) = (refl, x.some, omega (arith, x.inside, v.valid.book_valid.few_rules, v.ranged.few_rules))

      by : {o : Outcome Cascade} → Tested lim book end n work o → Legible (long_of (and_then o (built n room)))
      by (names_nothing j a b d) = (a, b, d)
      by (names_byte j i a b d) = (a, b, d)
      by (goes_on c v p) = late c v p.some p.most (told n c)

-- ---- of the starter table

pub legible_starter : (room : ℕ) → Legible (long_of (starter_answer room))
legible_starter room =
    subst (λ (o : Outcome (List ℕ)). Legible (long_of o)) (sym (computed room)) (legible_fitting bytes (omega (arith, long)) (leb (length bytes) room))

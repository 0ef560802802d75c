-- Demand 3, for every two books, limits, end tags, ceilings and slice lengths. `compile_answer` is what the call compile answers.
use Prim.Native.Nat.{ℕ, ◌≤◌, ◌<◌}
use native.Mathlib.Omega.{arith}
use mathlib.Core.Path.{◌≡◌, sym, ap, ◌∙◌, subst}
use mathlib.Core.Logic.{◌↔◌}
use mathlib.Core.List.{List}
use borrow.Author.Tests.{le-leb, lt-leb}
use lib.ListN.{length}
use Rattle.limits.specs.Limits.{no_end, InRange}
use Rattle.limits.specs.declared.Limits.{Limits}
use Rattle.words.specs.Word.{Below}
use Rattle.answers.specs.Outcome.{Outcome, result, refused, nothing, rule, and_then}
use Rattle.answers.specs.Slice.{fitting}
use Rattle.cascades.specs.Rule.{Cascade}
use Rattle.cascades.specs.Rewrite.{apply_all, behavior}
use Rattle.cascades.proofs.Ending.{without_end}
use Rattle.books.specs.Ending.{read_ending}
use Rattle.books.proofs.Ending.{reads-ending}
use Rattle.books.proofs.Wider.{same-ending}
use Rattle.transducers.specs.Table.{Table}
use Rattle.minimal.specs.TableOf.{table_of}
use Rattle.tables.specs.Bytes.{encode}
use Rattle.compilation.specs.Compile.{built, compile_answer}
use Rattle.compilation.specs.Demand.{PartNeedsMore, Shortest, Alike, Premises, SmallestTable, Compiled, Named}
use Rattle.compilation.proofs.Answer.{Few, Told, fits, exceeds, told, Proper, proper, Tested, names_nothing, names_byte, goes_on, test, premises-answer}
use Rattle.compilation.proofs.Parts.{needs_count, exceeds_shortest, shortest_exceeds, bytes_smallest, whole-few, told_bytes, told_named, told_exceeds, encode-alike, some-made, made}

module _ (lim : Limits) (book : List ℕ) (end n work room : ℕ) where
  -- "A compiled table does what its book does on every sentence of every length; no sequential transducer that does so has fewer
  -- states"
  pub compiled : (bytes : List ℕ) → compile_answer lim book end n work room ≡ result bytes → Compiled lim book end n work bytes
  compiled bytes e =
      let c = (some-made lim book end n work room bytes e).0 in
      let m = (some-made lim book end n work room bytes e).1 in
      record { cascade = c; premises = m.premises; smallest = subst (SmallestTable lim c) (sym m.bytes_are) (bytes_smallest c m.valid m.within) }

  -- "refusal 10 is given exactly if some leading part needs more states than the ceiling in every machine, and names the shortest":
  -- it names i exactly if the first i rules are the shortest such part,
  pub refused_10 : (i : ℕ) → (compile_answer lim book end n work room ≡ refused 10 (rule i)) ↔ Named lim book end n work i
  refused_10 i = (to, from)
    where
      to : compile_answer lim book end n work room ≡ refused 10 (rule i) → Named lim book end n work i
      to = by (test lim book end n work)
        where
          by : {o : Outcome Cascade} → Tested lim book end n work o → and_then o (built n room) ≡ refused 10 (rule i) → Named lim book end n work i
          by (names_nothing j l m t) e = let z : ◌≡◌ {A = ℕ} 0 1 = cc in absurd (omega arith)
          by (names_byte j b l m t) e = let z : ◌≡◌ {A = ℕ} 0 1 = cc in absurd (omega arith)
          by (goes_on c v p) e = record { cascade = c; premises = p; shortest = exceeds_shortest c v n i (told_named c n room i (told n c) e) }

      from : Named lim book end n work i → compile_answer lim book end n work room ≡ refused 10 (rule i)
      from h =
          let c = h.cascade in
          let v = proper lim book end c h.premises.ranged h.premises.reads in
          premises-answer lim book end n work room c h.premises
          ∙ told_exceeds c n room i (told n c) (shortest_exceeds c v n i h.shortest)

  module _ (c : Cascade) (p : Premises lim book end n work c) where
    -- and it is given if any part needs more
    pub some-part : (j : ℕ) → PartNeedsMore c n j → (i : ℕ) × Shortest c n i × (compile_answer lim book end n work room ≡ refused 10 (rule i))
    some-part j h = by (told n c) (premises-answer lim book end n work room c p)
      where
        v : Proper lim c
        v = proper lim book end c p.ranged p.reads

        by : {o : Outcome Table} → Told n c o
            → compile_answer lim book end n work room ≡ and_then o (λ t. fitting room (encode c.tags t))
            → (i : ℕ) × Shortest c n i × (compile_answer lim book end n work room ≡ refused 10 (rule i))
        by (fits f) e = absurd (omega (arith, f j h.some h.inside, (needs_count c v n j).0 h.more))
        by (exceeds i x) e = (i, exceeds_shortest c v n i x, e)

    -- otherwise the answer is the smallest table, or 11 if the output slice is shorter
    pub otherwise : ((i : ℕ) → PartNeedsMore c n i → ⊥)
        → (bytes : List ℕ)
        × SmallestTable lim c bytes
        × (length bytes ≤ room → compile_answer lim book end n work room ≡ result bytes)
        × (room < length bytes → compile_answer lim book end n work room ≡ refused 11 nothing)
    otherwise none = by (told n c) (premises-answer lim book end n work room c p)
      where
        v : Proper lim c
        v = proper lim book end c p.ranged p.reads

        bytes : List ℕ
        bytes = encode c.tags (table_of c)

        by : {o : Outcome Table} → Told n c o
            → compile_answer lim book end n work room ≡ and_then o (λ t. fitting room (encode c.tags t))
            → (bytes : List ℕ)
            × SmallestTable lim c bytes
            × (length bytes ≤ room → compile_answer lim book end n work room ≡ result bytes)
            × (room < length bytes → compile_answer lim book end n work room ≡ refused 11 nothing)
        by (fits f) e = (
          bytes,
          bytes_smallest c v (omega (arith, whole-few c n p.some f, p.most)),
          λ l. cc (e, le-leb (length bytes) room l),
          λ l. cc (e, lt-leb (length bytes) room l),
        )
        by (exceeds i x) e = absurd (none i (exceeds_shortest c v n i x).part)

-- "two books over equally many tags that compile get the same bytes exactly if they behave alike"; "two books compared may have different
-- records"
pub same_bytes : (lim lim' : Limits) (book book' : List ℕ) (end end' n n' work work' room room' : ℕ) (bytes bytes' : List ℕ) (c d : Cascade)
    → read_ending lim book end ≡ result c → read_ending lim' book' end' ≡ result d → c.tags ≡ d.tags
    → compile_answer lim book end n work room ≡ result bytes → compile_answer lim' book' end' n' work' room' ≡ result bytes'
    → (bytes ≡ bytes') ↔ Alike c d
same_bytes lim lim' book book' end end' n n' work work' room room' bytes bytes' c d r s k e f =
    let a = made lim book end n work room bytes e c r in
    let b = made lim' book' end' n' work' room' bytes' f d s in
    let alike = encode-alike c d a.valid b.valid a.within b.within k in
    (λ g. alike.0 (sym a.bytes_are ∙ g ∙ b.bytes_are), λ h. a.bytes_are ∙ alike.1 h ∙ sym b.bytes_are)

-- other limits change nothing: a book that compiles with both has the same bytes
pub other_limits : (lim lim' : Limits) (book : List ℕ) (end n n' work work' room room' : ℕ) (bytes bytes' : List ℕ)
    → compile_answer lim book end n work room ≡ result bytes → compile_answer lim' book end n' work' room' ≡ result bytes' → bytes ≡ bytes'
other_limits lim lim' book end n n' work work' room room' bytes bytes' e f =
    let a = some-made lim book end n work room bytes e in
    let b = some-made lim' book end n' work' room' bytes' f in
    let same = same-ending lim lim' book end a.0 b.0 a.1.premises.reads b.1.premises.reads in
    a.1.bytes_are ∙ ap (λ (c : Cascade). encode c.tags (table_of c)) same ∙ sym b.1.bytes_are

-- a greater ceiling and longer slices change nothing: a book that compiles at one ceiling has the same table at every greater one, or 11
-- where its bytes do not fit
pub greater_ceiling : (lim : Limits) (book : List ℕ) (end n work room : ℕ) (bytes : List ℕ) → compile_answer lim book end n work room ≡ result bytes
    → (n' work' room' : ℕ) (c : Cascade) → n ≤ n' → Premises lim book end n' work' c → compile_answer lim book end n' work' room' ≡ fitting room' bytes
greater_ceiling lim book end n work room bytes e n' work' room' c l p =
    let m = made lim book end n work room bytes e c p.reads in
    premises-answer lim book end n' work' room' c p
    ∙ by (told n' c) (told_bytes c n room bytes (told n c) (sym (premises-answer lim book end n work room c m.premises) ∙ e)).0 m.bytes_are
  where
    by : {o : Outcome Table} → Told n' c o → Few n c (length c.rules) → bytes ≡ encode c.tags (table_of c)
        → and_then o (λ t. fitting room' (encode c.tags t)) ≡ fitting room' bytes
    by (fits f) few b = ap (fitting room') (sym b)
    by (exceeds i x) few b = absurd (omega (arith, few i x.some x.inside, x.more))

-- the calls that name no end tag are those of document 01: what a book makes of a sentence is what its rules make of the whole of it
pub no_end-whole : (lim : Limits) (book : List ℕ) (c : Cascade) → InRange lim → read_ending lim book no_end ≡ result c → (w : List ℕ) → Below c.tags w → behavior c w ≡ apply_all c.rules w
no_end-whole lim book c r e = let v = reads-ending book no_end c e in without_end c (omega (arith, v.0.book_valid.few_tags, r.few_tags, v.1))

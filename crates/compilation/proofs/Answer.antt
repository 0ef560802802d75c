-- What `compile_answer` gives, told by the tables of the leading parts.
use Prim.Native.Nat.{ℕ, suc, ◌-◌, ◌≤◌, ◌<◌}
use native.Mathlib.Omega.{arith}
use native.Mathlib.Decide.{dec_lt}
use native.Mathlib.Nat.{mul-le-mul_left}
use mathlib.Core.Path.{◌≡◌, refl, sym, ap, ◌∙◌, subst}
use mathlib.Core.Bool.{Bool, true, false, not, ◌&&◌}
use mathlib.Core.List.{List, [], ◌∷◌, ◌++◌, append_assoc, append-nil}
use borrow.Author.Tests.{leb-true, le-leb, lt-leb}
use lib.Dec.{leb}
use lib.ListN.{length, take, length-append}
use lib.Seq.{take_at}
use Rattle.limits.specs.Limits.{most_states, InRange, in_range}
use Rattle.limits.specs.declared.Limits.{Limits}
use Rattle.limits.proofs.Range.{in_range_lem, within-is}
use Rattle.answers.specs.Outcome.{Outcome, result, refused, nothing, byte, rule, and_then, provided}
use Rattle.cascades.specs.Rule.{Rule, Cascade, having, ending, leading}
use Rattle.cascades.specs.Ending.{bad_end}
use Rattle.cascades.specs.Spares.{Spare}
use Rattle.books.specs.Read.{read}
use Rattle.books.specs.Ending.{fitted, read_ending, ValidEnding}
use Rattle.books.proofs.Ending.{valid_spare, reads-ending}
use Rattle.books.proofs.Refusal.{BookRefusal, book_refusal}
use Rattle.transducers.specs.Table.{Table}
use Rattle.minimal.specs.TableOf.{add_rule, table_of}
use Rattle.minimal.proofs.TableOf.{good, table_of-append}
use Rattle.tables.specs.Valid.{ValidTable}
use Rattle.compilation.specs.Demand.{Premises}
use Rattle.compilation.specs.Compile.{entries, roomed, tested, with_rules, compile_cascade, built, compile_answer}

-- the table of each leading part of j rules, j from 1 to m, has at most n states
abbrev pub Few : ℕ → Cascade → ℕ → Type 0
Few n c m = (j : ℕ) → 1 ≤ j → j ≤ m → length (table_of (leading j c)) ≤ n

-- i is the least number of rules whose table has more
pub record Exceeds (n : ℕ) (c : Cascade) (i : ℕ) : Type 0 where
  pub some : 1 ≤ i
  pub inside : i ≤ length c.rules
  pub more : n < length (table_of (leading i c))
  pub fewer : Few n c (i - 1)

-- the outcomes of compile_cascade
pub data Told (n : ℕ) (c : Cascade) : Outcome Table → Type 0 where
  fits : Few n c (length c.rules) → Told n c (result (table_of c))
  exceeds : (i : ℕ) → Exceeds n c i → Told n c (refused 10 (rule i))

-- ---- the rules one by one

few-next : (n : ℕ) (c : Cascade) (m : ℕ) → Few n c m → length (table_of (leading (suc m) c)) ≤ n → Few n c (suc m)
few-next n c m f h j a b = by (dec_lt j (suc m))
  where
    by : Dec (j < suc m) → length (table_of (leading j c)) ≤ n
    by (yes l) = f j a (omega arith)
    by (no l) = let e : suc m ≡ j = omega arith in subst (λ (i : ℕ). length (table_of (leading i c)) ≤ n) e h

module _ (k end n : ℕ) (done : List Rule) (r : Rule) (rs : List Rule) (t : Table) where
  -- the table with one more rule has too many states: 10 names as many rules as there are with it
  with_over : n < length (add_rule k end t r) → with_rules k end n (length done) t (r ∷ rs) ≡ refused 10 (rule (length (done ++ (r ∷ []))))
  with_over h =
      let l : length (done ++ (r ∷ [])) ≡ suc (length done) = length-append done (r ∷ []) ∙ (omega arith) in
      cc (l, lt-leb (length (add_rule k end t r)) n h)

  -- or not: it goes on with that table
  with_next : length (add_rule k end t r) ≤ n → with_rules k end n (length done) t (r ∷ rs) ≡ with_rules k end n (length (done ++ (r ∷ []))) (add_rule k end t r) rs
  with_next h =
      let l : length (done ++ (r ∷ [])) ≡ suc (length done) = length-append done (r ∷ []) ∙ (omega arith) in
      cc (l, le-leb (length (add_rule k end t r)) n h)

-- after the rules `done`
told-from : (n : ℕ) (c : Cascade) (done rs : List Rule) (t : Table) → t ≡ table_of (having c done) → Few n (having c (done ++ rs)) (length done)
    → Told n (having c (done ++ rs)) (with_rules c.tags c.end n (length done) t rs)
told-from n c done [] t e f =
    let l : length (done ++ []) ≡ length done = ap length (append-nil done) in
    let a : table_of (having c (done ++ [])) ≡ t = ap (λ (x : List Rule). table_of (having c x)) (append-nil done) ∙ sym e in
    subst (λ (u : Table). Told n (having c (done ++ [])) (result u)) a (fits (λ j x y. f j x (omega arith)))
told-from n c done (r ∷ rs) t e f = by (dec_lt n (length u)) (told-from n c part rs u same)
  where
    part : List Rule
    part = done ++ (r ∷ [])

    u : Table
    u = add_rule c.tags c.end t r

    same : u ≡ table_of (having c part)
    same = ap (λ (x : Table). add_rule c.tags c.end x r) e ∙ sym (table_of-append c done r)

    all : part ++ rs ≡ done ++ (r ∷ rs)
    all = append_assoc done (r ∷ []) rs

    whole : Cascade
    whole = having c (done ++ (r ∷ rs))

    long : length part ≡ suc (length done)
    long = length-append done (r ∷ []) ∙ (omega arith)

    front : take (length part) (done ++ (r ∷ rs)) ≡ part
    front = subst (λ (x : List Rule). take (length part) x ≡ part) all (take_at part rs (length part) refl)

    count : length (table_of (leading (length part) whole)) ≡ length u
    count = ap (λ (x : List Rule). length (table_of (having c x))) front ∙ ap length (sym same)

    by : Dec (n < length u) → (Few n (having c (part ++ rs)) (length part) → Told n (having c (part ++ rs)) (with_rules c.tags c.end n (length part) u rs))
        → Told n whole (with_rules c.tags c.end n (length done) t (r ∷ rs))
    by (yes h) more =
        subst (Told n whole) (sym (with_over c.tags c.end n done r rs t h))
        (exceeds (length part)
        (record {
          some = omega (arith, long);
          inside = omega (arith, long, length-append done (r ∷ rs));
          more = omega (arith, count);
          fewer = λ j x y. f j x (omega (arith, long));
        }))
    by (no h) more =
        let few : length u ≤ n = omega arith in
        let next : Few n whole (suc (length done)) =
        few-next n whole (length done) f (subst (λ (m : ℕ). length (table_of (leading m whole)) ≤ n) long (omega (arith, count)))
        in
        subst (Told n whole) (sym (with_next c.tags c.end n done r rs t few))
        (subst (λ (s : List Rule). Told n (having c s) (with_rules c.tags c.end n (length part) u rs)) all
        (more (λ j x y. subst (λ (s : List Rule). length (table_of (leading j (having c s))) ≤ n) (sym all) (next j x (omega (arith, long))))))

pub told : (n : ℕ) (c : Cascade) → Told n c (compile_cascade n c)
told n c = told-from n c [] c.rules (table_of (having c [])) refl (λ j x y. absurd (omega arith))

-- ---- the bytes of a table that fits

-- limits in their ranges, and within them a valid book, whose rules leave the end tag where it is
pub record Proper (lim : Limits) (c : Cascade) : Type 0 where
  pub ranged : InRange lim
  pub valid : ValidEnding lim c
  pub spare : Spare c.end c.rules

pub proper : (lim : Limits) (book : List ℕ) (end : ℕ) (c : Cascade) → InRange lim → read_ending lim book end ≡ result c → Proper lim c
proper lim book end c r e = let v = (reads-ending book end c e).0 in record { ranged = r; valid = v; spare = valid_spare c v r }

-- a cascade's table with at most 256 states is valid under its limits
pub table-valid : {lim : Limits} (c : Cascade) → Proper lim c → length (table_of c) ≤ most_states → ValidTable lim c.tags (table_of c)
table-valid {lim} c v few =
    let g = (good lim.pattern c v.valid.book_valid.rules_valid v.spare).doing in
    let rules : length c.rules ≤ 16 = omega (arith, v.valid.book_valid.few_rules, v.ranged.few_rules) in
    record {
      tags_least = v.valid.book_valid.enough_tags;
      tags_most = v.valid.book_valid.few_tags;
      states_least = g.sound.some;
      states_most = few;
      start = g.sound.empty;
      held = λ q h. omega (arith, g.held q h, mul-le-mul_left (lim.pattern - 1) rules);
      final_below = g.sound.final_below;
      whole = g.rows;
      next_below = g.sound.next_below;
      output_below = g.sound.output_below;
      balanced = g.sound.balanced;
    }

-- ---- the stages of the answer

-- the outcomes of what is tested before a state is built: a refusal that names no rule, or the cascade of a valid book
pub data Tested (lim : Limits) (book : List ℕ) (end n work : ℕ) : Outcome Cascade → Type 0 where
  names_nothing : (j : ℕ) → 1 ≤ j → j < 256 → (j ≡ 10 → ⊥) → Tested lim book end n work (refused j nothing)
  names_byte : (j b : ℕ) → 1 ≤ j → j < 256 → (j ≡ 10 → ⊥) → Tested lim book end n work (refused j (byte b))
  goes_on : (c : Cascade) → Proper lim c → Premises lim book end n work c → Tested lim book end n work (result c)

-- what comes after 17
test_after : (lim : Limits) (book : List ℕ) (end n work : ℕ) → InRange lim
    → Tested lim book end n work (provided 8 (leb 1 n && leb n most_states) (and_then (read_ending lim book end) (roomed lim n work)))
test_after lim book end n work r = by_ceiling (leb 1 n) (leb n most_states) refl refl
  where
    by_entries : (c : Cascade) → read_ending lim book end ≡ result c → 1 ≤ n → n ≤ most_states → (b : Bool) → leb (entries lim n c) work ≡ b → Tested lim book end n work (provided 9 b (result c))
    by_entries c e s m true f = goes_on c (proper lim book end c r e) (record { ranged = r; reads = e; some = s; most = m; long = leb-true (entries lim n c) work f })
    by_entries c e s m false f = names_nothing 9 (omega arith) (omega arith) (λ z. omega (arith, z))

    by_end : (c : Cascade) → read lim book ≡ result c → 1 ≤ n → n ≤ most_states → (b : Bool) → not (bad_end (ending end c)) ≡ b
        → Tested lim book end n work (and_then (provided 14 b (result (ending end c))) (roomed lim n work))
    by_end c e s m true f =
        by_entries (ending end c) (ap (λ (o : Outcome Cascade). and_then o (fitted end)) e ∙ ap (λ (x : Bool). provided 14 x (result (ending end c))) f) s m (leb (entries lim n (ending end c)) work) refl
    by_end c e s m false f = names_nothing 14 (omega arith) (omega arith) (λ z. omega (arith, z))

    by_book : (o : Outcome Cascade) → BookRefusal lim o → read lim book ≡ o → 1 ≤ n → n ≤ most_states
        → Tested lim book end n work (and_then (and_then o (fitted end)) (roomed lim n work))
    by_book (result c) x e s m = by_end c e s m (not (bad_end (ending end c))) refl
    by_book (refused j nothing) x e s m = absurd x
    by_book (refused j (byte b)) x e s m = names_byte j b x.0.0 (omega (arith, x.0.1)) (λ z. omega (arith, z, x.0.2 (omega arith)))
    by_book (refused j (rule i)) x e s m = absurd x

    by_ceiling : (a b : Bool) → leb 1 n ≡ a → leb n most_states ≡ b
        → Tested lim book end n work (provided 8 (a && b) (and_then (read_ending lim book end) (roomed lim n work)))
    by_ceiling true true e f = by_book (read lim book) (book_refusal lim book) refl (leb-true 1 n e) (leb-true n most_states f)
    by_ceiling true false e f = names_nothing 8 (omega arith) (omega arith) (λ z. omega (arith, z))
    by_ceiling false b e f = names_nothing 8 (omega arith) (omega arith) (λ z. omega (arith, z))

pub test : (lim : Limits) (book : List ℕ) (end n work : ℕ) → Tested lim book end n work (tested lim book end n work)
test lim book end n work = by (in_range lim) refl
  where
    by : (b : Bool) → in_range lim ≡ b → Tested lim book end n work (provided 17 b (provided 8 (leb 1 n && leb n most_states) (and_then (read_ending lim book end) (roomed lim n work))))
    by true e = test_after lim book end n work (in_range_lem lim e)
    by false e = names_nothing 17 (omega arith) (omega arith) (λ z. omega (arith, z))

-- where the premises hold, nothing before 10 is refused
pub premises-tested : (lim : Limits) (book : List ℕ) (end n work : ℕ) (c : Cascade) → Premises lim book end n work c → tested lim book end n work ≡ result c
premises-tested lim book end n work c h =
    within-is lim (provided 8 (leb 1 n && leb n most_states) (and_then (read_ending lim book end) (roomed lim n work))) h.ranged
    ∙ cc (
      h.reads,
      le-leb 1 n h.some,
      le-leb n most_states h.most,
      le-leb (entries lim n c) work h.long,
    )

pub premises-answer : (lim : Limits) (book : List ℕ) (end n work room : ℕ) (c : Cascade) → Premises lim book end n work c → compile_answer lim book end n work room ≡ built n room c
premises-answer lim book end n work room c h = ap (λ (o : Outcome Cascade). and_then o (built n room)) (premises-tested lim book end n work c h)

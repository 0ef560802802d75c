-- The leading parts of a cascade, and the bytes of its table: what the theorems of demand 3 are made of.
use Prim.Native.Nat.{ℕ, suc, ◌-◌, ◌≤◌, ◌<◌}
use native.Mathlib.Omega.{arith}
use native.Mathlib.Decide.{dec_lt}
use mathlib.Core.Path.{◌≡◌, ap, ap₂, subst}
use mathlib.Core.Logic.{◌↔◌}
use mathlib.Core.Bool.{Bool, true, false}
use mathlib.Core.List.{List, [], ◌∷◌}
use lib.Dec.{leb}
use lib.ListN.{length}
use lib.Seq.{take-length}
use Rattle.limits.specs.Limits.{most_states}
use Rattle.limits.specs.declared.Limits.{Limits}
use Rattle.answers.specs.Outcome.{Outcome, result, refused, rule, and_then, provided}
use Rattle.answers.specs.Slice.{fitting}
use Rattle.cascades.specs.Rule.{Rule, Cascade, having, leading}
use Rattle.books.specs.Ending.{read_ending}
use Rattle.transducers.specs.Table.{Table}
use Rattle.minimal.specs.TableOf.{table_of}
use Rattle.minimal.proofs.Theorems as theorems
use Rattle.tables.specs.Bytes.{encode}
use Rattle.tables.specs.Decode.{Decoded}
use Rattle.tables.proofs.Theorem.{encoded, same_encoding}
use Rattle.tables.proofs.Words.{number_bytes}
use Rattle.compilation.specs.Compile.{built, compile_answer}
use Rattle.compilation.specs.Demand.{NeedsMore, PartNeedsMore, Shortest, Alike, Premises, SmallestTable}
use Rattle.compilation.proofs.Answer.{Few, Exceeds, Told, fits, exceeds, told, table-valid, Proper, Tested, names_nothing, names_byte, goes_on, test}

-- ---- leading parts

-- the first i rules need more than n states in every machine exactly if their table has more
pub needs_count : {lim : Limits} (c : Cascade) → Proper lim c → (n i : ℕ) → NeedsMore n (leading i c) ↔ (n < length (table_of (leading i c)))
needs_count {lim} c v n i =
    theorems.needs lim.pattern (leading i c) (theorems.valid-leading lim.pattern c v.valid.book_valid.rules_valid i) (theorems.spare_leading c v.spare i) n

exceeds_part : {lim : Limits} (c : Cascade) → Proper lim c → (n i : ℕ) → Exceeds n c i → PartNeedsMore c n i
exceeds_part c v n i h = record { some = h.some; inside = h.inside; more = (needs_count c v n i).1 h.more }

pub exceeds_shortest : {lim : Limits} (c : Cascade) → Proper lim c → (n i : ℕ) → Exceeds n c i → Shortest c n i
exceeds_shortest c v n i h = record { part = exceeds_part c v n i h; least = λ j p. least j p (dec_lt j i) }
  where
    least : (j : ℕ) → PartNeedsMore c n j → Dec (j < i) → i ≤ j
    least j p (yes l) = absurd (omega (arith, (needs_count c v n j).0 p.more, h.fewer j p.some (omega arith)))
    least j p (no l) = omega arith

pub shortest_exceeds : {lim : Limits} (c : Cascade) → Proper lim c → (n i : ℕ) → Shortest c n i → Exceeds n c i
shortest_exceeds c v n i h =
    record {
      some = h.part.some;
      inside = h.part.inside;
      more = (needs_count c v n i).0 h.part.more;
      fewer = λ j a b. few j a b (dec_lt n (length (table_of (leading j c))));
    }
  where
    few : (j : ℕ) → 1 ≤ j → j ≤ i - 1 → Dec (n < length (table_of (leading j c))) → length (table_of (leading j c)) ≤ n
    few j a b (yes m) =
        let p : PartNeedsMore c n j = record { some = a; inside = omega (arith, h.part.inside); more = (needs_count c v n j).1 m } in
        absurd (omega (arith, h.least j p, h.part.some))
    few j a b (no m) = omega arith

pub bytes_smallest : {lim : Limits} (c : Cascade) → Proper lim c → length (table_of c) ≤ most_states → SmallestTable lim c (encode c.tags (table_of c))
bytes_smallest {lim} c v few =
    let t = table_of c in
    record {
      table = t;
      decodes = encoded lim c.tags t (table-valid c v few);
      carries = number_bytes (length t);
      does = theorems.does lim.pattern c v.valid.book_valid.rules_valid v.spare;
      smallest = theorems.smallest lim.pattern c v.valid.book_valid.rules_valid v.spare;
      early = theorems.early lim.pattern c v.valid.book_valid.rules_valid v.spare;
      numbered = theorems.numbered lim.pattern c v.valid.book_valid.rules_valid v.spare;
    }

-- the whole of the rules is a leading part, unless there is no rule
pub whole-few : (c : Cascade) (n : ℕ) → 1 ≤ n → Few n c (length c.rules) → length (table_of c) ≤ n
whole-few c n some f = by c.rules f
  where
    by : (rs : List Rule) → Few n (having c rs) (length rs) → length (table_of (having c rs)) ≤ n
    by [] f = some
    by (r ∷ rs) f = subst (λ (x : List Rule). length (table_of (having c x)) ≤ n) (take-length (r ∷ rs)) (f (suc (length rs)) (omega arith) (omega arith))

pub fitting-same : (room : ℕ) (b bytes : List ℕ) → fitting room b ≡ result bytes → bytes ≡ b
fitting-same room b bytes = by (leb (length b) room)
  where
    by : (t : Bool) → provided 11 t (result b) ≡ result bytes → bytes ≡ b
    by true e = cc
    by false e = cc

fitting_unnamed : (room i : ℕ) (b : List ℕ) → fitting room b ≡ refused 10 (rule i) → ⊥
fitting_unnamed room i b = by (leb (length b) room)
  where
    by : (t : Bool) → provided 11 t (result b) ≡ refused 10 (rule i) → ⊥
    by true e = let z : ◌≡◌ {A = ℕ} 0 1 = cc in omega arith
    by false e = let z : ◌≡◌ {A = ℕ} 0 1 = cc in omega arith

module _ (c : Cascade) (n room : ℕ) where
  abbrev after : Outcome Table → Outcome (List ℕ)
  after o = and_then o (λ t. fitting room (encode c.tags t))

  pub told_bytes : {o : Outcome Table} (bytes : List ℕ) → Told n c o → after o ≡ result bytes
      → Few n c (length c.rules) × (bytes ≡ encode c.tags (table_of c))
  told_bytes bytes (fits f) e = (f, fitting-same room (encode c.tags (table_of c)) bytes e)
  told_bytes bytes (exceeds i x) e = let z : ◌≡◌ {A = ℕ} 0 1 = cc in absurd (omega arith)

  pub told_named : {o : Outcome Table} (i : ℕ) → Told n c o → after o ≡ refused 10 (rule i) → Exceeds n c i
  told_named i (fits f) e = absurd (fitting_unnamed room i (encode c.tags (table_of c)) e)
  told_named i (exceeds j x) e = let z : j ≡ i = cc in subst (Exceeds n c) z x

  pub told_exceeds : {o : Outcome Table} (i : ℕ) → Told n c o → Exceeds n c i → after o ≡ refused 10 (rule i)
  told_exceeds i (fits f) x = absurd (omega (arith, f i x.some x.inside, x.more))
  told_exceeds i (exceeds j y) x = by (dec_lt i j) (dec_lt j i)
    where
      by : Dec (i < j) → Dec (j < i) → ◌≡◌ {A = Outcome (List ℕ)} (refused 10 (rule j)) (refused 10 (rule i))
      by (yes l) d = absurd (omega (arith, y.fewer i x.some (omega arith), x.more))
      by (no l) (yes m) = absurd (omega (arith, x.fewer j y.some (omega arith), y.more))
      by (no l) (no m) = let z : j ≡ i = omega arith in cc

-- equal bytes are equal tables, though the limits may differ
encode_one : {lim lim' : Limits} (c d : Cascade) → Proper lim c → Proper lim' d → length (table_of c) ≤ most_states → length (table_of d) ≤ most_states
    → encode c.tags (table_of c) ≡ encode d.tags (table_of d)
    → table_of c ≡ table_of d
encode_one c d v w l m b =
    ap (λ (z : Decoded). z.table)
    (same_encoding (record { tags = c.tags; table = table_of c }) (record { tags = d.tags; table = table_of d }) (table-valid c v l) (table-valid d w m) b)

-- the same of the bytes of two valid cascades
pub encode-alike : {lim lim' : Limits} (c d : Cascade) → Proper lim c → Proper lim' d → length (table_of c) ≤ most_states → length (table_of d) ≤ most_states
    → c.tags ≡ d.tags → (encode c.tags (table_of c) ≡ encode d.tags (table_of d)) ↔ Alike c d
encode-alike {lim} {lim'} c d v w l m k =
    let same = theorems.canonical lim.pattern lim'.pattern c d v.valid.book_valid.rules_valid v.spare w.valid.book_valid.rules_valid w.spare k in
    (λ b. same.0 (encode_one c d v w l m b), λ a. ap₂ encode k (same.1 a))

-- ---- compiled bytes

-- the bytes that a cascade was compiled to with the ceiling n
pub record Made (lim : Limits) (book : List ℕ) (end n work : ℕ) (bytes : List ℕ) (c : Cascade) : Type 0 where
  pub premises : Premises lim book end n work c
  pub valid : Proper lim c
  pub within : length (table_of c) ≤ most_states
  pub bytes_are : bytes ≡ encode c.tags (table_of c)

module _ (lim : Limits) (book : List ℕ) (end n work room : ℕ) (bytes : List ℕ) (e : compile_answer lim book end n work room ≡ result bytes) where
  pub some-made : (c : Cascade) × Made lim book end n work bytes c
  some-made = by (test lim book end n work) e
    where
      by : {o : Outcome Cascade} → Tested lim book end n work o → and_then o (built n room) ≡ result bytes → (c : Cascade) × Made lim book end n work bytes c
      by (names_nothing j l m t) e = let z : ◌≡◌ {A = ℕ} 0 1 = cc in absurd (omega arith)
      by (names_byte j b l m t) e = let z : ◌≡◌ {A = ℕ} 0 1 = cc in absurd (omega arith)
      by (goes_on c v p) e =
          let t = told_bytes c n room bytes (told n c) e in
          (c, record { premises = p; valid = v; within = omega (arith, whole-few c n p.some t.0, p.most); bytes_are = t.1 })

  pub made : (c : Cascade) → read_ending lim book end ≡ result c → Made lim book end n work bytes c
  made c f = by some-made.0 some-made.1
    where
      by : (d : Cascade) → Made lim book end n work bytes d → Made lim book end n work bytes c
      by d m = let g : d ≡ c = cc m.premises.reads in subst (Made lim book end n work bytes) g m

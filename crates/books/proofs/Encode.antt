-- A list of bytes reads as a cascade exactly if the cascade is valid and the bytes are its encoding.
use Prim.Native.Nat.{ℕ, zero, suc, ◌+◌, ◌-◌, ◌*◌, ◌/◌, ◌%◌, ◌^◌, ◌≤◌, ◌<◌}
use native.Mathlib.Omega.{arith}
use native.Mathlib.Nat.{mod-lt, div-one}
use mathlib.Core.Path.{◌≡◌, refl, sym, ap, ◌∙◌, subst}
use mathlib.Core.Logic.{◌↔◌}
use mathlib.Core.Bool.{Bool, true, false, not, ◌&&◌, false≢true}
use mathlib.Core.List.{List, [], ◌∷◌, ◌++◌, reverse, append-nil, append_assoc, reverse-cons}
use borrow.Author.Tests.{lt-ltb, le-leb, ne_eqb, ltb-true, leb-true, eqb-true, eqb-false, not-true}
use lib.Dec.{eqb, leb, ltb}
use lib.ListN.{length, drop, get_or, length-append, length-reverse}
use Rattle.limits.specs.Limits.{fewest_tags, no_end}
use Rattle.limits.specs.declared.Limits.{Limits}
use Rattle.answers.specs.Outcome.{Place, Outcome, result, refused, nothing, byte, and_then, provided}
use Rattle.answers.proofs.Outcome.{passed}
use Rattle.words.specs.Word.{Below}
use Rattle.words.proofs.Word.{below-append}
use Rattle.cascades.specs.Pattern.{Class, one, any, ones, some_set, word}
use Rattle.cascades.specs.Rule.{Kind, Rule, SetsBelow, Cascade, ValidRule, ValidRules, ending}
use Rattle.books.specs.Book.{Valid, bytes_of, encode_class, opener, encode_pattern, encode_rule, encode_rules, encode}
use Rattle.books.specs.Read.{Stage, opening, size, command, place, new_tag, pattern_tag, set_byte, ended, closed, closing, next_class, next_rule, below, opened, longer, take_set_byte, step, finish, read_from, read}
use Rattle.books.proofs.Step.{Part, tag, set, opens_part, first_of, by_command, step_opens}
use Rattle.books.proofs.Sets.{bytes_snoc, byte_next, byte_more, six_enough, word-append, sets-append}

-- ---- encodings are read

closed-valid : (l k : ℕ) (r : Rule) → ValidRule l k r → closed r ≡ result tt
closed-valid l k r h =
    cc (
      lt-ltb 0 (length r.pattern) (omega (arith, h.place_inside)),
      lt-ltb r.place (length r.pattern) h.place_inside,
      h.sets_before,
      ne_eqb (get_or (word r.pattern) r.place 0) r.tag h.tag_new,
    )

abbrev with_pattern : Rule → List Class → Rule
with_pattern r u = record { kind = r.kind; pattern = u; place = r.place; tag = r.tag }

below_go : (k b : ℕ) (s : Stage) → b < k → below k b s ≡ result s
below_go k b s h = cc (lt-ltb b k h)

abbrev pub cascade : ℕ → List Rule → Cascade
cascade k rs = record { tags = k; rules = rs; end = no_end }

module _ (lim : Limits) where
  -- reading on from the stage gives the cascade, wherever the bytes stand
  abbrev Accepts : Stage → List ℕ → Cascade → Type 0
  Accepts s bs c = (at : ℕ) → read_from lim s at bs ≡ result c

  accepts-next : (s s' : Stage) (b : ℕ) (bs : List ℕ) (c : Cascade) → step lim s b ≡ result s' → Accepts s' bs c → Accepts s (b ∷ bs) c
  accepts-next s s' b bs c e f at = cc (e, f (suc at))

  -- the last bytes of a set, one more than n
  accepts-set : (k : ℕ) (r : Rule) (rs : List Rule) (s : ℕ) (rest : List ℕ) (c : Cascade) → s < 2 ^ k → 2 ≤ ones k s → Accepts (command k (longer r (any s) ∷ rs)) rest c
      → (n : ℕ) → Accepts (set_byte k r rs n (s / 0x100 ^ suc n)) (bytes_of (suc n) s ++ rest) c
  accepts-set k r rs s rest c h two f zero =
      let b = s / 0x100 ^ 0 % 0x100 in
      let whole : s / 0x100 ^ 1 * 0x100 + b ≡ s = byte_next s 0 ∙ div-one s in
      accepts-next (set_byte k r rs 0 (s / 0x100 ^ 1)) (command k (longer r (any s) ∷ rs)) b rest c
      (ap (λ (t : Bool). provided 1 t (take_set_byte k r rs 0 (s / 0x100 ^ 1 * 0x100 + b))) (lt-ltb b 0x100 (mod-lt (s / 0x100 ^ 0) (omega arith)))
      ∙ ap (take_set_byte k r rs 0) whole
      ∙ cc (lt-ltb s (2 ^ k) h, le-leb 2 (ones k s) two)) f
  accepts-set k r rs s rest c h two f (suc n) =
      let b = s / 0x100 ^ suc n % 0x100 in
      accepts-next (set_byte k r rs (suc n) (s / 0x100 ^ suc (suc n))) (set_byte k r rs n (s / 0x100 ^ suc n)) b (bytes_of (suc n) s ++ rest) c
      (ap (λ (t : Bool). provided 1 t (take_set_byte k r rs (suc n) (s / 0x100 ^ suc (suc n) * 0x100 + b))) (lt-ltb b 0x100 (mod-lt (s / 0x100 ^ suc n) (omega arith)))
      ∙ ap (take_set_byte k r rs (suc n)) (byte_next s (suc n))) (accepts-set k r rs s rest c h two f n)

  accepts-pattern : (k : ℕ) (r : Rule) (rs : List Rule) (u : List Class) (rest : List ℕ) (c : Cascade) → length r.pattern + length u ≤ lim.pattern
      → Below k (word u) → SetsBelow k u → Accepts (command k (with_pattern r (r.pattern ++ u) ∷ rs)) rest c → Accepts (command k (r ∷ rs)) (encode_pattern u ++ rest) c
  accepts-pattern k r rs [] rest c h b sb f = subst (λ (p : List Class). Accepts (command k (with_pattern r p ∷ rs)) rest c) (append-nil r.pattern) f
  accepts-pattern k r rs (one a ∷ u) rest c h b sb f =
      let n : length r.pattern < lim.pattern = omega arith in
      let m : length (r.pattern ++ (one a ∷ [])) + length u ≤ lim.pattern = omega (arith, length-append r.pattern (one a ∷ [])) in
      accepts-next (command k (r ∷ rs)) (pattern_tag k r rs) 0x22 (a ∷ (encode_pattern u ++ rest)) c (cc (lt-ltb (length r.pattern) lim.pattern n))
      (accepts-next (pattern_tag k r rs) (command k (longer r (one a) ∷ rs)) a (encode_pattern u ++ rest) c (below_go k a (command k (longer r (one a) ∷ rs)) b.0)
      (accepts-pattern k (longer r (one a)) rs u rest c m b.1 sb
      (subst (λ (p : List Class). Accepts (command k (with_pattern r p ∷ rs)) rest c) (sym (append_assoc r.pattern (one a ∷ []) u)) f)))
  accepts-pattern k r rs (any s ∷ u) rest c h b sb f =
      let n : length r.pattern < lim.pattern = omega arith in
      let m : length (r.pattern ++ (any s ∷ [])) + length u ≤ lim.pattern = omega (arith, length-append r.pattern (any s ∷ [])) in
      let behind : Accepts (command k (longer r (any s) ∷ rs)) (encode_pattern u ++ rest) c =
      accepts-pattern k (longer r (any s)) rs u rest c m b.1 sb.3
      (subst (λ (p : List Class). Accepts (command k (with_pattern r p ∷ rs)) rest c) (sym (append_assoc r.pattern (any s ∷ []) u)) f)
      in
      accepts-next (command k (r ∷ rs)) (set_byte k r rs 5 0) 0x23 (bytes_of 6 s ++ (encode_pattern u ++ rest)) c (cc (lt-ltb (length r.pattern) lim.pattern n))
      (subst (λ (x : ℕ). Accepts (set_byte k r rs 5 x) (bytes_of 6 s ++ (encode_pattern u ++ rest)) c) (six_enough s sb.0)
      (accepts-set k r rs s (encode_pattern u ++ rest) c sb.1 sb.2 behind 5))

  -- the commands from a place where the last rule may be closed
  accepts-rules : (k : ℕ) (rs more : List Rule) → closing rs ≡ result tt → length rs + length more ≤ lim.rules → ValidRules lim.pattern k more
      → Accepts (command k rs) (encode_rules more ++ (0x00 ∷ [])) (cascade k (reverse rs ++ more))
  accepts-rules k rs [] z h v = λ at. cc (z, append-nil (reverse rs))
  accepts-rules k rs (r ∷ more) z h v =
      let c = cascade k (reverse rs ++ (r ∷ more)) in
      let rest : List ℕ = encode_rules more ++ (0x00 ∷ []) in
      let n : length rs < lim.rules = omega arith in
      let m : length (r ∷ rs) + length more ≤ lim.rules = omega arith in
      let e : cascade k (reverse (r ∷ rs) ++ more) ≡ c =
      ap (cascade k) (ap (λ (x : List Rule). x ++ more) (reverse-cons r rs) ∙ append_assoc (reverse rs) (r ∷ []) more)
      in
      let rule : Accepts (command k (r ∷ rs)) rest c =
      subst (Accepts (command k (r ∷ rs)) rest) e (accepts-rules k (r ∷ rs) more (closed-valid lim.pattern k r v.0) m v.1)
      in
      let pattern : Accepts (command k (opened r.kind r.place r.tag ∷ rs)) (encode_pattern r.pattern ++ rest) c =
      accepts-pattern k (opened r.kind r.place r.tag) rs r.pattern rest c (omega (arith, v.0.short)) v.0.pattern_below v.0.sets_below rule
      in
      let bytes : encode_rule r ++ encode_rules more ++ (0x00 ∷ []) ≡ encode_rule r ++ rest = append_assoc (encode_rule r) (encode_rules more) (0x00 ∷ []) in
      subst (λ (bs : List ℕ). Accepts (command k rs) bs c) (sym bytes)
      (accepts-next (command k rs) (place k r.kind rs) (opener r.kind) (r.place ∷ r.tag ∷ (encode_pattern r.pattern ++ rest)) c
      (step_opens lim k rs r.kind ∙ cc (z, lt-ltb (length rs) lim.rules n))
      (accepts-next (place k r.kind rs) (new_tag k r.kind rs r.place) r.place (r.tag ∷ (encode_pattern r.pattern ++ rest)) c refl
      (accepts-next (new_tag k r.kind rs r.place) (command k (opened r.kind r.place r.tag ∷ rs)) r.tag (encode_pattern r.pattern ++ rest) c
      (below_go k r.tag (command k (opened r.kind r.place r.tag ∷ rs)) v.0.tag_below) pattern)))

  pub reads_encoding : (c : Cascade) → Valid lim c → read lim (encode c) ≡ result c
  reads_encoding c v =
      let k = c.tags in
      let read_as = cascade k c.rules in
      let body : List ℕ = encode_rules c.rules ++ (0x00 ∷ []) in
      let same : read_as ≡ c = ap (λ (e : ℕ). ending e c) (sym v.no_end_tag) in
      accepts-next opening size 0x20 (k ∷ body) read_as refl
      (accepts-next size (command k []) k body read_as
      (cc (le-leb fewest_tags k v.enough_tags, le-leb k lim.tags v.few_tags))
      (accepts-rules k [] c.rules refl (omega (arith, v.few_rules)) v.rules_valid)) 0
      ∙ ap result same

-- ---- what is read is an encoding

-- the bytes of rules that are listed last first
abbrev down : List Rule → List ℕ
down [] = []
down (r ∷ rs) = down rs ++ encode_rule r

-- the bytes that lead to a stage
abbrev read_so_far : Stage → List ℕ
read_so_far opening = []
read_so_far size = 0x20 ∷ []
read_so_far (command k rs) = 0x20 ∷ k ∷ down rs
read_so_far (place k kind rs) = 0x20 ∷ k ∷ (down rs ++ (opener kind ∷ []))
read_so_far (new_tag k kind rs p) = 0x20 ∷ k ∷ (down rs ++ (opener kind ∷ p ∷ []))
read_so_far (pattern_tag k r rs) = 0x20 ∷ k ∷ (down (r ∷ rs) ++ (0x22 ∷ []))
read_so_far (set_byte k r rs n s) = 0x20 ∷ k ∷ (down (r ∷ rs) ++ (0x23 ∷ bytes_of (5 - n) s))
read_so_far (ended k rs) = 0x20 ∷ k ∷ (down rs ++ (0x00 ∷ []))

-- an open rule, whose pattern has at most l tags
record Open (l k : ℕ) (r : Rule) : Type 0 where
  short : length r.pattern ≤ l
  pattern_below : Below k (word r.pattern)
  sets_below : SetsBelow k r.pattern
  tag_below : r.tag < k

-- what a rule that closes has been tested for
valid-closed : (l k : ℕ) (r : Rule) → Open l k r → closed r ≡ result tt → ValidRule l k r
valid-closed l k r o z =
    let n = length r.pattern in
    let a = get_or (word r.pattern) r.place 0 in
    let set_after = some_set (drop r.place r.pattern) in
    let three = passed 3 (ltb 0 n) _ tt z in
    let five = passed 5 (ltb r.place n) _ tt three.1 in
    let nineteen = passed 19 (not set_after) _ tt five.1 in
    let six = passed 6 (not (eqb a r.tag)) _ tt nineteen.1 in
    record {
      short = o.short;
      pattern_below = o.pattern_below;
      sets_below = o.sets_below;
      place_inside = ltb-true r.place n five.0;
      tag_below = o.tag_below;
      sets_before = not-true set_after nineteen.0;
      tag_new = eqb-false a r.tag (not-true (eqb a r.tag) six.0);
    }

by_provided : (P : Outcome Stage → Type 0) (n : ℕ) (t : Bool) (x : Outcome Stage) → (t ≡ true → P x) → P (refused n nothing) → P (provided n t x)
by_provided P n true x f r = f refl
by_provided P n false x f r = r

by_closing : (P : Outcome Stage → Type 0) (o : Outcome (Unit {0})) (x : Outcome Stage) → (o ≡ result tt → P x) → ((n : ℕ) (p : Place) → P (refused n p)) → P (and_then o (λ u. x))
by_closing P (result tt) x f g = f refl
by_closing P (refused n p) x f g = g n p

encode_pattern_snoc : (u : List Class) (c : Class) → encode_pattern (u ++ (c ∷ [])) ≡ encode_pattern u ++ encode_class c
encode_pattern_snoc [] c = append-nil (encode_class c)
encode_pattern_snoc (d ∷ u) c = ap (λ (x : List ℕ). encode_class d ++ x) (encode_pattern_snoc u c) ∙ sym (append_assoc (encode_class d) (encode_pattern u) (encode_class c))

longer_open : (l k : ℕ) (r : Rule) (c : Class) → Open l k r → length r.pattern < l → Below k (word (c ∷ [])) → SetsBelow k (c ∷ []) → Open l k (longer r c)
longer_open l k r c o n h g =
    record {
      short = omega (arith, length-append r.pattern (c ∷ []));
      pattern_below = subst (Below k) (sym (word-append r.pattern (c ∷ []))) (below-append k (word r.pattern) (word (c ∷ [])) o.pattern_below h);
      sets_below = sets-append k r.pattern (c ∷ []) o.sets_below g;
      tag_below = o.tag_below;
    }

-- after a place of the pattern
longer_bytes : (r : Rule) (rs : List Rule) (c : Class) → down (longer r c ∷ rs) ≡ down (r ∷ rs) ++ encode_class c
longer_bytes r rs c =
    ap (λ (x : List ℕ). down rs ++ (opener r.kind ∷ r.place ∷ r.tag ∷ x)) (encode_pattern_snoc r.pattern c)
    ∙ sym (append_assoc (down rs) (encode_rule r) (encode_class c))

valid-append : (l k : ℕ) (rs more : List Rule) → ValidRules l k rs → ValidRules l k more → ValidRules l k (rs ++ more)
valid-append l k [] more h m = m
valid-append l k (r ∷ rs) more h m = (h.0, valid-append l k rs more h.1 m)

pub valid-reverse : (l k : ℕ) (rs : List Rule) → ValidRules l k rs → ValidRules l k (reverse rs)
valid-reverse l k [] h = tt
valid-reverse l k (r ∷ rs) h =
    subst (ValidRules l k) (sym (reverse-cons r rs)) (valid-append l k (reverse rs) (r ∷ []) (valid-reverse l k rs h.1) (h.0, tt))

encode_rules-append : (rs more : List Rule) → encode_rules (rs ++ more) ≡ encode_rules rs ++ encode_rules more
encode_rules-append [] more = refl
encode_rules-append (r ∷ rs) more =
    ap (λ (x : List ℕ). encode_rule r ++ x) (encode_rules-append rs more) ∙ sym (append_assoc (encode_rule r) (encode_rules rs) (encode_rules more))

down-reverse : (rs : List Rule) → encode_rules (reverse rs) ≡ down rs
down-reverse [] = refl
down-reverse (r ∷ rs) =
    ap encode_rules (reverse-cons r rs)
    ∙ encode_rules-append (reverse rs) (r ∷ [])
    ∙ cc (down-reverse rs, append-nil (encode_rule r))

not-read : {A : Type 0} (n at : ℕ) (c : Cascade) → refused n (byte at) ≡ result c → A
not-read n at c e = let z : ◌≡◌ {A = ℕ} 0 1 = cc in absurd (omega arith)

module _ (lim : Limits) where
  record Tags (k : ℕ) : Type 0 where
    enough : fewest_tags ≤ k
    few : k ≤ lim.tags

  abbrev OpenFirst : ℕ → List Rule → Type 0
  OpenFirst k [] = Unit {0}
  OpenFirst k (r ∷ rs) = Open lim.pattern k r × ValidRules lim.pattern k rs

  -- what the tests on the way to a stage have shown
  abbrev Shown : Stage → Type 0
  Shown opening = Unit {0}
  Shown size = Unit {0}
  Shown (command k rs) = Tags k × (length rs ≤ lim.rules) × OpenFirst k rs
  Shown (place k kind rs) = Tags k × (length rs < lim.rules) × ValidRules lim.pattern k rs
  Shown (new_tag k kind rs p) = Tags k × (length rs < lim.rules) × ValidRules lim.pattern k rs
  Shown (pattern_tag k r rs) = Tags k × (length rs < lim.rules) × Open lim.pattern k r × (length r.pattern < lim.pattern) × ValidRules lim.pattern k rs
  Shown (set_byte k r rs n s) =
      Tags k × (length rs < lim.rules) × Open lim.pattern k r × (length r.pattern < lim.pattern) × ValidRules lim.pattern k rs × (n ≤ 5) × (s < 0x100 ^ (5 - n))
  Shown (ended k rs) = Tags k × (length rs ≤ lim.rules) × ValidRules lim.pattern k rs

  -- a byte that is taken keeps both
  abbrev Follows : Stage → ℕ → Outcome Stage → Type 0
  Follows s b (result s') = Shown s' × (read_so_far s' ≡ read_so_far s ++ (b ∷ []))
  Follows s b (refused n p) = Unit {0}

  valid-closing : (k : ℕ) (rs : List Rule) → OpenFirst k rs → closing rs ≡ result tt → ValidRules lim.pattern k rs
  valid-closing k [] o z = tt
  valid-closing k (r ∷ rs) o z = (valid-closed lim.pattern k r o.0 z, o.1)

  module _ (k : ℕ) (rs : List Rule) (b : ℕ) (h : Shown (command k rs)) where
    command-ends : b ≡ 0x00 → Follows (command k rs) b (and_then (closing rs) (λ u. result (ended k rs)))
    command-ends e =
        by_closing (Follows (command k rs) b) (closing rs) (result (ended k rs))
        (λ z. ((h.0, h.1, valid-closing k rs h.2 z), ap (λ (x : ℕ). 0x20 ∷ k ∷ (down rs ++ (x ∷ []))) (sym e)))
        (λ n p. tt)

    command_opens : (kind : Kind) → b ≡ opener kind → Follows (command k rs) b (next_rule lim k kind rs)
    command_opens kind e =
        by_closing (Follows (command k rs) b) (closing rs) (provided 7 (ltb (length rs) lim.rules) (result (place k kind rs)))
        (λ z. by_provided (Follows (command k rs) b) 7 (ltb (length rs) lim.rules) (result (place k kind rs))
        (λ t. (
          (h.0, ltb-true (length rs) lim.rules t, valid-closing k rs h.2 z),
          ap (λ (x : ℕ). 0x20 ∷ k ∷ (down rs ++ (x ∷ []))) (sym e),
        ))
        tt)
        (λ n p. tt)

  command-part : (part : Part) (k : ℕ) (rs : List Rule) (b : ℕ) → Shown (command k rs) → b ≡ opens_part part → Follows (command k rs) b (next_class lim rs (first_of part k))
  command-part part k [] b h e = tt
  command-part tag k (r ∷ rs) b h e =
      by_provided (Follows (command k (r ∷ rs)) b) 3 (ltb (length r.pattern) lim.pattern) (result (pattern_tag k r rs))
      (λ t. (
        (h.0, omega (arith, h.1), h.2.0, ltb-true (length r.pattern) lim.pattern t, h.2.1),
        ap (λ (x : ℕ). 0x20 ∷ k ∷ (down (r ∷ rs) ++ (x ∷ []))) (sym e),
      ))
      tt
  command-part set k (r ∷ rs) b h e =
      by_provided (Follows (command k (r ∷ rs)) b) 3 (ltb (length r.pattern) lim.pattern) (result (set_byte k r rs 5 0))
      (λ t. (
        (h.0, omega (arith, h.1), h.2.0, ltb-true (length r.pattern) lim.pattern t, h.2.1, omega arith, omega arith),
        ap (λ (x : ℕ). 0x20 ∷ k ∷ (down (r ∷ rs) ++ (x ∷ []))) (sym e),
      ))
      tt

  -- one more byte of a set
  module _ (k : ℕ) (r : Rule) (rs : List Rule) (s b : ℕ) (small : b < 0x100) where
    set_bytes : (n m : ℕ) → m ≡ suc (5 - n) → down (r ∷ rs) ++ (0x23 ∷ bytes_of m (s * 0x100 + b)) ≡ down (r ∷ rs) ++ (0x23 ∷ bytes_of (5 - n) s) ++ (b ∷ [])
    set_bytes n m e =
        ap (λ (x : List ℕ). down (r ∷ rs) ++ (0x23 ∷ x)) (ap (λ (i : ℕ). bytes_of i (s * 0x100 + b)) e ∙ bytes_snoc (5 - n) s b small)
        ∙ sym (append_assoc (down (r ∷ rs)) (0x23 ∷ bytes_of (5 - n) s) (b ∷ []))

    set_follows : (n : ℕ) → Shown (set_byte k r rs n s) → Follows (set_byte k r rs n s) b (take_set_byte k r rs n (s * 0x100 + b))
    set_follows zero h =
        let t = s * 0x100 + b in
        by_provided (Follows (set_byte k r rs 0 s) b) 4 (ltb t (2 ^ k)) _
        (λ four.
        by_provided (Follows (set_byte k r rs 0 s) b) 18 (leb 2 (ones k t)) (result (command k (longer r (any t) ∷ rs)))
        (λ two. (
          (h.0, h.1, (longer_open lim.pattern k r (any t) h.2 h.3 (omega (arith, h.0.enough), tt) (byte_more 5 s b h.6 small, ltb-true t (2 ^ k) four, leb-true 2 (ones k t) two, tt), h.4)),
          ap (λ (x : List ℕ). 0x20 ∷ k ∷ x) (longer_bytes r rs (any t) ∙ set_bytes 0 6 refl),
        ))
        tt)
        tt
    set_follows (suc n) h =
        let m : 5 - n ≡ suc (5 - suc n) = omega (arith, h.5) in
        ((h.0, h.1, h.2, h.3, h.4, omega (arith, h.5), rw m (byte_more (5 - suc n) s b h.6 small)), ap (λ (x : List ℕ). 0x20 ∷ k ∷ x) (set_bytes (suc n) (5 - n) m))

  -- every byte that is taken is told, and shows what it was tested for
  step_follows : (s : Stage) (b : ℕ) → Shown s → Follows s b (step lim s b)
  step_follows opening b h = by_provided (Follows opening b) 1 (eqb b 0x20) (result size) (λ e. (tt, ap (λ (x : ℕ). x ∷ []) (sym (eqb-true b 0x20 e)))) tt
  step_follows size b h =
      by_provided (Follows size b) 2 (leb fewest_tags b && leb b lim.tags) (result (command b []))
      (λ e. ((both (leb fewest_tags b) (leb b lim.tags) refl refl e, omega arith, tt), refl))
      tt
    where
      both : (s t : Bool) → leb fewest_tags b ≡ s → leb b lim.tags ≡ t → (s && t) ≡ true → Tags b
      both true true e f g = record { enough = leb-true fewest_tags b e; few = leb-true b lim.tags f }
      both true false e f g = absurd (false≢true g)
      both false t e f g = absurd (false≢true g)
  step_follows (command k rs) b h =
      by_command lim (Follows (command k rs) b) k rs b (command-ends k rs b h) (command_opens k rs b h) (λ part. command-part part k rs b h) tt
  step_follows (place k kind rs) b h = (h, ap (λ (x : List ℕ). 0x20 ∷ k ∷ x) (sym (append_assoc (down rs) (opener kind ∷ []) (b ∷ []))))
  step_follows (new_tag k kind rs p) b h =
      by_provided (Follows (new_tag k kind rs p) b) 4 (ltb b k) (result (command k (opened kind p b ∷ rs)))
      (λ e. (
        (h.0, h.1, (record { short = omega arith; pattern_below = tt; sets_below = tt; tag_below = ltb-true b k e }, h.2)),
        ap (λ (x : List ℕ). 0x20 ∷ k ∷ x) (sym (append_assoc (down rs) (opener kind ∷ p ∷ []) (b ∷ []))),
      ))
      tt
  step_follows (pattern_tag k r rs) b h =
      by_provided (Follows (pattern_tag k r rs) b) 4 (ltb b k) (result (command k (longer r (one b) ∷ rs)))
      (λ e. (
        (h.0, h.1, (longer_open lim.pattern k r (one b) h.2 h.3 (ltb-true b k e, tt) tt, h.4)),
        ap (λ (x : List ℕ). 0x20 ∷ k ∷ x) (longer_bytes r rs (one b) ∙ sym (append_assoc (down (r ∷ rs)) (0x22 ∷ []) (b ∷ []))),
      ))
      tt
  step_follows (set_byte k r rs n s) b h =
      by_provided (Follows (set_byte k r rs n s) b) 1 (ltb b 0x100) (take_set_byte k r rs n (s * 0x100 + b)) (λ e. set_follows k r rs s b (ltb-true b 0x100 e) n h) tt
  step_follows (ended k rs) b h = tt

  -- a cascade that reading on gives is valid, and the bytes are its encoding
  abbrev Encodes : Stage → List ℕ → Cascade → Type 0
  Encodes s bs c = Valid lim c × (read_so_far s ++ bs ≡ encode c)

  read-ends : (s : Stage) (at : ℕ) (c : Cascade) → Shown s → finish s at ≡ result c → Encodes s [] c
  read-ends opening at c h e = not-read 1 at c e
  read-ends size at c h e = not-read 1 at c e
  read-ends (command k rs) at c h e = not-read 1 at c e
  read-ends (place k kind rs) at c h e = not-read 1 at c e
  read-ends (new_tag k kind rs p) at c h e = not-read 1 at c e
  read-ends (pattern_tag k r rs) at c h e = not-read 1 at c e
  read-ends (set_byte k r rs n s) at c h e = not-read 1 at c e
  read-ends (ended k rs) at c h e =
      subst (Encodes (ended k rs) [])
      same (
        record {
          enough_tags = h.0.enough;
          few_tags = h.0.few;
          few_rules = subst (λ (n : ℕ). n ≤ lim.rules) (sym (length-reverse rs)) h.1;
          rules_valid = valid-reverse lim.pattern k rs h.2;
          no_end_tag = refl;
        },
        cc (append-nil (read_so_far (ended k rs)), down-reverse rs),
      )
    where
      same : cascade k (reverse rs) ≡ c
      same = cc

  read_follows : (s : Stage) (at : ℕ) (bs : List ℕ) (c : Cascade) → Shown s → read_from lim s at bs ≡ result c → Encodes s bs c
  read_follows s at [] c h e = read-ends s at c h e
  read_follows s at (b ∷ bs) c h e = next (step lim s b) (step_follows s b h) e (λ s' i f. read_follows s' (suc at) bs c i f)
    where
      next : (o : Outcome Stage) → Follows s b o → ◌≡◌ {A = Outcome Cascade} (elim o [ result s' ↦ read_from lim s' (suc at) bs | refused m p ↦ refused m (byte at) ]) (result c)
          → ((s' : Stage) → Shown s' → read_from lim s' (suc at) bs ≡ result c → Encodes s' bs c) → Encodes s (b ∷ bs) c
      next (result s') f e r = let g = r s' f.0 e in (g.0, cc (g.1, f.1, append_assoc (read_so_far s) (b ∷ []) bs))
      next (refused m p) f e r = not-read m at c e

-- "A book is valid if none of the refusals for a book fits its bytes": the reader takes the encodings of valid cascades and nothing else
pub reads_exactly : {lim : Limits} (bs : List ℕ) (c : Cascade) → (read lim bs ≡ result c) ↔ (Valid lim c × (bs ≡ encode c))
reads_exactly {lim} bs c = (
  λ e. read_follows lim opening 0 bs c tt e,
  λ h. ap (read lim) h.1 ∙ reads_encoding lim c h.0,
)

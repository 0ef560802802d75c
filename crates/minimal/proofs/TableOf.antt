-- The table of a cascade, rule by rule: what each rule's phases keep, and what follows for the whole.
use Prim.Native.Nat.{ℕ, zero, suc, ◌+◌, ◌*◌, ◌-◌, ◌≤◌, ◌<◌}
use native.Mathlib.Omega.{arith}
use native.Mathlib.Numerals.{add-one}
use mathlib.Core.Path.{◌≡◌, refl, sym, ap, ◌∙◌, subst}
use mathlib.Core.Bool.{false}
use mathlib.Core.Logic.{◌↔◌}
use mathlib.Core.List.{List, [], ◌∷◌, ◌++◌}
use lib.ListN.{length, take, get_or}
use Rattle.words.specs.Word.{Below, Prefix}
use Rattle.words.specs.Front.{first}
use Rattle.words.specs.Pieces.{piecewise}
use Rattle.words.proofs.Pieces.{Without, Keeps, piecewise_then, piecewise_same, piecewise-below, keeps_then}
use Rattle.cascades.specs.Pattern.{word, plain}
use Rattle.cascades.specs.Rule.{Kind, once, everywhere, Rule, has_set, ValidRule, ValidRules, Cascade, having, ValidCascade}
use Rattle.cascades.specs.Rewrite.{apply, apply_all, behavior}
use Rattle.cascades.specs.Ending.{before, misused}
use Rattle.cascades.specs.Spares.{Spares, Spare}
use Rattle.cascades.proofs.Pattern.{word-length, plain_word}
use Rattle.cascades.proofs.Ending.{free_used, spares_used, keeps_apply}
use Rattle.transducers.specs.Transducer.{Shape, puts, Transducer, turns}
use Rattle.transducers.specs.Table.{Table, shape}
use Rattle.transducers.specs.Run.{outputs}
use Rattle.transducers.specs.Canonical.{Same, Inside, Sound, Canonical}
use Rattle.transducers.specs.Tabulate.{table, Rows, Doing}
use Rattle.transducers.specs.Compose.{compose}
use Rattle.transducers.specs.Normalize.{normalize}
use Rattle.transducers.specs.Merge.{merge}
use Rattle.transducers.specs.Ended.{ended}
use Rattle.transducers.proofs.Lower.{fewest, ahead}
use Rattle.transducers.proofs.Unique.{unique}
use Rattle.transducers.proofs.Tabulate.{table-equal, canonical_table, doing-table}
use Rattle.transducers.proofs.Compose.{doing-compose}
use Rattle.transducers.proofs.Normalize.{doing-normalize, early-normalize}
use Rattle.transducers.proofs.Merge.{doing-merge, early-merge, apart-merge}
use Rattle.transducers.proofs.Number.{doing-number, canonical_number}
use Rattle.transducers.proofs.Ended.{does-ended, sound-ended}
use Rattle.minimal.specs.OneRule.{states, one_rule, rule_table}
use Rattle.minimal.specs.TableOf.{identity, add, add_rule, add_all, table_of}
use Rattle.minimal.proofs.OneRule.{states-few, does-rule, sound-rule, held-rule, by_borders, rule-borders}
use Rattle.minimal.proofs.Ending.{upto, puts_upto, sound-states, minimal-states, fronts-all, inside-all, fronts-before, inside-before, fronts-within, inside-within}

-- a table after some rules: the canonical one that does f
pub record Good (k d : ℕ) (f : List ℕ → List ℕ) (t : Table) : Type 0 where
  pub doing : Doing k d f t
  pub canonical : Canonical k (shape t)

pub good_identity : (k : ℕ) → Good k 0 (λ w. w) (table k identity)
good_identity k =
    record {
      doing = doing-table k identity sound 0 (λ w. w) (λ q h. omega arith) (λ x hx. same 0 x);
      canonical = canonical_table k identity sound canonical;
    }
  where
    same : (q : ℕ) (x : List ℕ) → puts identity q x ≡ x
    same q [] = refl
    same q (a ∷ x) = ap {B = List ℕ} (λ l. a ∷ l) (same 0 x)

    sound : Sound k identity
    sound =
        record {
          some = omega arith;
          empty = refl;
          next_below = λ q a hq ha. omega arith;
          output_below = λ q a hq ha. (ha, tt);
          final_below = λ q hq. tt;
          balanced = λ q a hq ha. refl;
        }

    canonical : Canonical k identity
    canonical =
        record {
          some = omega arith;
          minimal =
              record {
                next_below = sound.next_below;
                reached = λ q hq. record { word = []; below = tt; leads = omega arith };
                early = λ q hq c all. let z : 0 ≡ suc c = all [] tt in omega arith;
                apart = λ p q hp hq e. omega arith;
              };
          numbered = λ p a q hp ha pos lt. absurd (omega arith);
        }

-- one more rule, of whatever kind: its table does g
pub good_add : (k d e : ℕ) (f g : List ℕ → List ℕ) (t u : Table) → Good k d f t → Doing k e g u → Good k (d + e) (λ w. g (f w)) (add k t u)
good_add k d e f g t u good rule =
    let h : List ℕ → List ℕ = λ w. g (f w) in
    let c = compose k t u in
    let c-doing = doing-compose k d e f g t u good.doing rule in
    let n = normalize k c in
    let n-doing = doing-normalize k (d + e) h c c-doing in
    let n-early = early-normalize k (d + e) h c c-doing in
    let m = merge k n in
    let m-doing = doing-merge k (d + e) h n n-doing n-early in
    record {
      doing = doing-number k (d + e) h m m-doing;
      canonical = canonical_number k (d + e) h m m-doing (early-merge k (d + e) h n n-doing n-early) (apart-merge k (d + e) h n n-doing n-early);
    }

-- f matters only on words of tags below k
good_as : (k d : ℕ) (f g : List ℕ → List ℕ) (t : Table) → Same k f g → Good k d f t → Good k d g t
good_as k d f g t same good =
    record {
      doing =
          record { rows = good.doing.rows; sound = good.doing.sound; held = good.doing.held; does = λ x hx. good.doing.does x hx ∙ same x hx };
      canonical = good.canonical;
    }

pub doing-rule : (l k e : ℕ) (r : Rule) → ValidRule l k r → Doing k (l - 1) (piecewise e (apply r)) (rule_table k e r)
doing-rule l k e r ok =
    doing-table k (ended e (one_rule r)) (sound-ended e (one_rule r) k (sound-rule l k r ok)) (l - 1) (piecewise e (apply r)) (held-rule l k r ok)
    (λ x hx. does-ended e (one_rule r) x ∙ piecewise-below e k (puts (one_rule r) 0) (apply r) (does-rule l k r ok) x hx)

good_add_all : (l k e d : ℕ) (f : List ℕ → List ℕ) (rs : List Rule) (t : Table) → Keeps e f → Good k d (piecewise e f) t → ValidRules l k rs → Spare e rs
    → Good k (d + (l - 1) * length rs) (piecewise e (λ p. apply_all rs (f p))) (add_all k e t rs)
good_add_all l k e d f [] t keeps good ok spare = let n : d ≡ d + (l - 1) * 0 = omega arith in rw (← n) good
good_add_all l k e d f (r ∷ rs) t keeps good ok spare =
    let n : d + (l - 1) + (l - 1) * length rs ≡ d + (l - 1) * suc (length rs) = omega arith in
    let more = good_add k d (l - 1) (piecewise e f) (piecewise e (apply r)) t (rule_table k e r) good (doing-rule l k e r ok.0) in
    let joined = good_as k (d + (l - 1)) (λ w. piecewise e (apply r) (piecewise e f w)) (piecewise e (λ p. apply r (f p))) (add_rule k e t r) (λ w h. piecewise_then e (apply r) f keeps w) more in
    rw (← n)
    (good_add_all l k e (d + (l - 1)) (λ p. apply r (f p)) rs (add_rule k e t r) (keeps_then e (apply r) f (keeps_apply e r spare.0) keeps) joined ok.1 spare.1)

pub good : (l : ℕ) (c : Cascade) → ValidCascade l c → Spare c.end c.rules → Good c.tags ((l - 1) * length c.rules) (behavior c) (table_of c)
good l c ok spare =
    let k = c.tags in
    let e = c.end in
    let n : 0 + (l - 1) * length c.rules ≡ (l - 1) * length c.rules = omega arith in
    let start = good_as k 0 (λ w. w) (piecewise e (λ p. p)) (table k identity) (λ w h. sym (piecewise_same e w)) (good_identity k) in
    rw (← n) (good_add_all l k e 0 (λ p. p) c.rules (table k identity) (record { without = λ p h. h; ends = λ p h. h }) start ok spare)

-- a sound transducer as one that starts in state 0 and puts out nothing at first
abbrev pub machine : (k : ℕ) (S : Shape) → Sound k S → Transducer k
machine k S sound = record { shape = S; start = 0; initial = []; start_below = sound.some; next_below = sound.next_below }

module _ (k d : ℕ) (f : List ℕ → List ℕ) (t : Table) (good : Good k d f t) where
  -- every transducer that does f has at least as many states
  pub good_smallest : (M : Transducer k) → Same k (turns M) f → length t ≤ M.shape.count
  good_smallest M does = fewest k (shape t) good.canonical.minimal M (λ x hx. does x hx ∙ sym (good.doing.does x hx)) good.doing.sound.some

  -- and none has put out more after any word read
  pub good_ahead : (M : Transducer k) → Same k (turns M) f → (w : List ℕ) → Below k w
      → Prefix (M.initial ++ outputs M.shape M.start w) (outputs (shape t) 0 w)
  good_ahead M does = ahead k (shape t) good.canonical.minimal M (λ x hx. does x hx ∙ sym (good.doing.does x hx)) good.doing.sound.some

  -- every transducer that does f has more than n states exactly if the table has
  pub good_more : (n : ℕ) → ((M : Transducer k) → Same k (turns M) f → n < M.shape.count) ↔ (n < length t)
  good_more n = (λ all. all (machine k (shape t) good.doing.sound) good.doing.does, λ h M does. omega (arith, good_smallest M does))

  -- a common front of what a state still puts out is empty
  pub good_early : (q : ℕ) → q < length t → (z : List ℕ) → ((x : List ℕ) → Below k x → Prefix z (puts (shape t) q x)) → z ≡ []
  good_early q h [] all = refl
  good_early q h (c ∷ z) all = absurd (good.canonical.minimal.early q h c λ x hx. ap first (all x hx).split)

  -- a canonical table that does f is this one
  pub good_only : (u : Table) → Rows k u → Canonical k (shape u) → Same k (puts (shape u) 0) f → u ≡ t
  good_only u rows canonical does =
      table-equal k u t rows good.doing.rows (unique k (shape u) (shape t) canonical good.canonical (λ x hx. does x hx ∙ sym (good.doing.does x hx)))

-- two tables are equal exactly if they do the same
pub good_canonical : (k d e : ℕ) (f g : List ℕ → List ℕ) (t u : Table) → Good k d f t → Good k e g u → (t ≡ u) ↔ Same k f g
good_canonical k d e f g t u a b = (
  λ e x hx. sym (a.doing.does x hx) ∙ ap (λ (s : Table). puts (shape s) 0 x) e ∙ b.doing.does x hx,
  λ same. good_only k e g u b t a.doing.rows a.canonical (λ x hx. a.doing.does x hx ∙ same x hx),
)

-- 002, proposition 5, for the table of a rule without sets: as many states as its ended transducer has that are reached
one_rule-count : (l : ℕ) (c : Cascade) (r : Rule) (ok : ValidRule l c.tags r) (none : has_set r ≡ false)
    (free : before c.end (plain (word r.pattern)) ≡ false) → Spares c.end r → (m : ℕ) (some : 0 < m) (few : m ≤ states r.kind (length (word r.pattern))) (inside : Inside c.tags (upto m (ended c.end (by_borders r))))
    → (fronts : (j : ℕ) → j < m → Without c.end (take j (word r.pattern))) → length (table_of (having c (r ∷ []))) ≡ m
one_rule-count l c r ok none free spares m some few inside fronts =
    let k = c.tags in
    let e = c.end in
    let one = having c (r ∷ []) in
    let t = table_of one in
    let t-good = good l one (ok, tt) (spares, tt) in
    let S = upto m (ended e (by_borders r)) in
    let S_sound = sound-states l k e r ok none free m some few inside fronts in
    let does = subst (λ (R : Shape). Same k (puts R 0) (apply r)) (rule-borders r none) (does-rule l k r ok) in
    let S-does : Same k (puts S 0) (behavior one) = λ x hx.
    puts_upto m (ended e (by_borders r)) x 0 ∙ does-ended e (by_borders r) x ∙ piecewise-below e k (puts (by_borders r) 0) (apply r) does x hx in
    let up = good_smallest k ((l - 1) * 1) (behavior one) t t-good (machine k S S_sound) S-does in
    let alike : Same k (puts (shape t) 0) (puts S 0) = λ x hx. t-good.doing.does x hx ∙ sym (S-does x hx) in
    let low = fewest k S (minimal-states l k e r ok none free m some few inside fronts) (machine k (shape t) t-good.doing.sound) alike some in
    omega arith

-- of a leftmost rule one more than the pattern has tags, and as many where it ends with the end tag; of an everywhere rule as many
module _ (l : ℕ) (c : Cascade) (r : Rule) (ok : ValidRule l c.tags r) (none : has_set r ≡ false) (fits : misused c.end r ≡ false) where
  abbrev e : ℕ
  e = c.end

  abbrev n : ℕ
  n = length (word r.pattern)

  some : 0 < n
  some = omega (arith, ok.place_inside, word-length r.pattern)

  free : before e (plain (word r.pattern)) ≡ false
  free = ap (before e) (plain_word r.pattern none) ∙ free_used e r fits

  counted : (m : ℕ) → 0 < m → m ≤ states r.kind n → Inside c.tags (upto m (ended e (by_borders r))) → ((j : ℕ) → j < m → Without e (take j (word r.pattern)))
      → length (table_of (having c (r ∷ []))) ≡ m
  counted = one_rule-count l c r ok none free (spares_used l c.tags e r ok fits)

  pub count-everywhere : r.kind ≡ everywhere → length (table_of (having c (r ∷ []))) ≡ length r.pattern
  count-everywhere kind =
      counted n some (states-few r.kind n).0 (inside-within l c.tags e r ok none free kind) (fronts-within l c.tags e r ok none free kind)
      ∙ word-length r.pattern

  module _ (kind : r.kind ≡ once) where
    -- the last tag
    abbrev last : ℕ
    last = get_or (word r.pattern) (length r.pattern - 1) 0

    last_is : last ≡ get_or (word r.pattern) (n - 1) 0
    last_is = ap (λ (i : ℕ). get_or (word r.pattern) (i - 1) 0) (sym (word-length r.pattern))

    pub count-other : (last ≡ e → ⊥) → length (table_of (having c (r ∷ []))) ≡ length r.pattern + 1
    count-other other =
        let all : states r.kind n ≡ suc n = ap (λ (x : Kind). states x n) kind in
        let o : get_or (word r.pattern) (n - 1) 0 ≡ e → ⊥ = λ f. other (last_is ∙ f) in
        counted (suc n) (omega arith) (omega arith) (inside-all l c.tags e r ok none free kind o) (fronts-all l c.tags e r ok none free kind o)
        ∙ sym (add-one n) ∙ ap (λ (i : ℕ). i + 1) (word-length r.pattern)

    pub count-ending : last ≡ e → length (table_of (having c (r ∷ []))) ≡ length r.pattern
    count-ending same =
        let s : get_or (word r.pattern) (n - 1) 0 ≡ e = sym last_is ∙ same in
        counted n some (states-few r.kind n).0 (inside-before l c.tags e r ok none free kind s) (fronts-before l c.tags e r ok none free kind s)
        ∙ word-length r.pattern

-- rules are added one at a time: the tables on the way are those of the leading parts
add_all-append : (k e : ℕ) (t : Table) (rs ss : List Rule) → add_all k e t (rs ++ ss) ≡ add_all k e (add_all k e t rs) ss
add_all-append k e t [] ss = refl
add_all-append k e t (r ∷ rs) ss = add_all-append k e (add_rule k e t r) rs ss

pub table_of-append : (c : Cascade) (rs : List Rule) (r : Rule) → table_of (having c (rs ++ (r ∷ []))) ≡ add_rule c.tags c.end (table_of (having c rs)) r
table_of-append c rs r = add_all-append c.tags c.end (table c.tags identity) rs (r ∷ [])

pub valid-take : (l k i : ℕ) (rs : List Rule) → ValidRules l k rs → ValidRules l k (take i rs)
valid-take l k zero rs ok = tt
valid-take l k (suc i) [] ok = tt
valid-take l k (suc i) (r ∷ rs) ok = (ok.0, valid-take l k i rs ok.1)

pub spare_take : (e i : ℕ) (rs : List Rule) → Spare e rs → Spare e (take i rs)
spare_take e zero rs s = tt
spare_take e (suc i) [] s = tt
spare_take e (suc i) (r ∷ rs) s = (s.0, spare_take e i rs s.1)

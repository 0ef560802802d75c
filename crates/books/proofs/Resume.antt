-- Answers that resume the reading.
use Prim.Native.Nat.{ℕ, ◌+◌, ◌≤◌, ◌<◌}
use native.Mathlib.Omega.{arith}
use native.Mathlib.Numerals.{add-one}
use mathlib.Core.Path.{◌≡◌, refl, sym, ap, ◌∙◌, subst}
use mathlib.Core.List.{List, [], ◌∷◌, ◌++◌}
use mathlib.Core.Bool.{Bool}
use lib.ListN.{length, get_or, set, take, length-reverse}
use Rattle.limits.specs.Limits.{most_rules, most_tags, longest_pattern}
use Rattle.limits.specs.declared.Limits.{Limits}
use Rattle.answers.specs.Outcome.{Outcome, result, refused, byte}
use Rattle.answers.specs.Answer.{refusal}
use Rattle.answers.specs.declared.Refusal.{Refusal}
use Rattle.answers.specs.declared.Refusal.TheVariants.{AtByte, AtRule, Bare}
use Rattle.cascades.specs.Pattern.{Class, plain}
use Rattle.cascades.specs.Value.{class_of, places}
use Rattle.cascades.specs.Rule.{Rule, Cascade, some_has_set}
use Rattle.books.specs.Arrays.{Arrays, holding, Shaped, sets_at, rule_at, rules_down, rules_of, cascade_of}
use Rattle.books.specs.Read.{read}
use Rattle.books.specs.Answer.{sizes, book_outcome}
use Rattle.books.specs.Resume.{ReadAs, Resumed, Resumes, NoRule, Opens, TagsRead, PlaceRead, Placed, PlacesRead, PatternRead, Continued, Reads, Whole, read_commands, read_tags, tags_outcome, places_outcome}
use Rattle.std.specs.Prelude.{Result, Ok, Err}
use Rattle.books.specs.declared.Count.{Count}
use Rattle.books.specs.declared.Unread.{Unread}
use Rattle.books.specs.declared.Unread.TheVariants.{Refused, Sets}
use Rattle.books.specs.declared.Tags.{Tags}
use Rattle.books.specs.declared.Place.{Place}
use Rattle.books.specs.declared.Places.{Places}
use Rattle.answers.specs.Answer.{number_of}
use Rattle.answers.specs.declared.Reason.{Reason}
use Rattle.answers.specs.declared.Reason.TheVariants.{BadCommand}
use Rattle.books.proofs.Arrays.{down-length, tagged-arrays, placed_arrays, row-shaped, rows-shaped, tagged-shaped, tagged-down, placed_shaped, placed_down, untagged_down}
use Rattle.books.proofs.SoFar.{SoFar, so_far_placed, so_far_cut}
use Rattle.books.proofs.Commands.{command_missing}

module _ {lim : Limits} (s : List ℕ) (from : Outcome Cascade) (next : ℕ) (a : Arrays) (h : Shaped a) where
  pub resumes_refused : (r : Result Count Unread) (n : Reason) (at : ℕ) → r ≡ Err (Refused (AtByte n at)) → from ≡ refused (number_of n) (byte at) → Resumes lim s from next a r
  resumes_refused r n at e f =
      record {
        goes_on = subst (λ (x : Result Count Unread). Resumed lim s next a x from) (sym e) (sym f);
        inside = λ b g. let z : ◌≡◌ {A = ℕ} 0 1 = cc in absurd (omega arith);
        shaped = h;
      }

  pub resumes_book : (b : Count) → b.rules ≤ most_rules → next ≤ length s → from ≡ read_commands lim s b.tags b.rules a next → Resumes lim s from next a (Ok b)
  resumes_book b i j f = record { goes_on = sym f; inside = λ b' e. let g : b ≡ b' = cc in (subst (λ (x : Count). x.rules ≤ most_rules) g i, j); shaped = h }

pub no_rule : (r : Result Count Unread) (n : Reason) (at : ℕ) → r ≡ Err (Refused (AtByte n at)) → NoRule r
no_rule r n at e b g = let z : ◌≡◌ {A = ℕ} 0 1 = cc in absurd (omega arith)

pub opens_refused : (k m : ℕ) (a : Arrays) (r : Result Count Unread) (n : Reason) (at : ℕ) → r ≡ Err (Refused (AtByte n at)) → Opens k m a r
opens_refused k m a r n at e = record { one_more = λ b g. let z : ◌≡◌ {A = ℕ} 0 1 = cc in absurd (omega arith) }

pub opens_book : (k m : ℕ) (a : Arrays) → m < most_rules → (get_or a.lengths m 0 ≡ 0) × (sets_at a m ≡ 0) → Opens k m a (Ok (record { tags = k; rules = m + 1 }))
opens_book k m a few none = record { one_more = λ b g. let e : (record { tags = k; rules = m + 1 }) ≡ b = cc in subst (λ (x : Count). (x.tags ≡ k) × (x.rules ≡ m + 1) × (m < most_rules) × (get_or a.lengths m 0 ≡ 0) × (sets_at a m ≡ 0)) e (refl, refl, few, none.0, none.1) }

-- a set that there is no room for
pub resumes_sets : {lim : Limits} (s : List ℕ) (from : Outcome Cascade) (next k m : ℕ) (a : Arrays) → Shaped a → length a.sets ≡ 0 → Resumes lim s from next a (Err Sets) × Opens k m a (Err Sets)
resumes_sets s from next k m a h none = (
  record { goes_on = none; inside = λ b g. let z : ◌≡◌ {A = ℕ} 0 1 = cc in absurd (omega arith); shaped = h },
  record { one_more = λ b g. let z : ◌≡◌ {A = ℕ} 0 1 = cc in absurd (omega arith) },
)

-- ---- the places of a pattern

-- one place
module _ (s : List ℕ) (at k : ℕ) where
  pub place-refused : (x : Refusal) → ((lim : Limits) (r : Rule) (rs : List Rule) (w : List Class) → length w < lim.pattern → read_tags lim s k r rs w at ≡ refusal x)
      → PlaceRead s at k (Err x)
  place-refused x f = record { goes_on = f; inside = λ p g. let z : ◌≡◌ {A = ℕ} 0 1 = cc in absurd (omega arith) }

  pub place-to : (p : Place) → at < p.at → p.at ≤ length s → ((p.set ≡ 0 → ⊥) → p.tag ≡ 0)
      → ((lim : Limits) (r : Rule) (rs : List Rule) (w : List Class) → length w < lim.pattern → read_tags lim s k r rs w at ≡ read_tags lim s k r rs (w ++ (class_of p.tag p.set ∷ [])) p.at)
      → PlaceRead s at k (Ok p)
  place-to p i j none f =
      record {
        goes_on = f;
        inside = λ q g. let e : p ≡ q = cc in subst (λ (x : Place). (at < x.at) × (x.at ≤ length s) × ((x.set ≡ 0 → ⊥) → x.tag ≡ 0)) e (i, j, none);
      }

module _ (s : List ℕ) (from k most : ℕ) (row : List ℕ) (long : length row ≡ longest_pattern) where
  pub tags-refused : (x : Refusal) → ((lim : Limits) (r : Rule) (rs : List Rule) → lim.pattern ≡ most → read_tags lim s k r rs [] from ≡ refusal x)
      → TagsRead s from k most row (Err x)
  tags-refused x f = record { goes_on = f; inside = λ t g. let z : ◌≡◌ {A = ℕ} 0 1 = cc in absurd (omega arith); long = long }

  pub tags-to : (t : Tags) → from ≤ t.at → t.at ≤ length s → t.n ≤ longest_pattern → (t.at < length s → get_or s t.at 0 ≡ 0x22 → ⊥)
      → ((lim : Limits) (r : Rule) (rs : List Rule) → lim.pattern ≡ most → read_tags lim s k r rs [] from ≡ read_tags lim s k r rs (plain (take t.n row)) t.at)
      → TagsRead s from k most row (Ok t)
  tags-to t i j short other f =
      record {
        goes_on = f;
        inside = λ u g.
            let e : t ≡ u = cc in
            subst (λ (x : Tags). (from ≤ x.at) × (x.at ≤ length s) × (x.n ≤ longest_pattern) × (x.at < length s → get_or s x.at 0 ≡ 0x22 → ⊥)) e (i, j, short, other);
        long = long;
      }

  module _ (sets : List ℕ) (wide : length sets ≡ longest_pattern) where
    pub places-refused : (x : Refusal) → ((lim : Limits) (r : Rule) (rs : List Rule) → lim.pattern ≡ most → read_tags lim s k r rs [] from ≡ refusal x)
        → PlacesRead s from k most row sets (Err x)
    places-refused x f =
        record {
          goes_on = f;
          inside = λ t g. let z : ◌≡◌ {A = ℕ} 0 1 = cc in absurd (omega arith);
          other = λ t g. let z : ◌≡◌ {A = ℕ} 0 1 = cc in absurd (omega arith);
          long = long;
          sets_long = wide;
        }

    pub places-to : (t : Places) → from ≤ t.at → t.at ≤ length s → SoFar row sets t.n t.last → (t.at < length s → (get_or s t.at 0 ≡ 0x22 → ⊥) × (get_or s t.at 0 ≡ 0x23 → ⊥))
        → ((lim : Limits) (r : Rule) (rs : List Rule) → lim.pattern ≡ most → read_tags lim s k r rs [] from ≡ read_tags lim s k r rs (places (take t.n row) (take t.n sets)) t.at)
        → PlacesRead s from k most row sets (Ok t)
    places-to t i j p other f =
        record {
          goes_on = λ lim r rs e. f lim r rs e ∙ ap (λ u. read_tags lim s k r rs u t.at) (so_far_cut row sets t.n t.last (omega (arith, p.few)) p);
          inside = λ u g.
              let e : t ≡ u = cc in
              subst (λ (x : Places). (from ≤ x.at) × (x.at ≤ length s) × Placed row sets x.n x.last) e (i, j, so_far_placed row sets t.n t.last (omega (arith, p.few)) p);
          other = λ u g. let e : t ≡ u = cc in subst (λ (x : Places). x.at < length s → (get_or s x.at 0 ≡ 0x22 → ⊥) × (get_or s x.at 0 ≡ 0x23 → ⊥)) e other;
          long = long;
          sets_long = wide;
        }

-- the pattern of the rule m has been read, which had none
module _ (lim : Limits) (s : List ℕ) (k m from : ℕ) (a : Arrays) (h : Shaped a) (few : m < most_rules) (none : get_or a.lengths m 0 ≡ 0) (no_sets : sets_at a m ≡ 0) where
  abbrev whole : Outcome Cascade
  whole = read_commands lim s k (m + 1) a from

  begins : read_tags lim s k (rule_at a m) (rules_down a m) [] from ≡ whole
  begins = cc (untagged_down a m none, add-one m)

  -- its tags
  module _ (row : List ℕ) (t : Result Tags Refusal) (got : TagsRead s from k lim.pattern row t) where
    abbrev row_written : Arrays
    row_written = holding (set a.rows m row) a.lengths a.heads a.sets

    tags_follow : tags_outcome lim s k (rule_at a m) (rules_down a m) row t ≡ whole
    tags_follow = sym (got.goes_on lim (rule_at a m) (rules_down a m) refl) ∙ begins

    module _ (all : Outcome Cascade) (is : whole ≡ all) where
      pub tags-end : (x : Refusal) (r : Result Count Unread) → t ≡ Err x → r ≡ Err (Refused x) → Reads all row_written r
      tags-end x r e f =
          record { outcome = subst (λ (y : Result Count Unread). ReadAs y row_written all) (sym f) (cc (tags_follow, is)); shaped = row-shaped a h m few row got.long no_sets }

      pub tags_done : (u : Tags) (m' : ℕ) → t ≡ Ok u → m' ≡ m + 1 → (read_commands lim s k m' (tagged-arrays a m row u.n) u.at ≡ all) × Shaped (tagged-arrays a m row u.n)
      tags_done u m' e one =
          (cc (tagged-down a h m few row got.long no_sets u.n, add-one m, one, tags_follow, is), tagged-shaped a h m few row got.long no_sets u.n (got.inside u e).2)

  -- its tags and sets
  module _ (row sets : List ℕ) (t : Result Places Refusal) (got : PlacesRead s from k lim.pattern row sets t) (room : m < length a.sets) where
    places_follow : places_outcome lim s k (rule_at a m) (rules_down a m) row sets t ≡ whole
    places_follow = sym (got.goes_on lim (rule_at a m) (rules_down a m) refl) ∙ begins

    pub places-end : (x : Refusal) → t ≡ Err x → PatternRead lim s from k (m + 1) whole (holding (set a.rows m row) a.lengths a.heads (set a.sets m sets)) (Err x)
    places-end x e =
        record {
          goes_on = cc places_follow;
          inside = λ at g. let z : ◌≡◌ {A = ℕ} 0 1 = cc in absurd (omega arith);
          other = λ at g. let z : ◌≡◌ {A = ℕ} 0 1 = cc in absurd (omega arith);
          shaped = rows-shaped a h m few row got.long no_sets sets (λ l. got.sets_long);
        }

    pub places_done : (u : Places) → t ≡ Ok u → PatternRead lim s from k (m + 1) whole (placed_arrays a m row u.n sets u.last) (Ok u.at)
    places_done u e =
        let i = got.inside u e in
        record {
          goes_on = cc (placed_down a h m few row got.long no_sets sets got.sets_long room u.n u.last, add-one m, places_follow);
          inside = λ at' g. let f : u.at ≡ at' = cc in (omega (arith, i.0), omega (arith, i.1));
          other = λ at' g. let f : u.at ≡ at' = cc in subst (λ (x : ℕ). x < length s → (get_or s x 0 ≡ 0x22 → ⊥) × (get_or s x 0 ≡ 0x23 → ⊥)) f (got.other u e);
          shaped = placed_shaped a h m few row got.long no_sets sets got.sets_long room u.n u.last i.2;
        }

-- how a reading ends that a pattern ends
module _ (lim : Limits) (s : List ℕ) (from k m : ℕ) (part whole : Outcome Cascade) (a : Arrays) (t : Result ℕ Refusal) (got : PatternRead lim s from k m part a t) (w : part ≡ whole) where
  pub pattern-refused : (x : Refusal) (r : Result Count Unread) → t ≡ Err x → r ≡ Err (Refused x) → Reads whole a r
  pattern-refused x r e f =
      record {
        outcome = subst (λ (y : Result Count Unread). ReadAs y a whole) (sym f) (subst (λ (x : Result ℕ Refusal). Continued lim s k m a x part) e got.goes_on ∙ w);
        shaped = got.shaped;
      }

  pub pattern-goes_on : (at m' : ℕ) → t ≡ Ok at → m' ≡ m → read_commands lim s k m' a at ≡ whole
  pattern-goes_on at m' e f = ap (λ (n : ℕ). read_commands lim s k n a at) f ∙ subst (λ (x : Result ℕ Refusal). Continued lim s k m a x part) e got.goes_on ∙ w

-- an answer that is no book is the outcome of the reading that it resumes
pub other-ends : {lim : Limits} (s : List ℕ) (from all : Outcome Cascade) (next : ℕ) (a : Arrays) (x : Unread) (r : Result Count Unread) → r ≡ Err x → Resumes lim s from next a r
    → from ≡ all → Reads all a (Err x)
other-ends {lim} s from all next a (Refused x) r e f w =
    record { outcome = subst (λ (y : Result Count Unread). Resumed lim s next a y from) e f.goes_on ∙ w; shaped = f.shaped }
other-ends {lim} s from all next a Sets r e f w = record { outcome = subst (λ (y : Result Count Unread). Resumed lim s next a y from) e f.goes_on; shaped = f.shaped }

-- the commands end where one is to come
pub reading_missing : (lim : Limits) (s : List ℕ) (k m : ℕ) (a : Arrays) (at : ℕ) → at ≡ length s → (r : Result Count Unread) → r ≡ Err (Refused (AtByte BadCommand at)) → Shaped a
    → (whole : Outcome Cascade) → read_commands lim s k m a at ≡ whole → Reads whole a r
reading_missing lim s k m a at e r f h whole w =
    record { outcome = subst (λ (x : Result Count Unread). ReadAs x a whole) (sym f) (sym (command_missing lim s k m a at e) ∙ w); shaped = h }

-- the reading of all the bytes has ended
pub ends-whole : {lim : Limits} (s : List ℕ) (from : Outcome Cascade) (a : Arrays) (r : Result Count Unread) → from ≡ read lim s → Reads from a r → Whole lim s a r
ends-whole s from a r e h = record { outcome = subst (ReadAs r a) e h.outcome; shaped = h.shaped }

-- 20 and K have been read: the commands come next
pub book_opened : {lim : Limits} (s : List ℕ) (a : Arrays) (r : Result Count Unread) (b : Count) → Resumes lim s (read lim s) 2 a r → NoRule r → r ≡ Ok b
    → (2 ≤ length s) × (b.tags ≤ most_tags) × (read_commands lim s b.tags 0 a 2 ≡ read lim s)
book_opened {lim} s a r b f none e =
    let n = none b e in
    ((f.inside b e).1, n.0, ap (λ (x : ℕ). read_commands lim s b.tags x a 2) (sym n.1) ∙ subst (λ (y : Result Count Unread). Resumed lim s 2 a y (read lim s)) e f.goes_on)

-- a rule has been opened: its tags come next
pub rule-goes_on : {lim : Limits} (s : List ℕ) (from whole : Outcome Cascade) (k m next next' : ℕ) (a : Arrays) (r : Result Count Unread) (b : Count) → Resumes lim s from next a r
    → Opens k m a r → r ≡ Ok b → from ≡ whole → next ≡ next'
    → (b.rules ≡ m + 1) × (m < most_rules) × (next' ≤ length s) × Shaped a × (get_or a.lengths m 0 ≡ 0) × (sets_at a m ≡ 0) × (read_commands lim s k (m + 1) a next' ≡ whole)
rule-goes_on {lim} s from whole k m next next' a r b f o e w n =
    let one = o.one_more b e in
    let on = subst (λ (y : Result Count Unread). Resumed lim s next a y from) e f.goes_on in
    (one.1, one.2, omega (arith, (f.inside b e).1), f.shaped, one.3, one.4, cc (on, one.0, one.1))

-- K, the number of rules and whether one has a set, of what has been read
pub sizes_book : (o : Outcome Cascade) (a : Arrays) (k m : ℕ) (b : Bool) → o ≡ result (cascade_of k a m) → b ≡ some_has_set (rules_of a m)
    → book_outcome (Ok (record { tags = k; rules = m; sets = b })) ≡ sizes o
sizes_book o a k m b e f = cc (length-reverse (rules_down a m), down-length a m)

pub sizes-refused : (o : Outcome Cascade) (x : Refusal) → o ≡ refusal x → book_outcome (Err x) ≡ sizes o
sizes-refused o (AtByte n at) e = cc
sizes-refused o (AtRule n i) e = cc
sizes-refused o (Bare n) e = cc

-- What any calls from an opening on keep: what was put out, with what the state still puts out, is the run of the tags taken.
use Prim.Native.Nat.{ℕ, ◌+◌, ◌<◌, ◌≤◌}
use native.Mathlib.Omega.{arith}
use mathlib.Core.Path.{◌≡◌, refl, sym, ap, ◌∙◌, subst}
use mathlib.Core.Bool.{Bool, true, false}
use mathlib.Core.List.{List, [], ◌∷◌, ◌++◌, append-nil, append_assoc}
use lib.Dec.{leb}
use lib.ListN.{length, length-append}
use Rattle.limits.specs.Limits.{longest_sentence}
use Rattle.limits.specs.declared.Limits.{Limits}
use Rattle.words.specs.Word.{Below}
use Rattle.words.proofs.Word.{below-append}
use Rattle.answers.specs.Outcome.{Outcome, result, refused, Place, and_then, provided}
use Rattle.answers.specs.Slice.{fitting}
use Rattle.answers.proofs.Outcome.{passed, went}
use Rattle.transducers.specs.Transducer.{Shape, puts}
use Rattle.transducers.specs.Table.{Step, row, step, shape}
use Rattle.tables.specs.Valid.{ValidTable}
use Rattle.tables.specs.Decode.{Decoded, decode_within}
use Rattle.typing.specs.Typing.{standing, admits, stepped, held, moved, shut}
use Rattle.sessions.specs.Session.{Call, gives, looks, closes, call, takes, brings, Session, proceed, proceeds}
use Rattle.typing.specs.declared.Sentence.{Sentence}
use Rattle.typing.proofs.Stands.{stands, Taken, taken}

-- ---- calls that change nothing

-- sessions of equal parts are equal
parts : (s s' : Sentence) (t t' o o' : List ℕ) → s ≡ s' → t ≡ t' → o ≡ o'
    → ◌≡◌ {A = Session} (record { sentence = s; taken = t; out = o }) (record { sentence = s'; taken = t'; out = o' })
parts s s' t t' o o' e f g = rw (e, f, g) refl

same-session : (lim : Limits) (table : List ℕ) (x : Session) (c : Call) (o : Outcome (List ℕ))
    → (call lim table x.sentence c).put ≡ o → (call lim table x.sentence c).sentence ≡ x.sentence → takes c o ≡ [] → brings c o ≡ [] → proceed lim table x c ≡ x
same-session lim table x c o p s t b =
    let t' : x.taken ++ takes c (call lim table x.sentence c).put ≡ x.taken = rw (p, t) (append-nil x.taken) in
    let b' : x.out ++ brings c (call lim table x.sentence c).put ≡ x.out = rw (p, b) (append-nil x.out) in
    parts _ _ _ _ _ _ s t' b'

-- a refused call hands back the sentence unchanged
pub refused_keeps : (lim : Limits) (table : List ℕ) (s : Sentence) (c : Call) (n : ℕ) (p : Place) → (call lim table s c).put ≡ refused n p → (call lim table s c).sentence ≡ s
refused_keeps lim table s (gives a room) n p e = by (stepped lim table s a room) e
  where
    by : (o : Outcome Step) → (moved s o).put ≡ refused n p → (moved s o).sentence ≡ s
    by (result v) e = let z : ◌≡◌ {A = ℕ} 0 1 = cc in absurd (omega arith)
    by (refused m q) e = refl
refused_keeps lim table s (looks room) n p e = refl
refused_keeps lim table s (closes room) n p e = by (held lim table s room) e
  where
    by : (o : Outcome (List ℕ)) → (shut s o).put ≡ refused n p → (shut s o).sentence ≡ s
    by (result w) e = let z : ◌≡◌ {A = ℕ} 0 1 = cc in absurd (omega arith)
    by (refused m q) e = refl

refused-takes : (c : Call) (n : ℕ) (p : Place) → (takes c (refused n p) ≡ []) × (brings c (refused n p) ≡ [])
refused-takes (gives a room) n p = (refl, refl)
refused-takes (looks room) n p = (refl, refl)
refused-takes (closes room) n p = (refl, refl)

module _ (lim : Limits) (table : List ℕ) (x : Session) where
  pub refused-nothing : (c : Call) (n : ℕ) (p : Place) → (call lim table x.sentence c).put ≡ refused n p → proceed lim table x c ≡ x
  refused-nothing c n p e =
      same-session lim table x c (refused n p) e (refused_keeps lim table x.sentence c n p e) (refused-takes c n p).0 (refused-takes c n p).1

  pub look-nothing : (room : ℕ) → proceed lim table x (looks room) ≡ x
  look-nothing room = same-session lim table x (looks room) (held lim table x.sentence room) refl refl refl (by (held lim table x.sentence room))
    where
      by : (o : Outcome (List ℕ)) → brings (looks room) o ≡ []
      by (result w) = refl
      by (refused n p) = refl

-- ---- results

module _ (lim : Limits) (table : List ℕ) (d : Decoded) (decodes : decode_within lim table ≡ result d) (s : Sentence) where
  pub stepped-is : (a room : ℕ) (v : Step) → stepped lim table s a room ≡ result v
      → Taken s (length d.table) d.tags a × (v ≡ step d.table s.state a)
  stepped-is a room v e =
      let u = step d.table s.state a in
      let f : and_then (admits s d.tags (length d.table) a) (λ x. provided 11 (leb (length u.output) room) (result u)) ≡ result v =
      rw decodes at e in
      let w = went (admits s d.tags (length d.table) a) (λ x. provided 11 (leb (length u.output) room) (result u)) v f in
      let g = passed 11 (leb (length u.output) room) (result u) v w.then in
      (taken s (length d.table) d.tags a w.read, cc g.1)

  pub held-is : (room : ℕ) (w : List ℕ) → held lim table s room ≡ result w
      → (s.closed ≡ false) × (s.state < length d.table) × (w ≡ (row d.table s.state).final)
  held-is room w e =
      let u = (row d.table s.state).final in
      let f : and_then (standing s (length d.table)) (λ x. fitting room u) ≡ result w = rw decodes at e in
      let g = went (standing s (length d.table)) (λ x. fitting room u) w f in
      let h = passed 11 (leb (length u) room) (result u) w g.then in
      let o = stands s (length d.table) g.read in
      (o.0, o.1, cc h.1)

-- ---- what is kept

pub record Kept (d : Decoded) (x : Session) : Type 0 where
  pub inside : x.sentence.state < length d.table
  pub counts : x.sentence.given ≡ length x.taken
  pub short : length x.taken ≤ longest_sentence
  pub below : Below d.tags x.taken
  pub going :
      x.sentence.closed ≡ false
      → (rest : List ℕ)
      → x.out ++ puts (shape d.table) x.sentence.state rest ≡ puts (shape d.table) 0 (x.taken ++ rest)
  pub ended : x.sentence.closed ≡ true → x.out ≡ puts (shape d.table) 0 x.taken

module _ (lim : Limits) (table : List ℕ) (d : Decoded) (decodes : decode_within lim table ≡ result d) (valid : ValidTable lim d.tags d.table) where
  abbrev S : Shape
  S = shape d.table

  both : (b : Bool) → b ≡ false → b ≡ true → ⊥
  both b e f = let z : ◌≡◌ {A = ℕ} 0 1 = cc in omega arith

  pub kept-start : Kept d (record { sentence = record { state = 0; given = 0; closed = false }; taken = []; out = [] })
  kept-start =
      record {
        inside = valid.states_least;
        counts = refl;
        short = omega arith;
        below = tt;
        going = λ e rest. refl;
        ended = λ e. absurd (both true (sym e) refl);
      }

  -- the held tags end the run
  pub held-ends : (x : Session) → Kept d x → (room : ℕ) (w : List ℕ) → held lim table x.sentence room ≡ result w → x.out ++ w ≡ puts S 0 x.taken
  held-ends x kept room w e =
      let h = held-is lim table d decodes x.sentence room w e in
      ap (λ (l : List ℕ). x.out ++ l) h.2 ∙ kept.going h.0 [] ∙ ap (puts S 0) (append-nil x.taken)

  module _ (x : Session) (kept : Kept d x) where
    abbrev q : ℕ
    q = x.sentence.state

    after-step : (a room : ℕ) (v : Step) → stepped lim table x.sentence a room ≡ result v
        → Kept d
        (record { sentence = (moved x.sentence (result v)).sentence; taken = x.taken ++ (a ∷ []); out = x.out ++ v.output })
    after-step a room v e =
        let h = stepped-is lim table d decodes x.sentence a room v e in
        let t = h.0 in
        let next : v.next ≡ S.next q a = ap (λ (u : Step). u.next) h.1 in
        let word : v.output ≡ S.output q a = ap (λ (u : Step). u.output) h.1 in
        let long : length (x.taken ++ (a ∷ [])) ≡ length x.taken + 1 = length-append x.taken (a ∷ []) in
        record {
          inside = omega (arith, next, valid.next_below q a t.inside t.below);
          counts = omega (arith, long, kept.counts);
          short = omega (arith, long, kept.counts, t.short);
          below = below-append d.tags x.taken (a ∷ []) kept.below (t.below, tt);
          going = λ f rest.
              append_assoc x.out v.output (puts S v.next rest)
              ∙ ap (λ (l : List ℕ). x.out ++ (l ++ puts S v.next rest)) word
              ∙ ap (λ (n : ℕ). x.out ++ (S.output q a ++ puts S n rest)) next
              ∙ kept.going f (a ∷ rest)
              ∙ ap (puts S 0) (sym (append_assoc x.taken (a ∷ []) rest));
          ended = λ f. absurd (both x.sentence.closed t.still_open f);
        }

    after-close : (room : ℕ) (w : List ℕ) → held lim table x.sentence room ≡ result w
        → Kept d (record { sentence = (shut x.sentence (result w)).sentence; taken = x.taken ++ []; out = x.out ++ w })
    after-close room w e =
        let all : x.taken ++ [] ≡ x.taken = append-nil x.taken in
        record {
          inside = kept.inside;
          counts = kept.counts ∙ ap length (sym all);
          short = omega (arith, kept.short, ap length all);
          below = subst (Below d.tags) (sym all) kept.below;
          going = λ f. absurd (both true f refl);
          ended = λ f. held-ends x kept room w e ∙ ap (puts S 0) (sym all);
        }

    pub kept-call : (c : Call) → Kept d (proceed lim table x c)
    kept-call (gives a room) = by (stepped lim table x.sentence a room) refl
      where
        by : (o : Outcome Step) → stepped lim table x.sentence a room ≡ o
            → Kept d
            (record {
              sentence = (moved x.sentence o).sentence;
              taken = x.taken ++ takes (gives a room) (moved x.sentence o).put;
              out = x.out ++ brings (gives a room) (moved x.sentence o).put;
            })
        by (result v) e = after-step a room v e
        by (refused n p) e = subst (Kept d) (parts _ _ _ _ _ _ refl (sym (append-nil x.taken)) (sym (append-nil x.out))) kept
    kept-call (looks room) = subst (Kept d) (sym (look-nothing lim table x room)) kept
    kept-call (closes room) = by (held lim table x.sentence room) refl
      where
        by : (o : Outcome (List ℕ)) → held lim table x.sentence room ≡ o
            → Kept d
            (record {
              sentence = (shut x.sentence o).sentence;
              taken = x.taken ++ takes (closes room) (shut x.sentence o).put;
              out = x.out ++ brings (closes room) (shut x.sentence o).put;
            })
        by (result w) e = after-close room w e
        by (refused n p) e = subst (Kept d) (parts _ _ _ _ _ _ refl (sym (append-nil x.taken)) (sym (append-nil x.out))) kept

  pub kept_calls : (x : Session) → Kept d x → (cs : List Call) → Kept d (proceeds lim table x cs)
  kept_calls x kept [] = kept
  kept_calls x kept (c ∷ cs) = kept_calls (proceed lim table x c) (kept-call x kept c) cs

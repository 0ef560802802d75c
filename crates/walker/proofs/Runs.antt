-- The run of a loaded table, from what the walk and the sentence's tests answer.
use Prim.Native.Nat.{ℕ, ◌≤◌}
use native.Mathlib.Omega.{arith}
use mathlib.Core.Path.{◌≡◌, refl, sym, ap, ◌∙◌}
use mathlib.Core.Bool.{Bool, true, false, ◌&&◌}
use mathlib.Core.List.{List, []}
use borrow.Author.Tests.{eqb-true, lt-ltb, le-leb}
use lib.Dec.{eqb, leb, ltb}
use lib.ListN.{length, get_or}
use Rattle.limits.specs.Limits.{fewest_tags, longest_sentence, InRange}
use Rattle.limits.specs.declared.Limits.{Limits}
use Rattle.limits.proofs.Range.{within-is}
use Rattle.answers.specs.Outcome.{Outcome, result, refused, nothing, and_then, provided}
use Rattle.answers.specs.Answer.{refusal, outcome_of}
use Rattle.answers.specs.declared.Refusal.{Refusal}
use Rattle.answers.proofs.Outcome.{refusal_never}
use Rattle.std.specs.Prelude.{Result, Ok, Err}
use Rattle.sentences.specs.Run.{highest, admitted, run, Ran, Accepted}
use Rattle.sentences.specs.Admission.{admission}
use Rattle.sentences.proofs.Run.{ran-refused, RunEnds, too_long, high-tag, no_room, made_of, run_ends, below-highest}
use Rattle.tables.proofs.Outcomes.{Read, gave, refuses}
use Rattle.loaded.specs.Run.{way, sound, loaded_run}
use Rattle.loaded.proofs.Refusal.{way-read}
use Rattle.ways.specs.Walk.{Walked}
use Rattle.walker.specs.Run.{way_run}

-- a run that is refused with 12
pub ran_12 : (o : Outcome (List ℕ)) (s out : List ℕ) → o ≡ refused 12 nothing → (r : Result ℕ Refusal) → outcome_of r ≡ refused 12 nothing → Ran o s out out r
ran_12 o s out e r f = record { answered = cc (e, f); wrote = cc (e) }

-- ---- after the walk

module _ (ns : List ℕ) (k : ℕ) (s out : List ℕ) where
  -- the way has no such end
  pub way_lost : (b : List ℕ) (w : Bool) → Walked w ns k s b → w ≡ false → way_run ns k s ≡ refused 12 nothing
  way_lost b w walked e = by (way-read ns k 1 s)
    where
      len : (made : List ℕ) → way ns k 1 s ≡ result made → (t : Bool) → eqb (length made) (length s) ≡ t
          → provided 12 t (provided 12 (ltb (highest made) k) (result made)) ≡ refused 12 nothing
      len made f true d = absurd (walked.not e made f (eqb-true (length made) (length s) d))
      len made f false d = refl

      by : Read (way ns k 1 s) → way_run ns k s ≡ refused 12 nothing
      by (gave made f) = ap (λ (o : Outcome (List ℕ)). and_then o (sound k s)) f ∙ len made f (eqb (length made) (length s)) refl
      by (refuses f) = ap (λ (o : Outcome (List ℕ)). and_then o (sound k s)) f

-- ---- before it

module _ (lim : Limits) (ranged : InRange lim) (ns s out : List ℕ) where
  abbrev head : ℕ
  head = get_or ns 0 0

  module _ (k : ℕ) (is : k ≡ head) (some : fewest_tags ≤ k) (most : k ≤ lim.tags) where
    -- the sentence's tests, then whatever o is
    tests : Outcome (List ℕ) → Outcome (List ℕ)
    tests o = and_then (admitted k s) (λ x. provided 11 (leb (length s) (length out)) o)

    loaded_tests : loaded_run lim ns s (length out) ≡ tests (way_run ns k s)
    unfolding tests
    loaded_tests =
        within-is lim _ ranged
        ∙ ap (λ (j : ℕ). provided 12 (leb fewest_tags j && leb j lim.tags) (and_then (admitted j s) (λ x. provided 11 (leb (length s) (length out)) (way_run ns j s)))) (sym is)
        ∙ rw (le-leb fewest_tags k some, le-leb k lim.tags most) refl

    abbrev tested : Bool → Bool → Bool → Outcome (List ℕ) → Outcome (List ℕ)
    tested a b c o = and_then {A = Unit {0}} (provided 13 a (provided 4 b (result tt))) (λ x. provided 11 c o)

    refused_tests : (a b c : Bool) (x : Refusal) → refusal x ≡ tested a b c (result []) → tested a b c (way_run ns k s) ≡ refusal x
    refused_tests true true true x e = absurd (refusal_never x [] e)
    refused_tests true true false x e = sym e
    refused_tests true false c x e = sym e
    refused_tests false b c x e = sym e

    -- the sentence is refused
    pub loaded-refused : (x : Refusal) → ((made : List ℕ) → admission (Err x) made ≡ run k s (length out) made) → Ran (loaded_run lim ns s (length out)) s out out (Err x)
    unfolding tests
    loaded-refused x told =
        ran-refused (loaded_run lim ns s (length out)) s out x
        (sym (loaded_tests ∙ refused_tests (leb (length s) longest_sentence) (ltb (highest s) k) (leb (length s) (length out)) x (told [])))

    -- it is not
    pub loaded-accepted : ((made : List ℕ) → admission (Ok tt) made ≡ run k s (length out) made) → Accepted k s (length out)
    loaded-accepted told = by (run_ends k s (length out) []) (sym (told []))
      where
        by : {o : Outcome (List ℕ)} → RunEnds k s (length out) [] o → o ≡ result [] → Accepted k s (length out)
        by too_long d = let z : ◌≡◌ {A = ℕ} 0 1 = cc in absurd (omega arith)
        by high-tag d = let z : ◌≡◌ {A = ℕ} 0 1 = cc in absurd (omega arith)
        by no_room d = let z : ◌≡◌ {A = ℕ} 0 1 = cc in absurd (omega arith)
        by (made_of a) d = a

    pub loaded-way : ((made : List ℕ) → admission (Ok tt) made ≡ run k s (length out) made) → (out' : List ℕ) (a : Result ℕ Refusal) → Ran (way_run ns k s) s out out' a → Ran (loaded_run lim ns s (length out)) s out out' a
    unfolding tests
    loaded-way told out' a ran =
        let ok = loaded-accepted told in
        let e : loaded_run lim ns s (length out) ≡ way_run ns k s =
        loaded_tests
        ∙ rw (
          le-leb (length s) longest_sentence ok.short,
          lt-ltb (highest s) k (below-highest k s (omega (arith, some)) ok.below),
          le-leb (length s) (length out) ok.fits,
        ) refl in
        rw e ran

-- the buffer is long enough

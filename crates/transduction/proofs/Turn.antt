-- The run of a table: words put out one after the other.
use Prim.Native.Nat.{ℕ, ◌+◌, ◌*◌, ◌<◌, ◌≤◌, ◌-◌}
use native.Mathlib.Nat.{zero-mul}
use native.Mathlib.Omega.{arith}
use mathlib.Core.Path.{◌≡◌, refl, sym, ap, ◌∙◌}
use mathlib.Core.List.{List, [], ◌∷◌, ◌++◌, append_assoc}
use lib.ListN.{length, take, drop, get_or}
use lib.Seq.{drop-length, take-length, paste}
use Rattle.words.proofs.Word.{drop-step, below_at}
use Rattle.limits.specs.Limits.{most_held}
use Rattle.limits.specs.declared.Limits.{Limits}
use Rattle.answers.specs.Outcome.{Outcome}
use Rattle.transducers.specs.Transducer.{puts}
use Rattle.transducers.specs.Table.{Step, Table, row, step, shape}
use Rattle.tables.specs.Valid.{ValidTable}
use Rattle.tables.specs.Decode.{Decoded, decode_within}
use Rattle.tables.proofs.Outcomes.{read-few}
use Rattle.steps.specs.Entry.{count_of, place_of, base_of, TagsAt, EntryOf, FinalEntry}
use Rattle.steps.proofs.Places.{row_inside}
use Rattle.transduction.specs.Parts.{WordPut, Runnable, made}

-- the transducer is in a state, and what it put out stands in front
pub record Running (k : ℕ) (t : Table) (sentence out : List ℕ) (i at base : ℕ) : Type 0 where
  pub state : ℕ
  pub below : state < length t
  pub based : base ≡ state * (k + 1) + 1
  pub placed : at + length (row t state).final ≡ i
  pub so_far : take at out ++ puts (shape t) state (drop i sentence) ≡ puts (shape t) 0 sentence

pub running-start : {lim : Limits} (k : ℕ) (t : Table) (sentence out : List ℕ) → ValidTable lim k t → Running k t sentence out 0 0 1
running-start k t sentence out v =
    record {
      state = 0;
      below = v.states_least;
      based = omega (arith, zero-mul (k + 1));
      placed = omega (arith, ap length v.start);
      so_far = refl;
    }

-- what the run's loop keeps
pub record Going (lim : Limits) (bs ix sentence out₀ out : List ℕ) (i at base : ℕ) : Type 0 where
  pub ready : Runnable lim bs ix sentence out₀
  pub inside : i ≤ length sentence
  pub long : length out ≡ length out₀
  pub kept : drop (length sentence) out ≡ drop (length sentence) out₀
  pub running : Running ready.tags ready.loaded.table sentence out i at base

pub going_start : {lim : Limits} (bs ix sentence out : List ℕ) → Runnable lim bs ix sentence out → Going lim bs ix sentence out out 0 0 1
going_start bs ix sentence out p =
    record {
      ready = p;
      inside = omega arith;
      long = refl;
      kept = refl;
      running = running-start p.tags p.loaded.table sentence out p.loaded.valid;
    }

-- a turn of the run: the sentence's tag at i is read in the state
module _ {lim : Limits} {bs ix sentence out₀ out : List ℕ} {i at base : ℕ} (g : Going lim bs ix sentence out₀ out i at base) where
  abbrev p : Runnable lim bs ix sentence out₀
  p = g.ready

  abbrev r : Running g.ready.tags g.ready.loaded.table sentence out i at base
  r = g.running

  abbrev k : ℕ
  k = p.tags

  abbrev t : Table
  t = p.loaded.table

  abbrev q : ℕ
  q = r.state

  few : most_held lim ≤ 112
  few = read-few lim bs _ p.loaded.decodes

  inside : q * (k + 1) + k < length ix
  inside = row_inside q (length t) k (length ix) r.below p.loaded.room

  module _ (h : i < length sentence) where
    abbrev a : ℕ
    a = get_or sentence i 0

    a_below : a < k
    a_below = below_at k sentence i h p.below

    pub turn_inside : base + a < length ix
    turn_inside = omega (arith, inside, a_below, r.based)

    abbrev v : Step
    v = step t q a

    balance : length v.output + length (row t v.next).final ≡ length (row t q).final + 1
    balance = p.loaded.valid.balanced q a r.below a_below

    module _ (e : ℕ) (entry : e ≡ get_or ix (base + a) 0) where
      pub turn_cell : EntryOf bs (v.next * (k + 1) + 1) v.output e
      turn_cell =
          let at-cell : base + a ≡ q * (k + 1) + 1 + a = omega (arith, r.based) in
          rw (entry, at-cell) ((p.loaded.cells q r.below).steps a a_below)

      pub turn_short : length v.output < 0xff
      turn_short = omega (arith, balance, p.loaded.valid.held q r.below, few)

      pub turn_place : (count_of e ≡ 1 → ⊥) → place_of e + 2 * count_of e ≤ length bs + 1
      turn_place n = omega (arith, (turn_cell.stands (λ o. n (omega (arith, turn_cell.count_is)))).inside, turn_cell.count_is)

      pub turn_room : at < length out
      turn_room = omega (arith, r.placed, p.room, g.long)

      pub turn_count : at + count_of e ≤ length out
      turn_count = omega (arith, r.placed, p.room, g.long, balance, turn_cell.count_is)

      module _ (out' : List ℕ) (at' : ℕ) (put : WordPut out out' at v.output at') where
        running-next : (base' : ℕ) → base' ≡ base_of e → Running k t sentence out' (i + 1) at' base'
        running-next base' b =
            let next = v.next in
            let rest = drop (i + 1) sentence in
            let tag : drop i sentence ≡ a ∷ rest = drop-step sentence i 0 h in
            record {
              state = next;
              below = p.loaded.valid.next_below q a r.below a_below;
              based = omega (arith, b, turn_cell.base_is);
              placed = omega (arith, put.end, r.placed, balance);
              so_far =
                  ap (λ (l : List ℕ). l ++ puts (shape t) next rest) put.front
                  ∙ append_assoc (take at out) v.output (puts (shape t) next rest)
                  ∙ ap (λ (l : List ℕ). take at out ++ puts (shape t) q l) (sym tag)
                  ∙ r.so_far;
            }

        pub turn_next : (base' : ℕ) → base' ≡ base_of e → length out' ≡ length out → Going lim bs ix sentence out₀ out' (i + 1) at' base'
        turn_next base' b same =
            record {
              ready = p;
              inside = omega arith;
              long = same ∙ g.long;
              kept = put.kept (length sentence) (omega (arith, r.placed)) (omega (arith, put.end, r.placed, balance)) ∙ g.kept;
              running = running-next base' b;
            }

  -- the sentence is read: the final word
  module _ (done : i ≡ length sentence) where
    pub end-inside : base - 1 < length ix
    end-inside = omega (arith, inside, r.based)

    pub end_base : 1 ≤ base
    end_base = omega (arith, r.based)

    module _ (e : ℕ) (entry : e ≡ get_or ix (base - 1) 0) where
      abbrev w : List ℕ
      w = (row t q).final

      end-cell : FinalEntry bs w e
      end-cell =
          let at-cell : base - 1 ≡ q * (k + 1) = omega (arith, r.based) in
          rw (entry, at-cell) (p.loaded.cells q r.below).final

      end-length : length w ≡ count_of e
      end-length = omega (arith, end-cell.count_is, p.loaded.valid.held q r.below, few)

      pub end-place : place_of e + 2 * count_of e ≤ length bs + 1
      end-place = omega (arith, end-cell.stands.inside, end-length)

      pub end-count : at + count_of e ≤ length out
      end-count = omega (arith, r.placed, p.room, g.long, end-length)

      pub end-made :
          (place count : ℕ) (out' : List ℕ)
          → place ≡ place_of e
          → count ≡ count_of e
          → ((u : List ℕ) → length u ≡ count → TagsAt bs place u → out' ≡ paste out at u count)
          → out' ≡ made (decode_within lim bs) sentence ++ drop (length sentence) out₀
      end-made place count out' p≡ c≡ f =
          let n : length w ≡ count = omega (arith, end-length) in
          let whole : out' ≡ paste out at w count = f w n (rw p≡ end-cell.stands) in
          let all : take count w ≡ w = ap (λ (m : ℕ). take m w) (sym n) ∙ take-length w in
          let none : drop i sentence ≡ [] = rw done (drop-length sentence) in
          let last : at + count ≡ length sentence = omega (arith, r.placed) in
          let front : take at out ++ w ≡ puts (shape t) 0 sentence = rw none at r.so_far in
          whole
          ∙ ap (λ (l : List ℕ). (take at out ++ l) ++ drop (at + count) out) all
          ∙ ap (λ (l : List ℕ). l ++ drop (at + count) out) front
          ∙ ap (λ (m : ℕ). puts (shape t) 0 sentence ++ drop m out) last
          ∙ ap (λ (l : List ℕ). puts (shape t) 0 sentence ++ l) g.kept
          ∙ ap (λ (o : Outcome Decoded). made o sentence ++ drop (length sentence) out₀) (sym p.loaded.decodes)

-- Typing, about the functions for C: from nothing but their contracts, over any calls from an opening on.
use Prim.Native.Nat.{ℕ, ◌*◌, ◌/◌, ◌%◌, ◌≤◌}
use native.Mathlib.Omega.{arith}
use mathlib.Core.Path.{◌≡◌, refl, sym, ap, ◌∙◌, subst}
use mathlib.Core.Bool.{Bool, true, false, not}
use mathlib.Core.List.{List, [], ◌∷◌, ◌++◌, append-nil}
use borrow.Author.Tests.{ne_eqb}
use lib.Dec.{eqb}
use lib.ListN.{length, take, drop}
use Rattle.limits.specs.Limits.{standard}
use Rattle.words.specs.Word.{Below, differences}
use Rattle.answers.specs.Outcome.{Outcome, result, refused, Place}
use Rattle.answers.specs.Slice.{long_of, written}
use Rattle.answers.proofs.Slice.{front-result}
use Rattle.sentences.specs.Run.{changed}
use Rattle.tagging.specs.Run.{book_run}
use Rattle.tables.specs.Run.{table_run}
use Rattle.packing.specs.Packed.{packed, Legible}
use Rattle.typing.specs.Typing.{Handed, opened, give, look, close}
use Rattle.typing.specs.declared.Sentence.{Sentence}
use Rattle.sessions.specs.Session.{Call, gives, closes, call, takes, brings, Session, proceed, proceeds, session}
use Rattle.sessions.proofs.Theorems.{closed_is_run, looked_is_run}
use Rattle.handing.specs.Typing.{Numbers, sentence_of, flag, numbers_of, handed_on, opened_as, opened_on, TypeCall}
use Rattle.handing.proofs.Legible.{legible_open, legible_give, legible_held, legible_close}
use Rattle.nedzsuka.proofs.Demand.{CompileCall, RunCall, made_counted, means_result, same-run}

-- what the contract of nedzsuka_open says, and that of nedzsuka_look
pub record OpenCall (table : List ℕ) (n n' : Numbers) (number : ℕ) : Type 0 where
  pub answered : number ≡ packed (opened_as (opened standard table))
  pub numbers : n' ≡ opened_on (opened standard table) n

pub record LookCall (table : List ℕ) (n : Numbers) (before after : List ℕ) (number : ℕ) : Type 0 where
  pub answered : number ≡ packed (long_of (look standard table (sentence_of n) (length before)).put)
  pub wrote : after ≡ written (look standard table (sentence_of n) (length before)).put before

-- Calls over one table, one after the other, each given the numbers that the one before has left: the numbers now, the tags taken and the
-- tags put out. A call's tags are the first ones of its output slice, as many as its answer says.
pub data Typing (table : List ℕ) : Numbers → List ℕ → List ℕ → Type 0 where
  opens : (n n' : Numbers) (number : ℕ) → OpenCall table n n' number → number % 256 ≡ 0 → Typing table n' [] []
  gives-tag :
      (n n' : Numbers) (w x : List ℕ) (a : ℕ) (before after : List ℕ) (number : ℕ)
      → Typing table n w x
      → TypeCall (give standard table (sentence_of n) a (length before)) n n' before after number
      → number % 256 ≡ 0
      → Typing table n' (w ++ (a ∷ [])) (x ++ take (number / 256) after)
  give-refused :
      (n n' : Numbers) (w x : List ℕ) (a : ℕ) (before after : List ℕ) (number : ℕ)
      → Typing table n w x
      → TypeCall (give standard table (sentence_of n) a (length before)) n n' before after number
      → (number % 256 ≡ 0 → ⊥)
      → Typing table n' w x
  looks_on : (n : Numbers) (w x before after : List ℕ) (number : ℕ) → Typing table n w x → LookCall table n before after number → Typing table n w x
  closes_it :
      (n n' : Numbers) (w x before after : List ℕ) (number : ℕ)
      → Typing table n w x
      → TypeCall (close standard table (sentence_of n) (length before)) n n' before after number
      → number % 256 ≡ 0
      → Typing table n' w (x ++ take (number / 256) after)
  close-refused :
      (n n' : Numbers) (w x before after : List ℕ) (number : ℕ)
      → Typing table n w x
      → TypeCall (close standard table (sentence_of n) (length before)) n n' before after number
      → (number % 256 ≡ 0 → ⊥)
      → Typing table n' w x

-- ---- a number is a result or a refusal

module _ (h : Handed) (n n' : Numbers) (before after : List ℕ) (number : ℕ) (c : TypeCall h n n' before after number) where
  -- a refused call leaves the numbers and the output slice as they were
  pub typed_refused : (number % 256 ≡ 0 → ⊥) → (n' ≡ n) × (after ≡ before) × ((j : ℕ) × (p : Place) × (h.put ≡ refused j p))
  typed_refused e = by h.put c.answered c.wrote c.numbers
    where
      by : (o : Outcome (List ℕ)) → number ≡ packed (long_of o) → after ≡ written o before → n' ≡ handed_on o h.sentence n
          → (n' ≡ n) × (after ≡ before) × ((j : ℕ) × (p : Place) × (o ≡ refused j p))
      by (result w) a f g = absurd (e (omega (arith, a)))
      by (refused j p) a f g = (g, f, (j, p, refl))

  -- of one that is not refused, the first tags of the output slice are those put out, and the numbers are the sentence's
  pub typed_result : Legible (long_of h.put) → number % 256 ≡ 0 → (h.put ≡ result (take (number / 256) after)) × (n' ≡ numbers_of h.sentence)
  typed_result l e =
      let o = means_result (long_of h.put) l number c.answered e in
      let r = front-result (number / 256) before after h.put (sym o) c.wrote in
      (r, c.numbers ∙ ap (λ (x : Outcome (List ℕ)). handed_on x h.sentence n) r)

-- a sentence is what its numbers are
numbers_of_lem : (s : Sentence) → sentence_of (numbers_of s) ≡ s
numbers_of_lem s = ap (λ (b : Bool). record { state = s.state; given = s.given; closed = b }) (by s.closed)
  where
    by : (b : Bool) → not (eqb (flag b) 0) ≡ b
    by true = refl
    by false = refl

-- ---- the calls as a session

proceeds-last : (table : List ℕ) (x : Session) (cs : List Call) (c : Call) → proceeds standard table x (cs ++ (c ∷ [])) ≡ proceed standard table (proceeds standard table x cs) c
proceeds-last table x [] c = refl
proceeds-last table x (d ∷ cs) c = proceeds-last table (proceed standard table x d) cs c

-- there are calls that come to this
record Matches (table : List ℕ) (n : Numbers) (w x : List ℕ) : Type 0 where
  start : Sentence
  was_opened : opened standard table ≡ result start
  calls : List Call
  sentence : (session standard table start calls).sentence ≡ sentence_of n
  taken : (session standard table start calls).taken ≡ w
  out : (session standard table start calls).out ≡ x

module _ (table : List ℕ) (bytes : Below 0x100 table) where
  -- one more call, that was not refused
  one_more : (n n' : Numbers) (w x : List ℕ) → Matches table n w x → (c : Call) (v : List ℕ)
      → (call standard table (sentence_of n) c).put ≡ result v → n' ≡ numbers_of (call standard table (sentence_of n) c).sentence
      → Matches table n' (w ++ takes c (result v)) (x ++ brings c (result v))
  one_more n n' w x m c v e f =
      let y = session standard table m.start m.calls in
      let last = proceeds-last table (record { sentence = m.start; taken = []; out = [] }) m.calls c in
      let put : (call standard table y.sentence c).put ≡ result v = ap (λ (s : Sentence). (call standard table s c).put) m.sentence ∙ e in
      record {
        start = m.start;
        was_opened = m.was_opened;
        calls = m.calls ++ (c ∷ []);
        sentence =
            ap (λ (z : Session). z.sentence) last
            ∙ ap (λ (s : Sentence). (call standard table s c).sentence) m.sentence
            ∙ sym (ap sentence_of f ∙ numbers_of_lem (call standard table (sentence_of n) c).sentence);
        taken =
            ap (λ (z : Session). z.taken) last
            ∙ ap (λ (o : Outcome (List ℕ)). y.taken ++ takes c o) put
            ∙ ap (λ (l : List ℕ). l ++ takes c (result v)) m.taken;
        out =
            ap (λ (z : Session). z.out) last
            ∙ ap (λ (o : Outcome (List ℕ)). y.out ++ brings c o) put
            ∙ ap (λ (l : List ℕ). l ++ brings c (result v)) m.out;
      }

  no_more : (n n' : Numbers) (w x : List ℕ) → Matches table n w x → n' ≡ n → Matches table n' w x
  no_more n n' w x m e = subst (λ (k : Numbers). Matches table k w x) (sym e) m

  first-call : (n n' : Numbers) (number : ℕ) → OpenCall table n n' number → number % 256 ≡ 0 → Matches table n' [] []
  first-call n n' number c e =
      by (opened standard table) refl (means_result (opened_as (opened standard table)) (legible_open standard table) number c.answered e) c.numbers
    where
      by : (o : Outcome Sentence) → opened standard table ≡ o → opened_as o ≡ result (number / 256) → n' ≡ opened_on o n → Matches table n' [] []
      by (result s) f g h =
          record { start = s; was_opened = f; calls = []; sentence = sym (ap sentence_of h ∙ numbers_of_lem s); taken = refl; out = refl }
      by (refused j p) f g h = let z : ◌≡◌ {A = ℕ} 0 1 = cc in absurd (omega arith)

  matches : {n : Numbers} {w x : List ℕ} → Typing table n w x → Matches table n w x
  matches (opens m n number c e) = first-call m n number c e
  matches (gives-tag m n w x a before after number t c e) =
      let r = typed_result _ m n before after number c (legible_give standard table bytes (sentence_of m) (length before) a) e in
      one_more m n w x (matches t) (gives a (length before)) (take (number / 256) after) r.0 r.1
  matches (give-refused m n w x a before after number t c e) =
      no_more m n w x (matches t) (typed_refused _ m n before after number c e).0
  matches (looks_on n w x before after number t c) = matches t
  matches (closes_it m n w x before after number t c e) =
      let r = typed_result _ m n before after number c (legible_close standard table bytes (sentence_of m) (length before)) e in
      ended m n w x (matches t) (length before) (take (number / 256) after) r.0 r.1
    where
      ended : (m n : Numbers) (w x : List ℕ) → Matches table m w x → (room : ℕ) (v : List ℕ) → (close standard table (sentence_of m) room).put ≡ result v
          → n ≡ numbers_of (close standard table (sentence_of m) room).sentence → Matches table n w (x ++ v)
      ended m n w x p room v e f =
          let q = one_more m n w x p (closes room) v e f in
          subst (λ (l : List ℕ). Matches table n l (x ++ v)) (append-nil w) q
  matches (close-refused m n w x before after number t c e) =
      no_more m n w x (matches t) (typed_refused _ m n before after number c e).0

  -- ---- the demand

  module _ (n : Numbers) (w x : List ℕ) (t : Typing table n w x) (out by-table : List ℕ) (number : ℕ)
      (long : length w ≤ length out) (run : RunCall (table_run standard table w (length out)) w out by-table number) where
    abbrev m : Matches table n w x
    m = matches t

    abbrev y : Session
    y = session standard table m.start m.calls

    run_is : (made : List ℕ) → table_run standard table y.taken (length out) ≡ result made → (number ≡ differences w made * 256) × (by-table ≡ made ++ drop (length made) out)
    run_is made e =
        made_counted (table_run standard table w (length out)) w out by-table number run made
        (ap (λ (l : List ℕ). table_run standard table l (length out)) (sym m.taken) ∙ e)

    fits : length y.taken ≤ length out
    fits = omega (arith, ap length m.taken, long)

    -- "the tags given out and those of the close make up what the whole run gives for the tags taken": of a closed sentence, what was
    -- put out is what nedzsuka_run_table writes for the tags taken, with any output slice that is long enough
    pub closed_run : (n.closed ≡ 0 → ⊥) → (number ≡ differences w x * 256) × (by-table ≡ x ++ drop (length x) out)
    closed_run e =
        let shut : y.sentence.closed ≡ true = ap (λ (s : Sentence). s.closed) m.sentence ∙ ap not (ne_eqb n.closed 0 e) in
        run_is x (closed_is_run standard table bytes m.start m.was_opened m.calls shut (length out) fits ∙ ap result m.out)

    -- and with what a look puts out, of a sentence that is open
    pub looked_run : (before after : List ℕ) (look-number : ℕ) → LookCall table n before after look-number → look-number % 256 ≡ 0
        → (number ≡ differences w (x ++ take (look-number / 256) after) * 256)
        × (by-table ≡ (x ++ take (look-number / 256) after) ++ drop (length (x ++ take (look-number / 256) after)) out)
    looked_run before after look-number c e =
        let o = (look standard table (sentence_of n) (length before)).put in
        let long-is = means_result (long_of o) (legible_held standard table bytes (sentence_of n) (length before)) look-number c.answered e in
        let v = take (look-number / 256) after in
        let put : o ≡ result v = front-result (look-number / 256) before after o (sym long-is) c.wrote in
        let look_is : (look standard table y.sentence (length before)).put ≡ result v =
        ap (λ (s : Sentence). (look standard table s (length before)).put) m.sentence ∙ put in
        run_is (x ++ v)
        (looked_is_run standard table bytes m.start m.was_opened m.calls (length before) v look_is (length out) fits
        ∙ ap (λ (l : List ℕ). result (l ++ v)) m.out)

-- compiled and typed: of a closed sentence, what was put out is what nedzsuka_run_book_ending writes for the tags taken
pub typed_book : (book : List ℕ) (end c : ℕ) (work room table : List ℕ) (compiled : ℕ) → CompileCall standard book end c work room table compiled → compiled % 256 ≡ 0
    → Below 0x100 (take (compiled / 256) table)
    → (n : Numbers) (w x : List ℕ) → Typing (take (compiled / 256) table) n w x → (n.closed ≡ 0 → ⊥)
    → (out by_book : List ℕ) (number : ℕ) → length w ≤ length out → RunCall (book_run standard book end w (length out)) w out by_book number
    → (number ≡ differences w x * 256) × (by_book ≡ x ++ drop (length x) out)
typed_book book end c work room table compiled call ok bytes n w x t shut out by_book number long run =
    let o = table_run standard (take (compiled / 256) table) w (length out) in
    let by-table : RunCall o w out (written o out) (packed (changed w o)) = record { answered = refl; wrote = refl } in
    let a = closed_run (take (compiled / 256) table) bytes n w x t out (written o out) (packed (changed w o)) long by-table shut in
    let b = same-run standard book end c work room table compiled call ok w out (written o out) by_book (packed (changed w o)) number by-table run in
    (sym b.0 ∙ a.0, sym b.1 ∙ a.1)

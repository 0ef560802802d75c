-- The walk, turn by turn: the whole way is what stands in the buffer and the way from here.
use Prim.Native.Nat.{ℕ, ◌+◌, ◌*◌, ◌≤◌, ◌<◌}
use native.Mathlib.Omega.{arith}
use mathlib.Core.Path.{◌≡◌, refl, sym, ap, ◌∙◌}
use mathlib.Core.Bool.{Bool, true, false}
use mathlib.Core.List.{List, [], ◌∷◌, ◌++◌, append_assoc}
use borrow.Author.Tests.{ne_eqb, le-leb, lt-leb}
use lib.Dec.{eqb}
use Rattle.std.specs.Prelude.{None}
use lib.ListN.{length, take, drop, get_or, length-append}
use lib.Seq.{length-take-le}
use Rattle.words.proofs.Word.{drop-step}
use Rattle.answers.specs.Outcome.{Outcome, result, refused, and_then, provided}
use Rattle.tables.specs.Decode.{malformed}
use Rattle.loaded.specs.Numbers.{row_size, resting}
use Rattle.loaded.specs.Run.{word_of, way}
use Rattle.ways.specs.Walk.{PutWord, Put, Walked}

-- an outcome goes on to what stands in front of it
abbrev after : List ℕ → Outcome (List ℕ) → Outcome (List ℕ)
after x o = and_then o (λ v. result (x ++ v))

after-after : (x u : List ℕ) (o : Outcome (List ℕ)) → after x (after u o) ≡ after (x ++ u) o
after-after x u (result v) = ap result (sym (append_assoc x u v))
after-after x u (refused n p) = refl

-- where a step leads
abbrev onto : List ℕ → ℕ → ℕ → List ℕ → Outcome (List ℕ)
onto ns k x w = elim (eqb x resting) [ true ↦ result w | false ↦ way ns k x w ]

-- what the loop keeps
pub record Going (ns : List ℕ) (k : ℕ) (s b₀ b : List ℕ) (i at p : ℕ) : Type 0 where
  pub inside : p + row_size k ≤ length ns
  pub low : i ≤ length s
  pub fits : at ≤ length s
  pub long : length b ≡ length b₀
  pub so_far : way ns k 1 s ≡ after (take at b) (way ns k p (drop i s))

-- no result is malformed
never_malformed : (made : List ℕ) → ◌≡◌ {A = Outcome (List ℕ)} malformed (result made) → ⊥
never_malformed made e = let z : ◌≡◌ {A = ℕ} 0 1 = cc in omega arith

never_refused : (n : ℕ) (p : _) (made : List ℕ) → ◌≡◌ {A = Outcome (List ℕ)} (refused n p) (result made) → ⊥
never_refused n p made e = let z : ◌≡◌ {A = ℕ} 0 1 = cc in omega arith

result-is : (u v : List ℕ) → ◌≡◌ {A = Outcome (List ℕ)} (result u) (result v) → u ≡ v
result-is u v e = cc

-- a result after x is longer than x and what it begins with
after-longer : (x u made : List ℕ) (o : Outcome (List ℕ)) → after x (after u o) ≡ result made → length x + length u ≤ length made
after-longer x u made (result v) e = omega (arith, ap length (result-is (x ++ (u ++ v)) made e), length-append x (u ++ v), length-append u v)
after-longer x u made (refused n p) e = absurd (never_refused n p made e)

-- no row begins there
pub way_out : (ns : List ℕ) (k p : ℕ) (w : List ℕ) → length ns < p + row_size k → way ns k p w ≡ malformed
way_out ns k p [] out = ap (λ (t : Bool). provided 12 t (word_of ns (get_or ns p 0))) (lt-leb (p + row_size k) (length ns) out)
way_out ns k p (a ∷ w) out =
    ap (λ (t : Bool). provided 12 t (and_then (word_of ns (get_or ns (p + 2 * a + 3) 0)) (λ u. after u (onto ns k (get_or ns (p + 2 * a + 2) 0) w))))
    (lt-leb (p + row_size k) (length ns) out)

-- what the walk answers
walked_not : (ns : List ℕ) (k : ℕ) (s b : List ℕ) → ((made : List ℕ) → way ns k 1 s ≡ result made → length made ≡ length s → ⊥) → Walked false ns k s b
walked_not ns k s b never = record { so = λ e. let z : ◌≡◌ {A = ℕ} 0 1 = cc in absurd (omega arith); not = λ e. never }

pub walked_none : (ns : List ℕ) (k : ℕ) (s b : List ℕ) → length ns < 1 + row_size k → Walked false ns k s b
walked_none ns k s b out = walked_not ns k s b (λ made e same. never_malformed made (sym (way_out ns k 1 s out) ∙ e))

-- the places of a step's numbers
pub entry_at : (ns s : List ℕ) (p w i : ℕ) → w ≡ get_or s i 0 → get_or ns (p + 2 * w + 2 + 1) 0 ≡ get_or ns (p + 2 * get_or s i 0 + 3) 0
entry_at ns s p w i e = let f : p + 2 * w + 2 + 1 ≡ p + 2 * get_or s i 0 + 3 = omega (arith, e) in ap (λ (j : ℕ). get_or ns j 0) f

pub next-at : (ns s : List ℕ) (p w i : ℕ) → w ≡ get_or s i 0 → get_or ns (p + 2 * w + 2) 0 ≡ get_or ns (p + 2 * get_or s i 0 + 2) 0
next-at ns s p w i e = let f : p + 2 * w + 2 ≡ p + 2 * get_or s i 0 + 2 = omega (arith, e) in ap (λ (j : ℕ). get_or ns j 0) f

-- ---- a turn

module _ (ns : List ℕ) (k : ℕ) (s b₀ b : List ℕ) (i at p : ℕ) (g : Going ns k s b₀ b i at p) (room : length s + 3 ≤ length b₀) where
  front_long : length (take at b) ≡ at
  front_long = length-take-le at b (omega (arith, g.fits, g.long, room))

  module _ (h : i < length s) where
    abbrev tag : ℕ
    tag = get_or s i 0

    abbrev entry : ℕ
    entry = get_or ns (p + 2 * tag + 3) 0

    abbrev next : ℕ
    next = get_or ns (p + 2 * tag + 2) 0

    abbrev rest : List ℕ
    rest = drop (i + 1) s

    way-here : way ns k 1 s ≡ after (take at b) (and_then (word_of ns entry) (λ u. after u (onto ns k next rest)))
    way-here =
        g.so_far ∙ ap (λ (w : List ℕ). after (take at b) (way ns k p w)) (drop-step s i 0 h)
        ∙ rw (le-leb (p + row_size k) (length ns) g.inside) refl

    -- the word is too long, or none
    stops : (b' : List ℕ) → Put ns entry b b' at (length s) None → (made : List ℕ) → way ns k 1 s ≡ result made → length made ≡ length s → ⊥
    stops b' put made e same = by (word_of ns entry) refl (sym way-here ∙ e)
      where
        by : (o : Outcome (List ℕ)) → word_of ns entry ≡ o → after (take at b) (and_then o (λ u. after u (onto ns k next rest))) ≡ result made → ⊥
        by (result u) f d = omega (arith, put.ends u f, after-longer (take at b) u made (onto ns k next rest) d, front_long, same)
        by (refused n q) f d = never_refused n q made d

    pub turn_stops : (b' : List ℕ) → Put ns entry b b' at (length s) None → Walked false ns k s b'
    turn_stops b' put = walked_not ns k s b' (stops b' put)

    module _ (b' : List ℕ) (to : ℕ) (put : PutWord ns entry b b' at to) where
      way_on : way ns k 1 s ≡ after (take to b') (onto ns k next rest)
      way_on =
          way-here
          ∙ ap (λ (o : Outcome (List ℕ)). after (take at b) (and_then o (λ u. after u (onto ns k next rest)))) put.is
          ∙ after-after (take at b) put.word (onto ns k next rest)
          ∙ ap (λ (x : List ℕ). after x (onto ns k next rest)) (sym put.front)

      -- the next row is not there
      pub turn_off : (x : ℕ) → x ≡ next → (x ≡ resting → ⊥) → length ns < x + row_size k → Walked false ns k s b'
      turn_off x is other out =
          walked_not ns k s b' λ made e same.
          never_malformed made
          (sym (way_on ∙ ap (λ (y : ℕ). after (take to b') (onto ns k y rest)) (sym is)
          ∙ ap (λ (t : Bool). after (take to b') (elim t [ true ↦ result rest | false ↦ way ns k x rest ])) (ne_eqb x resting other)
          ∙ ap (after (take to b')) (way_out ns k x rest out)) ∙ e)

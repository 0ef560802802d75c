-- Reading one command: what the definition makes of the bytes at `at`, in each case that the code tells apart.
use Prim.Native.Nat.{ℕ, zero, suc, ◌+◌, ◌-◌, ◌≤◌, ◌<◌}
use native.Mathlib.Omega.{arith}
use native.Mathlib.Numerals.{add-one}
use native.Mathlib.Decide.{ℕ_discrete}
use mathlib.Core.Path.{◌≡◌, refl, ap, ap₂, ◌∙◌}
use mathlib.Core.List.{List, [], ◌∷◌, ◌++◌}
use borrow.Author.Tests.{lt-ltb, le-ltb, lt-leb, le-leb, ne_eqb}
use lib.ListN.{length, get_or, drop}
use lib.Seq.{drop-cons, drop-length}
use Rattle.limits.specs.Limits.{fewest_tags, InRange}
use Rattle.limits.specs.declared.Limits.{Limits}
use Rattle.std.specs.Prelude.{Result, Ok, Err}
use Rattle.answers.specs.Outcome.{result, refused, nothing, byte, and_then}
use Rattle.answers.specs.Answer.{number_of}
use Rattle.answers.specs.declared.Reason.{Reason}
use Rattle.cascades.specs.Pattern.{Class, one, any}
use Rattle.cascades.specs.Rule.{Kind, Rule}
use Rattle.books.specs.Book.{opener}
use Rattle.books.specs.Read.{Stage, opening, size, command, place, new_tag, pattern_tag, set_byte, ended, closing, next_rule, opened, longer, set_read, step, finish, read_from, read}
use Rattle.books.specs.Arrays.{Arrays, Shaped, rules_down, cascade_of}
use Rattle.books.specs.Resume.{read_commands, with_tags, read_tags, number_at, faulted}
use Rattle.books.proofs.Step.{step_opens}
use Rattle.books.proofs.Arrays.{down-length, opened-arrays, opened-down}

module _ (lim : Limits) (s : List ℕ) (st : Stage) (at : ℕ) where
  read_go : (st' : Stage) → at < length s → step lim st (get_or s at 0) ≡ result st' → read_from lim st at (drop at s) ≡ read_from lim st' (at + 1) (drop (at + 1) s)
  read_go st' h e = cc (drop-cons s at 0 h, e, add-one at)

  read_stop : (n : ℕ) → at < length s → step lim st (get_or s at 0) ≡ refused n nothing → read_from lim st at (drop at s) ≡ refused n (byte at)
  read_stop n h e = cc (drop-cons s at 0 h, e)

  read-end : at ≡ length s → read_from lim st at (drop at s) ≡ finish st at
  read-end e = let d : drop at s ≡ [] = rw e (drop-length s) in cc

-- ---- 20 and K

module _ (lim : Limits) (s : List ℕ) where
  pub book_empty : 0 ≡ length s → read lim s ≡ refused 1 (byte 0)
  book_empty e = read-end lim s opening 0 e

  pub book_other : 0 < length s → (get_or s 0 0 ≡ 0x20 → ⊥) → read lim s ≡ refused 1 (byte 0)
  book_other h d = read_stop lim s opening 0 1 h (cc (ne_eqb (get_or s 0 0) 0x20 d))

  module _ (h : 0 < length s) (e : get_or s 0 0 ≡ 0x20) where
    book_opened : read lim s ≡ read_from lim size 1 (drop 1 s)
    book_opened = read_go lim s opening 0 size h (cc)

    pub book_no_size : 1 ≡ length s → read lim s ≡ refused 1 (byte 1)
    book_no_size f = book_opened ∙ read-end lim s size 1 f

    pub book_few : 1 < length s → get_or s 1 0 < fewest_tags → read lim s ≡ refused 2 (byte 1)
    book_few l f = book_opened ∙ read_stop lim s size 1 2 l (cc (lt-leb fewest_tags (get_or s 1 0) f))

    pub book_many : 1 < length s → fewest_tags ≤ get_or s 1 0 → lim.tags < get_or s 1 0 → read lim s ≡ refused 2 (byte 1)
    book_many l f g = book_opened ∙ read_stop lim s size 1 2 l (cc (le-leb fewest_tags (get_or s 1 0) f, lt-leb (get_or s 1 0) lim.tags g))

    pub book_sized : (a : Arrays) → 1 < length s → fewest_tags ≤ get_or s 1 0 → get_or s 1 0 ≤ lim.tags → read lim s ≡ read_commands lim s (get_or s 1 0) 0 a 2
    book_sized a l f g =
        book_opened ∙ read_go lim s size 1 (command (get_or s 1 0) []) l (cc (le-leb fewest_tags (get_or s 1 0) f, le-leb (get_or s 1 0) lim.tags g))

-- ---- a command

module _ (lim : Limits) (s : List ℕ) (k m : ℕ) (a : Arrays) (at : ℕ) where
  pub command_missing : at ≡ length s → read_commands lim s k m a at ≡ refused 1 (byte at)
  command_missing e = read-end lim s (command k (rules_down a m)) at e

  module _ (h : at < length s) where
    -- neither 00, 21 nor 24, and 22 and 23 only where no rule is open
    pub command_unknown : (get_or s at 0 ≡ 0x00 → ⊥) → (get_or s at 0 ≡ 0x21 → ⊥) → (get_or s at 0 ≡ 0x24 → ⊥) → (get_or s at 0 ≡ 0x22 → m ≡ 0) → (get_or s at 0 ≡ 0x23 → m ≡ 0)
        → read_commands lim s k m a at ≡ refused 1 (byte at)
    command_unknown x y z v w = read_stop lim s (command k (rules_down a m)) at 1 h (unknown (ℕ_discrete (get_or s at 0) 0x22) (ℕ_discrete (get_or s at 0) 0x23))
      where
        unknown : Dec (get_or s at 0 ≡ 0x22) → Dec (get_or s at 0 ≡ 0x23) → step lim (command k (rules_down a m)) (get_or s at 0) ≡ refused 1 nothing
        unknown (yes e) f = let none : m ≡ 0 = v e in cc
        unknown (no d) (yes e) = let none : m ≡ 0 = w e in cc
        unknown (no d) (no f) =
            cc (
              ne_eqb (get_or s at 0) 0x00 x,
              ne_eqb (get_or s at 0) 0x21 y,
              ne_eqb (get_or s at 0) 0x24 z,
              ne_eqb (get_or s at 0) 0x22 d,
              ne_eqb (get_or s at 0) 0x23 f,
            )

    -- 00
    module _ (e : get_or s at 0 ≡ 0x00) where
      pub end_fault : (reason : Reason) → closing (rules_down a m) ≡ faulted (Err reason) → read_commands lim s k m a at ≡ refused (number_of reason) (byte at)
      end_fault reason f = read_stop lim s (command k (rules_down a m)) at (number_of reason) h (cc)

      module _ (f : closing (rules_down a m) ≡ faulted (Ok tt)) where
        end-closed : read_commands lim s k m a at ≡ read_from lim (ended k (rules_down a m)) (at + 1) (drop (at + 1) s)
        end-closed = read_go lim s (command k (rules_down a m)) at (ended k (rules_down a m)) h (cc)

        pub end_more : at + 1 < length s → read_commands lim s k m a at ≡ refused 1 (byte (at + 1))
        end_more l = end-closed ∙ read_stop lim s (ended k (rules_down a m)) (at + 1) 1 l refl

        pub end_whole : at + 1 ≡ length s → read_commands lim s k m a at ≡ result (cascade_of k a m)
        end_whole l = end-closed ∙ read-end lim s (ended k (rules_down a m)) (at + 1) l

    -- 21 and 24
    module _ (kind : Kind) (e : get_or s at 0 ≡ opener kind) where
      rule_opens : step lim (command k (rules_down a m)) (get_or s at 0) ≡ next_rule lim k kind (rules_down a m)
      rule_opens = ap (step lim (command k (rules_down a m))) e ∙ step_opens lim k (rules_down a m) kind

      pub rule_fault : (reason : Reason) → closing (rules_down a m) ≡ faulted (Err reason) → read_commands lim s k m a at ≡ refused (number_of reason) (byte at)
      rule_fault reason f = read_stop lim s (command k (rules_down a m)) at (number_of reason) h (rule_opens ∙ cc)

      module _ (f : closing (rules_down a m) ≡ faulted (Ok tt)) where
        pub rule_too_many : lim.rules ≤ m → read_commands lim s k m a at ≡ refused 7 (byte at)
        rule_too_many l =
            read_stop lim s (command k (rules_down a m)) at 7 h (rule_opens ∙ cc (le-ltb (length (rules_down a m)) lim.rules (omega (arith, down-length a m))))

        module _ (few : m < lim.rules) where
          rule-counted : read_commands lim s k m a at ≡ read_from lim (place k kind (rules_down a m)) (at + 1) (drop (at + 1) s)
          rule-counted =
              read_go lim s (command k (rules_down a m)) at (place k kind (rules_down a m)) h
              (rule_opens ∙ cc (lt-ltb (length (rules_down a m)) lim.rules (omega (arith, down-length a m))))

          pub rule_no_place : at + 1 ≡ length s → read_commands lim s k m a at ≡ refused 1 (byte (at + 1))
          rule_no_place l = rule-counted ∙ read-end lim s (place k kind (rules_down a m)) (at + 1) l

          rule_placed : at + 1 < length s → read_commands lim s k m a at ≡ read_from lim (new_tag k kind (rules_down a m) (get_or s (at + 1) 0)) (at + 1 + 1) (drop (at + 1 + 1) s)
          rule_placed l = rule-counted ∙ read_go lim s (place k kind (rules_down a m)) (at + 1) (new_tag k kind (rules_down a m) (get_or s (at + 1) 0)) l refl

          pub rule_no_tag : at + 1 + 1 ≡ length s → read_commands lim s k m a at ≡ refused 1 (byte (at + 1 + 1))
          rule_no_tag l = rule_placed (omega arith) ∙ read-end lim s (new_tag k kind (rules_down a m) (get_or s (at + 1) 0)) (at + 1 + 1) l

          pub rule-high : at + 1 + 1 < length s → k ≤ get_or s (at + 1 + 1) 0 → read_commands lim s k m a at ≡ refused 4 (byte (at + 1 + 1))
          rule-high l b =
              rule_placed (omega arith)
              ∙ read_stop lim s (new_tag k kind (rules_down a m) (get_or s (at + 1) 0)) (at + 1 + 1) 4 l (cc (le-ltb (get_or s (at + 1 + 1) 0) k b))

          pub rule-opened : Shaped a → at + 1 + 1 < length s → get_or s (at + 1 + 1) 0 < k → InRange lim
              → read_commands lim s k m a at ≡ read_commands lim s k (m + 1) (opened-arrays a m (get_or s (at + 1) 0) (get_or s (at + 1 + 1) 0) (get_or s at 0)) (at + 1 + 1 + 1)
          rule-opened sh l b ranged =
              rule_placed (omega arith)
              ∙ read_go lim s (new_tag k kind (rules_down a m) (get_or s (at + 1) 0)) (at + 1 + 1)
              (command k (opened kind (get_or s (at + 1) 0) (get_or s (at + 1 + 1) 0) ∷ rules_down a m)) l (cc (lt-ltb (get_or s (at + 1 + 1) 0) k b))
              ∙ cc (opened-down a sh m (omega (arith, ranged.few_rules)) (get_or s (at + 1) 0) (get_or s (at + 1 + 1) 0) (get_or s at 0) kind e, add-one m)

-- ---- one more place of a pattern, which is w so far

module _ (lim : Limits) (s : List ℕ) (k : ℕ) (r : Rule) (rs : List Rule) (w : List Class) (at : ℕ) (h : at < length s) where
  -- 22
  module _ (e : get_or s at 0 ≡ 0x22) where
    pub tag_too_many : lim.pattern ≤ length w → read_tags lim s k r rs w at ≡ refused 3 (byte at)
    tag_too_many l = read_stop lim s (command k (with_tags r w ∷ rs)) at 3 h (cc (le-ltb (length w) lim.pattern l))

    module _ (room : length w < lim.pattern) where
      tag-counted : read_tags lim s k r rs w at ≡ read_from lim (pattern_tag k (with_tags r w) rs) (at + 1) (drop (at + 1) s)
      tag-counted = read_go lim s (command k (with_tags r w ∷ rs)) at (pattern_tag k (with_tags r w) rs) h (cc (lt-ltb (length w) lim.pattern room))

      pub tag_missing : at + 1 ≡ length s → read_tags lim s k r rs w at ≡ refused 1 (byte (at + 1))
      tag_missing l = tag-counted ∙ read-end lim s (pattern_tag k (with_tags r w) rs) (at + 1) l

      pub tag-high : at + 1 < length s → k ≤ get_or s (at + 1) 0 → read_tags lim s k r rs w at ≡ refused 4 (byte (at + 1))
      tag-high l b = tag-counted ∙ read_stop lim s (pattern_tag k (with_tags r w) rs) (at + 1) 4 l (cc (le-ltb (get_or s (at + 1) 0) k b))

      pub tag-taken : at + 1 < length s → get_or s (at + 1) 0 < k → read_tags lim s k r rs w at ≡ read_tags lim s k r rs (w ++ (one (get_or s (at + 1) 0) ∷ [])) (at + 2)
      tag-taken l b =
          let t = get_or s (at + 1) 0 in
          let next : at + 1 + 1 ≡ at + 2 = omega arith in
          tag-counted
          ∙ read_go lim s (pattern_tag k (with_tags r w) rs) (at + 1) (command k (longer (with_tags r w) (one t) ∷ rs)) l (cc (lt-ltb t k b))
          ∙ cc next

  -- 23
  module _ (e : get_or s at 0 ≡ 0x23) where
    set_too_many : lim.pattern ≤ length w → read_tags lim s k r rs w at ≡ refused 3 (byte at)
    set_too_many l = read_stop lim s (command k (with_tags r w ∷ rs)) at 3 h (cc (le-ltb (length w) lim.pattern l))

    module _ (room : length w < lim.pattern) (bytes : (i : ℕ) → get_or s i 0 < 0x100) where
      abbrev first : ℕ
      first = at + 1

      -- with n of the six bytes read, and j after the next to come
      set-goes : (n j : ℕ) → n + j ≡ 5 → first + n ≤ length s
          → read_tags lim s k r rs w at ≡ read_from lim (set_byte k (with_tags r w) rs j (number_at s first n)) (first + n) (drop (first + n) s)
      set-goes zero j f l =
          let five : 5 ≡ j = omega arith in
          let here : first ≡ first + 0 = omega arith in
          read_go lim s (command k (with_tags r w ∷ rs)) at (set_byte k (with_tags r w) rs 5 0) h (cc (lt-ltb (length w) lim.pattern room))
          ∙ ap₂ (λ (x y : ℕ). read_from lim (set_byte k (with_tags r w) rs x 0) y (drop y s)) five here
      set-goes (suc n) j f l =
          let next : first + n + 1 ≡ first + suc n = omega arith in
          set-goes n (suc j) (omega arith) (omega arith)
          ∙ read_go lim s (set_byte k (with_tags r w) rs (suc j) (number_at s first n)) (first + n) (set_byte k (with_tags r w) rs j (number_at s first (suc n))) (omega arith)
          (cc (lt-ltb (get_or s (first + n) 0) 0x100 (bytes (first + n))))
          ∙ ap (λ (y : ℕ). read_from lim (set_byte k (with_tags r w) rs j (number_at s first (suc n))) y (drop y s)) next

      pub set_missing : length s ≤ at + 6 → read_tags lim s k r rs w at ≡ refused 1 (byte (length s))
      set_missing l =
          let n = length s - first in
          let end : first + n ≡ length s = omega arith in
          set-goes n (5 - n) (omega arith) (omega arith)
          ∙ read-end lim s (set_byte k (with_tags r w) rs (5 - n) (number_at s first n)) (first + n) end
          ∙ ap (λ (x : ℕ). refused 1 (byte x)) end

      module _ (l : at + 6 < length s) (fault : Result (Unit {0}) Reason) (told : (next : Stage) → set_read k (number_at s first 6) next ≡ and_then (faulted fault) (λ x. result next)) where
        abbrev grown : Stage
        grown = command k (longer (with_tags r w) (any (number_at s first 6)) ∷ rs)

        last_byte : step lim (set_byte k (with_tags r w) rs 0 (number_at s first 5)) (get_or s (first + 5) 0) ≡ and_then (faulted fault) (λ x. result grown)
        last_byte = cc (lt-ltb (get_or s (first + 5) 0) 0x100 (bytes (first + 5)), told grown)

        pub set_fault : (reason : Reason) → fault ≡ Err reason → read_tags lim s k r rs w at ≡ refused (number_of reason) (byte (at + 6))
        set_fault reason is =
            let end : first + 5 ≡ at + 6 = omega arith in
            set-goes 5 0 refl (omega arith)
            ∙ read_stop lim s (set_byte k (with_tags r w) rs 0 (number_at s first 5)) (first + 5) (number_of reason) (omega arith)
            (last_byte ∙ ap (λ (n : Result (Unit {0}) Reason). and_then (faulted n) (λ x. result grown)) is)
            ∙ ap (λ (x : ℕ). refused (number_of reason) (byte x)) end

        pub set-taken : fault ≡ Ok tt → read_tags lim s k r rs w at ≡ read_tags lim s k r rs (w ++ (any (number_at s first 6) ∷ [])) (at + 7)
        set-taken z =
            let next : first + 5 + 1 ≡ at + 7 = omega arith in
            set-goes 5 0 refl (omega arith)
            ∙ read_go lim s (set_byte k (with_tags r w) rs 0 (number_at s first 5)) (first + 5) grown (omega arith) (last_byte ∙ ap (λ (n : Result (Unit {0}) Reason). and_then (faulted n) (λ x. result grown)) z)
            ∙ cc next

  -- 22 or 23
  pub place_too_many : ((get_or s at 0 ≡ 0x22 → ⊥) → get_or s at 0 ≡ 0x23) → lim.pattern ≤ length w → read_tags lim s k r rs w at ≡ refused 3 (byte at)
  place_too_many e l = by (ℕ_discrete (get_or s at 0) 0x22)
    where
      by : Dec (get_or s at 0 ≡ 0x22) → read_tags lim s k r rs w at ≡ refused 3 (byte at)
      by (yes f) = tag_too_many f l
      by (no d) = set_too_many (e d) l

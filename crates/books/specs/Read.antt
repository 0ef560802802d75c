-- What reading a list of bytes as a book gives: the cascade, or the refusal at the earliest byte. Byte by byte, so that no later byte
-- can decide. "Refusals 2, 3, 7 and 12 use the record's limits" (document 02, W8). The theorem in proofs/Encode.antt says that exactly the
-- encodings of valid cascades are read.
use Rattle.std.specs.Prelude.{ℕ, zero, suc, ◌+◌, ◌*◌, ◌^◌, true, false, not, ◌&&◌, List, [], ◌∷◌, ◌++◌, reverse, eqb, leb, ltb, length, drop, get_or}
use Rattle.limits.specs.Limits.{fewest_tags, no_end}
use Rattle.limits.specs.declared.Limits.{Limits}
use Rattle.answers.specs.Outcome.{Outcome, result, refused, nothing, byte, and_then, provided}
use Rattle.cascades.specs.Pattern.{Class, one, any, ones, some_set, word}
use Rattle.cascades.specs.Rule.{Kind, once, everywhere, Rule, Cascade}

-- what the next byte is. Rules are kept last first: the first one here is open
pub data Stage : Type 0 where
  opening : Stage
  size : Stage
  command : ℕ → List Rule → Stage
  place : ℕ → Kind → List Rule → Stage
  new_tag : ℕ → Kind → List Rule → ℕ → Stage
  pattern_tag : ℕ → Rule → List Rule → Stage
  -- of a set's bytes so many are still to come after the next, and those before it make this number
  set_byte : ℕ → Rule → List Rule → ℕ → ℕ → Stage
  ended : ℕ → List Rule → Stage

-- "At a closing 3, 5 and 6 come in that order", and 19 "after 5 and before 6". 3: pattern empty; 5: p not below the pattern's length; 19: "a set at
-- or after p"; 6: new tag equals the tag at p
abbrev pub closed : Rule → Outcome (Unit {0})
closed r =
    let u = r.pattern in
    provided 3 (ltb 0 (length u))
    (provided 5 (ltb r.place (length u)) (provided 19 (not (some_set (drop r.place u))) (provided 6 (not (eqb (get_or (word u) r.place 0) r.tag)) (result tt))))

abbrev pub closing : List Rule → Outcome (Unit {0})
closing [] = result tt
closing (r ∷ rs) = closed r

-- 22 and 23: out of place if no rule is open; one more than a pattern may have is 3, "a 22 or 23 beyond L tags with 3 at that byte"
abbrev pub next_class : Limits → List Rule → (Rule → List Rule → Stage) → Outcome Stage
next_class lim [] next = refused 1 nothing
next_class lim (r ∷ rs) next = provided 3 (ltb (length r.pattern) lim.pattern) (result (next r rs))

-- 21 and 24: "24 closes a rule as 21 does", "all before 7"; "A seventeenth rule is refused whichever command opens it"
abbrev pub next_rule : Limits → ℕ → Kind → List Rule → Outcome Stage
next_rule lim k kind rs = and_then (closing rs) (λ x. provided 7 (ltb (length rs) lim.rules) (result (place k kind rs)))

-- "command unknown or out of place" is 1
abbrev pub command_step : Limits → ℕ → List Rule → ℕ → Outcome Stage
command_step lim k rs b =
    elim (eqb b 0x00) [
      | true ↦ and_then (closing rs) (λ x. result (ended k rs))
      | false ↦
          elim (eqb b 0x21) [
            | true ↦ next_rule lim k once rs
            | false ↦
                elim (eqb b 0x24) [
                  | true ↦ next_rule lim k everywhere rs
                  | false ↦
                      elim (eqb b 0x22) [
                        | true ↦ next_class lim rs (pattern_tag k)
                        | false ↦ elim (eqb b 0x23) [ true ↦ next_class lim rs (λ r others. set_byte k r others 5 0) | false ↦ refused 1 nothing ]
                      ]
                ]
          ]
    ]

-- a tag that is not below K is 4
abbrev pub below : ℕ → ℕ → Stage → Outcome Stage
below k b next = provided 4 (ltb b k) (result next)

abbrev pub opened : Kind → ℕ → ℕ → Rule
opened kind p t = record { kind = kind; pattern = []; place = p; tag = t }

abbrev pub longer : Rule → Class → Rule
longer r c = record { kind = r.kind; pattern = r.pattern ++ (c ∷ []); place = r.place; tag = r.tag }

-- a set's last byte: "A bit for a tag not below K is refused with 4 at the set's last byte"; "18: fewer than two tags, found at the set's last byte,
-- after 4"
abbrev pub set_read : ℕ → ℕ → Stage → Outcome Stage
set_read k s next = provided 4 (ltb s (2 ^ k)) (provided 18 (leb 2 (ones k s)) (result next))

-- one more byte of a set, with which its bytes make the number s
abbrev pub take_set_byte : ℕ → Rule → List Rule → ℕ → ℕ → Outcome Stage
take_set_byte k r rs zero s = set_read k s (command k (longer r (any s) ∷ rs))
take_set_byte k r rs (suc n) s = result (set_byte k r rs n s)

-- the stage after a byte, or the number of the refusal: K below 2 or above its limit is 2; a byte after 00 is 1
abbrev pub step : Limits → Stage → ℕ → Outcome Stage
step lim opening b = provided 1 (eqb b 0x20) (result size)
step lim size b = provided 2 (leb fewest_tags b && leb b lim.tags) (result (command b []))
step lim (command k rs) b = command_step lim k rs b
step lim (place k kind rs) b = result (new_tag k kind rs b)
step lim (new_tag k kind rs p) b = below k b (command k (opened kind p b ∷ rs))
step lim (pattern_tag k r rs) b = below k b (command k (longer r (one b) ∷ rs))
step lim (set_byte k r rs n s) b = provided 1 (ltb b 0x100) (take_set_byte k r rs n (s * 0x100 + b))
step lim (ended k rs) b = refused 1 nothing

-- "bytes missing" is 1; "The end of the bytes counts as a place after the last"
abbrev pub finish : Stage → ℕ → Outcome Cascade
finish opening at = refused 1 (byte at)
finish size at = refused 1 (byte at)
finish (command k rs) at = refused 1 (byte at)
finish (place k kind rs) at = refused 1 (byte at)
finish (new_tag k kind rs p) at = refused 1 (byte at)
finish (pattern_tag k r rs) at = refused 1 (byte at)
finish (set_byte k r rs n s) at = refused 1 (byte at)
finish (ended k rs) at = result (record { tags = k; rules = reverse rs; end = no_end })

-- "In a book the refusal at the earliest byte is given", and names it
abbrev pub read_from : Limits → Stage → ℕ → List ℕ → Outcome Cascade
read_from lim s at [] = finish s at
read_from lim s at (b ∷ bs) = elim (step lim s b) [ result s' ↦ read_from lim s' (suc at) bs | refused n p ↦ refused n (byte at) ]

abbrev pub read : Limits → List ℕ → Outcome Cascade
read lim bytes = read_from lim opening 0 bytes

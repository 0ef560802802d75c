-- The bytes of a table (document 01, "Bytes of a table"). "Two-byte operands have the high byte first".
use Rattle.std.specs.Prelude.{ℕ, ◌+◌, ◌*◌, ◌/◌, ◌%◌, List, [], ◌∷◌, ◌++◌, length}
use Rattle.transducers.specs.Table.{Step, Row, Table}

abbrev pub high : ℕ → ℕ
high n = n / 0x100

abbrev pub low : ℕ → ℕ
low n = n % 0x100

abbrev pub number : ℕ → ℕ → ℕ
number h l = h * 0x100 + l

-- the command with a tag, for each tag of the word
abbrev pub tagged : ℕ → List ℕ → List ℕ
tagged c [] = []
tagged c (a ∷ w) = c ∷ a ∷ tagged c w

-- the bytes of each, one after the other
abbrev pub joined : {A : Type 0} → (A → List ℕ) → List A → List ℕ
joined bytes [] = []
joined bytes (x ∷ xs) = bytes x ++ joined bytes xs

-- "33 with the next state (2 bytes), followed by one 34 with a tag (1 byte) for each tag put out"
abbrev pub step_bytes : Step → List ℕ
step_bytes s = 0x33 ∷ high s.next ∷ low s.next ∷ tagged 0x34 s.output

-- "31, then the number of held tags (1 byte, at most 80); one 32 with a tag (1 byte) for each held tag; then, for each tag", its step
abbrev pub row_bytes : Row → List ℕ
row_bytes r = 0x31 ∷ length r.final ∷ (tagged 0x32 r.final ++ joined step_bytes r.steps)

-- "30, then K (1 byte) and the number of states S (2 bytes)", "each state in order", "00, the last byte"
abbrev pub encode : ℕ → Table → List ℕ
encode k t = 0x30 ∷ k ∷ high (length t) ∷ low (length t) ∷ (joined row_bytes t ++ (0 ∷ []))

-- "Each such call answers one 64-bit number: a length or count times 256 plus the refusal, 0 for none. On a refusal the upper part is 0,
-- or i with 10" (document 01).
use Rattle.std.specs.Prelude.{ℕ, zero, suc, ◌+◌, ◌*◌, ◌/◌, ◌%◌, ◌^◌, ◌<◌, ◌≡◌}
use Rattle.answers.specs.Outcome.{Outcome, result, refused, Place, nothing, byte, rule}

-- of what a refusal names, the rule alone is handed on
abbrev pub named : Place → ℕ
named nothing = 0
named (byte b) = 0
named (rule i) = i

abbrev pub packed : Outcome ℕ → ℕ
packed (result n) = n * 256 + 0
packed (refused n p) = named p * 256 + n

-- reading a book hands on the byte
abbrev pub named_byte : Place → ℕ
named_byte nothing = 0
named_byte (byte b) = b
named_byte (rule i) = 0

abbrev pub packed_byte : Outcome ℕ → ℕ
packed_byte (result n) = n * 256 + 0
packed_byte (refused n p) = named_byte p * 256 + n

-- how a host takes a number apart, into its lower 8 bits and the rest (nedzsuka_refusal and nedzsuka_value in the header): a result if the
-- first is 0, else the refusal, with the rule that the rest names
abbrev pub taken : ℕ → ℕ → Outcome ℕ
taken zero u = result u
taken (suc n) zero = refused (suc n) nothing
taken (suc n) (suc i) = refused (suc n) (rule (suc i))

abbrev pub unpacked : ℕ → Outcome ℕ
unpacked number = taken (number % 256) (number / 256)

abbrev pub taken_byte : ℕ → ℕ → Outcome ℕ
taken_byte zero u = result u
taken_byte (suc n) b = refused (suc n) (byte b)

abbrev pub unpacked_byte : ℕ → Outcome ℕ
unpacked_byte number = taken_byte (number % 256) (number / 256)

-- an outcome without the byte that a book's refusal names
abbrev pub handed : Outcome ℕ → Outcome ℕ
handed (result n) = result n
handed (refused n nothing) = refused n nothing
handed (refused n (byte b)) = refused n nothing
handed (refused n (rule i)) = refused n (rule i)

-- the number of a refusal is neither 0 nor above 255, 10 names a rule, counted from 1, and no other does; what stands above it has 56 bits
abbrev pub Legible : Outcome ℕ → Type 0
Legible (result n) = n < 2 ^ 56
Legible (refused n nothing) = (0 < n) × (n < 256) × (n ≡ 10 → ⊥)
Legible (refused n (byte b)) = (0 < n) × (n < 256) × (n ≡ 10 → ⊥)
Legible (refused n (rule i)) = (n ≡ 10) × (0 < i) × (i < 2 ^ 56)

-- every refusal names a byte, and what stands above its number has 56 bits
abbrev pub LegibleByte : Outcome ℕ → Type 0
LegibleByte (result n) = n < 2 ^ 56
LegibleByte (refused n nothing) = ⊥
LegibleByte (refused n (byte b)) = (0 < n) × (n < 256) × (b < 2 ^ 56)
LegibleByte (refused n (rule i)) = ⊥

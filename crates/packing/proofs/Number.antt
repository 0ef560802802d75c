-- What the number means: if an outcome is legible, its number tells it.
use Prim.Native.Nat.{ℕ, zero, suc, ◌+◌, ◌*◌, ◌/◌, ◌%◌, ◌<◌}
use native.Mathlib.Omega.{arith}
use mathlib.Core.Path.{◌≡◌, ap, ◌∙◌}
use Rattle.answers.specs.Outcome.{Outcome, result, refused, nothing, byte, rule}
use Rattle.packing.specs.Packed.{packed, packed_byte, taken, unpacked, taken_byte, unpacked_byte, handed, Legible, LegibleByte}

lower : (u n : ℕ) → n < 256 → (u * 256 + n) % 256 ≡ n
lower u n h = omega arith

rest : (u n : ℕ) → n < 256 → (u * 256 + n) / 256 ≡ u
rest u n h = omega arith

taken-apart : (u n : ℕ) → n < 256 → unpacked (u * 256 + n) ≡ taken n u
taken-apart u n h = ap (λ (x : ℕ). taken x ((u * 256 + n) / 256)) (lower u n h) ∙ ap (taken n) (rest u n h)

-- "the lower 8 bits and the rest tell every outcome apart", but for the byte that a book's refusal names
pub unpacked-packed : (o : Outcome ℕ) → Legible o → unpacked (packed o) ≡ handed o
unpacked-packed (result n) h = taken-apart n 0 (omega arith)
unpacked-packed (refused zero nothing) h = absurd (omega (arith, h.0))
unpacked-packed (refused (suc n) nothing) h = taken-apart 0 (suc n) h.1
unpacked-packed (refused zero (byte b)) h = absurd (omega (arith, h.0))
unpacked-packed (refused (suc n) (byte b)) h = taken-apart 0 (suc n) h.1
unpacked-packed (refused zero (rule i)) h = absurd (omega (arith, h.0))
unpacked-packed (refused (suc n) (rule zero)) h = absurd (omega (arith, h.1))
unpacked-packed (refused (suc n) (rule (suc i))) h = taken-apart (suc i) (suc n) (omega (arith, h.0))

-- with the byte, no outcome of reading a book is left out
taken-byte : (u n : ℕ) → n < 256 → unpacked_byte (u * 256 + n) ≡ taken_byte n u
taken-byte u n h = ap (λ (x : ℕ). taken_byte x ((u * 256 + n) / 256)) (lower u n h) ∙ ap (taken_byte n) (rest u n h)

pub unpacked-byte : (o : Outcome ℕ) → LegibleByte o → unpacked_byte (packed_byte o) ≡ o
unpacked-byte (result n) h = taken-byte n 0 (omega arith)
unpacked-byte (refused n nothing) h = absurd h
unpacked-byte (refused zero (byte b)) h = absurd (omega (arith, h.0))
unpacked-byte (refused (suc n) (byte b)) h = taken-byte b (suc n) h.1
unpacked-byte (refused n (rule i)) h = absurd h

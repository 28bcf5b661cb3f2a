-- The bytes of a number of two.
use Rattle.std.proofs.Common.{◌≡◌, ℕ, ◌/◌, ◌%◌, ◌^◌, ◌<◌, arith}

pub high_byte : (n : ℕ) → n < 2 ^ 16 → n / 256 % 256 ≡ n / 256
high_byte n fits = omega arith

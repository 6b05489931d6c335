-- The digits of a float's bits. Definitions only.
use Rattle.std.specs.Prelude.{ℕ, ◌+◌, ◌-◌, ◌/◌, ◌%◌, ◌^◌}

-- the 52 digits of the bits b with the leading one, less as many of the lowest as the exponent's field is below u
abbrev pub digits_of : ℕ → ℕ → ℕ
digits_of b u = (2 ^ 52 + b % 2 ^ 52) / 2 ^ (u - b / 2 ^ 52)

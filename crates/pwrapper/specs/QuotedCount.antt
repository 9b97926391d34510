-- Document 01, 'A string': the length of a quoted string.
use Rattle.std.specs.Prelude.{ℕ, ◌^◌, cond, nat_lt, Result, Ok, Err}
use Rattle.error.specs.declared.Error.{Error}
use Rattle.error.specs.declared.Error.TheVariants.{CountTooLarge}

-- 'The answer to a call': 6 where a count passes 2^64 - 1
abbrev pub count_of : ℕ → Result ℕ Error
count_of n = cond (nat_lt n (2 ^ 64)) (Ok n) (Err CountTooLarge)

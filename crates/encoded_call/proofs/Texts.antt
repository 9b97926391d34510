-- The text of a call in the pool.
use Rattle.std.proofs.Common.{None}
use Rattle.std.specs.Option.{option_map}
use mathlib.Core.Path.{◌≡◌}
use mathlib.Core.List.{List}
use Prim.Native.Nat.{ℕ, ◌+◌, ◌-◌, ◌≤◌, ◌<◌}
use native.Mathlib.Omega.{arith}
use lib.ListN.{length, take, drop}
use borrow.Author.Tests.{le-leb, lt-leb}
use Rattle.formatter.specs.Calls.{call_of}
use Rattle.encoded_call.specs.Encoding.{op_at, call_at}

-- the text of a call: past the pool, longer than the pool, or within it
module _ (o i n a b : ℕ) (t : List ℕ) where
  pub text_past : length t < i → call_at o i n a b t ≡ None
  unfolding call_at
  text_past p = rw (lt-leb i (length t) p)

  pub text_long : i ≤ length t → length t - i < n → call_at o i n a b t ≡ None
  unfolding call_at
  text_long p q = rw (le-leb i (length t) p, lt-leb n (length t - i) q)

  pub text-within : i ≤ length t → n ≤ length t - i → call_at o i n a b t ≡ option_map (λ op. call_of op (take (i + n - i) (drop i t))) (op_at o a b)
  unfolding call_at
  text-within p q = let e : i + n - i ≡ n = omega arith in rw (le-leb i (length t) p, le-leb n (length t - i) q, e)

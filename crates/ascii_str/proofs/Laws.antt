-- Laws of the ASCII test: at a byte above 127, at one up to 127, and at the end.
use mathlib.Core.Path.{◌≡◌}
use mathlib.Core.List.{List}
use Prim.Native.Nat.{ℕ, ◌+◌, ◌≤◌, ◌<◌}
use native.Mathlib.Numerals.{add-one}
use lib.ListN.{length, drop, get_or, drop_of_length-le}
use lib.Seq.{drop-cons}
use borrow.Author.Tests.{le-leb, lt-leb}
use Rattle.ascii_str.specs.Ascii.{ascii_from}
use Rattle.std.specs.Prelude.{Ok, Err}

module _ (s : List ℕ) (i : ℕ) where
  pub above : i < length s → 127 < get_or s i 0 → ascii_from i (drop i s) ≡ Err (record { invalid_from = i })
  unfolding ascii_from
  above h k = rw (drop-cons s i 0 h) (simp (lt-leb _ _ k))

  pub below : i < length s → get_or s i 0 ≤ 127 → ascii_from i (drop i s) ≡ ascii_from (i + 1) (drop (i + 1) s)
  unfolding ascii_from
  below h k = rw (add-one, drop-cons s i 0 h) (simp (le-leb _ _ k, add-one))

  pub end : length s ≤ i → ascii_from i (drop i s) ≡ Ok tt
  unfolding ascii_from
  end h = rw (drop_of_length-le s h)

-- A clamped range is a range of the text.
use Rattle.std.specs.Prelude.{◌≡◌, ℕ, ◌≤◌, List, length}
use native.Mathlib.Nat.{min-le_right}
use Rattle.utils.specs.declared.Range.{Range}
use Rattle.utils.specs.Text.{saturated}

module _ (s : List ℕ) (r q : Range) (e : q ≡ saturated s r) where
  pub clamped_order : q.start ≤ q.end
  clamped_order = rw e (min-le_right r.start _)

  pub clamped_end : q.end ≤ length s
  clamped_end = rw e (min-le_right r.end (length s))

-- A text laid at the end of an array.
use mathlib.Core.Path.{◌≡◌}
use mathlib.Core.List.{List}
use Prim.Native.Nat.{ℕ}
use Rattle.pargument.specs.Integer.{start_of, array_of}
use Rattle.single_writes.specs.Laid.{Laid, laid}

-- it is so by its place and by the array
pub laid_so : (n : ℕ) (t : List ℕ) {s : ℕ} {a : List ℕ} → (s ≡ start_of n t) × (a ≡ array_of n t) → ◌≡◌ {A = Laid} (record { answer = 0; start = s; array = a }) (laid n t)
laid_so n t e = rw (e.0, e.1)

-- Document 01, 'A string': ranges and boundaries.
use Rattle.std.specs.Prelude.{Bool, cond, ◌||◌, List, ℕ, min, ltb, eqb, length, get_or}
use Rattle.std.proofs.Math.Seq.{slice}
use Rattle.utils.specs.declared.Range.{Range}

-- 'A string': ranges clamp, end to the length, then start to the end
abbrev pub saturated : List ℕ → Range → Range
saturated s r = record { start = min r.start (min r.end (length s)); end = min r.end (length s) }

-- 'A string': the bytes of a clamped range
abbrev pub part : List ℕ → Range → List ℕ
part s r = slice (saturated s r).start (saturated s r).end s

-- 'A string': a place is a boundary at the end, or before a byte outside 80 to BF (hexadecimal)
abbrev pub is_boundary : List ℕ → ℕ → Bool
is_boundary s i = cond (ltb i (length s)) (ltb (get_or s i 0) 0x80 || ltb 0xBF (get_or s i 0)) (eqb i (length s))

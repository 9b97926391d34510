-- the bytes that are left tell what the text does
use Rattle.std.proofs.Common.{◌≡◌, drop}
use Rattle.ascii_str.specs.Ascii.{ascii_from}
use Rattle.ascii_str.proofs.check_ascii.Given as goal

abbrev pub invariant-loop-invalid_from : goal.invariant-loop-invalid_from
invariant-loop-invalid_from l = ascii_from l.invalid_from (drop l.invalid_from l.s) ≡ ascii_from 0 l.s

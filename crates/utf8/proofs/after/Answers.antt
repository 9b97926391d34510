-- `utf8::after` meets its contract: an octet between characters begins one, and any other is in the range that had to follow or not.
use borrow.Author.Rules.{rules}
use native.Mathlib.Omega.{arith}
use Rattle.utf8.specs.Utf8.{continues}
use Rattle.utf8.proofs.Ranges.{passes, fails}
use Rattle.utf8.proofs.after.Goals as goal

pub returns-then-count-eq0 : goal.returns-then-count-eq0
unfolding continues
returns-then-count-eq0 c = search rules

pub returns-then-a-low : goal.returns-then-a-low
returns-then-a-low c = let x = c.args in fails x.e.0 x.e.1 x.e.2 x.a (omega arith) (omega arith)

pub returns-then-high-a : goal.returns-then-high-a
returns-then-high-a c = let x = c.args in fails x.e.0 x.e.1 x.e.2 x.a (omega arith) (omega arith)

pub returns : goal.returns
returns c = let x = c.args in passes x.e.0 x.e.1 x.e.2 x.a (omega arith) (omega arith) (omega arith)

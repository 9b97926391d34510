-- `utf8::after_first` meets its contract: each return is an alternative of the grammar, or none.
use native.Mathlib.Omega.{arith}
use Rattle.utf8.proofs.Grammar.{one, two, three-E0, three-ED, three, four-F0, four-F4, four, none-low, none-high}
use Rattle.utf8.proofs.Ranges.{begins, breaks}
use Rattle.utf8.proofs.after_first.Goals as goal

pub returns-then-a-lt128 : goal.returns-then-a-lt128
returns-then-a-lt128 c = begins (one (omega arith))

pub returns-then-a-lt194 : goal.returns-then-a-lt194
returns-then-a-lt194 c = breaks _ (none-low _ (omega arith) (omega arith))

pub returns-then-a-lt224 : goal.returns-then-a-lt224
returns-then-a-lt224 c = begins (two (omega arith))

pub returns-then-a-eq224 : goal.returns-then-a-eq224
returns-then-a-eq224 c = begins (three-E0 c.if-a-eq224.true)

pub returns-then-a-eq237 : goal.returns-then-a-eq237
returns-then-a-eq237 c = begins (three-ED c.if-a-eq237.true)

pub returns-then-a-lt240 : goal.returns-then-a-lt240
returns-then-a-lt240 c = begins (three (omega arith))

pub returns-then-a-eq240 : goal.returns-then-a-eq240
returns-then-a-eq240 c = begins (four-F0 c.if-a-eq240.true)

pub returns-then-a-lt244 : goal.returns-then-a-lt244
returns-then-a-lt244 c = begins (four (omega arith))

pub returns-then-a-eq244 : goal.returns-then-a-eq244
returns-then-a-eq244 c = begins (four-F4 c.if-a-eq244.true)

pub returns : goal.returns
returns c = breaks _ (none-high _ (omega arith))

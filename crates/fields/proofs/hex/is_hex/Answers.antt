use Rattle.std.proofs.Common.{rules, tests}
use borrow.Author.Tests.{eq-eqb, ne_eqb}
use Rattle.std.proofs.lemmas.Iterator.{YieldsList-from_slice}
use Rattle.std.proofs.lemmas.Iterator.Search.{all_from_yields_List}
use Rattle.fields.specs.Hex.{is_hex_digit}
use Rattle.fields.proofs.Pairs.{hex_digits}
use Rattle.fields.proofs.hex.is_hex.Goals as goal

pub returns-then-s-eq0 : goal.returns-then-s-eq0
returns-then-s-eq0 c =
    rw (hex_digits c.args.s.now, eq-eqb _ 0 c.if-s-eq0.true)
    (all_from_yields_List is_hex_digit _ _ _ c.all.ensures.ran (YieldsList-from_slice c.args.s.now cc) (λ x b q k. search (rules, tests)))

pub returns-else-s-eq0 : goal.returns-else-s-eq0
returns-else-s-eq0 c = rw (hex_digits c.args.s.now, ne_eqb _ 0 c.if-s-eq0.false)

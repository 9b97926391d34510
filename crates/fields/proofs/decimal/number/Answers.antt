use borrow.Author.Rules.{rules}
use Rattle.fields.specs.Decimal.{is_shortest}
use Rattle.fields.proofs.decimal.number.Goals as goal

pub returns-in-empty : goal.returns-in-empty
unfolding is_shortest
returns-in-empty c = search rules

pub returns-in-48 : goal.returns-in-48
unfolding is_shortest
returns-in-48 c = search rules

pub returns-in_default : goal.returns-in_default
unfolding is_shortest
returns-in_default c = search rules

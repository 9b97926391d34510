use borrow.Author.Rules.{rules}
use Rattle.encoded_call.proofs.Decoding.{from_zero, below-zero}
use Rattle.encoded_call.proofs.signed_at.Goals as goal

pub returns-then-a-most : goal.returns-then-a-most
returns-then-a-most c = from_zero c.args.width _ _ c.greatest-most.ensures (search rules) c.if-a-most.true

pub returns : goal.returns
returns c = below-zero c.args.width _ _ c.greatest-most.ensures (search rules) c.if-a-most.false (search rules)

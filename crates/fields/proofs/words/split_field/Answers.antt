use Rattle.fields.proofs.Splitting.{one_field, field_more}
use Rattle.fields.proofs.words.split_field.Goals as goal

pub returns-in_err-comma : goal.returns-in_err-comma
returns-in_err-comma c = rw c.from_residual.ensures (one_field c.args.s.now _ c.first_comma.ensures.place c.in_err-comma.was)

pub returns : goal.returns
returns c = field_more c.args.s.now _ c.first_comma.ensures.place _ c.in_ok-comma.was c.in_ok-comma.ensures.within

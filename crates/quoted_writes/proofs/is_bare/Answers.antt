use Rattle.quoted_writes.proofs.Quoting.{bare_test}
use Rattle.quoted_writes.proofs.is_bare.Goals as goal

pub returns : goal.returns
returns c = bare_test c.args.b

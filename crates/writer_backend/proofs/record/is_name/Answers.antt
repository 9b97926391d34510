use borrow.Author.Rules.{rules}
use Rattle.utf8.specs.Utf8.{continues}
use Rattle.writer_backend.proofs.record.is_name.Goals as goal

pub returns-in-List : goal.returns-in-List
unfolding continues
returns-in-List c = search rules

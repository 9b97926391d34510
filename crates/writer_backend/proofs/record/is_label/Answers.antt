use borrow.Author.Rules.{rules}
use Rattle.utf8.specs.Utf8.{continues}
use Rattle.writer_backend.proofs.record.is_label.Goals as goal

pub returns-in-Item : goal.returns-in-Item
unfolding continues
returns-in-Item c = search rules

use mathlib.Core.List.{[]}
use Rattle.calls.specs.Model.{counting}
use Rattle.table_text.proofs.Flags.{no_answers, refused}
use Rattle.table_text.proofs.count.Goals as goal

pub returns-in_default-clause-answers_after : goal.returns-in_default-clause-answers_after
returns-in_default-clause-answers_after c =
    no_answers c.args.flags (refused _ _ c.try_from.ensures c.in_default.not-Ok) c.args.calls.now c.args.text.now (counting 0) [] c.args.answers.now

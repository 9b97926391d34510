use Rattle.encoded_call.specs.Encoding.{decode}
use Rattle.run.proofs.Agreed.{count_agrees}
use Rattle.run.proofs.count_run_each.Goals as goal

pub returns-clause-count_agrees : goal.returns-clause-count_agrees
returns-clause-count_agrees c =
    count_agrees c.args.settings (decode c.args.calls.now c.args.text.now) c.count_each_from.result c.count_each_from.ensures.result_value

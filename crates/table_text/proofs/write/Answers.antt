use native.Mathlib.Omega.{arith}
use Rattle.calls.specs.Model.{writing}
use Rattle.table_text.proofs.Flags.{as_counted, no_answers, refused, taken}
use Rattle.table_text.proofs.write.Goals as goal

pub returns-then-buf-at-clause-answers_after : goal.returns-then-buf-at-clause-answers_after
returns-then-buf-at-clause-answers_after c =
    let a = c.args in
    no_answers a.flags (refused _ _ c.try_from.ensures c.in_default.not-Ok) a.calls.now a.text.now (writing a.at) a.buf.now a.answers.now

pub returns-in_default-clause-answers_after : goal.returns-in_default-clause-answers_after
returns-in_default-clause-answers_after c =
    let a = c.args in
    no_answers a.flags (refused _ _ c.try_from.ensures c.in_default.not-Ok) a.calls.now a.text.now (writing a.at) a.buf.now a.answers.now

pub returns-clause-writes_as_counted : goal.returns-clause-writes_as_counted
returns-clause-writes_as_counted c =
    let a = c.args in
    let t = taken a.flags c.in-Ok.flags c.in-Ok.ensures in
    let e = rw t.1 at c.write_run_each.ensures.writes_as_counted in
    as_counted a.flags (omega (arith, t.0)) a.calls.now a.text.now a.buf.now a.at _ _ _ e

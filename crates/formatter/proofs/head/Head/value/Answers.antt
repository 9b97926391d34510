use Rattle.std.proofs.Common.{◌≡◌, sym, ◌∙◌, take, arith}
use Rattle.calls.specs.Call.{ready}
use Rattle.calls.specs.Model.{inner}
use Rattle.formatter.specs.View.{stack_of, depth_of}
use Rattle.formatter.proofs.Steps.{value_done}
use Rattle.formatter.proofs.head.Head.value.Goals as goal

pub returns : goal.returns
returns c =
    let a = c.args in
    let r : c.is_ready.result ≡ ready (inner (stack_of (take (depth_of a.self.now.depth) a.stack.now))) = grind arith in
    value_done _ _ _ _ _ _ _ _ _ c.in_ok-judge.ensures (sym c.if-not-is_ready.false ∙ r) c.put_value.ensures

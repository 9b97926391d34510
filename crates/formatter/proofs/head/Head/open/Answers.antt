use Rattle.std.proofs.Common.{◌≡◌, ◌<◌, ◌+◌, length, rules, arith}
use Rattle.writer_backend.specs.Output.{output_of}
use Rattle.formatter.specs.View.{depth_of}
use Rattle.formatter.proofs.Laws.{stack_more, length_stack}
use Rattle.formatter.proofs.Steps.{held_name, open_done}
use Rattle.formatter.proofs.head.Head.open.Goals as goal

pub returns : goal.returns
returns c = let a = c.args in
    let d = c.open_entries-depth.result in
    let m : d < 64 = search rules in
    let r : d < length a.stack.now = omega (arith, m, c.told-stack) in
    let n : depth_of (d + 1) ≡ d + 1 = omega (arith, c.told-stack) in
    rw (n, ← c.open_entries-depth.ensures.value, stack_more a.stack.now d _ r, c.err-held.ensures.value, held_name (output_of a.self.now.writer a.buf.now) _ a.kind a.name.now c.put_name.result c.put_name.ensures)
    (open_done _ _ _ c.in_ok-judge.ensures _ a.kind a.name.now _ _ (rw length_stack c.in_ok-judge_open.ensures) c.put_name.ensures)

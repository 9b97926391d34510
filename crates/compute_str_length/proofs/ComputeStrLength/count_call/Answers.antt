use Rattle.std.proofs.Common.{Some, None, refl}
use Rattle.formatter.specs.Calls.{call_of}
use Rattle.compute_str_length.proofs.Counted.{call_counts}
use Rattle.compute_str_length.proofs.ComputeStrLength.count_call.Goals as goal
use Rattle.compute_str_length.proofs.ComputeStrLength.count_call.Goals.{in-Some, in-None}

pub returns : goal.returns
returns c =
    let a = c.args in
    elim c.match-op.branch [
      | in-Some w ↦
          let r = w.call-answer in
          rw (w.head-is, w.stack-is, w.answer-is, w.in-Some.is)
          (call_counts a.self.now.len a.head.now c.counting-head.result a.stack.now (Some (call_of w.in-Some.op a.text.now)) r.result r.new.self r.new.stack _ c.counting-head.ensures r.auto.buf r.ensures)
      | in-None w ↦
          let r = w.no_call-answer in
          rw (w.head-is, w.stack-is, w.answer-is, w.in-None.is)
          (call_counts a.self.now.len a.head.now c.counting-head.result a.stack.now None r.result _ a.stack.now _ c.counting-head.ensures refl (r.ensures a.stack.now))
    ]

use mathlib.Core.Path.{ap}
use Rattle.str_writer.specs.Write.{Outcome}
use Rattle.str_writer.proofs.Outcomes.{put-short, put-done}
use Rattle.str_writer.proofs.faults.room_fault.Goals as goal

pub returns-then-room-n : goal.returns-then-room-n
returns-then-room-n c = λ b t at h e k. ap (λ (o : Outcome). o.written.answer) (put-short b at t h (rw (e, k) c.if-room-n.true))

pub returns : goal.returns
returns c = λ b t at h e k. ap (λ (o : Outcome). o.written.answer) (put-done b at t h (rw (e, k) c.if-room-n.false))

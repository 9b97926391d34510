use Rattle.formatter.proofs.Laws.{inner_last}
use Rattle.formatter.proofs.faults.judge_place.Goals as goal

pub returns : goal.returns
returns c = let last = c.in-Some-Builder.ensures.item in
    rw (inner_last c.args.entries.now c.in-Some-Builder.builder c.in-Some-Builder.field-0-is last.3.0 last.1) (c.place_fault.ensures c.in-Some-Builder.builder.has_field 0 0)

use mathlib.Core.Path.{sym, ap, ◌∙◌}
use Rattle.error.specs.Answer.{answer_of}
use Rattle.str_writer.proofs.Values.{str-cut-start, str-cut-end, str_uncut}
use Rattle.str_writer.proofs.faults.range_fault.Goals as goal

pub returns-then-not-is_char_boundary : goal.returns-then-not-is_char_boundary
returns-then-not-is_char_boundary c = λ m.
    let k = rw c.saturate_range-start.ensures at (sym c.is_char_boundary.ensures ∙ c.if-not-is_char_boundary.true) in
    sym (ap answer_of (str-cut-start m c.args.s.now c.args.range k))

pub returns-then-not-is_char_boundary-2 : goal.returns-then-not-is_char_boundary-2
returns-then-not-is_char_boundary-2 c = λ m.
    let k = rw c.saturate_range-start.ensures at (sym c.is_char_boundary-2.ensures ∙ c.if-not-is_char_boundary-2.true) in
    sym (ap answer_of (str-cut-end m c.args.s.now c.args.range k))

pub returns : goal.returns
returns c = λ m.
    let q = c.saturate_range-start in
    let k = rw q.ensures at (sym c.is_char_boundary.ensures ∙ c.if-not-is_char_boundary.false) in
    let l = rw q.ensures at (sym c.is_char_boundary-2.ensures ∙ c.if-not-is_char_boundary-2.false) in
    sym (ap answer_of (str_uncut m c.args.s.now c.args.range k l))

use Rattle.str_writer.proofs.Splice.{splice-nil}
use Rattle.sheet_line.proofs.Splits.{call_many}
use Rattle.sheet_line.proofs.line_fields.Goals as goal

pub returns-in-Some-split_field-2 : goal.returns-in-Some-split_field-2
returns-in-Some-split_field-2 c =
    rw (c.in-Some.ensures.all, c.in-Some-split_field.ensures.all, ← call_many c.in-Some-split_field.rest.now _ _ c.in-Some-split_field-2.ensures _ _, splice-nil c.args.text.now 0)

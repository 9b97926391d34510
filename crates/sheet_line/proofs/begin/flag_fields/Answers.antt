use Rattle.sheet_line.proofs.Splits.{flags_more}
use Rattle.sheet_line.proofs.begin.flag_fields.Goals as goal

pub returns-then-is_some : goal.returns-then-is_some
returns-then-is_some c =
    rw (c.in_ok-format.ensures.all, c.in_ok-digits.ensures.all) (flags_more c.in_ok-digits.layout.now _ _ _ c.split_field-3.ensures c.if-is_some.ensures)

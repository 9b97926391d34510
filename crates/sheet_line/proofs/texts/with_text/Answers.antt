use Rattle.sheet_line.proofs.Readings.{text-read, not-read}
use Rattle.sheet_line.proofs.texts.with_text.Goals as goal

pub returns-in_err-len : goal.returns-in_err-len
returns-in_err-len c = rw c.from_residual.ensures (not-read c.args.t c.args.text.now c.args.a.now c.requires _ _ c.from_hex.ensures c.in_err-len.was)

pub returns : goal.returns
returns c = text-read c.args.t c.args.text.now c.args.a.now c.requires _ _ c.from_hex.ensures c.in_ok-len.len c.op_with.result c.in_ok-len.was c.op_with.ensures

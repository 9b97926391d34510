use mathlib.Core.Path.{sym, ap, ◌∙◌}
use Rattle.error.specs.Answer.{answer_of}
use Rattle.str_writer.proofs.Judging.{handed}
use Rattle.str_writer.proofs.Values.{ascii-fault, ascii_fine}
use Rattle.str_writer.proofs.faults.ascii_fault.Goals as goal

pub returns-in_err-check_ascii : goal.returns-in_err-check_ascii
returns-in_err-check_ascii c = λ m r. handed _ _ c.from_residual.ensures.1 ∙ sym (ap answer_of (ascii-fault m c.args.s.now r _ (sym c.in_err-check_ascii.ensures)))

pub returns : goal.returns
returns c = λ m r. sym (ap answer_of (ascii_fine m c.args.s.now r (sym c.in_ok-check_ascii.ensures)))

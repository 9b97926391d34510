use Rattle.std.proofs.Common.{arith, ap, sym, ◌∙◌}
use Rattle.std.specs.Prelude.{Err}
use Rattle.sheet.specs.Sheet.{bad_text, refused_text}
use Rattle.sheet_stream.specs.Left.{first, later}
use Rattle.sheet_stream.proofs.Laws.{goes-on, answers-over, answers-fresh, begin_bad, begin-refused, fresh-size}
use Rattle.sheet_stream.proofs.State.answer_first.Goals as goal

pub zero-requires : goal.zero-requires
zero-requires c = let h = fresh-size c.in-Ok.field-0 c.args.l.now (sym c.parse_begin.ensures ∙ c.in-Ok.is) in omega arith

pub returns-in-Err-Form-clause-answers : goal.returns-in-Err-Form-clause-answers
returns-in-Err-Form-clause-answers c =
    let a = c.args in
    let e = sym c.parse_begin.ensures ∙ c.in-Err-Form.is ∙ ap Err c.in-Err-Form.field-0-is in
    rw (goes-on a.at c.put_bad.result c.unwrap_or.ensures) at (answers-over first a.l.now a.out.now _ a.at (bad_text 1) _ (begin_bad a.l.now e) c.put_bad.ensures.out_after (omega arith) c.requires.1)

pub returns-in-Err-Cursor-clause-answers : goal.returns-in-Err-Cursor-clause-answers
returns-in-Err-Cursor-clause-answers c =
    let a = c.args in
    let e = sym c.parse_begin.ensures ∙ c.in-Err-Cursor.is ∙ ap Err c.in-Err-Cursor.field-0-is in
    rw (goes-on a.at c.put_refused.result c.unwrap_or-in-Err-Cursor.ensures) at (answers-over first a.l.now a.out.now _ a.at refused_text _ (begin-refused a.l.now e) c.put_refused.ensures (omega arith) c.requires.1)

pub returns-in-Ok-clause-answers : goal.returns-in-Ok-clause-answers
returns-in-Ok-clause-answers c =
    let e = sym c.parse_begin.ensures ∙ c.in-Ok.is in
    answers-fresh c.args.l.now c.args.out.now c.args.at _ _ _ _ e (ap (later 2) (c.fresh.ensures _ ∙ rw c.zero.ensures))

pub returns-in-Ok-clause-onward : goal.returns-in-Ok-clause-onward
returns-in-Ok-clause-onward c =
    let h = fresh-size c.in-Ok.field-0 c.args.l.now (sym c.parse_begin.ensures ∙ c.in-Ok.is) in
    record { size = h; counts = omega arith }

use Rattle.std.proofs.Common.{rules, ◌≤◌, length, arith}
use Rattle.formatting.specs.Bytes.{bytes}
use Rattle.sheet.specs.Sheet.{bad_text}
use Rattle.sheet.proofs.Printing.{at_start, next-cell, cell-fits, last}
use Rattle.sheet.proofs.print.lay_bad.Goals as goal

pub returns-in_err-at-clause-out_after : goal.returns-in_err-at-clause-out_after
returns-in_err-at-clause-out_after c = let b = c.args.out.now in
    let q : 25 ≤ length b = c.requires in
    cell-fits (at_start b 0 (omega arith)) c.args.line 44 (search rules) (omega arith) c.in_err-at.ensures

pub returns-clause-out_after : goal.returns-clause-out_after
unfolding bad_text
returns-clause-out_after c = let b = c.args.out.now in
    let q : 25 ≤ length b = c.requires in
    let a₁ = next-cell (at_start b 0 (omega arith)) c.args.line 44 (search rules) (omega arith) c.in_ok-at.ensures in
    last a₁ 4 (bytes "bad\n") (omega arith) (omega arith) c.put.result c.put.ensures

use Rattle.std.proofs.Common.{rules, ◌≤◌, length, arith}
use Rattle.formatting.specs.Bytes.{bytes}
use Rattle.sheet.proofs.Printing.{at_start, next, fits, next-cell, cell-fits, last-cell}
use Rattle.sheet.proofs.print.lay_end.Goals as goal

pub returns-in_err-at-clause-out_after : goal.returns-in_err-at-clause-out_after
returns-in_err-at-clause-out_after c = let b = c.args.out.now in
    let q : 46 ≤ length b = c.requires in
    fits (at_start b 0 (omega arith)) 4 (bytes "end,") (omega arith) (omega arith) c.in_err-at.ensures

pub returns-in_err-at-2-clause-out_after : goal.returns-in_err-at-2-clause-out_after
returns-in_err-at-2-clause-out_after c = let b = c.args.out.now in
    let q : 46 ≤ length b = c.requires in
    let a₁ = next (at_start b 0 (omega arith)) 4 (bytes "end,") (omega arith) (omega arith) c.in_ok-at.ensures in
    cell-fits a₁ c.args.total 44 (search rules) (omega arith) c.in_err-at-2.ensures

pub returns-clause-out_after : goal.returns-clause-out_after
returns-clause-out_after c = let b = c.args.out.now in
    let q : 46 ≤ length b = c.requires in
    let a₁ = next (at_start b 0 (omega arith)) 4 (bytes "end,") (omega arith) (omega arith) c.in_ok-at.ensures in
    let a₂ = next-cell a₁ c.args.total 44 (search rules) (omega arith) c.in_ok-at-2.ensures in
    last-cell a₂ c.args.cursor 44 (search rules) (omega arith) c.put_number-2.result c.put_number-2.ensures

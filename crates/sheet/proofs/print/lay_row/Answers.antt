use Rattle.std.proofs.Common.{rules, ◌≤◌, length, arith}
use Rattle.sheet.specs.Sheet.{row_text}
use Rattle.sheet.proofs.Printing.{at_start, next-cell, cell-fits, last-cell}
use Rattle.sheet.proofs.print.lay_row.Goals as goal

pub returns-in_err-at-clause-out_after : goal.returns-in_err-at-clause-out_after
returns-in_err-at-clause-out_after c = let b = c.args.out.now in let r = c.args.row in
    let q : 105 ≤ length b = c.requires in
    let a₀ = at_start b 0 (omega arith) in
    cell-fits a₀ r.line 44 (search (rules, c.well_formed)) (omega arith) c.in_err-at.ensures

pub returns-in_err-at-2-clause-out_after : goal.returns-in_err-at-2-clause-out_after
returns-in_err-at-2-clause-out_after c = let b = c.args.out.now in let r = c.args.row in
    let q : 105 ≤ length b = c.requires in
    let a₀ = at_start b 0 (omega arith) in
    let a₁ = next-cell a₀ r.line 44 (search (rules, c.well_formed)) (omega arith) c.in_ok-at.ensures in
    cell-fits a₁ r.counting_answer 44 (search (rules, c.well_formed)) (omega arith) c.in_err-at-2.ensures

pub returns-in_err-at-3-clause-out_after : goal.returns-in_err-at-3-clause-out_after
returns-in_err-at-3-clause-out_after c = let b = c.args.out.now in let r = c.args.row in
    let q : 105 ≤ length b = c.requires in
    let a₀ = at_start b 0 (omega arith) in
    let a₁ = next-cell a₀ r.line 44 (search (rules, c.well_formed)) (omega arith) c.in_ok-at.ensures in
    let a₂ = next-cell a₁ r.counting_answer 44 (search (rules, c.well_formed)) (omega arith) c.in_ok-at-2.ensures in
    cell-fits a₂ r.total 44 (search (rules, c.well_formed)) (omega arith) c.in_err-at-3.ensures

pub returns-in_err-at-4-clause-out_after : goal.returns-in_err-at-4-clause-out_after
returns-in_err-at-4-clause-out_after c = let b = c.args.out.now in let r = c.args.row in
    let q : 105 ≤ length b = c.requires in
    let a₀ = at_start b 0 (omega arith) in
    let a₁ = next-cell a₀ r.line 44 (search (rules, c.well_formed)) (omega arith) c.in_ok-at.ensures in
    let a₂ = next-cell a₁ r.counting_answer 44 (search (rules, c.well_formed)) (omega arith) c.in_ok-at-2.ensures in
    let a₃ = next-cell a₂ r.total 44 (search (rules, c.well_formed)) (omega arith) c.in_ok-at-3.ensures in
    cell-fits a₃ r.writing_answer 44 (search (rules, c.well_formed)) (omega arith) c.in_err-at-4.ensures

pub returns-clause-out_after : goal.returns-clause-out_after
unfolding row_text
returns-clause-out_after c = let b = c.args.out.now in let r = c.args.row in
    let q : 105 ≤ length b = c.requires in
    let a₀ = at_start b 0 (omega arith) in
    let a₁ = next-cell a₀ r.line 44 (search (rules, c.well_formed)) (omega arith) c.in_ok-at.ensures in
    let a₂ = next-cell a₁ r.counting_answer 44 (search (rules, c.well_formed)) (omega arith) c.in_ok-at-2.ensures in
    let a₃ = next-cell a₂ r.total 44 (search (rules, c.well_formed)) (omega arith) c.in_ok-at-3.ensures in
    let a₄ = next-cell a₃ r.writing_answer 44 (search (rules, c.well_formed)) (omega arith) c.in_ok-at-4.ensures in
    last-cell a₄ r.cursor 10 (search (rules, c.well_formed)) (omega arith) c.put_number-5.result c.put_number-5.ensures

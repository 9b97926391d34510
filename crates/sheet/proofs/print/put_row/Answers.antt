use Rattle.std.proofs.Common.{rules}
use Rattle.sheet.specs.Sheet.{row_text}
use Rattle.sheet.proofs.Printing.{not_refused, laid-end, laid-fits, laid-text}
use Rattle.sheet.proofs.print.put_row.Goals as goal

pub returns-in_err-len-clause-out_after : goal.returns-in_err-len-clause-out_after
returns-in_err-len-clause-out_after c = not_refused _ 0 (row_text c.args.row) c.in_err-len.ensures.out_after (search (rules, c.in_err-len.ensures.row_len_bound))

pub slice_bounds-text-end : goal.slice_bounds-text-end
slice_bounds-text-end c = let e = c.in_ok-len.ensures in laid-fits _ (row_text c.args.row) 105 e.out_after e.row_len_bound (search rules)

pub slice_bounds-put-end : goal.slice_bounds-put-end
slice_bounds-put-end c = let e = c.in_ok-len.ensures in
    rw (laid-text _ (row_text c.args.row) 105 e.out_after e.row_len_bound (search rules)) (laid-end _ (row_text c.args.row) 105 e.out_after e.row_len_bound (search rules))

pub returns-clause-out_after : goal.returns-clause-out_after
returns-clause-out_after c = let e = c.in_ok-len.ensures in rw (laid-text _ (row_text c.args.row) 105 e.out_after e.row_len_bound (search rules)) at c.put.ensures

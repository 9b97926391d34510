use Rattle.std.proofs.Common.{rules, refl, ◌≤◌, ◌*◌, [], ◌∷◌, length, arith}
use Rattle.str_writer.proofs.Outcomes.{put-short}
use Rattle.str_writer.proofs.Judging.{handed, met, cursor-fits, put-cursor, put-met}
use Rattle.fields.specs.Hex.{hex_pairs}
use Rattle.fields.proofs.Pairs.{pairs-length}
use Rattle.sheet.specs.Sheet.{end_head, end_line}
use Rattle.sheet.proofs.Printing.{end-length, not_refused, laid-end, laid-fits, laid-text, at_start, next, fits, last}
use Rattle.sheet.proofs.print.put_end.Goals as goal
use Rattle.sheet.proofs.print.put_end.Goals.{then-room-len-via-then-room-len, then-room-len-via-else-room-len+then-room-len-2}

pub returns-in_err-len-clause-out_after : goal.returns-in_err-len-clause-out_after
returns-in_err-len-clause-out_after c = let a = c.args in let head = end_head a.total a.cursor in
    not_refused _ 0 head c.in_err-len.ensures.out_after (search (rules, c.in_err-len.ensures.len_bound))

pub returns-in_err-cursor_fault-clause-out_after : goal.returns-in_err-cursor_fault-clause-out_after
returns-in_err-cursor_fault-clause-out_after c = let a = c.args in let line = end_line a.total a.cursor a.s.now in
    let e = put-cursor a.out.now a.at line _ (met _ _ (c.in_err-cursor_fault.ensures a.out.now refl)) in
    rw (handed _ _ c.from_residual-in_err-cursor_fault.ensures.1) (put-met a.out.now a.at line _ e)

pub returns-then-room-len-clause-out_after : goal.returns-then-room-len-clause-out_after
returns-then-room-len-clause-out_after c = let a = c.args in let head = end_head a.total a.cursor in
    let l = c.in_ok-len.ensures in
    let inside : a.at ≤ length a.out.now = cursor-fits a.out.now a.at (met _ _ (c.in_ok-cursor_fault.ensures a.out.now refl)) in
    let e = laid-end _ head 46 l.out_after l.len_bound (search rules) in
    let k = end-length a.total a.cursor a.s.now in
    elim c.then-room-len.branch [
      | then-room-len-via-then-room-len w ↦ put-short a.out.now a.at _ inside (omega (arith, w.if-room-len.true))
      | then-room-len-via-else-room-len+then-room-len-2 w ↦ put-short a.out.now a.at _ inside (omega (arith, w.if-room-len-2.true))
    ]

pub slice_bounds-text-end : goal.slice_bounds-text-end
slice_bounds-text-end c = let a = c.args in let head = end_head a.total a.cursor in
    let l = c.in_ok-len.ensures in
    laid-fits _ head 46 l.out_after l.len_bound (search rules)

pub slice_bounds-put-end : goal.slice_bounds-put-end
slice_bounds-put-end c = let a = c.args in let head = end_head a.total a.cursor in
    let l = c.in_ok-len.ensures in
    rw (laid-text _ head 46 l.out_after l.len_bound (search rules)) (laid-end _ head 46 l.out_after l.len_bound (search rules))

pub returns-in_err-head-clause-out_after : goal.returns-in_err-head-clause-out_after
returns-in_err-head-clause-out_after c = let a = c.args in let head = end_head a.total a.cursor in
    let l = c.in_ok-len.ensures in
    let inside : a.at ≤ length a.out.now = cursor-fits a.out.now a.at (met _ _ (c.in_ok-cursor_fault.ensures a.out.now refl)) in
    let e = laid-end _ head 46 l.out_after l.len_bound (search rules) in
    fits (at_start a.out.now a.at inside) c.in_ok-len.len head (omega arith) (omega arith) (rw (laid-text _ head 46 l.out_after l.len_bound (search rules)) at c.in_err-head.ensures)

pub returns-in_err-pairs-clause-out_after : goal.returns-in_err-pairs-clause-out_after
returns-in_err-pairs-clause-out_after c = let a = c.args in let head = end_head a.total a.cursor in
    let l = c.in_ok-len.ensures in
    let inside : a.at ≤ length a.out.now = cursor-fits a.out.now a.at (met _ _ (c.in_ok-cursor_fault.ensures a.out.now refl)) in
    let e = laid-end _ head 46 l.out_after l.len_bound (search rules) in
    let p = pairs-length a.s.now in
    let a₁ = next (at_start a.out.now a.at inside) c.in_ok-len.len head (omega arith) (omega arith) (rw (laid-text _ head 46 l.out_after l.len_bound (search rules)) at c.in_ok-head.ensures) in
    fits a₁ (2 * length a.s.now) (hex_pairs a.s.now) (omega arith) (omega arith) c.in_err-pairs.ensures

pub returns-clause-out_after : goal.returns-clause-out_after
unfolding end_line
returns-clause-out_after c = let a = c.args in let head = end_head a.total a.cursor in
    let l = c.in_ok-len.ensures in
    let inside : a.at ≤ length a.out.now = cursor-fits a.out.now a.at (met _ _ (c.in_ok-cursor_fault.ensures a.out.now refl)) in
    let e = laid-end _ head 46 l.out_after l.len_bound (search rules) in
    let p = pairs-length a.s.now in
    let a₁ = next (at_start a.out.now a.at inside) c.in_ok-len.len head (omega arith) (omega arith) (rw (laid-text _ head 46 l.out_after l.len_bound (search rules)) at c.in_ok-head.ensures) in
    let a₂ = next a₁ (2 * length a.s.now) (hex_pairs a.s.now) (omega arith) (omega arith) c.in_ok-pairs.ensures in
    last a₂ 1 (10 ∷ []) (omega arith) (omega arith) c.put-2.result c.put-2.ensures

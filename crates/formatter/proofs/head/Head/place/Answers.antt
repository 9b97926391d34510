use Rattle.std.proofs.Common.{◌≡◌, ◌<◌, ◌+◌, length, arith, rules}
use Rattle.formatter.specs.View.{depth_of}
use Rattle.formatter.proofs.Laws.{stack_more, stack_top, stack_same}
use Rattle.formatter.proofs.Steps.{place_done}
use Rattle.formatter.proofs.head.Head.place.Goals as goal

pub returns-in_err-place_fault : goal.returns-in_err-place_fault
returns-in_err-place_fault c = let a = c.args in
    let r : c.in-Some.top < length a.stack.now = omega (arith, c.told-stack, c.in-Some.ensures.0, c.in-Some.ensures.1) in
    let d : depth_of a.self.now.depth ≡ c.in-Some.top + 1 = omega (arith, c.in-Some.ensures.0, c.in-Some.ensures.1) in
    let f = c.in_err-place_fault.ensures c.in-Builder.builder.has_field 0 0 in
    rw (stack_same a.stack.now c.in-Some.top _ r _ c.in-Builder.is, d, stack_top a.stack.now c.in-Some.top _ r _ c.in-Builder.is) (search rules)

pub returns : goal.returns
returns c = let a = c.args in
    let top = c.in-Some.top in
    let r : top < length a.stack.now = omega (arith, c.told-stack, c.in-Some.ensures.0, c.in-Some.ensures.1) in
    let d : depth_of a.self.now.depth ≡ top + 1 = omega (arith, c.in-Some.ensures.0, c.in-Some.ensures.1) in
    rw (d, stack_more a.stack.now top _ r, stack_top a.stack.now top _ r _ c.in-Builder.is, c.put_place.ensures.builder_after.0, c.put_place.ensures.builder_after.1)
    (place_done _ _ _ c.in_ok-judge.ensures _ _ _ _ _ (c.in_ok-place_fault.ensures c.in-Builder.builder.has_field 0 0) c.put_place.ensures.pieces)

-- what is counted so far, and the bytes that are left
use mathlib.Core.Path.{◌∙◌}
use native.Mathlib.Omega.{arith}
use Rattle.std.proofs.lemmas.Result.{err_from_is_err_and}
use Rattle.pwrapper.proofs.Escapes.{next-turn, turn-passes, count-passes, sum-counted, counted-ok, counted-err}
use Rattle.pwrapper.proofs.quoted.long_len.Goals as goal

pub returns-in_err-len : goal.returns-in_err-len
returns-in_err-len c =
    let sum = sum-counted _ _ c.checked_add.ensures in
    let err = counted-err _ _ (c.in_err-len.ensures.value ∙ sum) in
    let passes = turn-passes c.loop-turn.invariant.3 c.in-Some.turn.now _ c.costs.result c.in-Some.ensures.steps.1.0 c.costs.ensures (omega (arith, err.1)) in
    let back = err_from_is_err_and c.from_residual.result c.from_residual.ensures.1 in
    rw (count-passes _ passes, back.1, back.2, err.0)

pub loop-turn-preserved : goal.loop-turn-preserved
loop-turn-preserved c =
    let st = c.in-Some.ensures.steps in
    let inv = c.loop-turn.invariant in
    let size = st.0 ∙ inv.2 in
    let len = counted-ok _ _ (c.in_ok-len.ensures.value ∙ sum-counted _ _ c.checked_add.ensures) in
    let turn = next-turn inv.3 c.in-Some.turn.now _ c.costs.result st.1.0 c.costs.ensures (st.1.1 ∙ inv.2) in
    (rw size (omega arith), tt, size, rw (len, c.from.ensures) turn)

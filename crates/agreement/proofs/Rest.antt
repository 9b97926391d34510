-- No list of calls touches a byte before the cursor that it starts with, or from the cursor on that it ends with.
use borrow.Author.Rules.{rules}
use mathlib.Core.List.{List}
use Prim.Native.Nat.{ℕ}
use Rattle.calls.specs.Model.{Mode, number_in, writing}
use Rattle.agreement.specs.Untouched.{OnlyBetween, LeavesRest, RestUntouched}
use Rattle.agreement.proofs.Output.{rest-start, put_rest}
use Rattle.agreement.proofs.Keeping.{run_keep}

pub rest_untouched : RestUntouched
rest_untouched F cs =
    let m = F.output.mode in
    let b = F.output.bytes in
    run_keep (LeavesRest m b) (put_rest m b) F cs (rest-start m b)

-- a run that starts writing ends writing, at its last cursor
pub rest-written : (p : ℕ) (b : List ℕ) (m : Mode) (c : List ℕ) → LeavesRest (writing p) b m c → OnlyBetween b p c (number_in m)
rest-written p b m c h = search rules

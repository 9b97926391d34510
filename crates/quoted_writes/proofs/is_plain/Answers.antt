use mathlib.Core.Path.{sym, ◌∙◌}
use lib.ListN.{get_or, take}
use native.Mathlib.Omega.{arith}
use Rattle.quoted_writes.specs.Marked.{all_bare}
use Rattle.quoted_writes.proofs.Quoting.{bare-more, bare_test, both_turn}
use Rattle.quoted_writes.proofs.is_plain.Goals as goal

pub loop-b-preserved : goal.loop-b-preserved
loop-b-preserved c = let l = c.loop-b in
    let block = c.args.block in
    both_turn l.low l.high (all_bare (take l.b-index block)) _ _ l.invariant ∙ rw (bare_test (get_or block l.b-index 0)) (sym (bare-more block l.b-index (omega arith)))

use mathlib.Core.Path.{sym, ◌∙◌}
use native.Mathlib.Omega.{arith}
use Rattle.quoted_writes.proofs.Quoting.{copies-more}
use Rattle.quoted_writes.proofs.put_bare.Goals as goal

pub loop-i-preserved : goal.loop-i-preserved
loop-i-preserved c = let a = c.args in
    let l = c.loop-i in
    copies-more a.buf.now a.at a.s.now l.i l.buf c.requires (omega arith) (sym c.is_bare.ensures ∙ c.if-not-is_bare.false) l.invariant

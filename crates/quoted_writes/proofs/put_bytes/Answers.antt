use native.Mathlib.Omega.{arith}
use mathlib.Core.Path.{ap}
use lib.ListN.{length, length-drop}
use Rattle.quoted_writes.proofs.Quoting.{escaped_long, from_on, left-start, left-room, left-bare, left-byte-room, left-byte, left-none}
use Rattle.quoted_writes.proofs.put_bytes.Goals as goal

pub loop-b-init : goal.loop-b-init
loop-b-init c = let a = c.args in left-start a.buf.now a.w a.s.now

pub put_bare-n-requires : goal.put_bare-n-requires
put_bare-n-requires c =
    let l = c.loop-b in
    omega (arith, left-room c.requires l.invariant, (escaped_long l.rest.now).0)

pub returns-in_default : goal.returns-in_default
returns-in_default c =
    let n = c.put_bare-n in
    left-none _ c.requires (left-bare c.requires c.loop-b.invariant n.result n.new.buf n.ensures) c.in_default.ensures.cases

pub put_escape-at-requires : goal.put_escape-at-requires
put_escape-at-requires c =
    let n = c.put_bare-n in
    omega (arith, left-byte-room c.requires (rw c.in-Some.ensures.cases.0 at (left-bare c.requires c.loop-b.invariant n.result n.new.buf n.ensures)))

pub loop-b-smaller : goal.loop-b-smaller
loop-b-smaller c =
    let rest = c.loop-b.rest.now in
    let n = c.put_bare-n.result in
    omega (arith, c.in-Some.ensures.cases.1, ap length (from_on rest n), length-drop n rest)

pub loop-b-preserved : goal.loop-b-preserved
loop-b-preserved c =
    let n = c.put_bare-n in
    let p = c.put_escape-at in
    left-byte c.requires (rw c.in-Some.ensures.cases.0 at (left-bare c.requires c.loop-b.invariant n.result n.new.buf n.ensures)) p.result p.new.buf p.ensures

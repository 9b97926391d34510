use Prim.Native.Nat.{◌+◌, ◌≤◌}
use native.Mathlib.Omega.{arith}
use lib.ListN.{length, length-set}
use Rattle.formatting.specs.Escape.{quoted}
use Rattle.quoted_writes.proofs.Quoting.{escaped_long, quoted-length, from_on, rest-room, marked, marked-bare}
use Rattle.quoted_writes.proofs.put_short.Goals as goal

pub put_rest-requires : goal.put_rest-requires
put_rest-requires c = let a = c.args in
    let n = c.put_bare-n in
    let r : a.at + length (quoted a.s.now) ≤ length a.buf.now = omega (arith, quoted-length a.s.now, (escaped_long a.s.now).1) in
    rw (from_on a.s.now n.result) (omega (arith, length-set a.buf.now a.at 34, rest-room a.buf.now a.at a.s.now r n.result n.new.buf n.ensures))

pub returns-then-n-s : goal.returns-then-n-s
returns-then-n-s c = let a = c.args in
    let n = c.put_bare-n in
    let p = c.put_rest in
    marked a.buf.now a.at a.s.now (omega (arith, quoted-length a.s.now, (escaped_long a.s.now).1)) n.result n.new.buf n.ensures p.result p.new.buf (rw (from_on a.s.now n.result) at p.ensures)

pub returns : goal.returns
returns c = let a = c.args in
    let n = c.put_bare-n in
    marked-bare a.buf.now a.at a.s.now (omega (arith, quoted-length a.s.now, (escaped_long a.s.now).1)) n.result n.new.buf n.ensures c.if-n-s.false

use mathlib.Core.Path.{◌≡◌, sym, ap, ◌∙◌}
use Prim.Native.Nat.{◌+◌}
use native.Mathlib.Omega.{arith}
use lib.ListN.{length, take, drop}
use lib.Seq.{length-take-le}
use Rattle.formatting.specs.Escape.{escaped}
use Rattle.quoted_writes.specs.Marked.{Writes}
use Rattle.quoted_writes.proofs.Quoting.{bare-text, left-start, left-room, left-block-room, left-block, left-end}
use Rattle.quoted_writes.proofs.put_escaped.Goals as goal

pub loop-block-init : goal.loop-block-init
loop-block-init c = let a = c.args in left-start a.buf.now a.w a.s.now

pub put_block-requires : goal.put_block-requires
put_block-requires c =
    let l = c.loop-block in
    let e : c.in-Some.block.now ≡ take 16 l.rest.now = c.in-Some.ensures.cases.0 in
    let plain = bare-text c.in-Some.block.now (sym c.is_plain.ensures ∙ c.if-is_plain.true) in
    omega (arith, ap length plain, ap length e, length-take-le 16 l.rest.now (omega (arith, c.in-Some.ensures.cases.2)), rw (← e) at (left-block-room c.requires l.invariant 16))

pub put_bytes-at-requires : goal.put_bytes-at-requires
put_bytes-at-requires c =
    let l = c.loop-block in
    let e : c.in-Some.block.now ≡ take 16 l.rest.now = c.in-Some.ensures.cases.0 in
    omega (arith, rw (← e) at (left-block-room c.requires l.invariant 16))

pub loop-block-preserved-then-is_plain : goal.loop-block-preserved-then-is_plain
loop-block-preserved-then-is_plain c =
    let l = c.loop-block in
    let p = c.put_block in
    let e : c.in-Some.block.now ≡ take 16 l.rest.now = c.in-Some.ensures.cases.0 in
    let d : c.in-Some.behind.now ≡ drop 16 l.rest.now = c.in-Some.ensures.cases.1 in
    let plain = bare-text c.in-Some.block.now (sym c.is_plain.ensures ∙ c.if-is_plain.true) in
    let k : Writes l.buf l.at (escaped c.in-Some.block.now) (l.at + 16) p.new.buf = rw plain (omega (arith, ap length e, length-take-le 16 l.rest.now (omega (arith, c.in-Some.ensures.cases.2))), p.ensures) in
    rw d (left-block c.requires l.invariant 16 (l.at + 16) p.new.buf (rw (← e) k))

pub loop-block-preserved : goal.loop-block-preserved
loop-block-preserved c =
    let l = c.loop-block in
    let p = c.put_bytes-at in
    let e : c.in-Some.block.now ≡ take 16 l.rest.now = c.in-Some.ensures.cases.0 in
    let d : c.in-Some.behind.now ≡ drop 16 l.rest.now = c.in-Some.ensures.cases.1 in
    rw d (left-block c.requires l.invariant 16 p.result p.new.buf (rw (← e) p.ensures))

pub put_bytes-requires : goal.put_bytes-requires
put_bytes-requires c = omega (arith, left-room c.requires c.loop-block.invariant)

pub returns : goal.returns
returns c = let p = c.put_bytes in left-end c.requires c.loop-block.invariant p.result p.new.buf p.ensures

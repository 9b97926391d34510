use mathlib.Core.Path.{refl, ◌∙◌}
use Prim.Native.Nat.{◌+◌, ◌%◌, ◌≤◌}
use native.Mathlib.Omega.{arith}
use lib.ListN.{length, replicate, length-replicate}
use Rattle.formatting.specs.Flags.{default_flags}
use Rattle.str_writer.proofs.Values.{repeated-write, repeated-done}
use Rattle.str_writer.proofs.Judging.{handed, put-met, put-fits}
use Rattle.str_writer.proofs.strings.write_ascii_repeated.Goals as goal

pub returns-in_err-piece_fault : goal.returns-in_err-piece_fault
returns-in_err-piece_fault c = let a = c.args in
    let e = c.in_err-piece_fault.ensures a.buf.now (replicate a.n (a.c % 128)) refl (length-replicate a.n (a.c % 128)) in
    rw (handed _ _ c.from_residual.ensures.1) (put-met a.buf.now a.at _ _ e ∙ repeated-write default_flags a.buf.now a.at a.c a.n)

pub fill_at-requires : goal.fill_at-requires
fill_at-requires c = let a = c.args in
    let e = length-replicate a.n (a.c % 128) in
    rw e at (put-fits a.buf.now a.at (replicate a.n (a.c % 128)) _ (c.in_ok-piece_fault.ensures a.buf.now _ refl e))

pub returns : goal.returns
returns c = let a = c.args in
    let e = length-replicate a.n (a.c % 128) in
    let h : a.at + a.n ≤ length a.buf.now = rw e at (put-fits a.buf.now a.at (replicate a.n (a.c % 128)) _ (c.in_ok-piece_fault.ensures a.buf.now _ refl e)) in
    rw c.fill_at.ensures (repeated-done default_flags a.buf.now a.at (omega arith) a.c a.n (omega arith))

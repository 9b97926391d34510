use mathlib.Core.Path.{refl, ◌∙◌}
use Rattle.str_writer.specs.Value.{integer, debug}
use Rattle.str_writer.specs.Write.{write}
use Rattle.calls.specs.Model.{wrote, writing}
use Rattle.single_writes.specs.ByFlags.{wrong_flags}
use Rattle.single_writes.proofs.Counting.{flags_ok, flags_err}
use Rattle.single_writes.proofs.put_debug.Goals as goal

pub returns-in-Ok : goal.returns-in-Ok
returns-in-Ok g c = let a = c.args in
    let v = integer debug g.I.PrimitiveInteger.BITS (g.I.PrimitiveInteger.value a.x) in
    c.answered.ensures _ _ c.write_debug.ensures
    ∙ flags_ok a.flags (wrong_flags (writing a.cursor.now) a.buf.now) (λ f. wrote (write f a.buf.now a.cursor.now v)) c.in-Ok.flags c.in-Ok.ensures

pub returns-in-Err : goal.returns-in-Err
returns-in-Err g c = let a = c.args in
    let v = integer debug g.I.PrimitiveInteger.BITS (g.I.PrimitiveInteger.value a.x) in
    c.answered-in-Err.ensures a.buf.now _ refl ∙ c.no_flags.ensures a.buf.now refl
    ∙ flags_err a.flags (wrong_flags (writing a.cursor.now) a.buf.now) (λ f. wrote (write f a.buf.now a.cursor.now v)) _ c.in-Err.ensures

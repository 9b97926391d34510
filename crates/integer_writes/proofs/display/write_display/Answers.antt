use Rattle.std.proofs.Common.{refl}
use Rattle.formatting.specs.Flags.{default_flags}
use Rattle.pwrapper.proofs.Lengths.{signed-text}
use Rattle.integer_writes.proofs.IntegerText.{display-put}
use Rattle.integer_writes.proofs.display.write_display.Goals as goal

pub returns : goal.returns
returns g c =
    let z = g.I.PrimitiveInteger.value c.args.x in
    let written = rw (c.is_negative.ensures, c.absolute_value.ensures, ← signed-text z) at c.write_decimal.ensures in
    rw (← display-put default_flags c.args.buf.now c.args.at g.I.PrimitiveInteger.BITS z refl) written

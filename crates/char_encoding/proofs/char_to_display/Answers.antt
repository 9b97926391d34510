use Rattle.char_encoding.specs.Char.{char_display}
use Rattle.char_encoding.proofs.Laws.{told, widened, display-short}
use Rattle.char_encoding.proofs.char_to_display.Goals as goal

pub returns : goal.returns
returns c = let x = c.args.c in
    let t = told x _ _ c.in_ok-len.ensures in
    rw (t.0, t.1, widened (char_display x) (display-short x))

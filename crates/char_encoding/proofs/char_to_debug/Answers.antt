use Rattle.char_encoding.specs.Char.{char_inner}
use Rattle.char_encoding.proofs.Laws.{told, inner-short, debug-some, marked, marked-length}
use Rattle.char_encoding.proofs.char_to_debug.Goals as goal

pub returns : goal.returns
returns c = let x = c.args.c in
    let t = told x _ _ c.in_ok-len.ensures in
    rw (t.0, t.1, debug-some x t.0, marked-length 39 (char_inner x), marked 39 (char_inner x) (inner-short x))

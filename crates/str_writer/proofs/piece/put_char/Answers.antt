use Rattle.char_encoding.proofs.Laws.{display-ascii, display-none}
use Rattle.str_writer.proofs.Values.{untold}
use Rattle.str_writer.proofs.piece.put_char.Goals as goal

pub returns-then-c-lt128 : goal.returns-then-c-lt128
returns-then-c-lt128 c = rw (display-ascii c.args.c c.if-c-lt128.true) c.put.ensures

pub returns-in-Err : goal.returns-in-Err
returns-in-Err c = rw (display-none c.args.c (untold c.args.c _ _ c.in-Err.ensures)) c.put-in-Err.ensures

use Rattle.char_encoding.proofs.Laws.{octets-1, octets-2, octets-3, octets-4}
use Rattle.char_encoding.proofs.utf8_len.Goals as goal

pub returns-then-c-lt128 : goal.returns-then-c-lt128
returns-then-c-lt128 c = rw (octets-1 _ c.if-c-lt128.true)

pub returns-then-c-lt2048 : goal.returns-then-c-lt2048
returns-then-c-lt2048 c = rw (octets-2 _ c.if-c-lt128.false c.if-c-lt2048.true)

pub returns-then-c-lt65536 : goal.returns-then-c-lt65536
returns-then-c-lt65536 c = rw (octets-3 _ c.if-c-lt2048.false c.if-c-lt65536.true)

pub returns : goal.returns
returns c = rw (octets-4 _ c.if-c-lt65536.false)

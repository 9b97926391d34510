use mathlib.Core.Path.{sym}
use native.Mathlib.Omega.{arith}
use lib.ListN.{length}
use borrow.Author.Tests.{le-leb, lt-leb}
use Rattle.formatting.specs.Escape.{quoted}
use Rattle.quoted_writes.proofs.Quoting.{escaped_long, quoted-length}
use Rattle.quoted_writes.proofs.fits.Goals as goal

pub returns-then-room-s : goal.returns-then-room-s
returns-then-room-s c = let a = c.args in sym (lt-leb (length (quoted a.s.now)) a.room (omega (arith, quoted-length a.s.now, (escaped_long a.s.now).0)))

pub returns-then-s-room : goal.returns-then-s-room
returns-then-s-room c = let a = c.args in sym (le-leb (length (quoted a.s.now)) a.room (omega (arith, quoted-length a.s.now, (escaped_long a.s.now).1)))

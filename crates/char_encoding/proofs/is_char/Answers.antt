use borrow.Author.Tests.{lt-ltb, le-ltb, le-leb, lt-leb}
use Rattle.char_encoding.proofs.is_char.Goals as goal

pub returns-then-c-lt55296 : goal.returns-then-c-lt55296
returns-then-c-lt55296 c = simp (lt-ltb _ _ c.if-c-lt55296.true)

pub returns-then-c-ge57344 : goal.returns-then-c-ge57344
returns-then-c-ge57344 c = simp (le-ltb _ _ c.if-c-lt55296.false, le-leb _ _ c.if-c-ge57344.true)

pub returns-else-c-ge57344 : goal.returns-else-c-ge57344
returns-else-c-ge57344 c = simp (le-ltb _ _ c.if-c-lt55296.false, lt-leb _ _ c.if-c-ge57344.false)

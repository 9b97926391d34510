use Rattle.std.proofs.Common.{◌≡◌, ◌<◌, ◌≤◌, length, ap, arith}
use borrow.Author.Tests.{lt-ltb, le-ltb}
use Rattle.error.specs.declared.Error.TheVariants.{BadCursor}
use Rattle.error.specs.Answer.{done, number_of}
use Rattle.calls.specs.Model.{State, start, writing}
use Rattle.formatter.specs.View.{view_f}
use Rattle.formatter.proofs.formatter.Formatter.writing.Goals as goal

pub returns-then-buf-at : goal.returns-then-buf-at
returns-then-buf-at c =
    let a = c.args in
    let l : length a.buf.now < a.at = omega (arith, c.if-buf-at.true) in
    let e : view_f c.new-formatter.result a.buf.now ≡ start (writing a.at) a.buf.now a.settings = rw c.writing.ensures at (c.new-formatter.ensures a.buf.now) in
    rw (lt-ltb (length a.buf.now) a.at l) (ap (λ (F : State). record { answer = number_of BadCursor; state = F }) e)

pub returns : goal.returns
returns c =
    let a = c.args in
    let l : a.at ≤ length a.buf.now = omega (arith, c.if-buf-at.false) in
    let e : view_f c.new-formatter.result a.buf.now ≡ start (writing a.at) a.buf.now a.settings = rw c.writing.ensures at (c.new-formatter.ensures a.buf.now) in
    rw (le-ltb (length a.buf.now) a.at l) (ap (λ (F : State). record { answer = done; state = F }) e)

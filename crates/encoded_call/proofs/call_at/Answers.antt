use Rattle.encoded_call.proofs.Texts.{text_past, text_long, text-within}
use Rattle.encoded_call.proofs.call_at.Goals as goal
use Rattle.encoded_call.proofs.call_at.Goals.{then-text-at-via-then-text-at, then-text-at-via-else-text-at+then-text-at-2}

pub returns-then-text-at : goal.returns-then-text-at
returns-then-text-at c =
    elim c.then-text-at.branch [
      | then-text-at-via-then-text-at w ↦ let p = w.if-text-at.true in rw text_past (c.no_call.ensures _)
      | then-text-at-via-else-text-at+then-text-at-2 w ↦ let p = w.if-text-at.false in let q = w.if-text-at-2.true in rw text_long (c.no_call.ensures _)
    ]

pub returns-in-Some : goal.returns-in-Some
returns-in-Some c =
    let p = c.if-text-at.false in
    let q = c.if-text-at-2.false in
    rw (text-within, ← c.op_at.ensures, c.in-Some.is) c.call.ensures

pub returns-in-None : goal.returns-in-None
returns-in-None c =
    let p = c.if-text-at.false in
    let q = c.if-text-at-2.false in
    rw (text-within, ← c.op_at.ensures, c.in-None.is) (c.no_call-in-None.ensures _)

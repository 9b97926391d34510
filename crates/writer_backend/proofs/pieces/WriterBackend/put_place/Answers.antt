use mathlib.Core.Path.{◌≡◌, sym, ap, ◌∙◌}
use Rattle.calls.specs.Call.{place_pieces}
use Rattle.writer_backend.specs.Output.{output_of, held_out}
use Rattle.writer_backend.specs.Pieces.{place_of}
use Rattle.writer_backend.proofs.Output.{counts}
use Rattle.writer_backend.proofs.Sequence.{added_err, tries_added, pieces-tried}
use Rattle.writer_backend.proofs.pieces.WriterBackend.put_place.Goals as goal
use Rattle.writer_backend.proofs.pieces.WriterBackend.put_place.Goals.{then-is_counting+else-is_ok, else-is_counting}

pub returns-then-is_ok-clause-pieces : goal.returns-then-is_ok-clause-pieces
returns-then-is_ok-clause-pieces c = let a = c.args in
    let B = a.builder.now in
    tries_added a.self.now _ a.buf.now _ c.add_len.result (counts a.self.now c.is_counting.ensures c.if-is_counting.true) (c.add_len.ensures a.buf.now)
    B.held (place_pieces B.kind B.has_field a.is_alternate a.margin (place_of a.place a.name.now)) c.place_len-len.ensures (sym c.if-is_ok.true ∙ c.is_ok.ensures.value)

pub returns-clause-pieces : goal.returns-clause-pieces
returns-clause-pieces c = let a = c.args in
    let B = a.builder.now in
    let same : output_of c.if-is_counting.self a.buf.now ≡ output_of a.self.now a.buf.now =
    elim c.if-is_counting.branch [
      | then-is_counting+else-is_ok w ↦
          ap (λ x. output_of x a.buf.now) w.self-is
          ∙ added_err a.self.now _ a.buf.now _ w.add_len.result (counts a.self.now c.is_counting.ensures w.if-is_counting.true) (w.add_len.ensures a.buf.now) (sym w.if-is_ok.false ∙ w.is_ok.ensures.value)
      | else-is_counting w ↦ ap (λ x. output_of x a.buf.now) w.self-is
    ] in
    pieces-tried B.kind a.margin (place_of a.place a.name.now) (held_out B.held a.self.now a.buf.now) B.has_field a.is_alternate
    c.separator.ensures.0 (rw same at c.try_put.ensures) c.try_margin.ensures c.try_label.ensures

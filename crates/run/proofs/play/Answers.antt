use mathlib.Core.Path.{◌≡◌, ◌∙◌}
use Prim.Native.Nat.{◌+◌, ◌*◌}
use native.Mathlib.Omega.{arith}
use lib.ListN.{drop, get_or, length-drop}
use Rattle.writer_backend.specs.Output.{mode_of}
use Rattle.formatter.specs.View.{view}
use Rattle.encoded_call.specs.Encoding.{call_at, decode}
use Rattle.run.proofs.Agreed.{ended_in}
use Rattle.run.proofs.Playing.{decode-next, decode-end, open-length, play_next, play_end}
use Rattle.run.proofs.play.Goals as goal

pub loop-k-preserved : goal.loop-k-preserved
loop-k-preserved c =
    let h = c.loop-k in
    let w = c.args.calls.now in
    let s = c.args.text.now in
    let k = h.k in
    let i = 5 * k in
    let l = c.loop-k-test.true in
    let e = rw (decode-next w s i (omega arith)) at h.invariant.3 in
    let u : 5 * (k + 1) ≡ i + 5 = omega arith in
    let n = play_next h.first k h.answers (view h.head h.stack h.buf) (call_at (get_or w i 0) (get_or w (i + 1) 0) (get_or w (i + 2) 0) (get_or w (i + 3) 0) (get_or w (i + 4) 0) s) (decode (drop (i + 5) w) s) _ _ _ _ c.call_at-answer.ensures c.note-in-loop-k.ensures c.store.ensures in
    (omega arith, c.call_at-answer.auto.buf ∙ h.invariant.1, c.store.auto.answers ∙ h.invariant.2, rw u (n ∙ e))

pub returns : goal.returns
returns c =
    let h = c.loop-k in
    let a = c.args in
    let ds = decode a.calls.now a.text.now in
    let e = rw (decode-end (drop (5 * h.k) a.calls.now) a.text.now (simp length-drop (omega (arith, c.loop-k-test.false, h.invariant.0)))) at h.invariant.3 in
    let o = open-length h.head h.stack h.buf c.open_entries.ensures.value in
    let p = play_end (mode_of a.writer) a.buf.now a.settings ds a.answers.now _ _ _ (c.new-head.ensures a.stack.now a.buf.now) c.judge.ensures (rw c.requires at c.note.ensures) h.first h.k h.answers (view h.head h.stack h.buf) _ o e in
    record { buf_after = ended_in (mode_of a.writer) a.buf.now a.settings ds h.first h.head.writer _ h.buf p.0; answers_after = p.1 }

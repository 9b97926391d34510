-- A call that is counted leaves a counting formatter.
use mathlib.Core.List.{List, [], ◌∷◌}
use Rattle.std.proofs.Common.{Option, Some, None}
use mathlib.Core.Path.{◌≡◌, refl, sym, ap, ◌∙◌}
use Prim.Native.Nat.{ℕ, zero, suc, ◌%◌}
use native.Mathlib.Omega.{arith}
use lib.ListN.{length}
use Rattle.error.specs.Answer.{Answer}
use Rattle.calls.specs.Call.{Call}
use Rattle.calls.specs.Model.{counting, Out}
use Rattle.agreement.specs.Untouched.{LeavesRest}
use Rattle.agreement.proofs.Output.{put_rest}
use Rattle.agreement.proofs.Keeping.{On, step_keep}
use Rattle.writer_backend.specs.declared.pieces.WriterBackend.{WriterBackend}
use Rattle.writer_backend.specs.Output.{as_mode, mode_of}
use Rattle.formatter.specs.declared.head.Head.{Head}
use Rattle.formatter.specs.declared.entries.Entry.{Entry}
use Rattle.formatter.specs.Calls.{step_or}
use Rattle.formatter.specs.View.{view, view_out}
use Rattle.compute_str_length.specs.Total.{counting_at, CountsCall}

as_counting : (t n : ℕ) → LeavesRest (counting 0) [] (as_mode t n) [] → as_mode t n ≡ counting n
as_counting zero n h = absurd h
as_counting (suc t) n h = refl

none_left : (b : List ℕ) → length b ≡ 0 → b ≡ []
none_left [] e = refl
none_left (x ∷ b) e = absurd (omega arith)

-- what is counted stays counted, by a call and by what is none
kept : (m : ℕ) (h : Head) (s : List Entry) (c : Option Call) → On (LeavesRest (counting 0) []) (step_or (counting_at m h s) c).state.output
kept m h s (Some c) = step_keep (LeavesRest (counting 0) []) (put_rest (counting 0) []) (counting_at m h s) c refl
kept m h s None = refl

-- what a call, or what is none, gives on a head that is made to count
pub call_counts : (m : ℕ) (h : Head) (w : WriterBackend) (s : List Entry) (c : Option Call) (r : Answer) (h' : Head) (s' : List Entry) (b : List ℕ)
    → mode_of w ≡ counting m → length b ≡ 0
    → view_out r h' s' b ≡ step_or (view (record { writer = w; flags = h.flags; margin = h.margin; depth = h.depth }) s []) c
    → CountsCall r h' s' h'.writer.number (step_or (counting_at m h s) c)
call_counts m h w s c r h' s' b ew eb e =
    let q : view_out r h' s' [] ≡ step_or (counting_at m h s) c = rw (ew, none_left b eb) at e in
    let k' : LeavesRest (counting 0) [] (mode_of h'.writer) [] = rw (← q) at (kept m h s c) in
    (q, ap (λ (o : Out). o.state.output.mode) (sym q) ∙ as_counting (h'.writer.mode % 2) h'.writer.number k')

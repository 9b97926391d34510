-- A step keeps what is to be printed.
use mathlib.Core.Bool.{true, false}
use mathlib.Core.Path.{◌≡◌, refl, sym, ◌∙◌}
use mathlib.Core.List.{List, [], ◌++◌, append-nil}
use Prim.Native.Nat.{ℕ, ◌+◌, ◌≤◌}
use native.Mathlib.Omega.{arith}
use lib.ListN.{take}
use Rattle.lines.specs.declared.Reader.{Reader}
use Rattle.lines.specs.Lines.{max_line}
use Rattle.lines.specs.Reading.{TakesLine, TakesNone}
use Rattle.lines.proofs.Playing.{line-steps, wait_steps, end-steps}
use Rattle.sheet_line.specs.Begin.{max_size}
use Rattle.sheet.specs.Sheet.{max_end}
use Rattle.sheet_stream.specs.declared.State.{State}
use Rattle.sheet_stream.specs.declared.State.TheVariants.{Over}
use Rattle.sheet_stream.specs.declared.Stream.{Stream}
use Rattle.sheet_stream.specs.Left.{over, left, stage_of, Answers}
use Rattle.sheet_stream.specs.Step.{run_stage, Onward, Ready, Stepped}

-- from h, over the lent bytes and what is printed, as they are before and after the step
module _ (h : Stream) (k : Reader) (space b out : List ℕ) (R : Ready h b out) where
  -- what keeps its state
  stays : Onward h.state h.state
  stays = let s = R.sized in record { size = s.size; counts = omega arith }

  -- more is awaited
  pub step_wait : TakesNone max_line h.reader k space → k.ended ≡ false → Stepped h (record h { reader = k }) true space b out b out
  step_wait t f =
      record { steps = wait_steps left max_line (run_stage h b) h.reader k space (take h.printed out) t (sym t.ended ∙ f); onward = stays; room = omega arith }

  -- a line is taken by a run that was halted
  pub step_past : h.is_halted ≡ true → (l : List ℕ) → TakesLine max_line h.reader k l space → Stepped h (record h { reader = k }) false space b out b out
  step_past n l t = record { steps = rw n (line-steps left max_line over h.reader k space (take h.printed out) l t over (take h.printed out) (λ ls. refl)); onward = stays; room = omega arith }

  -- the input of a run that was halted has ended
  pub step_out : h.is_halted ≡ true → TakesNone max_line h.reader k space → k.ended ≡ true → Stepped h (record h { reader = k }) false space b out b out
  step_out n t e =
      record { steps = rw n (end-steps left max_line over h.reader k space (take h.printed out) t (sym t.ended ∙ e) over (take h.printed out) (λ ls. refl) (sym (append-nil (take h.printed out)))); onward = stays; room = omega arith }

  module _ (n : h.is_halted ≡ false) (b' out' : List ℕ) where
    -- a line is answered
    pub step_line : (l : List ℕ) → TakesLine max_line h.reader k l space → (s : State) (end : ℕ) → Answers (stage_of h.state b) (stage_of s b') l out out' h.printed end → Onward h.state s
        → Stepped h (record h { reader = k; state = s; printed = end }) false space b out b' out'
    step_line l t s end a o =
        let f = a.short in
        record { steps = rw n (line-steps left max_line (stage_of h.state b) h.reader k space (take h.printed out) l t (stage_of s b') (take end out') a.prints); onward = o; room = omega arith }

    -- the input has ended
    pub step_end : TakesNone max_line h.reader k space → k.ended ≡ true → (end : ℕ) → take end out' ≡ take h.printed out ++ left (stage_of h.state b) [] → end ≤ h.printed + max_end max_size
        → Stepped h (record h { reader = k; state = Over; printed = end }) false space b out b' out'
    step_end t e end g f =
        record { steps = rw n (end-steps left max_line (stage_of h.state b) h.reader k space (take h.printed out) t (sym t.ended ∙ e) (stage_of Over b') (take end out') (λ ls. refl) g); onward = record { size = omega arith; counts = omega arith }; room = f }

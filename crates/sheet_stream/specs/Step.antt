-- Document 01, 'The call sheet': a step of the program, on the lent bytes.
use Rattle.std.specs.Prelude.{Bool, true, false, cond, ◌||◌, ◌≡◌, List, ℕ, ◌+◌, ◌^◌, ◌≤◌, ◌<◌, leb, length, take}
use Rattle.lines.specs.Lines.{max_line}
use Rattle.lines.specs.Played.{At, standing, Steps}
use Rattle.sheet_line.specs.Begin.{max_size}
use Rattle.sheet.specs.Sheet.{max_end}
use Rattle.sheet_stream.specs.declared.State.{State}
use Rattle.sheet_stream.specs.declared.State.TheVariants.{First, Later, Over}
use Rattle.sheet_stream.specs.declared.Stream.{Stream}
use Rattle.sheet_stream.specs.Left.{Stage, over, left, stage_of}

-- 'The call sheet': the stage of the run: a run that was halted is over, whatever sheet it holds
abbrev pub run_stage : Stream → List ℕ → Stage
run_stage h b = cond h.is_halted over (stage_of h.state b)

-- 'The call sheet': where the program stands, of what the code holds and the lent bytes
abbrev pub at_of : Stream → List ℕ → List ℕ → List ℕ → At Stage
at_of h space b out = standing (run_stage h b) h.reader space (take h.printed out)

-- 'The call sheet': the size of a run's buffer, where there is a run
abbrev pub size_of : State → ℕ
size_of First = 0
size_of (Later k n s) = n
size_of Over = 0

-- 'The call sheet': the number of the next line
abbrev pub line_of : State → ℕ
line_of First = 1
line_of (Later k n s) = k
line_of Over = 0

-- 'The call sheet': n is at most 4,096, the lent bytes are as many, and the next line has a number
pub record Sized (h : State) (b : List ℕ) : Type 0 where
  pub size : size_of h ≤ max_size
  pub lends : max_size ≤ length b
  pub counts : line_of h + 1 < 2 ^ 64

-- 'The call sheet': what a line keeps of that
pub record Onward (h r : State) : Type 0 where
  pub size : size_of r ≤ max_size
  pub counts : line_of r ≤ line_of h + 1

-- 'The call sheet': a step can be made: sizes as above, and room for the longest that it prints, the last line
pub record Ready (h : Stream) (b out : List ℕ) : Type 0 where
  pub sized : Sized h.state b
  pub room : h.printed + max_end max_size ≤ length out

-- 'The call sheet': with all that is held, and the run does not go on
abbrev pub halted_of : Stream → Stream
halted_of h = record h { is_halted = true }

-- 'The call sheet': what is not ready is left as it is, and does not go on
pub record Halts (h r : Stream) (waits : Bool) (b out b' out' : List ℕ) : Type 0 where
  pub stops : r ≡ halted_of h
  pub goes : waits ≡ false
  pub lent : b' ≡ b
  pub printed : out' ≡ out

-- 'The call sheet': a step that is ready: what is printed so far and what the rest will print is what it was; and it leads to one that is ready once what is printed is written
pub record Stepped (h r : Stream) (waits : Bool) (space b out b' out' : List ℕ) : Type 0 where
  pub steps : Steps left max_line waits (at_of h space b out) (at_of r space b' out')
  pub onward : Onward h.state r.state
  pub room : r.printed ≤ h.printed + max_end max_size

-- 'The call sheet': whether a sheet goes on no more
abbrev pub is_over : State → Bool
is_over First = false
is_over (Later k n s) = false
is_over Over = true

-- 'The call sheet': whether the run goes on no more: it was halted, or its sheet goes on no more
abbrev pub run_over : Stream → Bool
run_over h = h.is_halted || is_over h.state

-- 'The call sheet': what is printed is to be written before more is awaited, at the end, and where there is much of it
abbrev pub is_due : Stream → Bool → Bool
is_due h waits = waits || (run_over h || leb 32768 h.printed)

-- 'The call sheet': what was printed is written
abbrev pub emptied_of : Stream → Stream
emptied_of h = record h { printed = 0 }

-- 'The call sheet': after a write that was done or failed; a run whose write failed does not go on
abbrev pub after_write : Stream → Bool → Stream
after_write h true = emptied_of h
after_write h false = halted_of (emptied_of h)

-- 'The call sheet': what is ready stays ready while lines have numbers of 64 bits: at once where nothing is due, in a buffer of 65,536 bytes, and in any case once what is printed is written (proved in proofs/Playing)
abbrev pub StaysReady : Type 0
StaysReady =
    (h r : Stream) (waits : Bool) (b out b' out' : List ℕ) → Ready h b out → Onward h.state r.state → r.printed ≤ h.printed + max_end max_size → length b' ≡ length b → length out' ≡ length out → line_of r.state + 1 < 2 ^ 64
    → Ready (emptied_of r) b' out' × (is_due r waits ≡ false → 65536 ≤ length out → Ready r b' out')

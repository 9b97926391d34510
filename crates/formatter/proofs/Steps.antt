-- What each call does that meets nothing, and what a call meets, over the parts of a formatter.
use Rattle.std.proofs.Common.{◌≡◌, ℕ, zero, suc, ◌+◌, ◌∙◌, true, false, List, ◌∷◌, length, refl, ap, Ok, Err}
use Rattle.std.specs.Result.{result_err}
use Rattle.error.specs.Answer.{fault_number, Answer, answer_number}
use Rattle.formatting.specs.declared.flags.FormattingFlags.{FormattingFlags}
use Rattle.str_writer.specs.Value.{Value, text_of, input_fault, cut_fault}
use Rattle.calls.specs.declared.Kind.{Kind}
use Rattle.calls.specs.declared.Kind.TheVariants.{Struct, Tuple, List as ListKind, Set}
use Rattle.calls.specs.Call.{Place, opens, place, value, sub, open_pieces, place_pieces, a_builder, ready, call_fault, hold}
use Rattle.calls.specs.Model.{Mode, counting, writing, Output, PieceOutcome, put, cut_in, tries, Builder, builder, outer, Entry, State, Out, inner, beyond, guard, step}
use Rattle.writer_backend.specs.declared.pieces.WriterBackend.{WriterBackend}
use Rattle.writer_backend.specs.Output.{mode_of, output_of, put_out, held_of, held_number}
use Rattle.writer_backend.specs.Pieces.{try_all}
use Rattle.writer_backend.proofs.Sequence.{hold-zero, put_held, tried}
use Rattle.value_writes.specs.Values.{unless_fault, value_out}

-- what cuts nothing meets what it is judged by
uncut : (m : Mode) → cut_in m 0 ≡ 0
uncut (counting n) = refl
uncut (writing p) = refl

-- what a builder holds of its name is what the name answered
open_held : (d : Output) (k : Kind) (name : List ℕ) → held_of (tries d (open_pieces k name)).answer ≡ (tries d (open_pieces k name)).answer
open_held d Struct name = rw (hold-zero, put_held)
open_held d Tuple name = rw (hold-zero, put_held)
open_held d ListKind name = refl
open_held d Set name = refl

pub held_name : (d d' : Output) (k : Kind) (name : List ℕ) (a : Answer) → record { answer = answer_number a; output = d' } ≡ tries d (open_pieces k name) → held_number (result_err a) ≡ answer_number a
held_name d d' k name (Ok u) e = refl
held_name d d' k name (Err x) e = let q = ap (λ (o : PieceOutcome). o.answer) e in rw q (open_held d k name)

module _ (w : Output) (f : FormattingFlags) (n : ℕ) (within : 0 ≡ beyond w.mode w.bytes) where
  abbrev at : List Entry → State
  at s = record { output = w; flags = f; margin = n; stack = s }

  module _ (s : List Entry) where
    pub open_done : (k : Kind) (name : List ℕ) (a : ℕ) (d : Output) → 0 ≡ call_fault (inner s) (length s) n (opens k name) → record { answer = a; output = d } ≡ tries w (open_pieces k name)
        → record { answer = 0; state = record { output = d; flags = f; margin = n + 4; stack = builder (record { kind = k; has_field = false; held = a }) ∷ s } } ≡ step (at s) (opens k name)
    open_done k name a d e p = rw (← within, ← e, uncut, ← p)

    pub sub_done : (g : FormattingFlags) → 0 ≡ call_fault (inner s) (length s) n (sub g)
        → record { answer = 0; state = record { output = w; flags = g; margin = n; stack = outer (record { flags = f; margin = n }) ∷ s } } ≡ step (at s) (sub g)
    sub_done g e = rw (← within, ← e, uncut)

  pub place_done : (B : Builder) (s : List Entry) (x : Place) (a : ℕ) (d : Output) → 0 ≡ call_fault (a_builder B.kind B.has_field) 0 0 (place x)
      → record { answer = a; output = d } ≡ try_all (record { answer = B.held; output = w }) (place_pieces B.kind B.has_field f.is_alternate n x)
      → record { answer = 0; state = record { output = d; flags = f; margin = n; stack = builder (record { kind = B.kind; has_field = true; held = a }) ∷ s } } ≡ step (at (builder B ∷ s)) (place x)
  place_done B s x a d e p =
      rw (← within, ← e, uncut)
      (ap (λ (y : PieceOutcome). record { answer = 0; state = record { output = y.output; flags = f; margin = n; stack = builder (record { kind = B.kind; has_field = true; held = y.answer }) ∷ s } })
      (p ∙ tried B.held w (place_pieces B.kind B.has_field f.is_alternate n x)))

-- a value that suits is what its piece answers
pub value_done : (w w' : WriterBackend) (b b' : List ℕ) (f : FormattingFlags) (n : ℕ) (s : List Entry) (v : Value) (a : Answer) → 0 ≡ beyond (mode_of w) b → true ≡ ready (inner s) → put_out a w' b' ≡ value_out w b f v
    → record { answer = answer_number a; state = record { output = output_of w' b'; flags = f; margin = n; stack = s } } ≡ step (record { output = output_of w b; flags = f; margin = n; stack = s }) (value v)
unfolding value_out
value_done w w' b b' f n s v a within e p =
    rw (← within, ← e)
    (ap out (p ∙ rw (← within)) ∙ go (hold (fault_number (input_fault v)) (cut_in (mode_of w) (fault_number (cut_fault v)))) (put (output_of w b) (text_of f v)))
  where
    out : PieceOutcome → Out
    out y = record { answer = y.answer; state = record { output = y.output; flags = f; margin = n; stack = s } }

    go : (m : ℕ) (y : PieceOutcome) → out (unless_fault m (output_of w b) y) ≡ guard m (record { output = output_of w b; flags = f; margin = n; stack = s }) (out y)
    go zero y = refl
    go (suc m) y = refl

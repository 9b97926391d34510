-- What each piece keeps of the output, whatever its text, each call keeps, and each list of calls.
use Rattle.std.proofs.lemmas.Grind.{common_steps}
use native.Mathlib.Omega.{arith}
use borrow.Author.Rules.{rules}
use mathlib.Core.Bool.{Bool}
use mathlib.Core.List.{List, [], ◌∷◌}
use Prim.Native.Nat.{ℕ}
use Rattle.calls.specs.Call.{Call}
use Rattle.calls.specs.Model.{Mode, Output, PieceOutcome, put_in, put, tries, stops, State, Out, fault_of, Moved, move, emit, holds, settled, guard, step, run}

pub guard_cases : (Q : State → Type 0) (n : ℕ) (F : State) (o : Out) → Q F → Q o.state → Q (guard n F o).state
guard_cases Q n F o a b = search rules

module _ (P : Mode → List ℕ → Type 0) where
  abbrev pub On : Output → Type 0
  On d = P d.mode d.bytes

  abbrev pub In : State → Type 0
  In F = On F.output

  settled_keep : (h : Bool) (M : Moved) (r : PieceOutcome) → On r.output → In (settled h M r).state
  settled_keep h M r k = search rules

  module _ (keeps : (m : Mode) (b t : List ℕ) → P m b → On (put_in m b t).output) where
    put_keep : (d : Output) (t : List ℕ) → On d → On (put d t).output
    put_keep d t h = keeps d.mode d.bytes t h

    pub tries_keep : (d : Output) (ts : List (List ℕ)) → On d → On (tries d ts).output
    tries_keep d [] h = h
    tries_keep d (t ∷ ts) h = tries_keep (put d t).output ts (put_keep d t h)

    pub stops_keep : (d : Output) (ts : List (List ℕ)) → On d → On (stops d ts).output
    stops_keep d [] h = h
    stops_keep d (t ∷ ts) h = grind (arith, common_steps, put_keep d t h, stops_keep (put d t).output ts (put_keep d t h))

    emit_keep : (F : State) (c : Call) → In F → On (emit F c).output
    emit_keep F c h = search rules

    pub step_keep : (F : State) (c : Call) → In F → In (step F c).state
    step_keep F c h = guard_cases In (fault_of F c) F (settled (holds c) (move F c) (emit F c)) h (settled_keep (holds c) (move F c) (emit F c) (emit_keep F c h))

    pub run_keep : (F : State) (cs : List Call) → In F → In (run F cs).state
    run_keep F [] h = h
    run_keep F (c ∷ cs) h = run_keep (step F c).state cs (step_keep F c h)

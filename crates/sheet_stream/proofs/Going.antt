-- The sheet as a program that reads and writes: what it has written, and what then remains, is what is to be printed for what it has read.
use borrow.Author.Rules.{rules}
use Rattle.std.specs.Prelude.{Option, Result, Ok, Err, OnOk}
use Rattle.std.specs.Result.{is_ok}
use Rattle.std.proofs.Common.{◌≡◌, refl, sym, ◌∙◌, ap, Bool, true, false, ℕ, List, [], ◌++◌, take}
use Rattle.std.specs.Io.KnownBytes.{Consumes, Appends}
use mathlib.Core.List.{append_assoc, append-nil}
use Rattle.lines.specs.declared.Reader.{Reader}
use Rattle.lines.specs.Lines.{lines_of, clipped, max_line}
use Rattle.lines.specs.Reading.{held_of, ahead, MayFollow, More}
use Rattle.lines.specs.Played.{At, remains, begins, Steps}
use Rattle.line_input.proofs.Going.{consumes_none, consumes-then, appends_none, appends-then}
use Rattle.sheet.specs.Printed.{printed}
use Rattle.sheet_stream.specs.Left.{Stage, first, over, left}
use Rattle.sheet_stream.specs.declared.Stream.{Stream}
use Rattle.sheet_stream.specs.Step.{run_stage, at_of, run_over, Stepped, emptied_of, after_write}
use Rattle.sheet_stream.proofs.Playing.{lines-clipped}

-- where the bytes are known: those that were read and written since the loop began, and what is still to be written, if the input goes on with rest
pub record Going (R₀ R W₀ W : Option (List ℕ)) (a : At Stage) : Type 0 where
  pub read : List ℕ
  pub written : List ℕ
  pub consumes : Consumes R₀ R read
  pub appends : Appends W₀ W written
  pub right : (rest : List ℕ) → MayFollow a.ended rest → written ++ remains left max_line a rest ≡ left first (clipped max_line (lines_of (read ++ rest)))

pub going-begins : (R W : Option (List ℕ)) (a : At Stage) → a ≡ begins first → Going R R W W a
going-begins R W a e = rw e (record { read = []; written = []; consumes = consumes_none R; appends = appends_none W; right = λ rest m. refl })

-- one that waits may go on
steps-open : (a b : At Stage) (w : Bool) → w ≡ true → Steps left max_line w a b → b.ended ≡ false
steps-open a b w e t = search rules

-- a run that goes on no more is over
over-stage : (h : Stream) (b : List ℕ) → run_over h ≡ true → run_stage h b ≡ over
over-stage h b e = search rules

module _ (R₀ R W₀ W : Option (List ℕ)) (a : At Stage) (g : Going R₀ R W₀ W a) where
  going-writes : (W' : Option (List ℕ)) → Appends W W' a.pending → Going R₀ R W₀ W' (record a { pending = [] })
  going-writes W' p =
      record {
        read = g.read;
        written = g.written ++ a.pending;
        consumes = g.consumes;
        appends = appends-then W₀ W W' g.written a.pending g.appends p;
        right = λ rest m. append_assoc g.written a.pending (left a.stage (ahead max_line a.skips (a.bytes ++ rest))) ∙ g.right rest m;
      }

  going-ends : a.stage ≡ over → a.pending ≡ [] → (read : List ℕ) × Consumes R₀ R read × Appends W₀ W (printed read)
  going-ends e p =
      let d : g.written ++ remains left max_line a [] ≡ g.written = rw (e, p) (append-nil g.written) in
      let f : g.written ≡ printed g.read = sym d ∙ g.right [] (λ x. refl) ∙ ap (λ z. left first (clipped max_line (lines_of z))) (append-nil g.read) ∙ lines-clipped (lines_of g.read) in
      (g.read, g.consumes, rw f at g.appends)

-- what a turn does from h to r, on the lent bytes
module _ (R₀ R W₀ W : Option (List ℕ)) (h r : Stream) (waits : Bool) (space b out b' out' : List ℕ) (t : Stepped h r waits space b out b' out') (g : Going R₀ R W₀ W (at_of h space b out)) where
  pub turn-steps : Going R₀ R W₀ W (at_of r space b' out')
  turn-steps = search rules

  module _ (W' : Option (List ℕ)) (p : Appends W W' (take r.printed out')) where
    pub turn-writes : Going R₀ R W₀ W' (at_of (emptied_of r) space b' out')
    turn-writes = going-writes R₀ R W₀ W (at_of r space b' out') turn-steps W' p

    pub turn-ends : run_over r ≡ true → (read : List ℕ) × Consumes R₀ R read × Appends W₀ W' (printed read)
    turn-ends e = going-ends R₀ R W₀ W' (at_of (emptied_of r) space b' out') turn-writes (over-stage r b' e) refl

    pub turn-reads : waits ≡ true → (R' : Option (List ℕ)) (k : Reader) (c : List ℕ) (m : More r.reader k space c) → Consumes R R' m.piece → Going R₀ R' W₀ W' (at_of (record r { reader = k; printed = 0 }) c b' out')
    turn-reads e R' k c m q =
        let o : r.reader.ended ≡ false = steps-open (at_of h space b out) (at_of r space b' out') waits e t.steps in
        record {
          read = turn-writes.read ++ m.piece;
          written = turn-writes.written;
          consumes = consumes-then R₀ R R' turn-writes.read m.piece turn-writes.consumes q;
          appends = turn-writes.appends;
          right = λ rest f. rw (m.bytes, m.skips, append_assoc (held_of r.reader space) m.piece rest, append_assoc turn-writes.read m.piece rest) (turn-writes.right (m.piece ++ rest) (λ x. cc));
        }

  -- where the write x was done or failed, and the run goes on no more
  pub write-ends : (W' : Option (List ℕ)) {A E : Type 0} (x : Result A E) → OnOk x (Appends W W' (take r.printed out')) → run_over (after_write r (is_ok x)) ≡ true → OnOk x ((read : List ℕ) × Consumes R₀ R read × Appends W₀ W' (printed read))
  write-ends W' (Ok v) p e = turn-ends W' p e
  write-ends W' (Err v) p e = tt

-- a run that goes on after the write x was not halted by it: s is what is left after it, d says that it was done, and o whether the run is over
pub goes-written : {A E P : Type 0} (r s : Stream) (d o : Bool) (x : Result A E) → OnOk x P → d ≡ is_ok x → s ≡ after_write r d → o ≡ run_over s → o ≡ false → (s ≡ emptied_of r) × P
goes-written r s d o (Ok v) p e f u n = (f ∙ ap (after_write r) e, p)
goes-written r s d o (Err v) p e f u n = let h : s ≡ after_write r false = f ∙ ap (after_write r) e in let a : o ≡ true = u ∙ ap run_over h in cc

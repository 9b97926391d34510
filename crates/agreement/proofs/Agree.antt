-- Demand 3: the counting run, the writing run and the ledger agree.
use Rattle.std.proofs.lemmas.Grind.{common_steps}
use borrow.Author.Rules.{rules}
use mathlib.Core.Path.{◌≡◌, refl, ap, ◌∙◌}
use mathlib.Core.List.{List, [], ◌∷◌, flatten}
use Prim.Native.Nat.{ℕ, zero, suc, ◌+◌, ◌≤◌}
use native.Mathlib.Nat.{zero-add}
use native.Mathlib.Decide.{dec_le}
use native.Mathlib.Omega.{arith}
use lib.ListN.{length}
use Rattle.calls.specs.declared.Settings.{Settings}
use Rattle.calls.specs.Call.{Call}
use Rattle.calls.specs.Ledger.{Ledger, feed, ledger, fresh, Permitted}
use Rattle.calls.specs.Model.{Mode, number_in, counting, writing, State, Run, cut_in, run, start, most}
use Rattle.agreement.specs.Untouched.{OnlyBetween}
use Rattle.agreement.specs.Agreement.{AllDone, first_refusal, AllWhole, Proper, defined_text, written, Counted, Written, Demand3}
use Rattle.agreement.proofs.Output.{cap_of, code_of, Fits, Passes}
use Rattle.agreement.proofs.Moves.{AllUncut, state_of, faults, run_law}
use Rattle.agreement.proofs.Rest.{rest_untouched, rest-written}
use Rattle.agreement.proofs.Held.{holds_open, Tracks, clear, stuck, Ends, met, refused, ended, ends}

-- the first refusal is 0 where every answer is, and only there
pub done_first : (r : List ℕ) → AllDone r → first_refusal r ≡ 0
done_first [] d = refl
done_first (x ∷ r) d = rw d.0 (done_first r d.1)

pub first_done : (r : List ℕ) → first_refusal r ≡ 0 → AllDone r
first_done [] q = tt
first_done (zero ∷ r) q = (refl, first_done r q)
first_done (suc a ∷ r) q = absurd (omega arith)

permitted-done : (L : Ledger) (cs : List Call) → Permitted L cs → AllDone (faults L cs)
permitted-done L [] p = tt
permitted-done L (c ∷ cs) p = (p.0, permitted-done (feed L c) cs p.1)

no_cut : (m : Mode) → cut_in m 0 ≡ 0
no_cut m = search rules

whole_uncut : (m : Mode) (cs : List Call) → AllWhole cs → AllUncut m cs
whole_uncut m [] w = tt
whole_uncut m (c ∷ cs) w = (rw w.0 (no_cut m), whole_uncut m cs w.1)

-- the formatter that a run starts with is that of the fresh ledger
pub start_law : (m : Mode) (b : List ℕ) (S : Settings) → start m b S ≡ state_of m b (fresh S)
unfolding flatten
start_law m b S = grind (arith, common_steps)

pub start_tracks : (m : Mode) (b : List ℕ) (S : Settings) → number_in m ≤ cap_of m b → Tracks m b (fresh S) (start m b S)
unfolding flatten
start_tracks m b S h = rw (start_law m b S) (clear (omega arith))

module _ (S : Settings) (cs : List Call) (P : Proper S cs) (m : Mode) (b : List ℕ) where
  fits-run : Fits m b (ledger (fresh S) cs).pieces → run (start m b S) cs ≡ record { answers = faults (fresh S) cs; state = state_of m b (ledger (fresh S) cs) }
  fits-run h = rw (start_law m b S) (run_law m b (fresh S) cs h (whole_uncut m cs P.whole))

  fits-done : Fits m b (ledger (fresh S) cs).pieces → AllDone (run (start m b S) cs).answers
  fits-done h = rw (fits-run h) (permitted-done (fresh S) cs P.permitted)

  fits-closed : Fits m b (ledger (fresh S) cs).pieces → (run (start m b S) cs).state.stack ≡ []
  fits-closed h = rw (fits-run h, P.closed)

  first-refused : number_in m ≤ cap_of m b → Passes m b (ledger (fresh S) cs).pieces → first_refusal (run (start m b S) cs).answers ≡ code_of m
  first-refused h k = go (ends m b cs (fresh S) (start m b S) (start_tracks m b S h) (whole_uncut m cs P.whole))
    where
      open_or_over : (L : Ledger) (F : State) → Tracks m b L F → L.pile ≡ [] → Passes m b L.pieces → ⊥
      open_or_over L F (clear i) z j = omega arith
      open_or_over L F (stuck d f s i j) z k = omega (arith, (holds_open m b j).0, ap length z)

      go : Ends m b (fresh S) cs (run (start m b S) cs) → first_refusal (run (start m b S) cs).answers ≡ code_of m
      go (met p r) = absurd (p P.permitted)
      go (refused r) = r
      go (ended p g) = absurd (open_or_over (ledger (fresh S) cs) _ g P.closed k)

module _ (S : Settings) (cs : List Call) (P : Proper S cs) where
  counted_agrees : length (defined_text S cs) ≤ most → (b : List ℕ) → Counted S cs b
  counted_agrees h b =
      let k : Fits (counting 0) b (ledger (fresh S) cs).pieces = omega arith in
      record {
        done = fits-done S cs P (counting 0) b k;
        output = ap (λ (r : Run). r.state.output) (fits-run S cs P (counting 0) b k) ∙ rw zero-add;
        closed = fits-closed S cs P (counting 0) b k;
      }

  written_agrees : (b : List ℕ) (p : ℕ) → p ≤ length b → Written S cs b p
  written_agrees b p h =
      record {
        exactly = (λ d. done-fits d (dec_le (p + length (defined_text S cs)) (length b)), fits-done S cs P (writing p) b);
        cursor = λ k. ap (λ (r : Run). r.state.output.mode) (fits-run S cs P (writing p) b k);
        bytes = λ k. ap (λ (r : Run). r.state.output.bytes) (fits-run S cs P (writing p) b k);
        closed = fits-closed S cs P (writing p) b;
        refused = first-refused S cs P (writing p) b h;
        before = rest.before;
        size = rest.size;
      }
    where
      done-fits : AllDone (written S cs b p).answers → Dec (p + length (defined_text S cs) ≤ length b) → p + length (defined_text S cs) ≤ length b
      done-fits d (yes k) = k
      done-fits d (no k) = absurd (omega (arith, first-refused S cs P (writing p) b h (omega arith), done_first (written S cs b p).answers d))

      rest : OnlyBetween b p (written S cs b p).state.output.bytes (number_in (written S cs b p).state.output.mode)
      rest = rest-written p b (written S cs b p).state.output.mode (written S cs b p).state.output.bytes (rest_untouched (start (writing p) b S) cs)

pub agree : Demand3
agree S cs P h = (counted_agrees S cs P h, written_agrees S cs P)

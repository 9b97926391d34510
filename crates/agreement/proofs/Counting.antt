-- What a sender relies on: counting answered 0 throughout and left nothing open, so nothing was refused and nothing is held, and the list is permitted and closed.
use borrow.Author.Rules.{rules}
use mathlib.Core.Path.{◌≡◌, refl, sym, ap, ◌∙◌}
use mathlib.Core.List.{List, [], ◌∷◌, ◌++◌}
use Prim.Native.Nat.{ℕ, ◌+◌, ◌≤◌}
use native.Mathlib.Nat.{zero-add}
use native.Mathlib.Omega.{arith}
use lib.ListN.{length, take, drop}
use Rattle.calls.specs.Call.{Call, cut_number, call_fault, hold}
use Rattle.calls.specs.Ledger.{Open, building, within, Ledger, ledger, fresh, Permitted}
use Rattle.calls.specs.Model.{Mode, number_in, counting, writing, Output, State, Out, inner, beyond, cut_in, judged, fault_of, guard, step, run, start}
use Rattle.agreement.specs.Agreement.{AllDone, AllWhole, defined_text, counted, written, Written, CountSuffices}
use Rattle.agreement.proofs.Output.{after, Fits, KeptIn, same-cut, kept_start}
use Rattle.agreement.proofs.Moves.{run_kept, entries, does, AllUncut}
use Rattle.agreement.proofs.Held.{holds_open, Tracks, clear, stuck, Ends, met, refused, ended, ends}
use Rattle.agreement.proofs.Agree.{done_first, start_tracks, agree}

-- what answers 0 has met nothing
guard-met : (n : ℕ) (F : State) (o : Out) → (guard n F o).answer ≡ 0 → n ≡ 0
guard-met n F o e = search rules

hold_right : (a b : ℕ) → hold a b ≡ 0 → b ≡ 0
hold_right a b e = search rules

-- counting tests no boundaries
counting_uncut : (n : ℕ) (cs : List Call) → AllUncut (counting n) cs
counting_uncut n [] = tt
counting_uncut n (c ∷ cs) = (refl, counting_uncut n cs)

-- writing tests boundaries: what answers 0 cuts nothing
all_whole : (p : ℕ) (b : List ℕ) (cs : List Call) (F : State) → KeptIn (writing p) b F.output → AllDone (run F cs).answers → AllWhole cs
all_whole p b [] F k d = tt
all_whole p b (c ∷ cs) F k d =
    let e : judged F c ≡ 0 = hold_right (beyond F.output.mode F.output.bytes) (judged F c) (guard-met (fault_of F c) F (does F c) d.0) in
    let i : cut_in F.output.mode (cut_number c) ≡ 0 = hold_right (call_fault (inner F.stack) (length F.stack) F.margin c) _ e in
    (sym (same-cut (writing p) b F.output.mode F.output.bytes (cut_number c) k) ∙ i, all_whole p b cs (step F c).state (run_kept (writing p) b F (c ∷ []) k) d.1)

none-entries : (p : List Open) → entries p ≡ [] → p ≡ []
none-entries [] z = refl
none-entries (building B ∷ p) z = cc
none-entries (within f ∷ p) z = cc

-- a formatter with nothing open holds nothing: the pile is empty too, and the pieces have gone out
closed : (m : Mode) (b : List ℕ) (L : Ledger) (F : State) → Tracks m b L F → F.stack ≡ [] → (L.pile ≡ []) × Fits m b L.pieces × (F.output ≡ after m b L.pieces)
closed m b L F (clear h) z = (none-entries L.pile z, h, refl)
closed m b L F (stuck d f s k h) z = absurd (omega (arith, (holds_open m b h).1, ap length z))

both : (o : Output) {m : Mode} {b : List ℕ} → o.mode ≡ m → o.bytes ≡ b → o ≡ record { mode = m; bytes = b }
both o e k = rw (← e, ← k) refl

pub count_suffices : CountSuffices
count_suffices S cs c d q z = (sized, λ b p h. record { exactly = (λ a. (roomy b p h a, whole b p h a), λ k. (W b p h k.1).exactly.1 (rw sized k.0)); output = λ a. out b p h a })
  where
    m : Mode
    m = counting 0

    L : Ledger
    L = ledger (fresh S) cs

    permits : Ends m [] (fresh S) cs (counted S cs []) → Permitted (fresh S) cs × Tracks m [] L (counted S cs []).state
    permits (met p r) = absurd (r (done_first (counted S cs []).answers d))
    permits (refused r) = absurd (omega (arith, r, done_first (counted S cs []).answers d))
    permits (ended p g) = (p, g)

    P : Permitted (fresh S) cs × Tracks m [] L (counted S cs []).state
    P = permits (ends m [] cs (fresh S) (start m [] S) (start_tracks m [] S (omega arith)) (counting_uncut 0 cs))

    C : (L.pile ≡ []) × Fits m [] L.pieces × ((counted S cs []).state.output ≡ after m [] L.pieces)
    C = closed m [] L (counted S cs []).state P.1 z

    sized : length (defined_text S cs) ≡ c
    sized = sym (zero-add _) ∙ sym (ap (λ (o : Output). number_in o.mode) C.2) ∙ ap number_in q

    whole : (b : List ℕ) (p : ℕ) → p ≤ length b → AllDone (written S cs b p).answers → AllWhole cs
    whole b p h a = all_whole p b cs (start (writing p) b S) (kept_start (writing p) b h) a

    W : (b : List ℕ) (p : ℕ) → p ≤ length b → AllWhole cs → Written S cs b p
    W b p h w = (agree S cs (record { permitted = P.0; closed = C.0; whole = w }) (omega (arith, C.1))).1 b p h

    roomy : (b : List ℕ) (p : ℕ) → p ≤ length b → AllDone (written S cs b p).answers → p + c ≤ length b
    roomy b p h a = rw (← sized) ((W b p h (whole b p h a)).exactly.0 a)

    out : (b : List ℕ) (p : ℕ) → p ≤ length b → AllDone (written S cs b p).answers
        → (written S cs b p).state.output ≡ record { mode = writing (p + c); bytes = take p b ++ defined_text S cs ++ drop (p + c) b }
    out b p h a =
        let w = W b p h (whole b p h a) in
        let k : p + length (defined_text S cs) ≤ length b = w.exactly.0 a in
        rw (← sized) (both _ (w.cursor k) (w.bytes k))

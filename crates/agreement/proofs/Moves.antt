-- The formatter is a function of the ledger, call by call, as long as nothing is refused for want of room.
use borrow.Author.Rules.{rules}
use mathlib.Core.Path.{◌≡◌, refl, sym, ap, ◌∙◌}
use mathlib.Core.List.{List, [], ◌∷◌, ◌++◌, append_assoc, append-nil}
use Prim.Native.Nat.{ℕ, zero, suc, ◌+◌, ◌-◌, ◌*◌}
use native.Mathlib.Omega.{arith}
use lib.ListN.{length}
use Rattle.formatting.specs.declared.flags.FormattingFlags.{FormattingFlags}
use Rattle.str_writer.specs.Value.{text_of}
use Rattle.calls.specs.Call.{Place, Call, opens, place, value, sub, endsub, finish, open_pieces, place_pieces, close_pieces, cut_number, hold}
use Rattle.calls.specs.Ledger.{Open, building, within, Ledger, builders, margin_of, top, has_printed, meets, change, changed, unless_met, feed, ledger}
use Rattle.calls.specs.Ledger.{Builder as Having}
use Rattle.calls.specs.Model.{Mode, Builder, Entry, builder, outer, State, Out, inner, cut_in, fault_of, move, emit, holds, settled, guard, step, run}
use Rattle.agreement.proofs.Output.{after, Fits, fits-left, put_law, tries_law, stops_law, Kept, KeptIn, same-cut, inside, kept_after, put_kept}
use Rattle.agreement.proofs.Keeping.{run_keep}

-- every call keeps what every piece keeps
pub run_kept : (m : Mode) (b : List ℕ) (F : State) (cs : List Call) → KeptIn m b F.output → KeptIn m b (run F cs).state.output
run_kept m b = run_keep (Kept m b) (put_kept m b)

-- the builder that one of the ledger is in the formatter, with what it holds
abbrev pub holding : ℕ → Having → Builder
holding h B = record { kind = B.kind; has_field = B.has_field; held = h }

-- the entries that a pile has: the margins that its entries below give, nothing held
abbrev pub entries : List Open → List Entry
entries [] = []
entries (building B ∷ p) = builder (holding 0 B) ∷ entries p
entries (within f ∷ p) = outer (record { flags = f; margin = margin_of p }) ∷ entries p

inner-top : (p : List Open) → inner (entries p) ≡ top p
inner-top p = search rules

pub depth : (p : List Open) → length (entries p) ≡ length p
depth [] = refl
depth (building B ∷ p) = ap suc (depth p)
depth (within f ∷ p) = ap suc (depth p)

pub raised : (p : List Open) → margin_of p + 4 ≡ 4 * suc (builders p)
raised p = omega arith

pub lower : (B : Having) (p : List Open) → margin_of (building B ∷ p) - 4 ≡ margin_of p
lower B p = omega arith

-- the ledger's pieces only grow
feed-grows : (L : Ledger) (c : Call) → (us : List (List ℕ)) × ((feed L c).pieces ≡ L.pieces ++ us)
feed-grows L c = go (meets L c)
  where
    go : (a : ℕ) → (us : List (List ℕ)) × ((unless_met a (changed L (change L c)) L).pieces ≡ L.pieces ++ us)
    go zero = (_, refl)
    go (suc a) = ([], sym (append-nil L.pieces))

grows : (L : Ledger) (cs : List Call) → (us : List (List ℕ)) × ((ledger L cs).pieces ≡ L.pieces ++ us)
grows L [] = ([], sym (append-nil L.pieces))
grows L (c ∷ cs) =
    let g = feed-grows L c in
    let r = grows (feed L c) cs in
    (g.0 ++ r.0, r.1 ∙ ap (λ (t : List (List ℕ)). t ++ r.0) g.1 ∙ append_assoc L.pieces g.0 r.0)

-- what each call meets
abbrev pub faults : Ledger → List Call → List ℕ
faults L [] = []
faults L (c ∷ cs) = meets L c ∷ faults (feed L c) cs

-- calls that cut no string, as far as the mode tests it
abbrev pub Uncut : Mode → Call → Type 0
Uncut m c = cut_in m (cut_number c) ≡ 0

abbrev pub AllUncut : Mode → List Call → Type 0
AllUncut m [] = Unit {0}
AllUncut m (c ∷ cs) = Uncut m c × AllUncut m cs

-- what a call that meets nothing does
abbrev pub does : State → Call → Out
does F c = settled (holds c) (move F c) (emit F c)

hold-zero : (a : ℕ) → hold a 0 ≡ a
hold-zero a = search rules

module _ (m : Mode) (b : List ℕ) where
  -- a formatter whose entries and margin are as the pile has them judges as the ledger does
  pub fault_law : (F : State) (L : Ledger) (c : Call) → KeptIn m b F.output → F.margin ≡ margin_of L.pile → inner F.stack ≡ top L.pile → length F.stack ≡ length L.pile
      → Uncut m c → fault_of F c ≡ meets L c
  fault_law F L c k g i l w =
      rw (inside F.output.mode F.output.bytes k.1, same-cut m b F.output.mode F.output.bytes (cut_number c) k, w, g, i, l) (hold-zero (meets L c))

  fits-before : (L : Ledger) (cs : List Call) → Fits m b (ledger L cs).pieces → Fits m b L.pieces
  fits-before L cs h = let g = grows L cs in fits-left m b L.pieces g.0 (rw g.1 at h)

  -- the formatter that a ledger has, started in mode m over the bytes b
  abbrev pub state_of : Ledger → State
  state_of L = record { output = after m b L.pieces; flags = L.flags; margin = margin_of L.pile; stack = entries L.pile }

  abbrev Follows : Ledger → Call → Type 0
  Follows L c = does (state_of L) c ≡ record { answer = 0; state = state_of (changed L (change L c)) }

  module _ (f : FormattingFlags) (ts : List (List ℕ)) where
    abbrev lg : List Open → Ledger
    lg p = record { flags = f; pile = p; pieces = ts }

    does-place : (p : List Open) (x : Place) → meets (lg p) (place x) ≡ 0 → Fits m b (changed (lg p) (change (lg p) (place x))).pieces → Follows (lg p) (place x)
    does-place [] x e h = absurd (omega arith)
    does-place (building B ∷ p) x e h = rw (tries_law b m ts (place_pieces B.kind (has_printed B) f.is_alternate (margin_of (building B ∷ p)) x) h)
    does-place (within g ∷ p) x e h = absurd (omega arith)

    does-endsub : (p : List Open) → meets (lg p) endsub ≡ 0 → Follows (lg p) endsub
    does-endsub p e = search rules

    does-finish : (p : List Open) → meets (lg p) finish ≡ 0 → Fits m b (changed (lg p) (change (lg p) finish)).pieces → Follows (lg p) finish
    does-finish [] e h = absurd (omega arith)
    does-finish (building B ∷ p) e h = rw (lower B p, stops_law b m ts (close_pieces B.kind (has_printed B) f.is_alternate (margin_of p)) h)
    does-finish (within g ∷ p) e h = absurd (omega arith)

  pub does_law : (L : Ledger) (c : Call) → meets L c ≡ 0 → Fits m b (changed L (change L c)).pieces → Follows L c
  does_law L (opens k name) e h = rw (tries_law b m L.pieces (open_pieces k name) h, raised L.pile)
  does_law L (place x) e h = does-place L.flags L.pieces L.pile x e h
  does_law L (value v) e h = rw (put_law b m L.pieces (text_of L.flags v) h)
  does_law L (sub f) e h = rw append-nil
  does_law L endsub e h = does-endsub L.flags L.pieces L.pile e
  does_law L finish e h = does-finish L.flags L.pieces L.pile e h

  pub same-fault : (L : Ledger) (c : Call) → Fits m b L.pieces → Uncut m c → fault_of (state_of L) c ≡ meets L c
  same-fault L c h w = fault_law (state_of L) L c (kept_after m b L.pieces h) refl (inner-top L.pile) (depth L.pile) w

  -- a call whose pieces fit answers what it meets, and the formatter stays that of the ledger
  pub step_law : (L : Ledger) (c : Call) → Fits m b (feed L c).pieces → Uncut m c
      → step (state_of L) c ≡ record { answer = meets L c; state = state_of (feed L c) }
  step_law L c h w = rw (same-fault L c (fits-before L (c ∷ []) h) w) (go (meets L c) refl h)
    where
      go : (a : ℕ) → meets L c ≡ a → Fits m b (unless_met a (changed L (change L c)) L).pieces
          → guard a (state_of L) (does (state_of L) c) ≡ record { answer = a; state = state_of (unless_met a (changed L (change L c)) L) }
      go zero e i = does_law L c e i
      go (suc a) e i = refl

  -- a run whose text fits is what the ledger says of it
  pub run_law : (L : Ledger) (cs : List Call) → Fits m b (ledger L cs).pieces → AllUncut m cs
      → run (state_of L) cs ≡ record { answers = faults L cs; state = state_of (ledger L cs) }
  run_law L [] h w = refl
  run_law L (c ∷ cs) h w = rw (step_law L c (fits-before (feed L c) cs h) w.0, run_law (feed L c) cs h w.1)

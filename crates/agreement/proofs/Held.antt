-- From the first piece that does not fit on, the call answers the code, or a builder holds it until it is answered.
use borrow.Author.Rules.{rules}
use mathlib.Core.Bool.{false}
use mathlib.Core.Path.{◌≡◌, refl, ap, ◌∙◌}
use mathlib.Core.Logic.{◌⊎◌, inl, inr}
use mathlib.Core.List.{List, [], ◌∷◌, ◌++◌, append-nil, flatten}
use Prim.Native.Nat.{ℕ, zero, suc, ◌+◌, ◌<◌}
use native.Mathlib.Decide.{dec_le}
use native.Mathlib.Omega.{arith}
use lib.ListN.{length}
use Rattle.formatting.specs.declared.flags.FormattingFlags.{FormattingFlags}
use Rattle.str_writer.specs.Value.{text_of}
use Rattle.calls.specs.Call.{Place, Call, opens, place, value, sub, endsub, finish, open_pieces, place_pieces, close_pieces}
use Rattle.calls.specs.Ledger.{Open, building, within, Ledger, margin_of, top, has_printed, meets, change, changed, feed, ledger, Permitted}
use Rattle.calls.specs.Ledger.{Builder as Having}
use Rattle.calls.specs.Model.{Mode, number_in, Output, put, tries, stops, emit_close, Entry, builder, outer, State, Out, inner, fault_of, guard, Run, run}
use Rattle.agreement.specs.Agreement.{first_refusal}
use Rattle.agreement.proofs.Output.{cap_of, code_of, after, Fits, Passes, put-over, tries-over, stops-answer, hold_code, Coded, Kept, KeptIn, kept_after, put_kept, put-coded, tries-coded}
use Rattle.agreement.proofs.Keeping.{tries_keep, stops_keep}
use Rattle.agreement.proofs.Moves.{holding, depth, raised, lower, Uncut, AllUncut, fault_law, state_of, does, does_law, same-fault}

answer-held : (m : Mode) (d : Output) (us : List (List ℕ)) → (emit_close (code_of m) d us).answer ≡ code_of m
answer-held m d us = search rules

module _ (m : Mode) (b : List ℕ) where
  -- entries as a pile has them, of which the innermost builder that holds a refusal holds the code; what is outside it, and flags, do not matter
  pub data Holds : List Open → List Entry → Type 0 where
    here : (B : Having) (p : List Open) (s : List Entry) → length s ≡ length p → Holds (building B ∷ p) (builder (holding (code_of m) B) ∷ s)
    above : (B : Having) (p : List Open) (s : List Entry) → Holds p s → Holds (building B ∷ p) (builder (holding 0 B) ∷ s)
    under : (f g : FormattingFlags) (p : List Open) (s : List Entry) → Holds p s → Holds (within f ∷ p) (outer (record { flags = g; margin = margin_of p }) ∷ s)

  holds-top : {p : List Open} {s : List Entry} → Holds p s → inner s ≡ top p
  holds-top h = search rules

  holds-depth : {p : List Open} {s : List Entry} → Holds p s → length s ≡ length p
  holds-depth (here B p s e) = ap suc e
  holds-depth (above B p s h) = ap suc (holds-depth h)
  holds-depth (under f g p s h) = ap suc (holds-depth h)

  pub holds_open : {p : List Open} {s : List Entry} → Holds p s → (0 < length p) × (0 < length s)
  holds_open h = search rules

  holds-coded : (B : Having) (p : List Open) (s : List Entry) (a : ℕ) → Coded m a → Holds p s → Holds (building B ∷ p) (builder (holding a B) ∷ s)
  holds-coded B p s a (inl e) h = rw e (above B p s h)
  holds-coded B p s a (inr e) h = rw e (here B p s (holds-depth h))

  -- the formatter of a ledger, or one with a refusal held whose entries and margin are the ledger's
  pub data Tracks (L : Ledger) : State → Type 0 where
    clear : Fits m b L.pieces → Tracks L (state_of m b L)
    stuck : (d : Output) (f : FormattingFlags) (s : List Entry) → KeptIn m b d → Holds L.pile s → Tracks L (record { output = d; flags = f; margin = margin_of L.pile; stack = s })

  abbrev Next : Ledger → Out → Type 0
  Next L o = (o.answer ≡ code_of m) ⊎ ((o.answer ≡ 0) × Tracks L o.state)

  tries_kept : (d : Output) (us : List (List ℕ)) → KeptIn m b d → KeptIn m b (tries d us).output
  tries_kept = tries_keep (Kept m b) (put_kept m b)

  -- a refusal that is held stays so, or is answered
  module _ (d : Output) (f g : FormattingFlags) (ts : List (List ℕ)) (k : KeptIn m b d) where
    abbrev F : List Open → List Entry → State
    F p s = record { output = d; flags = f; margin = margin_of p; stack = s }

    abbrev lg : List Open → Ledger
    lg p = record { flags = g; pile = p; pieces = ts }

    abbrev at : Having → List Open → Place → List (List ℕ)
    at B p x = place_pieces B.kind (has_printed B) f.is_alternate (margin_of (building B ∷ p)) x

    abbrev Stays : List Open → List Entry → Call → Type 0
    Stays p s c = Next (changed (lg p) (change (lg p) c)) (does (F p s) c)

    stays-place : {p : List Open} {s : List Entry} (x : Place) → Holds p s → meets (lg p) (place x) ≡ 0 → Stays p s (place x)
    stays-place x (here B p s e) z = inr (refl, rw (hold_code m) (stuck _ f _ (tries_kept d (at B p x) k) (here _ p s e)))
    stays-place x (above B p s h) z = inr (refl, stuck _ f _ (tries_kept d (at B p x) k) (holds-coded _ p s _ (tries-coded m b d (at B p x) k) h))
    stays-place x (under f' g' p s h) z = absurd (omega arith)

    stays-endsub : {p : List Open} {s : List Entry} → Holds p s → meets (lg p) endsub ≡ 0 → Stays p s endsub
    stays-endsub (here B p s e) z = absurd (omega arith)
    stays-endsub (above B p s h) z = absurd (omega arith)
    stays-endsub (under f' g' p s h) z = inr (refl, stuck d g' s k h)

    stays-finish : {p : List Open} {s : List Entry} → Holds p s → meets (lg p) finish ≡ 0 → Stays p s finish
    stays-finish (here B p s e) z = inl (answer-held m d _)
    stays-finish (above B p s h) z = go (rw (stops-answer d us) (tries-coded m b d us k))
      where
        us : List (List ℕ)
        us = close_pieces B.kind (has_printed B) f.is_alternate (margin_of p)

        go : Coded m (stops d us).answer → Stays (building B ∷ p) (builder (holding 0 B) ∷ s) finish
        go (inl e) = rw (lower B p) (inr (e, stuck _ f s (stops_keep (Kept m b) (put_kept m b) d us k) h))
        go (inr e) = rw (lower B p) (inl e)
    stays-finish (under f' g' p s h) z = absurd (omega arith)

    stays : (p : List Open) (s : List Entry) (c : Call) → Holds p s → meets (lg p) c ≡ 0 → Stays p s c
    stays p s (opens t name) h z =
        inr (refl, rw (raised p) (stuck _ f _ (tries_kept d (open_pieces t name) k) (holds-coded (record { kind = t; has_field = false }) p s _ (tries-coded m b d (open_pieces t name) k) h)))
    stays p s (place x) h z = stays-place x h z
    stays p s (value v) h z = go (put-coded m b d (text_of f v) k)
      where
        go : Coded m (put d (text_of f v)).answer → Stays p s (value v)
        go (inl e) = inr (e, stuck _ f s (put_kept m b d.mode d.bytes (text_of f v) k) h)
        go (inr e) = inl e
    stays p s (sub t) h z = inr (refl, stuck d t _ k (under g f p s h))
    stays p s endsub h z = stays-endsub h z
    stays p s finish h z = stays-finish h z

  -- a call whose pieces do not fit answers the code, or its builder holds it
  module _ (f : FormattingFlags) (ts : List (List ℕ)) (j : Fits m b ts) where
    abbrev cl : List Open → Ledger
    cl p = record { flags = f; pile = p; pieces = ts }

    abbrev Over : List Open → Call → Type 0
    Over p c = Passes m b (changed (cl p) (change (cl p) c)).pieces → Next (changed (cl p) (change (cl p) c)) (does (state_of m b (cl p)) c)

    no_piece : Passes m b (ts ++ []) → ⊥
    no_piece h = omega (arith, rw append-nil at h)

    over-place : (p : List Open) (x : Place) → Over p (place x)
    over-place [] x h = absurd (no_piece h)
    over-place (building B ∷ p) x h =
        let us = place_pieces B.kind (has_printed B) f.is_alternate (margin_of (building B ∷ p)) x in
        inr (refl, rw (tries-over b m ts us j h) (stuck _ f _ (tries_kept _ us (kept_after m b ts j)) (here _ p _ (depth p))))
    over-place (within g ∷ p) x h = absurd (no_piece h)

    over-endsub : (p : List Open) → Over p endsub
    over-endsub p h = search rules

    over-finish : (p : List Open) → Over p finish
    over-finish [] h = absurd (no_piece h)
    over-finish (building B ∷ p) h =
        let us = close_pieces B.kind (has_printed B) f.is_alternate (margin_of p) in
        inl (rw (lower B p) (stops-answer (after m b ts) us ∙ tries-over b m ts us j h))
    over-finish (within g ∷ p) h = absurd (no_piece h)

    over : (p : List Open) (c : Call) → Over p c
    over p (opens k name) h =
        inr (refl, rw (tries-over b m ts (open_pieces k name) j h, raised p) (stuck _ f _ (tries_kept _ (open_pieces k name) (kept_after m b ts j)) (here _ p _ (depth p))))
    over p (place x) h = over-place p x h
    over p (value v) h = inl (put-over b m ts (text_of f v) j h)
    over p (sub g) h = absurd (no_piece h)
    over p endsub h = over-endsub p h
    over p finish h = over-finish p h

  next : (L : Ledger) (F : State) (c : Call) → Tracks L F → meets L c ≡ 0 → Next (changed L (change L c)) (does F c)
  next L _ c (clear h) z = go (dec_le (number_in m + length (flatten (changed L (change L c)).pieces)) (cap_of m b))
    where
      go : Dec (Fits m b (changed L (change L c)).pieces) → Next (changed L (change L c)) (does (state_of m b L) c)
      go (yes k) = rw (does_law m b L c z k) (inr (refl, clear k))
      go (no k) = over L.flags L.pieces h L.pile c (omega arith)
  next L _ c (stuck d f s k h) z = stays d f L.flags L.pieces k L.pile s c h z

  tracks_fault : (L : Ledger) (F : State) (c : Call) → Tracks L F → Uncut m c → fault_of F c ≡ meets L c
  tracks_fault L _ c (clear h) w = same-fault m b L c h w
  tracks_fault L _ c (stuck d f s k h) w =
      let F : State = record { output = d; flags = f; margin = margin_of L.pile; stack = s } in
      fault_law m b F L c k refl (holds-top h) (holds-depth h) w

  -- how a run ends: with a call that the ledger does not permit, with the code, or with a formatter that tracks the ledger
  pub data Ends (L : Ledger) (cs : List Call) (r : Run) : Type 0 where
    met : (Permitted L cs → ⊥) → (first_refusal r.answers ≡ 0 → ⊥) → Ends L cs r
    refused : first_refusal r.answers ≡ code_of m → Ends L cs r
    ended : Permitted L cs → Tracks (ledger L cs) r.state → Ends L cs r

  pub ends : (cs : List Call) (L : Ledger) (F : State) → Tracks L F → AllUncut m cs → Ends L cs (run F cs)
  ends [] L F g w = ended tt g
  ends (c ∷ cs) L F g w = rw (tracks_fault L F c g w.0) (go (meets L c) refl (λ G h. ends cs (feed L c) G h w.1))
    where
      ran : Out → Run
      ran o = record { answers = o.answer ∷ (run o.state cs).answers; state = (run o.state cs).state }

      more : (o : Out) → meets L c ≡ 0 → o.answer ≡ 0 → Ends (feed L c) cs (run o.state cs) → Ends L (c ∷ cs) (ran o)
      more o e q (met p r) = met (λ P. p P.1) (λ x. r (rw q at x))
      more o e q (refused r) = refused (rw q r)
      more o e q (ended p h) = ended (e, p) h

      on : (o : Out) → meets L c ≡ 0 → ((G : State) → Tracks (feed L c) G → Ends (feed L c) cs (run G cs)) → Next (feed L c) o → Ends L (c ∷ cs) (ran o)
      on o e ih (inl q) = refused (rw q (hold_code m _))
      on o e ih (inr q) = more o e q.0 (ih o.state q.1)

      go : (a : ℕ) → meets L c ≡ a → ((G : State) → Tracks (feed L c) G → Ends (feed L c) cs (run G cs)) → Ends L (c ∷ cs) (ran (guard a F (does F c)))
      go zero e ih = on (does F c) e ih (rw e (next L F c g e))
      go (suc a) e ih = met (λ P. omega (arith, e, P.0)) (λ x. omega (arith, x))

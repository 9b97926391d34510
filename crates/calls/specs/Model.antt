-- Document 01, 'A nested record, and its count': the formatter and the counter. Each call is judged, moves the open entries, and emits its pieces.
use Rattle.std.specs.Prelude.{Bool, true, false, cond, List, [], ◌∷◌, ℕ, zero, suc, ◌+◌, ◌-◌, ◌^◌, ltb, length}
use Rattle.error.specs.declared.Error.TheVariants.{CountTooLarge}
use Rattle.error.specs.Answer.{done, number_of, fault_number, answer_number}
use Rattle.formatting.specs.declared.flags.FormattingFlags.{FormattingFlags}
use Rattle.str_writer.specs.Value.{text_of}
use Rattle.str_writer.specs.Write.{Outcome, cursor_fault}
use Rattle.str_writer.specs.Write.{placed as placed_text}
use Rattle.calls.specs.declared.Kind.{Kind}
use Rattle.calls.specs.declared.Settings.{Settings}
use Rattle.calls.specs.Call.{Place, Call, opens, place, value, sub, endsub, finish, open_pieces, place_pieces, close_pieces, Innermost, nothing, a_builder, a_sub, cut_number, call_fault, hold}

-- 'A nested record': a counting run with its total, or a writing run with its cursor
pub data Mode : Type 0 where
  counting writing : ℕ → Mode

-- 'A nested record': the total of a counting run, the cursor of a writing one
abbrev pub number_in : Mode → ℕ
number_in (counting n) = n
number_in (writing p) = p

-- 'A nested record': the output is the mode with its number, and the lent bytes
pub record Output : Type 0 where
  pub mode : Mode
  pub bytes : List ℕ

-- 'A nested record': what a piece answers, and the output then
pub record PieceOutcome : Type 0 where
  pub answer : ℕ
  pub output : Output

-- 'A nested record': an answer with the output as it then is
abbrev pub to : Mode → List ℕ → ℕ → PieceOutcome
to m b a = record { answer = a; output = record { mode = m; bytes = b } }

-- 'The answer to a call', 6: the total would pass 2^64 - 1
abbrev pub most : ℕ
most = 2 ^ 64 - 1

-- 'The writer': a single write's outcome as that of a piece
abbrev pub wrote : Outcome → PieceOutcome
wrote o = to (writing o.written.at) o.bytes (answer_number o.written.answer)

-- 'A nested record': a counting run adds the length of a piece, a writing run writes it
abbrev pub put_in : Mode → List ℕ → List ℕ → PieceOutcome
put_in (counting n) b t = cond (ltb most (n + length t)) (to (counting n) b (number_of CountTooLarge)) (to (counting (n + length t)) b done)
put_in (writing c) b t = wrote (placed_text b c t)

-- 'The answer to a call': a refused piece keeps the total or the cursor, and all bytes
abbrev pub put : Output → List ℕ → PieceOutcome
put d t = put_in d.mode d.bytes t

-- 'A nested record': no piece
abbrev pub put_none : Output → PieceOutcome
put_none d = record { answer = done; output = d }

-- 'A nested record', opening, field or entry: each piece is tried even after one is refused
abbrev pub tries : Output → List (List ℕ) → PieceOutcome
tries d [] = put_none d
tries d (t ∷ ts) =
    let a = put d t in
    let r = tries a.output ts in
    record { answer = hold a.answer r.answer; output = r.output }

-- 'A nested record', finish: a refused piece is answered, and the next ones are not tried
abbrev pub go_on : ℕ → PieceOutcome → PieceOutcome → PieceOutcome
go_on zero r next = next
go_on (suc a) r next = r

-- 'A nested record', finish: stopping at the first refusal
abbrev pub stops : Output → List (List ℕ) → PieceOutcome
stops d [] = put_none d
stops d (t ∷ ts) =
    let a = put d t in
    let r = stops a.output ts in
    go_on a.answer a r

-- 'A nested record': an open builder: its kind, whether it has a field, and the refusal that it holds, 0 for none
pub record Builder : Type 0 where
  pub kind : Kind
  pub has_field : Bool
  pub held : ℕ

-- 'A nested record', 8: it is ready for a write or an opening once it has a field
abbrev pub is_ready : Builder → Bool
is_ready B = B.has_field

-- 'A nested record', field or entry, finish: it has printed a field
abbrev pub has_printed : Builder → Bool
has_printed B = B.has_field

-- 'A nested record': an open sub-formatter: the flags and the margin outside it
pub record Outer : Type 0 where
  pub flags : FormattingFlags
  pub margin : ℕ

-- 'A nested record': entries are builders and sub-formatters
pub data Entry : Type 0 where
  builder : Builder → Entry
  outer : Outer → Entry

-- 'A nested record': the formatter, its output, its flags and margin, its open entries, the innermost first
pub record State : Type 0 where
  pub output : Output
  pub flags : FormattingFlags
  pub margin : ℕ
  pub stack : List Entry

-- 'A nested record': what a call answers, and the formatter then
pub record Out : Type 0 where
  pub answer : ℕ
  pub state : State

-- 'A nested record', 8: what is innermost
abbrev pub inner : List Entry → Innermost
inner [] = nothing
inner (builder B ∷ s) = a_builder B.kind (is_ready B)
inner (outer U ∷ s) = a_sub

-- 'The answer to a call', 9: the cursor given exceeds the buffer's length
abbrev pub beyond : Mode → List ℕ → ℕ
beyond (counting n) b = done
beyond (writing c) b = fault_number (cursor_fault b c)

-- 'The answer to a call', 3: writing only; a counting run does not test boundaries
abbrev pub cut_in : Mode → ℕ → ℕ
cut_in (counting n) c = done
cut_in (writing p) c = c

-- judge. 'The answer to a call', order: 8, 7, then 2, 4 or 5, then 3
abbrev pub judged : State → Call → ℕ
judged F c = hold (call_fault (inner F.stack) (length F.stack) F.margin c) (cut_in F.output.mode (cut_number c))

-- judge. 'The answer to a call', order: 9 before all
abbrev pub fault_of : State → Call → ℕ
fault_of F c = hold (beyond F.output.mode F.output.bytes) (judged F c)

-- move: the flags, the margin and the open entries after a call
pub record Moved : Type 0 where
  pub flags : FormattingFlags
  pub margin : ℕ
  pub stack : List Entry

-- move: nothing
abbrev pub unmoved : State → Moved
unmoved F = record { flags = F.flags; margin = F.margin; stack = F.stack }

-- move. 'A nested record', opening a builder: raise the margin by 4 even if refused
abbrev pub move_open : State → Kind → Moved
move_open F k = record { flags = F.flags; margin = F.margin + 4; stack = builder (record { kind = k; has_field = false; held = done }) ∷ F.stack }

-- move. 'A nested record', field or entry: the builder now has a field
abbrev pub move_place : State → List Entry → Moved
move_place F [] = unmoved F
move_place F (builder B ∷ s) = record { flags = F.flags; margin = F.margin; stack = builder (record { kind = B.kind; has_field = true; held = B.held }) ∷ s }
move_place F (outer U ∷ s) = unmoved F

-- move. 'A nested record', sub-formatters: they have flags of their own
abbrev pub move_sub : State → FormattingFlags → Moved
move_sub F f = record { flags = f; margin = F.margin; stack = outer (record { flags = F.flags; margin = F.margin }) ∷ F.stack }

-- move. 'A nested record', sub-formatters: on closing, the outer flags and margin return
abbrev pub move_endsub : State → List Entry → Moved
move_endsub F [] = unmoved F
move_endsub F (builder B ∷ s) = unmoved F
move_endsub F (outer U ∷ s) = record { flags = U.flags; margin = U.margin; stack = s }

-- move. 'A nested record', finish: if the builder holds a refusal, the margin is not lowered, else by 4; docs/DECISIONS.md, 'The formatter': a made-up margin below 4 is lowered to 0
abbrev pub lowered : ℕ → ℕ → ℕ
lowered zero m = m - 4
lowered (suc h) m = m

-- move. 'A nested record', finish: the builder closes
abbrev pub move_finish : State → List Entry → Moved
move_finish F [] = unmoved F
move_finish F (builder B ∷ s) = record { flags = F.flags; margin = lowered B.held F.margin; stack = s }
move_finish F (outer U ∷ s) = unmoved F

-- move: what a call that meets nothing does to flags, margin and entries
abbrev pub move : State → Call → Moved
move F (opens k name) = move_open F k
move F (place x) = move_place F F.stack
move F (value v) = unmoved F
move F (sub f) = move_sub F f
move F endsub = move_endsub F F.stack
move F finish = move_finish F F.stack

-- emit. 'A nested record', field or entry: each of its pieces is tried
abbrev pub emit_place : State → Place → List Entry → PieceOutcome
emit_place F x [] = put_none F.output
emit_place F x (builder B ∷ s) = tries F.output (place_pieces B.kind (has_printed B) F.flags.is_alternate F.margin x)
emit_place F x (outer U ∷ s) = put_none F.output

-- emit. 'A nested record', finish: if the builder holds a refusal, answer that; otherwise write the closing, to the first refusal
abbrev pub emit_close : ℕ → Output → List (List ℕ) → PieceOutcome
emit_close zero d ts = stops d ts
emit_close (suc h) d ts = record { answer = suc h; output = d }

-- emit. 'A nested record', finish: the closing has the margin that is then left
abbrev pub emit_finish : State → List Entry → PieceOutcome
emit_finish F [] = put_none F.output
emit_finish F (builder B ∷ s) = emit_close B.held F.output (close_pieces B.kind (has_printed B) F.flags.is_alternate (F.margin - 4))
emit_finish F (outer U ∷ s) = put_none F.output

-- emit: what the pieces of a call that meets nothing answer, and the output then
abbrev pub emit : State → Call → PieceOutcome
emit F (opens k name) = tries F.output (open_pieces k name)
emit F (place x) = emit_place F x F.stack
emit F (value v) = put F.output (text_of F.flags v)
emit F (sub f) = put_none F.output
emit F endsub = put_none F.output
emit F finish = emit_finish F F.stack

-- 'A nested record', opening, field or entry: answer 0, and the builder holds the refusal; any other is answered to the caller only
abbrev pub holds : Call → Bool
holds (opens k name) = true
holds (place x) = true
holds (value v) = false
holds (sub f) = false
holds endsub = false
holds finish = false

-- 'A nested record': the innermost builder holds the first refusal
abbrev pub with_held : ℕ → List Entry → List Entry
with_held a [] = []
with_held a (builder B ∷ s) = builder (record { kind = B.kind; has_field = B.has_field; held = hold B.held a }) ∷ s
with_held a (outer U ∷ s) = outer U ∷ s

-- 'A nested record': the formatter moved, with the output of what was emitted
abbrev pub settled : Bool → Moved → PieceOutcome → Out
settled true M r = record { answer = done; state = record { output = r.output; flags = M.flags; margin = M.margin; stack = with_held r.answer M.stack } }
settled false M r = record { answer = r.answer; state = record { output = r.output; flags = M.flags; margin = M.margin; stack = M.stack } }

-- 'The answer to a call': a call that answers 2 to 9 changes nothing
abbrev pub guard : ℕ → State → Out → Out
guard zero F o = o
guard (suc a) F o = record { answer = suc a; state = F }

-- 'A nested record': a call is judged; if it meets nothing, it moves and emits
abbrev pub step : State → Call → Out
step F c = guard (fault_of F c) F (settled (holds c) (move F c) (emit F c))

-- 'A nested record': the answers to a list of calls, and the formatter after them
pub record Run : Type 0 where
  pub answers : List ℕ
  pub state : State

-- 'A nested record': each call, also after a refused one, gets the formatter or counter, and the bytes, exactly as the call before left them
abbrev pub run : State → List Call → Run
run F [] = record { answers = []; state = F }
run F (c ∷ cs) =
    let o = step F c in
    let r = run o.state cs in
    record { answers = o.answer ∷ r.answers; state = r.state }

-- 'A nested record': it starts fresh, nothing open or held, margin 0, and a total of 0 or cursor p over bytes of any content
abbrev pub start : Mode → List ℕ → Settings → State
start m b S = record { output = record { mode = m; bytes = b }; flags = S.flags; margin = 0; stack = [] }

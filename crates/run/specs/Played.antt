-- What a list of calls gives when it is played whole, and demand 3 of a run as data.
use Rattle.std.specs.Prelude.{◌≡◌, ◌↔◌, List, [], ◌∷◌, ◌++◌, map, ℕ, zero, suc, ◌+◌, ◌≤◌, ◌<◌, length, take, drop, Option, Some, None}
use Rattle.error.specs.declared.Error.TheVariants.{NotEnoughSpace}
use Rattle.error.specs.Answer.{done, number_of}
use Rattle.calls.specs.declared.Settings.{Settings}
use Rattle.calls.specs.Call.{Call, hold}
use Rattle.calls.specs.Model.{Mode, counting, writing, Output, State, Run, start, beyond, most}
use Rattle.agreement.specs.Agreement.{first_refusal, AllWhole, Proper, defined_text}
use Rattle.writer_backend.specs.Output.{with_number}
use Rattle.formatter.specs.Calls.{step_or}
use Rattle.run.specs.declared.Refusal.{Refusal}
use Rattle.run.specs.declared.End.{End}
use Rattle.run.specs.declared.Ran.{Ran}

-- Document 01, 'A nested record': each call, also after a refused one, gets what the call before left; what is no call has an answer too
abbrev pub run_or : State → List (Option Call) → Run
run_or F [] = record { answers = []; state = F }
run_or F (c ∷ cs) =
    let o = step_or F c in
    let r = run_or o.state cs in
    record { answers = o.answer ∷ r.answers; state = r.state }

-- docs/DECISIONS.md, 'The formatter': the place of the first refusal: how many calls answered 0 before it; all of them where none is refused
abbrev pub refused_at : List ℕ → ℕ
refused_at [] = 0
refused_at (zero ∷ r) = suc (refused_at r)
refused_at (suc a ∷ r) = 0

-- docs/DECISIONS.md, 'The formatter': the end of a run: its first refusal, the place of that call, how many entries are open, and the output
pub record Played : Type 0 where
  pub first : ℕ
  pub place : ℕ
  pub entries : ℕ
  pub output : Output

-- docs/DECISIONS.md, 'The formatter': the end of a run that meets e before its first call
abbrev pub ended : ℕ → Run → Played
ended e r = record { first = hold e (first_refusal r.answers); place = refused_at r.answers; entries = length r.state.stack; output = r.state.output }

-- Document 01, 'A nested record': a fresh run; 9 before all, also of no calls
abbrev pub played : Mode → List ℕ → Settings → List (Option Call) → Played
played m b S ds = ended (beyond m b) (run_or (start m b S) ds)

-- docs/DECISIONS.md, 'The formatter': the number of what a run was refused with first; 0 where nothing was refused
abbrev pub first_number : Option Refusal → ℕ
first_number None = done
first_number (Some f) = number_of f.error

-- docs/DECISIONS.md, 'The formatter': the place of the call that was refused first; as many as there are calls where none was
abbrev pub place_in : List (Option Call) → Option Refusal → ℕ
place_in ds None = length ds
place_in ds (Some f) = f.place

-- docs/DECISIONS.md, 'The formatter': the end of a run of the calls ds, of what it was refused with first, the mode that it began in, where it ended, and the bytes as they then are
abbrev pub ending : List (Option Call) → Option Refusal → Mode → End → List ℕ → Played
ending ds f m e b = record { first = first_number f; place = place_in ds f; entries = e.entries; output = record { mode = with_number m e.number; bytes = b } }

-- docs/DECISIONS.md, 'The formatter': the end that a Ran is, with the mode and the bytes as they then are
abbrev end_of : List (Option Call) → Ran → Mode → List ℕ → Played
end_of ds r m b = record { first = first_number r.first; place = place_in ds r.first; entries = r.entries; output = record { mode = m; bytes = b } }

-- docs/DECISIONS.md, 'The formatter': of a counting run
abbrev pub end_counted : List (Option Call) → Ran → Played
end_counted ds r = end_of ds r (counting r.number) []

-- docs/DECISIONS.md, 'The formatter': of a writing run
abbrev pub end_written : List (Option Call) → Ran → List ℕ → Played
end_written ds r b = end_of ds r (writing r.number) b

-- docs/DECISIONS.md, 'The formatter': the answers of a run, laid in lent places as far as there is room
abbrev pub stored : List ℕ → List ℕ → List ℕ
stored [] r = []
stored (x ∷ l) [] = x ∷ l
stored (x ∷ l) (a ∷ r) = a ∷ stored l r

-- demand 3, counting: a proper run answers 0 and totals exactly the length of its defined text
abbrev pub CountAgrees : Settings → List (Option Call) → ℕ → ℕ → Type 0
CountAgrees S ds first total =
    (cs : List Call) → ds ≡ map Some cs → Proper S cs → length (defined_text S cs) ≤ most →
    (first ≡ done) × (total ≡ length (defined_text S cs))

-- demand 3, writing t from p into b: it answers 0 exactly when t fits, and then leaves exactly t and the cursor past it; else the first refusal is 1; no byte before p changes, and there are as many as before
pub record WrittenAs (t b : List ℕ) (p first cursor : ℕ) (b' : List ℕ) : Type 0 where
  pub exactly : (first ≡ done) ↔ (p + length t ≤ length b)
  pub leaves : p + length t ≤ length b → (cursor ≡ p + length t) × (b' ≡ take p b ++ t ++ drop (p + length t) b)
  pub refused : length b < p + length t → first ≡ number_of NotEnoughSpace
  pub before : take p b' ≡ take p b
  pub size : length b' ≡ length b

-- demand 3, writing: so a proper run is written
abbrev pub WriteAgrees : Settings → List (Option Call) → List ℕ → ℕ → ℕ → ℕ → List ℕ → Type 0
WriteAgrees S ds b p first cursor b' =
    (cs : List Call) → ds ≡ map Some cs → Proper S cs → length (defined_text S cs) ≤ most → p ≤ length b →
    WrittenAs (defined_text S cs) b p first cursor b'

-- what a sender relies on: counting answered 0 with a total of c and left nothing open
pub record CountedAs (e : Played) (c : ℕ) : Type 0 where
  pub done : e.first ≡ done
  pub total : e.output.mode ≡ counting c
  pub closed : e.entries ≡ 0

-- what a sender relies on: the calls of a run as data
abbrev pub calls_in : List (Option Call) → List Call
calls_in [] = []
calls_in (None ∷ ds) = calls_in ds
calls_in (Some c ∷ ds) = c ∷ calls_in ds

-- what a sender relies on: where counting ended as e, so with a total of c, the defined text has c bytes; writing from p into b answers 0 exactly if they are free and no string is cut inside a character; and then the defined text stands there, and the cursor past it
abbrev pub WritesAsCounted : Played → Settings → List (Option Call) → List ℕ → ℕ → ℕ → ℕ → List ℕ → Type 0
WritesAsCounted e S ds b p first cursor b' =
    (c : ℕ) → CountedAs e c →
    (length (defined_text S (calls_in ds)) ≡ c) × ((first ≡ done) ↔ ((p + c ≤ length b) × AllWhole (calls_in ds)))
    × (first ≡ done → (cursor ≡ p + c) × (b' ≡ take p b ++ defined_text S (calls_in ds) ++ drop (p + c) b))

-- Demand 3, as one statement about whole lists of calls.
use Rattle.std.specs.Prelude.{◌≡◌, ◌↔◌, List, [], ◌∷◌, ◌++◌, ℕ, ◌+◌, ◌≤◌, ◌<◌, length, take, drop}
use Rattle.error.specs.declared.Error.TheVariants.{NotEnoughSpace}
use Rattle.error.specs.Answer.{done, number_of}
use Rattle.calls.specs.declared.Settings.{Settings}
use Rattle.calls.specs.Call.{Call, cut_number, hold}
use Rattle.calls.specs.Ledger.{text_in, ledger, fresh, Permitted}
use Rattle.calls.specs.Model.{counting, writing, Run, run, start, most}

-- demand 3, 'succeeds': every answer is 0
abbrev pub AllDone : List ℕ → Type 0
AllDone [] = Unit {0}
AllDone (a ∷ r) = (a ≡ done) × AllDone r

-- demand 3: the first answer that is not 0; 0 where each is
abbrev pub first_refusal : List ℕ → ℕ
first_refusal [] = done
first_refusal (a ∷ r) = hold a (first_refusal r)

-- Document 01, 'A nested record': both ends of each clamped range are boundaries
abbrev pub Whole : Call → Type 0
Whole c = cut_number c ≡ done

-- Document 01, 'A nested record': the run cuts strings only between characters
abbrev pub AllWhole : List Call → Type 0
AllWhole [] = Unit {0}
AllWhole (c ∷ cs) = Whole c × AllWhole cs

-- Document 01, 'A nested record': the run is permitted, closes all it opens, and cuts strings only between characters
pub record Proper (S : Settings) (cs : List Call) : Type 0 where
  pub permitted : Permitted (fresh S) cs
  pub closed : (ledger (fresh S) cs).pile ≡ []
  pub whole : AllWhole cs

-- Document 01, 'A nested record': its defined text comes from the ledger
abbrev pub defined_text : Settings → List Call → List ℕ
defined_text S cs = text_in (ledger (fresh S) cs)

-- Document 01, 'A nested record': a fresh counting run, with whatever bytes are lent
abbrev pub counted : Settings → List Call → List ℕ → Run
counted S cs b = run (start (counting 0) b S) cs

-- Document 01, 'A nested record': a fresh writing run, cursor p over bytes of any content
abbrev pub written : Settings → List Call → List ℕ → ℕ → Run
written S cs b p = run (start (writing p) b S) cs

-- demand 3: counting answers 0 throughout, totals exactly the length of the defined text, leaves the lent bytes, and nothing is open
pub record Counted (S : Settings) (cs : List Call) (b : List ℕ) : Type 0 where
  pub done : AllDone (counted S cs b).answers
  pub output : (counted S cs b).state.output ≡ record { mode = counting (length (defined_text S cs)); bytes = b }
  pub closed : (counted S cs b).state.stack ≡ []

-- demand 3: writing answers 0 throughout exactly when that count fits, leaving exactly that text and nothing open; else the first refusal is 1 and no byte before the cursor has changed
pub record Written (S : Settings) (cs : List Call) (b : List ℕ) (p : ℕ) : Type 0 where
  pub exactly : AllDone (written S cs b p).answers ↔ (p + length (defined_text S cs) ≤ length b)
  pub cursor : p + length (defined_text S cs) ≤ length b → (written S cs b p).state.output.mode ≡ writing (p + length (defined_text S cs))
  pub bytes : p + length (defined_text S cs) ≤ length b → (written S cs b p).state.output.bytes ≡ take p b ++ defined_text S cs ++ drop (p + length (defined_text S cs)) b
  pub closed : p + length (defined_text S cs) ≤ length b → (written S cs b p).state.stack ≡ []
  pub refused : length b < p + length (defined_text S cs) → first_refusal (written S cs b p).answers ≡ number_of NotEnoughSpace
  pub before : take p (written S cs b p).state.output.bytes ≡ take p b
  pub size : length (written S cs b p).state.output.bytes ≡ length b

-- demand 3: for every permitted, closed list of calls that cuts strings only between characters, with a text of at most 2^64 - 1 bytes
abbrev pub Demand3 : Type 0
Demand3 =
    (S : Settings) (cs : List Call) → Proper S cs → length (defined_text S cs) ≤ most →
    ((b : List ℕ) → Counted S cs b) × ((b : List ℕ) (p : ℕ) → p ≤ length b → Written S cs b p)

-- what a sender relies on: writing from p a list of calls whose count is c answers 0 throughout exactly if c bytes are free and no string is cut inside a character; and then exactly its defined text stands there, and the cursor past it
pub record AsCounted (S : Settings) (cs : List Call) (c : ℕ) (b : List ℕ) (p : ℕ) : Type 0 where
  pub exactly : AllDone (written S cs b p).answers ↔ ((p + c ≤ length b) × AllWhole cs)
  pub output : AllDone (written S cs b p).answers → (written S cs b p).state.output ≡ record { mode = writing (p + c); bytes = take p b ++ defined_text S cs ++ drop (p + c) b }

-- what a sender relies on: for every list of calls, permitted or not, that counting answered with 0 throughout and a total of c, leaving nothing open
abbrev pub CountSuffices : Type 0
CountSuffices =
    (S : Settings) (cs : List Call) (c : ℕ) → AllDone (counted S cs []).answers → (counted S cs []).state.output.mode ≡ counting c → (counted S cs []).state.stack ≡ [] →
    (length (defined_text S cs) ≡ c) × ((b : List ℕ) (p : ℕ) → p ≤ length b → AsCounted S cs c b p)

-- A program that answers the lines of its input, as a list of steps, reads and writes; and what it writes in all, whatever the pieces. What a program prints for the lines that are left is its own, the parameter `left`; so is the limit of a line.
use Rattle.std.specs.Prelude.{Bool, true, false, ◌≡◌, List, [], ◌∷◌, ◌++◌, ℕ, ◌<◌, length}
use Rattle.lines.specs.Lines.{lines_of, clipped}
use Rattle.lines.specs.declared.Reader.{Reader}
use Rattle.lines.specs.Reading.{held_of, ahead, MayFollow, Unended, More}

-- where a program stands: its own stage, the bytes that are read and not yet answered, whether they begin inside a line that was too long, those that are printed and not yet written, and whether the input has ended
pub record At (S : Type 0) : Type 0 where
  pub stage : S
  pub bytes : List ℕ
  pub skips : Bool
  pub pending : List ℕ
  pub ended : Bool

-- the same, of its stage, what the reader holds in the buffer b, and what is printed
abbrev pub standing : {S : Type 0} → S → Reader → List ℕ → List ℕ → At S
standing s r b pending = record { stage = s; bytes = held_of r b; skips = r.skips; pending = pending; ended = r.ended }

-- what is still to be written, if the input goes on with rest
abbrev pub remains : {S : Type 0} → (S → List (List ℕ) → List ℕ) → ℕ → At S → List ℕ → List ℕ
remains left limit a rest = a.pending ++ left a.stage (ahead limit a.skips (a.bytes ++ rest))

-- a stage after which no line prints anything
abbrev pub Over : {S : Type 0} → (S → List (List ℕ) → List ℕ) → S → Type 0
Over left s = (ls : List (List ℕ)) → left s ls ≡ []

-- a step that does not wait answers a line, so that fewer bytes are held, or is the last; one waits only where no line has ended and the input may go on
pub data Onward {S : Type 0} (left : S → List (List ℕ) → List ℕ) (limit : ℕ) (a b : At S) : Bool → Type 0 where
  answers : length b.bytes < length a.bytes → Onward left limit a b false
  ends : Over left b.stage → Onward left limit a b false
  awaits : Unended limit b.bytes → a.ended ≡ false → Onward left limit a b true

-- a step, and whether it waits: what is still to be written stays what it was
pub record Steps {S : Type 0} (left : S → List (List ℕ) → List ℕ) (limit : ℕ) (waits : Bool) (a b : At S) : Type 0 where
  pub prints : (rest : List ℕ) → MayFollow a.ended rest → remains left limit b rest ≡ remains left limit a rest
  pub ended : b.ended ≡ a.ended
  pub onward : Onward left limit a b waits

-- pieces one after another
abbrev pub joined : List (List ℕ) → List ℕ
joined [] = []
joined (p ∷ ps) = p ++ joined ps

-- from the first place to the second the program reads the pieces of the first list and writes those of the second; it reads while the input has not ended, and a read that gives nothing says that it has
pub data Plays {S : Type 0} (left : S → List (List ℕ) → List ℕ) (limit : ℕ) : At S → List (List ℕ) → List (List ℕ) → At S → Type 0 where
  rests : {a : At S} → Plays left limit a [] [] a
  steps : {a b c : At S} {ins outs : List (List ℕ)} (waits : Bool) → Steps left limit waits a b → Plays left limit b ins outs c → Plays left limit a ins outs c
  reads : {s : S} {h : List ℕ} {k : Bool} {p : List ℕ} {c : At S} {ins outs : List (List ℕ)} (piece : List ℕ) (end : Bool) → (end ≡ true → piece ≡ [])
      → Plays left limit (record { stage = s; bytes = h ++ piece; skips = k; pending = p; ended = end }) ins outs c
      → Plays left limit (record { stage = s; bytes = h; skips = k; pending = p; ended = false }) (piece ∷ ins) outs c
  writes : {s : S} {h : List ℕ} {k : Bool} {p : List ℕ} {e : Bool} {c : At S} {ins outs : List (List ℕ)} → Plays left limit (record { stage = s; bytes = h; skips = k; pending = []; ended = e }) ins outs c
      → Plays left limit (record { stage = s; bytes = h; skips = k; pending = p; ended = e }) ins (p ∷ outs) c

-- a program begins with nothing read and nothing printed
abbrev pub begins : {S : Type 0} → S → At S
begins s = record { stage = s; bytes = []; skips = false; pending = []; ended = false }

-- it is done where no line prints anything and all that is printed is written
abbrev pub Done : {S : Type 0} → (S → List (List ℕ) → List ℕ) → At S → Type 0
Done left b = Over left b.stage × (b.pending ≡ [])

-- whatever pieces the input comes in, and whenever what is printed is written: of a program that is done, the pieces written, joined, are what the lines of the pieces read, joined, print (proved in proofs/Playing)
abbrev pub PlaysRight : {S : Type 0} → (S → List (List ℕ) → List ℕ) → ℕ → S → Type 0
PlaysRight {S} left limit s = (ins outs : List (List ℕ)) (b : At S) → Plays left limit (begins s) ins outs b → Done left b → joined outs ≡ left s (clipped limit (lines_of (joined ins)))

-- and wherever it breaks off, they are a beginning of that, whatever the input goes on with (proved in proofs/Playing)
abbrev pub BreaksOffRight : {S : Type 0} → (S → List (List ℕ) → List ℕ) → ℕ → S → Type 0
BreaksOffRight {S} left limit s =
    (ins outs : List (List ℕ)) (b : At S) → Plays left limit (begins s) ins outs b → (rest : List ℕ) → MayFollow b.ended rest → joined outs ++ remains left limit b rest ≡ left s (clipped limit (lines_of (joined ins ++ rest)))

-- what is promised of a read (`More`) is a read of the program, while the input has not ended (proved in proofs/Playing)
abbrev pub MorePlays : {S : Type 0} → (S → List (List ℕ) → List ℕ) → ℕ → Type 0
MorePlays {S} left limit =
    (s : S) (r k : Reader) (before after p : List ℕ) (m : More r k before after) (b : At S) (ins outs : List (List ℕ)) → r.ended ≡ false → Plays left limit (standing s k after p) ins outs b → Plays left limit (standing s r before p) (m.piece ∷ ins) outs b

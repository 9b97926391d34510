-- Document 01, 'The answer to a call' and 'Beside the record', and document 02, ticket 2: a cursor given, and `truncate`.
use Rattle.std.specs.Prelude.{Bool, true, cond, ◌&&◌, List, [], ◌∷◌, ◌≡◌, ℕ, ◌≤◌, ◌<◌, min, leb, ltb, length, take, Ok, Err}
use Rattle.error.specs.declared.Error.TheVariants.{NotOnCharBoundary, BadCursor}
use Rattle.formatting.specs.declared.flags.FormattingFlags.{FormattingFlags}
use Rattle.utf8.specs.Utf8.{well_formed}
use Rattle.utils.specs.Text.{is_boundary}
use Rattle.str_writer.specs.Value.{Value}
use Rattle.str_writer.specs.Write.{Written, Outcome, outcome, write}

-- 'The answer to a call', 9: the cursor given exceeds the buffer's length
unfoldable pub start_at : List ℕ → ℕ → Written
start_at b at = cond (ltb (length b) at) (record { at = at; answer = Err BadCursor }) (record { at = at; answer = Ok tt })

-- 'Beside the record': a length above the cursor does nothing; `NoEncoding` never answers 3
unfoldable pub truncated : List ℕ → ℕ → ℕ → Written
truncated b at n =
    cond (ltb (length b) at) (record { at = at; answer = Err BadCursor })
    (cond (ltb at n) (record { at = at; answer = Ok tt })
    (record { at = n; answer = Ok tt }))

-- 'Beside the record' and ticket 2: `Utf8Encoding` answers 3 for a length that is no boundary of the text, the bytes before the cursor; the text's end is one, whatever byte follows
unfoldable pub truncated_utf8 : List ℕ → ℕ → ℕ → Written
truncated_utf8 b at n =
    cond (ltb (length b) at) (record { at = at; answer = Err BadCursor })
    (cond (ltb at n) (record { at = at; answer = Ok tt })
    (cond (is_boundary (take at b) n) (record { at = n; answer = Ok tt })
    (record { at = at; answer = Err NotOnCharBoundary })))

-- Ticket 2: a truncation to the cursor succeeds, and shorter lengths are tested as before, by the byte of the buffer at that length
abbrev pub EndIsBoundary : Type 0
EndIsBoundary =
    (b : List ℕ) (at : ℕ) → at ≤ length b →
    (truncated_utf8 b at at ≡ record { at = at; answer = Ok tt })
    × ((n : ℕ) → n < at → truncated_utf8 b at n ≡ cond (is_boundary b n) (record { at = n; answer = Ok tt }) (record { at = at; answer = Err NotOnCharBoundary }))

-- Ticket 2: truncating a well-formed text succeeds exactly if what it leaves is well-formed, and else answers 3
abbrev pub TruncatesWellFormed : Type 0
TruncatesWellFormed =
    (b : List ℕ) (at n : ℕ) → at ≤ length b → well_formed (take at b) ≡ true →
    truncated_utf8 b at n ≡ cond (well_formed (take (min n at) b)) (record { at = min n at; answer = Ok tt }) (record { at = at; answer = Err NotOnCharBoundary })

-- 'The writer': a call on it, a write of a value or a truncation for `Utf8Encoding`
pub data WriterCall : Type 0 where
  writing : FormattingFlags → Value → WriterCall
  truncating : ℕ → WriterCall

-- 'The writer': calls one after another, each on the bytes and the cursor as the call before left them
abbrev pub called : Outcome → List WriterCall → Outcome
called o [] = o
called o (writing f v ∷ cs) = called (write f o.bytes o.written.at v) cs
called o (truncating n ∷ cs) = called (outcome (truncated_utf8 o.bytes o.written.at n) o.bytes) cs

-- Ticket 2: whether no call truncates to below p
abbrev pub none_below : ℕ → List WriterCall → Bool
none_below p [] = true
none_below p (writing f v ∷ cs) = none_below p cs
none_below p (truncating n ∷ cs) = leb p n && none_below p cs

-- Ticket 2, a half-made line dropped: from a cursor p behind a well-formed text, after any calls none of which truncates to below p, truncating to p succeeds and leaves that text
abbrev pub TruncatesBack : Type 0
TruncatesBack =
    (b : List ℕ) (p : ℕ) (cs : List WriterCall) → p ≤ length b → well_formed (take p b) ≡ true → none_below p cs ≡ true →
    let o : Outcome = called (outcome (start_at b p) b) cs in
    (truncated_utf8 o.bytes o.written.at p ≡ record { at = p; answer = Ok tt }) × (take p o.bytes ≡ take p b)

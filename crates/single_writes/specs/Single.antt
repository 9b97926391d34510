-- Single calls as a caller in another language makes them: what one leaves in the caller's places, and what it is to leave.
use Rattle.std.specs.Prelude.{List, [], ℕ}
use Rattle.formatting.specs.Flags.{default_flags}
use Rattle.utils.specs.declared.Range.{Range}
use Rattle.str_writer.specs.Value.{Value, whole}
use Rattle.str_writer.specs.Write.{Written, outcome, write}
use Rattle.calls.specs.Model.{counting, writing, PieceOutcome, to, wrote}
use Rattle.value_writes.specs.Values.{value_out}
use Rattle.single_writes.specs.ByFlags.{by_flags, wrong_flags, from}

-- Document 01, 'A string': a string or ASCII text, whole
abbrev pub entire : (List ℕ → Range → Value) → List ℕ → Value
entire v s = v s (whole s)

-- Document 01, 'A string': the part of it from start to end
abbrev pub between : (List ℕ → Range → Value) → List ℕ → ℕ → ℕ → Value
between v s start end = v s (record { start = start; end = end })

-- Document 01, 'The writer': the answer r, with the cursor and the bytes as they then are
abbrev pub gives : ℕ → ℕ → List ℕ → PieceOutcome
gives r at b = to (writing at) b r

-- Document 01, 'The writer': a value for which no flags are given, written at a cursor
abbrev pub writes : List ℕ → ℕ → Value → PieceOutcome
writes b at v = wrote (write default_flags b at v)

-- docs/DECISIONS.md, 'For senders, and the comparison': a value written by flags that are a number
abbrev pub writes_by : ℕ → List ℕ → ℕ → Value → PieceOutcome
writes_by n b at v = by_flags n (wrong_flags (writing at) b) (λ f. wrote (write f b at v))

-- Document 01, 'The writer': a truncation, which keeps all bytes
abbrev pub keeps : List ℕ → Written → PieceOutcome
keeps b w = wrote (outcome w b)

-- Document 01, 'A nested record': the answer r, with the total as it then is
abbrev pub totals : ℕ → ℕ → PieceOutcome
totals r n = to (counting n) [] r

-- Document 01, 'A nested record': a value for which no flags are given, counted on from a total
abbrev pub counts : ℕ → Value → PieceOutcome
counts n v = value_out (from n) [] default_flags v

-- docs/DECISIONS.md, 'For senders, and the comparison': a value counted by flags that are a number
abbrev pub counts_by : ℕ → ℕ → Value → PieceOutcome
counts_by f n v = by_flags f (wrong_flags (counting n) []) (λ g. value_out (from n) [] g v)

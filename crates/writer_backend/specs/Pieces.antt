-- Pieces tried one after another from a refusal already held, what they add to a total, and the place that a field or an entry is.
use Rattle.std.specs.Prelude.{Bool, true, false, List, [], ◌∷◌, ℕ, ◌+◌, length}
use Rattle.calls.specs.Call.{Place, field, item, entry, place_pieces, spaces, hold}
use Rattle.calls.specs.Model.{PieceOutcome, put}
use Rattle.writer_backend.specs.declared.record.Builder.{Builder}
use Rattle.writer_backend.specs.declared.record.PlaceKind.{PlaceKind}
use Rattle.writer_backend.specs.declared.record.PlaceKind.TheVariants.{Field, Item}
use Rattle.writer_backend.specs.declared.record.PlaceKind.TheVariants as place-kind

-- Document 01, 'A nested record', field or entry: one piece more; the builder holds the first refusal
unfoldable pub try_on : PieceOutcome → List ℕ → PieceOutcome
try_on p s = let a = put p.output s in record { answer = hold p.answer a.answer; output = a.output }

-- Document 01, 'A nested record', field or entry: each piece is tried even after one is refused
abbrev pub try_all : PieceOutcome → List (List ℕ) → PieceOutcome
try_all p [] = p
try_all p (s ∷ ss) = try_all (try_on p s) ss

-- Document 01, 'A nested record': what pieces add to the total together
abbrev pub length_of : List (List ℕ) → ℕ
length_of [] = 0
length_of (s ∷ ss) = length s + length_of ss

-- Document 01, 'A nested record', field or entry: in alternate form, margin spaces
abbrev pub margin_pieces : Bool → ℕ → List (List ℕ)
margin_pieces false m = []
margin_pieces true m = spaces m ∷ []

-- Document 01, 'A nested record', field or entry: the place that its kind and a name are
abbrev pub place_of : PlaceKind → List ℕ → Place
place_of Field s = field s
place_of Item s = item
place_of place-kind.Entry s = entry

-- Document 01, 'A nested record', field or entry: what goes before one of a builder: the first separator if it has no field, else the later one; in alternate form the margin; for structs then name and `: `
abbrev pub pieces_before : Builder → Bool → ℕ → Place → List (List ℕ)
pieces_before B alt m x = place_pieces B.kind B.has_field alt m x

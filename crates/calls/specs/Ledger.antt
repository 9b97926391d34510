-- Document 01, 'A nested record, and its count': the ledger, which is fed the starting flags and the calls with their arguments, and no answer, cursor or formatter.
use Rattle.std.specs.Prelude.{Bool, true, false, ◌≡◌, ℕ, zero, suc, ◌*◌, length}
use mathlib.Core.List.{List, [], ◌∷◌, ◌++◌, flatten}
use Rattle.error.specs.Answer.{done}
use Rattle.formatting.specs.declared.flags.FormattingFlags.{FormattingFlags}
use Rattle.str_writer.specs.Value.{text_of}
use Rattle.calls.specs.declared.Kind.{Kind}
use Rattle.calls.specs.declared.Settings.{Settings}
use Rattle.calls.specs.Call.{Place, Call, opens, place, value, sub, endsub, finish, open_pieces, place_pieces, close_pieces, Innermost, nothing, a_builder, a_sub, call_fault}

-- 'ledger': a builder with its kind and whether it has a field
pub record Builder : Type 0 where
  pub kind : Kind
  pub has_field : Bool

-- 'A nested record', 8: it is ready for a write or an opening once it has a field
abbrev pub is_ready : Builder → Bool
is_ready B = B.has_field

-- 'ledger', field or entry, finish: it has printed a field
abbrev pub has_printed : Builder → Bool
has_printed B = B.has_field

-- 'ledger': an open entry: a builder, or a sub-formatter with the flags outside it
pub data Open : Type 0 where
  building : Builder → Open
  within : FormattingFlags → Open

-- 'ledger': it holds the text, as the pieces that it is made of, the flags in force and a pile of open entries, the innermost first
pub record Ledger : Type 0 where
  pub flags : FormattingFlags
  pub pile : List Open
  pub pieces : List (List ℕ)

-- 'ledger': its text is the pieces joined
abbrev pub text_in : Ledger → List ℕ
text_in L = flatten L.pieces

-- 'ledger': the builders on the pile
abbrev pub builders : List Open → ℕ
builders [] = 0
builders (building B ∷ p) = suc (builders p)
builders (within f ∷ p) = builders p

-- 'ledger': its margin is 4 for each builder on the pile
abbrev pub margin_of : List Open → ℕ
margin_of p = 4 * builders p

-- 'A nested record', 8: what is innermost
abbrev pub top : List Open → Innermost
top [] = nothing
top (building B ∷ p) = a_builder B.kind (is_ready B)
top (within f ∷ p) = a_sub

-- 'ledger': the 2, 4, 5, 7 or 8 that a call meets, 7 and 8 judged by pile and margin, else 0
abbrev pub meets : Ledger → Call → ℕ
meets L c = call_fault (top L.pile) (length L.pile) (margin_of L.pile) c

-- 'ledger': what a call changes: the pieces that it adds, the flags and the pile then
pub record Change : Type 0 where
  pub pieces : List (List ℕ)
  pub flags : FormattingFlags
  pub pile : List Open

-- 'ledger': no change
abbrev pub unchanged : Ledger → Change
unchanged L = record { pieces = []; flags = L.flags; pile = L.pile }

-- 'ledger', field or entry: the separator, in alternate form then the margin in spaces, for structs then name and `: `; the builder has a field
abbrev pub placing : Ledger → Place → List Open → Change
placing L x [] = unchanged L
placing L x (building B ∷ p) =
    record {
      pieces = place_pieces B.kind (has_printed B) L.flags.is_alternate (margin_of (building B ∷ p)) x;
      flags = L.flags;
      pile = building (record { kind = B.kind; has_field = true }) ∷ p;
    }
placing L x (within f ∷ p) = unchanged L

-- 'ledger', sub-formatter: closing takes it off and those flags back
abbrev pub leaving : Ledger → List Open → Change
leaving L [] = unchanged L
leaving L (building B ∷ p) = unchanged L
leaving L (within f ∷ p) = record { pieces = []; flags = f; pile = p }

-- 'ledger', finish: take the builder off, then add its closing with the margin now left
abbrev pub finishing : Ledger → List Open → Change
finishing L [] = unchanged L
finishing L (building B ∷ p) = record { pieces = close_pieces B.kind (has_printed B) L.flags.is_alternate (margin_of p); flags = L.flags; pile = p }
finishing L (within f ∷ p) = unchanged L

-- 'ledger': an opening adds the name and puts the builder on the pile without a field, a value adds its text; a sub-formatter is put on the pile with the flags in force, and its own are
abbrev pub change : Ledger → Call → Change
change L (opens k name) = record { pieces = open_pieces k name; flags = L.flags; pile = building (record { kind = k; has_field = false }) ∷ L.pile }
change L (place x) = placing L x L.pile
change L (value v) = record { pieces = text_of L.flags v ∷ []; flags = L.flags; pile = L.pile }
change L (sub f) = record { pieces = []; flags = f; pile = within L.flags ∷ L.pile }
change L endsub = leaving L L.pile
change L finish = finishing L L.pile

-- 'ledger': with a change made
abbrev pub changed : Ledger → Change → Ledger
changed L C = record { flags = C.flags; pile = C.pile; pieces = L.pieces ++ C.pieces }

-- 'ledger': a call that meets 2, 4, 5, 7 or 8: no change
abbrev pub unless_met : ℕ → Ledger → Ledger → Ledger
unless_met zero a b = a
unless_met (suc n) a b = b

-- 'ledger': what a call does to it, in either case
abbrev pub feed : Ledger → Call → Ledger
feed L c = unless_met (meets L c) (changed L (change L c)) L

-- 'ledger': the text empty at first, the starting flags, nothing open
abbrev pub fresh : Settings → Ledger
fresh S = record { flags = S.flags; pile = []; pieces = [] }

-- 'ledger': it is fed the calls one after the other
abbrev pub ledger : Ledger → List Call → Ledger
ledger L [] = L
ledger L (c ∷ cs) = ledger (feed L c) cs

-- 'A nested record': a run is permitted when none of its calls meets 2, 4, 5, 7 or 8 in the ledger
abbrev pub Permitted : Ledger → List Call → Type 0
Permitted L [] = Unit {0}
Permitted L (c ∷ cs) = (meets L c ≡ done) × Permitted (feed L c) cs

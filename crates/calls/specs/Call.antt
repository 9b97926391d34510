-- Document 01, 'A nested record, and its count': the calls of a run with their arguments, the fixed words and limits of a record, the pieces of a call, and what it meets.
use Rattle.std.specs.Prelude.{Bool, true, false, cond, ◌||◌, List, [], ◌∷◌, ℕ, zero, suc, leb, ltb, replicate, Option, None}
use Rattle.error.specs.declared.Error.{Error}
use Rattle.error.specs.declared.Error.TheVariants.{TooDeep, WrongCall}
use Rattle.error.specs.Answer.{number_of, fault_number}
use Rattle.formatting.specs.declared.flags.FormattingFlags.{FormattingFlags}
use Rattle.formatting.specs.Bytes.{bytes}
use Rattle.str_writer.specs.Value.{Value, text_fault, input_fault, cut_fault}
use Rattle.calls.specs.declared.Kind.{Kind}
use Rattle.calls.specs.declared.Kind.TheVariants.{Struct, Tuple, List as ListKind, Set}

-- 'A nested record': a field of a struct with its name, a field of a tuple, an entry of a list or a set
pub data Place : Type 0 where
  field : List ℕ → Place
  item entry : Place

-- 'A nested record': a run is a list of these calls: openings of builders, fields and entries, values, openings and closings of sub-formatters, finishes
pub data Call : Type 0 where
  opens : Kind → List ℕ → Call
  place : Place → Call
  value : Value → Call
  sub : FormattingFlags → Call
  endsub finish : Call

-- 'A nested record', opening: the name, none for list and set
abbrev pub name_of : Kind → List ℕ → List ℕ
name_of Struct s = s
name_of Tuple s = s
name_of ListKind s = []
name_of Set s = []

-- 'A nested record', field or entry: the name of a struct's field
abbrev pub place_name : Place → List ℕ
place_name (field s) = s
place_name item = []
place_name entry = []

-- 'A nested record', first separator: ` { `, `(`, `[`, `{`; alternate ` {` (struct), `(`, `[`, `{` and a line feed
abbrev pub first_sep : Kind → Bool → List ℕ
first_sep Struct false = bytes " { "
first_sep Struct true = bytes " {\n"
first_sep Tuple false = bytes "("
first_sep Tuple true = bytes "(\n"
first_sep ListKind false = bytes "["
first_sep ListKind true = bytes "[\n"
first_sep Set false = bytes "{"
first_sep Set true = bytes "{\n"

-- 'A nested record', later separators: `, `, or comma and line feed
abbrev pub later_sep : Bool → List ℕ
later_sep false = bytes ", "
later_sep true = bytes ",\n"

-- 'A nested record', field or entry: the first separator if the builder has printed no field, else the later one
abbrev pub separator : Kind → Bool → Bool → List ℕ
separator k false alt = first_sep k alt
separator k true alt = later_sep alt

-- 'A nested record', field: `: ` after the name
abbrev pub colon : List ℕ
colon = bytes ": "

-- 'A nested record', finish, alternate: comma, line feed
abbrev pub comma_line : List ℕ
comma_line = bytes ",\n"

-- 'A nested record', finish, alternate: the bare bracket
abbrev pub bracket : Kind → List ℕ
bracket Struct = bytes "}"
bracket Tuple = bytes ")"
bracket ListKind = bytes "]"
bracket Set = bytes "}"

-- 'A nested record', finish, with fields, plain: ` }`, `)`, `]`, `}`
abbrev pub plain_close : Kind → List ℕ
plain_close Struct = bytes " }"
plain_close Tuple = bytes ")"
plain_close ListKind = bytes "]"
plain_close Set = bytes "}"

-- 'A nested record', finish, without fields: nothing for struct and tuple, `[]` and `{}` for list and set, even alternate
abbrev pub empty_close : Kind → List ℕ
empty_close Struct = []
empty_close Tuple = []
empty_close ListKind = bytes "[]"
empty_close Set = bytes "{}"

-- 'A nested record', alternate form: margin spaces
abbrev pub spaces : ℕ → List ℕ
spaces n = replicate n 32

-- 'A nested record', opening: write the name, none for list and set
abbrev pub open_pieces : Kind → List ℕ → List (List ℕ)
open_pieces Struct s = s ∷ []
open_pieces Tuple s = s ∷ []
open_pieces ListKind s = []
open_pieces Set s = []

-- 'A nested record', field: for structs, name and `: `
abbrev pub label_pieces : Place → List (List ℕ)
label_pieces (field s) = s ∷ colon ∷ []
label_pieces item = []
label_pieces entry = []

-- 'A nested record', field or entry: the separator, by whether the builder has printed a field; in alternate form, margin spaces; for structs, name and `: `
abbrev pub place_pieces : Kind → Bool → Bool → ℕ → Place → List (List ℕ)
place_pieces k printed false m x = separator k printed false ∷ label_pieces x
place_pieces k printed true m x = separator k printed true ∷ spaces m ∷ label_pieces x

-- 'A nested record', finish: without a printed field the empty closing; else plain, or alternate comma with line feed, margin spaces, the bare bracket
abbrev pub close_pieces : Kind → Bool → Bool → ℕ → List (List ℕ)
close_pieces k false alt m = empty_close k ∷ []
close_pieces k true false m = plain_close k ∷ []
close_pieces k true true m = comma_line ∷ spaces m ∷ bracket k ∷ []

-- 'A nested record', 8: what is innermost: nothing, a builder with its kind and whether it is ready for a value, or a sub-formatter
pub data Innermost : Type 0 where
  nothing : Innermost
  a_builder : Kind → Bool → Innermost
  a_sub : Innermost

-- 'A nested record', 8: no write or opening while the innermost builder has no field
abbrev pub ready : Innermost → Bool
ready nothing = true
ready (a_builder k r) = r
ready a_sub = true

-- 'A nested record', 8: whether a field or entry is of the right kind
abbrev pub of_kind : Place → Kind → Bool
of_kind (field s) Struct = true
of_kind (field s) Tuple = false
of_kind (field s) ListKind = false
of_kind (field s) Set = false
of_kind item Struct = false
of_kind item Tuple = true
of_kind item ListKind = false
of_kind item Set = false
of_kind entry Struct = false
of_kind entry Tuple = false
of_kind entry ListKind = true
of_kind entry Set = true

-- 'A nested record', 8: a field or entry with no builder innermost, or of the wrong kind
abbrev pub takes : Innermost → Place → Bool
takes nothing x = false
takes (a_builder k r) x = of_kind x k
takes a_sub x = false

-- 'A nested record', 8: a finish with no builder innermost
abbrev pub finishes : Innermost → Bool
finishes nothing = false
finishes (a_builder k r) = true
finishes a_sub = false

-- 'A nested record', 8: closing a sub-formatter that is not innermost
abbrev pub ends : Innermost → Bool
ends nothing = false
ends (a_builder k r) = false
ends a_sub = true

-- 'The answer to a call', 8: the call suits what is innermost
abbrev pub suits : Innermost → Call → Bool
suits i (opens k name) = ready i
suits i (place x) = takes i x
suits i (value v) = ready i
suits i (sub f) = ready i
suits i endsub = ends i
suits i finish = finishes i

-- 'The answer to a call', 7: an opening with 64 entries open, or a builder opened with a margin above 65,531
abbrev pub too_deep : ℕ → ℕ → Call → Bool
too_deep depth margin (opens k name) = leb 64 depth || ltb 65531 margin
too_deep depth margin (place x) = false
too_deep depth margin (value v) = false
too_deep depth margin (sub f) = leb 64 depth
too_deep depth margin endsub = false
too_deep depth margin finish = false

-- 'The answer to a call', 2, 4 and 5: what the arguments of a call meet; a name meets what a string does
abbrev pub argument_fault : Call → Option Error
argument_fault (opens k name) = text_fault (name_of k name)
argument_fault (place x) = text_fault (place_name x)
argument_fault (value v) = input_fault v
argument_fault (sub f) = None
argument_fault endsub = None
argument_fault finish = None

-- 'The answer to a call', 3: a clamped range cuts a character
abbrev pub cut_of : Call → Option Error
cut_of (opens k name) = None
cut_of (place x) = None
cut_of (value v) = cut_fault v
cut_of (sub f) = None
cut_of endsub = None
cut_of finish = None

-- 'The answer to a call', 3: its number
abbrev pub cut_number : Call → ℕ
cut_number c = fault_number (cut_of c)

-- 'The answer to a call', order: 8, 7, then 2, 4 or 5
abbrev pub call_fault : Innermost → ℕ → ℕ → Call → ℕ
call_fault i depth margin c = cond (suits i c) (cond (too_deep depth margin c) (number_of TooDeep) (fault_number (argument_fault c))) (number_of WrongCall)

-- 'The answer to a call', order: the first of two that is met
abbrev pub hold : ℕ → ℕ → ℕ
hold zero a = a
hold (suc h) a = suc h

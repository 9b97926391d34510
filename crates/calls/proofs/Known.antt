-- Document 01, 'A nested record, and its count': examples of the ledger and the model against literal text, computed.
use mathlib.Core.Bool.{true}
use mathlib.Core.Path.{◌≡◌, refl}
use mathlib.Core.List.{List, [], ◌∷◌, ◌++◌, flatten}
use Prim.Native.Nat.{ℕ, zero, suc}
use Prim.Native.String.{String}
use lib.IntN.{pos, negsuc}
use lib.ListN.{length, replicate}
use Rattle.formatting.specs.declared.flags.FormattingFlags.{FormattingFlags}
use Rattle.formatting.specs.declared.flags.HexFormatting.TheVariants.{Lower}
use Rattle.formatting.specs.Bytes.{bytes}
use Rattle.formatting.specs.Flags.{default_flags, with_alternate, with_hex}
use Rattle.formatting.specs.Escape.{escape_of, escaped}
use Rattle.utf8.specs.Utf8.{continues, follow}
use Rattle.pwrapper.specs.Digits.{digit_text, digits, digits_in}
use Rattle.str_writer.specs.Value.{display, debug, integer, char, str, whole, text_of, input_fault, cut_fault}
use Rattle.str_writer.specs.Write.{placed}
use Rattle.calls.specs.declared.Kind.{Kind}
use Rattle.calls.specs.declared.Kind.TheVariants.{Struct, Tuple, List as ListKind, Set}
use Rattle.calls.specs.declared.Settings.{Settings}
use Rattle.calls.specs.Call.{Place, field, item, entry, Call, opens, place, value, sub, endsub, finish}
use Rattle.calls.specs.Ledger.{ledger, fresh, text_in, Permitted}
use Rattle.calls.specs.Model.{counting, writing, most, State, step, Run, run, start}

abbrev pub plain : Settings
plain = record { flags = default_flags }

abbrev alternate : Settings
alternate = record { flags = with_alternate default_flags true }

-- the output of a fresh counting run, and of a writing run with cursor 0 over n bytes that are 0
abbrev count : Settings → List Call → Run
count S cs = run (start (counting 0) [] S) cs

abbrev write : ℕ → Settings → List Call → Run
write n S cs = run (start (writing 0) (replicate n 0) S) cs

-- a list of calls has a text: by the ledger, as counted, and as written into just as many bytes with every answer 0
abbrev Has : Settings → List Call → List ℕ → Type 0
Has S cs t =
    (text_in (ledger (fresh S) cs) ≡ t) × ((count S cs).state.output.mode ≡ counting (length t))
    × ((write (length t) S cs).answers ≡ replicate (length cs) 0) × ((write (length t) S cs).state.output ≡ record { mode = writing (length t); bytes = t })

abbrev number : ℕ → Call
number n = value (integer debug 8 (pos n))

abbrev name : String → Place
name s = field (bytes s)

-- a record of a kind, named `P` where the kind has a name, with some fields
abbrev made : Kind → List Call → List Call
made k cs = opens k (bytes "P") ∷ cs ++ (finish ∷ [])

-- its texts with no field, with one that holds 7, and with a second that holds 8
abbrev Texts : Settings → Kind → Place → Place → String → String → String → Type 0
Texts S k x y a b c =
    Has S (made k []) (bytes a) × Has S (made k (place x ∷ number 7 ∷ [])) (bytes b)
    × Has S (made k (place x ∷ number 7 ∷ place y ∷ number 8 ∷ [])) (bytes c)

-- each separator, label and closing of the four kinds
structs : Texts plain Struct (name "x") (name "y") "P" "P { x: 7 }" "P { x: 7, y: 8 }"
unfolding flatten text_of input_fault cut_fault placed continues follow digit_text digits digits_in
structs = ((refl, refl, refl, refl), (refl, refl, refl, refl), (refl, refl, refl, refl))

structs-alternate : Texts alternate Struct (name "x") (name "y") "P" "P {\n    x: 7,\n}" "P {\n    x: 7,\n    y: 8,\n}"
unfolding flatten text_of input_fault cut_fault placed continues follow digit_text digits digits_in
structs-alternate = ((refl, refl, refl, refl), (refl, refl, refl, refl), (refl, refl, refl, refl))

tuples : Texts plain Tuple item item "P" "P(7)" "P(7, 8)"
unfolding flatten text_of input_fault cut_fault placed continues follow digit_text digits digits_in
tuples = ((refl, refl, refl, refl), (refl, refl, refl, refl), (refl, refl, refl, refl))

tuples-alternate : Texts alternate Tuple item item "P" "P(\n    7,\n)" "P(\n    7,\n    8,\n)"
unfolding flatten text_of input_fault cut_fault placed continues follow digit_text digits digits_in
tuples-alternate = ((refl, refl, refl, refl), (refl, refl, refl, refl), (refl, refl, refl, refl))

lists : Texts plain ListKind entry entry "[]" "[7]" "[7, 8]"
unfolding flatten text_of input_fault cut_fault placed continues follow digit_text digits digits_in
lists = ((refl, refl, refl, refl), (refl, refl, refl, refl), (refl, refl, refl, refl))

lists-alternate : Texts alternate ListKind entry entry "[]" "[\n    7,\n]" "[\n    7,\n    8,\n]"
unfolding flatten text_of input_fault cut_fault placed continues follow digit_text digits digits_in
lists-alternate = ((refl, refl, refl, refl), (refl, refl, refl, refl), (refl, refl, refl, refl))

sets : Texts plain Set entry entry "{}" "{7}" "{7, 8}"
unfolding flatten text_of input_fault cut_fault placed continues follow digit_text digits digits_in
sets = ((refl, refl, refl, refl), (refl, refl, refl, refl), (refl, refl, refl, refl))

sets-alternate : Texts alternate Set entry entry "{}" "{\n    7,\n}" "{\n    7,\n    8,\n}"
unfolding flatten text_of input_fault cut_fault placed continues follow digit_text digits digits_in
sets-alternate = ((refl, refl, refl, refl), (refl, refl, refl, refl), (refl, refl, refl, refl))

-- the margin, in nested alternate form
nested-margin : Has alternate (made Struct (place (name "x") ∷ made ListKind (place entry ∷ made Set (place entry ∷ number 7 ∷ []) ++ (place entry ∷ number 8 ∷ []))))
    (bytes "P {\n    x: [\n        {\n            7,\n        },\n        8,\n    ],\n}")
unfolding flatten text_of input_fault cut_fault placed continues follow digit_text digits digits_in
nested-margin = (refl, refl, refl, refl)

abbrev lower : FormattingFlags
lower = with_hex default_flags Lower

-- a number has the flags that the run begins with; a display form has not
with_flags : Has (record { flags = with_alternate lower true }) (made Tuple (place item ∷ number 250 ∷ place item ∷ value (integer display 8 (negsuc 4)) ∷ [])) (bytes "P(\n    0xfa,\n    -5,\n)")
unfolding flatten text_of input_fault cut_fault placed continues follow digit_text digits digits_in
with_flags = (refl, refl, refl, refl)

-- a sub-formatter has flags of its own, and the outer ones return
sub-flags : Has plain (made ListKind (place entry ∷ sub lower ∷ number 250 ∷ endsub ∷ place entry ∷ number 250 ∷ [])) (bytes "[fa, 250]")
unfolding flatten text_of input_fault cut_fault placed continues follow digit_text digits digits_in
sub-flags = (refl, refl, refl, refl)

-- builders in it keep to its form, and to the margin outside
sub-margin : Has plain (made ListKind (place entry ∷ sub (with_alternate default_flags true) ∷ made ListKind (place entry ∷ number 7 ∷ []) ++ (endsub ∷ place entry ∷ number 8 ∷ []))) (bytes "[[\n        7,\n    ], 8]")
unfolding flatten text_of input_fault cut_fault placed continues follow digit_text digits digits_in
sub-margin = (refl, refl, refl, refl)

-- what each call of a fresh counting run answers
abbrev Answers : List Call → List ℕ → Type 0
Answers cs a = (count plain cs).answers ≡ a

-- 8: a field, entry, finish or closing of a sub-formatter with nothing open
wrong-at-first : Answers (place (name "x") ∷ place item ∷ place entry ∷ finish ∷ endsub ∷ []) (8 ∷ 8 ∷ 8 ∷ 8 ∷ 8 ∷ [])
wrong-at-first = refl

-- 8: a field or entry of the wrong kind
wrong-kind :
    Answers (opens Struct [] ∷ place item ∷ place entry ∷ place (name "x") ∷ []) (0 ∷ 8 ∷ 8 ∷ 0 ∷ []) × Answers (opens Tuple [] ∷ place (name "x") ∷ place entry ∷ place item ∷ []) (0 ∷ 8 ∷ 8 ∷ 0 ∷ [])
    × Answers (opens ListKind [] ∷ place (name "x") ∷ place item ∷ place entry ∷ []) (0 ∷ 8 ∷ 8 ∷ 0 ∷ []) × Answers (opens Set [] ∷ place (name "x") ∷ place item ∷ place entry ∷ []) (0 ∷ 8 ∷ 8 ∷ 0 ∷ [])
unfolding continues follow
wrong-kind = (refl, refl, refl, refl)

-- 8: a write or opening while the innermost builder has no field, and closing a sub-formatter that is not innermost
wrong_without_field : Answers (opens ListKind [] ∷ number 7 ∷ opens ListKind [] ∷ sub lower ∷ endsub ∷ place entry ∷ endsub ∷ number 7 ∷ []) (0 ∷ 8 ∷ 8 ∷ 8 ∷ 8 ∷ 0 ∷ 8 ∷ 0 ∷ [])
unfolding text_of input_fault cut_fault continues digit_text digits digits_in
wrong_without_field = refl

-- 8: a field, entry or finish with a sub-formatter innermost
wrong_in_sub : Answers (opens Tuple [] ∷ place item ∷ sub lower ∷ place item ∷ place entry ∷ finish ∷ number 7 ∷ endsub ∷ finish ∷ []) (0 ∷ 0 ∷ 0 ∷ 8 ∷ 8 ∷ 8 ∷ 0 ∷ 0 ∷ 0 ∷ [])
unfolding text_of input_fault cut_fault continues digit_text digits digits_in
wrong_in_sub = refl

-- lists in lists, then some calls
abbrev nested : ℕ → List Call → List Call
nested zero cs = cs
nested (suc n) cs = opens ListKind [] ∷ place entry ∷ nested n cs

-- 7: with 63 entries open one more, with 64 none; before 4
open-65 : Answers (nested 63 (opens ListKind [] ∷ [])) (replicate 127 0)
    × Answers (nested 64 (opens ListKind [] ∷ sub lower ∷ opens Struct (0xFF ∷ []) ∷ number 7 ∷ [])) (replicate 128 0 ++ (7 ∷ 7 ∷ 7 ∷ 0 ∷ []))
unfolding text_of input_fault cut_fault continues follow digit_text digits digits_in
open-65 = (refl, refl)

-- 7: a builder opened with a margin above 65,531; a sub-formatter has no such limit
abbrev high_at : ℕ → State
high_at n = record { output = record { mode = counting 0; bytes = [] }; flags = default_flags; margin = n; stack = [] }

high-margin : ((step (high_at 65531) (opens Set [])).answer ≡ 0) × ((step (high_at 65532) (opens Set [])).answer ≡ 7) × ((step (high_at 65532) (sub lower)).answer ≡ 0)
unfolding continues
high-margin = (refl, refl, refl)

-- 4: a name that is not UTF-8, and lists have none; 4 and 5: a value
arguments : Answers (opens Struct (0xFF ∷ []) ∷ opens ListKind (0xFF ∷ []) ∷ place entry ∷ opens Struct [] ∷ place (field (0xC3 ∷ [])) ∷ place (field (0xC3 ∷ 0xA9 ∷ [])) ∷ []) (4 ∷ 0 ∷ 0 ∷ 0 ∷ 4 ∷ 0 ∷ [])
    × Answers (value (str display (0xFF ∷ []) (whole (0xFF ∷ []))) ∷ value (char display 0xD800) ∷ []) (4 ∷ 5 ∷ [])
unfolding input_fault continues follow
arguments = (refl, refl)

-- 3: a range that cuts the character C3 A9, in writing and not in counting
abbrev cut : List Call
cut = value (str display (0xC3 ∷ 0xA9 ∷ []) (record { start = 0; end = 1 })) ∷ []

cut-char : ((count plain cut).answers ≡ 0 ∷ []) × ((count plain cut).state.output.mode ≡ counting 1) × (write 4 plain cut ≡ record { answers = 3 ∷ []; state = start (writing 0) (replicate 4 0) plain })
unfolding text_of input_fault cut_fault continues follow
cut-char = (refl, refl, refl)

-- 9: whatever the call, with a cursor past the bytes
past_end : run (start (writing 4) (replicate 3 0) plain) (number 7 ∷ finish ∷ []) ≡ record { answers = 9 ∷ 9 ∷ []; state = start (writing 4) (replicate 3 0) plain }
past_end = refl

-- 6: the total would pass 2^64 - 1; an opening answers 0 and its finish 6
too_much : ((run (start (counting most) [] plain) (number 7 ∷ [])).answers ≡ 6 ∷ []) × ((run (start (counting most) [] plain) (made Struct [])).answers ≡ 0 ∷ 6 ∷ [])
unfolding text_of input_fault cut_fault continues follow digit_text digits digits_in
too_much = (refl, refl)

-- 'The call sheet': the input that the paper shows: struct `P` with field `x` holding u8 7; it is permitted and closed
abbrev pub sheet : List Call
sheet = made Struct (place (name "x") ∷ number 7 ∷ [])

pub sheet-permitted : Permitted (fresh plain) sheet
unfolding input_fault continues follow
sheet-permitted = (refl, (refl, (refl, (refl, tt))))

pub sheet-closed : (ledger (fresh plain) sheet).pile ≡ []
unfolding input_fault continues follow
sheet-closed = refl

-- 1: with 3 bytes finish answers what the builder holds, the pieces that fit are there, and the margin is not lowered
held : ((write 3 plain sheet).answers ≡ 0 ∷ 0 ∷ 0 ∷ 1 ∷ []) × ((write 3 plain sheet).state.output.bytes ≡ bytes "Px7") × ((write 3 plain sheet).state.margin ≡ 4) × ((write 3 plain sheet).state.stack ≡ [])
unfolding text_of input_fault cut_fault placed continues follow digit_text digits digits_in
held = (refl, refl, refl, refl)

-- 1: with 9 bytes the closing is refused, the cursor is 8, and the margin is lowered
closing-refused : ((write 9 plain sheet).answers ≡ 0 ∷ 0 ∷ 0 ∷ 1 ∷ []) × ((write 9 plain sheet).state.output.mode ≡ writing 8) × ((write 9 plain sheet).state.margin ≡ 0)
unfolding text_of input_fault cut_fault placed continues follow digit_text digits digits_in
closing-refused = (refl, refl, refl)

-- 1: a finish tries no piece after a refused one
closing-stops : (write 8 alternate (made ListKind (place entry ∷ number 7 ∷ []))).state.output ≡ record { mode = writing 7; bytes = bytes "[\n    7" ++ (0 ∷ []) }
unfolding text_of input_fault cut_fault placed continues follow digit_text digits digits_in
closing-stops = refl

-- 1, ticket 5: a quoted string that is refused keeps the cursor and all bytes: `a'b` in 5 bytes, one short
quoted-refused : run (start (writing 2) (replicate 7 9) plain) (value (str debug (bytes "a'b") (whole (bytes "a'b"))) ∷ [])
    ≡ record { answers = 1 ∷ []; state = start (writing 2) (replicate 7 9) plain }
unfolding text_of input_fault cut_fault placed continues follow escape_of escaped
quoted-refused = refl

-- 'The call sheet': the input and the output that the paper shows, computed; and that demand 3 on a sheet can be met.
use mathlib.Core.Path.{◌≡◌, refl}
use mathlib.Core.List.{List, [], ◌∷◌}
use Prim.Native.Nat.{ℕ}
use Rattle.utf8.specs.Utf8.{continues, follow}
use Rattle.pwrapper.specs.Digits.{digit_text, digits, digits_in}
use Rattle.str_writer.specs.Value.{text_of, input_fault, cut_fault}
use Rattle.str_writer.specs.Write.{placed}
use Rattle.calls.proofs.Known.{plain, sheet}
use Rattle.formatting.specs.Bytes.{bytes}
use Rattle.fields.specs.Fields.{fields}
use Rattle.fields.specs.Decimal.{read_from, is_shortest}
use Rattle.fields.specs.Hex.{is_hex, hex_bytes, hex_pairs}
use Rattle.sheet_line.specs.Begin.{format_of, digits_of, layout_of, begin_line}
use Rattle.sheet_line.specs.Line.{type_of, one_field, two_fields, open_named, three_fields, call_of_line}
use Rattle.sheet.specs.Sheet.{row_text, end_line}
use Rattle.lines.specs.Lines.{lines_of}
use Rattle.sheet.specs.Printed.{printed}
use Rattle.sheet.specs.SheetAgreement.{SheetOf}

abbrev pub input : List ℕ
input = bytes "begin,16,0,dec,upper,plain\nopen,struct,50\nfield,78\nnum,u8,7\nfinish\n"

pub shown : printed input ≡ bytes "2,0,1,0,1\n3,0,7,0,7\n4,0,8,0,8\n5,0,10,0,10\nend,10,10,50207B20783A2037207D\n"
unfolding text_of input_fault cut_fault placed continues follow digit_text digits digits_in fields read_from is_shortest is_hex hex_bytes hex_pairs format_of digits_of layout_of begin_line type_of one_field two_fields open_named three_fields call_of_line row_text end_line lines_of
shown = refl

pub is-sheet : SheetOf input 16 0 plain sheet
unfolding fields read_from is_shortest is_hex hex_bytes format_of digits_of layout_of begin_line type_of one_field two_fields open_named three_fields call_of_line lines_of
is-sheet = record { first = bytes "begin,16,0,dec,upper,plain"; later = bytes "open,struct,50" ∷ bytes "field,78" ∷ bytes "num,u8,7" ∷ bytes "finish" ∷ []; lines = refl; begins = refl; calls = refl }

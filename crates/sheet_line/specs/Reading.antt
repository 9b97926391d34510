-- What reading a line leaves: the call as `run` takes it, its text in a buffer of its own.
use Rattle.std.specs.Prelude.{List, [], ℕ, length, take, Option, Some, None}
use Rattle.calls.specs.Call.{Call, opens, place, value, sub, endsub, finish, place_name, field}
use Rattle.str_writer.specs.Value.{Value, integer, char, str, ascii, repeated, whole}
use Rattle.str_writer.specs.Write.{splice}
use Rattle.formatter.specs.Calls.{call_of}
use Rattle.formatter.specs.declared.dispatch.Op.{Op}
use Rattle.value_writes.specs.Values.{form_of}
use Rattle.sheet_line.specs.declared.Parsed.{Parsed}
use Rattle.sheet_line.specs.declared.texts.TextCall.{TextCall}
use Rattle.sheet_line.specs.declared.texts.TextCall.TheVariants.{Open, Field, Str}

-- 'The call sheet': the call that was read, if one was
abbrev pub call_in : Option Op → List ℕ → Option Call
call_in None s = None
call_in (Some o) s = Some (call_of o s)

-- 'The call sheet': the call that an opening with a name, a field of a struct or a string is
abbrev pub with_text : TextCall → List ℕ → Call
with_text (Open k) s = opens k s
with_text Field s = place (field s)
with_text (Str m) s = value (str (form_of m) s (whole s))

-- 'The call sheet': the text of a value that is a string
abbrev pub value_text : Value → List ℕ
value_text (integer m k z) = []
value_text (char m c) = []
value_text (str m s r) = s
value_text (ascii m s r) = s
value_text (repeated c n) = []

-- 'The call sheet': the name or the string of a call
abbrev pub call_text : Call → List ℕ
call_text (opens k s) = s
call_text (place x) = place_name x
call_text (value v) = value_text v
call_text (sub f) = []
call_text endsub = []
call_text finish = []

-- 'The call sheet': a line of another form has none
abbrev pub text_in : Option Call → List ℕ
text_in None = []
text_in (Some c) = call_text c

-- 'The call sheet': a call as it was read, how long its text is, and the bytes of the buffer that the text stands in
pub record Reading : Type 0 where
  pub call : Option Call
  pub len : ℕ
  pub bytes : List ℕ

-- 'The call sheet': the same of what a reading answers and the bytes as it returns
abbrev pub reading : Parsed → List ℕ → Reading
reading r b = record { call = Some (call_of r.op (take r.len b)); len = r.len; bytes = b }

-- 'The call sheet': the same of what may have been read
abbrev pub reading_of : Option Parsed → List ℕ → Reading
reading_of None b = record { call = None; len = 0; bytes = b }
reading_of (Some r) b = reading r b

-- 'The call sheet': a call whose text stands at the beginning of the buffer b, the rest of which is as it was
abbrev pub read_into : List ℕ → Option Call → Reading
read_into b c = record { call = c; len = length (text_in c); bytes = splice b 0 (text_in c) }

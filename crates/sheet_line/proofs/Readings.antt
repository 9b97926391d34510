-- A call read from a line, with its text in the buffer or without one.
use borrow.Author.Rules.{rules}
use Rattle.std.proofs.Common.{◌≡◌, Bool, true, false, List, ℕ, ◌*◌, ◌≤◌, length, refl, ap, arith}
use Rattle.std.specs.Prelude.{Option, Some, None}
use Rattle.std.specs.Option.{option_map}
use lib.Seq.{take-append_seam}
use borrow.Author.Tests.{le-leb}
use Rattle.str_writer.specs.Write.{splice}
use Rattle.str_writer.proofs.Splice.{splice-nil}
use Rattle.formatter.specs.Calls.{call_of}
use Rattle.formatter.specs.declared.dispatch.Op.{Op}
use Rattle.fields.specs.Hex.{is_hex, hex_bytes, from_hex, Read, read_hex}
use Rattle.fields.proofs.Pairs.{bytes-length}
use Rattle.sheet_line.specs.declared.texts.TextCall.{TextCall}
use Rattle.sheet_line.specs.Reading.{with_text, call_text, reading, reading_of, read_into}

-- the text of a call that has one
text_of : (t : TextCall) (s : List ℕ) → call_text (with_text t s) ≡ s
text_of t s = search rules

-- a field of HEX, or one that is not
module _ (t : TextCall) (b a : List ℕ) (room : length a ≤ 2 * length b) (x : Option ℕ) (c : List ℕ) (e : ◌≡◌ {A = Read} (record { answer = x; bytes = c }) (read_hex b a)) where
  read_true : is_hex a ≡ true → ◌≡◌ {A = Read} (record { answer = x; bytes = c }) (record { answer = Some (length (hex_bytes a)); bytes = splice b 0 (hex_bytes a) })
  unfolding read_hex
  read_true h = rw (h, le-leb (length (hex_bytes a)) (length b) (omega (arith, bytes-length a))) at e

  read_false : is_hex a ≡ false → ◌≡◌ {A = Read} (record { answer = x; bytes = c }) (record { answer = None; bytes = b })
  unfolding read_hex
  read_false h = rw h at e

  pub text-read : (n : ℕ) (o : Op) → x ≡ Some n → ((s : List ℕ) → n ≡ length s → call_of o s ≡ with_text t s)
      → reading (record { op = o; len = n }) c ≡ read_into b (option_map (with_text t) (from_hex a))
  text-read n o p q = go (is_hex a) refl
    where
      go : (h : Bool) → is_hex a ≡ h → reading (record { op = o; len = n }) c ≡ read_into b (option_map (with_text t) (from_hex a))
      go true h =
          let f = read_true h in
          let k : n ≡ length (hex_bytes a) = cc (ap (λ (r : Read). r.answer) f) in
          let d : c ≡ splice b 0 (hex_bytes a) = ap (λ (r : Read). r.bytes) f in
          rw (h, text_of t (hex_bytes a), d, k, take-append_seam (hex_bytes a), q (hex_bytes a) k)
      go false h = cc (ap (λ (r : Read). r.answer) (read_false h))

  pub not-read : x ≡ None → reading_of None c ≡ read_into b (option_map (with_text t) (from_hex a))
  not-read p = go (is_hex a) refl
    where
      go : (h : Bool) → is_hex a ≡ h → reading_of None c ≡ read_into b (option_map (with_text t) (from_hex a))
      go true h = cc (ap (λ (r : Read). r.answer) (read_true h))
      go false h =
          let d : c ≡ b = ap (λ (r : Read). r.bytes) (read_false h) in
          rw (h, d, splice-nil b 0)

-- A truncation to the cursor succeeds; one of a well-formed text exactly if what it leaves is well-formed; one to a remembered length always.
use mathlib.Core.Bool.{Bool, true, false, cond, and-eq-true_iff}
use mathlib.Core.Logic.{dite}
use mathlib.Core.List.{List, [], ◌∷◌, append_assoc}
use mathlib.Core.Path.{◌≡◌, refl, sym, ap, ◌∙◌}
use Prim.Native.Nat.{ℕ, ◌+◌, ◌-◌, ◌≤◌, min}
use native.Mathlib.Decide.{dec_lt}
use native.Mathlib.Omega.{arith}
use lib.Dec.{leb}
use lib.ListN.{length, take, length-append}
use lib.Seq.{take-take, take-append-le, length-take-le}
use borrow.Author.Tests.{leb-true}
use Rattle.error.specs.declared.Error.TheVariants.{NotOnCharBoundary}
use Rattle.std.specs.Prelude.{Ok, Err}
use Rattle.formatting.specs.declared.flags.FormattingFlags.{FormattingFlags}
use Rattle.utf8.specs.Utf8.{well_formed}
use Rattle.utils.specs.Text.{is_boundary}
use Rattle.str_writer.specs.Truncate.{start_at, truncated_utf8, EndIsBoundary, TruncatesWellFormed, WriterCall, writing, truncating, called, none_below, TruncatesBack}
use Rattle.str_writer.specs.Value.{Value, text_of}
use Rattle.str_writer.specs.Write.{Outcome, outcome, splice, placed, write}
use Rattle.str_writer.proofs.Outcomes.{placed-short, placed-done}
use Rattle.str_writer.proofs.Truncation.{start_fits, utf8_above, utf8_tested}
use Rattle.str_writer.proofs.Utf8Text.{boundary_end, boundary_inside, boundary_well_formed}
use Rattle.str_writer.proofs.WellFormed.{Kept, write-either, write_keeps}

pub end-is_boundary : EndIsBoundary
end-is_boundary b at h = (
  sym (utf8_tested b at at h (omega arith) true (boundary_end b at h)),
  λ n k. sym (utf8_tested b at n h (omega arith) (is_boundary b n) (boundary_inside b at h n k)),
)

-- a length that is not above the cursor is a boundary of the text exactly if what stands before it is well-formed
left_well_formed : (b : List ℕ) (at n : ℕ) → at ≤ length b → well_formed (take at b) ≡ true → n ≤ at → is_boundary (take at b) n ≡ well_formed (take n b)
left_well_formed b at n h e k =
    boundary_well_formed (take at b) n (rw (length-take-le at b h) k) e ∙ ap well_formed (take-take n at b k)

pub truncates_well_formed : TruncatesWellFormed
truncates_well_formed b at n h e =
    dite (dec_lt at n)
    (λ k. let m : min n at ≡ at = omega arith in rw (m, e) (sym (utf8_above b at n h k)))
    (λ k. let m : min n at ≡ n = omega arith in
    rw m (sym (utf8_tested b at n h (omega arith) (well_formed (take n b)) (left_well_formed b at n h e (omega arith)))))

-- calls from a remembered cursor p on: the cursor is not below p and not past the end, and what stood before p still does
abbrev Since : List ℕ → ℕ → Outcome → Type 0
Since b p o = (p ≤ o.written.at) × (o.written.at ≤ length o.bytes) × (take p o.bytes ≡ take p b)

-- the same, and the text is well-formed
abbrev Remembered : List ℕ → ℕ → Outcome → Type 0
Remembered b p o = Since b p o × Kept o

module _ (b : List ℕ) (p : ℕ) (c : List ℕ) (at : ℕ) (above : p ≤ at) (within : at ≤ length c) (same : take p c ≡ take p b) where
  -- a text at the cursor leaves what stands before
  splice_since : (t : List ℕ) → (at + length t ≤ length (splice c at t)) × (take p (splice c at t) ≡ take p b)
  splice_since t =
      let n : length (take at c) ≡ at = length-take-le at c within in
      (rw (length-append, length-append, n) (omega arith), rw (append_assoc, take-append-le p (take at c) _ (rw n above), take-take p at c above) same)

  placed_since : (t : List ℕ) → Since b p (placed c at t)
  placed_since t =
      dite (dec_lt (length c - at) (length t))
      (λ x. rw (← placed-short c at t within x) (above, within, same))
      (λ x. rw (← placed-done c at t within (omega arith)) (omega arith, (splice_since t).0, (splice_since t).1))

  write_since : (f : FormattingFlags) (v : Value) → Since b p (write f c at v)
  write_since f v = write-either (Since b p) c at (λ a. (above, within, same)) f v (λ h y z. placed_since (text_of f v))

  truncate_since : (n : ℕ) → p ≤ n → well_formed (take at c) ≡ true → Remembered b p (outcome (truncated_utf8 c at n) c)
  truncate_since n h k = rw (truncates_well_formed c at n within k) (go (well_formed (take (min n at) c)) refl)
    where
      go : (x : Bool) → well_formed (take (min n at) c) ≡ x
          → Remembered b p (outcome (cond x (record { at = min n at; answer = Ok tt }) (record { at = at; answer = Err NotOnCharBoundary })) c)
      go true e = ((omega arith, omega arith, same), e)
      go false e = ((above, within, same), k)

called_since : (b : List ℕ) (p : ℕ) (cs : List WriterCall) → none_below p cs ≡ true → (o : Outcome) → Remembered b p o → Remembered b p (called o cs)
called_since b p [] e o r = r
called_since b p (writing f v ∷ cs) e o r =
    let s = r.0 in
    called_since b p cs e (write f o.bytes o.written.at v)
    (write_since b p o.bytes o.written.at s.0 s.1 s.2 f v, write_keeps f o.bytes o.written.at v r.1)
called_since b p (truncating n ∷ cs) e o r =
    let s = r.0 in
    let q = (and-eq-true_iff (leb p n) (none_below p cs)).0 e in
    called_since b p cs q.1 (outcome (truncated_utf8 o.bytes o.written.at n) o.bytes)
    (truncate_since b p o.bytes o.written.at s.0 s.1 s.2 n (leb-true p n q.0) r.1)

pub truncates_back : TruncatesBack
truncates_back b p cs h e n =
    let o : Outcome = called (outcome (start_at b p) b) cs in
    let r = called_since b p cs n (outcome (start_at b p) b) started in
    let m : min p o.written.at ≡ p = omega (arith, r.0.0) in
    (truncates_well_formed o.bytes o.written.at p r.0.1 r.1 ∙ rw (m, r.0.2, e), r.0.2)
  where
    started : Remembered b p (outcome (start_at b p) b)
    started = rw (start_fits b p h) ((omega arith, h, refl), e)

-- Pieces put one after another are the text that they make, put at once.
use mathlib.Core.Path.{◌≡◌, refl, ap, ◌∙◌}
use mathlib.Core.List.{List, [], ◌∷◌, ◌++◌}
use Prim.Native.Nat.{ℕ, ◌+◌, ◌*◌, ◌^◌, ◌≤◌, ◌<◌}
use native.Mathlib.Omega.{arith}
use lib.ListN.{length, take, drop, length-append}
use lib.Seq.{take-append_seam}
use Rattle.std.specs.Prelude.{Result, Ok, Err}
use Rattle.error.specs.declared.Error.{Error}
use Rattle.str_writer.specs.Write.{Written, written, Outcome, outcome, splice, put}
use Rattle.str_writer.proofs.Splice.{splice-nil, splice-splice, length-splice}
use Rattle.formatting.specs.Bytes.{bytes}
use Rattle.pwrapper.specs.Number.{decimal}
use Rattle.fields.specs.Decimal.{cell}
use Rattle.fields.specs.Hex.{hex_pairs}
use Rattle.fields.proofs.Cells.{cell-length, cell-short, put-fits}
use Rattle.fields.proofs.Pairs.{pairs-length}
use Rattle.sheet.specs.declared.print.Row.{Row}
use Rattle.sheet.specs.Sheet.{row_text, bad_text, end_head, end_line}

module _ (b : List ℕ) (at : ℕ) (t : List ℕ) (w : Written) (c : List ℕ) (e : outcome w c ≡ put b at t) where
  pub put-at : at + length t ≤ length b → w.at ≡ at + length t
  put-at h = ap (λ (o : Outcome). o.written.at) (e ∙ put-fits b at t h)

  pub put-bytes : at + length t ≤ length b → c ≡ splice b at t
  put-bytes h = ap (λ (o : Outcome). o.bytes) (e ∙ put-fits b at t h)

  -- a further piece that fits
  pub put_next : (u : List ℕ) → at + (length t + length u) ≤ length b → put c w.at u ≡ put b at (t ++ u)
  put_next u h =
      let k : at + length t ≤ length b = omega arith in
      let l : length (splice b at t) ≡ length b = length-splice b at t k in
      let n : at + length (t ++ u) ≡ at + length t + length u = simp length-append (omega arith) in
      rw (put-bytes k, put-at k, put-fits (splice b at t) (at + length t) u (omega arith), splice-splice b at t u k, put-fits b at (t ++ u) (omega arith), n)

-- the cursor behind a text, the text put there
abbrev pub behind : ℕ → List ℕ → Outcome
behind at c = outcome (record { at = at; answer = Ok tt }) c

-- the refusal of a text
abbrev pub refusal : Error → ℕ → List ℕ → Outcome
refusal e at c = outcome (record { at = at; answer = Err e }) c

-- a text that fits is not refused
pub not_refused : {A : Type 0} (b : List ℕ) (at : ℕ) (t : List ℕ) {e : Error} {n : ℕ} {c : List ℕ} → refusal e n c ≡ put b at t → at + length t ≤ length b → A
not_refused b at t h l = let k = ap (λ (o : Outcome). o.written.answer) (h ∙ put-fits b at t l) in absurd (cc k)

-- what was laid at the beginning of bytes that have room for k
module _ (b t : List ℕ) (k : ℕ) {n : ℕ} {c : List ℕ} (e : behind n c ≡ put b 0 t) (h : length t ≤ k) (l : k ≤ length b) where
  pub laid-end : n ≡ length t
  laid-end = let q = put-at b 0 t _ c e (omega arith) in omega arith

  pub laid-fits : n ≤ length c
  laid-fits = rw (laid-end, put-bytes b 0 t _ c e (omega arith), length-splice b 0 t (omega arith)) (omega arith)

  pub laid-text : take n c ≡ t
  laid-text = rw (laid-end, put-bytes b 0 t _ c e (omega arith)) (take-append_seam t (drop (0 + length t) b))

-- t stands in b from first on, and is at most k bytes long
pub record At (b : List ℕ) (first : ℕ) (t : List ℕ) (k at : ℕ) (c : List ℕ) : Type 0 where
  pub whole : behind at c ≡ put b first t
  pub short : length t ≤ k

pub at_start : (b : List ℕ) (first : ℕ) → first ≤ length b → At b first [] 0 first b
at_start b first h =
    let z : first + 0 ≡ first = omega arith in
    record { whole = rw (put-fits b first [] (omega arith), splice-nil b first, z) refl; short = omega arith }

-- a further piece of at most m bytes
module _ {b t : List ℕ} {first k at : ℕ} {c : List ℕ} (a : At b first t k at c) (m : ℕ) (u : List ℕ) (h : length u ≤ m) (l : first + k + m ≤ length b) where
  together : put c at u ≡ put b first (t ++ u)
  together = let s = a.short in put_next b first t _ c a.whole u (omega arith)

  short-next : length (t ++ u) ≤ k + m
  short-next = let s = a.short in simp length-append (omega arith)

  pub next : {v : ℕ} {d : List ℕ} → behind v d ≡ put c at u → At b first (t ++ u) (k + m) v d
  next e = record { whole = e ∙ together; short = short-next }

  pub fits : {A : Type 0} {e : Error} {d : List ℕ} → refusal e at d ≡ put c at u → A
  fits e = not_refused b first (t ++ u) (e ∙ together) (omega (arith, short-next))

  pub last : (r : Result ℕ Error) {d : List ℕ} → outcome (written at r) d ≡ put c at u → outcome (written first r) d ≡ put b first (t ++ u)
  last (Ok v) e = e ∙ together
  last (Err x) e = fits e

-- the same of a number's cell
module _ {b t : List ℕ} {first k at : ℕ} {c : List ℕ} (a : At b first t k at c) (n after : ℕ) (h : n < 2 ^ 64) (l : first + k + 21 ≤ length b) where
  pub next-cell : {v : ℕ} {d : List ℕ} → behind v d ≡ put c at (cell n after) → At b first (t ++ cell n after) (k + 21) v d
  next-cell e = next a 21 (cell n after) (cell-short n after h) l e

  pub cell-fits : {A : Type 0} {e : Error} {d : List ℕ} → refusal e at d ≡ put c at (cell n after) → A
  cell-fits e = fits a 21 (cell n after) (cell-short n after h) l e

  pub last-cell : (r : Result ℕ Error) {d : List ℕ} → outcome (written at r) d ≡ put c at (cell n after) → outcome (written first r) d ≡ put b first (t ++ cell n after)
  last-cell r e = last a 21 (cell n after) (cell-short n after h) l r e

-- the most bytes of what is printed, where each number fits in 64 bits
digits-short : (n : ℕ) → n < 2 ^ 64 → length (decimal n) ≤ 20
digits-short n h = omega (arith, cell-short n 0 h, cell-length n 0 refl)

module _ (r : Row) where
  pub row_short : r.line < 2 ^ 64 → r.counting_answer < 2 ^ 64 → r.total < 2 ^ 64 → r.writing_answer < 2 ^ 64 → r.cursor < 2 ^ 64 → length (row_text r) ≤ 105
  unfolding row_text
  row_short a b c d e =
      simp length-append (omega (arith, digits-short r.line a, digits-short r.counting_answer b, digits-short r.total c, digits-short r.writing_answer d, digits-short r.cursor e))

pub bad_short : (line : ℕ) → line < 2 ^ 64 → length (bad_text line) ≤ 25
unfolding bad_text
bad_short line h =
    let l : length (bytes "bad\n") ≡ 4 = refl in
    simp length-append (omega (arith, digits-short line h))

-- the last line: `end`, total and cursor, then HEX, then a line feed
module _ (total cursor : ℕ) where
  pub head_short : total < 2 ^ 64 → cursor < 2 ^ 64 → length (end_head total cursor) ≤ 46
  head_short h k = simp length-append (omega (arith, digits-short total h, digits-short cursor k))

  module _ (s : List ℕ) where
    pub end-length : length (end_line total cursor s) ≡ length (end_head total cursor) + 2 * length s + 1
    unfolding end_line
    end-length = length-append (end_head total cursor ++ hex_pairs s) (10 ∷ []) ∙ ap (λ (n : ℕ). n + 1) (length-append (end_head total cursor) (hex_pairs s) ∙ ap (λ (n : ℕ). length (end_head total cursor) + n) (pairs-length s))

    pub end_short : total < 2 ^ 64 → cursor < 2 ^ 64 → length (end_line total cursor s) ≤ 47 + 2 * length s
    end_short h k = omega (arith, end-length, head_short h k)

-- Laws of a text written between quotation marks: its escapes one after another, its runs without an escape, and whether it has room.
use Rattle.std.specs.Prelude.{Ok}
use Rattle.std.proofs.Math.Bool.{and_assoc, and-true}
use mathlib.Core.Bool.{Bool, true, false, not, ◌&&◌}
use mathlib.Core.Path.{◌≡◌, refl, sym, ap, subst, ◌∙◌}
use mathlib.Core.List.{List, [], ◌∷◌, ◌++◌, append_assoc, append-nil}
use Prim.Native.Nat.{ℕ, ◌+◌, ◌-◌, ◌*◌, ◌≤◌, ◌<◌}
use native.Mathlib.Numerals.{add-one}
use native.Mathlib.Omega.{arith}
use lib.Dec.{leb, eqb}
use lib.ListN.{length, take, drop, get_or, set, length-append, length-set, length-drop, take-append-drop, drop_of_length-le}
use lib.Seq.{take-suc, take_all, length-take-le, sets, sets-eq}
use borrow.Author.Rules.{rules}
use Rattle.formatting.specs.declared.escaping.Escape.{Escape}
use Rattle.formatting.specs.Escape.{escape_of, escape_text, is_escaped, escaped, quoted}
use Rattle.str_writer.specs.Write.{outcome, splice, put}
use Rattle.str_writer.proofs.Splice.{splice-nil, splice-one, splice-splice, length-splice}
use Rattle.str_writer.proofs.Outcomes.{put-done}
use Rattle.quoted_writes.specs.Marked.{all_bare, CopiesBare, Writes}

-- the text of one byte, of one to four bytes
abbrev pub byte_text : ℕ → List ℕ
byte_text b = escape_text (escape_of b) b

pub byte_some : (b : ℕ) → (1 ≤ length (byte_text b)) × (length (byte_text b) ≤ 4)
byte_some b = search rules

-- the text of the bytes is no shorter than they, and at most four times as long
pub escaped_long : (s : List ℕ) → (length s ≤ length (escaped s)) × (length (escaped s) ≤ 4 * length s)
unfolding escaped
escaped_long [] = (omega arith, omega arith)
escaped_long (b ∷ bs) =
    let e = byte_some b in
    let l = escaped_long bs in
    (simp length-append (omega arith), simp length-append (omega arith))

-- a text between marks has two bytes more
pub quoted-length : (s : List ℕ) → length (quoted s) ≡ length (escaped s) + 2
quoted-length s = simp length-append (omega arith)

-- what two texts become, one after the other
pub escaped-append : (a b : List ℕ) → escaped (a ++ b) ≡ escaped a ++ escaped b
unfolding escaped
escaped-append [] b = refl
escaped-append (x ∷ a) b = rw (escaped-append a b) (sym (append_assoc (byte_text x) (escaped a) (escaped b)))

-- bytes that stand for themselves
bare_byte : (b : ℕ) → is_escaped (escape_of b) ≡ false → byte_text b ≡ b ∷ []
bare_byte b e = search rules

pub bare-text : (s : List ℕ) → all_bare s ≡ true → escaped s ≡ s
unfolding escaped
bare-text [] h = refl
bare-text (b ∷ bs) h = go (is_escaped (escape_of b)) refl h (λ k. bare-text bs k)
  where
    go : (t : Bool) → is_escaped (escape_of b) ≡ t → not t && all_bare bs ≡ true → (all_bare bs ≡ true → escaped bs ≡ bs) → byte_text b ++ escaped bs ≡ b ∷ bs
    go true e k r = let z : ◌≡◌ {A = ℕ} 0 1 = cc in absurd (omega arith)
    go false e k r = rw (bare_byte b e, r k)

bare-append : (a b : List ℕ) → all_bare (a ++ b) ≡ all_bare a && all_bare b
bare-append [] b = refl
bare-append (x ∷ a) b = rw (bare-append a b) (sym (and_assoc (not (is_escaped (escape_of x))) (all_bare a) (all_bare b)))

-- one byte more
pub bare-more : (s : List ℕ) (i : ℕ) → i < length s → all_bare (take (i + 1) s) ≡ all_bare (take i s) && not (is_escaped (escape_of (get_or s i 0)))
bare-more s i h = rw (add-one, take-suc s i 0 h, bare-append, and-true (not (is_escaped (escape_of (get_or s i 0)))))

-- a byte stands for itself exactly if it passes the four tests
pub bare_test : (b : ℕ) → (leb 32 b && not (eqb b 34)) && (not (eqb b 39) && not (eqb b 92)) ≡ not (is_escaped (escape_of b))
unfolding escape_of
bare_test b = search rules

-- two tests beside two others
pub both_turn : (x y z u v : Bool) → x && y ≡ z → (x && u) && (y && v) ≡ z && (u && v)
both_turn x y z u v e = search rules

-- the bytes from i on, as a part of a slice has them
pub from_on : (s : List ℕ) (i : ℕ) → take (length s - i) (drop i s) ≡ drop i s
from_on s i = take_all (length s - i) (drop i s) (omega (arith, length-drop i s))

-- two parts of a text
pub escaped-parts : (s : List ℕ) (i : ℕ) → escaped (take i s) ++ escaped (drop i s) ≡ escaped s
escaped-parts s i = sym (escaped-append (take i s) (drop i s)) ∙ ap escaped (take-append-drop i s)

-- one text behind another
pub writes-append : (b : List ℕ) (w : ℕ) (s t : List ℕ) (m end : ℕ) (c d : List ℕ) → w + length s ≤ length b → Writes b w s m c → Writes c m t end d → Writes b w (s ++ t) end d
writes-append b w s t m end c d h x y =
    (omega (arith, x.0, y.0, length-append s t), y.1 ∙ rw (x.0, x.1) (splice-splice b w s t h))

pub writes-none : (b : List ℕ) (w : ℕ) → Writes b w (escaped []) w b
unfolding escaped
writes-none b w = (omega arith, sym (splice-nil b w))

-- what stands for a byte, stored byte by byte
pub stored : (b : List ℕ) (w x : ℕ) (e : Escape) → escape_of x ≡ e → w + length (byte_text x) ≤ length b
    → (w + length (escape_text e x) ≡ w + length (byte_text x)) × (sets b w (escape_text e x) ≡ splice b w (byte_text x))
stored b w x e k h = rw k (refl, sets-eq (escape_text e x) b w (rw k at h))

-- one byte, and one before a text
pub writes_byte : (b : List ℕ) (at x : ℕ) → at < length b → Writes b at (x ∷ []) (at + 1) (set b at x)
writes_byte b at x h = (refl, splice-one b at x h)

pub writes_before : (b : List ℕ) (at x : ℕ) (t : List ℕ) (end : ℕ) (d : List ℕ) → at < length b → Writes (set b at x) (at + 1) t end d → Writes b at (x ∷ t) end d
writes_before b at x t end d h y = writes-append b at (x ∷ []) t (at + 1) end (set b at x) d (omega arith) (writes_byte b at x h) y

-- bytes that were copied up to an escape, and one more
pub copies-start : (b : List ℕ) (at : ℕ) (s : List ℕ) → CopiesBare b at s 0 b
copies-start b at s = (omega arith, refl, sym (splice-nil b at))

pub copies-more : (b : List ℕ) (at : ℕ) (s : List ℕ) (i : ℕ) (c : List ℕ) → at + length s ≤ length b → i < length s → not (is_escaped (escape_of (get_or s i 0))) ≡ true
    → CopiesBare b at s i c → CopiesBare b at s (i + 1) (set c (at + i) (get_or s i 0))
copies-more b at s i c r h e k =
    let l : length (take i s) ≡ i = length-take-le i s k.0 in
    let p : set (splice b at (take i s)) (at + i) (get_or s i 0) ≡ splice b at (take i s ++ (get_or s i 0 ∷ [])) =
    splice-one (splice b at (take i s)) (at + i) (get_or s i 0) (omega (arith, length-splice b at (take i s) (omega arith)))
    ∙ subst (λ (n : ℕ). splice (splice b at (take i s)) (at + n) (get_or s i 0 ∷ []) ≡ splice b at (take i s ++ (get_or s i 0 ∷ []))) l (splice-splice b at (take i s) (get_or s i 0 ∷ []) (omega arith)) in
    (omega arith, rw (bare-more s i h, k.1) e, rw (k.2, add-one, take-suc s i 0 h) p)

pub copies-writes : (b : List ℕ) (at : ℕ) (s : List ℕ) (n : ℕ) (c : List ℕ) → CopiesBare b at s n c → Writes b at (escaped (take n s)) (at + n) c
copies-writes b at s n c k = rw (bare-text (take n s) k.1) (omega (arith, length-take-le n s k.0), k.2)

-- a text between marks, of its bytes up to an escape and the rest of them
module _ (b : List ℕ) (at : ℕ) (s : List ℕ) (r : at + length (quoted s) ≤ length b) (n : ℕ) (c : List ℕ) (k : CopiesBare (set b at 34) (at + 1) s n c) where
  bare : Writes (set b at 34) (at + 1) (escaped (take n s)) (at + 1 + n) c
  bare = copies-writes (set b at 34) (at + 1) s n c k

  sized : length (escaped s) ≡ n + length (escaped (drop n s))
  sized =
      sym (ap length (escaped-parts s n)) ∙ length-append (escaped (take n s)) (escaped (drop n s))
      ∙ rw (bare-text (take n s) k.1, length-take-le n s k.0)

  pub rest-room : at + 1 + n + length (escaped (drop n s)) < length b
  rest-room = omega (arith, sized, quoted-length s)

  pub marked : (end : ℕ) (d : List ℕ) → Writes c (at + 1 + n) (escaped (drop n s) ++ (34 ∷ [])) end d → Writes b at (quoted s) end d
  marked end d y =
      let z = escaped (drop n s) ++ (34 ∷ []) in
      let q : escaped (take n s) ++ z ≡ escaped s ++ (34 ∷ []) = sym (append_assoc (escaped (take n s)) (escaped (drop n s)) (34 ∷ [])) ∙ ap (λ (t : List ℕ). t ++ (34 ∷ [])) (escaped-parts s n) in
      let f : at + 1 + length (escaped (take n s)) ≤ length (set b at 34) = omega (arith, length-set b at 34, sized, quoted-length s, bare.0) in
      let x : Writes (set b at 34) (at + 1) (escaped (take n s) ++ z) end d = writes-append (set b at 34) (at + 1) (escaped (take n s)) z (at + 1 + n) end c d f bare y in
      writes_before b at 34 (escaped s ++ (34 ∷ [])) end d (omega arith) (rw q at x)

  -- where none has an escape
  pub marked-bare : length s ≤ n → Writes b at (quoted s) (at + 1 + n + 1) (set c (at + 1 + n) 34)
  unfolding escaped
  marked-bare h =
      let e : drop n s ≡ [] = drop_of_length-le s h in
      let l : length c ≡ length b = ap length k.2 ∙ length-splice (set b at 34) (at + 1) (take n s) (omega (arith, length-set b at 34, length-take-le n s k.0, rest-room)) ∙ length-set b at 34 in
      marked (at + 1 + n + 1) (set c (at + 1 + n) 34) (rw e (writes_byte c (at + 1 + n) 34 (omega (arith, rest-room))))

-- where what is written from w on is a front of s, and `rest` is left
pub record Left (b₀ : List ℕ) (w : ℕ) (s b : List ℕ) (at : ℕ) (rest : List ℕ) : Type 0 where
  pub front : List ℕ
  pub whole : s ≡ front ++ rest
  pub written : Writes b₀ w (escaped front) at b

pub left-start : (b : List ℕ) (w : ℕ) (s : List ℕ) → Left b w s b w s
left-start b w s = record { front = []; whole = refl; written = writes-none b w }

module _ {b₀ : List ℕ} {w : ℕ} {s b : List ℕ} {at : ℕ} {rest : List ℕ} (r : w + length (escaped s) ≤ length b₀) (l : Left b₀ w s b at rest) where
  sizes : length (escaped s) ≡ length (escaped l.front) + length (escaped rest)
  sizes = ap (λ (t : List ℕ). length (escaped t)) l.whole ∙ rw (escaped-append l.front rest, length-append)

  pub left-room : at + length (escaped rest) ≤ length b₀
  left-room = omega (arith, sizes, l.written.0)

  pub left-block-room : (n : ℕ) → at + length (escaped (take n rest)) ≤ length b₀
  left-block-room n =
      omega (arith, left-room, ap length (escaped-parts rest n), length-append (escaped (take n rest)) (escaped (drop n rest)))

  -- what is left is written
  pub left-end : (end : ℕ) (c : List ℕ) → Writes b at (escaped rest) end c → Writes b₀ w (escaped s) end c
  left-end end c k =
      rw (l.whole, escaped-append l.front rest) (writes-append b₀ w (escaped l.front) (escaped rest) at end b c (omega (arith, sizes)) l.written k)

  -- a block of it is written
  pub left-block : (n m : ℕ) (c : List ℕ) → Writes b at (escaped (take n rest)) m c → Left b₀ w s c m (drop n rest)
  left-block n m c k =
      record {
        front = l.front ++ take n rest;
        whole = l.whole ∙ ap (λ (t : List ℕ). l.front ++ t) (sym (take-append-drop n rest)) ∙ sym (append_assoc l.front (take n rest) (drop n rest));
        written = rw (escaped-append l.front (take n rest)) (writes-append b₀ w (escaped l.front) (escaped (take n rest)) at m b c (omega (arith, sizes)) l.written k);
      }

-- the bytes of it up to an escape are written, as a part of a slice has the rest of them
pub left-bare : {b₀ : List ℕ} {w : ℕ} {s b : List ℕ} {at : ℕ} {rest : List ℕ} → w + length (escaped s) ≤ length b₀ → Left b₀ w s b at rest
    → (n : ℕ) (c : List ℕ) → CopiesBare b at rest n c → Left b₀ w s c (at + n) (take (length rest - n) (drop n rest))
left-bare {b = b} {at = at} {rest = rest} r l n c k = rw (from_on rest n) (left-block r l n (at + n) c (copies-writes b at rest n c k))

-- its first byte is written
module _ {b₀ : List ℕ} {w : ℕ} {s b : List ℕ} {at x : ℕ} {xs : List ℕ} (r : w + length (escaped s) ≤ length b₀) (l : Left b₀ w s b at (x ∷ xs)) where
  pub left-byte-room : at + length (byte_text x) ≤ length b₀
  unfolding escaped
  left-byte-room = rw (append-nil (byte_text x)) at (left-block-room r l 1)

  pub left-byte : (m : ℕ) (c : List ℕ) → Writes b at (byte_text x) m c → Left b₀ w s c m xs
  unfolding escaped
  left-byte m c k = left-block r l 1 m c (rw (append-nil (byte_text x)) k)

-- nothing is left
pub left-none : {b₀ : List ℕ} {w : ℕ} {s b : List ℕ} {at : ℕ} (rest : List ℕ) → w + length (escaped s) ≤ length b₀ → Left b₀ w s b at rest → length rest ≡ 0 → Writes b₀ w (escaped s) at b
left-none {b = b} {at = at} [] r l e = left-end r l at b (writes-none b at)
left-none (x ∷ xs) r l e = absurd (omega (arith, e))

-- a text that has room is put, where it is written
pub put-writes : (b : List ℕ) (at : ℕ) (t : List ℕ) (end : ℕ) (c : List ℕ) → at ≤ length b → length t ≤ length b - at → Writes b at t end c → outcome (record { at = end; answer = Ok tt }) c ≡ put b at t
put-writes b at t end c h r k = rw (k.0, k.1) (put-done b at t h r)

-- What pieces do to the count and to the lent bytes: laws for both modes at once.
use Rattle.std.proofs.lemmas.Grind.{common_steps}
use borrow.Author.Rules.{rules}
use mathlib.Core.Path.{◌≡◌, refl, sym, ap, ◌∙◌}
use mathlib.Core.Logic.{◌⊎◌, inl, inr}
use mathlib.Core.List.{List, [], ◌∷◌, ◌++◌, append_assoc, append-nil, flatten}
use Prim.Native.Nat.{ℕ, ◌+◌, ◌≤◌, ◌<◌}
use native.Mathlib.Nat.{add_assoc}
use native.Mathlib.Decide.{dec_le}
use native.Mathlib.Omega.{arith}
use lib.ListN.{length, take, drop, length-append}
use lib.Seq.{take-append-le, take-take, length-take-le, drop_at, drop-drop}
use Rattle.error.specs.declared.Error.TheVariants.{NotEnoughSpace, CountTooLarge}
use Rattle.error.specs.Answer.{number_of}
use Rattle.str_writer.specs.Write.{splice, placed}
use Rattle.str_writer.proofs.Splice.{splice-splice, length-splice}
use Rattle.calls.specs.Call.{hold}
use Rattle.calls.specs.Model.{Mode, number_in, counting, writing, Output, PieceOutcome, to, most, put_in, put, tries, stops, beyond, cut_in}
use Rattle.agreement.specs.Untouched.{OnlyBetween, LeavesRest}

flatten-append : (ts us : List (List ℕ)) → flatten (ts ++ us) ≡ flatten ts ++ flatten us
unfolding flatten
flatten-append [] us = refl
flatten-append (t ∷ ts) us = rw (flatten-append ts us, append_assoc)

length_both : (ts us : List (List ℕ)) → length (flatten (ts ++ us)) ≡ length (flatten ts) + length (flatten us)
length_both ts us = rw (flatten-append, length-append)

flatten-snoc : (ts : List (List ℕ)) (t : List ℕ) → flatten (ts ++ t ∷ []) ≡ flatten ts ++ t
unfolding flatten
flatten-snoc ts t = flatten-append ts (t ∷ []) ∙ rw append-nil

length-snoc : (ts : List (List ℕ)) (t : List ℕ) → length (flatten (ts ++ t ∷ [])) ≡ length (flatten ts) + length t
length-snoc ts t = rw (flatten-snoc, length-append)

-- how far a mode may go, and what it answers past that
abbrev pub cap_of : Mode → List ℕ → ℕ
cap_of (counting n) b = most
cap_of (writing p) b = length b

abbrev pub code_of : Mode → ℕ
code_of (counting n) = number_of CountTooLarge
code_of (writing p) = number_of NotEnoughSpace

-- the output once the text t has gone to it, and where there is room for that
abbrev with_text : Mode → List ℕ → List ℕ → Output
with_text (counting n) b t = record { mode = counting (n + length t); bytes = b }
with_text (writing p) b t = record { mode = writing (p + length t); bytes = splice b p t }

abbrev Room : Mode → List ℕ → List ℕ → Type 0
Room m b t = number_in m + length t ≤ cap_of m b

-- the same of pieces
abbrev pub after : Mode → List ℕ → List (List ℕ) → Output
after m b ts = with_text m b (flatten ts)

abbrev pub Fits : Mode → List ℕ → List (List ℕ) → Type 0
Fits m b ts = Room m b (flatten ts)

abbrev pub Passes : Mode → List ℕ → List (List ℕ) → Type 0
Passes m b ts = cap_of m b < number_in m + length (flatten ts)

abbrev pub sent : Mode → List ℕ → List (List ℕ) → PieceOutcome
sent m b ts = record { answer = 0; output = after m b ts }

pub fits-left : (m : Mode) (b : List ℕ) (ts us : List (List ℕ)) → Fits m b (ts ++ us) → Fits m b ts
fits-left m b ts us h = omega (arith, rw length_both at h)

-- what one piece does, by whether it fits
in_fits : (m : Mode) (b t : List ℕ) → Room m b t → put_in m b t ≡ record { answer = 0; output = with_text m b t }
unfolding placed
in_fits m b t h = search rules

in_over : (m : Mode) (b t : List ℕ) → cap_of m b < number_in m + length t → put_in m b t ≡ to m b (code_of m)
unfolding placed
in_over m b t h = search rules

in_cases : (P : PieceOutcome → Type 0) (m : Mode) (b t : List ℕ)
    → (Room m b t → P (record { answer = 0; output = with_text m b t })) → P (to m b (code_of m)) → P (put_in m b t)
in_cases P m b t y n = go (dec_le (number_in m + length t) (cap_of m b))
  where
    go : Dec (Room m b t) → P (put_in m b t)
    go (yes h) = rw (in_fits m b t h) (y h)
    go (no h) = rw (in_over m b t (omega arith)) n

pub hold_code : (m : Mode) (a : ℕ) → hold (code_of m) a ≡ code_of m
hold_code m a = search rules

module _ (b : List ℕ) where
  pub put_law : (m : Mode) (ts : List (List ℕ)) (t : List ℕ) → Fits m b (ts ++ t ∷ [])
      → put_in (after m b ts).mode (after m b ts).bytes t ≡ sent m b (ts ++ t ∷ [])
  put_law (counting n) ts t h =
      let k : n + length (flatten ts) + length t ≤ most = omega (arith, rw length-snoc at h) in
      rw (in_fits (counting (n + length (flatten ts))) b t k, length-snoc, add_assoc)
  put_law (writing p) ts t h =
      let k : p + length (flatten ts) + length t ≤ length b = omega (arith, rw length-snoc at h) in
      let j : p + length (flatten ts) ≤ length b = omega arith in
      let i : p + length (flatten ts) + length t ≤ length (splice b p (flatten ts)) = rw (length-splice b p (flatten ts) j) k in
      rw (in_fits (writing (p + length (flatten ts))) (splice b p (flatten ts)) t i, splice-splice b p (flatten ts) t j, flatten-snoc, length-append, add_assoc)

  pub put-over : (m : Mode) (ts : List (List ℕ)) (t : List ℕ) → Fits m b ts → Passes m b (ts ++ t ∷ [])
      → (put_in (after m b ts).mode (after m b ts).bytes t).answer ≡ code_of m
  put-over (counting n) ts t f h =
      let k : most < n + length (flatten ts) + length t = omega (arith, rw length-snoc at h) in
      ap (λ (r : PieceOutcome). r.answer) (in_over (counting (n + length (flatten ts))) b t k)
  put-over (writing p) ts t f h =
      let k : length b < p + length (flatten ts) + length t = omega (arith, rw length-snoc at h) in
      let i : length (splice b p (flatten ts)) < p + length (flatten ts) + length t = rw (length-splice b p (flatten ts) f) k in
      ap (λ (r : PieceOutcome). r.answer) (in_over (writing (p + length (flatten ts))) (splice b p (flatten ts)) t i)

  module _ (m : Mode) where
    snoc : (ts : List (List ℕ)) (u : List ℕ) (us : List (List ℕ)) → ts ++ u ∷ [] ++ us ≡ ts ++ u ∷ us
    snoc ts u us = append_assoc ts (u ∷ []) us

    snoc-left : (ts : List (List ℕ)) (u : List ℕ) (us : List (List ℕ)) → Fits m b (ts ++ u ∷ us) → Fits m b (ts ++ u ∷ [])
    snoc-left ts u us h = fits-left m b (ts ++ u ∷ []) us (rw snoc h)

    pub tries_law : (ts us : List (List ℕ)) → Fits m b (ts ++ us) → tries (after m b ts) us ≡ sent m b (ts ++ us)
    tries_law ts [] h = rw append-nil
    tries_law ts (u ∷ us) h = rw (put_law m ts u (snoc-left ts u us h), tries_law (ts ++ u ∷ []) us (rw snoc h), snoc)

    pub stops_law : (ts us : List (List ℕ)) → Fits m b (ts ++ us) → stops (after m b ts) us ≡ sent m b (ts ++ us)
    stops_law ts [] h = rw append-nil
    stops_law ts (u ∷ us) h = rw (put_law m ts u (snoc-left ts u us h), stops_law (ts ++ u ∷ []) us (rw snoc h), snoc)

    pub tries-over : (ts us : List (List ℕ)) → Fits m b ts → Passes m b (ts ++ us) → (tries (after m b ts) us).answer ≡ code_of m
    tries-over ts [] f h = absurd (omega (arith, rw append-nil at h))
    tries-over ts (u ∷ us) f h = go (dec_le (number_in m + length (flatten (ts ++ u ∷ []))) (cap_of m b)) (λ k. tries-over (ts ++ u ∷ []) us k (rw snoc h))
      where
        go : Dec (Fits m b (ts ++ u ∷ [])) → (Fits m b (ts ++ u ∷ []) → (tries (after m b (ts ++ u ∷ [])) us).answer ≡ code_of m) → (tries (after m b ts) (u ∷ us)).answer ≡ code_of m
        go (yes k) ih = rw (put_law m ts u k) (ih k)
        go (no k) ih = rw (put-over m ts u f (omega arith), hold_code m)

-- pieces that stop at the first refusal answer what tried ones do
pub stops-answer : (d : Output) (us : List (List ℕ)) → (stops d us).answer ≡ (tries d us).answer
stops-answer d [] = refl
stops-answer d (u ∷ us) = grind (arith, common_steps, stops-answer (put d u).output us)

-- pieces answer 0 or the code of the mode
abbrev pub Coded : Mode → ℕ → Type 0
Coded m a = (a ≡ 0) ⊎ (a ≡ code_of m)

-- What every piece keeps: the rest of the bytes, and a cursor that is in them
abbrev Within : Mode → List ℕ → Type 0
Within (counting n) b = Unit {0}
Within (writing c) b = c ≤ length b

abbrev pub Kept : Mode → List ℕ → Mode → List ℕ → Type 0
Kept m₀ b₀ m b = LeavesRest m₀ b₀ m b × Within m b

abbrev pub KeptIn : Mode → List ℕ → Output → Type 0
KeptIn m₀ b₀ d = Kept m₀ b₀ d.mode d.bytes

-- so the code is the same, 3 is met in the same runs, and the cursor is in the lent bytes
same_code : (m₀ : Mode) (b₀ : List ℕ) (m : Mode) (b : List ℕ) → Kept m₀ b₀ m b → code_of m ≡ code_of m₀
same_code m₀ b₀ m b h = search rules

pub same-cut : (m₀ : Mode) (b₀ : List ℕ) (m : Mode) (b : List ℕ) (c : ℕ) → Kept m₀ b₀ m b → cut_in m c ≡ cut_in m₀ c
same-cut m₀ b₀ m b c h = search rules

pub inside : (m : Mode) (b : List ℕ) → Within m b → beyond m b ≡ 0
inside m b h = search rules

-- a text behind the cursor leaves the rest
rest-splice : (p : ℕ) (b₀ : List ℕ) (c : ℕ) (b t : List ℕ) → OnlyBetween b₀ p b c → c + length t ≤ length b → OnlyBetween b₀ p (splice b c t) (c + length t)
rest-splice p b₀ c b t h k =
    let l : length (take c b) ≡ c = length-take-le c b (omega arith) in
    let f : p ≤ length (take c b) = omega (arith, l, h.forward) in
    let n : length (take c b ++ t) ≡ c + length t = rw (length-append, l) in
    let g : p ≤ c = h.forward in
    record {
      forward = omega (arith, h.forward);
      size = length-splice b c t k ∙ h.size;
      before = rw (append_assoc, take-append-le, take-take) h.before;
      behind = drop_at (take c b ++ t) (drop (c + length t) b) (c + length t) n ∙ sym (drop-drop (length t) c b) ∙ rw h.behind (drop-drop (length t) c b₀);
    }

-- a run leaves it at its start, and once pieces that fit have gone out
pub rest-start : (m : Mode) (b : List ℕ) → LeavesRest m b m b
rest-start m b = search rules

pub kept_start : (m : Mode) (b : List ℕ) → number_in m ≤ cap_of m b → Kept m b m b
kept_start m b h = search rules

pub kept_after : (m : Mode) (b : List ℕ) (ts : List (List ℕ)) → Fits m b ts → KeptIn m b (after m b ts)
kept_after (counting n) b ts h = (refl, tt)
kept_after (writing p) b ts h = (rest-splice p b p b (flatten ts) (rest-start (writing p) b) h, rw (length-splice b p (flatten ts) h) h)

-- a piece that is written leaves the rest, and one that is refused all
pub put_rest : (m₀ : Mode) (b₀ : List ℕ) (m : Mode) (b t : List ℕ) → LeavesRest m₀ b₀ m b → LeavesRest m₀ b₀ (put_in m b t).output.mode (put_in m b t).output.bytes
put_rest (counting n) b₀ (counting m) b t h =
    in_cases (λ (r : PieceOutcome). LeavesRest (counting n) b₀ r.output.mode r.output.bytes) (counting m) b t (λ k. h) h
put_rest (counting n) b₀ (writing c) b t h = absurd h
put_rest (writing p) b₀ (counting m) b t h = absurd h
put_rest (writing p) b₀ (writing c) b t h =
    in_cases (λ (r : PieceOutcome). LeavesRest (writing p) b₀ r.output.mode r.output.bytes) (writing c) b t (λ k. rest-splice p b₀ c b t h k) h

put-within : (m : Mode) (b t : List ℕ) → Within m b → Within (put_in m b t).output.mode (put_in m b t).output.bytes
put-within (counting m) b t h = in_cases (λ (r : PieceOutcome). Within r.output.mode r.output.bytes) (counting m) b t (λ k. tt) tt
put-within (writing c) b t h = in_cases (λ (r : PieceOutcome). Within r.output.mode r.output.bytes) (writing c) b t (λ k. rw (length-splice b c t k) k) h

pub put_kept : (m₀ : Mode) (b₀ : List ℕ) (m : Mode) (b t : List ℕ) → Kept m₀ b₀ m b → KeptIn m₀ b₀ (put_in m b t).output
put_kept m₀ b₀ m b t h = (put_rest m₀ b₀ m b t h.0, put-within m b t h.1)

module _ (m₀ : Mode) (b₀ : List ℕ) where
  pub put-coded : (d : Output) (t : List ℕ) → KeptIn m₀ b₀ d → Coded m₀ (put d t).answer
  put-coded d t h =
      let e = same_code m₀ b₀ d.mode d.bytes h in
      in_cases (λ (r : PieceOutcome). Coded m₀ r.answer) d.mode d.bytes t (λ k. inl refl) (inr e)

  pub tries-coded : (d : Output) (us : List (List ℕ)) → KeptIn m₀ b₀ d → Coded m₀ (tries d us).answer
  tries-coded d [] h = inl refl
  tries-coded d (u ∷ us) h = grind (arith, common_steps, hold_code m₀, put-coded d u h, tries-coded (put d u).output us (put_kept m₀ b₀ d.mode d.bytes u h))

-- Laws of the lines of an input, and of the bytes that are held of it.
use Rattle.std.proofs.lemmas.List.{nil_from_length}
use Rattle.std.proofs.lemmas.Grind.{common_steps}
use mathlib.Core.Bool.{Bool, true, false, cond}
use mathlib.Core.Path.{◌≡◌, refl, ap, sym, ◌∙◌}
use mathlib.Core.List.{List, [], ◌∷◌, ◌++◌, append-nil}
use Prim.Native.Nat.{ℕ, zero, suc, ◌+◌, ◌-◌, ◌≤◌, ◌<◌}
use native.Mathlib.Numerals.{add-one}
use native.Mathlib.Omega.{arith}
use borrow.Author.Rules.{rules}
use lib.Dec.{eqb}
use lib.ListN.{length, take, drop, length-append, length-drop, drop_of_length-le}
use lib.Seq.{take-append-le, drop-append-le, drop-append_seam, take_all, length-take-le, take-take, drop-drop}
use Rattle.std.specs.Prelude.{Some, None, ◌==◌}
use Rattle.std.specs.List.{position_or_len}
use Rattle.std.proofs.lemmas.List.Recursion.{is_position_or_len}
use Rattle.std.proofs.lemmas.List.Sums.{prefix_len-le-length}
use Rattle.fields.specs.Fields.{longer}
use Rattle.lines.specs.declared.Reader.{Reader}
use Rattle.lines.specs.Lines.{lines_of, clipped, later_lines}
use Rattle.lines.specs.Reading.{held, held_of, ahead, ahead_of, last_of, line_feed, Unended, TakesLine, TakesNone, Skips}

-- the place of the first line feed, or the length
feed : List ℕ → ℕ
feed [] = 0
feed (a ∷ s) = cond (eqb a 10) 0 (suc (feed s))

feed-position : (s : List ℕ) → feed s ≡ position_or_len (λ b. b == 10) s
unfolding feed
feed-position s = is_position_or_len feed (λ b. b == 10) refl (λ x xs. search rules) s

feed_le : (s : List ℕ) → feed s ≤ length s
feed_le s = rw feed-position (prefix_len-le-length _ s)

-- an input that is not empty: what is before the first line feed, and the lines of what is behind it
lines-first : (s : List ℕ) → 0 < length s → lines_of s ≡ take (feed s) s ∷ lines_of (drop (feed s + 1) s)
unfolding feed lines_of
lines-first [] h = absurd (omega arith)
lines-first (a ∷ []) h = grind (arith, common_steps)
lines-first (a ∷ b ∷ s) h = by_test (eqb a 10) (lines-first (b ∷ s) (omega arith))
  where
    by_test : (t : Bool) → lines_of (b ∷ s) ≡ take (feed (b ∷ s)) (b ∷ s) ∷ lines_of (drop (feed (b ∷ s) + 1) (b ∷ s))
        → cond t ([] ∷ lines_of (b ∷ s)) (longer a (lines_of (b ∷ s))) ≡ take (cond t 0 (suc (feed (b ∷ s)))) (a ∷ b ∷ s) ∷ lines_of (drop (cond t 0 (suc (feed (b ∷ s))) + 1) (a ∷ b ∷ s))
    by_test true e = refl
    by_test false e = rw (e, add-one (suc (feed (b ∷ s))), add-one (feed (b ∷ s)))

-- a byte that stands in a text stands there still if the text goes on
feed_kept : (s t : List ℕ) → feed s < length s → feed (s ++ t) ≡ feed s
unfolding feed
feed_kept [] t h = absurd (omega arith)
feed_kept (a ∷ s) t h = grind (arith, common_steps, feed_kept s t)

feed_grows : (s t : List ℕ) → feed s ≤ feed (s ++ t)
unfolding feed
feed_grows [] t = omega arith
feed_grows (a ∷ s) t = grind (arith, common_steps, feed_grows s t)

-- the lines behind the first stay, whatever of the first is taken away
later-longer : (a : ℕ) (ls : List (List ℕ)) → later_lines (longer a ls) ≡ later_lines ls
later-longer a ls = search rules

later-drop : (k : ℕ) (s : List ℕ) → k ≤ feed s → later_lines (lines_of (drop k s)) ≡ later_lines (lines_of s)
unfolding feed lines_of
later-drop zero s h = refl
later-drop (suc k) [] h = refl
later-drop (suc k) (a ∷ s) h = grind (arith, common_steps, later-drop k s, later-longer a (lines_of s))

last_line : (s : List ℕ) → feed s ≡ length s → lines_of s ≡ last_of s
unfolding lines_of
last_line [] e = refl
last_line (a ∷ s) e =
    let d : drop (length (a ∷ s) + 1) (a ∷ s) ≡ [] = drop_of_length-le (a ∷ s) {i = length (a ∷ s) + 1} (omega arith) in
    lines-first (a ∷ s) (omega arith) ∙ rw (e, take_all (length (a ∷ s)) (a ∷ s) (omega arith), d)

last_some : (s : List ℕ) → 0 < length s → last_of s ≡ s ∷ []
last_some s h = search rules

-- what the place n of the first line feed of s says of the lines of s and what follows it
module _ (s : List ℕ) (n : ℕ) (e : n ≡ feed s) where
  whole : n < length s → (rest : List ℕ) → lines_of (s ++ rest) ≡ take n s ∷ lines_of (drop (n + 1) s ++ rest)
  whole h rest =
      let l = length-append s rest in
      let i : feed (s ++ rest) ≡ n = feed_kept s rest (omega arith) ∙ sym e in
      lines-first (s ++ rest) (omega arith) ∙ rw (i, take-append-le n s rest (omega arith), drop-append-le (n + 1) s rest (omega arith))

  unended : (limit : ℕ) → length s ≤ n → n ≤ limit → Unended limit s
  unended limit h k = let l = feed_le s in record { short = omega arith; last = last_line s (omega arith) }

  -- the first line has more than k bytes
  first_long : (k : ℕ) → k < n → (rest : List ℕ) → clipped k (lines_of (s ++ rest)) ≡ take (k + 1) s ∷ ahead k true (drop (k + 1) s ++ rest)
  first_long k h rest =
      let l = length-append s rest in
      let m = feed_le s in
      let g = feed_grows s rest in
      let i = feed (s ++ rest) in
      let t : take (k + 1) (take i (s ++ rest)) ≡ take (k + 1) s = take-take (k + 1) i (s ++ rest) (omega arith) ∙ take-append-le (k + 1) s rest (omega arith) in
      let f = lines-first (s ++ rest) (omega arith) in
      let d : later_lines (lines_of (drop (k + 1) s ++ rest)) ≡ lines_of (drop (i + 1) (s ++ rest)) = ap (λ (x : List ℕ). later_lines (lines_of x)) (sym (drop-append-le (k + 1) s rest (omega arith))) ∙ later-drop (k + 1) (s ++ rest) (omega arith) ∙ ap later_lines f in
      ap (λ (x : List (List ℕ)). clipped k x) f ∙ rw (t, d)

  -- the rest of a line that was too long
  skip_whole : n < length s → (rest : List ℕ) → later_lines (lines_of (s ++ rest)) ≡ lines_of (drop (n + 1) s ++ rest)
  skip_whole h rest = ap later_lines (whole h rest)

  skip_part : length s ≤ n → (rest : List ℕ) → later_lines (lines_of (s ++ rest)) ≡ later_lines (lines_of rest)
  skip_part h rest = let g = feed_grows s rest in sym (later-drop (length s) (s ++ rest) (omega arith)) ∙ ap (λ (x : List ℕ). later_lines (lines_of x)) (drop-append_seam s rest)

-- the bytes from..to of a buffer
held_none : (b : List ℕ) (to : ℕ) → held to to b ≡ []
held_none b to = search rules

drop-take : (k m : ℕ) (l : List ℕ) → drop k (take m l) ≡ take (m - k) (drop k l)
drop-take zero m l = grind (arith, common_steps)
drop-take (suc k) zero l = grind (arith, common_steps)
drop-take (suc k) (suc m) [] = grind (arith, common_steps)
drop-take (suc k) (suc m) (x ∷ l) = grind (arith, common_steps, drop-take k m l)

-- those behind the first k
module _ (b : List ℕ) (from to k : ℕ) (s : List ℕ) (e : s ≡ held from to b) where
  rest-held : drop k s ≡ held (from + k) to b
  rest-held =
      let y : to - from - k ≡ to - (from + k) = omega arith in
      rw e (drop-take k (to - from) (drop from b) ∙ rw (drop-drop k from b, y))

-- the place of the first line feed, as the code finds it
feed-some : (s : List ℕ) (n : ℕ) → line_feed s ≡ Some n → (n ≡ feed s) × (n < length s)
feed-some s n e = grind (arith, common_steps, feed-position s)

feed-none : (s : List ℕ) → line_feed s ≡ None → length s ≤ feed s
feed-none s e = grind (arith, common_steps, feed-position s)

-- the rest of a line that was too long is left out
module _ (r : Reader) (b s : List ℕ) (k : r.skips ≡ true) (p : s ≡ held_of r b) where
  pub skips-whole : (n : ℕ) → line_feed s ≡ Some n → Skips r (record r { from = r.from + n + 1; skips = false }) b
  skips-whole n e =
      let f = feed-some s n e in
      let z : r.from + (n + 1) ≡ r.from + n + 1 = omega arith in
      let q : drop (n + 1) s ≡ held (r.from + n + 1) r.to b = rw (← z) (rest-held b r.from r.to (n + 1) s p) in
      let same : (limit : ℕ) (rest : List ℕ) → ahead_of limit r b rest ≡ ahead limit false (held (r.from + n + 1) r.to b ++ rest) = λ limit rest. rw (k, ← p, ← q) (ap (λ (x : List (List ℕ)). clipped limit x) (skip_whole s n f.0 f.1 rest)) in
      let l : length (drop (n + 1) s) ≡ length s - (n + 1) = length-drop (n + 1) s in
      let w : length (held (r.from + n + 1) r.to b) ≤ length (held_of r b) = rw (← q, ← p) (omega arith) in
      record { same = same; fewer = w; ended = refl; empty = λ x. cc }

  pub skips-part : line_feed s ≡ None → Skips r (record r { from = r.to }) b
  skips-part e =
      let same : (limit : ℕ) (rest : List ℕ) → ahead_of limit r b rest ≡ ahead limit r.skips (held r.to r.to b ++ rest) = λ limit rest. rw (k, ← p, held_none b r.to) (ap (λ (x : List (List ℕ)). clipped limit x) (skip_part s (feed s) refl (feed-none s e) rest)) in
      let f : length (held r.to r.to b) ≤ length (held_of r b) = rw (held_none b r.to) (omega arith) in
      record { same = same; fewer = f; ended = refl; empty = λ x. held_none b r.to }

nothing-ahead : (limit : ℕ) (k : Bool) → ahead limit k [] ≡ []
unfolding lines_of
nothing-ahead limit k = search rules

nothing-unended : (limit : ℕ) → Unended limit []
unfolding lines_of
nothing-unended limit = search rules

-- what is taken of what the reader k holds, which left out the rest of a line that was too long
module _ (limit : ℕ) (r k : Reader) (b : List ℕ) (S : Skips r k b) where
  -- nothing is held
  pub takes-empty : held_of k b ≡ [] → TakesNone limit r k b
  takes-empty e =
      record { same = S.same limit; waits = rw e (nothing-unended limit); none = λ x. S.same limit [] ∙ rw e (nothing-ahead limit k.skips); ended = S.ended }

  module _ (s : List ℕ) (f : k.skips ≡ false) (p : s ≡ held_of k b) where
    -- a line above the limit
    takes_long : limit < feed s → TakesLine limit r (record k { from = k.from + (limit + 1); skips = true }) (take (limit + 1) s) b
    takes_long h =
        let i = feed_le s in
        let v = S.fewer in
        let q = rest-held b k.from k.to (limit + 1) s p in
        let l : length (drop (limit + 1) s) ≡ length s - (limit + 1) = length-drop (limit + 1) s in
        let w : length (held (k.from + (limit + 1)) k.to b) < length (held_of k b) = rw (← q, ← p) (omega arith) in
        record { line = λ rest y. S.same limit rest ∙ rw (f, ← p, ← q) (first_long s (feed s) refl limit h rest); fewer = omega arith; ended = S.ended }

    pub takes_long-some : (n : ℕ) → line_feed s ≡ Some n → limit < n → TakesLine limit r (record k { from = k.from + (limit + 1); skips = true }) (take (limit + 1) s) b
    takes_long-some n e h = let i = feed-some s n e in takes_long (omega arith)

    pub takes_long-none : line_feed s ≡ None → limit < length s → TakesLine limit r (record k { from = k.from + (limit + 1); skips = true }) (take (limit + 1) s) b
    takes_long-none e h = let i = feed-none s e in takes_long (omega arith)

    -- a line and its line feed
    pub takes_whole : (n : ℕ) → line_feed s ≡ Some n → n ≤ limit → TakesLine limit r (record k { from = k.from + (n + 1) }) (take n s) b
    takes_whole n e g =
        let i = feed-some s n e in
        let v = S.fewer in
        let q : drop (n + 1) s ≡ held (k.from + (n + 1)) k.to b = rest-held b k.from k.to (n + 1) s p in
        let l : length (drop (n + 1) s) ≡ length s - (n + 1) = length-drop (n + 1) s in
        let w : length (held (k.from + (n + 1)) k.to b) < length (held_of k b) = rw (← q, ← p) (omega arith) in
        let m : length (take n s) ≡ n = length-take-le n s (omega arith) in
        let t : take (limit + 1) (take n s) ≡ take n s = take_all (limit + 1) (take n s) (omega arith) in
        record { line = λ rest y. S.same limit rest ∙ rw (f, ← p, ← q) (ap (λ (ls : List (List ℕ)). clipped limit ls) (whole s n i.0 i.1 rest) ∙ rw t); fewer = omega arith; ended = S.ended }

    -- no line feed: nothing is held, more may come, or these bytes are the last line
    module _ (e : line_feed s ≡ None) (g : length s ≤ limit) where
      held_unended : Unended limit s
      held_unended = let i = feed-none s e in let j = feed_le s in unended s (feed s) refl limit i (omega arith)

      pub takes_part : (0 < length s → k.ended ≡ false) → TakesNone limit r k b
      takes_part y =
          let none : k.ended ≡ true → s ≡ [] = λ x. nil_from_length s (grind arith) in
          record {
            same = S.same limit;
            waits = rw (← p) held_unended;
            none = λ x. let z = S.ended in S.same limit [] ∙ rw (← p, none (z ∙ x)) (nothing-ahead limit k.skips);
            ended = S.ended;
          }

      pub takes-end : 0 < length s → k.ended ≡ true → TakesLine limit r (record k { from = k.to }) s b
      takes-end z y =
          let v = S.fewer in
          let d = held_none b k.to in
          let w : length (held k.to k.to b) < length (held_of k b) = rw (d, ← p) (omega arith) in
          let t : take (limit + 1) s ≡ s = take_all (limit + 1) s (omega arith) in
          let l : ahead limit false s ≡ s ∷ [] = ap (λ (ls : List (List ℕ)). clipped limit ls) (held_unended.last ∙ last_some s (omega arith)) ∙ rw t in
          record {
            line = λ rest m. let o = S.ended in S.same limit rest ∙ rw (f, m (sym o ∙ y), d, append-nil (held_of k b), ← p, nothing-ahead limit false) l;
            fewer = omega arith;
            ended = S.ended;
          }

-- What is read behind the bytes that are held.
use borrow.Author.Rules.{rules}
use Rattle.std.specs.Prelude.{Option, Result}
use Rattle.std.proofs.Common.{◌≡◌, refl, sym, ◌∙◌, ap, true, false, ℕ, ◌+◌, ◌-◌, ◌≤◌, ◌<◌, nat_eq, List, [], ◌++◌, length, take, drop, arith, length-append}
use Rattle.std.specs.Result.{result_unwrap_or}
use Rattle.std.specs.Io.KnownBytes.{Consumes, ReadConsumes}
use borrow.Author.Tests.{eqb-true, eqb-false}
use borrow.Rule.Slice.PartMut.{put_mid}
use lib.Seq.{take-add, take_at, drop_at, take-take, length-take-le}
use Rattle.std.proofs.lemmas.Slice.{take-put_mid}
use Rattle.lines.specs.declared.Reader.{Reader}
use Rattle.lines.specs.Reading.{held, held_of, moved_of, More}

-- a read that failed gave nothing
consumed : {E : Type 0} (old new : Option (List ℕ)) (r : Result ℕ E) (y : List ℕ) → ReadConsumes old new r y → Consumes old new (take (result_unwrap_or r 0) y)
consumed old new r y c = search rules

-- m bytes are read behind the first n
behind : (d y : List ℕ) (n m k : ℕ) → n ≤ length d → m ≤ length y → take (n + m) (put_mid n k d y) ≡ take n d ++ take m y
behind d y n m k h l =
    let e : length (take n d) ≡ n = length-take-le n d h in
    sym (take-take (n + m) (n + length y) (put_mid n k d y) (omega arith)) ∙ ap (λ s. take (n + m) s) (take-put_mid n k d y (n + length y) refl h) ∙ take-add n m (take n d ++ y) ∙ rw (take_at (take n d) y n e, drop_at (take n d) y n e)

-- what is read behind the bytes that were moved leaves them
module _ {E : Type 0} (r k : Reader) (b d y : List ℕ) (e : k ≡ moved_of r (length (held_of r b))) (f : d ≡ held_of r b ++ drop k.to b) (q : Result ℕ E) (l : result_unwrap_or q 0 ≤ length y) where
  pub reads-more : (n : ℕ) → n ≡ result_unwrap_or q 0 → (old new : Option (List ℕ)) → ReadConsumes old new q y → (x : More r (record { from = k.from; to = k.to + n; ended = nat_eq n 0; skips = k.skips }) b (put_mid k.to (length d - k.to) d y)) × Consumes old new x.piece
  reads-more n z old new c = (record { piece = take n y; bytes = bytes; skips = ap (λ (x : Reader). x.skips) e; last = last; onward = onward }, rw z (consumed old new q y c))
    where
      fits : k.to ≤ length d
      fits = let t = ap (λ (x : Reader). x.to) e in rw (f, length-append) (omega arith)

      first : take k.to d ≡ held_of r b
      first = rw f (take_at (held_of r b) (drop k.to b) k.to (sym (ap (λ (x : Reader). x.to) e)))

      bytes : held k.from (k.to + n) (put_mid k.to (length d - k.to) d y) ≡ held_of r b ++ take n y
      bytes = let o : k.from ≡ 0 = ap (λ (x : Reader). x.from) e in let m : k.to + n - 0 ≡ k.to + n = omega arith in rw (o, m) (behind d y k.to n (length d - k.to) fits (rw z l) ∙ rw first)

      last : nat_eq n 0 ≡ true → take n y ≡ []
      last x = let w : n ≡ 0 = eqb-true n 0 x in rw w

      onward : nat_eq n 0 ≡ false → 0 < length (take n y)
      onward x = let w = eqb-false n 0 x in let p = length-take-le n y (omega arith) in omega arith

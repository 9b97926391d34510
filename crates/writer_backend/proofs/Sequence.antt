-- Pieces one after another: to the first refusal, or each tried with the first refusal held.
use mathlib.Core.Bool.{Bool, true, false, cond, false≢true}
use mathlib.Core.Path.{◌≡◌, refl, sym, ap, ◌∙◌}
use mathlib.Core.List.{List, [], ◌∷◌}
use Prim.Native.Nat.{ℕ, zero, suc, ◌+◌, ◌-◌, ◌≤◌}
use native.Mathlib.Nat.{add-zero, add_assoc}
use native.Mathlib.Omega.{arith}
use lib.Dec.{ltb}
use lib.ListN.{length}
use borrow.Author.Tests.{le-ltb, ltb-false}
use Rattle.std.proofs.Common.{Option, Some, None, Ok, Err}
use Rattle.std.specs.Option.{unwrap_or}
use Rattle.std.specs.Result.{is_ok}
use Rattle.calls.specs.declared.Kind.{Kind}
use Rattle.calls.specs.Call.{Place, separator, place_pieces, label_pieces, hold}
use Rattle.error.specs.declared.Error.{Error}
use Rattle.error.specs.declared.Error.TheVariants.{NotEnoughSpace, NotAscii, NotOnCharBoundary, NotUtf8, NotAChar, CountTooLarge, TooDeep, WrongCall, BadCursor}
use Rattle.error.specs.Answer.{Answer, number_of, answer_number}
use Rattle.calls.specs.Model.{Mode, Output, PieceOutcome, counting, writing, to, most, wrote, put_in, put, tries}
use Rattle.writer_backend.specs.declared.pieces.WriterBackend.{WriterBackend}
use Rattle.writer_backend.specs.Output.{mode_of, added, output_of, put_out, held_of, held_number, held_out}
use Rattle.str_writer.specs.Write.{Outcome, placed}
use Rattle.writer_backend.specs.Pieces.{try_on, try_all, length_of, margin_pieces}

hold-hold : (a b c : ℕ) → hold (hold a b) c ≡ hold a (hold b c)
hold-hold zero b c = refl
hold-hold (suc a) b c = refl

pub hold-zero : (a : ℕ) → hold a 0 ≡ a
hold-zero zero = refl
hold-zero (suc a) = refl

-- what goes before a field or an entry: the separator, the margin, the label
module _ (k : Kind) (n : ℕ) (x : Place) where
  pieces_by : (p : PieceOutcome) (has alt : Bool) → try_all (try_all (try_on p (separator k has alt)) (margin_pieces alt n)) (label_pieces x) ≡ try_all p (place_pieces k has alt n x)
  pieces_by p true true = refl
  pieces_by p true false = refl
  pieces_by p false true = refl
  pieces_by p false false = refl

  pub pieces-tried : (p : PieceOutcome) (has alt : Bool) {s : List ℕ} {a b r : PieceOutcome} → s ≡ separator k has alt → a ≡ try_on p s → b ≡ try_all a (margin_pieces alt n) → r ≡ try_all b (label_pieces x) → r ≡ try_all p (place_pieces k has alt n x)
  pieces-tried p has alt e f g h = rw (h, g, f, e) (pieces_by p has alt)

-- a piece answers 0, 1 or 6: what a builder holds of it is what it answers
abbrev wrote_number : Outcome → ℕ
wrote_number o = (wrote o).answer

pub put_held : (d : Output) (t : List ℕ) → held_of (put d t).answer ≡ (put d t).answer
unfolding placed
put_held d t = by_mode d.mode
  where
    counted : (x : Bool) (m n : Mode) → held_of (cond x (to m d.bytes 6) (to n d.bytes 0)).answer ≡ (cond x (to m d.bytes 6) (to n d.bytes 0)).answer
    counted true m n = refl
    counted false m n = refl

    written : (x : Bool) (o p : Outcome) → wrote_number o ≡ 1 → wrote_number p ≡ 0 → held_of (wrote (cond x o p)).answer ≡ (wrote (cond x o p)).answer
    written true o p e f = rw e
    written false o p e f = rw f

    by_mode : (m : Mode) → held_of (put_in m d.bytes t).answer ≡ (put_in m d.bytes t).answer
    by_mode (counting n) = counted (ltb most (n + length t)) (counting n) (counting (n + length t))
    by_mode (writing c) = written (ltb (length d.bytes) (c + length t)) _ _ refl refl

-- pieces tried by a total that has room for them all add the sum of their lengths
counted : (n : ℕ) (b : List ℕ) (a : ℕ) (ss : List (List ℕ)) → n + length_of ss ≤ most → try_all (to (counting n) b a) ss ≡ to (counting (n + length_of ss)) b a
unfolding try_on
counted n b a [] h = rw add-zero
counted n b a (s ∷ ss) h = rw (le-ltb most (n + length s) (omega arith), hold-zero a, counted (n + length s) b a ss (omega arith), add_assoc)

pub tries-count : (w : WriterBackend) (b : List ℕ) (a : ℕ) (ss : List (List ℕ)) → mode_of w ≡ counting w.number → {n : ℕ} → n ≡ length_of ss → w.number + n ≤ most
    → to (counting (w.number + n)) b a ≡ try_all (to (mode_of w) b a) ss
tries-count w b a ss e l h = rw (e, counted w.number b a ss (omega arith), l)

-- an error is no number 0
pub error_number : (e : Error) → number_of e ≡ suc (number_of e - 1)
error_number NotEnoughSpace = refl
error_number NotAscii = refl
error_number NotOnCharBoundary = refl
error_number NotUtf8 = refl
error_number NotAChar = refl
error_number CountTooLarge = refl
error_number TooDeep = refl
error_number WrongCall = refl
error_number BadCursor = refl

-- a length added to a total: it fits, or the total is kept
module _ (w w' : WriterBackend) (b : List ℕ) (n : ℕ) (r : Answer) (e : mode_of w ≡ counting w.number) (p : put_out r w' b ≡ added (mode_of w) b n) where
  added_ok : true ≡ is_ok r → (w.number + n ≤ most) × (mode_of w' ≡ counting (w.number + n))
  added_ok t = go r (ltb most (w.number + n)) refl t (rw e at p)
    where
      go : (r : Answer) (x : Bool) → ltb most (w.number + n) ≡ x → true ≡ is_ok r → put_out r w' b ≡ cond x (to (counting w.number) b 6) (to (counting (w.number + n)) b 0)
          → (w.number + n ≤ most) × (mode_of w' ≡ counting (w.number + n))
      go (Ok u) true l t q = absurd (omega (arith, ap (λ (o : PieceOutcome). o.answer) q))
      go (Ok u) false l t q = (omega (arith, ltb-false most (w.number + n) l), ap (λ (o : PieceOutcome). o.output.mode) q)
      go (Err x) b l t q = absurd (false≢true (sym t))

  pub added_err : false ≡ is_ok r → output_of w' b ≡ output_of w b
  added_err t = go r (ltb most (w.number + n)) t (rw e at p)
    where
      go : (r : Answer) (x : Bool) → false ≡ is_ok r → put_out r w' b ≡ cond x (to (counting w.number) b 6) (to (counting (w.number + n)) b 0) → output_of w' b ≡ output_of w b
      go (Ok u) x t q = absurd (false≢true t)
      go (Err x) true t q = rw e (ap (λ (o : PieceOutcome). o.output) q)
      go (Err x) false t q = absurd (omega (arith, error_number x, ap (λ (o : PieceOutcome). o.answer) q))

  pub tries_added : (h : Option Error) (ss : List (List ℕ)) → n ≡ length_of ss → true ≡ is_ok r → held_out h w' b ≡ try_all (held_out h w b) ss
  tries_added h ss l t = let k = added_ok t in rw k.1 (tries-count w b (held_number h) ss e l k.0)

-- pieces tried from a refusal already held are the model's, with that refusal first
pub tried : (a : ℕ) (d : Output) (ss : List (List ℕ)) → try_all (record { answer = a; output = d }) ss ≡ record { answer = hold a (tries d ss).answer; output = (tries d ss).output }
unfolding try_on
tried a d [] = λ i. record { answer = sym (hold-zero a) i; output = d }
tried a d (s ∷ ss) =
    tried (hold a (put d s).answer) (put d s).output ss
    ∙ λ i. record { answer = hold-hold a (put d s).answer (tries (put d s).output ss).answer i; output = (tries (put d s).output ss).output }

-- the first refusal is held
pub first_held : (h : Option Error) (e x : Error) → x ≡ unwrap_or h e → held_number (Some x) ≡ hold (held_number h) (held_of (number_of e))
first_held None e x p = rw p
first_held (Some y) e x p = rw (p, error_number y) (above (number_of y - 1) (held_of (number_of e)))
  where
    above : (n a : ℕ) → held_of (suc n) ≡ hold (held_of (suc n)) a
    above zero a = refl
    above (suc n) a = refl

-- a piece tried after others: the first refusal is held
pub holds_tried : (h h' : Option Error) (w w' : WriterBackend) (b b' s : List ℕ) (r : Answer) → put_out r w' b' ≡ put (output_of w b) s → held_number h' ≡ hold (held_number h) (held_of (answer_number r)) → held_out h' w' b' ≡ try_on (held_out h w b) s
unfolding try_on
holds_tried h h' w w' b b' s r e q =
    let q' : answer_number r ≡ (put (output_of w b) s).answer = ap (λ (o : PieceOutcome). o.answer) e in
    rw (← e, q) (ap (λ x. record { answer = hold (held_number h) x; output = output_of w' b' }) (rw q' (put_held (output_of w b) s)))

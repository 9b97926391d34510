-- Whatever the pieces, what is written is what is to be printed, or a beginning of it: the theorems `PlaysRight` and `BreaksOffRight` for every program.
use Rattle.std.proofs.lemmas.Grind.{common_steps}
use native.Mathlib.Omega.{arith}
use mathlib.Core.Bool.{true, false}
use mathlib.Core.Path.{◌≡◌, refl, ap, sym, ◌∙◌}
use mathlib.Core.List.{List, [], ◌∷◌, ◌++◌, append-nil}
use Prim.Native.Nat.{ℕ}
use Rattle.lines.specs.declared.Reader.{Reader}
use Rattle.lines.specs.Lines.{lines_of, clipped}
use Rattle.lines.specs.Reading.{ahead, ahead_of, MayFollow, TakesLine, TakesNone}
use Rattle.lines.specs.Played.{At, standing, remains, Over, answers, ends, awaits, Steps, joined, Plays, rests, steps, reads, writes, PlaysRight, BreaksOffRight, MorePlays}

module _ {S : Type 0} (left : S → List (List ℕ) → List ℕ) (limit : ℕ) where
  -- an input that has ended gives no more pieces
  no_more : {a b : At S} {ins outs : List (List ℕ)} → Plays left limit a ins outs b → a.ended ≡ true → (b.ended ≡ true) × (joined ins ≡ [])
  no_more rests e = (e, refl)
  no_more (steps w t q) e = no_more q (t.ended ∙ e)
  no_more (reads piece end z q) e = cc
  no_more (writes q) e = no_more q e

  -- from anywhere on, what is written and what then remains is what remained
  all : {a b : At S} {ins outs : List (List ℕ)} → Plays left limit a ins outs b → (rest : List ℕ) → MayFollow b.ended rest → joined outs ++ remains left limit b rest ≡ remains left limit a (joined ins ++ rest)
  all rests rest m = refl
  all {a} {b} {ins} (steps w t q) rest m = all q rest m ∙ t.prints (joined ins ++ rest) (λ y. let d = no_more q (t.ended ∙ y) in rw (d.1, m d.0))
  all (reads {s} {h} {k} {p} {c} {ins} piece end z q) rest m = grind (arith, common_steps, all q rest m)
  all (writes {s} {h} {k} {p} {e} {c} {ins} {outs} q) rest m = grind (arith, common_steps, all q rest m)

  pub breaks_off_right : (s : S) → BreaksOffRight left limit s
  breaks_off_right s ins outs b p rest m = all p rest m

  pub plays_right : (s : S) → PlaysRight left limit s
  plays_right s ins outs b p d =
      let e : remains left limit b [] ≡ [] = rw (d.1, d.0 (ahead limit b.skips (b.bytes ++ []))) in
      sym (append-nil (joined outs)) ∙ ap (λ (x : List ℕ). joined outs ++ x) (sym e) ∙ all p [] (λ y. refl) ∙ ap (λ (x : List ℕ). left s (clipped limit (lines_of x))) (append-nil (joined ins))

  pub more_plays : MorePlays left limit
  more_plays s r k before after p m b ins outs e q = rw e (reads m.piece k.ended m.last (rw (m.bytes, m.skips) at q))

  -- what a program does with what the reader gives
  module _ (s : S) (r k : Reader) (b p : List ℕ) where
    -- it answers a line
    pub line-steps : (l : List ℕ) → TakesLine limit r k l b → (s' : S) (p' : List ℕ) → ((ls : List (List ℕ)) → p' ++ left s' ls ≡ p ++ left s (l ∷ ls)) → Steps left limit false (standing s r b p) (standing s' k b p')
    line-steps l t s' p' f =
        record {
          prints = λ rest m. f (ahead_of limit k b rest) ∙ ap (λ (ls : List (List ℕ)). p ++ left s ls) (sym (t.line rest m));
          ended = t.ended;
          onward = answers t.fewer;
        }

    module _ (t : TakesNone limit r k b) where
      -- it waits for more
      pub wait_steps : r.ended ≡ false → Steps left limit true (standing s r b p) (standing s k b p)
      wait_steps h =
          record {
            prints = λ rest m. ap (λ (ls : List (List ℕ)). p ++ left s ls) (sym (t.same rest));
            ended = t.ended;
            onward = awaits t.waits h;
          }

      -- it ends with its input
      pub end-steps : r.ended ≡ true → (s' : S) (p' : List ℕ) → Over left s' → p' ≡ p ++ left s [] → Steps left limit false (standing s r b p) (standing s' k b p')
      end-steps h s' p' o f =
          record {
            prints = λ rest m. rw (o (ahead_of limit k b rest), append-nil p', m h) (f ∙ ap (λ (ls : List (List ℕ)). p ++ left s ls) (sym (t.none h)));
            ended = t.ended;
            onward = ends o;
          }

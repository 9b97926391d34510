-- A program that answers lines: those that it answered, and those that are still to be taken, are the lines of what it has read.
use Rattle.std.proofs.lemmas.Grind.{common_steps}
use borrow.Author.Rules.{rules}
use native.Mathlib.Omega.{arith}
use Rattle.std.specs.Prelude.{Option}
use Rattle.std.proofs.Common.{◌≡◌, refl, sym, ◌∙◌, ap, false, true, ℕ, List, [], ◌∷◌, ◌++◌}
use Rattle.std.specs.Io.KnownBytes.{Consumes, Appends}
use mathlib.Core.List.{append_assoc, append-nil}
use Rattle.lines.specs.declared.Reader.{Reader}
use Rattle.lines.specs.Lines.{lines_of, clipped, max_line}
use Rattle.lines.specs.Reading.{held_of, ahead_of, MayFollow, TakesLine, TakesNone, More}
use Rattle.line_input.specs.Answered.{Answered, none, more}

pub consumes_none : (R : Option (List ℕ)) → Consumes R R []
consumes_none R = search rules

pub consumes-then : (A B C : Option (List ℕ)) (x y : List ℕ) → Consumes A B x → Consumes B C y → Consumes A C (x ++ y)
consumes-then A B C x y p q = grind (arith, common_steps)

pub appends_none : (W : Option (List ℕ)) → Appends W W []
appends_none W = search rules

pub appends-then : (A B C : Option (List ℕ)) (x y : List ℕ) → Appends A B x → Appends B C y → Appends A C (x ++ y)
appends-then A B C x y p q = grind (arith, common_steps)

module _ {S : Type 0} (gives : S → List ℕ → List ℕ → S → Type 0) where
  -- one line more
  answered-then : {s t u : S} {ls : List (List ℕ)} {printed : List ℕ} (l text : List ℕ) → Answered gives s ls printed t → gives t l text u → Answered gives s (ls ++ (l ∷ [])) (printed ++ text) u
  answered-then {s} {t} {u} l text none g = let a : Answered gives s (l ∷ []) (text ++ []) u = more g none in rw (append-nil text) at a
  answered-then l text (more {text = x} {printed = y} h a) g = rw (append_assoc x y text) (more h (answered-then l text a g))

  pub record Going (R₀ R W₀ W : Option (List ℕ)) (s₀ s : S) (r : Reader) (space : List ℕ) : Type 0 where
    pub read : List ℕ
    pub printed : List ℕ
    pub lines : List (List ℕ)
    pub consumes : Consumes R₀ R read
    pub appends : Appends W₀ W printed
    pub answered : Answered gives s₀ lines printed s
    pub right : (rest : List ℕ) → MayFollow r.ended rest → clipped max_line (lines_of (read ++ rest)) ≡ lines ++ ahead_of max_line r space rest

  pub going-begins : (R W : Option (List ℕ)) (s : S) (r : Reader) (space : List ℕ) → r ≡ record { from = 0; to = 0; ended = false; skips = false } → Going R R W W s s r space
  going-begins R W s r space e =
      rw e (record { read = []; printed = []; lines = []; consumes = consumes_none R; appends = appends_none W; answered = none; right = λ rest m. refl })

  module _ (R₀ R W₀ W : Option (List ℕ)) (s₀ s : S) (r k : Reader) (b : List ℕ) (g : Going R₀ R W₀ W s₀ s r b) where
    pub going-answers : (l : List ℕ) → TakesLine max_line r k l b → (text : List ℕ) (t : S) → gives s l text t → (W' : Option (List ℕ)) → Appends W W' text → Going R₀ R W₀ W' s₀ t k b
    going-answers l h text t a W' p =
        record {
          read = g.read;
          printed = g.printed ++ text;
          lines = g.lines ++ (l ∷ []);
          consumes = g.consumes;
          appends = appends-then W₀ W W' g.printed text g.appends p;
          answered = answered-then l text g.answered a;
          right = λ rest m.
              let n : MayFollow r.ended rest = λ e. m (h.ended ∙ e) in
              g.right rest n ∙ ap (λ z. g.lines ++ z) (h.line rest n) ∙ sym (append_assoc g.lines (l ∷ []) (ahead_of max_line k b rest));
        }

    pub going-reads : TakesNone max_line r k b → k.ended ≡ false → (R' : Option (List ℕ)) (q : Reader) (c : List ℕ) (m : More k q b c) → Consumes R R' m.piece → Going R₀ R' W₀ W s₀ s q c
    going-reads h e R' q c m p =
        record {
          read = g.read ++ m.piece;
          printed = g.printed;
          lines = g.lines;
          consumes = consumes-then R₀ R R' g.read m.piece g.consumes p;
          appends = g.appends;
          answered = g.answered;
          right = λ rest f.
              let n : MayFollow r.ended (m.piece ++ rest) = λ x. cc (h.ended) in
              rw (append_assoc g.read m.piece rest, m.bytes, m.skips, append_assoc (held_of k b) m.piece rest) (g.right (m.piece ++ rest) n ∙ ap (λ z. g.lines ++ z) (h.same (m.piece ++ rest)));
        }

    pub going-ends : TakesNone max_line r k b → k.ended ≡ true → (read : List ℕ) × (printed : List ℕ) × Consumes R₀ R read × Answered gives s₀ (clipped max_line (lines_of read)) printed s × Appends W₀ W printed
    going-ends h e = search rules

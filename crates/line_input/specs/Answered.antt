-- The lines of an input answered one after another.
use Rattle.std.specs.Prelude.{List, [], ◌∷◌, ◌++◌, ℕ}

-- from the first state to the last, the lines give what is printed, where each one gives its text
pub data Answered {S : Type 0} (gives : S → List ℕ → List ℕ → S → Type 0) : S → List (List ℕ) → List ℕ → S → Type 0 where
  none : {s : S} → Answered gives s [] [] s
  more : {s t u : S} {l text : List ℕ} {ls : List (List ℕ)} {printed : List ℕ} → gives s l text t → Answered gives t ls printed u → Answered gives s (l ∷ ls) (text ++ printed) u

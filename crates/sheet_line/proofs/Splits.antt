-- A line of more fields than are read.
use Rattle.std.proofs.Common.{◌≡◌, List, [], ◌∷◌, ℕ, length, refl, ap, arith}
use Rattle.std.specs.Prelude.{Option, Some, None, MatchOption}
use Rattle.std.specs.Option.{is_some}
use mathlib.Core.Bool.{true, true≢false}
use denote.Ref.{Bor}
use Rattle.std.proofs.lemmas.List.Splits.{length-slice_split}
use Rattle.fields.specs.Fields.{is_comma, fields, IsOneField, BeginsWithField}
use Rattle.sheet_line.specs.Begin.{flag_fields}
use Rattle.sheet_line.specs.Line.{call_fields}

-- there is always a field
fields-some : (s : List ℕ) → fields s ≡ [] → ⊥
unfolding fields
fields-some s e = let l = ap (λ (fs : List (List ℕ)). length fs) e in omega (arith, length-slice_split is_comma s)

-- a field behind those that are read
module _ (s before behind : List ℕ) (h : BeginsWithField s before behind) where
  pub flags_many : (b d : List ℕ) → None ≡ flag_fields (b ∷ d ∷ fields s)
  flags_many b d = rw h.all (by_cases (fields behind) (fields-some behind))
    where
      by_cases : (fs : List (List ℕ)) → (fs ≡ [] → ⊥) → None ≡ flag_fields (b ∷ d ∷ before ∷ fs)
      by_cases [] e = absurd (e refl)
      by_cases (f ∷ fs) e = refl

  pub call_many : (w a : List ℕ) → None ≡ call_fields (w ∷ a ∷ fields s)
  call_many w a = rw h.all (by_cases (fields behind) (fields-some behind))
    where
      by_cases : (fs : List (List ℕ)) → (fs ≡ [] → ⊥) → None ≡ call_fields (w ∷ a ∷ before ∷ fs)
      by_cases [] e = absurd (e refl)
      by_cases (f ∷ fs) e = refl

-- the same, where the code only tests for one
pub flags_more : (s b d : List ℕ) (o : Option (Bor (List ℕ) × Bor (List ℕ))) → MatchOption o (IsOneField s) (λ p. BeginsWithField s p.0.now p.1.now) → true ≡ is_some o → None ≡ flag_fields (b ∷ d ∷ fields s)
flags_more s b d None h e = absurd (true≢false e)
flags_more s b d (Some p) h e = flags_many s p.0.now p.1.now h b d

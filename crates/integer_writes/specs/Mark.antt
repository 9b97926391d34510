-- Document 01, 'A number': what stands before the digits.
use Rattle.std.specs.Prelude.{ℕ, List, [], ◌∷◌}
use Rattle.integer_writes.specs.declared.number.Mark.{Mark}
use Rattle.integer_writes.specs.declared.number.Mark.TheVariants.{Nothing, Minus, Prefix}

-- 'A number': a minus below zero; alternate puts `0x` or `0b` before
abbrev pub mark_text : Mark → List ℕ
mark_text Nothing = []
mark_text Minus = 45 ∷ []
mark_text (Prefix x) = 48 ∷ x ∷ []

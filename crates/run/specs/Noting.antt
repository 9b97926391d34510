-- What is noted of the first refusal while a run is played; only functions inside this crate speak of it.
use Rattle.std.specs.Prelude.{ℕ, Option, Some, None, Ok, Err}
use Rattle.error.specs.Answer.{Answer}
use Rattle.run.specs.declared.Refusal.{Refusal}

-- docs/DECISIONS.md, 'The formatter': what a run was refused with first, once call k has the answer x
abbrev pub noted : Option Refusal → Answer → ℕ → Option Refusal
noted None (Ok u) k = None
noted None (Err e) k = Some (record { error = e; place = k })
noted (Some f) x k = Some f

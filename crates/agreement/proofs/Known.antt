-- A run that meets what demand 3 asks of it.
use mathlib.Core.Path.{refl}
use Rattle.str_writer.specs.Value.{cut_fault}
pub use Rattle.calls.proofs.Known.{sheet}
use Rattle.calls.proofs.Known.{plain, sheet-permitted, sheet-closed}
use Rattle.agreement.specs.Agreement.{Proper}

pub sheet_proper : Proper plain sheet
unfolding cut_fault
sheet_proper = record { permitted = sheet-permitted; closed = sheet-closed; whole = (refl, (refl, (refl, (refl, tt)))) }

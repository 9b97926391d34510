-- Every starred pair holds, by computing.
use mathlib.Core.Path.{refl}
use mathlib.Core.List.{flatten}
use Rattle.formatting.specs.Escape.{escape_of, escaped}
use Rattle.utf8.specs.Utf8.{octets, follow, continues}
use Rattle.pwrapper.specs.Digits.{digits_in, digits, digit_text}
use Rattle.str_writer.specs.Value.{text_of, input_fault, cut_fault}
use Rattle.str_writer.specs.Write.{placed}
use Rattle.known_pairs.specs.Pairs.{pairs, Hold}

pub known : Hold pairs
unfolding pairs octets follow continues escape_of escaped digits_in digits digit_text text_of input_fault cut_fault placed flatten
known = (refl, (refl, (refl, (refl, (refl, (refl, (refl, (refl, (refl, (refl, (refl, (refl, (refl, (refl, tt))))))))))))))

use Rattle.std.proofs.Common.{rules, tests}
use Rattle.std.specs.Str.{bytes_eq}
use Rattle.std.proofs.lemmas.Iterator.Splits.{YieldsList-from_slice_split}
use Rattle.std.proofs.lemmas.Iterator.Search.{position_from_yields_List}
use Rattle.fields.specs.Fields.{is_comma, fields}
use Rattle.fields.proofs.words.place_of.Goals as goal

pub returns : goal.returns
unfolding fields
returns c =
    position_from_yields_List (λ f. bytes_eq f c.args.word.now) _ _ _ c.position.ensures.ran
    (YieldsList-from_slice_split _ is_comma c.args.list.now c.split.ensures.rest c.split.ensures.done c.split.ensures.closure (λ x b q k. search (rules, tests)))
    (λ x b q k. search (rules, tests))

use Rattle.std.proofs.lemmas.Grind.{common_steps}
use Rattle.fields.specs.Hex.{hex_bytes, is_hex}
use Rattle.std.proofs.Common.{◌≡◌, sym, ◌∙◌, refl, arith, rules}
use Rattle.fields.proofs.Pairs.{bytes-length, fill_end}
use Rattle.fields.proofs.hex.fill.Goals as goal

pub loop-i-init : goal.loop-i-init
loop-i-init c =
    let rest : c.into_iter-i-iterator.result.iter.rest.now ≡ c.args.s.now = cc in
    let count : c.into_iter-i-iterator.result.count ≡ 0 = cc in
    let l = bytes-length c.args.s.now in
    (search rules, search rules, search rules, rw rest c.requires.0, rw (rest, count) (omega arith), refl, rw (rest, count))

pub hex_value-requires : goal.hex_value-requires
unfolding hex_bytes is_hex
hex_value-requires c = grind (arith, common_steps)

pub hex_value-requires-in-loop-i : goal.hex_value-requires-in-loop-i
unfolding hex_bytes is_hex
hex_value-requires-in-loop-i c = grind (arith, common_steps)

pub loop-i-preserved : goal.loop-i-preserved
unfolding hex_bytes is_hex
loop-i-preserved c = grind (arith, common_steps)

pub returns : goal.returns
returns c =
    let chunk = c.in-None.ensures.steps.0 in
    sym (fill_end c.loop-i.out _ _ (omega (arith, chunk.1.0, c.loop-i.invariant.2))) ∙ c.loop-i.invariant.6

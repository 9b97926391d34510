use mathlib.Core.Path.{refl, ◌∙◌}
use lib.ListN.{length}
use Rattle.formatting.specs.Escape.{quoted}
use Rattle.utils.specs.Text.{part}
use Rattle.value_writes.proofs.ValueLaws.{quoted_counted, emits_len, clamped_length}
use Rattle.value_writes.proofs.add_string.Goals as goal

pub returns-in-Display : goal.returns-in-Display
returns-in-Display c b = let a = c.args in
    let q = c.saturate_range-start in
    rw c.in-Display.is (c.add_len.ensures b ∙ emits_len a.writer.now refl c.requires b (part a.s.now a.range) (clamped_length a.s.now a.range q.result q.ensures))

pub returns-in_ok-len-in-Debug : goal.returns-in_ok-len-in-Debug
returns-in_ok-len-in-Debug c b = let a = c.args in
    let t = quoted (part a.s.now a.range) in
    rw c.in-Debug.is (c.add_len-in-Debug.ensures b ∙ emits_len a.writer.now refl c.requires b t (quoted_counted (length t) _ c.in_ok-len-in-Debug.ensures))

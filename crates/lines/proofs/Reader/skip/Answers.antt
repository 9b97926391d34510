use Rattle.std.proofs.Common.{sym, ◌∙◌}
use Rattle.lines.proofs.Laws.{skips-whole, skips-part}
use Rattle.lines.proofs.Reader.skip.Goals as goal

pub returns-in-Some : goal.returns-in-Some
returns-in-Some c = skips-whole _ _ _ c.if-not-self.false c.held.ensures _ (sym c.line_feed.ensures ∙ c.in-Some.is)

pub returns-in-None : goal.returns-in-None
returns-in-None c = skips-part _ _ _ c.if-not-self.false c.held.ensures (sym c.line_feed.ensures ∙ c.in-None.is)

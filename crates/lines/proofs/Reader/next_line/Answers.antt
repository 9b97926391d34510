use Rattle.std.proofs.Common.{arith}
use Rattle.std.proofs.Common.{rules, sym, ◌∙◌}
use Rattle.lines.proofs.Laws.{takes-empty, takes_long-some, takes_long-none, takes_whole, takes_part, takes-end}
use Rattle.lines.proofs.Reader.next_line.Goals.{then-is_empty-via-then-is_empty, then-is_empty-via-else-is_empty+then-not-self, in_default-via-in-Some+else-n-limit, in_default-via-in-None+else-held-limit}
use Rattle.lines.proofs.Reader.next_line.Goals as goal

pub returns-then-self : goal.returns-then-self
returns-then-self c = takes-empty _ _ _ _ c.skip.ensures (c.skip.ensures.empty c.if-self.true)

pub returns-then-is_empty : goal.returns-then-is_empty
returns-then-is_empty c =
    takes_part _ _ _ _ c.skip.ensures _ c.if-self.false c.held-held.ensures (sym c.line_feed.ensures ∙ c.in-None.is) c.if-held-limit.true (λ h. elim c.then-is_empty.branch [ then-is_empty-via-then-is_empty w ↦ search rules | then-is_empty-via-else-is_empty+then-not-self w ↦ w.if-not-self.true ])

pub returns-in-Some : goal.returns-in-Some
returns-in-Some c = takes_whole _ _ _ _ c.skip.ensures _ c.if-self.false c.held-held.ensures _ (sym c.line_feed.ensures ∙ c.in-Some.is) (omega arith)

pub returns-else-not-self : goal.returns-else-not-self
returns-else-not-self c = takes-end _ _ _ _ c.skip.ensures _ c.if-self.false c.held-held.ensures (sym c.line_feed.ensures ∙ c.in-None.is) c.if-held-limit.true (search rules) c.if-not-self.false

pub returns-in_default : goal.returns-in_default
returns-in_default c = elim c.in_default.branch [
  | in_default-via-in-Some+else-n-limit w ↦ takes_long-some _ _ _ _ c.skip.ensures _ c.if-self.false c.held-held.ensures _ (sym c.line_feed.ensures ∙ w.in-Some.is) (omega arith)
  | in_default-via-in-None+else-held-limit w ↦ takes_long-none _ _ _ _ c.skip.ensures _ c.if-self.false c.held-held.ensures (sym c.line_feed.ensures ∙ w.in-None.is) (omega arith)
]

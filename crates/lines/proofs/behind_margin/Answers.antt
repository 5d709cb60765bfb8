-- `lines::behind_margin` meets its contract: an ordinary U+00A0 stands behind the margin, or what stands there is read as at an edge.
use mathlib.Core.Path.{sym, ◌∙◌}
use Rattle.lines.proofs.InkBefore.{margin_glued, margin_edge}
use Rattle.lines.proofs.behind_margin.Goals as goal

pub returns-then-is_glued : goal.returns-then-is_glued
returns-then-is_glued c = margin_glued _ _ _ _ _ c.requires.1 (sym c.is_glued.ensures ∙ c.if-is_glued.true)

pub returns : goal.returns
returns c =
    let i = c.args in
    rw (margin_edge i.line.now i.end i.margin.at i.glue (sym c.is_glued.ensures ∙ c.if-is_glued.false)) (c.over_blanks.ensures i.glue)

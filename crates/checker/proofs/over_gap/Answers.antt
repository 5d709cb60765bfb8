-- `checker::over_gap` meets its contract. Invariant: what is left of the blanks.
use Rattle.std.proofs.Common.{rules}
use mathlib.Core.Path.{sym, ◌∙◌}
use native.Mathlib.Omega.{arith}
use Rattle.text.proofs.Glyphs.{blank_here, not_blank}
use Rattle.checker.proofs.Scans.{gap_stop, gap_more, spaces_ink, spaces_feed, feed, soften}
use Rattle.checker.proofs.over_gap.Goals as goal

pub returns-in_default : goal.returns-in_default
returns-in_default c = gap_stop _ _ _ _ c.loop-code.invariant (spaces_ink c.args.s.now c.loop-code.g.end (not_blank c.args.s.now c.loop-code.g.end _ c.glyph_at.ensures (search rules)))

pub returns-then-code-eq10 : goal.returns-then-code-eq10
returns-then-code-eq10 c = gap_stop _ _ _ _ c.loop-code.invariant (spaces_feed _ _ (feed c.if-code-eq10.true (blank_here _ _ _ _ (sym c.in-Blank.ensures))))

pub loop-code-smaller : goal.loop-code-smaller
loop-code-smaller c = let h = blank_here _ _ _ _ (sym c.in-Blank.ensures) in omega (arith, h.on, h.within, c.behind_blank-g.ensures.0)

pub loop-code-preserved : goal.loop-code-preserved
loop-code-preserved c = gap_more _ _ _ _ _ c.loop-code.invariant (blank_here _ _ _ _ (sym c.in-Blank.ensures)) c.if-code-eq10.false c.behind_blank-g.ensures.0 (c.behind_blank-g.ensures.1 ∙ soften _ _ c.is_soft.ensures)

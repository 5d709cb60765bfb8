-- `checker::own_no_breaks` meets its contract. Invariant: what is left of them.
use Rattle.std.proofs.Common.{rules}
use mathlib.Core.Path.{sym}
use native.Mathlib.Omega.{arith}
use Rattle.text.proofs.Glyphs.{blank_here, not_blank}
use Rattle.checker.proofs.Scans.{lead_first, lead_ink, lead_other, lead_more}
use Rattle.checker.proofs.own_no_breaks.Goals as goal

pub loop-code-init : goal.loop-code-init
loop-code-init c = lead_first _

pub returns-in_default : goal.returns-in_default
returns-in_default c = lead_ink _ _ c.loop-code.invariant (not_blank _ _ _ c.glyph_at.ensures (search rules))

pub returns-then-code-ne160 : goal.returns-then-code-ne160
returns-then-code-ne160 c = lead_other _ _ c.loop-code.invariant (blank_here _ _ _ _ (sym c.in-Blank.ensures)) c.if-code-ne160.true

pub loop-code-smaller : goal.loop-code-smaller
loop-code-smaller c = let h = blank_here _ _ _ _ (sym c.in-Blank.ensures) in omega (arith, h.on, h.within)

pub loop-code-preserved : goal.loop-code-preserved
loop-code-preserved c = lead_more _ _ c.loop-code.invariant (blank_here _ _ _ _ (sym c.in-Blank.ensures)) c.if-code-ne160.false

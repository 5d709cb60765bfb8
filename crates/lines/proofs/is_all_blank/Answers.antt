-- `lines::is_all_blank` meets its contract. Invariant: what is left of the line is all blank if and only if it was from where it began.
use mathlib.Core.Path.{sym, ◌∙◌}
use mathlib.Core.Bool.{true}
use Prim.Native.Nat.{◌+◌}
use native.Mathlib.Omega.{arith}
use lib.ListN.{get_or}
use borrow.Enum.Refused.{opened}
use Rattle.text.proofs.Glyphs.{Here, ascii_here, blank_here, not_blank}
use Rattle.lines.proofs.Turns.{all_on, all_stop, all_past}
use Rattle.lines.proofs.is_all_blank.Goals as goal

pub loop-i-preserved-then-is_white_space : goal.loop-i-preserved-then-is_white_space
loop-i-preserved-then-is_white_space c =
    let octet : Here c.is_white_space.result c.args.line.now c.loop-i.i (get_or c.args.line.now c.loop-i.i 0) (c.loop-i.i + 1) = rw (c.is_white_space.ensures, c.from.ensures) (ascii_here _ _ c.loop-i-test.true c.if-b-lt128.true) in
    let e = c.blank_eights-i.ensures in (e.1, λ glue. e.2 glue ∙ sym (all_on glue _ _ _ _ (rw c.if-is_white_space.true at (octet))) ∙ c.loop-i.invariant.1 glue)

pub returns-else-is_white_space : goal.returns-else-is_white_space
returns-else-is_white_space c =
    let octet : Here c.is_white_space.result c.args.line.now c.loop-i.i (get_or c.args.line.now c.loop-i.i 0) (c.loop-i.i + 1) = rw (c.is_white_space.ensures, c.from.ensures) (ascii_here _ _ c.loop-i-test.true c.if-b-lt128.true) in
    λ glue. sym (all_stop glue _ _ c.loop-i-test.true ((octet).is_blank ∙ c.if-is_white_space.false)) ∙ c.loop-i.invariant.1 glue

pub returns-in_default : goal.returns-in_default
returns-in_default c = λ glue. sym (all_stop glue _ _ c.loop-i-test.true (not_blank _ _ _ c.glyph_at.ensures (opened c.in_default.in_default-own.keys2))) ∙ c.loop-i.invariant.1 glue

pub loop-i-smaller : goal.loop-i-smaller
loop-i-smaller c =
    let read : Here true c.args.line.now c.loop-i.i c.in-Blank.code c.in-Blank.next = blank_here _ _ _ _ (sym c.glyph_at.ensures ∙ c.in-Blank.is) in
    let h = read in omega (arith, h.on, h.within)

pub loop-i-preserved : goal.loop-i-preserved
loop-i-preserved c =
    let read : Here true c.args.line.now c.loop-i.i c.in-Blank.code c.in-Blank.next = blank_here _ _ _ _ (sym c.glyph_at.ensures ∙ c.in-Blank.is) in
    let h = read in (h.within, λ glue. sym (all_on glue _ _ _ _ h) ∙ c.loop-i.invariant.1 glue)

pub returns : goal.returns
returns c = λ glue. sym (all_past glue _ _ c.loop-i-test.false) ∙ c.loop-i.invariant.1 glue

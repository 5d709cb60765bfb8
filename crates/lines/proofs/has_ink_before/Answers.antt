-- `lines::has_ink_before` meets its contract. Invariant: what is left to read up to the place decides what reading it all does.
use mathlib.Core.Path.{◌≡◌, sym, ◌∙◌}
use mathlib.Core.Bool.{true, false}
use Prim.Native.Nat.{◌+◌, ◌<◌}
use native.Mathlib.Omega.{arith}
use lib.ListN.{length}
use Rattle.text.specs.Cited.Places.{no_break_at}
use Rattle.text.proofs.Glyphs.{Here, ink_here, blank_here, damaged_here}
use Rattle.lines.proofs.InkBefore.{InkLeft, left_first, left_last, left_run, left_char, left_damaged}
use Rattle.lines.proofs.has_ink_before.Goals as goal

pub loop-i-init : goal.loop-i-init
loop-i-init c = left_first _ _

pub loop-i-preserved-then-is_no_break : goal.loop-i-preserved-then-is_no_break
loop-i-preserved-then-is_no_break c =
    let run : InkLeft c.args.line.now c.args.place (c.loop-i.i + 2) c.loop-i.ink = left_run _ _ _ _ c.loop-i.invariant c.loop-i-test.true (sym c.is_no_break.ensures ∙ c.if-is_no_break.true) in
    run

pub loop-i-smaller-in-Ink : goal.loop-i-smaller-in-Ink
loop-i-smaller-in-Ink c =
    let ink : Here false c.args.line.now c.loop-i.i c.in-Ink.code c.in-Ink.next = ink_here _ _ _ _ (sym c.glyph_at.ensures ∙ c.in-Ink.is) in
    let h = ink in omega (arith, h.on, h.within)

pub loop-i-preserved-in-Ink : goal.loop-i-preserved-in-Ink
loop-i-preserved-in-Ink c =
    let ink : Here false c.args.line.now c.loop-i.i c.in-Ink.code c.in-Ink.next = ink_here _ _ _ _ (sym c.glyph_at.ensures ∙ c.in-Ink.is) in
    let inside : c.loop-i.i < length c.args.line.now = omega (arith, c.loop-i-test.true, c.requires) in
    let other : no_break_at c.args.line.now c.loop-i.i ≡ false = sym c.is_no_break.ensures ∙ c.if-is_no_break.false in
    left_char _ _ _ _ c.loop-i.invariant c.loop-i-test.true inside other (ink)

pub loop-i-smaller-in-Blank : goal.loop-i-smaller-in-Blank
loop-i-smaller-in-Blank c =
    let blank : Here true c.args.line.now c.loop-i.i c.in-Blank.code c.in-Blank.next = blank_here _ _ _ _ (sym c.glyph_at.ensures ∙ c.in-Blank.is) in
    let h = blank in omega (arith, h.on, h.within)

pub loop-i-preserved-in-Blank : goal.loop-i-preserved-in-Blank
loop-i-preserved-in-Blank c =
    let blank : Here true c.args.line.now c.loop-i.i c.in-Blank.code c.in-Blank.next = blank_here _ _ _ _ (sym c.glyph_at.ensures ∙ c.in-Blank.is) in
    let inside : c.loop-i.i < length c.args.line.now = omega (arith, c.loop-i-test.true, c.requires) in
    let other : no_break_at c.args.line.now c.loop-i.i ≡ false = sym c.is_no_break.ensures ∙ c.if-is_no_break.false in
    left_char _ _ _ _ c.loop-i.invariant c.loop-i-test.true inside other (blank)

pub loop-i-preserved : goal.loop-i-preserved
loop-i-preserved c =
    let inside : c.loop-i.i < length c.args.line.now = omega (arith, c.loop-i-test.true, c.requires) in
    let other : no_break_at c.args.line.now c.loop-i.i ≡ false = sym c.is_no_break.ensures ∙ c.if-is_no_break.false in
    left_damaged _ _ _ _ c.loop-i.invariant c.loop-i-test.true inside other (damaged_here _ _ inside (sym c.glyph_at.ensures ∙ c.in-Damaged.is))

pub returns : goal.returns
returns c = left_last _ _ _ _ c.loop-i.invariant c.loop-i-test.false

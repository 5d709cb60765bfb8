-- `words::over_ink` meets its contract. Invariant: what is left of the ink.
use mathlib.Core.Path.{refl, sym, ◌∙◌}
use mathlib.Core.Bool.{false}
use Prim.Native.Nat.{◌≤◌}
use native.Mathlib.Omega.{arith}
use borrow.Author.Rules.{rules}
use Rattle.widths.specs.WhiteSpace.{white_space}
use Rattle.text.proofs.Glyphs.{Here, char_here, char_damaged_here, ink_here, blank_here, damaged_here}
use Rattle.text.proofs.Letters.{Letter, letter_is}
use Rattle.text.proofs.Leads.{long_code}
use Rattle.lines.proofs.Measures.{narrow}
use Rattle.words.proofs.InkRuns.{ink_first, ink_more, ink_letter, ink_long, ink_long_stop, ink_damaged, ink_past, ink_stop, ink_glued, ends_there}
use Rattle.words.proofs.PlainRuns.{ink_plain}
use Rattle.lines.proofs.UsualBlanks.{ends_here, ends_word_here}
use Rattle.widths.proofs.Inks.{ink_not_blank}
use Rattle.words.proofs.over_ink.Goals as goal

pub loop-w-init : goal.loop-w-init
loop-w-init c = ink_first (search rules)

pub returns-then-s-from : goal.returns-then-s-from
returns-then-s-from c = ink_past _ c.loop-w.invariant c.if-s-from.true

pub returns-in_default : goal.returns-in_default
returns-in_default c =
    let long : Here (white_space c.in-Some.field-0.code) c.args.s.now c.loop-w.w.end c.in-Some.field-0.code c.in-Some.field-0.next = char_here _ _ _ _ (sym c.long_at.ensures ∙ c.in-Some.is) in
    let least : 0x800 ≤ c.in-Some.field-0.code = long_code _ _ c.if-s-from.false c.if-a-ge224.true _ _ (sym c.long_at.ensures ∙ c.in-Some.is) in
    ink_long_stop _ c.loop-w.invariant long least (sym c.in_default.is ∙ c.ink_width.ensures)

pub overflow_add-w : goal.overflow_add-w
overflow_add-w c = let h = narrow _ _ (ink_not_blank _ _ (sym c.in-Some-ink_width.is ∙ c.ink_width.ensures)).1 in let l = c.loop-w.invariant in omega (arith, l.narrow, l.within)

pub loop-w-smaller-in-Some : goal.loop-w-smaller-in-Some
loop-w-smaller-in-Some c =
    let long : Here (white_space c.in-Some.field-0.code) c.args.s.now c.loop-w.w.end c.in-Some.field-0.code c.in-Some.field-0.next = char_here _ _ _ _ (sym c.long_at.ensures ∙ c.in-Some.is) in
    let h = long in omega (arith, h.on, h.within)

pub loop-w-preserved-in-Some : goal.loop-w-preserved-in-Some
loop-w-preserved-in-Some c =
    let long : Here (white_space c.in-Some.field-0.code) c.args.s.now c.loop-w.w.end c.in-Some.field-0.code c.in-Some.field-0.next = char_here _ _ _ _ (sym c.long_at.ensures ∙ c.in-Some.is) in
    let least : 0x800 ≤ c.in-Some.field-0.code = long_code _ _ c.if-s-from.false c.if-a-ge224.true _ _ (sym c.long_at.ensures ∙ c.in-Some.is) in
    ink_long _ _ c.loop-w.invariant long least (sym c.in-Some-ink_width.is ∙ c.ink_width.ensures) refl refl

pub loop-w-preserved-in-None : goal.loop-w-preserved-in-None
loop-w-preserved-in-None c = ink_damaged _ c.loop-w.invariant c.if-s-from.false (char_damaged_here _ _ c.if-s-from.false (sym c.long_at.ensures ∙ c.in-None.is))

pub loop-w-preserved-then-is_plain : goal.loop-w-preserved-then-is_plain
loop-w-preserved-then-is_plain c = ink_plain _ c.loop-w.invariant _ c.over_plain-w.ensures

pub returns-then-ends_word : goal.returns-then-ends_word
returns-then-ends_word c =
    let e = sym c.ends_word.ensures ∙ c.if-ends_word.true in
    ink_stop _ c.loop-w.invariant (ends_here _ _ c.if-s-from.false e) (ends_word_here _ _ c.if-s-from.false _ e)

pub loop-w-preserved-then-is_letter : goal.loop-w-preserved-then-is_letter
loop-w-preserved-then-is_letter c =
    let letter : Letter c.args.s.now c.loop-w.w.end = letter_is _ _ (sym c.is_letter.ensures ∙ c.if-is_letter.true) in
    ink_letter _ c.loop-w.invariant (letter)

pub returns-then-on-from : goal.returns-then-on-from
returns-then-on-from c =
    let h = blank_here _ _ _ _ (sym c.glyph_at.ensures ∙ c.in-Blank.is) in
    ink_stop _ c.loop-w.invariant h (ends_there _ _ _ h (omega (arith, c.if-on-from.true, c.glued_end-on.ensures.0)))

pub loop-w-preserved-in-Blank : goal.loop-w-preserved-in-Blank
loop-w-preserved-in-Blank c = ink_glued _ _ c.loop-w.invariant c.glued_end-on.ensures.0 c.if-on-from.false c.glued_end-on.ensures.1

pub overflow_add-w-in-Ink : goal.overflow_add-w-in-Ink
overflow_add-w-in-Ink c = let h = narrow _ _ c.width.ensures in let l = c.loop-w.invariant in omega (arith, l.narrow, l.within)

pub loop-w-smaller-in-Ink : goal.loop-w-smaller-in-Ink
loop-w-smaller-in-Ink c =
    let read : Here false c.args.s.now c.loop-w.w.end c.in-Ink.code c.in-Ink.next = ink_here _ _ _ _ (sym c.glyph_at.ensures ∙ c.in-Ink.is) in
    let h = read in omega (arith, h.on, h.within)

pub loop-w-preserved-in-Ink : goal.loop-w-preserved-in-Ink
loop-w-preserved-in-Ink c =
    let read : Here false c.args.s.now c.loop-w.w.end c.in-Ink.code c.in-Ink.next = ink_here _ _ _ _ (sym c.glyph_at.ensures ∙ c.in-Ink.is) in
    ink_more _ _ c.loop-w.invariant read c.width.ensures refl c.is_punct.ensures

pub loop-w-preserved : goal.loop-w-preserved
loop-w-preserved c = ink_damaged _ c.loop-w.invariant c.if-s-from.false (damaged_here _ _ c.if-s-from.false (sym c.glyph_at.ensures ∙ c.in-Damaged.is))

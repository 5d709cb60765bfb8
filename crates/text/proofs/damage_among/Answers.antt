-- `text::damage_among` meets its contract. Invariant: the damaged place, counted from the place reached, is that of the whole text.
use mathlib.Core.Path.{sym, ◌∙◌}
use native.Mathlib.Omega.{arith}
use Rattle.text.proofs.Glyphs.{char_here, char_damaged_here}
use Rattle.text.proofs.Damage.{damage_past, damage_here, damage_on}
use Rattle.text.proofs.damage_among.Goals as goal

pub returns-in_default : goal.returns-in_default
returns-in_default c = sym (damage_here c.args.s.now c.loop-i.i (char_damaged_here _ _ c.loop-i-test.true (sym c.decode_at.ensures ∙ c.in_default.is))) ∙ c.loop-i.invariant.1

pub loop-i-smaller : goal.loop-i-smaller
loop-i-smaller c =
    let h = char_here c.args.s.now c.loop-i.i _ _ (sym c.decode_at.ensures ∙ c.in-Some.is) in
    omega (arith, h.within, h.on)

pub loop-i-preserved : goal.loop-i-preserved
loop-i-preserved c =
    let h = char_here c.args.s.now c.loop-i.i _ _ (sym c.decode_at.ensures ∙ c.in-Some.is) in
    (h.within, sym (damage_on _ _ h) ∙ c.loop-i.invariant.1)

pub returns : goal.returns
returns c = sym (damage_past c.args.s.now c.loop-i.i c.loop-i-test.false) ∙ c.loop-i.invariant.1

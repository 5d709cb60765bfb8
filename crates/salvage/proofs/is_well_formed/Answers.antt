-- `salvage::is_well_formed` meets its contract. Invariant: the line is well formed if what is left of it is.
use mathlib.Core.Path.{◌≡◌, sym, ◌∙◌}
use Prim.Native.Nat.{◌≤◌, ◌<◌}
use native.Mathlib.Omega.{arith}
use lib.ListN.{length, drop, length-drop}
use Rattle.text.proofs.Places.{damaged_front}
use Rattle.text.proofs.Asciis.{ascii_more, ascii_one}
use Rattle.salvage.specs.Lines.{is_utf8}
use Rattle.salvage.proofs.WellFormed.{ill_formed, formed_past, formed_ascii, read_on}
use Rattle.salvage.proofs.is_well_formed.Goals as goal

pub loop-i-preserved-then-line-i-lt128 : goal.loop-i-preserved-then-line-i-lt128
loop-i-preserved-then-line-i-lt128 c =
    let a = ascii_more (ascii_one c.loop-i-test.true c.if-line-i-lt128.true) c.ascii_end-i.ensures in
    (a.within, sym (formed_ascii _ _ _ a) ∙ c.loop-i.invariant.1)

pub returns-in_default : goal.returns-in_default
returns-in_default c =
    let l = c.loop-i in
    sym (ill_formed (drop l.i c.args.line.now) (rw length-drop (omega arith)) (damaged_front _ _ (sym c.decode_at.ensures ∙ c.in_default.is))) ∙ l.invariant.1

pub loop-i-smaller : goal.loop-i-smaller
loop-i-smaller c =
    let read : (c.loop-i.i < c.in-Some.c.next) × (c.in-Some.c.next ≤ length c.args.line.now) × (is_utf8 (drop c.loop-i.i c.args.line.now) ≡ is_utf8 (drop c.in-Some.c.next c.args.line.now)) = read_on _ _ _ _ c.loop-i.invariant.0 (sym c.decode_at.ensures ∙ c.in-Some.is) in
    let r = read in omega (arith, r.0, r.1)

pub loop-i-preserved : goal.loop-i-preserved
loop-i-preserved c =
    let read : (c.loop-i.i < c.in-Some.c.next) × (c.in-Some.c.next ≤ length c.args.line.now) × (is_utf8 (drop c.loop-i.i c.args.line.now) ≡ is_utf8 (drop c.in-Some.c.next c.args.line.now)) = read_on _ _ _ _ c.loop-i.invariant.0 (sym c.decode_at.ensures ∙ c.in-Some.is) in
    let r = read in (r.1, sym r.2 ∙ c.loop-i.invariant.1)

pub returns : goal.returns
returns c = sym (formed_past _ _ c.loop-i-test.false) ∙ c.loop-i.invariant.1

-- `salvage::high_bytes` meets its contract. Invariant: what the line has is what was counted and what is left.
use native.Mathlib.Omega.{arith}
use Rattle.salvage.proofs.Counts.{count_more, count_last}
use Rattle.salvage.proofs.high_bytes.Goals as goal

pub overflow_add-n : goal.overflow_add-n
overflow_add-n c =
    let m = count_more _ _ _ _ c.loop-i-test.true c.loop-i.invariant c.high_byte-n.ensures in
    omega (arith, m.few, m.within)

pub loop-i-preserved : goal.loop-i-preserved
loop-i-preserved c = count_more _ _ _ _ c.loop-i-test.true c.loop-i.invariant c.high_byte-n.ensures

pub returns : goal.returns
returns c = count_last _ _ _ c.loop-i-test.false c.loop-i.invariant

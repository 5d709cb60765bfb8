-- `salvage::put_mended` meets its contract. Invariant: what is left of the line, written behind what is written, gives the whole.
use native.Mathlib.Omega.{arith}
use Rattle.salvage.proofs.Writes.{byte_fits, byte_put, line_put}
use Rattle.salvage.proofs.put_mended.Goals as goal

pub put_byte-m-requires : goal.put_byte-m-requires
put_byte-m-requires c = (omega arith, byte_fits c.loop-i.invariant c.loop-i-test.true c.requires.1)

pub loop-i-preserved : goal.loop-i-preserved
loop-i-preserved c = byte_put c.loop-i.invariant c.loop-i-test.true c.put_byte-m.ensures

pub returns : goal.returns
returns c = line_put c.loop-i.invariant c.loop-i-test.false

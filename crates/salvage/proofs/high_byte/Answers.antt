-- `salvage::high_byte` meets its contract.
use native.Mathlib.Omega.{arith}
use Rattle.salvage.proofs.Counts.{one_low, one_high}
use Rattle.salvage.proofs.high_byte.Goals as goal

pub returns-then-octet-lt128 : goal.returns-then-octet-lt128
returns-then-octet-lt128 c = one_low _ c.if-octet-lt128.true

pub returns-else-octet-lt128 : goal.returns-else-octet-lt128
returns-else-octet-lt128 c = one_high _ c.if-octet-lt128.false (omega arith)

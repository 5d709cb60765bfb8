-- `records::mark` meets its contract.
use Rattle.std.proofs.Common.{arith}
use Rattle.records.specs.Cited.Marks.{with_mark}
use Rattle.records.proofs.mark.Goals as goal

pub returns : goal.returns
unfolding with_mark
returns c = grind arith

-- `records::get` meets its contract.
use Rattle.std.proofs.Common.{arith}
use Rattle.records.specs.Cited.Table.{word_in}
use Rattle.records.proofs.get.Goals as goal

pub returns : goal.returns
unfolding word_in
returns c = grind arith

-- `salvage::is_belonging` meets its contract.
use borrow.Author.Rules.{rules}
use Rattle.salvage.proofs.Back.{entry_told}
use Rattle.salvage.proofs.is_belonging.Goals as goal

pub returns : goal.returns
returns c = let a = c.args in entry_told a.copy.now a.at a.k a.place a.byte _ _ (search rules) (search rules) (search rules)

-- `regular::put_listed` meets its contract. Invariant: what is left of the output is that of the words from j on.
use Rattle.regular.proofs.Words.{listed_turn}
use Rattle.regular.proofs.put_listed.Goals as goal

pub loop-j-preserved : goal.loop-j-preserved
loop-j-preserved c = listed_turn _ _ _ _ _ _ _ _ _ _ c.loop-j.invariant c.loop-j-test.true _ c.get.ensures.is _ _ c.put_word-v.ensures

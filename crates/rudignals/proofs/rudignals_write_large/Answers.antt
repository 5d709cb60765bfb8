-- `rudignals::rudignals_write_large` meets its contract.
use Rattle.formatter.proofs.Values.{written_fits}
use Rattle.formatter.proofs.Work.{lending_sound}
use Rattle.rudignals.proofs.rudignals_write_large.Goals as goal

pub number_of-requires : goal.number_of-requires
number_of-requires c = rw c.write_lent.ensures.is (written_fits _ (lending_sound _) _ _ _)

-- `rudignals::checking::rudignals_check_large` meets its contract.
use Rattle.formatter.proofs.Work.{lending_sound}
use Rattle.judge.proofs.Values.{number_fits}
use Rattle.rudignals.proofs.checking.rudignals_check_large.Goals as goal

pub number_of-requires : goal.number_of-requires
number_of-requires c = rw c.check_large.ensures (number_fits _ (lending_sound _) _ _ _)

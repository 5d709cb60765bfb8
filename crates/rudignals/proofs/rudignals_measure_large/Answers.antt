-- `rudignals::rudignals_measure_large` meets its contract.
use Rattle.formatter.proofs.Values.{measured_fits}
use Rattle.formatter.proofs.Work.{lending_sound}
use Rattle.rudignals.proofs.rudignals_measure_large.Goals as goal

pub number_of-requires : goal.number_of-requires
number_of-requires c = rw c.measure_lent.ensures (measured_fits _ (lending_sound _) _ _)

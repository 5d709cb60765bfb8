-- `knuth_plass::interval::best_path` meets its contract. The least of the entries left has the path.
use Rattle.knuth_plass.proofs.Intervals.{interval_path}
use Rattle.knuth_plass.proofs.interval.best_path.Goals as goal

pub returns : goal.returns
returns c =
    let a = c.args in
    let r = c.rounds-s.ensures in
    (interval_path a.g.setting a.n a.work.now _ _ _ r.0 c.first_least.ensures, r.1)

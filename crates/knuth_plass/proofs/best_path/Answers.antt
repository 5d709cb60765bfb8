-- `knuth_plass::best_path` meets its contract. Either way the record has the definition's path.
use Rattle.knuth_plass.proofs.Whole.{path_least}
use Rattle.knuth_plass.proofs.best_path.Goals as goal

pub returns : goal.returns
returns c =
    let r = c.rounds-st.ensures in
    (path_least _ _ _ _ _ _ r.0 _ c.least.ensures c.requires.0, r.1)

-- `knuth_plass::best_breaks` meets its contract. The best path, marked on cleared marks.
use Rattle.knuth_plass.proofs.Work.{part_marked}
use Rattle.knuth_plass.proofs.Marks.{marked_path}
use Rattle.knuth_plass.proofs.Whole.{best_are}
use Rattle.knuth_plass.proofs.best_breaks.Goals as goal

pub returns : goal.returns
returns c =
    let a = c.args in
    let path = c.best_path-last.ensures in
    let k = c.clear.ensures in
    let m = c.mark_path.ensures in
    best_are a.g a.n a.work.now _ _ path.0 _ _ c.requires.1 path.1 (marked_path a.n _ _ _ _ k (rw (part_marked a.n _ _ k) at m))

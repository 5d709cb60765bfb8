-- `regular::head_row` meets its contract.
use Rattle.regular.proofs.Marks.{went_head}
use Rattle.regular.proofs.head_row.Goals as goal

pub returns : goal.returns
returns c = let p = c.requires in went_head _ _ _ _ _ _ _ p.6 p.7 p.0 p.4 p.8 _ _ c.fill-r.ensures _ c.head_punct.ensures

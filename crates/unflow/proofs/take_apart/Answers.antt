-- `unflow::take_apart` meets its contract.
use Rattle.unflow.proofs.Lines.{parted}
use Rattle.unflow.proofs.take_apart.Goals as goal

pub returns : goal.returns
returns c =
    let d = c.marks_end-depth.ensures in
    let s = c.content_start-start.ensures in
    parted _ _ _ _ _ d.0 s.0 s.1 s.2 c.is_separator-separator.ensures c.ends_in_space.ensures

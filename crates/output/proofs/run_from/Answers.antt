-- `output::run_from` meets its contract. Invariant: the contract itself, of the run so far.
use mathlib.Core.Path.{refl, sym, ◌∙◌}
use Rattle.output.proofs.Runs.{run_more}
use Rattle.output.proofs.run_from.Goals as goal

pub loop-j-preserved : goal.loop-j-preserved
loop-j-preserved c =
    let i = c.loop-j.invariant in
    (refl, rw i.0 at (run_more c.requires.0 i.1 (rw i.0 c.loop-j-test.true) (rw i.0 c.get-w.ensures) c.added_space-added.ensures.is (rw i.0 (sym c.starts_line.ensures ∙ c.if-starts_line.false)) (c.apart.ensures c.if-apart.false)))

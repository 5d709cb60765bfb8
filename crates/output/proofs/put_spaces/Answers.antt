-- `output::put_spaces` meets its contract.
use mathlib.Core.Path.{◌≡◌}
use native.Mathlib.Omega.{arith}
use lib.ListN.{length, take, length-take}
use Rattle.output.proofs.Copies.{spaces_wrote, filled_wrote}
use Rattle.output.proofs.put_spaces.Goals as goal

pub returns : goal.returns
returns c =
    let m = c.min-fits.result in
    let size : length (take m c.args.rest.now) ≡ m = simp length-take (omega arith) in
    spaces_wrote _ m c.min-fits.ensures (filled_wrote _ _ m (omega arith) (rw size at (c.fill.ensures.after (λ y e. e))))

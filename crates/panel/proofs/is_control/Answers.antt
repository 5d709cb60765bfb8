-- `panel::is_control` meets its contract: the tests are the definition's.
use mathlib.Core.Path.{refl}
use Rattle.panel.specs.Panel.{control}
use Rattle.panel.proofs.is_control.Goals as goal

pub returns : goal.returns
unfolding control
returns c = refl

-- `panel::stop_width` meets its contract.
use mathlib.Core.Path.{◌∙◌}
use Rattle.panel.proofs.Panels.{stop_width_is}
use Rattle.panel.proofs.stop_width.Goals as goal

pub returns : goal.returns
returns c = c.max.ensures ∙ stop_width_is c.args.tab

-- `unflow::is_separator` meets its contract.
use mathlib.Core.Path.{ap, ◌∙◌}
use Rattle.lists.proofs.Fronts.{part_to_end}
use Rattle.unflow.specs.Flowed.{is_dashes}
use Rattle.unflow.proofs.Lines.{separator_whole, separator_quoted}
use Rattle.unflow.proofs.is_separator.Goals.{then-depth-eq0, else-depth-eq0}
use Rattle.unflow.proofs.is_separator.Goals as goal

pub returns : goal.returns
returns c =
    elim c.if-depth-eq0.branch [
      | then-depth-eq0 w ↦ c.is_dashes.ensures ∙ ap (λ b. is_dashes b.now) w.is_dashes-is ∙ separator_whole _ _ c.requires.0 w.if-depth-eq0.true
      | else-depth-eq0 w ↦
          c.is_dashes.ensures ∙ ap (λ b. is_dashes b.now) w.is_dashes-is ∙ ap is_dashes (part_to_end c.args.start c.args.line.now)
          ∙ separator_quoted _ _ c.requires.0 w.if-depth-eq0.false c.args.start c.requires.1
    ]

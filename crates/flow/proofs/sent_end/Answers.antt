-- `flow::sent_end` meets its contract.
use mathlib.Core.Path.{sym, ap, ◌∙◌}
use native.Mathlib.Omega.{arith}
use Rattle.unflow.specs.Flowed.{is_dashes}
use Rattle.flow.proofs.Plain.{part_is, dashes_stay, others_trimmed}
use Rattle.flow.proofs.sent_end.Goals as goal

pub returns-then-is_dashes : goal.returns-then-is_dashes
returns-then-is_dashes c = let p = c.requires in (dashes_stay _ (ap is_dashes (sym (part_is _ _ _ p.0)) ∙ sym c.is_dashes.ensures ∙ c.if-is_dashes.true), p.0, omega arith)

pub returns-else-is_dashes : goal.returns-else-is_dashes
returns-else-is_dashes c = let p = c.requires in let t = c.trimmed_end.ensures in (t.0 ∙ others_trimmed _ (ap is_dashes (sym (part_is _ _ _ p.0)) ∙ sym c.is_dashes.ensures ∙ c.if-is_dashes.false), t.1, t.2)

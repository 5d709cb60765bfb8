-- `flow::flags_of` meets its contract.
use mathlib.Core.Path.{sym, ◌∙◌}
use Rattle.flow.proofs.Flags.{flags_first, flags_none}
use Rattle.flow.proofs.flags_of.Goals as goal

pub returns-then-byte_at-eq1 : goal.returns-then-byte_at-eq1
returns-then-byte_at-eq1 c = rw (c.byte_at-then-byte_at-eq1.ensures.value, c.byte_at-then-byte_at-eq1-2.ensures.value) (sym (flags_first _ c.requires (sym c.byte_at.ensures.value ∙ c.if-byte_at-eq1.true)))

pub returns-else-byte_at-eq1 : goal.returns-else-byte_at-eq1
returns-else-byte_at-eq1 c = sym (flags_none _ c.requires (λ e. c.if-byte_at-eq1.false (c.byte_at.ensures.value ∙ e)))

-- `flow::is_unfit` meets its contract.
use mathlib.Core.Path.{sym, ap, ◌∙◌}
use Prim.Native.Nat.{ℕ}
use Rattle.flow.specs.Cited.Sending.{shaped}
use Rattle.flow.proofs.Flags.{accepted_sound, fault_fits, accepted_unfit}
use Rattle.flow.proofs.is_unfit.Goals as goal

pub returns-in_default : goal.returns-in_default
returns-in_default c = fault_fits _ (sym c.read_block.ensures ∙ c.in_default.is)

pub flags_of-requires : goal.flags_of-requires
flags_of-requires c = accepted_sound _ _ (sym c.read_block.ensures ∙ c.in-Ok.is)

pub returns : goal.returns
returns c =
    c.has_shape.ensures
    ∙ ap (λ (n : ℕ). shaped n c.in-Ok.o.prefix) c.flags_of.ensures
    ∙ accepted_unfit c.args.block.now c.in-Ok.o (sym c.read_block.ensures ∙ c.in-Ok.is)

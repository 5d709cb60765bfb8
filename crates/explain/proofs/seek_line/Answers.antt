-- `explain::seek_line` meets its contract.
use mathlib.Core.Path.{refl, sym, ◌∙◌}
use mathlib.Core.Bool.{true≢false}
use native.Mathlib.Omega.{arith}
use Rattle.walk.proofs.Steps.{room_few, room_full}
use Rattle.explain.proofs.seek_line.Goals as goal

pub seek_in_two-requires : goal.seek_in_two-requires
seek_in_two-requires c = (c.requires, room_few _ _ 336 refl (λ e. omega arith) (λ e. omega arith), room_full _ 7168 (λ e. refl) (λ e. absurd (true≢false (sym c.if-notes.true ∙ e))))

pub seek_in_two-requires-else-notes : goal.seek_in_two-requires-else-notes
seek_in_two-requires-else-notes c = (c.requires, room_few _ _ 600 refl (λ e. omega arith) (λ e. omega arith), room_full _ 15360 (λ e. absurd (true≢false (sym e ∙ c.if-notes.false))) (λ e. refl))

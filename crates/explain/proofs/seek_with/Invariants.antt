use mathlib.Core.Path.{◌≡◌}
use Prim.Native.Nat.{ℕ, ◌-◌, ◌≤◌}
use lib.ListN.{length}
use Rattle.options.specs.Opts.{meant}
use Rattle.paragraphs.specs.Cited.Steps.{room_for}
use Rattle.explain.specs.Cited.Seeking.{Seeking}
use Rattle.explain.proofs.seek_with.Given as goal

abbrev pub invariant-loop-s : goal.invariant-loop-s
invariant-loop-s l =
    ((most : ℕ) → room_for l.notes.options.quick (length l.initial.work) ≤ most → Seeking most (meant l.notes.block.now l.notes.options) l.notes.bytes.now l.initial.s l.s)
    × (length l.work ≡ length l.initial.work)

abbrev pub decreases-loop-s : goal.decreases-loop-s
decreases-loop-s l = length l.notes.bytes.now - l.s.at

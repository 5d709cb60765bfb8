use mathlib.Core.Path.{◌≡◌}
use Prim.Native.Nat.{ℕ, ◌-◌, ◌≤◌}
use lib.ListN.{length}
use Rattle.options.specs.Opts.{meant}
use Rattle.walk.specs.Cited.Course.{Going}
use Rattle.walk.proofs.put_texts.Given as goal

abbrev pub invariant-loop-behind : goal.invariant-loop-behind
invariant-loop-behind l =
    let n = l.initial.text.notes in
    (l.text.notes ≡ n) × ((most : ℕ) → l.limit ≤ most → Going most (meant n.block.now n.options) n.bytes.now l.initial.text.c l.initial.out l.text.c l.out) × (length l.work ≡ length l.initial.work)

abbrev pub decreases-loop-behind : goal.decreases-loop-behind
decreases-loop-behind l = length l.text.notes.bytes.now - l.text.c.at

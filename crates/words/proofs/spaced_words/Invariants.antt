use mathlib.Core.List.{[]}
use Prim.Native.Nat.{ℕ, ◌-◌, ◌≤◌}
use lib.ListN.{length, take}
use Rattle.options.specs.Opts.{meant}
use Rattle.words.specs.Cited.Split.{Kept}
use Rattle.words.specs.Cited.Spaced.{EndsAt, SpacedTo}
use Rattle.words.proofs.spaced_words.Given as goal

abbrev pub invariant-loop-r : goal.invariant-loop-r
invariant-loop-r l =
    Kept l.most (length l.notes) l.r.count l.table
    × (l.start ≤ l.r.at)
    × (l.r.at ≤ l.next)
    × ((end : ℕ) → EndsAt (take l.next l.notes) l.start end → SpacedTo (meant [] l.o) l.mail l.notes l.start end l.n l.initial.table l.r l.table)

abbrev pub decreases-loop-r : goal.decreases-loop-r
decreases-loop-r l = l.next - l.r.at

use Prim.Native.Nat.{◌-◌}
use lib.ListN.{length}
use Rattle.options.specs.Opts.{meant}
use Rattle.judge.proofs.Laws.{Going}
use Rattle.judge.proofs.match_pieces.Given as goal

abbrev pub invariant-loop-c : goal.invariant-loop-c
invariant-loop-c l = Going l.most (meant l.notes.block.now l.notes.options) l.notes.bytes.now l.digest l.initial.c.matched l.c

abbrev pub decreases-loop-c : goal.decreases-loop-c
decreases-loop-c l = length l.notes.bytes.now - l.c.at

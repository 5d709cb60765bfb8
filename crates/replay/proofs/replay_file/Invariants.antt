-- What is held has room.
use Rattle.std.proofs.Common.{length, ◌≤◌}
use Rattle.replay.proofs.replay_file.Given as goal

abbrev pub invariant-loop : goal.invariant-loop
invariant-loop g l = l.held ≤ length l.text

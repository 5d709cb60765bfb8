-- `output::put_feed` meets its contract.
use mathlib.Core.Path.{refl, sym}
use native.Mathlib.Omega.{arith}
use Rattle.output.proofs.Sink.{written_past, wrote_byte}
use Rattle.output.proofs.put_feed.Goals as goal

pub returns-then-not-is_empty : goal.returns-then-not-is_empty
returns-then-not-is_empty c = wrote_byte _ 0 10 (grind arith)

pub returns-else-not-is_empty : goal.returns-else-not-is_empty
returns-else-not-is_empty c = record { count = refl; bytes = sym (written_past _ _ _ (grind arith)) }

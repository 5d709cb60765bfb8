-- `pieces::name_end` meets its contract. Invariant: the name's end, counted from the place reached, is that counted from the start.
use mathlib.Core.Path.{◌≡◌, sym, ◌∙◌}
use mathlib.Core.Bool.{false}
use Prim.Native.Nat.{◌<◌}
use native.Mathlib.Omega.{arith}
use lib.ListN.{length, get_or}
use Rattle.lists.proofs.RunsAt.{run_past, run_end, run_more}
use Rattle.pieces.specs.Cited.Places.{header_name}
use Rattle.pieces.proofs.Headers.{name_low, name_high, name_colon, name_more}
use Rattle.pieces.proofs.name_end.Goals as goal
use Rattle.pieces.proofs.name_end.Goals.{then-b-lt33-via-then-b-lt33, then-b-lt33-via-else-b-lt33+then-b-gt126, then-b-lt33-via-else-b-lt33+else-b-gt126+then-b-eq58}

pub returns-then-b-lt33 : goal.returns-then-b-lt33
returns-then-b-lt33 c =
    let line = c.args.line.now in
    let within : c.loop-i.i < length line = omega arith in
    let ends : header_name (get_or line c.loop-i.i 0) ≡ false = elim c.then-b-lt33.branch [
      | then-b-lt33-via-then-b-lt33 w ↦ name_low (get_or line c.loop-i.i 0) (omega arith)
      | then-b-lt33-via-else-b-lt33+then-b-gt126 w ↦ name_high (get_or line c.loop-i.i 0) (omega arith)
      | then-b-lt33-via-else-b-lt33+else-b-gt126+then-b-eq58 w ↦ name_colon (get_or line c.loop-i.i 0) (omega arith)
    ] in
    (sym (run_end header_name 0 _ _ within ends) ∙ c.loop-i.invariant, omega arith)

pub loop-i-preserved : goal.loop-i-preserved
loop-i-preserved c =
    let within : c.loop-i.i < length c.args.line.now = omega arith in
    sym (run_more header_name 0 _ _ within (name_more (get_or c.args.line.now c.loop-i.i 0) (omega arith) (omega arith) (omega arith))) ∙ c.loop-i.invariant

pub returns : goal.returns
returns c = let end = sym (run_past header_name 0 c.args.line.now c.loop-i.i (omega arith)) ∙ c.loop-i.invariant in (omega arith, omega arith)

-- `salvage::mend` meets its contract.
use native.Mathlib.Omega.{arith}
use Rattle.salvage.proofs.Answers.{mends_long, mends_full, mends_room, mends_done}
use Rattle.salvage.proofs.mend.Goals as goal

pub returns-then-notes-gt65536 : goal.returns-then-notes-gt65536
returns-then-notes-gt65536 c = mends_long _ _ _ _ c.if-notes-gt65536.true

pub returns-then-min-changed : goal.returns-then-min-changed
returns-then-min-changed c = mends_full _ _ _ _ _ c.if-notes-gt65536.false c.count_changes-changed.ensures (omega (arith, c.min.ensures, c.if-min-changed.true))

pub returns-then-copy-needed : goal.returns-then-copy-needed
returns-then-copy-needed c =
    mends_room _ _ _ _ _ c.if-notes-gt65536.false c.count_changes-changed.ensures (omega (arith, c.min.ensures, c.if-min-changed.false)) c.if-copy-needed.true

pub returns : goal.returns
returns c =
    let p = c.put_all.ensures in
    mends_done _ _ _ _ _ c.if-notes-gt65536.false c.count_changes-changed.ensures (omega (arith, c.min.ensures, c.if-min-changed.false)) c.if-copy-needed.false p.0 p.1 p.2

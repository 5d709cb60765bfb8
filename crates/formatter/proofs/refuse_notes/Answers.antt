-- `formatter::refuse_notes` meets its contract.
use native.Mathlib.Omega.{arith}
use Rattle.formatter.proofs.Replies.{limits, text_refused, notes_passed}
use Rattle.formatter.proofs.refuse_notes.Goals as goal

pub returns-in-Some : goal.returns-in-Some
returns-in-Some c = λ w block. text_refused (limits c.args.most w) block c.args.notes.now c.args.o (omega arith) c.damage_in.ensures c.in-Some.is

pub returns-in-None : goal.returns-in-None
returns-in-None c = λ w block. notes_passed (limits c.args.most w) block c.args.notes.now c.args.o (omega arith) c.damage_in.ensures c.in-None.is

-- `unflow::unflow` meets its contract.
use borrow.Author.Rules.{rules}
use Rattle.unflow.proofs.Answers.{reads_long, reads_done, reads_room}
use Rattle.unflow.proofs.unflow.Goals as goal

pub returns-then-text-gt65536 : goal.returns-then-text-gt65536
returns-then-text-gt65536 c = reads_long _ _ c.if-text-gt65536.true

pub returns-then-needed-out : goal.returns-then-needed-out
returns-then-needed-out c = let p = c.put_paragraphs-needed.ensures in reads_done _ _ c.if-text-gt65536.false p.0 p.1 c.if-needed-out.true

pub returns-else-needed-out : goal.returns-else-needed-out
returns-else-needed-out c = let p = c.put_paragraphs-needed.ensures in reads_room _ _ c.if-text-gt65536.false p.0 p.1 c.if-needed-out.false (search rules)

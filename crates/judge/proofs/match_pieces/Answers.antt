-- `judge::match_pieces` meets its contract. Invariant: what is left to be matched from the stand on.
use Rattle.judge.proofs.Laws.{going_first, going_on, going_through}
use Rattle.judge.proofs.match_pieces.Goals as goal

pub loop-c-init : goal.loop-c-init
loop-c-init c = going_first _ _ _ _ _ c.requires.0

pub loop-c-preserved : goal.loop-c-preserved
loop-c-preserved c = going_on _ _ _ _ _ c.loop-c.invariant c.in-Ok.ensures

pub returns : goal.returns
returns c = going_through _ _ _ _ _ c.loop-c.invariant c.loop-c-test.false

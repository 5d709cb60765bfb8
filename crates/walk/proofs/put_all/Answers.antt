-- `walk::put_all` meets its contract.
use Rattle.std.proofs.Common.{Ok}
use Rattle.walk.specs.Digest.{most_words}
use Rattle.walk.proofs.Loop.{stands_first, going_cleared, all_finished}
use Rattle.walk.proofs.put_all.Goals as goal

pub put_lines-requires : goal.put_lines-requires
put_lines-requires c = stands_first _

pub returns-in-End : goal.returns-in-End
returns-in-End c = all_finished _ _ _ _ _ (Ok c.in-End.needed) (c.in-End.ensures most_words)

pub returns-in-Text : goal.returns-in-Text
returns-in-Text c =
    let t = c.in-Text.ensures most_words in
    all_finished _ _ _ _ _ c.put_or_clear.result (going_cleared _ _ _ t.1 _ c.put_or_clear.result (rw t.0 at c.put_or_clear.ensures))

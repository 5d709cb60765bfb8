-- `regular::put_quick` meets its contract.
use Rattle.regular.specs.Cited.Regular.{quick_on}
use Rattle.regular.proofs.Whole.{whole}
use Rattle.regular.proofs.put_quick.Goals as goal

pub returns : goal.returns
unfolding quick_on
returns c = λ block some. whole _ _ _ _ some _ _ _ _ _ _ _ _ c.margin_at-k.ensures.0 (c.put_rows-v.ensures.left block) c.feed_at.ensures

-- `paragraphs::setting_of` meets its contract.
use Rattle.options.specs.Opts.{meant}
use Rattle.paragraphs.specs.Breaks.{setting_of}
use Rattle.paragraphs.proofs.setting_of.Goals as goal

pub returns-then-o : goal.returns-then-o
unfolding setting_of meant
returns-then-o c = λ block. rw c.if-o.true

pub returns-else-o : goal.returns-else-o
unfolding setting_of meant
returns-else-o c = λ block. rw c.if-o.false

-- `words::far_word` meets its contract: the spaces, the plain characters after them, and the record of both.
use Rattle.options.specs.Opts.{meant}
use Rattle.words.proofs.far_word.Goals as goal

pub returns : goal.returns
unfolding meant
returns c = record {
  gap = c.spaces_before-b.result;
  stop = c.in_ok-end.end;
  plain = record { gap = c.spaces_before-b.ensures; word = c.in_ok-end.ensures };
  is = rw c.plain_ink-w.ensures at c.word_of.ensures;
}

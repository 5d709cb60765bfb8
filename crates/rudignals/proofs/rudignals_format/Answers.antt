-- `rudignals::rudignals_format` meets its contract.
use mathlib.Core.Path.{ap, ◌∙◌}
use lib.ListN.{length}
use Rattle.walk.specs.Digest.{most_words}
use Rattle.lists.specs.Coded.{numbered}
use Rattle.formatter.specs.Answers.{Answer, answer_coded, output_after}
use Rattle.formatter.specs.Format.{most_bytes}
use Rattle.formatter.proofs.Together.{together_they_do_what_the_old_call_did}
use Rattle.rudignals.proofs.rudignals_format.Goals as goal

pub returns : goal.returns
returns c =
    let w = c.rudignals_write.ensures in
    let out = c.args.output.now in
    let t = together_they_do_what_the_old_call_did most_bytes most_words c.args.options.now c.args.notes.now (length out) in
    (w.0 ∙ ap (λ (a : Answer). numbered (answer_coded a)) t, w.1 ∙ ap (λ (a : Answer). output_after a out) t)

-- `judge::check_lent` meets its contract.
use mathlib.Core.Path.{ap, ◌∙◌}
use Prim.Native.Nat.{ℕ, max}
use lib.ListN.{length}
use Rattle.options.specs.Opts.{meant}
use Rattle.walk.specs.Work.{work_for}
use Rattle.paragraphs.proofs.Tables.{room_holds}
use Rattle.judge.proofs.Answers.{begun_in, short_answer, lent_answer}
use Rattle.judge.proofs.check_lent.Goals as goal

pub match_pieces-requires : goal.match_pieces-requires
match_pieces-requires c = (begun_in _ _ c.begin-first.ensures, room_holds _ _ _ c.room_for-most.ensures)

pub returns-in_default : goal.returns-in_default
unfolding meant
returns-in_default c =
    let o = meant c.args.notes.block.now c.args.notes.options in
    short_answer (length c.args.work.now) o c.args.notes.bytes.now c.args.digest.now c.begin-first.result c.room_for-most.result c.room_for-most.ensures c.in_default.ensures (c.work_over-needed.ensures ∙ ap (λ (k : ℕ). max k (work_for o c.args.notes.bytes.now)) c.match_pieces.auto.table)

pub returns : goal.returns
unfolding meant
returns c =
    lent_answer (length c.args.work.now) (meant c.args.notes.block.now c.args.notes.options) c.args.notes.bytes.now c.args.digest.now c.begin-first.result c.room_for-most.result c.room_for-most.ensures c.in-Ok.ensures c.begin-first.ensures c.judge.ensures

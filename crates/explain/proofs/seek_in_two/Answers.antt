-- `explain::seek_in_two` meets its contract: what the tables reach, and from there on the larger ones.
use native.Mathlib.Omega.{arith}
use Rattle.std.proofs.Common.{Ok, Err}
use Rattle.std.proofs.lemmas.Result.{err_from_is_err_and}
use Rattle.walk.specs.Digest.{most_words}
use Rattle.explain.proofs.Seeking.{seeking_sought, seeking_stopped}
use Rattle.explain.proofs.seek_in_two.Goals as goal

pub returns-in_err-seek_in-in-Err : goal.returns-in_err-seek_in-in-Err
returns-in_err-seek_in-in-Err g c =
    let few = c.in-Err.ensures most_words c.requires.1 in
    let most = c.in_err-seek_in-in-Err.ensures most_words (omega arith) in
    let p = err_from_is_err_and c.from_residual.result c.from_residual.ensures.1 in
    rw (p.1, p.2) (seeking_sought _ _ _ few.0 (Err (record { at = _ })) (seeking_stopped _ _ _ most.0 most.1 (omega (arith, most.1.many, c.requires.2))))

pub returns-in_ok-seek_in-in-Err : goal.returns-in_ok-seek_in-in-Err
returns-in_ok-seek_in-in-Err g c = seeking_sought _ _ _ (c.in-Err.ensures most_words c.requires.1).0 (Ok _) (c.in_ok-seek_in-in-Err.ensures most_words (omega arith))

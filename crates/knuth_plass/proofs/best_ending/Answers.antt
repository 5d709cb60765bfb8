-- `knuth_plass::best_ending` meets its contract. The least break's path says which of the two words has the break.
use mathlib.Core.Path.{sym}
use Rattle.knuth_plass.proofs.Asked.{ends_before}
use Rattle.knuth_plass.proofs.best_ending.Goals as goal

pub returns-then-stands_before : goal.returns-then-stands_before
returns-then-stands_before c =
    let a = c.args in
    let p = c.requires in
    let told = c.all_told-told.ensures in
    (ends_before a.g a.n a.e a.work.now _ _ c.all_told-told.result told.0 _ c.least-last.ensures p.1 p.4 _ _ c.stands_before.ensures (sym (rw c.if-stands_before.true)) p.5, told.1)

pub returns-else-stands_before : goal.returns-else-stands_before
returns-else-stands_before c =
    let a = c.args in
    let p = c.requires in
    let told = c.all_told-told.ensures in
    (ends_before a.g a.n a.e a.work.now _ _ c.all_told-told.result told.0 _ c.least-last.ensures p.1 p.4 _ _ c.stands_before.ensures (sym (rw c.if-stands_before.false)) p.5, told.1)

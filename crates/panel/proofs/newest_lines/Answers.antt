-- `panel::newest_lines` meets its contract. Invariant: so many lines stand from the place on.
use Rattle.std.proofs.Common.{arith, sym, length, ◌≡◌, ◌-◌, ◌+◌}
use Rattle.panel.proofs.Counts.{count_from, count_end, newest_all, newest_at}
use Rattle.panel.proofs.newest_lines.Goals as goal

pub loop-last-init : goal.loop-last-init
loop-last-init c =
    let s = c.args.s.now in
    (omega arith, sym (count_end s (length s) (omega arith)), omega arith)

pub returns-then-count-more-gt24 : goal.returns-then-count-more-gt24
returns-then-count-more-gt24 c =
    let v = c.loop-last.invariant in
    let m = c.line_ends-more.ensures in
    let n : c.loop-last.last - 1 + 1 ≡ c.loop-last.last = omega arith in
    let e : c.loop-last.count ≡ count_from c.args.s.now (c.loop-last.last - 1 + 1) = rw n v.1 in
    record { within = omega arith; lines = newest_at _ _ (omega arith) _ _ e v.2 m.0 m.1 c.if-count-more-gt24.true; count = e; few = v.2 }

pub returns : goal.returns
returns c =
    let l = c.loop-last in
    let z : l.last ≡ 0 = omega arith in
    let v = l.invariant in
    record { within = omega arith; lines = newest_all _ (omega (arith, rw z at v.1)); count = rw z at v.1; few = v.2 }

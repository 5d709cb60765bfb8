-- `regular::put_word` meets its contract.
use Rattle.regular.proofs.Words.{put_head, put_fresh, put_on, put_stays}
use Rattle.regular.proofs.put_word.Goals as goal

pub returns-then-r : goal.returns-then-r
returns-then-r c =
    let p = c.requires in put_head _ _ _ _ _ _ p.0 p.5 p.6 p.7 c.if-r.true (p.9.1 c.if-r.true) p.2 _ _ c.put_at-j.ensures

pub returns-then-g-column : goal.returns-then-g-column
returns-then-g-column c =
    let p = c.requires in
    put_fresh _ _ _ _ _ _ p.0 p.5 p.6 p.7 c.if-r.false _ c.reach-column.ensures.0 c.if-g-column.true p.2 p.10 _ _ c.put_line-j.ensures.0 c.put_line-j.ensures.1

pub returns-then-is_gap : goal.returns-then-is_gap
returns-then-is_gap c =
    let p = c.requires in
    put_on _ _ _ _ _ _ p.0 p.5 p.6 p.7 c.if-r.false _ c.reach-column.ensures.0 c.if-g-column.false p.11 _ c.added_space-added.ensures.is (c.is_gap.ensures c.if-is_gap.true)

pub returns : goal.returns
returns c =
    let p = c.requires in
    put_stays _ _ _ _ _ _ p.0 p.5 p.6 p.7 c.if-r.false _ c.reach-column.ensures.0 c.if-g-column.false p.11 _ c.added_space-added.ensures.is _ _ _ _ c.put_at-i.ensures c.spaces_at-j.ensures.0 c.spaces_at-j.ensures.1

-- `knuth_plass::interval::round` meets its contract. One law for each way through it: begin again, the last word, none is offered, one break more.
use mathlib.Core.Path.{refl, ap, ◌∙◌}
use native.Mathlib.Omega.{arith}
use Rattle.knuth_plass.specs.Cited.Table.{table_in}
use Rattle.knuth_plass.proofs.Table.{has_room, table_record}
use Rattle.knuth_plass.proofs.Span.{columns_at}
use Rattle.knuth_plass.proofs.Rounding.{room, again_fits, round_again, inside, round_last, round_short, stays, has_offer, made_fits, round_made}
use Rattle.knuth_plass.proofs.interval.round.Goals as goal

pub store_break-requires : goal.store_break-requires
store_break-requires c =
    let a = c.args in
    let p = c.requires in
    let added = c.added_space-space.ensures in
    let passed = c.pass-head.ensures in
    let begins = rw (c.round_of-r.ensures.0, c.round_of-r.ensures.1) at c.again-b.ensures in
    (has_room a.breaks.now a.s.size (room a.g.setting a.last a.sentence a.i a.gap a.word a.s (table_in a.breaks.now) p.0 p.1 p.2 p.3 _ added.most added.is _ refl _ passed), again_fits a.g.setting a.last a.sentence a.i a.gap a.word a.s (table_in a.breaks.now) p.0 p.1 p.2 p.3 _ added.most added.is _ refl _ passed c.if-head-size.true _ _ begins)

pub returns-then-head-size : goal.returns-then-head-size
returns-then-head-size c =
    let a = c.args in
    let p = c.requires in
    let added = c.added_space-space.ensures in
    let passed = c.pass-head.ensures in
    let begins = rw (c.round_of-r.ensures.0, c.round_of-r.ensures.1) at c.again-b.ensures in
    let stored = ap table_in c.store_break.ensures ∙ table_record a.breaks.now a.s.size _ (room a.g.setting a.last a.sentence a.i a.gap a.word a.s (table_in a.breaks.now) p.0 p.1 p.2 p.3 _ added.most added.is _ refl _ passed) in
    round_again a.g.setting a.last a.sentence a.i a.gap a.word a.s (table_in a.breaks.now) p.0 p.1 p.2 p.3 _ added.most added.is _ refl _ passed c.if-head-size.true _ _ begins _ stored

pub returns-then-last : goal.returns-then-last
returns-then-last c =
    let a = c.args in
    let p = c.requires in
    let added = c.added_space-space.ensures in
    let passed = c.pass-head.ensures in
    round_last a.g.setting a.last a.sentence a.i a.gap a.word a.s (table_in a.breaks.now) p.0 p.1 p.2 p.3 _ added.most added.is _ refl _ passed c.if-head-size.false c.if-last.true

pub number-requires : goal.number-requires
number-requires c =
    let a = c.args in
    let p = c.requires in
    let added = c.added_space-space.ensures in
    let passed = c.pass-head.ensures in
    let room = room a.g.setting a.last a.sentence a.i a.gap a.word a.s (table_in a.breaks.now) p.0 p.1 p.2 p.3 _ added.most added.is _ refl _ passed in
    let stay = inside a.g.setting a.last a.sentence a.i a.gap a.word a.s (table_in a.breaks.now) p.0 p.1 p.2 p.3 _ added.most added.is _ refl _ passed c.if-head-size.false in
    (has_room a.breaks.now c.pass-head.result (omega arith), omega arith)

pub returns-then-line-g : goal.returns-then-line-g
returns-then-line-g c =
    let a = c.args in
    let p = c.requires in
    let added = c.added_space-space.ensures in
    let passed = c.pass-head.ensures in
    let room = room a.g.setting a.last a.sentence a.i a.gap a.word a.s (table_in a.breaks.now) p.0 p.1 p.2 p.3 _ added.most added.is _ refl _ passed in
    let stay = inside a.g.setting a.last a.sentence a.i a.gap a.word a.s (table_in a.breaks.now) p.0 p.1 p.2 p.3 _ added.most added.is _ refl _ passed c.if-head-size.false in
    let e = columns_at a.breaks.now c.pass-head.result (omega arith) in
    let n = c.number.ensures.0 in
    let h = c.if-line-g.true in
    round_short a.g.setting a.last a.sentence a.i a.gap a.word a.s (table_in a.breaks.now) p.0 p.1 p.2 p.3 _ added.most added.is _ refl _ passed c.if-head-size.false c.if-last.false (omega arith)

pub best_offer-best-requires : goal.best_offer-best-requires
best_offer-best-requires c =
    let a = c.args in
    let p = c.requires in
    let added = c.added_space-space.ensures in
    let passed = c.pass-head.ensures in
    let turn = c.round_of-r-2.ensures in
    rw (turn.0, turn.1) (stays a.g.setting a.last a.sentence a.i a.gap a.word a.s (table_in a.breaks.now) p.0 p.1 p.2 p.3 _ added.most added.is _ refl _ passed c.if-head-size.false c.if-last.false _)

pub made-b-requires : goal.made-b-requires
made-b-requires c =
    let a = c.args in
    let p = c.requires in
    let added = c.added_space-space.ensures in
    let passed = c.pass-head.ensures in
    let turn = c.round_of-r-2.ensures in
    let offered = rw (turn.0, turn.1) at c.best_offer-best.ensures in
    let room = room a.g.setting a.last a.sentence a.i a.gap a.word a.s (table_in a.breaks.now) p.0 p.1 p.2 p.3 _ added.most added.is _ refl _ passed in
    let stay = inside a.g.setting a.last a.sentence a.i a.gap a.word a.s (table_in a.breaks.now) p.0 p.1 p.2 p.3 _ added.most added.is _ refl _ passed c.if-head-size.false in
    let e = columns_at a.breaks.now c.pass-head.result (omega arith) in
    let n = c.number.ensures.0 in
    let h = c.if-line-g.false in
    (offered.fits (has_offer a.g.setting a.last a.sentence a.i a.gap a.word a.s (table_in a.breaks.now) p.0 p.1 p.2 p.3 _ added.most added.is _ refl _ passed c.if-head-size.false c.if-last.false _ (omega arith) _ offered)).ratio

pub store_break-requires-2 : goal.store_break-requires-2
store_break-requires-2 c =
    let a = c.args in
    let p = c.requires in
    let added = c.added_space-space.ensures in
    let passed = c.pass-head.ensures in
    let turn = c.round_of-r-2.ensures in
    let offered = rw (turn.0, turn.1) at c.best_offer-best.ensures in
    let room = room a.g.setting a.last a.sentence a.i a.gap a.word a.s (table_in a.breaks.now) p.0 p.1 p.2 p.3 _ added.most added.is _ refl _ passed in
    let stay = inside a.g.setting a.last a.sentence a.i a.gap a.word a.s (table_in a.breaks.now) p.0 p.1 p.2 p.3 _ added.most added.is _ refl _ passed c.if-head-size.false in
    let e = columns_at a.breaks.now c.pass-head.result (omega arith) in
    let n = c.number.ensures.0 in
    let h = c.if-line-g.false in
    (has_room a.breaks.now a.s.size room, made_fits a.g.setting a.last a.sentence a.i a.gap a.word a.s (table_in a.breaks.now) p.0 p.1 p.2 p.3 _ added.most added.is _ refl _ passed c.if-head-size.false c.if-last.false _ (omega arith) _ offered _ c.made-b.ensures)

pub returns : goal.returns
returns c =
    let a = c.args in
    let p = c.requires in
    let added = c.added_space-space.ensures in
    let passed = c.pass-head.ensures in
    let turn = c.round_of-r-2.ensures in
    let offered = rw (turn.0, turn.1) at c.best_offer-best.ensures in
    let room = room a.g.setting a.last a.sentence a.i a.gap a.word a.s (table_in a.breaks.now) p.0 p.1 p.2 p.3 _ added.most added.is _ refl _ passed in
    let stay = inside a.g.setting a.last a.sentence a.i a.gap a.word a.s (table_in a.breaks.now) p.0 p.1 p.2 p.3 _ added.most added.is _ refl _ passed c.if-head-size.false in
    let e = columns_at a.breaks.now c.pass-head.result (omega arith) in
    let n = c.number.ensures.0 in
    let h = c.if-line-g.false in
    let stored = ap table_in c.store_break-2.ensures ∙ table_record a.breaks.now a.s.size _ room in
    round_made a.g.setting a.last a.sentence a.i a.gap a.word a.s (table_in a.breaks.now) p.0 p.1 p.2 p.3 _ added.most added.is _ refl _ passed c.if-head-size.false c.if-last.false _ (omega arith) _ offered _ c.made-b.ensures _ stored

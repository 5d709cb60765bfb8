-- `regular::join` meets its contract.
use Prim.Native.Nat.{◌-◌, ◌≤◌}
use native.Mathlib.Omega.{arith}
use Rattle.regular.proofs.Columns.{columns_some, columns_size}
use Rattle.regular.proofs.Cuts.{cut_columns}
use Rattle.regular.proofs.EvenParts.{rest_even}
use Rattle.regular.proofs.Joining.{join_all, join_rest, join_cut, join_off, join_found}
use Rattle.regular.proofs.join.Goals as goal

pub overflow_add-begin-2 : goal.overflow_add-begin-2
overflow_add-begin-2 c =
    let few : c.args.columns ≤ c.args.e - c.args.p = omega (arith, c.requires.1, columns_size c.args.s.now c.args.p c.args.e c.requires.0.within) in
    let pre = c.requires in omega (arith, few, c.added_of-extra.ensures.1, pre.0.within, pre.4, pre.6)

pub returns-then-begin-columns : goal.returns-then-begin-columns
returns-then-begin-columns c =
    let pre = c.requires in
    let extra = c.added_of-extra.ensures.0 in
    join_all _ _ _ _ _ _ _ _ _ pre.0 pre.2 (omega (arith, extra, pre.1, c.if-begin-columns.true)) pre.4 _ _ _ _ (rw extra at c.spaces_at-j.ensures.0) c.put_at.ensures (omega (arith, extra, pre.1))

pub place_of-at-requires : goal.place_of-at-requires
place_of-at-requires c =
    let inked = c.requires.0 in (
      omega (arith, inked.on),
      inked.within,
      c.requires.1,
      omega (arith, c.saturating_sub-room.ensures, c.if-begin-columns.false, c.requires.1, columns_some c.args.s.now c.args.p c.args.e c.args.e inked.on (omega arith) inked.within inked.letters),
    )

pub overflow_sub-left : goal.overflow_sub-left
overflow_sub-left c =
    let found = join_found _ _ _ _ _ c.requires.0 c.place_of-at.ensures.on c.place_of-at.ensures.most c.last_space-q.ensures _ _ c.if-p-q.true c.before_spaces-end.ensures c.over_spaces-next.ensures in
    let rest = cut_columns found c.requires.1 c.columns_before.ensures in
    omega (arith, rest)

pub fill-requires : goal.fill-requires
fill-requires c =
    let found = join_found _ _ _ _ _ c.requires.0 c.place_of-at.ensures.on c.place_of-at.ensures.most c.last_space-q.ensures _ _ c.if-p-q.true c.before_spaces-end.ensures c.over_spaces-next.ensures in
    let rest = cut_columns found c.requires.1 c.columns_before.ensures in
    let pre = c.requires in
    (found.rest, omega (arith, rest), λ u. rest_even c.args.s.now c.args.p c.over_spaces-next.result c.args.e (omega (arith, found.on, found.gap)) found.rest.on found.rest.within found.rest.first (pre.2 u), pre.3, pre.4, omega (arith, c.put_line-j.ensures.1, c.spaces_at-i.ensures.1, pre.5), omega (arith, pre.7), omega (arith, pre.7))

pub returns-then-p-q : goal.returns-then-p-q
returns-then-p-q c =
    let found = join_found _ _ _ _ _ c.requires.0 c.place_of-at.ensures.on c.place_of-at.ensures.most c.last_space-q.ensures _ _ c.if-p-q.true c.before_spaces-end.ensures c.over_spaces-next.ensures in
    let pre = c.requires in
    let extra = c.added_of-extra.ensures.0 in
    let put = c.put_line-j.ensures in
    let spaces = c.spaces_at-i.ensures in
    join_rest _ _ _ _ _ _ _ _ _ pre.0 pre.2 _ (omega (arith, found.on, found.gap)) found.rest.on _ _ (omega (arith, put.1, spaces.1, found.on, found.gap))
    (join_cut _ _ _ _ _ _ _ _ _ pre.0 pre.2 _ _ _ (omega (arith, c.saturating_sub-room.ensures, extra)) c.place_of-at.ensures found (omega (arith, c.before_spaces-end.ensures.most, c.last_space-q.ensures.most)) _ _ _ _ (rw extra at spaces.0) put.0)
    _ _ c.fill.ensures

pub returns : goal.returns
returns c =
    let pre = c.requires in
    let extra = c.added_of-extra.ensures.0 in
    let broken = c.break_at.ensures in
    let last = c.last_space-q.ensures in
    join_rest _ _ _ _ _ _ _ _ _ pre.0 pre.2 _ (omega arith) pre.0.on _ _ (omega (arith, broken.1))
    (join_off _ _ _ _ _ _ _ _ _ pre.0 pre.2 _ _ (omega (arith, c.saturating_sub-room.ensures, extra)) c.place_of-at.ensures (λ i a h. last.none i (omega (arith, c.if-p-q.false)) h) _ _ broken.0)
    _ _ c.fill-2.ensures

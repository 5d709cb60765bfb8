-- `index::store_records` meets its contract.
use Rattle.std.proofs.Common.{◌≡◌, refl, ap, ◌∙◌, add-one, arith, take, drop, ◌++◌, List, ℕ, length-take}
use Rattle.index.specs.declared.Record.{Record}
use Rattle.marks.specs.Cited.Marks.{marks_in}
use Rattle.index.specs.Cited.Lists.{no_record}
use Rattle.index.specs.Cited.Reading.{front, record_after, read_from}
use Rattle.index.proofs.Reading.{last_within, last_more, read_more, read_all}
use Rattle.index.proofs.store_records.Goals as goal

pub loop-slot-init : goal.loop-slot-init
unfolding read_from
loop-slot-init c =
    let e = c.default-r.ensures in
    (λ i. record { place = e.0 i; length = e.1.0 i; first = e.1.1.0 i; count = e.1.1.1 i }, refl)

pub next_record-r-requires : goal.next_record-r-requires
next_record-r-requires c = rw c.loop-slot.invariant.0 (last_within (front c.args.marks.now) c.loop-slot.slot-index no_record (omega arith))

pub loop-slot-preserved : goal.loop-slot-preserved
loop-slot-preserved c =
    let marks = marks_in (front c.args.marks.now) in
    let next = c.next_record-r.ensures ∙ ap (record_after marks) c.loop-slot.invariant.0 in (
      rw (add-one c.loop-slot.slot-index) (next ∙ last_more marks c.loop-slot.slot-index no_record),
      rw (add-one c.loop-slot.slot-index, c.loop-slot.invariant.1, next) (read_more marks c.loop-slot.slot-index no_record (take c.args.n c.args.index.now) (omega arith)),
    )

pub returns : goal.returns
returns c =
    let n = length-take c.args.n c.args.index.now in
    let done : c.loop-slot.slot-index ≡ c.args.n = omega arith in
    ap (λ (rs : List Record). rs ++ drop c.args.n c.args.index.now)
    (c.loop-slot.invariant.1 ∙ read_all (marks_in (front c.args.marks.now)) c.loop-slot.slot-index no_record (take c.args.n c.args.index.now) (omega arith)
    ∙ ap (λ (k : ℕ). read_from (marks_in (front c.args.marks.now)) k no_record) done)

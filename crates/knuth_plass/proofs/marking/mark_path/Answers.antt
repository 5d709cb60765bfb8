-- `knuth_plass::marking::mark_path` meets its contract. Invariant: the marks and the path from here say what the first marks and the whole path say. The measure is the record's number.
use mathlib.Core.Path.{sym, ap, ◌∙◌}
use mathlib.Core.List.{List}
use Prim.Native.Nat.{ℕ, ◌<◌}
use native.Mathlib.Omega.{arith}
use Rattle.records.specs.Cited.Marks.{mark_in}
use Rattle.knuth_plass.specs.Cited.Table.{records_part, table_in, break_in}
use Rattle.knuth_plass.proofs.Work.{part_room, part_marked}
use Rattle.knuth_plass.proofs.Marks.{marking_next, step_back, at_start}
use Rattle.knuth_plass.proofs.marking.mark_path.Goals as goal

pub get_break-b-requires : goal.get_break-b-requires
get_break-b-requires c =
    let v = c.loop-at.invariant.0 in let h = c.requires.1 in rw (part_marked c.args.n c.args.work.now c.loop-at.work c.loop-at.invariant.1, part_room c.args.n c.args.work.now c.requires.0) (omega arith)

pub starts-requires : goal.starts-requires
starts-requires c =
    rw (c.get_break-b.ensures, part_marked c.args.n c.args.work.now c.loop-at.work c.loop-at.invariant.1) (c.requires.2 _ c.loop-at-test.true c.loop-at.invariant.0).1

pub loop-at-smaller : goal.loop-at-smaller
loop-at-smaller c =
    rw (c.get_break-b.ensures, part_marked c.args.n c.args.work.now c.loop-at.work c.loop-at.invariant.1) (c.requires.2 _ c.loop-at-test.true c.loop-at.invariant.0).0

pub loop-at-preserved : goal.loop-at-preserved
loop-at-preserved c =
    let l = c.loop-at in
    let v = l.invariant in
    let t = c.loop-at-test.true in
    let table = table_in (records_part c.args.n c.args.work.now) in
    let got = c.get_break-b.ensures ∙ ap (λ (xs : List ℕ). break_in (table_in xs) l.at) (part_marked c.args.n c.args.work.now c.loop-at.work c.loop-at.invariant.1) in
    let d : c.get_break-b.result.previous < l.at = rw got (c.requires.2 _ t v.0).0 in
    let m = c.mark.ensures in (
      omega arith,
      marking_next c.args.n c.args.work.now l.work _ v.1 _ m,
      λ j h. step_back table c.args.last l.at j (mark_in l.work j) _ _ _ c.requires.2 t v.0 got c.starts.ensures (m.marks j h) ∙ v.2 j h,
    )

pub returns : goal.returns
returns c =
    let l = c.loop-at in
    let v = l.invariant in
    record {
      sized = v.1.sized;
      marks = λ j h. sym (at_start (table_in (records_part c.args.n c.args.work.now)) c.args.last l.at j (mark_in l.work j) c.loop-at-test.false) ∙ v.2 j h;
      words = v.1.words;
      beyond = v.1.beyond;
    }

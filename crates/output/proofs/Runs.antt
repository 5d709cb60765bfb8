-- The laws of runs: spaces of the notes, a word that joins, the run's start and one word more.
use mathlib.Core.Path.{◌≡◌, sym, ap, ◌∙◌}
use mathlib.Core.Bool.{Bool, false}
use mathlib.Core.List.{List, ◌++◌, append_assoc}
use Prim.Native.Nat.{ℕ, ◌+◌, ◌<◌}
use native.Mathlib.Omega.{arith}
use lib.ListN.{length, replicate}
use lib.Seq.{slice}
use Rattle.lists.proofs.Joins.{slice_join}
use Rattle.records.specs.declared.Word.{Word as Record}
use Rattle.records.specs.Word.{meaning}
use Rattle.records.specs.Cited.Table.{Within, Got}
use Rattle.records.specs.Cited.Marks.{mark_in}
use Rattle.spacing.specs.Spacing.{added_space}
use Rattle.output.specs.declared.Layout.{Layout}
use Rattle.output.specs.declared.Run.{Run}
use Rattle.output.specs.Cited.Sink.{Wrote, Left}
use Rattle.output.specs.Cited.Writers.{margin_of, placed, Laid, emitted, emitted_from}
use Rattle.output.specs.Cited.Runs.{Joins, Runs}
use Rattle.output.proofs.Sink.{wrote_then, left_then}
use Rattle.output.proofs.Emission.{joined, turn_within, rest_turn, emit_first}

-- ---- spaces of the notes

-- ---- a word that joins

pub joins : (notes : List ℕ) (w : Record) (added at : ℕ) → Within (length notes) w → at + added ≡ w.from → slice at (at + added) notes ≡ replicate added 32 → Joins notes w false added at
joins notes w added at within e s =
    let a = within.gap in
    let b = within.text in
    record {
      order = omega arith;
      is = λ indent.
          joined notes w added indent within
          ∙ rw (← s, e) (slice_join at w.from w.end notes (omega arith) (omega arith) within.end);
    }

-- ---- a run

module _ {notes table : List ℕ} {n : ℕ} {l : Layout} {at : ℕ} {punct : Bool} {i : ℕ} where
  pub run_more : {r : Run} {w : Record} {added : ℕ} → Laid notes table n l → Runs notes table n l at punct i r → r.next < n → Got table r.next w
      → added ≡ added_space l.uniform w.first w.sentence r.punct → mark_in table r.next ≡ false → Joins notes w false added r.end
      → Runs notes table n l at punct i (record { next = r.next + 1; end = w.end; punct = w.punct })
  run_more {r} {w} {added} laid run more got a f j =
      let behind = emitted_from notes table n l w.punct (r.next + 1) in
      let within = turn_within laid got more in
      let here : placed (mark_in table r.next) (added_space l.uniform w.first w.sentence r.punct) (margin_of notes l.indent) (meaning notes w) ≡ slice r.end w.end notes = rw (f, ← a) (j.is (margin_of notes l.indent)) in
      record {
        on = omega (arith, run.on);
        few = omega arith;
        order = omega (arith, run.order, j.order);
        within = within.end;
        is =
            run.is
            ∙ ap (λ (x : List ℕ). slice at r.end notes ++ x) (rest_turn laid got more r.punct ∙ ap (λ (x : List ℕ). x ++ behind) here)
            ∙ sym (append_assoc (slice at r.end notes) (slice r.end w.end notes) behind)
            ∙ ap (λ (x : List ℕ). x ++ behind) (slice_join at r.end w.end notes run.order j.order within.end);
      }

-- ---- a run written as one piece

module _ {notes table : List ℕ} {n : ℕ} {l : Layout} {i : ℕ} {w : Record} {r : Run} (laid : Laid notes table n l) (got : Got table i w) (more : i < n) where
  -- a word that begins a run, and the run
  run_turn : (punct : Bool) → Runs notes table n l w.end w.punct (i + 1) r → emitted_from notes table n l punct i
      ≡ (placed (mark_in table i) (added_space l.uniform w.first w.sentence punct) (margin_of notes l.indent) (meaning notes w) ++ slice w.end r.end notes)
      ++ emitted_from notes table n l r.punct r.next
  run_turn punct run = rest_turn laid got more punct ∙ rw (append_assoc, run.is)

  pub turn_left : (punct : Bool) (added : ℕ) {fresh : Bool} {o₀ o o' : List ℕ} {n₀ k k' : ℕ} {d₀ : List ℕ} → added ≡ added_space l.uniform w.first w.sentence punct → fresh ≡ mark_in table i
      → Runs notes table n l w.end w.punct (i + 1) r → Left o₀ n₀ d₀ o k (emitted_from notes table n l punct i)
      → Wrote o k (placed fresh added (margin_of notes l.indent) (meaning notes w) ++ slice w.end r.end notes) o' k'
      → Left o₀ n₀ d₀ o' k' (emitted_from notes table n l r.punct r.next)
  turn_left punct added a f run p q = left_then (rw (run_turn punct run) at p) (rw (a, f) at q)

-- the first word with its run, and the rest
pub first_wrote : {notes table : List ℕ} {n : ℕ} {l : Layout} {w : Record} {r : Run} {o o' o'' : List ℕ} {at k r' : ℕ} → Laid notes table n l → Got table 0 w
    → Runs notes table n l w.end false 1 r → Wrote o at (margin_of notes l.first ++ slice w.start r.end notes) o' k
    → Wrote o' k (emitted_from notes table n l r.punct r.next) o'' r' → Wrote o at (emitted notes table n l) o'' r'
unfolding meaning
first_wrote {notes} {table} {n} {l} {w} {r} laid got run p q =
    let within = turn_within laid got laid.some in
    let behind = emitted_from notes table n l r.punct r.next in
    let e : emitted notes table n l ≡ (margin_of notes l.first ++ slice w.start r.end notes) ++ behind =
    emit_first notes table n l w got.is laid.some
    ∙ ap (λ (x : List ℕ). margin_of notes l.first ++ x)
    (ap (λ (x : List ℕ). slice w.start w.end notes ++ x) run.is
    ∙ sym (append_assoc (slice w.start w.end notes) (slice w.end r.end notes) behind)
    ∙ ap (λ (x : List ℕ). x ++ behind) (slice_join w.start w.end r.end notes within.text run.order run.within))
    ∙ sym (append_assoc (margin_of notes l.first) (slice w.start r.end notes) behind) in
    rw e (wrote_then p q)

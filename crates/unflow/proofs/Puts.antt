-- What the writers of a line have written, put together.
use mathlib.Core.Path.{◌≡◌, sym, ap, ◌∙◌}
use mathlib.Core.Bool.{Bool, true, false, not, ◌&&◌}
use mathlib.Core.List.{List}
use Prim.Native.Nat.{ℕ, ◌+◌, ◌-◌, ◌≤◌}
use native.Mathlib.Omega.{arith}
use lib.Dec.{eqb}
use lib.ListN.{length, take, drop, replicate, length-replicate, length-drop, length-take}
use lib.Seq.{slice}
use Rattle.lists.proofs.Fronts.{part_to_end}
use Rattle.output.specs.Cited.Sink.{Wrote}
use Rattle.output.proofs.Sink.{wrote_nil, wrote_then}
use Rattle.unflow.specs.Flowed.{stuffing, content_of}
use Rattle.unflow.specs.Cited.Steps.{Parted, joins, end_of, start_of, placed}
use Rattle.unflow.specs.declared.Line.{Line}
use Rattle.unflow.proofs.Lines.{slice_all}
use Rattle.unflow.proofs.Texts.{end_most, start_most}

-- ---- before a line's content, and all of it

module _ (line : List ℕ) (l : Line) (going : Bool) (depth : ℕ) (p : Parted line l) where
  pub start_joined : (o : List ℕ) → (going && eqb depth l.depth && not l.separator) ≡ true → Wrote o 0 (start_of going depth line) o 0
  unfolding start_of joins
  start_joined o h = rw (p.depth, p.separator, h) (wrote_nil o 0)

  pub start_apart : (s : ℕ) {o o₁ o₂ o₃ : List ℕ} {k m r : ℕ} → (going && eqb depth l.depth && not l.separator) ≡ false
      → Wrote o 0 (end_of going) o₁ k → Wrote o₁ k (slice 0 l.depth line) o₂ m
      → replicate s 32 ≡ stuffing (take (length line - l.start) (drop l.start line)) → Wrote o₂ m (replicate s 32) o₃ r
      → Wrote o 0 (start_of going depth line) o₃ r
  unfolding start_of joins
  start_apart s h a b e c =
      let f : replicate s 32 ≡ stuffing (content_of line) = e ∙ ap stuffing (part_to_end l.start line ∙ sym p.content) in
      rw (p.depth, p.separator, h, ← p.marks, ← f) (wrote_then a (wrote_then b c))

  pub line_placed : {o o₁ o₂ o₃ : List ℕ} {k m r : ℕ} → Wrote o 0 (start_of going depth line) o₁ k
      → Wrote o₁ k (slice l.start (length line) line) o₂ m → Wrote o₂ m (end_of (not l.soft)) o₃ r
      → Wrote o 0 (placed going depth line) o₃ r
  unfolding placed
  line_placed a b c = rw (p.content, p.soft, ← slice_all line l.start p.within) (wrote_then a (wrote_then b c))

  pub wrote_start : {o o' : List ℕ} {r : ℕ} → Wrote o 0 (start_of going depth line) o' r → r ≤ length line + 3
  wrote_start w = omega (arith, w.count, start_most line l p going depth, end_most going, p.depth, p.order, p.within)

-- ---- how much was written

pub wrote_end : (b : Bool) {o o' : List ℕ} {r : ℕ} → Wrote o 0 (end_of b) o' r → r ≤ 2
wrote_end b w = omega (arith, w.count, end_most b)

pub wrote_spaces : (s : ℕ) {o o' : List ℕ} {r : ℕ} → Wrote o 0 (replicate s 32) o' r → r ≡ s
wrote_spaces s w = omega (arith, w.count, length-replicate {A = ℕ} s 32)

pub wrote_marks : (line : List ℕ) (d : ℕ) {o o' : List ℕ} {r : ℕ} → Wrote o 0 (slice 0 d line) o' r → r ≤ length line
wrote_marks line d w = omega (arith, w.count, length-take d line)

pub wrote_content : (line : List ℕ) (at : ℕ) {o o' : List ℕ} {r : ℕ} → at ≤ length line → Wrote o 0 (slice at (length line) line) o' r → r ≤ length line
wrote_content line at h w = omega (arith, w.count, ap length (slice_all line at h), length-drop at line)

-- Emission is no longer than its bound says.
use mathlib.Core.Bool.{Bool, true, false}
use mathlib.Core.List.{List, [], ◌∷◌}
use Prim.Native.Nat.{ℕ, ◌+◌, ◌*◌, ◌≤◌}
use native.Mathlib.Nat.{suc-mul}
use native.Mathlib.Omega.{arith}
use lib.ListN.{length, length-append, length-replicate}
use Rattle.records.specs.Word.{Word}
use Rattle.records.specs.Cited.Table.{words_in}
use Rattle.records.specs.Cited.Marks.{breaks_of}
use Rattle.spacing.proofs.Laws.{added_most}
use Rattle.output.specs.declared.Layout.{Layout}
use Rattle.output.specs.Cited.Bound.{bulk, longest, most_emitted}
use Rattle.output.specs.Emission.{space_before, emit_rest, emit}
use Rattle.output.specs.Cited.Sink.{Wrote}
use Rattle.output.specs.Cited.Writers.{margin_of, emitted}

space_most : (uniform punct : Bool) (w : Word) → length (space_before uniform punct w) ≤ length w.blanks + 2
unfolding space_before
space_most uniform punct w = let a = added_most uniform w.new_line w.sentence_start punct in simp (length-append, length-replicate) (omega arith)

module _ (uniform : Bool) (indent : List ℕ) where
  rest_most : (punct : Bool) (breaks : List Bool) (ws : List Word)
      → length (emit_rest uniform indent punct breaks ws) ≤ bulk ws + length ws * (length indent + 2) + 1
  unfolding emit_rest bulk
  rest_most punct breaks [] = omega arith
  rest_most punct [] (w ∷ ws) =
      let r = rest_most w.ends_punct [] ws in
      let s = space_most uniform punct w in
      rw (length-append, length-append, suc-mul) (omega arith)
  rest_most punct (true ∷ bs) (w ∷ ws) =
      let r = rest_most w.ends_punct bs ws in
      simp (length-append, suc-mul) (omega arith)
  rest_most punct (false ∷ bs) (w ∷ ws) =
      let r = rest_most w.ends_punct bs ws in
      let s = space_most uniform punct w in
      rw (length-append, length-append, suc-mul) (omega arith)

  pub emit_most : (first : List ℕ) (breaks : List Bool) (ws : List Word)
      → length (emit uniform first indent breaks ws) ≤ longest first indent ws
  unfolding emit bulk
  emit_most first breaks [] = omega arith
  emit_most first breaks (w ∷ ws) = let r = rest_most false breaks ws in rw (length-append, length-append, suc-mul) (omega arith)

-- the same of what a table means
pub emitted_most : (notes table : List ℕ) (n : ℕ) (l : Layout) → length (emitted notes table n l) ≤ most_emitted notes table n l
emitted_most notes table n l = emit_most l.uniform (margin_of notes l.indent) (margin_of notes l.first) (breaks_of n table) (words_in notes n table)

-- so is the place after it
pub with_most : (notes table : List ℕ) (n : ℕ) (l : Layout) {o o' : List ℕ} {at r : ℕ} → Wrote o at (emitted notes table n l) o' r
    → Wrote o at (emitted notes table n l) o' r × (r ≤ at + most_emitted notes table n l)
with_most notes table n l w = (w, omega (arith, w.count, emitted_most notes table n l))

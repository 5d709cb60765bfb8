-- The laws of copying: a byte or a block more, which may begin among the bytes that are written already; a space more; and a text that is
-- clipped to the room there is.
use mathlib.Core.Path.{◌≡◌, refl, sym, ap, ◌∙◌}
use mathlib.Core.List.{List, [], ◌∷◌, ◌++◌}
use Prim.Native.Nat.{ℕ, zero, suc, min, ◌+◌, ◌-◌, ◌≤◌, ◌<◌}
use native.Mathlib.Nat.{suc-min-suc}
use native.Mathlib.Omega.{arith}
use Rattle.std.proofs.lemmas.List.{take-replicate}
use lib.ListN.{length, get_or, take, drop, set, replicate, length-take, length-replicate}
use lib.Seq.{slice, length-slice, take-nil, take_all, take-take}
use Rattle.lists.proofs.Slices.{slice_is, slice_one}
use Rattle.output.specs.Cited.Sink.{paint, written, Wrote}
use Rattle.output.proofs.Sink.{written_nil, written_fits, wrote_byte, wrote_length}

-- ---- over what is written already

repaint : (d e o : List ℕ) → length e ≤ length d → paint d (paint e o) ≡ paint d o
unfolding paint
repaint d e [] h = refl
repaint d [] (x ∷ o) h = refl
repaint [] (z ∷ e) (x ∷ o) h = absurd (omega arith)
repaint (y ∷ d) (z ∷ e) (x ∷ o) h = ap (λ (l : List ℕ). y ∷ l) (repaint d e o (omega arith))

over : (j k : ℕ) (d o : List ℕ) → j ≤ k → written j (paint (take k d) o) (drop j d) ≡ paint d o
unfolding written paint
over zero k d o h = repaint d (take k d) o (simp length-take (omega arith))
over (suc j) zero d o h = absurd (omega arith)
over (suc j) (suc k) d [] h = refl
over (suc j) (suc k) [] (x ∷ o) h = written_nil (suc j) (x ∷ o)
over (suc j) (suc k) (y ∷ d) (x ∷ o) h = ap (λ (l : List ℕ). y ∷ l) (over j k d o (omega arith))

-- the text up to place k is written, and then a piece of it from place j on, which begins there or before and reaches at least as far
pub covered : {o o' o'' : List ℕ} (text : List ℕ) (j k m : ℕ) → j ≤ k → k ≤ j + m → j + m ≤ length text → Wrote o 0 (take k text) o' k
    → Wrote o' j (slice j (j + m) text) o'' (j + m) → Wrote o 0 (take (j + m) text) o'' (j + m)
unfolding written
covered {o} text j k m h l t w v =
    record { count = simp length-take (omega arith); bytes = v.bytes ∙ rw (w.bytes, ← take-take k (j + m) text l) (over j k (take (j + m) text) o h) }

-- ---- a byte, and a block of bytes

pub byte_over : {o o' : List ℕ} (text : List ℕ) (j k : ℕ) → j ≤ k → k ≤ j + 1 → j < length text → j < length o → Wrote o 0 (take k text) o' k
    → Wrote o 0 (take (j + 1) text) (set o' j (get_or text j 0)) (j + 1)
byte_over {o} {o'} text j k h l t r w = covered text j k 1 h l (omega arith) w (rw (slice_one 0 text j t) (wrote_byte o' j (get_or text j 0) (omega (arith, wrote_length w))))

-- a block that was copied to its place
pub block_wrote : (text o ys : List ℕ) (at n : ℕ) → at + n ≤ length text → at + n ≤ length o → ys ≡ take (at + n - at) (drop at text)
    → Wrote o at (slice at (at + n) text) (take at o ++ (ys ++ drop (at + n - at) (drop at o))) (at + n)
block_wrote text o ys at n h k e =
    let size : at + n - at ≡ n = omega arith in
    let l : length (slice at (at + n) text) ≡ n = rw size at (length-slice at (at + n) text h) in
    record { count = rw l; bytes = rw (e, size, ← slice_is at n text) (sym (rw l at (written_fits at o (slice at (at + n) text) (omega arith)))) }

-- so the whole text is written
pub copied_all : {o o' : List ℕ} (text : List ℕ) (n : ℕ) → n ≤ length text → length text ≤ n → Wrote o 0 (take n text) o' n → Wrote o 0 text o' (length text)
copied_all text n h k w =
    let e : n ≡ length text = omega arith in
    rw (e, take_all (length text) text (omega arith)) at w

-- ---- as far as there is room

paint_clip : (d o : List ℕ) → paint (take (min (length d) (length o)) d) o ≡ paint d o
unfolding paint
paint_clip d [] = refl
paint_clip [] (x ∷ o) = rw take-nil
paint_clip (y ∷ d) (x ∷ o) = rw suc-min-suc (ap (λ (l : List ℕ). y ∷ l) (paint_clip d o))

wrote_clip : {o o' : List ℕ} {r : ℕ} (d : List ℕ) → Wrote o 0 (take (min (length d) (length o)) d) o' r → Wrote o 0 d o' (length d)
unfolding written
wrote_clip {o} d w = record { count = omega arith; bytes = w.bytes ∙ paint_clip d o }

-- spaces as far as there is room for them
pub spaces_wrote : {o o' : List ℕ} {r : ℕ} (count m : ℕ) → m ≡ min count (length o) → Wrote o 0 (replicate m 32) o' r → Wrote o 0 (replicate count 32) o' count
spaces_wrote {o} count m e w =
    let l = length-replicate {A = ℕ} count 32 in
    let t : replicate {A = ℕ} m 32 ≡ take (min (length {A = ℕ} (replicate count 32)) (length o)) (replicate {A = ℕ} count 32) = rw (l, ← e) (sym (take-replicate m count 32 (omega arith))) in
    rw l at (wrote_clip (replicate count 32) (rw t at w))

pub filled_wrote : (o ys : List ℕ) (m : ℕ) → m ≤ length o → ys ≡ replicate m 32 → Wrote o 0 (replicate m 32) (ys ++ drop m o) m
filled_wrote o ys m h e =
    let l = length-replicate {A = ℕ} m 32 in
    record { count = omega (arith, l); bytes = rw e (sym (rw l at (written_fits 0 o (replicate m 32) (omega (arith, l))))) }

-- the part of the notes that there is room for
text_clip : (notes : List ℕ) (from to m : ℕ) → from + m ≤ to → take (from + m - from) (drop from notes) ≡ take m (slice from to notes)
text_clip notes from to m h =
    let e : from + m - from ≡ m = omega arith in
    let f : from + (to - from) ≡ to = omega arith in
    let g : slice from to notes ≡ take (to - from) (drop from notes) = rw f at (slice_is from (to - from) notes) in
    rw (e, g) (sym (take-take m (to - from) (drop from notes) (omega arith)))

pub text_wrote : {o o' : List ℕ} {r : ℕ} (notes : List ℕ) (from to m : ℕ) → from ≤ to → to ≤ length notes → m ≡ min (to - from) (length o)
    → Wrote o 0 (take (from + m - from) (drop from notes)) o' r → Wrote o 0 (slice from to notes) o' (to - from)
text_wrote {o} notes from to m h k e w =
    let l : length (slice from to notes) ≡ to - from = length-slice from to notes k in
    let t : take (from + m - from) (drop from notes) ≡ take (min (length (slice from to notes)) (length o)) (slice from to notes) =
    text_clip notes from to m (omega arith) ∙ rw (e, l) in
    rw (← l) (wrote_clip (slice from to notes) (rw t at w))

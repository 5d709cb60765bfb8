-- The laws of `paint`, `written`, `Wrote` and `Left`: pieces after one another, a byte, a lent part that comes home, what does not fit.
use mathlib.Core.Path.{◌≡◌, refl, sym, ap, ◌∙◌}
use mathlib.Core.List.{List, [], ◌∷◌, ◌++◌, append-nil}
use Prim.Native.Nat.{ℕ, zero, suc, min, ◌+◌, ◌-◌, ◌≤◌, ◌<◌}
use native.Mathlib.Nat.{suc-add, zero-add, zero-min, min-zero, suc-min-suc}
use native.Mathlib.Omega.{arith}
use lib.ListN.{length, take, drop, set, length-append, length-take, length-drop, take-append-drop, drop_of_length-le}
use lib.Seq.{take_all}
use Rattle.output.specs.Cited.Sink.{paint, written, Wrote, Left}

-- ---- written

length_paint : (d o : List ℕ) → length (paint d o) ≡ length o
unfolding paint
length_paint d [] = refl
length_paint [] (x ∷ o) = refl
length_paint (y ∷ d) (x ∷ o) = ap suc (length_paint d o)

paint_nil : (o : List ℕ) → paint [] o ≡ o
unfolding paint
paint_nil [] = refl
paint_nil (x ∷ o) = refl

pub length_written : (n : ℕ) (o d : List ℕ) → length (written n o d) ≡ length o
unfolding written
length_written n o d = simp (length-append, length_paint, length-take, length-drop) (omega arith)

pub written_nil : (n : ℕ) (o : List ℕ) → written n o [] ≡ o
unfolding written
written_nil n o = rw paint_nil (take-append-drop n o)

pub written_past : (n : ℕ) (o d : List ℕ) → length o ≤ n → written n o d ≡ o
unfolding paint written
written_past n o d h = rw (drop_of_length-le o {i = n} h, take_all n o h) (append-nil o)

-- a piece, and one after it
paint_append : (d e o : List ℕ) → written (length d) (paint d o) e ≡ paint (d ++ e) o
unfolding paint written
paint_append [] e o = rw paint_nil
paint_append (y ∷ d) e [] = refl
paint_append (y ∷ d) e (x ∷ o) = ap (λ (l : List ℕ). y ∷ l) (paint_append d e o)

pub written_append : (n : ℕ) (o d e : List ℕ) → written (n + length d) (written n o d) e ≡ written n o (d ++ e)
unfolding written paint
written_append zero o d e = rw zero-add (paint_append d e o)
written_append (suc n) [] d e = rw suc-add
written_append (suc n) (x ∷ o) d e = rw suc-add (ap (λ (l : List ℕ). x ∷ l) (written_append n o d e))

-- one byte, by a store
pub written_byte : (n : ℕ) (o : List ℕ) (x : ℕ) → n < length o → set o n x ≡ written n o (x ∷ [])
unfolding paint written
written_byte zero [] x h = absurd (omega arith)
written_byte zero (y ∷ o) x h = ap (λ (l : List ℕ). x ∷ l) (sym (paint_nil o))
written_byte (suc n) [] x h = absurd (omega arith)
written_byte (suc n) (y ∷ o) x h = ap (λ (l : List ℕ). y ∷ l) (written_byte n o x (omega arith))

-- where all of it fits
paint_fits : (d o : List ℕ) → length d ≤ length o → paint d o ≡ d ++ drop (length d) o
unfolding paint
paint_fits [] [] h = refl
paint_fits [] (x ∷ o) h = refl
paint_fits (y ∷ d) [] h = absurd (omega arith)
paint_fits (y ∷ d) (x ∷ o) h = ap (λ (l : List ℕ). y ∷ l) (paint_fits d o (omega arith))

pub written_fits : (n : ℕ) (o d : List ℕ) → n + length d ≤ length o → written n o d ≡ take n o ++ (d ++ drop (length d) (drop n o))
unfolding written
written_fits n o d h = rw (paint_fits d (drop n o) (simp length-drop (omega arith)))

-- ---- Wrote: a byte, a piece after another, nothing

pub wrote_nil : (o : List ℕ) (n : ℕ) → Wrote o n [] o n
wrote_nil o n = record { count = omega arith; bytes = sym (written_nil n o) }

pub wrote_byte : (o : List ℕ) (n x : ℕ) → n < length o → Wrote o n (x ∷ []) (set o n x) (n + 1)
wrote_byte o n x h = record { count = omega arith; bytes = written_byte n o x h }

pub wrote_then : {o o' o'' : List ℕ} {n n' n'' : ℕ} {d e : List ℕ} → Wrote o n d o' n' → Wrote o' n' e o'' n'' → Wrote o n (d ++ e) o'' n''
wrote_then {o} {o'} {o''} {n} {n'} {n''} {d} {e} p q = record {
  count = rw length-append (omega arith);
  bytes = q.bytes ∙ rw (p.count, p.bytes) (written_append n o d e);
}

pub wrote_length : {o o' : List ℕ} {n n' : ℕ} {d : List ℕ} → Wrote o n d o' n' → length o' ≡ length o
wrote_length {o} {n} {d} w = ap length w.bytes ∙ length_written n o d

-- a place past the end is as good as the end
written_clip : (n : ℕ) (o d : List ℕ) → written (min n (length o)) o d ≡ written n o d
unfolding written paint
written_clip zero o d = rw zero-min
written_clip (suc n) [] d = rw min-zero
written_clip (suc n) (x ∷ o) d = rw suc-min-suc (ap (λ (l : List ℕ). x ∷ l) (written_clip n o d))

written_part : (n : ℕ) (o d ys : List ℕ) → ys ≡ written 0 (take (length o - n) (drop n o)) d
    → take n o ++ (ys ++ drop (length o - n) (drop n o)) ≡ written n o d
unfolding written
written_part n o d ys e =
    let l : length (drop n o) ≤ length o - n = simp length-drop (omega arith) in
    rw (e, take_all (length o - n) (drop n o) l, drop_of_length-le (drop n o) {i = length o - n} l, append-nil)

-- a part of o from place k on, lent to a writer at its front, has come home: ys is what it then holds. k is n, or o's end where n is past it
pub wrote_part : (o : List ℕ) (n k : ℕ) (d ys : List ℕ) (r : ℕ) → k ≡ min n (length o) → Wrote (take (length o - k) (drop k o)) 0 d ys r
    → Wrote o n d (take k o ++ (ys ++ drop (length o - k) (drop k o))) (n + r)
wrote_part o n k d ys r e w = record { count = let c = w.count in omega arith; bytes = written_part k o d ys w.bytes ∙ rw e (written_clip n o d) }

-- ---- Left: at first, after a piece, and at last

pub left_first : (o : List ℕ) (n : ℕ) (d : List ℕ) → Left o n d o n d
left_first o n d = record { count = refl; bytes = refl }

pub left_then : {o₀ o o' : List ℕ} {n₀ n n' : ℕ} {d₀ d e : List ℕ} → Left o₀ n₀ d₀ o n (d ++ e) → Wrote o n d o' n' → Left o₀ n₀ d₀ o' n' e
left_then {o} {n} {d} {e} p q = record {
  count = let l = length-append d e in omega arith;
  bytes = rw (q.count, q.bytes) (written_append n o d e ∙ p.bytes);
}

pub left_last : {o₀ o o' : List ℕ} {n₀ n n' : ℕ} {d₀ d : List ℕ} → Left o₀ n₀ d₀ o n d → Wrote o n d o' n' → Wrote o₀ n₀ d₀ o' n'
left_last p q = record { count = omega arith; bytes = q.bytes ∙ p.bytes }

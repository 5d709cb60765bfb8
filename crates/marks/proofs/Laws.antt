-- How many places a table has, how far a mark can be, and a table without marks.
use mathlib.Core.Path.{◌≡◌, refl, sym, ap, ◌∙◌}
use mathlib.Core.Bool.{Bool, true, false}
use mathlib.Core.List.{List, [], ◌∷◌, ◌++◌, append_assoc}
use Prim.Native.Nat.{ℕ, zero, suc, ◌+◌, ◌*◌, ◌/◌, ◌≤◌}
use native.Mathlib.Omega.{arith}
use lib.ListN.{length, replicate, length-append, replicate-append-replicate}
use Rattle.marks.specs.Cited.Marks.{bits_of, marks_in, to_mark}

pub marks_cons : (v : ℕ) (t : List ℕ) → marks_in (v ∷ t) ≡ bits_of 32 v ++ marks_in t
unfolding marks_in
marks_cons v t = refl

pub marks_append : (s t : List ℕ) → marks_in (s ++ t) ≡ marks_in s ++ marks_in t
unfolding marks_in
marks_append [] t = refl
marks_append (v ∷ s) t = ap (λ (bs : List Bool). bits_of 32 v ++ bs) (marks_append s t) ∙ sym (append_assoc (bits_of 32 v) (marks_in s) (marks_in t))

pub length_bits : (n v : ℕ) → length (bits_of n v) ≡ n
unfolding bits_of
length_bits zero v = refl
length_bits (suc n) v = ap suc (length_bits n (v / 2))

pub length_marks : (t : List ℕ) → length (marks_in t) ≡ 32 * length t
length_marks [] = unfold marks_in in refl
length_marks (v ∷ t) =
    let l = length_bits 32 v in
    let r = length_marks t in
    ap length (marks_cons v t) ∙ length-append (bits_of 32 v) (marks_in t) ∙ omega (arith, l, r)

pub to_mark_within : (bs : List Bool) → to_mark bs ≤ length bs
unfolding to_mark
to_mark_within [] = omega arith
to_mark_within (true ∷ bs) = omega arith
to_mark_within (false ∷ bs) = go (to_mark bs) (to_mark_within bs)
  where
    go : (n : ℕ) → n ≤ length bs → elim n [ zero ↦ 0 | suc m ↦ suc (suc m) ] ≤ suc (length bs)
    go zero h = omega arith
    go (suc m) h = omega arith

bits_none : (n : ℕ) → bits_of n 0 ≡ replicate n false
unfolding bits_of
bits_none zero = refl
bits_none (suc n) = ap (λ (bs : List Bool). false ∷ bs) (bits_none n)

pub marks_none : (n : ℕ) → marks_in (replicate n 0) ≡ replicate (32 * n) false
marks_none zero = unfold marks_in in refl
marks_none (suc n) =
    let e : 32 + 32 * n ≡ 32 * suc n = omega arith in
    marks_cons 0 (replicate n 0) ∙ rw (bits_none 32, marks_none n) (replicate-append-replicate 32 (32 * n) false) ∙ ap (λ (k : ℕ). replicate k false) e

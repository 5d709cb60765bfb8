-- Numbers spelled as gaps: so many places they take, one more is spelled by one more mark, and the marks tell the numbers again.
use mathlib.Core.Path.{◌≡◌, refl, sym, ap, ◌∙◌}
use mathlib.Core.Bool.{Bool, true, false}
use mathlib.Core.List.{List, [], ◌∷◌, ◌++◌, append_assoc}
use Prim.Native.Nat.{ℕ, zero, suc, ◌+◌, ◌-◌, ◌≤◌}
use native.Mathlib.Omega.{arith}
use lib.ListN.{length, get_or, set, drop, replicate, length-append, length-replicate, get_or-replicate, replicate-append-replicate}
use lib.Seq.{get_or-append-add, set_at, drop-append-add}
use Rattle.marks.specs.Cited.Marks.{to_mark, spelled, sum, Positive}

pub spelled_length : (gs : List ℕ) → Positive gs → length (spelled gs) ≡ sum gs
unfolding spelled sum
spelled_length [] p = refl
spelled_length (g ∷ gs) p =
    let i = spelled_length gs p.1 in
    let r = length-replicate (g - 1) false in
    length-append (replicate (g - 1) false) (true ∷ spelled gs) ∙ omega (arith, i, r, p.0)

-- where the mark of one more number goes
last_place : (gs : List ℕ) (g : ℕ) → Positive gs → 1 ≤ g → sum gs + g - 1 ≡ length (spelled gs) + (g - 1)
last_place gs g p h = let l = spelled_length gs p in omega (arith, l)

pub spelled_room : (gs : List ℕ) (g k : ℕ) → Positive gs → 1 ≤ g → g ≤ k → get_or (spelled gs ++ replicate k false) (sum gs + g - 1) true ≡ false
spelled_room gs g k p h f =
    rw (last_place gs g p h, get_or-append-add (spelled gs) (replicate k false) (g - 1) true) (get_or-replicate k (g - 1) false true (omega arith))

spelled_behind : (gs : List ℕ) (g : ℕ) → spelled (gs ++ g ∷ []) ≡ spelled gs ++ (replicate (g - 1) false ++ true ∷ [])
unfolding spelled
spelled_behind [] g = refl
spelled_behind (f ∷ gs) g =
    ap (λ (xs : List Bool). replicate (f - 1) false ++ true ∷ xs) (spelled_behind gs g)
    ∙ sym (append_assoc (replicate (f - 1) false) (true ∷ spelled gs) (replicate (g - 1) false ++ true ∷ []))

room_split : (g k : ℕ) → 1 ≤ g → g ≤ k → replicate k false ≡ replicate (g - 1) false ++ false ∷ replicate (k - g) false
room_split g k h f =
    let e : k ≡ (g - 1) + suc (k - g) = omega arith in
    ap (λ (n : ℕ). replicate n false) e ∙ sym (replicate-append-replicate (g - 1) (suc (k - g)) false)

pub spelled_more : (gs : List ℕ) (g k : ℕ) → Positive gs → 1 ≤ g → g ≤ k
    → set (spelled gs ++ replicate k false) (sum gs + g - 1) true ≡ spelled (gs ++ g ∷ []) ++ replicate (k - g) false
spelled_more gs g k p h f =
    let a : List Bool = spelled gs in
    let b : List Bool = replicate (g - 1) false in
    let c : List Bool = replicate (k - g) false in
    let l : length (a ++ b) ≡ sum gs + g - 1 = length-append a b ∙ ap (λ (n : ℕ). length a + n) (length-replicate (g - 1) false) ∙ sym (last_place gs g p h) in
    ap (λ (xs : List Bool). set xs (sum gs + g - 1) true) (ap (λ (xs : List Bool). a ++ xs) (room_split g k h f) ∙ sym (append_assoc a b (false ∷ c)))
    ∙ set_at (a ++ b) false c true (sum gs + g - 1) l
    ∙ sym (ap (λ (xs : List Bool). xs ++ c) (spelled_behind gs g ∙ sym (append_assoc a b (true ∷ []))) ∙ append_assoc (a ++ b) (true ∷ []) c)

to_mark_behind : (n : ℕ) (rest : List Bool) → to_mark (replicate n false ++ true ∷ rest) ≡ suc n
unfolding to_mark
to_mark_behind zero rest = refl
to_mark_behind (suc n) rest = rw (to_mark_behind n rest)

pub spelled_first : (g : ℕ) (gs : List ℕ) (rest : List Bool) → 1 ≤ g → to_mark (spelled (g ∷ gs) ++ rest) ≡ g
unfolding spelled
spelled_first g gs rest h =
    ap to_mark (append_assoc (replicate (g - 1) false) (true ∷ spelled gs) rest) ∙ to_mark_behind (g - 1) (spelled gs ++ rest) ∙ omega arith

pub spelled_rest : (g : ℕ) (gs : List ℕ) (rest : List Bool) → 1 ≤ g → drop g (spelled (g ∷ gs) ++ rest) ≡ spelled gs ++ rest
unfolding spelled
spelled_rest g gs rest h =
    let r = length-replicate (g - 1) false in
    let e : g ≡ length (replicate (g - 1) false) + 1 = omega (arith, r) in
    ap (drop g) (append_assoc (replicate (g - 1) false) (true ∷ spelled gs) rest)
    ∙ ap (λ (n : ℕ). drop n (replicate (g - 1) false ++ true ∷ (spelled gs ++ rest))) e
    ∙ drop-append-add (replicate (g - 1) false) (true ∷ (spelled gs ++ rest)) 1

-- Even gaps: one space, or two after the end of a sentence. So they are as uniform has them.
use mathlib.Core.Path.{◌≡◌, refl, sym, ◌∙◌}
use mathlib.Core.Bool.{Bool, true, false, cond, ◌&&◌, false≢true}
use mathlib.Core.List.{List, [], ◌∷◌, ◌++◌, append_assoc}
use Prim.Native.Nat.{ℕ, ◌<◌}
use native.Mathlib.Omega.{arith}
use lib.Dec.{ltb}
use lib.ListN.{length, replicate}
use borrow.Author.Tests.{eqb-true, not-true}
use Rattle.lists.specs.Runs.{every}
use Rattle.lists.proofs.Parts.{every_cons}
use Rattle.words.specs.Cited.Scan.{punct_code}
use Rattle.regular.specs.Cited.Regular.{is_space, not_space, is_even, evenly, lastly, closed}
use Rattle.regular.proofs.Stretch.{and_true}
use Rattle.regular.proofs.Fronts.{lastly_some, lastly_append, closed_some}

-- ---- a gap

-- spaces as uniform has them, after a word with that mark
abbrev pub EvenGap : Bool → List ℕ → Type 0
EvenGap previous sp = length sp ≡ cond (previous && ltb 1 (length sp)) 2 1

pub spaces_are : (sp : List ℕ) → every is_space sp ≡ true → replicate (length sp) 32 ≡ sp
spaces_are [] h = refl
spaces_are (x ∷ sp) h =
    let t = and_true (is_space x) (every is_space sp) (sym (every_cons is_space x sp) ∙ h) in
    rw (spaces_are sp t.1, eqb-true x 32 t.0)

-- ---- what stands after a word

-- gaps are even from a place on, before which stands a word with that mark
pub record Evenly (previous : Bool) (a : List ℕ) : Type 0 where
  pub before : ℕ
  pub last : ℕ
  pub ink : is_space last ≡ false
  pub mark : punct_code last ≡ previous
  pub all : evenly before last a ≡ true

pub even_front : (p q : ℕ) (xs ys : List ℕ) → evenly p q (xs ++ ys) ≡ true → evenly p q xs ≡ true
unfolding evenly
even_front p q [] ys h = refl
even_front p q (x ∷ xs) ys h = let t = and_true (is_even p q x) (evenly q x (xs ++ ys)) h in rw t.0 (even_front q x xs ys t.1)

-- after ink the byte before it does not count
even_ink : (p r q : ℕ) (ys : List ℕ) → is_space q ≡ false → evenly p q ys ≡ true → evenly r q ys ≡ true
unfolding evenly
even_ink p r q [] i h = refl
even_ink p r q (y ∷ ys) i h = rw i (and_true (is_even p q y) (evenly q y ys) h).1

pub even_later : (p q : ℕ) (xs : List ℕ) (y : ℕ) (ys : List ℕ) → is_space y ≡ false → evenly p q (xs ++ (y ∷ ys)) ≡ true → evenly 0 0 (y ∷ ys) ≡ true
unfolding evenly
even_later p q [] y ys i h = even_ink q 0 y ys i (and_true (is_even p q y) (evenly q y ys) h).1
even_later p q (x ∷ xs) y ys i h = even_later q x xs y ys i (and_true (is_even p q x) (evenly q x (xs ++ (y ∷ ys))) h).1

-- bytes that end in a word, and what is after them
pub even_behind : (p q : ℕ) (xs ys : List ℕ) → closed false xs ≡ true → evenly p q (xs ++ ys) ≡ true → Evenly (lastly false xs) ys
unfolding closed lastly evenly
even_behind p q [] ys c h = absurd (false≢true c)
even_behind p q (x ∷ []) ys c h = record { before = q; last = x; ink = not-true _ c; mark = refl; all = (and_true (is_even p q x) (evenly q x ys) h).1 }
even_behind p q (x ∷ y ∷ xs) ys c h =
    rw (lastly_some (punct_code x) false (y ∷ xs) (omega arith)) (even_behind q x (y ∷ xs) ys (closed_some false (not_space x) y xs ∙ c) (and_true (is_even p q x) (evenly q x (y ∷ (xs ++ ys))) h).1)

pub and_false : (b : Bool) → (b && false) ≡ false
and_false true = refl
and_false false = refl

-- the gap before the next word
pub even_gap : (previous : Bool) (sp ys : List ℕ) → Evenly previous (sp ++ ys) → every is_space sp ≡ true → 0 < length sp → EvenGap previous sp
unfolding evenly
even_gap previous [] ys e s l = absurd (omega arith)
even_gap previous (x ∷ []) ys e s l = rw (and_false previous)
even_gap previous (x ∷ y ∷ []) ys e s l =
    let a = and_true (is_space x) (every is_space (y ∷ [])) (sym (every_cons is_space x (y ∷ [])) ∙ s) in
    let b = and_true (is_space y) (every is_space []) (sym (every_cons is_space y []) ∙ a.1) in
    let first = and_true (is_even e.before e.last x) (evenly e.last x (y ∷ ys)) e.all in
    let second = and_true (is_even e.last x y) (evenly x y ys) first.1 in
    let m : punct_code e.last ≡ true = rw (a.0, b.0) at second.0 in
    rw (sym e.mark ∙ m)
even_gap previous (x ∷ y ∷ z ∷ sp) ys e s l =
    let a = and_true (is_space x) (every is_space (y ∷ z ∷ sp)) (sym (every_cons is_space x (y ∷ z ∷ sp)) ∙ s) in
    let b = and_true (is_space y) (every is_space (z ∷ sp)) (sym (every_cons is_space y (z ∷ sp)) ∙ a.1) in
    let c = and_true (is_space z) (every is_space sp) (sym (every_cons is_space z sp) ∙ b.1) in
    let first = and_true (is_even e.before e.last x) (evenly e.last x (y ∷ z ∷ (sp ++ ys))) e.all in
    let second = and_true (is_even e.last x y) (evenly x y (z ∷ (sp ++ ys))) first.1 in
    let third = and_true (is_even x y z) (evenly y z (sp ++ ys)) second.1 in
    let m : punct_code x ≡ true = rw (b.0, c.0) at third.0 in
    absurd (false≢true (rw (eqb-true x 32 a.0) at m))

-- ink ends in a word, whatever is before it
closed_ink : (b : Bool) (xs : List ℕ) → every not_space xs ≡ true → 0 < length xs → closed b xs ≡ true
unfolding closed
closed_ink b [] h l = absurd (omega arith)
closed_ink b (x ∷ []) h l = (and_true (not_space x) (every not_space []) (sym (every_cons not_space x []) ∙ h)).0
closed_ink b (x ∷ y ∷ xs) h l = closed_ink (not_space x) (y ∷ xs) (and_true (not_space x) (every not_space (y ∷ xs)) (sym (every_cons not_space x (y ∷ xs)) ∙ h)).1 (omega arith)

closed_after : (b : Bool) (xs ink : List ℕ) → every not_space ink ≡ true → 0 < length ink → closed b (xs ++ ink) ≡ true
unfolding closed
closed_after b [] ink h l = closed_ink b ink h l
closed_after b (x ∷ xs) ink h l = closed_after (not_space x) xs ink h l

-- a word more
pub even_word : (previous : Bool) (sp ink rest : List ℕ) → Evenly previous (sp ++ (ink ++ rest)) → every not_space ink ≡ true → 0 < length ink → Evenly (lastly false ink) rest
even_word previous sp ink rest e i some =
    rw (lastly_append false sp ink, lastly_some (lastly false sp) false ink some) at
    (even_behind e.before e.last (sp ++ ink) rest (closed_after false sp ink i some) (rw (append_assoc sp ink rest) e.all))

-- the first one
pub even_first : (ink rest : List ℕ) → evenly 0 0 (ink ++ rest) ≡ true → every not_space ink ≡ true → 0 < length ink → Evenly (lastly false ink) rest
even_first ink rest h i some = even_behind 0 0 ink rest (closed_ink false ink i some) h

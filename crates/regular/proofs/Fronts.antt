-- The front of a stretch: spaces, the word after them, and the rest.
use mathlib.Core.Path.{◌≡◌, refl, sym, ap, ◌∙◌}
use mathlib.Core.Bool.{Bool, true, false, not, false≢true, true≢false}
use mathlib.Core.List.{List, [], ◌∷◌, ◌++◌}
use Prim.Native.Nat.{ℕ, ◌<◌}
use native.Mathlib.Omega.{arith}
use lib.Dec.{eqb}
use lib.ListN.{length}
use Rattle.lists.specs.Runs.{every}
use Rattle.lists.proofs.Runs.{every_end}
use Rattle.lists.proofs.Parts.{every_cons, every_nil}
use Rattle.words.specs.Cited.Scan.{punct_code}
use Rattle.regular.specs.Cited.Regular.{is_space, not_space, lastly, closed, opens}

-- ---- the last byte

pub lastly_append : (b : Bool) (xs ys : List ℕ) → lastly b (xs ++ ys) ≡ lastly (lastly b xs) ys
unfolding lastly
lastly_append b [] ys = refl
lastly_append b (x ∷ xs) ys = lastly_append (punct_code x) xs ys

pub lastly_some : (a b : Bool) (xs : List ℕ) → 0 < length xs → lastly a xs ≡ lastly b xs
unfolding lastly
lastly_some a b [] h = absurd (omega arith)
lastly_some a b (x ∷ xs) h = refl

-- ---- a word at the front

pub record InkFront (a : List ℕ) : Type 0 where
  pub ink : List ℕ
  pub rest : List ℕ
  pub is : a ≡ ink ++ rest
  pub inked : every not_space ink ≡ true
  pub some : opens a ≡ false → 0 < length ink
  pub next : opens rest ≡ true
  pub end : closed true rest ≡ true

pub ink_front : (a : List ℕ) → closed true a ≡ true → InkFront a
unfolding closed opens
ink_front [] h = record { ink = []; rest = []; is = refl; inked = every_nil not_space; some = λ e. absurd (true≢false e); next = refl; end = refl }
ink_front (b ∷ a) h = pick (eqb b 32) refl (ink_front a)
  where
    pick : (t : Bool) → eqb b 32 ≡ t → (closed true a ≡ true → InkFront a) → InkFront (b ∷ a)
    pick true e ih = record { ink = []; rest = b ∷ a; is = refl; inked = every_nil not_space; some = λ q. absurd (true≢false (sym e ∙ q)); next = e; end = h }
    pick false e ih =
        let f = ih (rw e at h) in
        record { ink = b ∷ f.ink; rest = f.rest; is = ap (λ (l : List ℕ). b ∷ l) f.is; inked = rw (every_cons, e) f.inked; some = λ q. omega arith; next = f.next; end = f.end }

pub record Front (a : List ℕ) : Type 0 where
  pub spaces : List ℕ
  pub ink : List ℕ
  pub rest : List ℕ
  pub is : a ≡ spaces ++ (ink ++ rest)
  pub spaced : every is_space spaces ≡ true
  pub inked : every not_space ink ≡ true
  pub some : 0 < length ink
  pub next : opens rest ≡ true
  pub end : closed true rest ≡ true

pub front : (a : List ℕ) → closed false a ≡ true → Front a
unfolding closed
front [] h = absurd (false≢true h)
front (b ∷ a) h = pick (eqb b 32) refl (front a)
  where
    pick : (t : Bool) → eqb b 32 ≡ t → (closed false a ≡ true → Front a) → Front (b ∷ a)
    pick true e ih =
        let f = ih (rw e at h) in
        record { spaces = b ∷ f.spaces; ink = f.ink; rest = f.rest; is = ap (λ (l : List ℕ). b ∷ l) f.is; spaced = rw (every_cons, e) f.spaced; inked = f.inked; some = f.some; next = f.next; end = f.end }
    pick false e ih =
        let f = ink_front a (rw e at h) in
        record { spaces = []; ink = b ∷ f.ink; rest = f.rest; is = ap (λ (l : List ℕ). b ∷ l) f.is; spaced = every_nil is_space; inked = rw (every_cons, e) f.inked; some = omega arith; next = f.next; end = f.end }

-- what begins with a space has one before its word
pub front_spaces : (a : List ℕ) (f : Front a) → opens a ≡ true → 0 < length f.spaces
unfolding opens
front_spaces a f h = pick f.spaces f.ink f.is f.inked f.some
  where
    pick : (sp ink : List ℕ) → a ≡ sp ++ (ink ++ f.rest) → every not_space ink ≡ true → 0 < length ink → 0 < length sp
    pick [] [] e i l = absurd (omega arith)
    pick [] (x ∷ ink) e i l = absurd (false≢true (sym (every_end not_space x ink (ap not (rw e at h))) ∙ i))
    pick (y ∷ sp) ink e i l = omega arith

-- a stretch that is there ends alike, whatever is before it
pub closed_some : (s t : Bool) (x : ℕ) (xs : List ℕ) → closed s (x ∷ xs) ≡ closed t (x ∷ xs)
unfolding closed
closed_some s t x xs = refl

pub closed_false : (xs : List ℕ) → closed true xs ≡ true → 0 < length xs → closed false xs ≡ true
closed_false [] h l = absurd (omega arith)
closed_false (x ∷ xs) h l = closed_some false true x xs ∙ h

pub opens_append : (xs ys : List ℕ) → opens xs ≡ true → opens ys ≡ true → opens (xs ++ ys) ≡ true
unfolding opens
opens_append [] ys h k = k
opens_append (x ∷ xs) ys h k = h

-- ink alone has no rest
pub no_rest : (xs : List ℕ) → opens xs ≡ true → every not_space xs ≡ true → xs ≡ []
unfolding opens
no_rest [] h k = refl
no_rest (x ∷ xs) h k = absurd (false≢true (sym (every_end not_space x xs (ap not h)) ∙ k))

-- Regular bytes and letters of two: their ends, their parts, and what none of them is.
use mathlib.Core.Path.{◌≡◌, refl, sym, ◌∙◌}
use mathlib.Core.Bool.{Bool, true, false, ◌&&◌, false≢true}
use mathlib.Core.Logic.{◌⊎◌, inl, inr, ⊎_elim}
use mathlib.Core.List.{List, [], ◌∷◌, ◌++◌}
use Prim.Native.Nat.{ℕ, zero, suc, ◌/◌, ◌≤◌, ◌<◌}
use native.Mathlib.Omega.{arith}
use lib.ListN.{length, get_or}
use borrow.Author.Tests.{leb-true, ltb-true, eqb-true, eqb-false, ne_eqb, not-true}
use Rattle.lists.specs.Runs.{every}
use Rattle.lists.proofs.Parts.{every_cons}
use Rattle.text.specs.Cited.Joins.{goes_on}
use Rattle.regular.specs.Cited.Regular.{is_space, is_regular, begins_letter, spelled}
use Rattle.regular.proofs.Stretch.{and_true}

-- ---- a byte

pub byte_range : (b : ℕ) → is_regular b ≡ true → (32 ≤ b) × (b < 128)
byte_range b h = let t = and_true _ _ h in (leb-true 32 b t.0, ltb-true b 128 t.1)

pub record Leads (b : ℕ) : Type 0 where
  pub least : 0xC3 ≤ b
  pub most : b ≤ 0xD1
  pub no_accent : b / 2 ≡ 0x66 → ⊥

pub leads : (b : ℕ) → begins_letter b ≡ true → Leads b
leads b h =
    let t = and_true _ _ h in
    let u = and_true _ _ t.1 in
    record { least = leb-true 0xC3 b t.0; most = leb-true b 0xD1 u.0; no_accent = eqb-false (b / 2) 0x66 (not-true _ u.1) }

-- ---- the first byte is regular, or begins a letter, whose second byte follows

module _ (x : ℕ) (xs : List ℕ) where
  spelled_plain : is_regular x ≡ true → spelled false (x ∷ xs) ≡ spelled false xs
  unfolding spelled
  spelled_plain h = rw (h, spelled)

  spelled_lead : is_regular x ≡ false → spelled false (x ∷ xs) ≡ (begins_letter x && spelled true xs)
  unfolding spelled
  spelled_lead h = rw (h, spelled)

  spelled_first : spelled false (x ∷ xs) ≡ true → ((is_regular x ≡ true) × (spelled false xs ≡ true)) ⊎ ((is_regular x ≡ false) × (begins_letter x ≡ true) × (spelled true xs ≡ true))
  spelled_first h = pick (is_regular x) refl
    where
      pick : (t : Bool) → is_regular x ≡ t → ((is_regular x ≡ true) × (spelled false xs ≡ true)) ⊎ ((is_regular x ≡ false) × (begins_letter x ≡ true) × (spelled true xs ≡ true))
      pick true e = inl (e, sym (spelled_plain e) ∙ h)
      pick false e = let t = and_true _ _ (sym (spelled_lead e) ∙ h) in inr (e, t.0, t.1)

  spelled_second : spelled true (x ∷ xs) ≡ true → (goes_on x ≡ true) × (spelled false xs ≡ true)
  unfolding spelled
  spelled_second h = and_true (goes_on x) (spelled false xs) h

  pub spelled_begins : spelled false (x ∷ xs) ≡ true → goes_on x ≡ false
  spelled_begins h =
      ⊎_elim (λ p. let r = byte_range x p.0 in ne_eqb (x / 64) 2 (λ q. omega (arith, r.1)))
      (λ p. let l = leads x p.1 in ne_eqb (x / 64) 2 (λ q. omega (arith, l.least))) (spelled_first h)

-- what holds of none, and of a regular byte or a letter if it holds of what is after it, holds of all
module _ (P : List ℕ → Type 0) (none : P []) (plain : (x : ℕ) (xs : List ℕ) → is_regular x ≡ true → spelled false xs ≡ true → P xs → P (x ∷ xs))
    (letter : (x y : ℕ) (ys : List ℕ) → begins_letter x ≡ true → goes_on y ≡ true → spelled false ys ≡ true → P ys → P (x ∷ y ∷ ys)) where
  abbrev behind_first : Bool → List ℕ → Type 0
  behind_first false xs = P xs
  behind_first true xs = (x : ℕ) → begins_letter x ≡ true → P (x ∷ xs)

  from_there : (w : Bool) (xs : List ℕ) → spelled w xs ≡ true → behind_first w xs
  unfolding spelled
  from_there false [] h = none
  from_there true [] h = absurd (false≢true h)
  from_there false (x ∷ xs) h = ⊎_elim (λ p. plain x xs p.0 p.1 (from_there false xs p.1)) (λ p. from_there true xs p.2 x p.1) (spelled_first x xs h)
  from_there true (y ∷ ys) h = λ x b. let t = spelled_second y ys h in letter x y ys b t.0 t.1 (from_there false ys t.1)

  pub spelled_induct : (xs : List ℕ) → spelled false xs ≡ true → P xs
  spelled_induct xs h = from_there false xs h

-- ---- parts

pub spelled_after : (w : Bool) (xs ys : List ℕ) → spelled w (xs ++ (32 ∷ ys)) ≡ true → spelled false ys ≡ true
unfolding spelled
spelled_after true [] ys h = absurd (false≢true h)
spelled_after false [] ys h = h
spelled_after true (x ∷ xs) ys h = spelled_after false xs ys (spelled_second x (xs ++ (32 ∷ ys)) h).1
spelled_after false (x ∷ xs) ys h = ⊎_elim (λ p. spelled_after false xs ys p.1) (λ p. spelled_after true xs ys p.2) (spelled_first x (xs ++ (32 ∷ ys)) h)

pub spelled_append : (w : Bool) (xs ys : List ℕ) → spelled w xs ≡ true → spelled false ys ≡ true → spelled w (xs ++ ys) ≡ true
unfolding spelled
spelled_append true [] ys h k = absurd (false≢true h)
spelled_append false [] ys h k = k
spelled_append true (x ∷ xs) ys h k = let t = spelled_second x xs h in rw t.0 (spelled_append false xs ys t.1 k)
spelled_append false (x ∷ xs) ys h k =
    ⊎_elim (λ p. spelled_plain x (xs ++ ys) p.0 ∙ spelled_append false xs ys p.1 k)
    (λ p. spelled_lead x (xs ++ ys) p.0 ∙ rw p.1 (spelled_append true xs ys p.2 k)) (spelled_first x xs h)

-- without the spaces at their end
pub spelled_front : (w : Bool) (xs sp : List ℕ) → every is_space sp ≡ true → spelled w (xs ++ sp) ≡ true → spelled w xs ≡ true
unfolding spelled
spelled_front false [] sp s h = refl
spelled_front true [] [] s h = h
spelled_front true [] (x ∷ sp) s h =
    let q = eqb-true x 32 (and_true _ _ (sym (every_cons is_space x sp) ∙ s)).0 in
    absurd (false≢true (rw q at h))
spelled_front true (x ∷ xs) sp s h = let t = spelled_second x (xs ++ sp) h in rw t.0 (spelled_front false xs sp s t.1)
spelled_front false (x ∷ xs) sp s h =
    ⊎_elim (λ p. spelled_plain x xs p.0 ∙ spelled_front false xs sp s p.1)
    (λ p. spelled_lead x xs p.0 ∙ rw p.1 (spelled_front true xs sp s p.2)) (spelled_first x (xs ++ sp) h)

pub spelled_regular : (xs : List ℕ) → every is_regular xs ≡ true → spelled false xs ≡ true
unfolding spelled
spelled_regular [] h = refl
spelled_regular (x ∷ xs) h =
    let t = and_true _ _ (sym (every_cons is_regular x xs) ∙ h) in
    spelled_plain x xs t.0 ∙ spelled_regular xs t.1

-- ---- no byte is below the space

pub spelled_least : (w : Bool) (xs : List ℕ) → spelled w xs ≡ true → (i : ℕ) → i < length xs → 32 ≤ get_or xs i 0
unfolding spelled
spelled_least w [] h i l = absurd (omega arith)
spelled_least true (x ∷ xs) h zero l = let q = eqb-true (x / 64) 2 (spelled_second x xs h).0 in omega arith
spelled_least true (x ∷ xs) h (suc i) l = spelled_least false xs (spelled_second x xs h).1 i (omega arith)
spelled_least false (x ∷ xs) h zero l = ⊎_elim (λ p. (byte_range x p.0).0) (λ p. let k = leads x p.1 in omega (arith, k.least)) (spelled_first x xs h)
spelled_least false (x ∷ xs) h (suc i) l = ⊎_elim (λ p. spelled_least false xs p.1 i (omega arith)) (λ p. spelled_least true xs p.2 i (omega arith)) (spelled_first x xs h)

-- Parts of the notes as lists: what holds of their bytes by places.
use mathlib.Core.Path.{◌≡◌, refl, ap, ◌∙◌}
use mathlib.Core.Bool.{Bool, true, false, not}
use mathlib.Core.List.{List, [], ◌∷◌}
use Prim.Native.Nat.{ℕ, zero, suc, ◌+◌, ◌-◌, ◌≤◌, ◌<◌}
use native.Mathlib.Omega.{arith}
use lib.Dec.{eqb}
use lib.ListN.{length, get_or, take}
use lib.Seq.{slice, length-slice, get_or-take, get_or-drop}
use borrow.Author.Tests.{eq-eqb, ne_eqb}
use Rattle.lists.specs.Runs.{while, behind, every}
use Rattle.lists.proofs.Runs.{while_more, behind_more, behind_end, every_end}
use Rattle.lists.proofs.Parts.{every_nil, every_cons}
use Rattle.regular.specs.Cited.Regular.{is_space, not_space, closed, opens}
use Rattle.regular.specs.Cited.Places.{NoSpace}
use Rattle.regular.proofs.Even.{and_false}

-- ---- by the places of the list itself

every_at : (test : ℕ → Bool) (xs : List ℕ) → ((i : ℕ) → i < length xs → test (get_or xs i 0) ≡ true) → every test xs ≡ true
every_at test [] h = every_nil test
every_at test (x ∷ xs) h = rw (every_cons, h 0 (omega arith)) (every_at test xs (λ i k. h (suc i) (omega arith)))

ink_test : (b : ℕ) → (b ≡ 32 → ⊥) → not_space b ≡ true
ink_test b h = ap not (ne_eqb b 32 h)

opens_at : (xs : List ℕ) → 0 < length xs → NoSpace xs 0 → opens xs ≡ false
unfolding opens
opens_at [] h k = absurd (omega arith)
opens_at (x ∷ xs) h k = ne_eqb x 32 k

closed_at : (b : Bool) (xs : List ℕ) (last : ℕ) → length xs ≡ last + 1 → NoSpace xs last → closed b xs ≡ true
unfolding closed
closed_at b [] last h k = absurd (omega arith)
closed_at b (x ∷ []) zero h k = ink_test x k
closed_at b (x ∷ []) (suc last) h k = absurd (omega arith)
closed_at b (x ∷ y ∷ xs) zero h k = absurd (omega arith)
closed_at b (x ∷ y ∷ xs) (suc last) h k = closed_at (not_space x) (y ∷ xs) last (omega arith) k

spaced_at : (xs : List ℕ) (i : ℕ) → i < length xs → get_or xs i 0 ≡ 32 → every not_space xs ≡ false
spaced_at [] i h k = absurd (omega arith)
spaced_at (x ∷ xs) zero h k = every_end not_space x xs (ap not (eq-eqb x 32 k))
spaced_at (x ∷ xs) (suc i) h k = rw (every_cons, spaced_at xs i (omega arith) k) (and_false (not_space x))

-- so many bytes that are no spaces stand at the front
pub while_least : (n : ℕ) (xs : List ℕ) → n ≤ length xs → ((i : ℕ) → i < n → NoSpace xs i) → n ≤ length (while not_space xs)
while_least zero xs h k = omega arith
while_least (suc n) [] h k = absurd (omega arith)
while_least (suc n) (x ∷ xs) h k =
    let e = ap length (while_more not_space x xs (ink_test x (k 0 (omega arith)))) in
    let ih = while_least n xs (omega arith) (λ i l. k (suc i) (omega arith)) in
    omega arith

-- after ink stands a space, or nothing
pub behind_opens : (xs : List ℕ) → opens (behind not_space xs) ≡ true
unfolding opens behind
behind_opens [] = refl
behind_opens (x ∷ xs) = pick (eqb x 32) refl (behind_opens xs)
  where
    pick : (t : Bool) → eqb x 32 ≡ t → opens (behind not_space xs) ≡ true → opens (behind not_space (x ∷ xs)) ≡ true
    pick true e ih = rw (behind_end not_space x xs (ap not e)) e
    pick false e ih = rw (behind_more not_space x xs (ap not e)) ih

-- ---- by the places of the notes

module _ (s : List ℕ) (a b : ℕ) (within : b ≤ length s) where
  pub part_at : (i : ℕ) → a + i < b → get_or (slice a b s) i 0 ≡ get_or s (a + i) 0
  part_at i h = get_or-drop a (take b s) i 0 ∙ get_or-take b s (a + i) 0 h

  size : length (slice a b s) ≡ b - a
  size = length-slice a b s within

  pub part_all : (test : ℕ → Bool) → ((i : ℕ) → a ≤ i → i < b → test (get_or s i 0) ≡ true) → every test (slice a b s) ≡ true
  part_all test h = every_at test (slice a b s) (λ i k. let z = size in rw (part_at i (omega arith)) (h (a + i) (omega arith) (omega arith)))

  pub part_spaces : ((i : ℕ) → a ≤ i → i < b → get_or s i 0 ≡ 32) → every is_space (slice a b s) ≡ true
  part_spaces h = every_at is_space (slice a b s) (λ i k. let z = size in rw (part_at i (omega arith), h (a + i) (omega arith) (omega arith)) refl)

  pub part_ink : ((i : ℕ) → a ≤ i → i < b → NoSpace s i) → every not_space (slice a b s) ≡ true
  part_ink h = every_at not_space (slice a b s) (λ i k. let z = size in rw (part_at i (omega arith)) (ink_test _ (h (a + i) (omega arith) (omega arith))))

  pub part_spaced : (i : ℕ) → a ≤ i → i < b → get_or s i 0 ≡ 32 → every not_space (slice a b s) ≡ false
  part_spaced i h k q = let z = size in let e : a + (i - a) ≡ i = omega arith in spaced_at (slice a b s) (i - a) (omega arith) (part_at (i - a) (omega arith) ∙ rw e q)

  module _ (some : a < b) where
    pub part_opens : NoSpace s a → opens (slice a b s) ≡ false
    part_opens h = let z = size in let e : a + 0 ≡ a = omega arith in opens_at (slice a b s) (omega arith) (rw (part_at 0 (omega arith), e) h)

    pub part_closed : NoSpace s (b - 1) → closed true (slice a b s) ≡ true
    part_closed h =
        let z = size in
        let e : a + (b - 1 - a) ≡ b - 1 = omega arith in
        closed_at true (slice a b s) (b - 1 - a) (omega arith) (rw (part_at (b - 1 - a) (omega arith), e) h)

    pub part_first_space : get_or s a 0 ≡ 32 → opens (slice a b s) ≡ true
    unfolding opens
    part_first_space h = go (slice a b s) size (let e : a + 0 ≡ a = omega arith in part_at 0 (omega arith) ∙ rw e h)
      where
        go : (xs : List ℕ) → length xs ≡ b - a → get_or xs 0 0 ≡ 32 → opens xs ≡ true
        go [] z q = absurd (omega arith)
        go (x ∷ xs) z q = eq-eqb x 32 q

  pub part_least : (n : ℕ) → a + n ≤ b → ((i : ℕ) → a ≤ i → i < a + n → NoSpace s i) → n ≤ length (while not_space (slice a b s))
  part_least n k h = let z = size in while_least n (slice a b s) (omega arith) (λ i l. rw (part_at i (omega arith)) (h (a + i) (omega arith) (omega arith)))

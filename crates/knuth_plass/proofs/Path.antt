-- A record's path: any number of steps that is enough gives the same, and a store that leads where the old record led leaves every path.
use mathlib.Core.Path.{◌≡◌, refl, ap, ◌∙◌}
use mathlib.Core.List.{List, [], ◌∷◌}
use Prim.Native.Nat.{ℕ, zero, suc, ◌≤◌, ◌<◌}
use native.Mathlib.Omega.{arith}
use mathlib.Core.Bool.{Bool, true, false}
use borrow.Author.Tests.{eqb-true, eqb-false}
use lib.Dec.{eqb}
use lib.ListN.{length}
use Rattle.knuth_plass.specs.declared.Break.{Break as Record}
use Rattle.knuth_plass.specs.KnuthPlass.{Place}
use Rattle.knuth_plass.specs.Cited.Table.{Tables, Sized, Stored, place_of, path_in, path_to, break_in, with_break, seen, break_meant, Leads}
use Rattle.knuth_plass.proofs.Table.{read_back, read_other}

-- two records that are at the same place and lead to the same one
pub record Alike (a b : Record) : Type 0 where
  pub place : place_of a ≡ place_of b
  pub previous : a.previous ≡ b.previous

-- records that are alike below n, each leading down
abbrev Down : (ℕ → Record) → ℕ → Type 0
Down f n = (j : ℕ) → 0 < j → j < n → (f j).previous < j

path_same : (k m : ℕ) (f g : ℕ → Record) (n i : ℕ) → i < n → i ≤ k → i ≤ m → Down f n → ((j : ℕ) → j < n → Alike (g j) (f j)) → path_in k g i ≡ path_in m f i
unfolding path_in
path_same zero zero f g n i h p q d s = refl
path_same zero (suc m) f g n zero h p q d s = refl
path_same zero (suc m) f g n (suc i) h p q d s = absurd (omega arith)
path_same (suc k) zero f g n zero h p q d s = refl
path_same (suc k) zero f g n (suc i) h p q d s = absurd (omega arith)
path_same (suc k) (suc m) f g n zero h p q d s = refl
path_same (suc k) (suc m) f g n (suc i) h p q d s =
    let a = s (suc i) h in
    let l = d (suc i) (omega arith) h in
    rw (a.place, a.previous) (ap (λ (r : List Place). place_of (f (suc i)) ∷ r) (path_same k m f g n (f (suc i)).previous (omega arith) (omega arith) (omega arith) d s))

-- a record's place comes first, and then the path of the one before it
path_next : (f : ℕ → Record) (rest : List Place) (i : ℕ) → 0 < i → ((k : ℕ) → suc k ≡ i → path_in k f (f i).previous ≡ rest) → path_in i f i ≡ place_of (f i) ∷ rest
unfolding path_in
path_next f rest zero h e = absurd (omega arith)
path_next f rest (suc i) h e = ap (λ (r : List Place). place_of (f (suc i)) ∷ r) (e i refl)

-- tables whose records below n are alike have the same paths
module _ (t t₁ : Tables) (n : ℕ) (down : Down (break_in t) n) (alike : (j : ℕ) → j < n → Alike (break_in t₁ j) (break_in t j)) where
  kept : (j : ℕ) → j < n → path_to t₁ j ≡ path_to t j
  unfolding path_to
  kept j h = path_same j j (break_in t) (break_in t₁) n j h (omega arith) (omega arith) down alike

-- a record is stored again, at the same place and leading where it led
module _ (t : Tables) (i n : ℕ) (b : Record) (t₁ : Tables) (stored : Stored t i b t₁) (down : Down (break_in t) n) (here : i < n)
    (same : Alike b (break_in t i)) where
  alike_by : (j : ℕ) (x : Bool) → eqb j i ≡ x → Alike (break_in t₁ j) (break_in t j)
  alike_by j true e = rw (eqb-true j i e, stored.here) same
  alike_by j false e = rw (stored.others j (eqb-false j i e)) (record { place = refl; previous = refl })

  pub path_again : (j : ℕ) → j < n → path_to t₁ j ≡ path_to t j
  path_again = kept t t₁ n down (λ j h. alike_by j (eqb j i) refl)

  pub meant_again : break_meant t₁ i ≡ seen (path_to t i) b
  unfolding break_meant
  meant_again = rw (path_again i here, stored.here)

  pub meant_beside : (j : ℕ) → j < n → (j ≡ i → ⊥) → break_meant t₁ j ≡ break_meant t j
  unfolding break_meant
  meant_beside j h ne = rw (path_again j h, stored.others j ne)

-- one record more, the n-th, leading to one before it
module _ (t : Tables) (n : ℕ) (b : Record) (room : n < length t) (sized : Sized t) (down : Down (break_in t) n) where
  pub path_before : (j : ℕ) → j < n → path_to (with_break t n b) j ≡ path_to t j
  path_before =
      kept t (with_break t n b) n down (λ j h. rw (read_other t n b j (λ e. omega arith)) (record { place = refl; previous = refl }))

  pub meant_before : (j : ℕ) → j < n → break_meant (with_break t n b) j ≡ break_meant t j
  unfolding break_meant
  meant_before j h = rw (path_before j h, read_other t n b j (λ e. omega arith))

  pub path_more : 0 < n → b.previous < n → path_to (with_break t n b) n ≡ place_of b ∷ path_to t b.previous
  unfolding path_to
  path_more z h =
      path_next (break_in (with_break t n b)) (path_in b.previous (break_in t) b.previous) n z
      (λ k e. rw (read_back t n b room sized)
      (path_same k b.previous (break_in t) (break_in (with_break t n b)) n b.previous h (omega arith) (omega arith) down
      (λ j g. rw (read_other t n b j (λ q. omega arith)) (record { place = refl; previous = refl }))))
      ∙ rw (read_back t n b room sized)

  pub meant_more : 0 < n → b.previous < n → break_meant (with_break t n b) n ≡ seen (place_of b ∷ path_to t b.previous) b
  unfolding break_meant
  meant_more z h = rw (path_more z h, read_back t n b room sized)

-- the path of a record is its place and the path of the one before
pub path_here : (t : Tables) (last at : ℕ) → Leads t last → 0 < at → at ≤ last → path_to t at ≡ place_of (break_in t at) ∷ path_to t (break_in t at).previous
unfolding path_to
path_here t last at leads some within =
    let l = (leads at some within).0 in
    path_next (break_in t) (path_in (break_in t at).previous (break_in t) (break_in t at).previous) at some
    (λ k e. path_same k (break_in t at).previous (break_in t) (break_in t) (suc last) (break_in t at).previous (omega arith) (omega arith) (omega arith)
    (λ j h m. (leads j h (omega arith)).0)
    (λ j m. record { place = refl; previous = refl }))

pub path_start : (t : Tables) (at : ℕ) → at ≤ 0 → path_to t at ≡ []
unfolding path_to path_in
path_start t zero h = refl
path_start t (suc at) h = absurd (omega arith)

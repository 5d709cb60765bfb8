-- The best offer: the code's choice between two is the definition's, first among equals, and the order of choosing does not matter.
use mathlib.Core.Path.{◌≡◌, refl}
use mathlib.Core.List.{◌∷◌}
use mathlib.Core.Bool.{Bool, true, false, cond}
use Prim.Native.Nat.{ℕ, suc, ◌*◌, ◌≤◌, ◌<◌}
use native.Mathlib.Omega.{arith}
use borrow.Author.Tests.{le-leb, lt-leb, leb-true, leb-false, lt-ltb, le-ltb, ltb-true, ltb-false}
use lib.Dec.{T, leb, ltb}
use lib.Ieee.{Float}
use Rattle.demerits.specs.Cited.Bounds.{within, most_cost}
use Rattle.knuth_plass.specs.declared.Best.{Best}
use Rattle.knuth_plass.specs.KnuthPlass.{Break, Offer, none, offer, after, lesser}
use Rattle.knuth_plass.specs.Cited.Table.{Tables, path_to}
use Rattle.knuth_plass.specs.Cited.Round.{nothing, best_from, better, offer_made, BestFits}

-- ---- as the code chooses

-- a choice for each number is a choice between the two
pub better_is : (b : Best) (p d : ℕ) (r : Float) (e q : ℕ) (u : Float) → e ≡ cond (leb b.total d) b.total d → q ≡ cond (leb b.total d) b.previous p
    → u ≡ cond (leb b.total d) b.ratio r → best_from q e u ≡ better b p d r
unfolding better
better_is b p d r e q u f g h = rw (f, g, h) (by (leb b.total d)) where
  by : (x : Bool) → best_from (cond x b.previous p) (cond x b.total d) (cond x b.ratio r) ≡ cond x b (best_from p d r)
  by true = refl
  by false = refl

-- one that is no less than the best so far is not taken
pub better_stays : (b : Best) (p d : ℕ) (r : Float) → b.total ≤ d → better b p d r ≡ b
unfolding better
better_stays b p d r h = rw (le-leb b.total d h)

-- ---- what is chosen

module _ (columns : ℕ) (fresh : Bool) (i : ℕ) (t : Tables) where
  -- the break that an offer would be
  abbrev one : Best → Break
  one b = record { places = after i ∷ path_to t b.previous; demerits = b.total; ratio = b.ratio; columns = columns; fresh = fresh }

  pub offer_some : (b : Best) → b.total < nothing → offer_made columns fresh i t b ≡ offer (one b)
  unfolding offer_made
  offer_some b h = rw (lt-ltb b.total nothing h)

  pub offer_none : (b : Best) → nothing ≤ b.total → offer_made columns fresh i t b ≡ none
  unfolding offer_made
  offer_none b h = rw (le-ltb b.total nothing h)

  pub offer_better : (b : Best) (p d : ℕ) (r : Float) → d < nothing → offer_made columns fresh i t (better b p d r) ≡ lesser (offer_made columns fresh i t b) (offer_made columns fresh i t (best_from p d r))
  unfolding better lesser
  offer_better b p d r few = by (leb b.total d) (ltb b.total nothing) refl refl where
    by : (x y : Bool) → leb b.total d ≡ x → ltb b.total nothing ≡ y → offer_made columns fresh i t (cond x b (best_from p d r)) ≡ lesser (offer_made columns fresh i t b) (offer_made columns fresh i t (best_from p d r))
    by true true e f = rw (offer_some b (ltb-true b.total nothing f), offer_some (best_from p d r) few, lesser, e)
    by false true e f = rw (offer_some b (ltb-true b.total nothing f), offer_some (best_from p d r) few, lesser, e)
    by true false e f = let h = leb-true b.total d e in let k = ltb-false b.total nothing f in absurd (omega arith)
    by false false e f = rw (offer_none b (ltb-false b.total nothing f), lesser)

pub fits_better : (i size : ℕ) (b : Best) (p d : ℕ) (r : Float) → (b.total < nothing → BestFits i size b) → p < size → d ≤ suc i * most_cost → T (within 1 r)
    → (better b p d r).total < nothing → BestFits i size (better b p d r)
unfolding better
fits_better i size b p d r f h k w = by (leb b.total d) where
  by : (x : Bool) → (cond x b (best_from p d r)).total < nothing → BestFits i size (cond x b (best_from p d r))
  by true z = f z
  by false z = record { previous = h; total = k; ratio = w }

-- the same paths, the same offer
pub offer_same : (columns : ℕ) (fresh : Bool) (i size : ℕ) (t t₁ : Tables) (b : Best) → (b.total < nothing → BestFits i size b) → ((j : ℕ) → j < size → path_to t₁ j ≡ path_to t j) → offer_made columns fresh i t₁ b ≡ offer_made columns fresh i t b
offer_same columns fresh i size t t₁ b f e = by (ltb b.total nothing) refl where
  by : (x : Bool) → ltb b.total nothing ≡ x → offer_made columns fresh i t₁ b ≡ offer_made columns fresh i t b
  by true h =
      let k = ltb-true b.total nothing h in
      rw (offer_some columns fresh i t₁ b k, offer_some columns fresh i t b k, e b.previous (f k).previous)
  by false h = let k = ltb-false b.total nothing h in rw (offer_none columns fresh i t₁ b k, offer_none columns fresh i t b k)

-- ---- first among equals, in any grouping

pub lesser_none : (a : Offer) → lesser a none ≡ a
unfolding lesser
lesser_none none = refl
lesser_none (offer a) = refl

module _ (a b c : Break) where
  assoc_by : (x y : Bool) → leb a.demerits b.demerits ≡ x → leb b.demerits c.demerits ≡ y
      → lesser (lesser (offer a) (offer b)) (offer c) ≡ lesser (offer a) (lesser (offer b) (offer c))
  unfolding lesser
  assoc_by true true e f =
      let h = leb-true a.demerits b.demerits e in
      let k = leb-true b.demerits c.demerits f in
      rw (e, f, lesser, e, le-leb a.demerits c.demerits (omega arith))
  assoc_by true false e f = rw (e, f, lesser)
  assoc_by false true e f = rw (e, f, lesser, e)
  assoc_by false false e f =
      let h = leb-false a.demerits b.demerits e in
      let k = leb-false b.demerits c.demerits f in
      rw (e, f, lesser, lt-leb a.demerits c.demerits (omega arith))

pub lesser_assoc : (a b c : Offer) → lesser (lesser a b) c ≡ lesser a (lesser b c)
unfolding lesser
lesser_assoc none b c = refl
lesser_assoc (offer a) none c = refl
lesser_assoc (offer a) (offer b) none = lesser_none (lesser (offer a) (offer b))
lesser_assoc (offer a) (offer b) (offer c) = assoc_by a b c (leb a.demerits b.demerits) (leb b.demerits c.demerits) refl refl

-- Bytes below 0x80: each is an accepted character, so a run of them has no damaged place.
use Rattle.std.proofs.Common.{None}
use mathlib.Core.Path.{◌≡◌, refl, sym, ap, ◌∙◌}
use mathlib.Core.Bool.{Bool, true, false}
use mathlib.Core.List.{List}
use Prim.Native.Nat.{ℕ, zero, suc, ◌+◌, ◌-◌, ◌≤◌, ◌<◌}
use native.Mathlib.Omega.{arith}
use borrow.Author.Tests.{ltb-true, ltb-false}
use lib.Dec.{ltb}
use lib.ListN.{length, get_or, drop}
use Rattle.text.specs.Characters.{damage}
use Rattle.text.specs.Cited.Places.{Ascii}
use Rattle.text.proofs.Glyphs.{ascii_here}
use Rattle.text.proofs.Damage.{later, later_zero, damage_past, damage_on}

module _ {s : List ℕ} {from : ℕ} where
  pub ascii_none : from ≤ length s → Ascii s from from
  ascii_none h = record { on = omega arith; within = h; small = λ i a b. absurd (omega arith) }

  -- one run after another
  pub ascii_more : {i to : ℕ} → Ascii s from i → Ascii s i to → Ascii s from to
  ascii_more {i} {to} a b = record { on = omega (arith, a.on, b.on); within = b.within; small = small }
    where
      small : (k : ℕ) → from ≤ k → k < to → get_or s k 0 < 0x80
      small k h l = pick (ltb k i) refl
        where
          pick : (t : Bool) → ltb k i ≡ t → get_or s k 0 < 0x80
          pick true e = a.small k h (ltb-true k i e)
          pick false e = b.small k (ltb-false k i e) l

  pub ascii_one : from < length s → get_or s from 0 < 0x80 → Ascii s from (from + 1)
  ascii_one h k = record { on = omega arith; within = omega arith; small = λ i a b. let e : i ≡ from = omega arith in rw e k }

-- a damaged place after a run is the first
pub damage_run : (s : List ℕ) (from to : ℕ) → Ascii s from to → later from (damage (drop from s)) ≡ later to (damage (drop to s))
damage_run s from to a = go (to - from) to (omega (arith, a.on)) (omega (arith, a.on))
  where
    go : (n to' : ℕ) → to' ≡ from + n → to' ≤ to → later from (damage (drop from s)) ≡ later to' (damage (drop to' s))
    go zero to' e h = let q : from ≡ to' = omega arith in ap (λ (i : ℕ). later i (damage (drop i s))) q
    go (suc n) to' e h =
        let q : from + n + 1 ≡ to' = omega arith in
        go n (from + n) refl (omega arith) ∙ damage_on s (from + n) (ascii_here s (from + n) (omega (arith, a.within)) (a.small (from + n) (omega arith) (omega arith))) ∙ ap (λ (i : ℕ). later i (damage (drop i s))) q

pub ascii_whole : (s : List ℕ) (n : ℕ) → Ascii s 0 n → n ≡ length s → damage s ≡ None
ascii_whole s n a e = sym (later_zero (damage s)) ∙ damage_run s 0 n a ∙ damage_past s n (omega arith)

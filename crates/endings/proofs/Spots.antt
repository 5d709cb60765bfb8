-- Where a line stands, and why it ends there.
use mathlib.Core.Path.{◌≡◌, refl, sym, ap, ◌∙◌}
use mathlib.Core.Bool.{Bool, true, false, cond, ◌&&◌}
use mathlib.Core.List.{List, [], ◌∷◌}
use Prim.Native.Nat.{ℕ, suc, ◌+◌, ◌-◌, ◌≤◌, ◌<◌}
use native.Mathlib.Omega.{arith}
use borrow.Author.Tests.{eqb-true, eqb-false, eq-eqb, ne_eqb}
use lib.Dec.{eqb}
use lib.ListN.{length, get_or}
use lib.Seq.{slice}
use Rattle.lists.proofs.Remaining.{slice_none}
use Rattle.lists.proofs.Views.{behind_first}
use Rattle.records.specs.Cited.Marks.{mark_in, marks_in}
use Rattle.records.proofs.Marks.{marks_from}
use Rattle.endings.specs.declared.Ending.{Ending}
use Rattle.endings.specs.declared.Ending.TheVariants.{Paragraph}
use Rattle.endings.specs.declared.Spot.{Spot}
use Rattle.endings.specs.declared.Spot.TheVariants.{Before, Last, Behind}
use Rattle.endings.specs.Endings.{Next, goes_on, ended, breaks, endings}
use Rattle.endings.specs.Cited.Spots.{spot_of}

-- ---- as the code goes

module _ (table : List ℕ) (n : ℕ) where
  abbrev pub spot_from : ℕ → ℕ → Spot
  spot_from i left = spot_of (slice i n (marks_in n table)) i left

  spot_cons : (i left : ℕ) → i < n → spot_from i left ≡ cond (mark_in table i && eqb left 0) (Before i) (spot_from (i + 1) (cond (mark_in table i) (left - 1) left))
  unfolding spot_of
  spot_cons i left h = rw (marks_from table n i h)

  pub spot_here : (i left : ℕ) → i < n → true ≡ mark_in table i → left ≡ 0 → Before i ≡ spot_from i left
  spot_here i left h e z = sym (rw (← e, eq-eqb left 0 z) at (spot_cons i left h))

  pub spot_less : (i left : ℕ) → i < n → true ≡ mark_in table i → (left ≡ 0 → ⊥) → spot_from (i + 1) (left - 1) ≡ spot_from i left
  spot_less i left h e z = sym (rw (← e, ne_eqb left 0 z) at (spot_cons i left h))

  pub spot_on : (i left : ℕ) → i < n → false ≡ mark_in table i → spot_from (i + 1) left ≡ spot_from i left
  spot_on i left h e = sym (rw (← e) at (spot_cons i left h))

  pub spot_last : (i left : ℕ) → n ≤ i → left ≡ 0 → Last ≡ spot_from i left
  unfolding spot_of
  spot_last i left h z = sym (rw (slice_none (marks_in n table) i n h, eq-eqb left 0 z))

  pub spot_behind : (i left behind : ℕ) → n ≤ i → left ≡ behind + 1 → Behind behind ≡ spot_from i left
  unfolding spot_of
  spot_behind i left behind h z = let e : left - 1 ≡ behind = omega arith in sym (rw (slice_none (marks_in n table) i n h, ne_eqb left 0 (λ q. absurd (omega arith)), e))

-- ---- why a line ends there

abbrev place_in : Spot → ℕ
place_in (Before e) = e
place_in Last = 0
place_in (Behind left) = left

abbrev kind_in : Spot → ℕ
kind_in (Before e) = 0
kind_in Last = 1
kind_in (Behind left) = 2

next_behind : (x : Next) (xs : List Next) (e i : ℕ) → i + 1 ≤ e → get_or (x ∷ xs) (e - i) goes_on ≡ get_or xs (e - (i + 1)) goes_on
next_behind x xs e i h = let q : e - i ≡ suc (e - (i + 1)) = omega arith in rw q

-- before word e, which starts a line
pub record EndsAt (ns : List Next) (i left e : ℕ) : Type 0 where
  pub from : i ≤ e
  pub within : e < i + length ns
  pub some : left < length (endings ns)
  pub is : get_or ns (e - i) goes_on ≡ ended (get_or (endings ns) left Paragraph)

ends_next : (x : Next) (ns : List Next) (i left e : ℕ) → endings (x ∷ ns) ≡ endings ns → EndsAt ns (i + 1) left e → EndsAt (x ∷ ns) i left e
ends_next x ns i left e same h =
    let f = h.from in
    let w = h.within in
    record { from = omega arith; within = omega arith; some = rw same h.some; is = next_behind x ns e i f ∙ h.is ∙ rw same }

ends_later : (x : Ending) (ns : List Next) (i left e : ℕ) → (left ≡ 0 → ⊥) → EndsAt ns (i + 1) (left - 1) e → EndsAt (ended x ∷ ns) i left e
unfolding endings
ends_later x ns i left e z h =
    let f = h.from in
    let w = h.within in
    let s = h.some in
    record { from = omega arith; within = omega arith; some = omega arith; is = next_behind (ended x) ns e i f ∙ h.is ∙ ap ended (sym (behind_first Paragraph x (endings ns) left z)) }

ends_here : (x : Ending) (ns : List Next) (i left e : ℕ) → left ≡ 0 → i ≡ e → EndsAt (ended x ∷ ns) i left e
unfolding endings
ends_here x ns i left e z q =
    let d : e - i ≡ 0 = omega arith in
    record { from = omega arith; within = omega arith; some = omega arith; is = rw (d, z) }

pub spot_ends : (ns : List Next) (i left e : ℕ) → spot_of (breaks ns) i left ≡ Before e → EndsAt ns i left e
unfolding spot_of breaks endings
spot_ends [] i left e h = by (eqb left 0) h where
  by : (x : Bool) → cond x Last (Behind (left - 1)) ≡ Before e → EndsAt [] i left e
  by true q = let k = ap kind_in q in absurd (omega arith)
  by false q = let k = ap kind_in q in absurd (omega arith)
spot_ends (goes_on ∷ ns) i left e h = ends_next goes_on ns i left e refl (spot_ends ns (i + 1) left e h)
spot_ends (ended x ∷ ns) i left e h = by (eqb left 0) refl h (spot_ends ns (i + 1) (left - 1) e) where
  by : (z : Bool) → eqb left 0 ≡ z → cond z (Before i) (spot_of (breaks ns) (i + 1) (left - 1)) ≡ Before e
      → (spot_of (breaks ns) (i + 1) (left - 1) ≡ Before e → EndsAt ns (i + 1) (left - 1) e) → EndsAt (ended x ∷ ns) i left e
  by true z q rest = ends_here x ns i left e (eqb-true left 0 z) (ap place_in q)
  by false z q rest = ends_later x ns i left e (eqb-false left 0 z) (rest q)

-- the last line
pub spot_is_last : (ns : List Next) (i left : ℕ) → spot_of (breaks ns) i left ≡ Last → (left + 1 ≡ length (endings ns)) × (get_or (endings ns) left Paragraph ≡ Paragraph)
unfolding spot_of breaks endings
spot_is_last [] i left h = by (eqb left 0) refl h where
  by : (x : Bool) → eqb left 0 ≡ x → cond x Last (Behind (left - 1)) ≡ Last → (left + 1 ≡ length (Paragraph ∷ [])) × (get_or (Paragraph ∷ []) left Paragraph ≡ Paragraph)
  by true z q = let k = eqb-true left 0 z in (omega arith, rw k)
  by false z q = let k = ap kind_in q in absurd (omega arith)
spot_is_last (goes_on ∷ ns) i left h = spot_is_last ns (i + 1) left h
spot_is_last (ended x ∷ ns) i left h = by (eqb left 0) refl h (spot_is_last ns (i + 1) (left - 1)) where
  by : (z : Bool) → eqb left 0 ≡ z → cond z (Before i) (spot_of (breaks ns) (i + 1) (left - 1)) ≡ Last
      → (spot_of (breaks ns) (i + 1) (left - 1) ≡ Last → (left - 1 + 1 ≡ length (endings ns)) × (get_or (endings ns) (left - 1) Paragraph ≡ Paragraph))
      → (left + 1 ≡ length (x ∷ endings ns)) × (get_or (x ∷ endings ns) left Paragraph ≡ Paragraph)
  by true z q rest = let k = ap kind_in q in absurd (omega arith)
  by false z q rest =
      let n = eqb-false left 0 z in
      let r = rest q in
      let l = r.0 in
      (omega arith, behind_first Paragraph x (endings ns) left n ∙ r.1)

-- so many lines after the paragraph's
pub spot_is_behind : (ns : List Next) (i left r : ℕ) → spot_of (breaks ns) i left ≡ Behind r → left ≡ r + length (endings ns)
unfolding spot_of breaks endings
spot_is_behind [] i left r h = by (eqb left 0) refl h where
  by : (x : Bool) → eqb left 0 ≡ x → cond x Last (Behind (left - 1)) ≡ Behind r → left ≡ r + 1
  by true z q = let k = ap kind_in q in absurd (omega arith)
  by false z q = let n = eqb-false left 0 z in let k = ap place_in q in omega arith
spot_is_behind (goes_on ∷ ns) i left r h = spot_is_behind ns (i + 1) left r h
spot_is_behind (ended x ∷ ns) i left r h = by (eqb left 0) refl h (spot_is_behind ns (i + 1) (left - 1) r) where
  by : (z : Bool) → eqb left 0 ≡ z → cond z (Before i) (spot_of (breaks ns) (i + 1) (left - 1)) ≡ Behind r
      → (spot_of (breaks ns) (i + 1) (left - 1) ≡ Behind r → left - 1 ≡ r + length (endings ns)) → left ≡ r + length (x ∷ endings ns)
  by true z q rest = let k = ap kind_in q in absurd (omega arith)
  by false z q rest = let n = eqb-false left 0 z in let l = rest q in omega arith

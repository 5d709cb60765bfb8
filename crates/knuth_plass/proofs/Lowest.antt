-- The first least break: the code keeps it with its number as it goes over the active ones.
use mathlib.Core.Path.{◌≡◌, refl, sym, ap}
use mathlib.Core.Bool.{Bool, true, false, cond}
use mathlib.Core.List.{List, ◌∷◌, map}
use Prim.Native.Nat.{ℕ, ◌+◌, ◌≤◌, ◌<◌}
use native.Mathlib.Omega.{arith}
use borrow.Author.Tests.{lt-ltb, le-ltb}
use lib.Dec.{ltb}
use lib.ListN.{length, get_or, take}
use lib.Seq.{slice, get_or-take, length-take-le}
use Rattle.lists.proofs.Remaining.{slice_here, slice_none}
use Rattle.knuth_plass.specs.declared.Break.{Break as Record}
use Rattle.knuth_plass.specs.declared.State.{State}
use Rattle.knuth_plass.specs.declared.Standing.{Standing}
use Rattle.knuth_plass.specs.KnuthPlass.{Break, least_from, least}
use Rattle.knuth_plass.specs.Cited.Table.{Tables, break_in, path_to, seen, break_meant, lesser_in}
use Rattle.knuth_plass.specs.Cited.Round.{lessened, noted, LeastFound, breaks_listed, Listed, LeastIs}
use Rattle.knuth_plass.proofs.Ascends.{ascends_each}

abbrev with : State → ℕ → ℕ → State
with s n d = record { kept = s.kept; from = n; least = d; best = s.best }

module _ (s : State) (n d : ℕ) where
  pub noted_less : d < s.least → with s n d ≡ noted s n d
  unfolding noted
  noted_less h = sym (rw (lt-ltb d s.least h))

  pub noted_not : s.least ≤ d → s ≡ noted s n d
  unfolding noted
  noted_not h = sym (rw (le-ltb d s.least h))

  -- the round's other numbers are as they were
  pub noted_kept : (noted s n d).kept ≡ s.kept
  unfolding noted
  noted_kept = by (ltb d s.least) where
    by : (x : Bool) → (cond x (with s n d) s).kept ≡ s.kept
    by true = refl
    by false = refl

  pub noted_best : (noted s n d).best ≡ s.best
  unfolding noted
  noted_best = by (ltb d s.least) where
    by : (x : Bool) → (cond x (with s n d) s).best ≡ s.best
    by true = refl
    by false = refl

  pub noted_from : (size : ℕ) → s.from < size → n < size → (noted s n d).from < size
  unfolding noted
  noted_from size h k = by (ltb d s.least) where
    by : (x : Bool) → (cond x (with s n d) s).from < size
    by true = k
    by false = h

-- c is the least so far, and b is next
module _ (st : Standing) (t : Tables) (s : State) (n : ℕ) (b : Record) (c : Break) (found : LeastFound st t s c) where
  abbrev pub lower : Break
  lower = cond (ltb b.demerits s.least) (seen (path_to t n) b) c

  pub noted_found : b ≡ lessened st.reduction (break_in t n) → LeastFound st t (noted s n b.demerits) lower
  unfolding noted seen
  noted_found is = by (ltb b.demerits s.least) where
    by : (x : Bool) → LeastFound st t (cond x (with s n b.demerits) s) (cond x (seen (path_to t n) b) c)
    by true = record { demerits = refl; again = λ z. ap (seen (path_to t n)) (sym is) }
    by false = found

  -- the definition's choice is the same
  pub least_step : (bs : List Break) → least_from c (seen (path_to t n) b ∷ bs) ≡ least_from lower bs
  unfolding least_from seen
  least_step bs = ap (λ (m : ℕ). least_from (cond (ltb b.demerits m) (seen (path_to t n) b) c) bs) (sym found.demerits)

-- ---- the same by number, over all active breaks

pub lesser_below : (t : Tables) (m n size : ℕ) → m < size → n < size → lesser_in t m n < size
lesser_below t m n size h k = by (ltb (break_in t n).demerits (break_in t m).demerits) where
  by : (x : Bool) → cond x n m < size
  by true = k
  by false = h

pub least_next : (t : Tables) (m n : ℕ) (bs : List Break) → least_from (break_meant t m) (break_meant t n ∷ bs) ≡ least_from (break_meant t (lesser_in t m n)) bs
unfolding least_from break_meant seen
least_next t m n bs = ap (λ (c : Break). least_from c bs) (by (ltb (break_in t n).demerits (break_in t m).demerits)) where
  by : (x : Bool) → cond x (break_meant t n) (break_meant t m) ≡ break_meant t (cond x n m)
  by true = refl
  by false = refl

module _ (st : Standing) (t : Tables) (a : List ℕ) (l : Listed st t a) where
  few : st.count ≤ length a
  few = let h = l.size in let r = l.room in let n = l.active in omega arith

  pub active_below : (k : ℕ) → k < st.count → get_or a k 0 < st.size
  active_below k h = rw (get_or-take st.count a k 0 h) at (ascends_each 0 st.size (take st.count a) k l.ascends (rw (length-take-le st.count a few) h))

  pub least_begins : least_from (break_meant t (get_or a 0 0)) (map (break_meant t) (slice 1 st.count a)) ≡ least (breaks_listed st.count t a)
  unfolding least
  least_begins = sym (ap (λ (ns : List ℕ). least (map (break_meant t) ns)) (slice_here a 0 st.count 0 l.some few))

  pub least_goes : (k m r : ℕ) → k < st.count → r ≡ lesser_in t m (get_or a k 0) → m < st.size
      → (r < st.size) × (least_from (break_meant t r) (map (break_meant t) (slice (k + 1) st.count a)) ≡ least_from (break_meant t m) (map (break_meant t) (slice k st.count a)))
  least_goes k m r h e w = (
    rw e (lesser_below t m (get_or a k 0) st.size w (active_below k h)),
    rw (e, slice_here a k st.count 0 h few) (sym (least_next t m (get_or a k 0) (map (break_meant t) (slice (k + 1) st.count a)))),
  )

  pub least_found : (k m : ℕ) → st.count ≤ k → m < st.size → least_from (break_meant t m) (map (break_meant t) (slice k st.count a)) ≡ least (breaks_listed st.count t a) → LeastIs st t a m
  unfolding least_from
  least_found k m h w e = record { within = w; is = rw (slice_none a k st.count h) at e }

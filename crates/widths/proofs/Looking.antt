-- A step of the search: what one range says of a character, if all before it are left out.
use mathlib.Core.Path.{◌≡◌, refl, ap, sym, ◌∙◌}
use mathlib.Core.Bool.{Bool, true, false}
use mathlib.Core.List.{List, [], ◌∷◌}
use Prim.Native.Nat.{ℕ, zero, suc, ◌+◌, ◌≤◌, ◌<◌}
use native.Mathlib.Numerals.{add-one}
use native.Mathlib.Omega.{arith}
use lib.Dec.{ltb}
use lib.ListN.{length, get_or, drop, get_or-eq_default, drop_of_length-le}
use borrow.Author.Tests.{ltb-true, ltb-false, le-leb, lt-ltb, le-ltb}
use Rattle.widths.specs.Ranges.{Range, span, width_in}
use Rattle.widths.specs.Table.{table}
use Rattle.widths.specs.Widths.{width_of}
use Rattle.widths.specs.Cited.Forms.{beyond, LeftOut}
use Rattle.widths.proofs.Starts.{end_of, size, ends_before}

abbrev last_of : Range → ℕ
last_of (span a b w) = b

abbrev columns_of : Range → ℕ
columns_of (span a b w) = w

here : (rs : List Range) (k : ℕ) → k < length rs → drop k rs ≡ get_or rs k beyond ∷ drop (suc k) rs
here [] k h = absurd (omega arith)
here (r ∷ rs) zero h = refl
here (r ∷ rs) (suc k) h = here rs k (omega arith)

end_here : (rs : List Range) (k : ℕ) → k < length rs → end_of rs k ≡ last_of (get_or rs k beyond)
unfolding end_of
end_here [] k h = absurd (omega arith)
end_here (span a b w ∷ rs) zero h = refl
end_here (span a b w ∷ rs) (suc k) h = end_here rs k (omega arith)

-- the range k, from f to l, of width w
module _ (k c f l w : ℕ) (e : span f l w ≡ get_or table k beyond) (o : LeftOut k c) where
  seen : k < 479 → width_in (span f l w ∷ drop (suc k) table) c ≡ width_of c
  seen h = rw (e, ← here table k (rw size h)) o

  none : 479 ≤ k → 1 ≡ width_of c
  unfolding width_in
  none h = let z : length table ≤ k = rw size h in rw (drop_of_length-le table z) at o

  outside : 479 ≤ k → span f l w ≡ beyond
  outside h = let z : length table ≤ k = rw size h in e ∙ get_or-eq_default table beyond z

  pub gap : c < f → 1 ≡ width_of c
  unfolding width_in
  gap g = pick (ltb k 479) refl
    where
      pick : (t : Bool) → ltb k 479 ≡ t → 1 ≡ width_of c
      pick true x = rw (lt-ltb c f g, width_in) at (seen (ltb-true k 479 x))
      pick false x = none (ltb-false k 479 x)

  pub hit : f ≤ c → c ≤ l → w ≡ width_of c
  unfolding width_in
  hit g m = pick (ltb k 479) refl
    where
      pick : (t : Bool) → ltb k 479 ≡ t → w ≡ width_of c
      pick true x = rw (le-ltb c f g, width_in, le-leb c l m) at (seen (ltb-true k 479 x))
      pick false x = ap columns_of (outside (ltb-false k 479 x)) ∙ none (ltb-false k 479 x)

  pub on : c < 0xE01F0 → l < c → (k < 479) × LeftOut (k + 1) c
  on most g = pick (ltb k 479) refl
    where
      pick : (t : Bool) → ltb k 479 ≡ t → (k < 479) × LeftOut (k + 1) c
      pick true x =
          let h = ltb-true k 479 x in
          let s = end_here table k (rw size h) ∙ sym (ap last_of e) in
          (h, rw add-one (ends_before k c h (omega arith)))
      pick false x = let s : l ≡ 0xFFFFFF = ap last_of (outside (ltb-false k 479 x)) in absurd (omega arith)

-- The cut of a stretch, from what the searches found.
use mathlib.Core.Path.{◌≡◌, refl}
use mathlib.Core.Bool.{Bool, true, false}
use mathlib.Core.Logic.{inl, inr}
use mathlib.Core.List.{List}
use Prim.Native.Nat.{ℕ, suc, ◌+◌, ◌-◌, ◌≤◌, ◌<◌}
use native.Mathlib.Omega.{arith}
use lib.Dec.{ltb}
use lib.ListN.{get_or}
use lib.Seq.{slice, slice-cons}
use borrow.Author.Tests.{ltb-true, ltb-false}
use Rattle.lists.proofs.Joins.{slice_join}
use Rattle.regular.specs.Cited.Regular.{spelled}
use Rattle.regular.specs.Cited.Places.{NoSpace, LastSpace, FirstSpace, OverSpaces, BeforeSpaces, Inked, columns_in, CutAt, CutIs}
use Rattle.regular.specs.declared.Cut.{Cut}
use Rattle.regular.proofs.Columns.{columns_join}
use Rattle.regular.proofs.Searches.{down}
use Rattle.regular.proofs.Spelling.{spelled_after}

module _ (s : List ℕ) (p e at : ℕ) (inked : Inked s p e) (from : p ≤ at) (short : at < e) where
  -- after a space before the end stands a word
  behind : (z next : ℕ) → z < e → get_or s z 0 ≡ 32 → OverSpaces s (z + 1) e next → next < e
  behind z next l h over = pick (ltb next e) refl
    where
      z_less : z < e - 1
      z_less = go (ltb z (e - 1)) refl
        where
          go : (t : Bool) → ltb z (e - 1) ≡ t → z < e - 1
          go true q = ltb-true z (e - 1) q
          go false q = let k : z ≡ e - 1 = omega (arith, ltb-false z (e - 1) q) in absurd (inked.last (rw k at h))

      pick : (t : Bool) → ltb next e ≡ t → next < e
      pick true q = ltb-true next e q
      pick false q = absurd (inked.last (over.spaces (e - 1) (let k = z_less in omega arith) (let k = ltb-false next e q in omega arith)))

  -- after a space a character begins
  rest_spelled : (z : ℕ) → p ≤ z → z < e → get_or s z 0 ≡ 32 → spelled false (slice (suc z) e s) ≡ true
  rest_spelled z a b h =
      let w = inked.within in
      spelled_after false (slice p z s) (slice (suc z) e s)
      (rw (← slice_join p z e s a (omega arith) w, slice-cons z e s 0 b (omega arith), h) at inked.letters)

  rest_inked : (z next : ℕ) → p ≤ z → z < e → get_or s z 0 ≡ 32 → OverSpaces s (z + 1) e next → Inked s next e
  rest_inked z next a l h over =
      let k = behind z next l h over in
      let n = over.on in
      let m : suc (next - 1) ≡ next = omega arith in
      record {
        on = k;
        within = inked.within;
        letters = rw m at (rest_spelled (next - 1) (omega arith) (omega arith) (down (λ j. get_or s j 0 ≡ 32) (z + 1) next z refl over.spaces h (next - 1) (omega arith) (omega arith)));
        first = over.ink k;
        last = inked.last;
      }

  -- the last space up to the place
  pub cut_found : (q end next : ℕ) → LastSpace s p at q → p < q → BeforeSpaces s p q end → OverSpaces s (q + 1) e next → CutIs s p e at (record { end = end; next = next })
  cut_found q end next last l before over =
      let h = last.space l in
      let m = last.most in
      let k = behind q next (omega arith) h over in
      record { most = omega arith; cut = λ x. made; lone = λ x. absurd (omega arith) }
    where
      some : p < end
      some = go (ltb p end) refl
        where
          go : (t : Bool) → ltb p end ≡ t → p < end
          go true r = ltb-true p end r
          go false r = absurd (inked.first (before.spaces p (ltb-false p end r) l))

      made : CutAt s p e at (record { end = end; next = next })
      made =
          let m = last.most in
          let b = before.most in
          let n = over.on in
          record {
            on = some;
            gap = omega arith;
            ends = before.ink some;
            spaces = λ i x y. among i x y (ltb i q) refl;
            rest = rest_inked q next (omega arith) (omega arith) (last.space l) over;
            fits = inl (omega arith);
            wide = λ i x y. last.none i (omega arith) y;
          }
        where
          among : (i : ℕ) → end ≤ i → i < next → (t : Bool) → ltb i q ≡ t → get_or s i 0 ≡ 32
          among i x y true r = before.spaces i x (ltb-true i q r)
          among i x y false r = down (λ j. get_or s j 0 ≡ 32) (q + 1) next q refl over.spaces (last.space l) i (ltb-false i q r) y

  -- no space up to the place: one word
  module _ (q z : ℕ) (last : LastSpace s p at q) (none : q ≤ p) (first : FirstSpace s (at + 1) e z) where
    one_word : (i : ℕ) → p ≤ i → i < z → NoSpace s i
    one_word i h k = pick (ltb p i) (ltb at i) refl refl
      where
        pick : (t u : Bool) → ltb p i ≡ t → ltb at i ≡ u → NoSpace s i
        pick false u x y = let m : i ≡ p = omega (arith, ltb-false p i x) in rw m inked.first
        pick true true x y = first.none i (omega (arith, ltb-true at i y)) k
        pick true false x y = last.none i (omega (arith, ltb-true p i x)) (ltb-false at i y)

    pub cut_long : (next : ℕ) → z < e → OverSpaces s (z + 1) e next → CutIs s p e at (record { end = z; next = next })
    cut_long next l over =
        let f = first.on in
        let n = over.on in
        let k = behind z next l (first.space l) over in
        record {
          most = omega arith;
          cut = λ x. record {
            on = omega arith;
            gap = omega arith;
            ends = one_word (z - 1) (omega arith) (omega arith);
            spaces = down (λ j. get_or s j 0 ≡ 32) (z + 1) next z refl over.spaces (first.space l);
            rest = rest_inked z next (omega arith) l (first.space l) over;
            fits = inr one_word;
            wide = λ i a b. absurd (omega arith);
          };
          lone = λ x. absurd (omega arith);
        }

-- a cut parts the columns of a stretch
pub cut_columns : {s : List ℕ} {p e at : ℕ} {r : Cut} {columns before : ℕ} → CutAt s p e at r → columns ≡ columns_in s p e → before ≡ columns_in s p r.next → columns ≡ before + columns_in s r.next e
cut_columns {s} {p} {e} {at} {r} cut whole front =
    let a = cut.on in
    let b = cut.gap in
    let c = cut.rest.on in
    omega (arith, whole, front, columns_join s p r.next e (omega arith) (omega arith) cut.rest.within)

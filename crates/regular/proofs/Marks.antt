-- The mark after a line's stretch, and the stretch of a paragraph's next line.
use mathlib.Core.Path.{◌≡◌, refl, sym, ◌∙◌}
use mathlib.Core.Bool.{Bool, true, false, false≢true}
use mathlib.Core.List.{List, [], ◌∷◌, ◌++◌}
use Prim.Native.Nat.{ℕ, zero, suc, ◌+◌, ◌-◌, ◌≤◌, ◌<◌, ◌^◌}
use native.Mathlib.Omega.{arith}
use lib.ListN.{length, get_or}
use lib.Seq.{slice, length-slice, slice_empty}
use Rattle.spacing.specs.declared.Setting.{Setting}
use Rattle.words.specs.Cited.Scan.{punct_code}
use Rattle.output.proofs.Sink.{left_first}
use Rattle.regular.specs.declared.Reached.{Reached}
use Rattle.regular.specs.Cited.Regular.{stretch_words, lastly, fresh_punct, quick_on}
use Rattle.regular.specs.Cited.Places.{FirstSpace, Inked, Filled, Joined, Stands, Went}
use Rattle.regular.proofs.Rest.{on_rest, on_fresh}
use Rattle.regular.proofs.Fresh.{no_words}
use Rattle.regular.proofs.Parts.{part_at, part_ink, part_spaced}

-- ---- marks

lastly_last : (t : Bool) (xs : List ℕ) (last : ℕ) → length xs ≡ last + 1 → lastly t xs ≡ punct_code (get_or xs last 0)
unfolding lastly
lastly_last t [] last h = absurd (omega arith)
lastly_last t (x ∷ []) zero h = refl
lastly_last t (x ∷ []) (suc last) h = absurd (omega arith)
lastly_last t (x ∷ y ∷ xs) zero h = absurd (omega arith)
lastly_last t (x ∷ y ∷ xs) (suc last) h = lastly_last (punct_code x) (y ∷ xs) last (omega arith)

module _ (s : List ℕ) (p e : ℕ) (inked : Inked s p e) where
  pub lastly_at : lastly false (slice p e s) ≡ punct_code (get_or s (e - 1) 0)
  lastly_at =
      let w = inked.within in
      let l = inked.on in
      let n = length-slice p e s w in
      let z : p + (e - 1 - p) ≡ e - 1 = omega arith in
      lastly_last false (slice p e s) (e - 1 - p) (omega arith) ∙ rw (part_at s p e w (e - 1 - p) (omega arith), z)

  pub head_lone : (r : ℕ) → FirstSpace s p e r → r ≡ e → false ≡ fresh_punct false (slice p e s)
  unfolding fresh_punct
  head_lone r f q = rw (part_ink s p e inked.within (λ i a h. f.none i a (omega arith)))

  pub head_more : (r : ℕ) → FirstSpace s p e r → (r ≡ e → ⊥) → punct_code (get_or s (e - 1) 0) ≡ fresh_punct false (slice p e s)
  unfolding fresh_punct
  head_more r f q =
      let l : r < e = omega (arith, f.most, q) in
      rw (part_spaced s p e inked.within r f.on l (f.space l)) (sym lastly_at)

module _ (s : List ℕ) (from e : ℕ) (g : Setting) (indent : List ℕ) (out : List ℕ) (t : Reached) where
  pub went_none : from ≡ e → Stands t → Went s from e g indent out t out t
  went_none q near = record {
    left = λ o more same. rw (q, slice_empty e s, no_words o true false) (left_first _ _ _);
    most = omega arith;
    stands = near;
  }

  pub went_some : t.begins ≡ false → Inked s from e → length s ≤ 2 ^ 20 → g.indent < 2 ^ 31 → g.width < 2 ^ 31 → (out' : List ℕ) (r : Reached) → Joined s from e t.punct g indent t.column out t.written out' r → (punct : Bool) → punct ≡ punct_code (get_or s (e - 1) 0)
      → Went s from e g indent out t out' (record { written = r.written; column = r.column; punct = punct; begins = false })
  unfolding quick_on
  went_some begun inked size ind wid out' r j punct q = record {
    left = λ o more same. rw (on_rest g indent t.begins t.column t.punct (stretch_words o true false (slice from e s) ++ more) begun, q, ← lastly_at s from e inked) (j.left o more same);
    most = j.most;
    stands = (let h = j.reach in let w = inked.within in omega arith, λ b. absurd (false≢true b));
  }

  -- with the paragraph's first word
  pub went_head : t.begins ≡ true → t.column < 2 ^ 31 → Inked s from e → length s ≤ 2 ^ 20 → g.indent < 2 ^ 31 → (out' : List ℕ) (r : Reached) → Filled s from e false g indent t.column out t.written out' r → (punct : Bool) → punct ≡ fresh_punct false (slice from e s)
      → Went s from e g indent out t out' (record { written = r.written; column = r.column; punct = punct; begins = false })
  unfolding quick_on
  went_head begins near inked size ind out' r f punct q = record {
    left = λ o more same. rw (on_fresh g indent t.begins t.column t.punct (stretch_words o true false (slice from e s) ++ more) begins, q) (f.left o true false more same);
    most = let h = f.most in omega arith;
    stands = (let h = f.reach in let w = inked.within in omega arith, λ b. absurd (false≢true b));
  }

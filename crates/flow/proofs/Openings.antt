-- How a line begins is known by its first five bytes, and by a space after them.
use mathlib.Core.Path.{◌≡◌, refl, sym, ap, ◌∙◌}
use mathlib.Core.Bool.{Bool, true, false, cond}
use mathlib.Core.List.{List, [], ◌∷◌, ◌++◌, append-nil}
use Prim.Native.Nat.{ℕ, zero, suc, min, ◌+◌, ◌≤◌, ◌<◌}
use native.Mathlib.Nat.{suc-add}
use native.Mathlib.Omega.{arith}
use lib.ListN.{length, take, set, replicate, length-append}
use Rattle.lists.specs.Runs.{begins}
use Rattle.pieces.specs.Pieces.{from_word}
use Rattle.output.specs.Cited.Sink.{paint, written, Wrote}
use Rattle.unflow.specs.Flowed.{space, needs_space, stuffing, is_dashes}
use Rattle.flow.specs.Flow.{is_dashed}
use Rattle.flow.specs.Cited.Words.{space_if}
use Rattle.flow.specs.Cited.Sending.{Opens}
use Rattle.flow.specs.declared.Opening.{Opening}
use Rattle.flow.proofs.Words.{not_three}

-- ---- the first five bytes decide

five_stuffing : (line tail : List ℕ) → stuffing (take 5 line ++ tail) ≡ stuffing (line ++ tail)
unfolding stuffing needs_space begins from_word
five_stuffing [] tail = refl
five_stuffing (a ∷ []) tail = refl
five_stuffing (a ∷ b ∷ []) tail = refl
five_stuffing (a ∷ b ∷ c ∷ []) tail = refl
five_stuffing (a ∷ b ∷ c ∷ d ∷ []) tail = refl
five_stuffing (a ∷ b ∷ c ∷ d ∷ e ∷ line) tail = refl

five_dashed : (line : List ℕ) → is_dashes (take 5 line ++ space ∷ []) ≡ is_dashed line
unfolding is_dashed
five_dashed [] = refl
five_dashed (a ∷ []) = refl
five_dashed (a ∷ b ∷ []) = refl
five_dashed (a ∷ b ∷ c ∷ []) = refl
five_dashed (a ∷ b ∷ c ∷ d ∷ []) = refl
five_dashed (a ∷ b ∷ c ∷ d ∷ e ∷ line) =
    not_three (a ∷ b ∷ c ∷ d ∷ e ∷ space ∷ []) (λ h. omega (arith, h))
    ∙ sym (not_three ((a ∷ b ∷ c ∷ d ∷ e ∷ line) ++ space ∷ []) (λ h. omega (arith, h, length-append line (space ∷ []))))

-- ---- the front of an array that a line was written into

front_take : (n : ℕ) (line o : List ℕ) → n ≤ length line → n ≤ length o → take n (paint line o) ≡ take n line
unfolding paint
front_take zero line o h k = refl
front_take (suc n) [] o h k = absurd (omega arith)
front_take (suc n) (x ∷ line) [] h k = absurd (omega arith)
front_take (suc n) (x ∷ line) (y ∷ o) h k = ap (λ (l : List ℕ). x ∷ l) (front_take n line o (omega arith) (omega arith))

take_five : (line : List ℕ) (n : ℕ) → n ≡ min (length line) 5 → take n line ≡ take 5 line
take_five [] n e = rw e
take_five (a ∷ []) n e = rw e
take_five (a ∷ b ∷ []) n e = rw e
take_five (a ∷ b ∷ c ∷ []) n e = rw e
take_five (a ∷ b ∷ c ∷ d ∷ []) n e = rw e
take_five (a ∷ b ∷ c ∷ d ∷ f ∷ line) n e = let z : n ≡ 5 = omega arith in rw z

set_take : (n : ℕ) (xs : List ℕ) (y : ℕ) → take n (set xs n y) ≡ take n xs
set_take zero xs y = refl
set_take (suc n) [] y = refl
set_take (suc n) (x ∷ xs) y = ap (λ (l : List ℕ). x ∷ l) (set_take n xs y)

set_one : (n : ℕ) (xs : List ℕ) (y : ℕ) → n < length xs → take (n + 1) (set xs n y) ≡ take n xs ++ y ∷ []
set_one zero [] y h = absurd (omega arith)
set_one zero (x ∷ xs) y h = refl
set_one (suc n) [] y h = absurd (omega arith)
set_one (suc n) (x ∷ xs) y h = rw suc-add (ap (λ (l : List ℕ). x ∷ l) (set_one n xs y (omega arith)))

module _ (line o front : List ℕ) (k n : ℕ) (six : length o ≡ 6) (wrote : Wrote o 0 line front k) (least : n ≡ min k 5) where
  pub front_room : length front ≡ 6 → n < length front
  front_room l = omega (arith, l, least)

  front_is : take n front ≡ take 5 line
  unfolding written
  front_is =
      let c = wrote.count in
      ap (take n) wrote.bytes ∙ front_take n line o (omega arith) (omega arith) ∙ take_five line n (omega arith)

  pub opens : (more : Bool) (r : Opening) → length front ≡ 6 → (replicate r.spaces 32 ≡ stuffing (take (n + cond more 1 0) (set front n 32))) × (r.spaces ≤ 1) × (r.dashed ≡ is_dashes (take (n + 1) (set front n 32)))
      → Opens more line r
  opens more r l j = record {
    spaces = j.0 ∙ go more;
    few = j.1;
    dashed = j.2 ∙ ap is_dashes (set_one n front 32 (front_room l) ∙ ap (λ (x : List ℕ). x ++ space ∷ []) front_is) ∙ five_dashed line;
  }
    where
      go : (m : Bool) → stuffing (take (n + cond m 1 0) (set front n 32)) ≡ stuffing (line ++ space_if m)
      go true = ap stuffing (set_one n front 32 (front_room l) ∙ ap (λ (x : List ℕ). x ++ space ∷ []) front_is) ∙ five_stuffing line (space ∷ [])
      go false =
          let z : n + 0 ≡ n = omega arith in
          ap (λ (i : ℕ). stuffing (take i (set front n 32))) z ∙ ap stuffing (set_take n front 32 ∙ front_is ∙ sym (append-nil (take 5 line))) ∙ five_stuffing line []

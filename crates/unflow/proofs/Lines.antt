-- Lines of mail by places, and what stuffing looks at.
use mathlib.Core.Path.{◌≡◌, refl, sym, ap, ◌∙◌}
use mathlib.Core.Bool.{Bool, true, false, cond, not, ◌&&◌, ◌||◌, and-eq-true_iff}
use mathlib.Core.List.{List, [], ◌∷◌, ◌++◌}
use Prim.Native.Nat.{ℕ, ◌+◌, ◌-◌, ◌≤◌, ◌<◌}
use mir.Val.{bool_byte}
use native.Mathlib.Omega.{arith}
use native.Mathlib.Nat.{zero-add, suc-add}
use lib.Dec.{ltb, eqb}
use lib.Pointwise.{pointwise, bytes_decides}
use lib.ListN.{drop_of_length-le, length, get_or, get_or-eq_default, take, drop, replicate, length-append}
use lib.Seq.{slice}
use borrow.Author.Tests.{eqb-true, eqb-false, ltb-true, ltb-false, ne_eqb}
use Rattle.lists.specs.Runs.{while, behind, begins}
use Rattle.lists.proofs.Runs.{while_more, while_end, begins_front}
use Rattle.lists.proofs.RunsAt.{while_front}
use Rattle.lists.proofs.RunParts.{drop_while}
use Rattle.lists.proofs.Fronts.{part_to_end}
use Rattle.lists.proofs.Slices.{slice_is}
use Rattle.lists.proofs.Views.{drop_here, drop_none}
use Rattle.pieces.specs.Pieces.{from_word}
use Rattle.unflow.specs.Flowed.{quote_mark, is_mark, quote_depth, needs_space, stuffing, unstuffed, content_of, dashes, is_dashes, is_separator, ends_in_space, is_soft}
use Rattle.unflow.specs.Cited.Steps.{Parted}

-- a list from a place on, as it is copied
pub slice_all : (s : List ℕ) (at : ℕ) → at ≤ length s → slice at (length s) s ≡ drop at s
slice_all s at h =
    let e : at + (length s - at) ≡ length s = omega arith in
    ap (λ (n : ℕ). slice at n s) (sym e) ∙ slice_is at (length s - at) s ∙ part_to_end at s

-- ---- quote marks and stuffing, by places

marks_are : (line : List ℕ) → while is_mark line ≡ replicate (length (while is_mark line)) quote_mark
unfolding while
marks_are [] = refl
marks_are (x ∷ xs) = go (is_mark x) refl (marks_are xs)
  where
    go : (t : Bool) → is_mark x ≡ t → while is_mark xs ≡ replicate (length (while is_mark xs)) quote_mark → while is_mark (x ∷ xs) ≡ replicate (length (while is_mark (x ∷ xs))) quote_mark
    go true e h = rw (while_more is_mark x xs e, eqb-true x quote_mark e) (ap (λ (l : List ℕ). quote_mark ∷ l) h)
    go false e h = rw (while_end is_mark x xs e)

pub depth_marks : (line : List ℕ) → take (quote_depth line) line ≡ replicate (quote_depth line) quote_mark
unfolding quote_depth
depth_marks line = sym (while_front is_mark line) ∙ marks_are line

module _ (line : List ℕ) (depth : ℕ) (e : depth ≡ quote_depth line) where
  behind_depth : behind is_mark line ≡ drop depth line
  unfolding quote_depth
  behind_depth = rw e (sym (drop_while is_mark line))

  pub content_none : depth ≡ length line → content_of line ≡ drop depth line
  unfolding content_of unstuffed
  content_none h = rw (behind_depth, drop_none 0 line depth (omega arith))

  pub content_stuffed : depth < length line → get_or line depth 0 ≡ 32 → content_of line ≡ drop (depth + 1) line
  unfolding content_of unstuffed
  content_stuffed h k = rw (behind_depth, drop_here 0 line depth h, k)

  pub content_bare : depth < length line → (get_or line depth 0 ≡ 32 → ⊥) → content_of line ≡ drop depth line
  unfolding content_of unstuffed
  content_bare h k = rw (behind_depth, drop_here 0 line depth h, ne_eqb (get_or line depth 0) 32 k)

  -- n is 1 for a space (past the end 0 is read)
  pub content_told : depth ≤ length line → (n : ℕ) → n ≡ bool_byte (eqb (get_or line depth 0) 32) → (content_of line ≡ drop (depth + n) line) × (depth ≤ depth + n) × (depth + n ≤ length line)
  content_told h n told = go (ltb depth (length line)) refl (eqb (get_or line depth 0) 32) refl
    where
      go : (t : Bool) → ltb depth (length line) ≡ t → (u : Bool) → eqb (get_or line depth 0) 32 ≡ u → (content_of line ≡ drop (depth + n) line) × (depth ≤ depth + n) × (depth + n ≤ length line)
      go true l true q = let one : n ≡ 1 = told ∙ rw q in rw one (content_stuffed (ltb-true _ _ l) (eqb-true _ 32 q), omega arith, omega (arith, ltb-true _ _ l))
      go true l false q = let z : n ≡ 0 = told ∙ rw q in let none : depth + n ≡ depth = omega arith in rw none (content_bare (ltb-true _ _ l) (eqb-false _ 32 q), omega arith, h)
      go false l true q = absurd (omega (arith, eqb-true _ 32 q, get_or-eq_default line 0 {n = depth} (ltb-false _ _ l)))
      go false l false q = let z : n ≡ 0 = told ∙ rw q in let none : depth + n ≡ depth = omega arith in rw none (content_none (omega (arith, ltb-false _ _ l)), omega arith, h)

  pub separator_whole : depth ≡ 0 → is_dashes line ≡ is_separator line
  unfolding is_separator
  separator_whole h = rw (← e, h)

  pub separator_quoted : (depth ≡ 0 → ⊥) → (start : ℕ) → content_of line ≡ drop start line → is_dashes (drop start line) ≡ is_separator line
  unfolding is_separator
  separator_quoted h start c = rw (← e, ne_eqb depth 0 h, c)

-- ---- what stuffing looks at: past the end 0 is read

pub stuffing_told : (c : List ℕ) (n : ℕ) → n ≡ bool_byte ((eqb (get_or c 0 0) 32 || eqb (get_or c 0 0) 62) || begins from_word c) → (replicate {A = ℕ} n 32 ≡ stuffing c) × (n ≤ 1)
unfolding stuffing needs_space begins from_word
stuffing_told [] n told = rw told (refl, omega arith)
stuffing_told (x ∷ c) n told = rw told (go (eqb x 32) (eqb x 62) (begins from_word (x ∷ c)))
  where
    go : (t u v : Bool) → (replicate {A = ℕ} (bool_byte ((t || u) || v)) 32 ≡ cond (t || u || v) (32 ∷ []) []) × (bool_byte ((t || u) || v) ≤ 1)
    go true u v = (refl, omega arith)
    go false true v = (refl, omega arith)
    go false false true = (refl, omega arith)
    go false false false = (refl, omega arith)

-- ---- the signature separator

pub dashes_told : (s : List ℕ) → pointwise eqb s dashes ≡ is_dashes s
unfolding is_dashes begins
dashes_told s = go (pointwise eqb s dashes) refl (begins dashes s && eqb (length s) 3) refl
  where
    is : begins dashes s ≡ true → length s ≡ 3 → s ≡ dashes
    is b l = begins_front dashes s b ∙ ap (λ (r : List ℕ). dashes ++ r) (drop_of_length-le s {i = 3} (omega arith))

    go : (t : Bool) → pointwise eqb s dashes ≡ t → (u : Bool) → begins dashes s && eqb (length s) 3 ≡ u → t ≡ u
    go true p true q = refl
    go false p false q = refl
    go true p false q = sym (ap is_dashes ((bytes_decides s dashes).0 p)) ∙ q
    go false p true q = let a = (and-eq-true_iff (begins dashes s) (eqb (length s) 3)).0 q in sym p ∙ (bytes_decides s dashes).1 (is a.0 (eqb-true _ 3 a.1))

-- ---- a text that ends in a space needs stuffing or not, whatever is after it

from_soft : (c d : List ℕ) → ends_in_space c ≡ true → begins from_word (c ++ d) ≡ begins from_word c
unfolding begins ends_in_space from_word
from_soft [] d h = absurd (let z : ◌≡◌ {A = ℕ} 0 1 = cc in omega arith)
from_soft (x ∷ []) d h = rw (eqb-true x 32 h)
from_soft (x ∷ y ∷ []) d h = rw (eqb-true y 32 h)
from_soft (x ∷ y ∷ z ∷ []) d h = rw (eqb-true z 32 h)
from_soft (x ∷ y ∷ z ∷ u ∷ []) d h = rw (eqb-true u 32 h)
from_soft (x ∷ y ∷ z ∷ u ∷ v ∷ c) d h = refl

pub stuffing_soft : (c d : List ℕ) → ends_in_space c ≡ true → stuffing (c ++ d) ≡ stuffing c
unfolding stuffing needs_space ends_in_space
stuffing_soft [] d h = absurd (let z : ◌≡◌ {A = ℕ} 0 1 = cc in omega arith)
stuffing_soft (x ∷ c) d h = rw (from_soft (x ∷ c) d h)

last_append : (c d : List ℕ) → get_or (c ++ d) (length c + (length d - 1)) 0 ≡ get_or d (length d - 1) 0
last_append [] d = rw zero-add
last_append (x ∷ c) d = rw suc-add (last_append c d)

pub ends_append : (c d : List ℕ) → 0 < length d → ends_in_space (c ++ d) ≡ ends_in_space d
unfolding ends_in_space
ends_append c d h =
    let e : length (c ++ d) - 1 ≡ length c + (length d - 1) = omega (arith, length-append c d) in
    rw (e, last_append c d)

pub ends_some : (c : List ℕ) → ends_in_space c ≡ true → 0 < length c
unfolding ends_in_space
ends_some [] h = absurd (let z : ◌≡◌ {A = ℕ} 0 1 = cc in omega arith)
ends_some (x ∷ c) h = omega arith

-- a soft line's content ends in a space
pub soft_ends : (line : List ℕ) → is_soft line ≡ true → ends_in_space (content_of line) ≡ true
unfolding is_soft
soft_ends line h = ((and-eq-true_iff (ends_in_space (content_of line)) (not (is_separator line))).0 h).0

-- ---- a line taken apart

pub parted : (line : List ℕ) (depth start : ℕ) (separator ends : Bool) → depth ≡ quote_depth line → content_of line ≡ drop start line → depth ≤ start → start ≤ length line
    → separator ≡ is_separator line → ends ≡ ends_in_space (take (length line - start) (drop start line))
    → Parted line (record { depth = depth; start = start; soft = ends && not separator; separator = separator })
unfolding is_soft
parted line depth start separator ends d c order within s e = record {
  depth = sym d;
  marks = rw d (depth_marks line);
  order = order;
  within = within;
  content = c;
  soft = rw (c, s, e, part_to_end start line);
  separator = sym s;
}

-- A fault's place is small, however long the block: tags ascend up to 6, and a well-formed field has at most 258 bytes.
use Rattle.std.proofs.Common.{Option, Some, None, Result, Ok, Err}
use mathlib.Core.Path.{◌≡◌, refl, sym, ap, ◌∙◌}
use mathlib.Core.Bool.{Bool, true, false, cond, ◌&&◌, ◌||◌, and-eq-true_iff, false≢true}
use mathlib.Core.List.{List, [], ◌∷◌}
use Prim.Native.Nat.{ℕ, zero, suc, ◌+◌, ◌*◌, ◌^◌, ◌≤◌, ◌<◌}
use native.Mathlib.Omega.{arith}
use lib.Dec.{eqb, leb, ltb}
use lib.ListN.{length, drop, length-drop}
use borrow.Author.Tests.{eqb-true, leb-true, ltb-true}
use Rattle.lists.specs.Walk.{walk}
use Rattle.lists.specs.Runs.{every}
use Rattle.lists.proofs.Walk.{walk_nil, walk_step}
use Rattle.text.specs.Characters.{characters, is_good}
use Rattle.options.specs.OptionBlock.{number, Field, tag_of, size_of, value_of, Start, next_field, fields, flag_bits, allowed, well_formed, first_fault, least_width, part_of, options_of, fits, judged, read_block}
use Rattle.options.specs.declared.Fault.{Fault}
use Rattle.options.specs.declared.Options.{Options}

-- an allowed value is short, and its tag is one of six
allowed_small : (tag size : ℕ) (v : List ℕ) → allowed tag size v ≡ true → (tag ≤ 6) × (size ≤ 255)
unfolding allowed
allowed_small tag size v h = one (eqb tag 1) refl h
  where
    two : (t : Bool) → eqb size 2 ≡ t → t ≡ true → size ≤ 255
    two t e k = omega (arith, eqb-true size 2 (e ∙ k))

    both : (a b n m : Bool) → eqb tag 5 ≡ a → eqb tag 6 ≡ b → cond (a || b) (n && m) false ≡ true → (tag ≤ 6) × (n ≡ true)
    both true b n m p q k = (omega (arith, eqb-true tag 5 p), ((and-eq-true_iff n m).0 k).0)
    both false true n m p q k = (omega (arith, eqb-true tag 6 q), ((and-eq-true_iff n m).0 k).0)
    both false false n m p q k = absurd (false≢true k)

    five : cond (eqb tag 5 || eqb tag 6) (leb size 255 && every is_good (characters v)) false ≡ true → (tag ≤ 6) × (size ≤ 255)
    five k = let b = both (eqb tag 5) (eqb tag 6) (leb size 255) _ refl refl k in (b.0, leb-true size 255 b.1)

    four : (t : Bool) → eqb tag 4 ≡ t
        → cond t (eqb size 2 && leb (number v) 100) (cond (eqb tag 5 || eqb tag 6) (leb size 255 && every is_good (characters v)) false) ≡ true → (tag ≤ 6) × (size ≤ 255)
    four true p k = (omega (arith, eqb-true tag 4 p), two (eqb size 2) refl ((and-eq-true_iff _ _).0 k).0)
    four false p k = five k

    three : (a b : Bool) → eqb tag 2 ≡ a → eqb tag 3 ≡ b
        → cond (a || b) (eqb size 2 && leb 1 (number v) && leb (number v) 1000)
        (cond (eqb tag 4) (eqb size 2 && leb (number v) 100) (cond (eqb tag 5 || eqb tag 6) (leb size 255 && every is_good (characters v)) false))
        ≡ true → (tag ≤ 6) × (size ≤ 255)
    three true b p q k = (omega (arith, eqb-true tag 2 p), two (eqb size 2) refl ((and-eq-true_iff _ _).0 ((and-eq-true_iff _ _).0 k).0).0)
    three false true p q k = (omega (arith, eqb-true tag 3 q), two (eqb size 2) refl ((and-eq-true_iff _ _).0 ((and-eq-true_iff _ _).0 k).0).0)
    three false false p q k = four (eqb tag 4) refl k

    one : (t : Bool) → eqb tag 1 ≡ t
        → cond t (eqb size 2 && ltb (number v) (2 ^ flag_bits))
        (cond (eqb tag 2 || eqb tag 3) (eqb size 2 && leb 1 (number v) && leb (number v) 1000)
        (cond (eqb tag 4) (eqb size 2 && leb (number v) 100) (cond (eqb tag 5 || eqb tag 6) (leb size 255 && every is_good (characters v)) false)))
        ≡ true → (tag ≤ 6) × (size ≤ 255)
    one true p k = (omega (arith, eqb-true tag 1 p), two (eqb size 2) refl ((and-eq-true_iff _ _).0 k).0)
    one false p k = three (eqb tag 2) (eqb tag 3) refl refl k

record Well (f : Field) : Type 0 where
  ascends : f.previous < tag_of f
  whole : 3 + size_of f ≤ length f.bytes
  tag : tag_of f ≤ 6
  size : size_of f ≤ 255

well : (f : Field) → well_formed f ≡ true → Well f
unfolding well_formed
well f h =
    let a = (and-eq-true_iff (ltb f.previous (tag_of f) && leb (3 + size_of f) (length f.bytes)) (allowed (tag_of f) (size_of f) (value_of f))).0 h in
    let b = (and-eq-true_iff (ltb f.previous (tag_of f)) (leb (3 + size_of f) (length f.bytes))).0 a.0 in
    let c = allowed_small (tag_of f) (size_of f) (value_of f) a.1 in
    record { ascends = ltb-true _ _ b.0; whole = leb-true _ _ b.1; tag = c.0; size = c.1 }

-- from a start that is small: the first fault's place is small, and without one all that is left is
record Small (s : Start) (xs : List ℕ) : Type 0 where
  place : (n : ℕ) → first_fault (walk next_field s xs) ≡ Some n → n ≤ 1548
  whole : first_fault (walk next_field s xs) ≡ None → s.place + length xs ≤ 1548

none : (s : Start) → s.place ≤ 258 * s.previous → s.previous ≤ 6 → Small s []
unfolding first_fault
none s h k =
    let e : first_fault (walk next_field s []) ≡ None = ap first_fault (walk_nil next_field s) in
    record { place = λ n p. absurd (let z : ◌≡◌ {A = ℕ} 0 1 = cc in omega arith); whole = λ p. omega arith }

small : (k : ℕ) (s : Start) (xs : List ℕ) → length xs ≤ k → s.place ≤ 258 * s.previous → s.previous ≤ 6 → Small s xs
unfolding first_fault next_field
small zero s [] l h p = none s h p
small zero s (x ∷ xs) l h p = absurd (omega arith)
small (suc k) s [] l h p = none s h p
small (suc k) s (x ∷ xs) l h p = go (well_formed f) refl (small k)
  where
    f : Field
    f = record { place = s.place; previous = s.previous; bytes = x ∷ xs }

    then : Start
    then = record { place = s.place + 3 + size_of f; previous = tag_of f }

    first : (t : Bool) → well_formed f ≡ t → first_fault (walk next_field s (x ∷ xs)) ≡ elim t as (λ y. Option ℕ) [ true ↦ first_fault (walk next_field then (drop (suc (2 + size_of f)) (x ∷ xs))) | false ↦ Some s.place ]
    first t e = ap first_fault (walk_step next_field s (x ∷ xs) (omega arith)) ∙ ap (λ (b : Bool). elim b as (λ y. Option ℕ) [ true ↦ first_fault (walk next_field then (drop (suc (2 + size_of f)) (x ∷ xs))) | false ↦ Some s.place ]) e

    go : (t : Bool) → well_formed f ≡ t → ((r : Start) (ys : List ℕ) → length ys ≤ k → r.place ≤ 258 * r.previous → r.previous ≤ 6 → Small r ys) → Small s (x ∷ xs)
    go false e rest = let q = first false e in record {
      place = λ n m. let z : s.place ≡ n = cc in omega arith;
      whole = λ m. absurd (let z : ◌≡◌ {A = ℕ} 0 1 = cc in omega arith);
    }
    go true e rest =
        let w = well f e in
        let d = length-drop (suc (2 + size_of f)) (x ∷ xs) in
        let r = rest then (drop (suc (2 + size_of f)) (x ∷ xs)) (omega (arith, w.whole)) (omega (arith, w.ascends, w.size)) w.tag in
        let q = first true e in
        record {
          place = λ n m. r.place n (sym q ∙ m);
          whole = λ m. omega (arith, r.whole (sym q ∙ m), w.whole);
        }

all_small : (block : List ℕ) → Small (record { place = 0; previous = 0 }) block
all_small block = small (length block) (record { place = 0; previous = 0 }) block (omega arith) (omega arith) (omega arith)

pub fault_small : (block : List ℕ) (place : ℕ) → read_block block ≡ Err (record { at = place }) → place ≤ 1548
unfolding read_block fields
fault_small block place e = settle (first_fault (walk next_field (record { place = 0; previous = 0 }) block)) refl e
  where
    rule : (t : Bool) (o : Options) → length block ≤ 1548 → cond {A = Result Options Fault} t (Ok o) (Err (record { at = length block })) ≡ Err (record { at = place }) → place ≤ 1548
    rule true o l a = absurd (let z : ◌≡◌ {A = ℕ} 0 1 = cc in omega arith)
    rule false o l a = let z : ◌≡◌ {A = Fault} (record { at = length block }) (record { at = place }) = cc in omega (arith, ap (λ (f : Fault). f.at) z)

    settle : (f : Option ℕ) → first_fault (walk next_field (record { place = 0; previous = 0 }) block) ≡ f → judged block (fields block) f ≡ Err (record { at = place }) → place ≤ 1548
    settle (Some n) q a = let z : ◌≡◌ {A = Fault} (record { at = n }) (record { at = place }) = cc in omega (arith, (all_small block).place n q, ap (λ (f : Fault). f.at) z)
    settle None q a =
        let o = options_of block (fields block) in
        rule (fits (least_width (part_of 2 (fields block)) (part_of 3 (fields block))) o.width o.goal) o (omega (arith, (all_small block).whole q)) a

-- nor is a block without one long
pub accepted_small : (block : List ℕ) (o : Options) → read_block block ≡ Ok o → length block ≤ 1548
unfolding read_block fields
accepted_small block o e = settle (first_fault (walk next_field (record { place = 0; previous = 0 }) block)) refl e
  where
    settle : (f : Option ℕ) → first_fault (walk next_field (record { place = 0; previous = 0 }) block) ≡ f → judged block (fields block) f ≡ Ok o → length block ≤ 1548
    settle (Some n) q a = absurd (let z : ◌≡◌ {A = ℕ} 0 1 = cc in omega arith)
    settle None q a = omega (arith, (all_small block).whole q)

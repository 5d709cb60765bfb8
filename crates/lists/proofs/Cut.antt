-- A walk may be cut where a stride begins: its first items are those of the elements that they hold, and the others those of the rest, from the state there.
use mathlib.Core.Path.{◌≡◌, refl, sym, ap, ◌∙◌}
use mathlib.Core.Bool.{Bool, true, false}
use mathlib.Core.List.{List, [], ◌∷◌, ◌++◌, append_assoc, append-nil, append-eq-nil_iff}
use Prim.Native.Nat.{ℕ, suc, ◌<◌}
use native.Mathlib.Omega.{arith}
use lib.Dec.{leb}
use lib.ListN.{length, take, drop, length-append, length-take, drop_of_length-le, take-append-drop}
use lib.Seq.{drop-append-le, take_all}
use borrow.Author.Tests.{leb-true, leb-false}
use Rattle.lists.specs.Walk.{Stride, walk, piece, each}
use Rattle.lists.specs.Runs.{joined}
use Rattle.lists.proofs.Walk.{last, walk_nil, last_nil, walk_step, last_step}
use Rattle.lists.proofs.Extents.{walk_joined}
use Rattle.lists.proofs.Parts.{joined_nil, joined_cons, joined_append}

-- Items hold what their strides take, and a stride is the same without the elements after those that it takes.
module _ {A B S : Type 0} (stride : S → List A → Stride B S) (held : B → List A)
    (holds : (s : S) (xs : List A) → 0 < length xs → held (stride s xs).item ≡ take (suc (stride s xs).besides) xs)
    (keeps : (s : S) (a b : List A) → (stride s (a ++ b)).besides < length a → stride s a ≡ stride s (a ++ b)) where
  -- the first stride, where the elements after those that it takes are j and b: without b it is the same, and it leaves j
  module _ (s : S) (x : A) (r j b : List A) (left : drop (stride s (x ∷ r)).besides r ≡ j ++ b) where
    abbrev more : ℕ
    more = (stride s (x ∷ r)).besides

    abbrev front : List A
    front = x ∷ take more r ++ j

    record Same : Type 0 where
      same : stride s front ≡ stride s (x ∷ r)
      leaves : drop more (take more r ++ j) ≡ j

    same_front : Same
    same_front = go (leb more (length r)) refl
      where
        go : (t : Bool) → leb more (length r) ≡ t → Same
        go true e =
            let h = leb-true more (length r) e in
            let l = length-take more r in
            let n = length-append (take more r) j in
            let w : front ++ b ≡ x ∷ r = ap (λ (l : List A). x ∷ l) (append_assoc (take more r) j b ∙ ap (λ (l : List A). take more r ++ l) (sym left) ∙ take-append-drop more r) in
            let m : (stride s (front ++ b)).besides ≡ more = ap (λ (l : List A). (stride s l).besides) w in
            record {
              same = keeps s front b (rw m (omega arith)) ∙ ap (stride s) w;
              leaves = drop-append-le more (take more r) j (omega arith) ∙ ap (λ (l : List A). l ++ j) (drop_of_length-le (take more r) {i = more} (omega arith));
            }
        go false e =
            let h = leb-false more (length r) e in
            let z : j ++ b ≡ [] = sym left ∙ drop_of_length-le r {i = more} (omega arith) in
            let n : j ≡ [] = (append-eq-nil_iff.0 z).0 in
            let t : take more r ++ j ≡ r = ap (λ (l : List A). take more r ++ l) n ∙ append-nil (take more r) ∙ take_all more r (omega arith) in
            record { same = ap (λ (l : List A). stride s (x ∷ l)) t; leaves = ap (drop more) t ∙ drop_of_length-le r {i = more} (omega arith) ∙ sym n }

  pub record Cut (s : S) (ps qs : List B) : Type 0 where
    pub front : walk stride s (joined held ps) ≡ ps
    pub back : walk stride (last stride s (joined held ps)) (joined held qs) ≡ qs

  pub walk_cut : (s : S) (xs : List A) (ps qs : List B) → walk stride s xs ≡ ps ++ qs → Cut s ps qs
  walk_cut s xs [] qs e = record {
    front = ap (walk stride s) (joined_nil held) ∙ walk_nil stride s;
    back =
        ap (λ (l : List A). walk stride (last stride s l) (joined held qs)) (joined_nil held)
        ∙ ap (λ (t : S). walk stride t (joined held qs)) (last_nil stride s)
        ∙ ap (walk stride s) (ap (joined held) (sym e) ∙ walk_joined stride held holds s xs)
        ∙ e;
  }
  walk_cut s [] (p ∷ ps) qs e = absurd (let n = ap length (sym (walk_nil stride s) ∙ e) in omega arith)
  walk_cut s (x ∷ r) (p ∷ ps) qs e =
      let t = stride s (x ∷ r) in
      let u : t.item ∷ walk stride t.state (drop t.besides r) ≡ p ∷ ps ++ qs = sym (walk_step stride s (x ∷ r) (omega arith)) ∙ e in
      let i : t.item ≡ p = cc in
      let w : walk stride t.state (drop t.besides r) ≡ ps ++ qs = cc in
      let c = walk_cut t.state (drop t.besides r) ps qs w in
      let left : drop t.besides r ≡ joined held ps ++ joined held qs = sym (walk_joined stride held holds t.state (drop t.besides r)) ∙ ap (joined held) w ∙ joined_append held ps qs in
      let f = same_front s x r (joined held ps) (joined held qs) left in
      let a : joined held (p ∷ ps) ≡ x ∷ take t.besides r ++ joined held ps =
      joined_cons held p ps ∙ ap (λ (l : List A). l ++ joined held ps) (ap held (sym i) ∙ holds s (x ∷ r) (omega arith)) in
      let steps = walk_step stride s (x ∷ take t.besides r ++ joined held ps) (omega arith) in
      let ends = last_step stride s (x ∷ take t.besides r ++ joined held ps) (omega arith) in
      record {
        front = ap (walk stride s) a ∙ steps ∙ rw (f.same, f.leaves, i, c.front);
        back = ap (λ (l : List A). walk stride (last stride s l) (joined held qs)) a ∙ ap (λ (v : S). walk stride v (joined held qs)) ends ∙ rw (f.same, f.leaves) c.back;
      }

-- the same of a walk without a state
module _ {A B : Type 0} (cut : List A → ℕ) (f : List A → B) (held : B → List A)
    (holds : (xs : List A) → 0 < length xs → held (f xs) ≡ take (suc (cut xs)) xs)
    (keeps : (a b : List A) → cut (a ++ b) < length a → (f a ≡ f (a ++ b)) × (cut a ≡ cut (a ++ b))) where
  pub each_cut : (xs : List A) (ps qs : List B) → each cut f xs ≡ ps ++ qs → (each cut f (joined held ps) ≡ ps) × (each cut f (joined held qs) ≡ qs)
  unfolding each piece
  each_cut xs ps qs e =
      let c = walk_cut (piece cut f) held (λ s ys h. holds ys h) (λ s a b h. let k = keeps a b h in λ i. record { item = k.0 i; besides = k.1 i; state = s }) tt xs ps qs e in
      (c.front, c.back)

-- Lines by their line feeds: counts, the first lines of a text, and what does not depend on what is after a line feed.
use mathlib.Core.Path.{◌≡◌, refl, sym, ap, ap₂, ◌∙◌}
use mathlib.Core.Bool.{Bool, true, false, false≢true, and-eq-true_iff}
use mathlib.Core.List.{List, [], ◌∷◌, ◌++◌}
use Prim.Native.Nat.{ℕ, zero, suc, ◌+◌, ◌≤◌, ◌<◌}
use native.Mathlib.Omega.{arith}
use lib.Dec.{eqb}
use lib.ListN.{length}
use borrow.Author.Tests.{eqb-true, eq-eqb, ne_eqb, not-true}
use Rattle.lists.specs.Runs.{every, begins}
use Rattle.lists.proofs.Parts.{every_nil, every_cons}
use Rattle.lines.specs.Lines.{no_feed}
use Rattle.output.specs.Emission.{line_feed}
use Rattle.output.proofs.Indents.{Feedless}
use Rattle.checker.specs.Named.{feeds, first_lines}

-- the first byte of a feedless text, and the others
pub feedless_cons : (a : ℕ) (p : List ℕ) → Feedless (a ∷ p) → (eqb a 10 ≡ false) × Feedless p
feedless_cons a p h = let k = (and-eq-true_iff (no_feed a) (every no_feed p)).0 (rw every_cons at h) in (not-true (eqb a 10) k.0, k.1)

feeds_end : (x : ℕ) (xs : List ℕ) → eqb x 10 ≡ true → feeds (x ∷ xs) ≡ suc (feeds xs)
unfolding feeds
feeds_end x xs h = rw (h, feeds)

feeds_same : (x : ℕ) (xs : List ℕ) → eqb x 10 ≡ false → feeds (x ∷ xs) ≡ feeds xs
unfolding feeds
feeds_same x xs h = rw (h, feeds)

pub feeds_nil : feeds [] ≡ 0
unfolding feeds
feeds_nil = refl

pub feeds_feed : feeds line_feed ≡ 1
unfolding feeds
feeds_feed = refl

pub feeds_append : (a b : List ℕ) → feeds (a ++ b) ≡ feeds a + feeds b
feeds_append [] b = rw feeds_nil (omega arith)
feeds_append (x ∷ a) b = go (eqb x 10) refl (feeds_append a b)
  where
    go : (t : Bool) → eqb x 10 ≡ t → feeds (a ++ b) ≡ feeds a + feeds b → feeds (x ∷ (a ++ b)) ≡ feeds (x ∷ a) + feeds b
    go true e ih = let p = feeds_end x (a ++ b) e in let q = feeds_end x a e in omega arith
    go false e ih = let p = feeds_same x (a ++ b) e in let q = feeds_same x a e in omega arith

pub feedless_feeds : (p : List ℕ) → Feedless p → feeds p ≡ 0
feedless_feeds [] h = feeds_nil
feedless_feeds (x ∷ p) h = let k = feedless_cons x p h in feeds_same x p k.0 ∙ feedless_feeds p k.1

-- ---- what a feedless text begins, it begins by what is before the next line feed

pub begins_feed : (p body ys : List ℕ) → Feedless p → begins p (body ++ 10 ∷ ys) ≡ begins p body
unfolding begins
begins_feed [] body ys h = refl
begins_feed (a ∷ p) [] ys h = rw ((feedless_cons a p h).0, begins)
begins_feed (a ∷ p) (x ∷ body) ys h = go (eqb a x) refl (begins_feed p body ys (feedless_cons a p h).1)
  where
    go : (t : Bool) → eqb a x ≡ t → begins p (body ++ 10 ∷ ys) ≡ begins p body
        → ◌≡◌ {A = Bool} (elim t [ true ↦ begins p (body ++ 10 ∷ ys) | false ↦ false ]) (elim t [ true ↦ begins p body | false ↦ false ])
    go true e ih = ih
    go false e ih = refl

-- a text that is before a line feed as a whole, or a part of what stands there
pub record Inside (p r body ys : List ℕ) : Type 0 where
  pub left : List ℕ
  pub body_is : body ≡ p ++ left
  pub rest_is : r ≡ left ++ 10 ∷ ys

pub feedless_inside : (p r body ys : List ℕ) → Feedless p → p ++ r ≡ body ++ 10 ∷ ys → Inside p r body ys
feedless_inside [] r body ys h e = record { left = body; body_is = refl; rest_is = e }
feedless_inside (a ∷ p) r [] ys h e = absurd (false≢true (sym (feedless_cons a p h).0 ∙ eq-eqb a 10 cc))
feedless_inside (a ∷ p) r (x ∷ body) ys h e =
    let k = feedless_inside p r body ys (feedless_cons a p h).1 cc in
    let z : a ≡ x = cc in
    record { left = k.left; body_is = ap₂ (λ (y : ℕ) (l : List ℕ). y ∷ l) (sym z) k.body_is; rest_is = k.rest_is }

-- whether a text begins with a line feed does not depend on what is after one
pub feed_first : (a b ys zs : List ℕ) → begins line_feed (a ++ (b ++ 10 ∷ ys)) ≡ begins line_feed (a ++ (b ++ 10 ∷ zs))
unfolding begins
feed_first [] [] ys zs = refl
feed_first [] (x ∷ b) ys zs = refl
feed_first (x ∷ a) b ys zs = refl

-- a feedless text that is not empty does not begin with one
pub feedless_first : (xs rest : List ℕ) → 0 < length xs → Feedless xs → begins line_feed (xs ++ rest) ≡ false
unfolding begins
feedless_first [] rest h f = absurd (omega arith)
feedless_first (x ∷ xs) rest h f = rw (ne_eqb 10 x (λ e. absurd (false≢true (sym (feedless_cons x xs f).0 ∙ eq-eqb x 10 (sym e)))), begins)

-- ---- first lines

first_end : (k x : ℕ) (xs : List ℕ) → eqb x 10 ≡ true → first_lines (suc k) (x ∷ xs) ≡ x ∷ first_lines k xs
unfolding first_lines
first_end k x xs h = rw (h, first_lines)

first_same : (k x : ℕ) (xs : List ℕ) → eqb x 10 ≡ false → first_lines (suc k) (x ∷ xs) ≡ x ∷ first_lines (suc k) xs
unfolding first_lines
first_same k x xs h = rw (h, first_lines)

-- the lines that begin in a text, with one more that ends after it
pub first_behind : (a ys : List ℕ) → first_lines (suc (feeds a)) (a ++ ys) ≡ a ++ first_lines 1 ys
first_behind [] ys = rw feeds_nil
first_behind (x ∷ a) ys = go (eqb x 10) refl (first_behind a ys)
  where
    go : (t : Bool) → eqb x 10 ≡ t → first_lines (suc (feeds a)) (a ++ ys) ≡ a ++ first_lines 1 ys → first_lines (suc (feeds (x ∷ a))) (x ∷ (a ++ ys)) ≡ x ∷ (a ++ first_lines 1 ys)
    go true e ih = rw (feeds_end x a e) (first_end (suc (feeds a)) x (a ++ ys) e ∙ ap (λ (l : List ℕ). x ∷ l) ih)
    go false e ih = rw (feeds_same x a e) (first_same (feeds a) x (a ++ ys) e ∙ ap (λ (l : List ℕ). x ∷ l) ih)

-- the line up to the next line feed
pub first_line : (body ys : List ℕ) → Feedless body → first_lines 1 (body ++ 10 ∷ ys) ≡ body ++ line_feed
unfolding first_lines
first_line [] ys h = refl
first_line (x ∷ body) ys h = let k = feedless_cons x body h in first_same 0 x (body ++ 10 ∷ ys) k.0 ∙ ap (λ (l : List ℕ). x ∷ l) (first_line body ys k.1)

-- lines that end in the front part of a text are lines of that part, and the part goes on after them
pub record Within (k : ℕ) (a ys : List ℕ) : Type 0 where
  pub left : List ℕ
  pub part_is : a ≡ first_lines k (a ++ ys) ++ left

pub first_within : (k : ℕ) (a ys : List ℕ) → k ≤ feeds a → Within k a ys
unfolding first_lines
first_within zero a ys h = record { left = a; part_is = refl }
first_within (suc k) [] ys h = absurd (omega (arith, feeds_nil))
first_within (suc k) (x ∷ a) ys h = go (eqb x 10) refl (first_within k a ys) (first_within (suc k) a ys)
  where
    go : (t : Bool) → eqb x 10 ≡ t → (k ≤ feeds a → Within k a ys) → (suc k ≤ feeds a → Within (suc k) a ys) → Within (suc k) (x ∷ a) ys
    go true e one same =
        let w = one (omega (arith, feeds_end x a e)) in
        record { left = w.left; part_is = ap (λ (l : List ℕ). x ∷ l) w.part_is ∙ ap (λ (l : List ℕ). l ++ w.left) (sym (first_end k x (a ++ ys) e)) }
    go false e one same =
        let w = same (omega (arith, feeds_same x a e)) in
        record { left = w.left; part_is = ap (λ (l : List ℕ). x ∷ l) w.part_is ∙ ap (λ (l : List ℕ). l ++ w.left) (sym (first_same k x (a ++ ys) e)) }

-- a text with a line feed is its first line and what is after
pub record FirstLine (xs : List ℕ) : Type 0 where
  pub body : List ℕ
  pub below : List ℕ
  pub feedless : Feedless body
  pub is : xs ≡ body ++ 10 ∷ below

pub line_first : (xs : List ℕ) → 0 < feeds xs → FirstLine xs
line_first [] h = absurd (omega (arith, feeds_nil))
line_first (x ∷ xs) h = go (eqb x 10) refl (line_first xs)
  where
    go : (t : Bool) → eqb x 10 ≡ t → (0 < feeds xs → FirstLine xs) → FirstLine (x ∷ xs)
    go true e more = record { body = []; below = xs; feedless = every_nil no_feed; is = ap (λ (y : ℕ). y ∷ xs) (eqb-true x 10 e) }
    go false e more =
        let l = more (omega (arith, feeds_same x xs e)) in
        record { body = x ∷ l.body; below = l.below; feedless = rw (every_cons, e, l.feedless); is = ap (λ (ys : List ℕ). x ∷ ys) l.is }

-- Where the text of a line ends, told by its bytes: it is there that first_line finds it, and from any place of the line it is the same.
use mathlib.Core.Path.{◌≡◌, refl, sym, ap, ◌∙◌}
use mathlib.Core.Bool.{Bool, true, false, cond, not}
use mathlib.Core.Logic.{inl, inr, ⊎_elim}
use mathlib.Core.List.{List, [], ◌∷◌}
use Prim.Native.Nat.{ℕ, zero, suc, ◌+◌, ◌-◌, ◌≤◌, ◌<◌}
use native.Mathlib.Omega.{arith}
use lib.Dec.{ltb, leb, eqb}
use lib.ListN.{length, get_or, take, drop, length-drop, get_or-eq_default}
use lib.Seq.{get_or-take, get_or-drop, length-take-le}
use borrow.Author.Tests.{ltb-true, ltb-false, eqb-true, eqb-false, eq-eqb, ne_eqb, le-leb, lt-leb}
use Rattle.lists.proofs.Runs.{while_more, while_end}
use Rattle.lists.proofs.RunsAt.{while_within}
use Rattle.lines.specs.Lines.{no_feed, body, without_return, first_line}
use Rattle.lines.specs.Cited.Places.{lengths_of}
use Rattle.lines.specs.declared.Extent.{Extent}
use Rattle.lines.proofs.Lines.{return_none, return_goes, return_else, line_last, line_fed}
use Rattle.words.specs.Cited.Spaced.{EndsAt}

-- ---- one end, from any place of the line

module _ {s : List ℕ} {from : ℕ} where
  not_before : {a b : ℕ} → EndsAt s from a → EndsAt s from b → a < b → ⊥
  not_before {a} {b} x y l =
      ⊎_elim (λ (f : get_or s a 0 ≡ 10). y.feedless a x.on l f) (λ (r : (get_or s a 0 ≡ 13) × (get_or s (a + 1) 0 ≡ 10)). y.returnless a x.on l r.0 r.1) (x.ends (omega (arith, y.within)))

  ends_once : {a b : ℕ} → EndsAt s from a → EndsAt s from b → a ≡ b
  ends_once {a} {b} x y = pick (ltb a b) (ltb b a) refl refl
    where
      pick : (t u : Bool) → ltb a b ≡ t → ltb b a ≡ u → a ≡ b
      pick true u p q = absurd (not_before x y (ltb-true a b p))
      pick false true p q = absurd (not_before y x (ltb-true b a q))
      pick false false p q = omega (arith, ltb-false a b p, ltb-false b a q)

  pub ends_later : {at end : ℕ} → EndsAt s from end → from ≤ at → at ≤ end → EndsAt s at end
  ends_later x h k = record {
    on = k;
    within = x.within;
    feedless = λ i a b. x.feedless i (omega arith) b;
    returnless = λ i a b. x.returnless i (omega arith) b;
    ends = x.ends;
  }

-- ---- a body's bytes, and the line feed after it

body_each : (xs : List ℕ) (k : ℕ) → k < length (body xs) → get_or xs k 0 ≡ 10 → ⊥
unfolding body
body_each [] k h e = absurd (omega (arith, h, while_within no_feed []))
body_each (x ∷ xs) k h e = pick (eqb x 10) refl k h e (body_each xs)
  where
    pick : (t : Bool) → eqb x 10 ≡ t → (k : ℕ) → k < length (body (x ∷ xs)) → get_or (x ∷ xs) k 0 ≡ 10 → ((j : ℕ) → j < length (body xs) → get_or xs j 0 ≡ 10 → ⊥) → ⊥
    pick true q k h e rest = absurd (omega (arith, rw (while_end no_feed x xs (ap not q)) at h))
    pick false q zero h e rest = eqb-false x 10 q e
    pick false q (suc k) h e rest = rest k (omega (arith, rw (while_more no_feed x xs (ap not q)) at h)) e

body_behind : (xs : List ℕ) → length (body xs) < length xs → get_or xs (length (body xs)) 0 ≡ 10
unfolding body
body_behind [] h = absurd (omega arith)
body_behind (x ∷ xs) h = pick (eqb x 10) refl (body_behind xs)
  where
    pick : (t : Bool) → eqb x 10 ≡ t → (length (body xs) < length xs → get_or xs (length (body xs)) 0 ≡ 10) → get_or (x ∷ xs) (length (body (x ∷ xs))) 0 ≡ 10
    pick true q rest = rw (while_end no_feed x xs (ap not q)) (eqb-true x 10 q)
    pick false q rest = rw (while_more no_feed x xs (ap not q)) (rest (omega (arith, rw (while_more no_feed x xs (ap not q)) at h)))

-- ---- as first_line finds it

-- the place after a line whose text ends at a place
unfoldable pub behind_end : List ℕ → ℕ → ℕ
behind_end s end = cond (leb (length s) end) end (cond (eqb (get_or s end 0) 10) (end + 1) (end + 2))

-- e are the lengths of the line at a place
pub record LineEnds (s : List ℕ) (i : ℕ) (e : Extent) : Type 0 where
  pub ends : EndsAt s i (i + e.text)
  pub whole : i + e.whole ≡ behind_end s (i + e.text)

module _ (s : List ℕ) (i : ℕ) (h : i ≤ length s) where
  abbrev n : ℕ
  n = length (body (drop i s))

  few : i + n ≤ length s
  unfolding body
  few = omega (arith, while_within no_feed (drop i s), length-drop i s)

  none : (k : ℕ) → i ≤ k → k < i + n → get_or s k 0 ≡ 10 → ⊥
  none k l m e =
      let z : i + (k - i) ≡ k = omega arith in
      body_each (drop i s) (k - i) (omega arith) (get_or-drop i s (k - i) 0 ∙ ap (λ (j : ℕ). get_or s j 0) z ∙ e)

  -- no line feed, and so none after a carriage return before the last byte
  passed : (end : ℕ) → end ≤ i + n → ((k : ℕ) → i ≤ k → k < end → k + 1 ≡ i + n → get_or s k 0 ≡ 13 → get_or s (k + 1) 0 ≡ 10 → ⊥)
      → (k : ℕ) → i ≤ k → k < end → get_or s k 0 ≡ 13 → get_or s (k + 1) 0 ≡ 10 → ⊥
  passed end m last k a b r f = pick (ltb (k + 1) (i + n)) refl
    where
      pick : (t : Bool) → ltb (k + 1) (i + n) ≡ t → ⊥
      pick true q = none (k + 1) (omega arith) (ltb-true _ _ q) f
      pick false q = last k a b (omega (arith, ltb-false (k + 1) (i + n) q)) r f

  unended : i + n ≡ length s → LineEnds s i (record { text = n; whole = n })
  unfolding behind_end
  unended e = record {
    ends = record {
      on = omega arith;
      within = few;
      feedless = none;
      returnless = passed (i + n) (omega arith) (λ k a b z r f. absurd (let d = sym (get_or-eq_default s 0 {n = k + 1} (omega arith)) ∙ f in omega arith));
      ends = λ l. absurd (omega arith);
    };
    whole = rw (le-leb (length s) (i + n) (omega arith));
  }

  module _ (more : i + n < length s) where
    feed : get_or s (i + n) 0 ≡ 10
    feed = sym (get_or-drop i s n 0) ∙ body_behind (drop i s) (omega (arith, length-drop i s))

    -- with no carriage return before the line feed
    bare : ((k : ℕ) → i ≤ k → k + 1 ≡ i + n → get_or s k 0 ≡ 13 → ⊥) → LineEnds s i (record { text = n; whole = n + 1 })
    unfolding behind_end
    bare noReturn = record {
      ends = record { on = omega arith; within = few; feedless = none; returnless = passed (i + n) (omega arith) (λ k a b z r f. noReturn k a z r); ends = λ l. inl feed };
      whole = rw (lt-leb (length s) (i + n) more, eq-eqb (get_or s (i + n) 0) 10 feed) (omega arith);
    }

    -- with one
    returned : (last : ℕ) → n ≡ suc last → get_or s (i + last) 0 ≡ 13 → LineEnds s i (record { text = last; whole = n + 1 })
    unfolding behind_end
    returned last e r =
        let z : i + last + 1 ≡ i + n = omega arith in
        record {
          ends = record {
            on = omega arith;
            within = omega (arith, few);
            feedless = λ k a b. none k a (omega arith);
            returnless = passed (i + last) (omega arith) (λ k a b q w f. absurd (omega arith));
            ends = λ l. inr (r, ap (λ (j : ℕ). get_or s j 0) z ∙ feed);
          };
          whole = rw (lt-leb (length s) (i + last) (omega arith), ne_eqb (get_or s (i + last) 0) 10 (λ q. let d = sym q ∙ r in omega arith)) (omega arith);
        }

    abbrev text : ℕ
    text = length (without_return (take n (drop i s)))

    size : length (take n (drop i s)) ≡ n
    size = length-take-le n (drop i s) (omega (arith, length-drop i s))

    -- the byte before the line feed
    before : (last : ℕ) → n ≡ suc last → get_or (take n (drop i s)) last 0 ≡ get_or s (i + last) 0
    before last e = get_or-take n (drop i s) last 0 (omega arith) ∙ get_or-drop i s last 0

    by_text : {t : ℕ} → text ≡ t → LineEnds s i (record { text = t; whole = n + 1 }) → LineEnds s i (record { text = text; whole = n + 1 })
    by_text e l = rw e l

    fed : (m : ℕ) → n ≡ m → LineEnds s i (record { text = text; whole = n + 1 })
    fed zero e = by_text (return_none (take n (drop i s)) (size ∙ e) ∙ sym e) (bare (λ k a z r. absurd (omega arith)))
    fed (suc last) e = pick (eqb (get_or s (i + last) 0) 13) refl
      where
        pick : (t : Bool) → eqb (get_or s (i + last) 0) 13 ≡ t → LineEnds s i (record { text = text; whole = n + 1 })
        pick true q = let r = eqb-true (get_or s (i + last) 0) 13 q in by_text (return_goes (take n (drop i s)) last (size ∙ e) (before last e ∙ r)) (returned last e r)
        pick false q =
            let none13 = eqb-false (get_or s (i + last) 0) 13 q in
            by_text (return_else (take n (drop i s)) last (size ∙ e) (λ r. none13 (sym (before last e) ∙ r)) ∙ size) (bare (λ k a z r. none13 (ap (λ (j : ℕ). get_or s j 0) (let w : i + last ≡ k = omega arith in w) ∙ r)))

  -- from the answer of first_line
  pub line_ends : (e : Extent) → e ≡ lengths_of (first_line (drop i s)) → LineEnds s i e
  line_ends e q = pick (ltb (i + n) (length s)) refl
    where
      pick : (t : Bool) → ltb (i + n) (length s) ≡ t → LineEnds s i e
      pick true l = let m = ltb-true (i + n) (length s) l in rw (q, ← line_fed (drop i s) n refl (text m) (omega (arith, length-drop i s)) refl) (fed m n refl)
      pick false l = let m = ltb-false (i + n) (length s) l in rw (q, ← line_last (drop i s) n refl (omega (arith, few, length-drop i s))) (unended (omega (arith, few)))

-- so the line's end is found from any place of it
pub same_ends : {s : List ℕ} {i at : ℕ} {e f : Extent} → LineEnds s i e → LineEnds s at f → i ≤ at → at ≤ i + e.text → (at + f.text ≡ i + e.text) × (at + f.whole ≡ i + e.whole)
same_ends {s} x y h k = let z = ends_once y.ends (ends_later x.ends h k) in (z, y.whole ∙ ap (behind_end s) z ∙ sym x.whole)

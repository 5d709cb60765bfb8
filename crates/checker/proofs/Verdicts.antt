-- What is decided piece by piece is the verdict: accepted exactly the parts of the language, and of every other text exactly the line named.
use mathlib.Core.Path.{◌≡◌, refl, sym, ap, ◌∙◌}
use mathlib.Core.Bool.{Bool, true, false}
use mathlib.Core.List.{List, [], ◌∷◌, ◌++◌, append_assoc, append-nil}
use Prim.Native.Nat.{ℕ, suc, ◌+◌}
use native.Mathlib.Omega.{arith}
use lib.Dec.{ltb}
use lib.ListN.{length, length-append}
use borrow.Author.Tests.{ltb-true, ltb-false}
use Rattle.output.specs.Emission.{line_feed}
use Rattle.output.proofs.Indents.{Feedless}
use Rattle.checker.specs.Named.{feeds, first_lines, Named}
use Rattle.checker.specs.Matching.{Match, on, fault, Verdict, accepted, at, verdict_of}
use Rattle.checker.proofs.Feeds.{feeds_append, first_behind, first_line, first_within, line_first}
use Rattle.checker.proofs.Decides.{Language, Matcher, Decides}

accepted_at : {n : ℕ} {A : Type 0} → accepted ≡ at n → A
accepted_at e = absurd (cc)

module _ (L : Language) (M : Matcher) (d : Decides L M) (xs : List ℕ) where
  -- where the matching stopped: the lines up to there go on in the language, and with the next line none does
  record Stops (n : ℕ) : Type 0 where
    up_to : List ℕ
    rest : List ℕ
    is : xs ≡ up_to ++ rest
    line : n ≡ feeds up_to
    more : List ℕ
    goes_on : L (up_to ++ more)
    never : (body below : List ℕ) → Feedless body → rest ≡ body ++ 10 ∷ below → (others : List ℕ) → L (up_to ++ (body ++ 10 ∷ others)) → ⊥

  -- a part of the language is matched to its end
  whole : (ys : List ℕ) → L ys → M ys 0 ≡ on [] (feeds ys)
  whole ys h =
      let e = d.finds ys [] 0 h in
      let z : 0 + feeds ys ≡ feeds ys = omega arith in
      ap (λ (l : List ℕ). M l 0) (sym (append-nil ys)) ∙ e ∙ ap (on []) z

  fault_stops : (n : ℕ) → M xs 0 ≡ fault n → Stops n
  fault_stops n e =
      let f = d.faults xs 0 n e in
      record {
        up_to = f.up_to;
        rest = f.rest;
        is = f.is;
        line = omega (arith, f.line);
        more = f.more;
        goes_on = f.goes_on;
        never = λ body below h x others l.
            let a = f.never body below h x others 0 in
            let b = whole (f.up_to ++ (body ++ 10 ∷ others)) l in
            absurd (let q = sym b ∙ a in cc);
      }

  left_stops : (y : ℕ) (ys : List ℕ) (n : ℕ) → M xs 0 ≡ on (y ∷ ys) n → Stops n
  left_stops y ys n e =
      let t = d.found xs 0 (y ∷ ys) n e in
      record {
        up_to = t.part;
        rest = y ∷ ys;
        is = t.is;
        line = omega (arith, t.line);
        more = [];
        goes_on = rw append-nil t.takes;
        never = λ body below h x others l.
            let a = d.finds t.part (body ++ 10 ∷ others) 0 t.takes in
            let b = whole (t.part ++ (body ++ 10 ∷ others)) l in
            let q : [] ≡ body ++ 10 ∷ others = rest_of [] (feeds (t.part ++ (body ++ 10 ∷ others))) (body ++ 10 ∷ others) (0 + feeds t.part) (sym b ∙ a) in
            absurd (let z = length-append body (10 ∷ others) in omega (arith, ap length q));
      }
    where
      rest_of : (as₁ : List ℕ) (i : ℕ) (as₂ : List ℕ) (j : ℕ) → on as₁ i ≡ on as₂ j → as₁ ≡ as₂
      rest_of as₁ i as₂ j e = cc

  stops_named : (n : ℕ) → (L xs → ⊥) → Stops n → Named L xs n
  stops_named n refused s = record {
    refused = refused;
    before = λ i h.
        let w = first_within (suc i) s.up_to s.rest (omega (arith, s.line)) in
        let e : s.up_to ++ s.more ≡ first_lines (suc i) xs ++ (w.left ++ s.more) =
        ap (λ (l : List ℕ). l ++ s.more) (w.part_is ∙ ap (λ (l : List ℕ). first_lines (suc i) l ++ w.left) (sym s.is)) ∙ append_assoc (first_lines (suc i) xs) w.left s.more in
        record { ended = omega (arith, s.line, ap feeds s.is ∙ feeds_append s.up_to s.rest); more = w.left ++ s.more; good = rw (← e) s.goes_on };
    here = λ c.
        let f = line_first s.rest (omega (arith, c.ended, s.line, ap feeds s.is ∙ feeds_append s.up_to s.rest)) in
        let e : first_lines (suc n) xs ≡ s.up_to ++ (f.body ++ line_feed) =
        ap (λ (l : List ℕ). first_lines (suc n) l) s.is
        ∙ ap (λ (k : ℕ). first_lines (suc k) (s.up_to ++ s.rest)) s.line
        ∙ first_behind s.up_to s.rest
        ∙ ap (λ (l : List ℕ). s.up_to ++ first_lines 1 l) f.is
        ∙ ap (λ (l : List ℕ). s.up_to ++ l) (first_line f.body f.below f.feedless) in
        let g : first_lines (suc n) xs ++ c.more ≡ s.up_to ++ (f.body ++ 10 ∷ c.more) =
        ap (λ (l : List ℕ). l ++ c.more) e ∙ append_assoc s.up_to (f.body ++ line_feed) c.more ∙ ap (λ (l : List ℕ). s.up_to ++ l) (append_assoc f.body line_feed c.more) in
        s.never f.body f.below f.feedless f.is c.more (rw g at c.good);
  }

  pub accepted_good : verdict_of (M xs 0) ≡ accepted → L xs
  accepted_good e = go (M xs 0) refl e
    where
      go : (r : Match) → M xs 0 ≡ r → verdict_of r ≡ accepted → L xs
      go (on [] n) h k = let t = d.found xs 0 [] n h in rw (t.is ∙ append-nil t.part) t.takes
      go (on (y ∷ ys) n) h k = accepted_at (sym k)
      go (fault n) h k = accepted_at (sym k)

  pub good_accepted : L xs → verdict_of (M xs 0) ≡ accepted
  good_accepted h = ap verdict_of (whole xs h)

  pub at_named : (n : ℕ) → verdict_of (M xs 0) ≡ at n → Named L xs n
  at_named n e = stops_named n (λ h. accepted_at (sym (good_accepted h) ∙ e)) (go (M xs 0) refl e)
    where
      line_of : (k : ℕ) → at k ≡ at n → k ≡ n
      line_of k e = cc

      go : (r : Match) → M xs 0 ≡ r → verdict_of r ≡ at n → Stops n
      go (on [] k) h q = accepted_at q
      go (on (y ∷ ys) k) h q = rw (← line_of k q) (left_stops y ys k h)
      go (fault k) h q = rw (← line_of k q) (fault_stops k h)

  -- there is one such line
  named_once : (n m : ℕ) → Named L xs n → Named L xs m → n ≡ m
  named_once n m a b = go (ltb n m) (ltb m n) refl refl
    where
      go : (t u : Bool) → ltb n m ≡ t → ltb m n ≡ u → n ≡ m
      go true u et eu = absurd (a.here (b.before n (ltb-true n m et)))
      go false true et eu = absurd (b.here (a.before m (ltb-true m n eu)))
      go false false et eu = let p = ltb-false n m et in let q = ltb-false m n eu in omega arith

  pub named_at : (n : ℕ) → Named L xs n → verdict_of (M xs 0) ≡ at n
  named_at n a = go (verdict_of (M xs 0)) refl
    where
      go : (v : Verdict) → verdict_of (M xs 0) ≡ v → v ≡ at n
      go accepted e = absurd (a.refused (accepted_good e))
      go (at m) e = ap at (named_once m n (at_named m e) a)

-- Matching by places: what a step of the code comes to in the digest from a place on.
use Rattle.std.proofs.Common.{Result, Ok, Err}
use Rattle.std.specs.List.{starts_with}
use mathlib.Core.Path.{◌≡◌, refl, sym, ap, ◌∙◌}
use mathlib.Core.Bool.{Bool, true, false, cond, ◌&&◌}
use mathlib.Core.List.{List, [], ◌∷◌, ◌++◌}
use Prim.Native.Nat.{ℕ, suc, ◌+◌, ◌-◌, ◌≤◌, ◌<◌}
use native.Mathlib.Omega.{arith}
use lib.Dec.{eqb, ltb}
use lib.ListN.{length, get_or, take, drop, length-drop, length-append}
use lib.Seq.{slice, drop-drop}
use Rattle.lists.proofs.Slices.{slice_is}
use borrow.Author.Tests.{ne_eqb, lt-ltb, ltb-true, ltb-false, le-ltb, le-leb, lt-leb}
use Rattle.lists.specs.Runs.{begins}
use Rattle.lists.proofs.RunsAt.{begins_within}
use Rattle.lists.proofs.Views.{drop_here, drop_none}
use Rattle.text.specs.Characters.{extent}
use Rattle.text.proofs.Forms.{rest_is}
use Rattle.output.specs.Emission.{line_feed}
use Rattle.checker.specs.Matching.{Match, on, fault, and_then, match_text, match_feed, spaces, parting, lead, match_spaced, match_next}
use Rattle.checker.specs.Cited.Places.{SpotIn, Matches, GapAt}
use Rattle.checker.specs.declared.Spot.{Spot}
use Rattle.checker.specs.declared.Fault.{Fault}
use Rattle.checker.specs.declared.Gap.{Gap}

-- ---- one after the other

module _ {digest : List ℕ} {m : Match} (f : List ℕ → ℕ → Match) where
  pub then_fault : {k : Fault} → Matches digest m (Err k) → Matches digest (and_then m f) (Err k)
  then_fault a = record { is = ap (λ (x : Match). and_then x f) a.is; inside = a.inside }

  pub then_on : {q : Spot} {r : Result Spot Fault} → Matches digest m (Ok q) → Matches digest (f (drop q.at digest) q.line) r → Matches digest (and_then m f) r
  then_on a b = record { is = b.is ∙ ap (λ (x : Match). and_then x f) a.is; inside = b.inside }

pub matches_same : {digest : List ℕ} {m m' : Match} {r : Result Spot Fault} → m ≡ m' → Matches digest m r → Matches digest m' r
matches_same e a = record { is = a.is ∙ e; inside = a.inside }

-- ---- bytes that have to stand there

module _ (text digest : List ℕ) (p : Spot) (s : SpotIn digest p) where
  pub text_on : begins text (drop p.at digest) ≡ true → Matches digest (match_text text (drop p.at digest) p.line) (Ok (record { at = p.at + length text; line = p.line }))
  unfolding match_text
  text_on b =
      let l = length-drop p.at digest in
      let w = begins_within text (drop p.at digest) b in
      record { is = rw (b, drop-drop (length text) p.at digest); inside = record { within = omega (arith, s.within); line = omega (arith, s.line) } }

  pub text_off : begins text (drop p.at digest) ≡ false → Matches digest (match_text text (drop p.at digest) p.line) (Err (record { line = p.line }))
  unfolding match_text
  text_off b = record { is = rw b; inside = omega (arith, s.within, s.line) }

-- a text in two parts
begins_parts : (a b xs : List ℕ) → begins (a ++ b) xs ≡ (begins a xs && begins b (drop (length a) xs))
unfolding begins
begins_parts [] b xs = refl
begins_parts (x ∷ a) b [] = refl
begins_parts (x ∷ a) b (y ∷ xs) = go (eqb x y) (begins_parts a b xs)
  where
    go : (t : Bool) → begins (a ++ b) xs ≡ (begins a xs && begins b (drop (length a) xs))
        → ◌≡◌ {A = Bool} (elim t [ true ↦ begins (a ++ b) xs | false ↦ false ]) (elim t as (λ x. Bool) [ true ↦ begins a xs | false ↦ false ] && begins b (drop (length a) xs))
    go true ih = ih
    go false ih = refl

pub text_append : (a b xs : List ℕ) (n : ℕ) → and_then (match_text a xs n) (match_text b) ≡ match_text (a ++ b) xs n
unfolding match_text
text_append a b xs n = go (begins a xs) refl
  where
    go : (t : Bool) → begins a xs ≡ t → and_then (cond (begins a xs) (on (drop (length a) xs) n) (fault n)) (λ ys k. cond (begins b ys) (on (drop (length b) ys) k) (fault k)) ≡ cond (begins (a ++ b) xs) (on (drop (length (a ++ b)) xs) n) (fault n)
    go true e = rw (e, begins_parts a b xs, e, drop-drop (length b) (length a) xs, length-append a b)
    go false e = rw (e, begins_parts a b xs, e)

module _ (a b digest : List ℕ) (p : Spot) where
  pub append_fault : {f : Fault} → Matches digest (match_text a (drop p.at digest) p.line) (Err f) → Matches digest (match_text (a ++ b) (drop p.at digest) p.line) (Err f)
  append_fault m = matches_same (text_append a b (drop p.at digest) p.line) (then_fault (match_text b) m)

  pub append_on : {q : Spot} {r : Result Spot Fault} → Matches digest (match_text a (drop p.at digest) p.line) (Ok q) → Matches digest (match_text b (drop q.at digest) q.line) r → Matches digest (match_text (a ++ b) (drop p.at digest) p.line) r
  append_on m n = matches_same (text_append a b (drop p.at digest) p.line) (then_on (match_text b) m n)

-- what the code lends of the notes
pub part_slice : (a b : ℕ) (s : List ℕ) → a ≤ b → take (b - a) (drop a s) ≡ slice a b s
part_slice a b s h = let z : a + (b - a) ≡ b = omega arith in sym (slice_is a (b - a) s) ∙ ap (λ (i : ℕ). slice a i s) z

pub part_text : (a b : ℕ) (s digest : List ℕ) (p : Spot) {r : Result Spot Fault} → a ≤ b → Matches digest (match_text (take (b - a) (drop a s)) (drop p.at digest) p.line) r → Matches digest (match_text (slice a b s) (drop p.at digest) p.line) r
part_text a b s digest p h m = matches_same (ap (λ (t : List ℕ). match_text t (drop p.at digest) p.line) (part_slice a b s h)) m

-- ---- a line feed

module _ (digest : List ℕ) (p : Spot) (s : SpotIn digest p) where
  pub feed_off : (p.at < length digest → get_or digest p.at 0 ≡ 10 → ⊥) → Matches digest (match_feed (drop p.at digest) p.line) (Err (record { line = p.line }))
  unfolding match_feed begins
  feed_off k = go (ltb p.at (length digest)) refl
    where
      go : (t : Bool) → ltb p.at (length digest) ≡ t → Matches digest (match_feed (drop p.at digest) p.line) (Err (record { line = p.line }))
      go true e = let h = ltb-true _ _ e in record { is = rw (drop_here 0 digest p.at h, ne_eqb 10 (get_or digest p.at 0) (λ e. k h (sym e)), begins); inside = omega (arith, s.within, s.line) }
      go false e = record { is = rw (drop_none 0 digest p.at (ltb-false _ _ e)); inside = omega (arith, s.within, s.line) }

  pub feed_on : p.at < length digest → get_or digest p.at 0 ≡ 10 → Matches digest (match_feed (drop p.at digest) p.line) (Ok (record { at = p.at + 1; line = p.line + 1 }))
  unfolding match_feed begins
  feed_on h k =
      let z : p.line + 1 ≡ suc p.line = omega arith in
      record { is = rw (drop_here 0 digest p.at h, k, z); inside = record { within = omega arith; line = omega (arith, s.line) } }

-- ---- a gap

module _ (glue : Bool) (w digest : List ℕ) (p : Spot) (s : SpotIn digest p) (g : Gap) (a : GapAt glue digest p.at g) where
  -- too few blanks
  pub spaced_short : g.hard ≤ p.at → Matches digest (match_spaced glue w (drop p.at digest) p.line) (Err (record { line = p.line }))
  unfolding match_spaced
  spaced_short h = record { is = rw (le-ltb 0 (parting glue (spaces (drop p.at digest))) (omega (arith, a.hard))); inside = omega (arith, s.within, s.line) }

  module _ (own : ℕ) (o : own ≡ lead w) (h : p.at < g.hard) where
    pub spaced_few : g.end - g.hard < own → Matches digest (match_spaced glue w (drop p.at digest) p.line) (Err (record { line = p.line }))
    unfolding match_spaced
    spaced_few k = record {
      is = rw (lt-ltb 0 (parting glue (spaces (drop p.at digest))) (omega (arith, a.hard)), lt-leb (parting glue (spaces (drop p.at digest)) + lead w) (extent (spaces (drop p.at digest))) (omega (arith, a.hard, a.end, a.order)));
      inside = omega (arith, s.within, s.line);
    }

    pub spaced_text : own ≤ g.end - g.hard → {r : Result Spot Fault} → Matches digest (match_text w (drop (g.end - own) digest) p.line) r → Matches digest (match_spaced glue w (drop p.at digest) p.line) r
    unfolding match_spaced
    spaced_text k m =
        let z : g.end - own ≡ p.at + (extent (spaces (drop p.at digest)) - lead w) = omega (arith, a.hard, a.end, a.order) in
        let e : drop (extent (spaces (drop p.at digest)) - lead w) (drop p.at digest) ≡ drop (g.end - own) digest = drop-drop (extent (spaces (drop p.at digest)) - lead w) p.at digest ∙ ap (λ (i : ℕ). drop i digest) (sym z) in
        matches_same (rw (lt-ltb 0 (parting glue (spaces (drop p.at digest))) (omega (arith, a.hard)), le-leb (parting glue (spaces (drop p.at digest)) + lead w) (extent (spaces (drop p.at digest))) (omega (arith, a.hard, a.end, a.order)), e)) m

-- ---- the next word

module _ (glue : Bool) (indent w digest : List ℕ) (p : Spot) where
  pub next_fresh : {q : Spot} {r : Result Spot Fault} → Matches digest (match_feed (drop p.at digest) p.line) (Ok q) → Matches digest (match_text (indent ++ w) (drop q.at digest) q.line) r → Matches digest (match_next glue indent w (drop p.at digest) p.line) r
  unfolding match_next match_feed
  next_fresh {q} {r} a b = go (begins line_feed (drop p.at digest)) refl a.is
    where
      go : (t : Bool) → begins line_feed (drop p.at digest) ≡ t → on (drop q.at digest) q.line ≡ cond (begins line_feed (drop p.at digest)) (on (drop 1 (drop p.at digest)) (suc p.line)) (fault p.line)
          → Matches digest (match_next glue indent w (drop p.at digest) p.line) r
      go true t k = matches_same (rw t (ap (λ (m : Match). and_then m (match_text (indent ++ w))) (rw t at k))) b
      go false t k = absurd (let q : on (drop q.at digest) q.line ≡ fault p.line = rw t at k in cc)

  pub next_spaced : {f : Fault} {r : Result Spot Fault} → Matches digest (match_feed (drop p.at digest) p.line) (Err f) → Matches digest (match_spaced glue w (drop p.at digest) p.line) r → Matches digest (match_next glue indent w (drop p.at digest) p.line) r
  unfolding match_next match_feed
  next_spaced {f} {r} a b = go (begins line_feed (drop p.at digest)) refl a.is
    where
      go : (t : Bool) → begins line_feed (drop p.at digest) ≡ t → fault f.line ≡ cond (begins line_feed (drop p.at digest)) (on (drop 1 (drop p.at digest)) (suc p.line)) (fault p.line)
          → Matches digest (match_next glue indent w (drop p.at digest) p.line) r
      go true t k = absurd (let q : fault f.line ≡ on (drop 1 (drop p.at digest)) (suc p.line) = rw t at k in cc)
      go false t k = matches_same (rw t) b

-- what std's `starts_with` says
starts_begins : (p s : List ℕ) → starts_with eqb s p ≡ begins p s
unfolding begins
starts_begins [] s = refl
starts_begins (x ∷ p) [] = refl
starts_begins (x ∷ p) (y ∷ s) = go (eqb x y) (starts_begins p s)
  where
    go : (t : Bool) → starts_with eqb s p ≡ begins p s → (t && starts_with eqb s p) ≡ elim t [ true ↦ begins p s | false ↦ false ]
    go true e = e
    go false e = refl

-- what the code lends of a digest is all of it from a place on
pub part_begins : (text s : List ℕ) (at : ℕ) {b : Bool} → b ≡ starts_with eqb (take (length s - at) (drop at s)) text → begins text (drop at s) ≡ b
part_begins text s at e = ap (begins text) (sym (rest_is s at)) ∙ sym (starts_begins text (take (length s - at) (drop at s))) ∙ sym e

-- What a matcher decides: it takes exactly the parts of a language from the front of a digest; and where it finds a fault, the lines before it
-- can be continued to a part of the language, and no digest with the same lines up to that one is matched. Matchers one after the other, and
-- one of two by whether a line feed is in front, decide what their languages come to.
use mathlib.Core.Path.{◌≡◌, refl, sym, ap, ◌∙◌}
use mathlib.Core.Bool.{Bool, true, false, cond}
use mathlib.Core.List.{List, [], ◌∷◌, ◌++◌, append_assoc}
use mathlib.Core.Logic.{◌⊎◌, inl, inr}
use Prim.Native.Nat.{ℕ, suc, ◌+◌}
use native.Mathlib.Omega.{arith}
use lib.ListN.{length, drop}
use lib.Seq.{drop-append_seam}
use Rattle.lists.specs.Runs.{begins}
use Rattle.lists.proofs.Runs.{begins_append, begins_front}
use Rattle.output.specs.Emission.{line_feed}
use Rattle.output.proofs.Indents.{Feedless}
use Rattle.checker.specs.Acceptable.{Then}
use Rattle.checker.specs.Named.{feeds}
use Rattle.checker.specs.Matching.{Match, on, fault, and_then, match_text, match_feed}
use Rattle.checker.proofs.Feeds.{feeds_nil, feeds_feed, feeds_append, feedless_feeds, begins_feed, feed_first}

abbrev pub Language : Type 1
Language = List ℕ → Type 0

abbrev pub Matcher : Type 0
Matcher = List ℕ → ℕ → Match

-- a part of the language was taken from the front
pub record Took (L : Language) (xs : List ℕ) (n : ℕ) (rest : List ℕ) (m : ℕ) : Type 0 where
  pub part : List ℕ
  pub is : xs ≡ part ++ rest
  pub takes : L part
  pub line : m ≡ n + feeds part

pub record Faults (L : Language) (M : Matcher) (xs : List ℕ) (n m : ℕ) : Type 0 where
  pub up_to : List ℕ
  pub rest : List ℕ
  pub is : xs ≡ up_to ++ rest
  pub line : m ≡ n + feeds up_to
  pub more : List ℕ
  pub goes_on : L (up_to ++ more)
  pub never : (body below : List ℕ) → Feedless body → rest ≡ body ++ 10 ∷ below → (others : List ℕ) (k : ℕ) → M (up_to ++ (body ++ 10 ∷ others)) k ≡ fault (k + feeds up_to)

pub record Decides (L : Language) (M : Matcher) : Type 0 where
  pub found : (xs : List ℕ) (n : ℕ) (rest : List ℕ) (m : ℕ) → M xs n ≡ on rest m → Took L xs n rest m
  pub finds : (part rest : List ℕ) (n : ℕ) → L part → M (part ++ rest) n ≡ on rest (n + feeds part)
  pub example : List ℕ
  pub some : L example
  pub faults : (xs : List ℕ) (n m : ℕ) → M xs n ≡ fault m → Faults L M xs n m

-- a match is one or the other
pub on_fault : {xs : List ℕ} {n m : ℕ} {A : Type 0} → on xs n ≡ fault m → A
on_fault e = absurd (cc)

-- ---- bytes that have to stand there

abbrev pub Is : List ℕ → Language
Is text part = part ≡ text

module _ (text : List ℕ) (f : Feedless text) where
  text_found : (xs : List ℕ) (n : ℕ) (rest : List ℕ) (m : ℕ) → match_text text xs n ≡ on rest m → Took (Is text) xs n rest m
  unfolding match_text
  text_found xs n rest m e = go (begins text xs) refl e
    where
      go : (t : Bool) → begins text xs ≡ t → cond t (on (drop (length text) xs) n) (fault n) ≡ on rest m → Took (Is text) xs n rest m
      go true b k =
          let z : drop (length text) xs ≡ rest = cc in
          let q : n ≡ m = cc in
          record { part = text; is = rw z at (begins_front text xs b); takes = refl; line = omega (arith, feedless_feeds text f) }
      go false b k = on_fault (sym k)

  text_finds : (part rest : List ℕ) (n : ℕ) → part ≡ text → match_text text (part ++ rest) n ≡ on rest (n + feeds part)
  unfolding match_text
  text_finds part rest n e =
      let z : n ≡ n + feeds text = omega (arith, feedless_feeds text f) in
      rw (e, begins_append text rest, drop-append_seam text rest, ← z)

  text_faults : (xs : List ℕ) (n m : ℕ) → match_text text xs n ≡ fault m → Faults (Is text) (match_text text) xs n m
  unfolding match_text
  text_faults xs n m e = go (begins text xs) refl e
    where
      go : (t : Bool) → begins text xs ≡ t → cond t (on (drop (length text) xs) n) (fault n) ≡ fault m → Faults (Is text) (match_text text) xs n m
      go true b k = on_fault k
      go false b k = record {
        up_to = [];
        rest = xs;
        is = refl;
        line = let z : n ≡ m = cc in omega (arith, feeds_nil);
        more = text;
        goes_on = refl;
        never = λ body below h x others j.
            let z : begins text (body ++ 10 ∷ others) ≡ false = begins_feed text body others f ∙ sym (begins_feed text body below f) ∙ ap (begins text) (sym x) ∙ b in
            let q : j + feeds [] ≡ j = omega (arith, feeds_nil) in
            rw (z, q);
      }

  pub decides_text : Decides (Is text) (match_text text)
  decides_text = record { found = text_found; finds = text_finds; example = text; some = refl; faults = text_faults }

-- ---- a line feed

feed_found : (xs : List ℕ) (n : ℕ) (rest : List ℕ) (m : ℕ) → match_feed xs n ≡ on rest m → Took (Is line_feed) xs n rest m
unfolding match_feed
feed_found xs n rest m e = go (begins line_feed xs) refl e
  where
    go : (t : Bool) → begins line_feed xs ≡ t → cond t (on (drop 1 xs) (suc n)) (fault n) ≡ on rest m → Took (Is line_feed) xs n rest m
    go true b k =
        let z : drop 1 xs ≡ rest = cc in
        let q : suc n ≡ m = cc in
        record { part = line_feed; is = rw z at (begins_front line_feed xs b); takes = refl; line = omega (arith, feeds_feed) }
    go false b k = on_fault (sym k)

feed_finds : (part rest : List ℕ) (n : ℕ) → part ≡ line_feed → match_feed (part ++ rest) n ≡ on rest (n + feeds part)
unfolding match_feed begins
feed_finds part rest n e =
    let z : suc n ≡ n + feeds line_feed = omega (arith, feeds_feed) in
    rw (e, ← z)

feed_faults : (xs : List ℕ) (n m : ℕ) → match_feed xs n ≡ fault m → Faults (Is line_feed) match_feed xs n m
unfolding match_feed
feed_faults xs n m e = go (begins line_feed xs) refl e
  where
    go : (t : Bool) → begins line_feed xs ≡ t → cond t (on (drop 1 xs) (suc n)) (fault n) ≡ fault m → Faults (Is line_feed) match_feed xs n m
    go true b k = on_fault k
    go false b k = record {
      up_to = [];
      rest = xs;
      is = refl;
      line = let z : n ≡ m = cc in omega (arith, feeds_nil);
      more = line_feed;
      goes_on = refl;
      never = λ body below h x others j.
          let z : begins line_feed (body ++ 10 ∷ others) ≡ false = feed_first [] body others below ∙ ap (begins line_feed) (sym x) ∙ b in
          let q : j + feeds [] ≡ j = omega (arith, feeds_nil) in
          rw (z, q);
    }

pub decides_feed : Decides (Is line_feed) match_feed
decides_feed = record { found = feed_found; finds = feed_finds; example = line_feed; some = refl; faults = feed_faults }

-- ---- one after the other

module _ (L₁ L₂ : Language) (M₁ M₂ : Matcher) (d₁ : Decides L₁ M₁) (d₂ : Decides L₂ M₂) where
  abbrev Both : Matcher
  Both xs n = and_then (M₁ xs n) M₂

  then_found : (xs : List ℕ) (n : ℕ) (rest : List ℕ) (m : ℕ) → Both xs n ≡ on rest m → Took (Then L₁ L₂) xs n rest m
  then_found xs n rest m e = go (M₁ xs n) refl e
    where
      go : (r : Match) → M₁ xs n ≡ r → and_then r M₂ ≡ on rest m → Took (Then L₁ L₂) xs n rest m
      go (on ys k) h q =
          let a = d₁.found xs n ys k h in
          let b = d₂.found ys k rest m q in
          record {
            part = a.part ++ b.part;
            is = a.is ∙ ap (λ (l : List ℕ). a.part ++ l) b.is ∙ sym (append_assoc a.part b.part rest);
            takes = record { part = a.part; rest = b.part; bytes_are = refl; first = a.takes; second = b.takes };
            line = omega (arith, a.line, b.line, feeds_append a.part b.part);
          }
      go (fault k) h q = on_fault (sym q)

  then_finds : (part rest : List ℕ) (n : ℕ) → Then L₁ L₂ part → Both (part ++ rest) n ≡ on rest (n + feeds part)
  then_finds part rest n t =
      let e : part ++ rest ≡ t.part ++ (t.rest ++ rest) = ap (λ (l : List ℕ). l ++ rest) t.bytes_are ∙ append_assoc t.part t.rest rest in
      let f : feeds part ≡ feeds t.part + feeds t.rest = ap feeds t.bytes_are ∙ feeds_append t.part t.rest in
      let q : n + feeds t.part + feeds t.rest ≡ n + feeds part = omega arith in
      rw (e, d₁.finds t.part (t.rest ++ rest) n t.first, d₂.finds t.rest rest (n + feeds t.part) t.second, q)

  then_faults : (xs : List ℕ) (n m : ℕ) → Both xs n ≡ fault m → Faults (Then L₁ L₂) Both xs n m
  then_faults xs n m e = go (M₁ xs n) refl e
    where
      go : (r : Match) → M₁ xs n ≡ r → and_then r M₂ ≡ fault m → Faults (Then L₁ L₂) Both xs n m
      go (on ys k) h q =
          let a = d₁.found xs n ys k h in
          let b = d₂.faults ys k m q in
          record {
            up_to = a.part ++ b.up_to;
            rest = b.rest;
            is = a.is ∙ ap (λ (l : List ℕ). a.part ++ l) b.is ∙ sym (append_assoc a.part b.up_to b.rest);
            line = omega (arith, a.line, b.line, feeds_append a.part b.up_to);
            more = b.more;
            goes_on = record { part = a.part; rest = b.up_to ++ b.more; bytes_are = append_assoc a.part b.up_to b.more; first = a.takes; second = b.goes_on };
            never = λ body below z x others j.
                let f : j + feeds a.part + feeds b.up_to ≡ j + feeds (a.part ++ b.up_to) = omega (arith, feeds_append a.part b.up_to) in
                rw (
                  append_assoc a.part b.up_to (body ++ 10 ∷ others),
                  d₁.finds a.part (b.up_to ++ (body ++ 10 ∷ others)) j a.takes,
                  b.never body below z x others (j + feeds a.part),
                  f,
                );
          }
      go (fault k) h q =
          let b = d₁.faults xs n m (h ∙ q) in
          record {
            up_to = b.up_to;
            rest = b.rest;
            is = b.is;
            line = b.line;
            more = b.more ++ d₂.example;
            goes_on = record { part = b.up_to ++ b.more; rest = d₂.example; bytes_are = sym (append_assoc b.up_to b.more d₂.example); first = b.goes_on; second = d₂.some };
            never = λ body below z x others j. rw (b.never body below z x others j);
          }

  pub decides_then : Decides (Then L₁ L₂) (λ xs n. and_then (M₁ xs n) M₂)
  decides_then = record {
    found = then_found;
    finds = then_finds;
    example = d₁.example ++ d₂.example;
    some = record { part = d₁.example; rest = d₂.example; bytes_are = refl; first = d₁.some; second = d₂.some };
    faults = then_faults;
  }

-- ---- one of two, by whether a line feed is in front

module _ (L₁ L₂ : Language) (M₁ M₂ : Matcher) (d₁ : Decides L₁ M₁) (d₂ : Decides L₂ M₂)
    (feed : (part rest : List ℕ) → L₁ part → begins line_feed (part ++ rest) ≡ true)
    (other : (part rest : List ℕ) → L₂ part → begins line_feed (part ++ rest) ≡ false) where
  abbrev Either : Matcher
  Either xs n = cond (begins line_feed xs) (M₁ xs n) (M₂ xs n)

  abbrev OneOf : Language
  OneOf part = L₁ part ⊎ L₂ part

  either_found : (xs : List ℕ) (n : ℕ) (rest : List ℕ) (m : ℕ) → Either xs n ≡ on rest m → Took OneOf xs n rest m
  either_found xs n rest m e = go (begins line_feed xs) e
    where
      go : (t : Bool) → cond t (M₁ xs n) (M₂ xs n) ≡ on rest m → Took OneOf xs n rest m
      go true k = let a = d₁.found xs n rest m k in record { part = a.part; is = a.is; takes = inl a.takes; line = a.line }
      go false k = let a = d₂.found xs n rest m k in record { part = a.part; is = a.is; takes = inr a.takes; line = a.line }

  either_finds : (part rest : List ℕ) (n : ℕ) → OneOf part → Either (part ++ rest) n ≡ on rest (n + feeds part)
  either_finds part rest n (inl h) = rw (feed part rest h) (d₁.finds part rest n h)
  either_finds part rest n (inr h) = rw (other part rest h) (d₂.finds part rest n h)

  either_faults : (xs : List ℕ) (n m : ℕ) → Either xs n ≡ fault m → Faults OneOf Either xs n m
  either_faults xs n m e = go (begins line_feed xs) refl e
    where
      -- the same matcher is asked where the lines up to the fault's are the same
      same : (up_to body below others : List ℕ) (t : Bool) → begins line_feed xs ≡ t → xs ≡ up_to ++ (body ++ 10 ∷ below) → begins line_feed (up_to ++ (body ++ 10 ∷ others)) ≡ t
      same up_to body below others t b x = feed_first up_to body others below ∙ ap (begins line_feed) (sym x) ∙ b

      go : (t : Bool) → begins line_feed xs ≡ t → cond t (M₁ xs n) (M₂ xs n) ≡ fault m → Faults OneOf Either xs n m
      go true b k =
          let a = d₁.faults xs n m k in
          record {
            up_to = a.up_to;
            rest = a.rest;
            is = a.is;
            line = a.line;
            more = a.more;
            goes_on = inl a.goes_on;
            never = λ body below z x others j. rw (same a.up_to body below others true b (a.is ∙ ap (λ (l : List ℕ). a.up_to ++ l) x)) (a.never body below z x others j);
          }
      go false b k =
          let a = d₂.faults xs n m k in
          record {
            up_to = a.up_to;
            rest = a.rest;
            is = a.is;
            line = a.line;
            more = a.more;
            goes_on = inr a.goes_on;
            never = λ body below z x others j. rw (same a.up_to body below others false b (a.is ∙ ap (λ (l : List ℕ). a.up_to ++ l) x)) (a.never body below z x others j);
          }

  pub decides_either : Decides (λ part. L₁ part ⊎ L₂ part) (λ xs n. cond (begins line_feed xs) (M₁ xs n) (M₂ xs n))
  decides_either = record { found = either_found; finds = either_finds; example = d₁.example; some = inl d₁.some; faults = either_faults }

-- the same matcher decides what is equally hard to say otherwise
pub decides_same : (L K : Language) (M : Matcher) → ((part : List ℕ) → L part → K part) → ((part : List ℕ) → K part → L part) → Decides L M → Decides K M
decides_same L K M to from d = record {
  found = λ xs n rest m e. let a = d.found xs n rest m e in record { part = a.part; is = a.is; takes = to a.part a.takes; line = a.line };
  finds = λ part rest n k. d.finds part rest n (from part k);
  example = d.example;
  some = to d.example d.some;
  faults = λ xs n m e.
      let a = d.faults xs n m e in
      record { up_to = a.up_to; rest = a.rest; is = a.is; line = a.line; more = a.more; goes_on = to (a.up_to ++ a.more) a.goes_on; never = a.never };
}

-- Where each octet joins the three before it, no place is damaged: by the characters of a text, one after the other.
use Rattle.std.proofs.Common.{None}
use mathlib.Core.Path.{◌≡◌, refl, sym, ap, ◌∙◌}
use mathlib.Core.Bool.{Bool, true, false, not, ◌&&◌, ◌||◌, and-eq-true_iff, or-true}
use mathlib.Core.List.{List, [], ◌∷◌}
use Prim.Native.Nat.{ℕ, zero, suc, ◌+◌, ◌-◌, ◌*◌, ◌/◌, ◌%◌, ◌≤◌, ◌<◌}
use native.Mathlib.Omega.{arith}
use lib.Dec.{ltb, leb, eqb}
use lib.ListN.{length, get_or, drop}
use borrow.Author.Tests.{ltb-true, ltb-false, leb-true, le-leb, lt-leb, eqb-true, eqb-false, eq-eqb, not-true}
use Rattle.lists.proofs.Views.{drop_here}
use Rattle.text.specs.Rfc3629.{decode}
use Rattle.text.specs.Characters.{damage}
use Rattle.text.specs.Cited.Places.{read_as, good}
use Rattle.text.specs.Cited.Joins.{asked, goes_on, joins, joins_at, EachJoins, Joined, JoinedFrom}
use Rattle.text.proofs.Forms.{ascii, is_two, is_three, is_four}
use Rattle.text.proofs.Glyphs.{char_here}
use Rattle.text.proofs.Damage.{later, later_zero, damage_past, damage_on}

-- what the tests say of an octet
pub record Joins (p q r b : ℕ) : Type 0 where
  pub follows : asked p q r ≡ true → b / 64 ≡ 2
  pub begins : asked p q r ≡ false → b / 64 ≡ 2 → ⊥
  pub not_c0 : b ≡ 0xC0 → ⊥
  pub not_c1 : b ≡ 0xC1 → ⊥
  pub most : b ≤ 0xF4
  pub behind_e0 : r ≡ 0xE0 → 0xA0 ≤ b
  pub behind_ed : r ≡ 0xED → b < 0xA0
  pub behind_f0 : r ≡ 0xF0 → 0x90 ≤ b
  pub behind_f4 : r ≡ 0xF4 → b < 0x90

-- of two tests the second holds where the first does not
second : (t u : Bool) → (not t || u) ≡ true → t ≡ true → u ≡ true
second true u e h = e
second false u e h = absurd (let z : ◌≡◌ {A = ℕ} 0 1 = cc in omega arith)

other : (t u : Bool) → (t || not u) ≡ true → t ≡ false → u ≡ false
other true u e h = absurd (let z : ◌≡◌ {A = ℕ} 0 1 = cc in omega arith)
other false u e h = not-true u e

pub joins_is : (p q r b : ℕ) → joins p q r b ≡ true → Joins p q r b
unfolding joins
joins_is p q r b e =
    let f4 = (and-eq-true_iff _ (not (eqb r 0xF4) || ltb b 0x90)).0 e in
    let f0 = (and-eq-true_iff _ (not (eqb r 0xF0) || leb 0x90 b)).0 f4.0 in
    let ed = (and-eq-true_iff _ (not (eqb r 0xED) || ltb b 0xA0)).0 f0.0 in
    let e0 = (and-eq-true_iff _ (not (eqb r 0xE0) || leb 0xA0 b)).0 ed.0 in
    let most = (and-eq-true_iff _ (leb b 0xF4)).0 e0.0 in
    let c1 = (and-eq-true_iff _ (not (eqb b 0xC1))).0 most.0 in
    let c0 = (and-eq-true_iff _ (not (eqb b 0xC0))).0 c1.0 in
    let on = (and-eq-true_iff (not (asked p q r) || goes_on b) (asked p q r || not (goes_on b))).0 c0.0 in
    record {
      follows = λ h. eqb-true _ _ (second (asked p q r) _ on.0 h);
      begins = λ h. eqb-false _ _ (other (asked p q r) _ on.1 h);
      not_c0 = eqb-false _ _ (not-true _ c0.1);
      not_c1 = eqb-false _ _ (not-true _ c1.1);
      most = leb-true _ _ most.1;
      behind_e0 = λ h. leb-true _ _ (second (eqb r 0xE0) _ e0.1 (eq-eqb r 0xE0 h));
      behind_ed = λ h. ltb-true _ _ (second (eqb r 0xED) _ ed.1 (eq-eqb r 0xED h));
      behind_f0 = λ h. leb-true _ _ (second (eqb r 0xF0) _ f0.1 (eq-eqb r 0xF0 h));
      behind_f4 = λ h. ltb-true _ _ (second (eqb r 0xF4) _ f4.1 (eq-eqb r 0xF4 h));
    }

-- an octet after others: it goes on where one of the three asks for it, and else begins a character
module _ {p q r b : ℕ} (j : Joins p q r b) where
  asked_by : asked p q r ≡ true → (b < 0xC0) × (b / 64 ≡ 2)
  asked_by h = (omega (arith, j.follows h), j.follows h)

  fresh : p < 0xF0 → q < 0xE0 → r < 0xC0 → b / 64 ≡ 2 → ⊥
  fresh hp hq hr = j.begins (rw (lt-leb 0xF0 p hp, lt-leb 0xE0 q hq, lt-leb 0xC0 r hr))

or_mid : (t u : Bool) → (t || true || u) ≡ true
or_mid true u = refl
or_mid false u = refl

by_last : (p q r : ℕ) → 0xC0 ≤ r → asked p q r ≡ true
by_last p q r h = rw (le-leb 0xC0 r h) (or-true (leb 0xF0 p || leb 0xE0 q))

by_second : (p q r : ℕ) → 0xE0 ≤ q → asked p q r ≡ true
by_second p q r h = rw (le-leb 0xE0 q h) (or_mid (leb 0xF0 p) (leb 0xC0 r))

by_third : (p q r : ℕ) → 0xF0 ≤ p → asked p q r ≡ true
by_third p q r h = rw (le-leb 0xF0 p h)

-- ---- a text by its characters: the first, and what is after it

one_more : (xs : List ℕ) (code n : ℕ) → read_as 0 (decode xs) ≡ good code n → damage (drop n xs) ≡ None → damage xs ≡ None
one_more xs code n e rest = sym (later_zero (damage xs)) ∙ damage_on xs 0 (char_here xs 0 code n e) ∙ ap (later n) rest

one_octet : (a : ℕ) (xs : List ℕ) → a < 0x80 → damage xs ≡ None → damage (a ∷ xs) ≡ None
one_octet a xs h rest = one_more (a ∷ xs) a 1 (ap (read_as 0) (ascii a xs h)) rest

-- what is left behind a character: no octet of it asks for another
abbrev Rest : ℕ → Type 0
Rest n = (p q r : ℕ) (xs : List ℕ) → length xs < n → p < 0xF0 → q < 0xE0 → r < 0xC0 → Joined p q r xs → damage xs ≡ None

two_octets : (q r a : ℕ) (xs : List ℕ) → 0xC2 ≤ a → a < 0xE0 → r < 0xC0 → Joined q r a xs → Rest (suc (length xs)) → damage (a ∷ xs) ≡ None
two_octets q r a [] lo hi hr j rest = absurd (omega (arith, j.2))
two_octets q r a (b ∷ xs) lo hi hr j rest =
    let s = asked_by (joins_is q r a b j.0) (by_last q r a (omega arith)) in
    one_more (a ∷ b ∷ xs) (a % 32 * 64 + b % 64) 2 (sym (is_two 0 (a ∷ b ∷ xs) a refl b refl lo hi _ (record { second = s.1; number = refl })))
    (rest r a b xs (omega arith) (omega arith) hi s.0 j.1)

three_octets : (q r a : ℕ) (xs : List ℕ) → 0xE0 ≤ a → a < 0xF0 → Joined q r a xs → Rest (suc (length xs)) → damage (a ∷ xs) ≡ None
three_octets q r a [] lo hi j rest = absurd (omega (arith, j.2))
three_octets q r a (b ∷ []) lo hi j rest = absurd (omega (arith, j.1.1))
three_octets q r a (b ∷ c ∷ xs) lo hi j rest =
    let second = joins_is q r a b j.0 in
    let s = asked_by second (by_last q r a (omega arith)) in
    let t = asked_by (joins_is r a b c j.1.0) (by_second r a b lo) in
    one_more (a ∷ b ∷ c ∷ xs) (a % 16 * 4096 + b % 64 * 64 + c % 64) 3
    (sym (is_three 0 (a ∷ b ∷ c ∷ xs) a refl b refl c refl lo hi _
    (record {
      second = s.1;
      third = t.1;
      number = refl;
      long = long (eqb a 0xE0) refl second s.1;
      is_scalar = record { most = omega arith; no_surrogate = λ l h. surrogate second s.1 l h };
    })))
    (rest a b c xs (omega arith) hi (omega (arith, s.0)) t.0 j.1.1)
  where
    long : (u : Bool) → eqb a 0xE0 ≡ u → Joins q r a b → b / 64 ≡ 2 → 0x800 ≤ a % 16 * 4096 + b % 64 * 64 + c % 64
    long true e k h = omega (arith, eqb-true a 0xE0 e, k.behind_e0 (eqb-true a 0xE0 e))
    long false e k h = let n : 0xE1 ≤ a = let d = eqb-false a 0xE0 e in omega (arith, d) in omega arith

    surrogate : Joins q r a b → b / 64 ≡ 2 → 0xD800 ≤ a % 16 * 4096 + b % 64 * 64 + c % 64 → a % 16 * 4096 + b % 64 * 64 + c % 64 ≤ 0xDFFF → ⊥
    surrogate k h l m = let e : a ≡ 0xED = omega arith in omega (arith, k.behind_ed e)

four_octets : (q r a : ℕ) (xs : List ℕ) → 0xF0 ≤ a → a ≤ 0xF4 → Joined q r a xs → Rest (suc (length xs)) → damage (a ∷ xs) ≡ None
four_octets q r a [] lo hi j rest = absurd (omega (arith, j.2))
four_octets q r a (b ∷ []) lo hi j rest = absurd (omega (arith, j.1.1))
four_octets q r a (b ∷ c ∷ []) lo hi j rest = absurd (omega (arith, j.1.1.0))
four_octets q r a (b ∷ c ∷ d ∷ xs) lo hi j rest =
    let second = joins_is q r a b j.0 in
    let s = asked_by second (by_last q r a (omega arith)) in
    let t = asked_by (joins_is r a b c j.1.0) (by_second r a b (omega arith)) in
    let u = asked_by (joins_is a b c d j.1.1.0) (by_third a b c lo) in
    one_more (a ∷ b ∷ c ∷ d ∷ xs) (a % 8 * 262144 + b % 64 * 4096 + c % 64 * 64 + d % 64) 4
    (sym (is_four 0 (a ∷ b ∷ c ∷ d ∷ xs) a refl b refl c refl d refl lo _
    (record {
      lead = hi;
      second = s.1;
      third = t.1;
      fourth = u.1;
      number = refl;
      long = long (eqb a 0xF0) refl second s.1;
      most = most (eqb a 0xF4) refl second s.1;
    })))
    (rest b c d xs (omega arith) (omega (arith, s.0)) (omega (arith, t.0)) u.0 j.1.1.1)
  where
    long : (u : Bool) → eqb a 0xF0 ≡ u → Joins q r a b → b / 64 ≡ 2 → 0x10000 ≤ a % 8 * 262144 + b % 64 * 4096 + c % 64 * 64 + d % 64
    long true e k h = omega (arith, eqb-true a 0xF0 e, k.behind_f0 (eqb-true a 0xF0 e))
    long false e k h = let n : 0xF1 ≤ a = let d = eqb-false a 0xF0 e in omega (arith, d) in omega arith

    most : (u : Bool) → eqb a 0xF4 ≡ u → Joins q r a b → b / 64 ≡ 2 → a % 8 * 262144 + b % 64 * 4096 + c % 64 * 64 + d % 64 ≤ 0x10FFFF
    most true e k h = omega (arith, eqb-true a 0xF4 e, k.behind_f4 (eqb-true a 0xF4 e))
    most false e k h = let n : a ≤ 0xF3 = let d = eqb-false a 0xF4 e in omega (arith, d) in omega arith

-- a character, whichever it is, before what is left
next : (p q r a : ℕ) (xs : List ℕ) → p < 0xF0 → q < 0xE0 → r < 0xC0 → Joined p q r (a ∷ xs) → Rest (suc (length xs)) → damage (a ∷ xs) ≡ None
next p q r a xs hp hq hr j rest = pick (ltb a 0x80) (ltb a 0xE0) (ltb a 0xF0) refl refl refl
  where
    here : Joins p q r a
    here = joins_is p q r a j.0

    least : 0x80 ≤ a → 0xC2 ≤ a
    least h = omega (arith, here.not_c0, here.not_c1, fresh here hp hq hr)

    pick : (t u v : Bool) → ltb a 0x80 ≡ t → ltb a 0xE0 ≡ u → ltb a 0xF0 ≡ v → damage (a ∷ xs) ≡ None
    pick true u v e f g = let h = ltb-true a 0x80 e in one_octet a xs h (rest q r a xs (omega arith) (omega arith) (omega arith) (omega arith) j.1)
    pick false true v e f g = two_octets q r a xs (least (ltb-false a 0x80 e)) (ltb-true a 0xE0 f) hr j.1 rest
    pick false false true e f g = three_octets q r a xs (ltb-false a 0xE0 f) (ltb-true a 0xF0 g) j.1 rest
    pick false false false e f g = four_octets q r a xs (ltb-false a 0xF0 g) here.most j.1 rest

step : (n : ℕ) → Rest n → Rest (suc n)
step n rest p q r [] l hp hq hr j = sym (later_zero (damage [])) ∙ damage_past [] 0 (omega arith)
step n rest p q r (a ∷ xs) l hp hq hr j = next p q r a xs hp hq hr j (λ p' q' r' ys m. rest p' q' r' ys (omega arith))

whole : (n : ℕ) → Rest n
whole zero = λ p q r xs l. absurd (omega arith)
whole (suc n) = step n (whole n)

pub joined_whole : (xs : List ℕ) → Joined 0 0 0 xs → damage xs ≡ None
joined_whole xs j = whole (suc (length xs)) 0 0 0 xs (omega arith) (omega arith) (omega arith) (omega arith) j

-- ---- as the code looks at a text, from the front

pub joined_begin : (s : List ℕ) → 3 ≤ length s
    → (joins 0 0 0 (get_or s 0 0) && joins 0 0 (get_or s 0 0) (get_or s 1 0) && joins 0 (get_or s 0 0) (get_or s 1 0) (get_or s 2 0)) ≡ true → JoinedFrom s 3 → Joined 0 0 0 s
joined_begin [] h e j = absurd (omega arith)
joined_begin (a ∷ []) h e j = absurd (omega arith)
joined_begin (a ∷ b ∷ []) h e j = absurd (omega arith)
joined_begin (a ∷ b ∷ c ∷ xs) h e j =
    let u = (and-eq-true_iff _ (joins 0 a b c)).0 e in
    let v = (and-eq-true_iff (joins 0 0 0 a) (joins 0 0 a b)).0 u.0 in
    (v.0, (v.1, (u.1, j)))

pub joined_more : (s : List ℕ) (i : ℕ) → 3 ≤ i → i < length s → joins_at s i ≡ true → JoinedFrom s (i + 1) → JoinedFrom s i
joined_more s i h k e j =
    let x : i + 1 - 3 ≡ i - 2 = omega arith in
    let y : i + 1 - 2 ≡ i - 1 = omega arith in
    let z : i + 1 - 1 ≡ i = omega arith in
    rw (drop_here 0 s i k) (e, rw (x, y, z) at j)

-- where each octet from a place on joins, and none is missing at the end
pub joined_each : (s : List ℕ) (n i : ℕ) → i + n ≡ length s → 3 ≤ i → EachJoins s i (length s) → JoinedFrom s (length s) → JoinedFrom s i
joined_each s zero i e h all j = let q : length s ≡ i = omega arith in rw q at j
joined_each s (suc n) i e h all j =
    joined_more s i h (omega arith) (all.each i (omega arith) (omega arith))
    (joined_each s n (i + 1) (omega arith) (omega arith) (record { each = λ k a b. all.each k (omega arith) b }) j)

pub joined_by : (s : List ℕ) → 3 ≤ length s
    → (joins 0 0 0 (get_or s 0 0) && joins 0 0 (get_or s 0 0) (get_or s 1 0) && joins 0 (get_or s 0 0) (get_or s 1 0) (get_or s 2 0)) ≡ true → EachJoins s 3 (length s)
    → JoinedFrom s (length s) → Joined 0 0 0 s
joined_by s h e all j = joined_begin s h e (joined_each s (length s - 3) 3 (omega arith) (omega arith) all j)

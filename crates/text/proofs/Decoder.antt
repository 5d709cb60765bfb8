-- RFC 3629: the decoder finds a character exactly where that character's octets begin the list.
use mathlib.Core.Path.{◌≡◌, refl, ap}
use mathlib.Core.Bool.{Bool, true, false, cond, ◌&&◌, not}
use mathlib.Core.List.{List, [], ◌∷◌, ◌++◌}
use Prim.Native.Nat.{ℕ, ◌+◌, ◌*◌, ◌/◌, ◌%◌, ◌≤◌, ◌<◌}
use native.Mathlib.Omega.{arith}
use lib.Dec.{T, ltb, leb}
use lib.ListN.{length, get_or, drop, length-append}
use borrow.Author.Tests.{ltb-true, ltb-false, leb-true, leb-false, lt-ltb, le-ltb, le-leb}
use Rattle.lists.proofs.Runs.{begins_append, begins_front}
use Rattle.lists.specs.Runs.{begins}
use Rattle.text.specs.Rfc3629.{scalar, encode, StandsFirst, front, nothing, spelled, decode}

-- the row of section 3's table that a number is in, and its octets
pub data Row (c : ℕ) : Type 0 where
  row1 : c < 0x80 → encode c ≡ c ∷ [] → Row c
  row2 : 0x80 ≤ c → c < 0x800 → encode c ≡ (0xC0 + c / 64) ∷ (0x80 + c % 64) ∷ [] → Row c
  row3 : 0x800 ≤ c → c < 0x10000 → encode c ≡ (0xE0 + c / 4096) ∷ (0x80 + c / 64 % 64) ∷ (0x80 + c % 64) ∷ [] → Row c
  row4 : 0x10000 ≤ c → encode c ≡ (0xF0 + c / 262144) ∷ (0x80 + c / 4096 % 64) ∷ (0x80 + c / 64 % 64) ∷ (0x80 + c % 64) ∷ [] → Row c

pub row : (c : ℕ) → Row c
unfolding encode
row c = pick (ltb c 0x80) (ltb c 0x800) (ltb c 0x10000) refl refl refl
  where
    pick : (t u v : Bool) → ltb c 0x80 ≡ t → ltb c 0x800 ≡ u → ltb c 0x10000 ≡ v → Row c
    pick true u v a b d = row1 (ltb-true _ _ a) (rw a)
    pick false true v a b d = row2 (ltb-false _ _ a) (ltb-true _ _ b) (rw (a, b))
    pick false false true a b d = row3 (ltb-false _ _ b) (ltb-true _ _ d) (rw (a, b, d))
    pick false false false a b d = row4 (ltb-false _ _ d) (rw (a, b, d))

-- a character has one to four octets
pub some_octets : (c : ℕ) → (1 ≤ length (encode c)) × (length (encode c) ≤ 4)
some_octets c = pick (row c)
  where
    pick : Row c → (1 ≤ length (encode c)) × (length (encode c) ≤ 4)
    pick (row1 h e) = rw e (omega arith)
    pick (row2 h k e) = rw e (omega arith)
    pick (row3 h k e) = rw e (omega arith)
    pick (row4 h e) = rw e (omega arith)

-- from U+0800 on three at least
pub three_octets : (c : ℕ) → 0x800 ≤ c → 3 ≤ length (encode c)
three_octets c least = pick (row c)
  where
    pick : Row c → 3 ≤ length (encode c)
    pick (row1 h e) = absurd (omega arith)
    pick (row2 h k e) = absurd (omega arith)
    pick (row3 h k e) = rw e (omega arith)
    pick (row4 h e) = rw e (omega arith)

-- a character number in plain terms
pub record Scalar (c : ℕ) : Type 0 where
  pub most : c ≤ 0x10FFFF
  pub no_surrogate : 0xD800 ≤ c → c ≤ 0xDFFF → ⊥

pub scalar_plain : (c : ℕ) → T (scalar c) → Scalar c
unfolding scalar
scalar_plain c h = pick (leb c 0x10FFFF) (leb 0xD800 c) (leb c 0xDFFF) refl refl refl h
  where
    pick : (t u v : Bool) → leb c 0x10FFFF ≡ t → leb 0xD800 c ≡ u → leb c 0xDFFF ≡ v → T (t && not (u && v)) → Scalar c
    pick false u v a b d w = absurd w
    pick true true true a b d w = absurd w
    pick true false v a b d w = record { most = leb-true _ _ a; no_surrogate = λ l k. omega (arith, leb-false 0xD800 c b) }
    pick true true false a b d w = record { most = leb-true _ _ a; no_surrogate = λ l k. omega (arith, leb-false c 0xDFFF d) }

pub scalar_true : (c : ℕ) → Scalar c → scalar c ≡ true
unfolding scalar
scalar_true c s = pick (leb 0xD800 c) (leb c 0xDFFF) refl refl
  where
    pick : (u v : Bool) → leb 0xD800 c ≡ u → leb c 0xDFFF ≡ v → scalar c ≡ true
    pick true true a b = absurd (s.no_surrogate (leb-true _ _ a) (leb-true _ _ b))
    pick true false a b = rw (le-leb c 0x10FFFF s.most, a, b)
    pick false v a b = rw (le-leb c 0x10FFFF s.most, a)

-- what the decoder finds stands there
pub record Decoded (xs : List ℕ) (c n : ℕ) : Type 0 where
  pub stands : StandsFirst c xs (drop n xs)
  pub count : n ≡ length (encode c)
  pub some : 1 ≤ n
  pub few : n ≤ 4
  pub within : n ≤ length xs

pub sound : (xs : List ℕ) (c n : ℕ) → decode xs ≡ front c n → Decoded xs c n
unfolding decode
sound [] c n h = absurd (let z : ◌≡◌ {A = ℕ} 0 1 = cc in omega arith)
sound (a ∷ xs) c n h = pick (scalar (spelled a xs)) (begins (encode (spelled a xs)) (a ∷ xs)) refl refl h
  where
    known : spelled a xs ≡ c → length (encode (spelled a xs)) ≡ n → scalar (spelled a xs) ≡ true → begins (encode (spelled a xs)) (a ∷ xs) ≡ true → Decoded (a ∷ xs) c n
    known e l s b =
        let f : a ∷ xs ≡ encode c ++ drop (length (encode c)) (a ∷ xs) = rw e at (begins_front (encode (spelled a xs)) (a ∷ xs) b) in
        let k : n ≡ length (encode c) = cc in
        let m = length-append (encode c) (drop (length (encode c)) (a ∷ xs)) in
        record {
          stands = record { is_scalar = rw (← e, s) tt; octets = rw k f };
          count = k;
          some = rw k (some_octets c).0;
          few = rw k (some_octets c).1;
          within = omega (arith, ap length f);
        }

    pick : (t u : Bool) → scalar (spelled a xs) ≡ t → begins (encode (spelled a xs)) (a ∷ xs) ≡ u → cond (t && u) (front (spelled a xs) (length (encode (spelled a xs)))) nothing ≡ front c n → Decoded (a ∷ xs) c n
    pick true true s b e = known (cc) (cc) s b
    pick true false s b e = absurd (let z : ◌≡◌ {A = ℕ} 0 1 = cc in omega arith)
    pick false u s b e = absurd (let z : ◌≡◌ {A = ℕ} 0 1 = cc in omega arith)

-- the octets at the front of a list where a character stands, row by row
pub data Octets (c : ℕ) (xs : List ℕ) : Type 0 where
  one : c < 0x80 → get_or xs 0 0 ≡ c → Octets c xs
  two : 0x80 ≤ c → c < 0x800 → get_or xs 0 0 ≡ 0xC0 + c / 64 → get_or xs 1 0 ≡ 0x80 + c % 64 → Octets c xs
  three : 0x800 ≤ c → c < 0x10000 → get_or xs 0 0 ≡ 0xE0 + c / 4096 → get_or xs 1 0 ≡ 0x80 + c / 64 % 64 → get_or xs 2 0 ≡ 0x80 + c % 64 → Octets c xs
  four : 0x10000 ≤ c → c ≤ 0x10FFFF → get_or xs 0 0 ≡ 0xF0 + c / 262144 → get_or xs 1 0 ≡ 0x80 + c / 4096 % 64 → get_or xs 2 0 ≡ 0x80 + c / 64 % 64 → get_or xs 3 0 ≡ 0x80 + c % 64 → Octets c xs

pub octets_of : (c : ℕ) (xs rest : List ℕ) → StandsFirst c xs rest → Octets c xs
octets_of c xs rest s = pick (row c)
  where
    pick : Row c → Octets c xs
    pick (row1 h e) = let o = rw e at s.octets in one h (rw o)
    pick (row2 h k e) = let o = rw e at s.octets in two h k (rw o) (rw o)
    pick (row3 h k e) = let o = rw e at s.octets in three h k (rw o) (rw o) (rw o)
    pick (row4 h e) = let o = rw e at s.octets in four h (scalar_plain c s.is_scalar).most (rw o) (rw o) (rw o) (rw o)

-- a number of four octets from their free bits, which are its digits of six bits
digits : (c : ℕ) → c / 262144 * 262144 + c / 4096 % 64 * 4096 + c / 64 % 64 * 64 + c % 64 ≡ c
digits c =
    let e : c / 64 / 64 ≡ c / 4096 = omega arith in
    let f : c / 4096 / 64 ≡ c / 262144 = omega arith in
    omega arith

six : (x m : ℕ) → x ≡ 0x80 + m % 64 → x % 64 ≡ m % 64
six x m h = omega arith

pub number_four : (c p q r s : ℕ) → c ≤ 0x10FFFF → p ≡ 0xF0 + c / 262144 → q ≡ 0x80 + c / 4096 % 64 → r ≡ 0x80 + c / 64 % 64 → s ≡ 0x80 + c % 64
    → p % 8 * 262144 + q % 64 * 4096 + r % 64 * 64 + s % 64 ≡ c
number_four c p q r s h e f g k =
    let l : p % 8 ≡ c / 262144 = omega arith in
    rw (l, six q (c / 4096) f, six r (c / 64) g, six s c k) (digits c)

-- the octets of a character spell it
spelled_back : (c a : ℕ) (xs : List ℕ) → Octets c (a ∷ xs) → spelled a xs ≡ c
unfolding spelled
spelled_back c a xs (one h e) = rw (lt-ltb a 0x80 (omega arith)) e
spelled_back c a xs (two h k e f) = rw (le-ltb a 0x80 (omega arith), lt-ltb a 0xE0 (omega arith)) (omega arith)
spelled_back c a xs (three h k e f g) = rw (le-ltb a 0x80 (omega arith), le-ltb a 0xE0 (omega arith), lt-ltb a 0xF0 (omega arith)) (omega arith)
spelled_back c a xs (four h k e f g o) = rw (le-ltb a 0x80 (omega arith), le-ltb a 0xE0 (omega arith), le-ltb a 0xF0 (omega arith)) (number_four c _ _ _ _ k e f g o)

-- every character that stands there is found
decode_as : (c a : ℕ) (xs : List ℕ) → spelled a xs ≡ c → scalar c ≡ true → begins (encode c) (a ∷ xs) ≡ true → decode (a ∷ xs) ≡ front c (length (encode c))
unfolding decode
decode_as c a xs e s b = rw (e, s, b)

pub complete : (c : ℕ) (xs rest : List ℕ) → StandsFirst c xs rest → decode xs ≡ front c (length (encode c))
complete c [] rest s = absurd (omega (arith, some_octets c, simp length-append at (ap length s.octets)))
complete c (a ∷ xs) rest s =
    decode_as c a xs (spelled_back c a xs (octets_of c (a ∷ xs) rest s)) (scalar_true c (scalar_plain c s.is_scalar)) (rw s.octets (begins_append (encode c) rest))

-- Eight bytes as one number: how many of the first are at least so much, counted by the zeros below the first high bit that a sum leaves
-- clear.
use mathlib.Core.Path.{◌≡◌, refl, ap, ap₂, ◌∙◌}
use mathlib.Core.Bool.{Bool, true, false}
use mathlib.Core.List.{List, [], ◌∷◌}
use Prim.Native.Nat.{ℕ, zero, suc, ◌+◌, ◌-◌, ◌*◌, ◌/◌, ◌%◌, ◌^◌, ◌≤◌, ◌<◌}
use native.Mathlib.Omega.{arith}
use borrow.Author.Tests.{leb-true, leb-false}
use lib.Dec.{leb}
use lib.ListN.{get_or, length}
use lib.Bits.{bit_and, and_block, and_le_l, and_le_r, and_zero_r}
use lib.Count.{under, count_trailing_zeros, trailing_le}
use Rattle.text.specs.Cited.Eights.{as_number, eight_at}

-- ---- the high bit of a digit

-- a number's digits are bytes: `and` goes digit by digit
and_digit : (b x m : ℕ) → b < 256 → bit_and (b + 256 * x) (128 + 256 * m) ≡ bit_and b 128 + 256 * bit_and x m
and_digit b x m h =
    let e : b + 256 * x ≡ x * 2 ^ 8 + b = omega arith in
    let f : 128 + 256 * m ≡ m * 2 ^ 8 + 128 = omega arith in
    ap₂ bit_and e f ∙ and_block 8 x m b 128 h (omega arith) ∙ (let g : bit_and x m * 2 ^ 8 + bit_and b 128 ≡ bit_and b 128 + 256 * bit_and x m = omega arith in g)

high_set : (r : ℕ) → r < 128 → bit_and (1 * 2 ^ 7 + r) (1 * 2 ^ 7 + 0) ≡ 128
high_set r h = and_block 7 1 1 r 0 h (omega arith) ∙ (let z = and_zero_r r in let g : 1 * 2 ^ 7 + bit_and r 0 ≡ 128 = omega arith in g)

high_clear : (b : ℕ) → b < 256 → bit_and b 128 ≡ 0 → b < 128
high_clear b h e = pick (leb 128 b) refl
  where
    pick : (t : Bool) → leb 128 b ≡ t → b < 128
    pick false k = leb-false 128 b k
    pick true k =
        let l = leb-true 128 b k in
        let q : b ≡ 1 * 2 ^ 7 + (b - 128) = omega arith in
        let s : bit_and b 128 ≡ 128 = ap (λ (n : ℕ). bit_and n 128) q ∙ high_set (b - 128) (omega arith) in
        absurd (omega arith)

-- ---- all digits

abbrev AllBelow : ℕ → List ℕ → Type 0
AllBelow m [] = Unit {0}
AllBelow m (b ∷ bs) = (b < m) × AllBelow m bs

-- as many digits, each the same
abbrev pub same : ℕ → List ℕ → List ℕ
same v [] = []
same v (b ∷ bs) = v ∷ same v bs

all_ascii : (bs : List ℕ) → AllBelow 256 bs → bit_and (as_number bs) (as_number (same 128 bs)) ≡ 0 → AllBelow 128 bs
unfolding as_number
all_ascii [] h e = tt
all_ascii (b ∷ bs) h e =
    let d = and_digit b (as_number bs) (as_number (same 128 bs)) h.0 in
    (high_clear b h.0 (omega arith), all_ascii bs h.1 (omega arith))

-- with v added: each digit is 128 where the byte is below 128 - v, and else 0
unfoldable stops : ℕ → List ℕ → ℕ
stops v bs = as_number (same 128 bs) - bit_and (as_number bs + as_number (same v bs)) (as_number (same 128 bs))

stops_digit : (v b : ℕ) (bs : List ℕ) → v ≤ 128 → b < 128 → stops v (b ∷ bs) ≡ (128 - bit_and (b + v) 128) + 256 * stops v bs
unfolding as_number stops
stops_digit v b bs g h =
    let x = as_number bs in
    let a = as_number (same v bs) in
    let m = as_number (same 128 bs) in
    let e : (b + 256 * x) + (v + 256 * a) ≡ (b + v) + 256 * (x + a) = omega arith in
    let d : bit_and ((b + 256 * x) + (v + 256 * a)) (128 + 256 * m) ≡ bit_and (b + v) 128 + 256 * bit_and (x + a) m = ap (λ (n : ℕ). bit_and n (128 + 256 * m)) e ∙ and_digit (b + v) (x + a) m (omega arith) in
    let k = and_le_r (b + v) 128 in
    let l = and_le_r (x + a) m in
    omega arith

-- ---- the zeros below the first digit that is set

tz_one : (k n m : ℕ) → suc m ≤ count_trailing_zeros (suc k) n → (n % 2 ≡ 0) × (m ≤ count_trailing_zeros k (n / 2))
unfolding count_trailing_zeros
tz_one k n m h = pick (n % 2) refl h
  where
    pick : (d : ℕ) → n % 2 ≡ d → suc m ≤ under d (count_trailing_zeros k (n / 2)) → (n % 2 ≡ 0) × (m ≤ count_trailing_zeros k (n / 2))
    pick zero e l = (e, omega arith)
    pick (suc d) e l = absurd (omega arith)

tz_byte : (k n m : ℕ) → 8 + m ≤ count_trailing_zeros (suc (suc (suc (suc (suc (suc (suc (suc k)))))))) n → (n % 256 ≡ 0) × (m ≤ count_trailing_zeros k (n / 256))
tz_byte k n m h =
    let a = tz_one (suc (suc (suc (suc (suc (suc (suc k))))))) n (7 + m) (omega arith) in
    let b = tz_one (suc (suc (suc (suc (suc (suc k)))))) (n / 2) (6 + m) (omega (arith, a.1)) in
    let c = tz_one (suc (suc (suc (suc (suc k))))) (n / 2 / 2) (5 + m) (omega (arith, b.1)) in
    let d = tz_one (suc (suc (suc (suc k)))) (n / 2 / 2 / 2) (4 + m) (omega (arith, c.1)) in
    let e = tz_one (suc (suc (suc k))) (n / 2 / 2 / 2 / 2) (3 + m) (omega (arith, d.1)) in
    let f = tz_one (suc (suc k)) (n / 2 / 2 / 2 / 2 / 2) (2 + m) (omega (arith, e.1)) in
    let g = tz_one (suc k) (n / 2 / 2 / 2 / 2 / 2 / 2) (1 + m) (omega (arith, f.1)) in
    let i = tz_one k (n / 2 / 2 / 2 / 2 / 2 / 2 / 2) m (omega (arith, g.1)) in
    let q : n / 2 / 2 / 2 / 2 / 2 / 2 / 2 / 2 ≡ n / 256 = omega arith in
    (omega (arith, a.0, b.0, c.0, d.0, e.0, f.0, g.0, i.0), rw q at i.1)

abbrev bits : List ℕ → ℕ
bits [] = 0
bits (b ∷ bs) = suc (suc (suc (suc (suc (suc (suc (suc (bits bs))))))))

all_least : (v : ℕ) (bs : List ℕ) → v ≤ 128 → AllBelow 128 bs → (k : ℕ) → k < length bs → 8 * k + 8 ≤ count_trailing_zeros (bits bs) (stops v bs) → 128 ≤ get_or bs k 0 + v
all_least v [] g h k l t = absurd (omega arith)
all_least v (b ∷ bs) g h zero l t =
    let p = tz_byte (bits bs) (stops v (b ∷ bs)) 0 (omega arith) in
    let d = stops_digit v b bs g h.0 in
    let u = and_le_r (b + v) 128 in
    let w = and_le_l (b + v) 128 in
    omega (arith, p.0)
all_least v (b ∷ bs) g h (suc k) l t =
    let p = tz_byte (bits bs) (stops v (b ∷ bs)) (8 * k + 8) (omega arith) in
    let d = stops_digit v b bs g h.0 in
    let u = and_le_r (b + v) 128 in
    let q : stops v (b ∷ bs) / 256 ≡ stops v bs = omega (arith, p.0) in
    all_least v bs g h.1 k (omega arith) (rw q at p.1)

-- ---- the eight bytes at a place

-- a digit, as one of the list's and as a byte of the text
below_get : (m : ℕ) (bs : List ℕ) → AllBelow m bs → (k : ℕ) → k < length bs → get_or bs k 0 < m
below_get m [] h k l = absurd (omega arith)
below_get m (b ∷ bs) h zero l = h.0
below_get m (b ∷ bs) h (suc k) l = below_get m bs h.1 k (omega arith)

eight_get : (s : List ℕ) (i k : ℕ) → k < 8 → get_or (eight_at s i) k 0 ≡ get_or s (i + k) 0
eight_get s i zero l = ap (λ (n : ℕ). get_or s n 0) (let e : i ≡ i + 0 = omega arith in e)
eight_get s i (suc zero) l = refl
eight_get s i (suc (suc zero)) l = refl
eight_get s i (suc (suc (suc zero))) l = refl
eight_get s i (suc (suc (suc (suc zero)))) l = refl
eight_get s i (suc (suc (suc (suc (suc zero))))) l = refl
eight_get s i (suc (suc (suc (suc (suc (suc zero)))))) l = refl
eight_get s i (suc (suc (suc (suc (suc (suc (suc zero))))))) l = refl
eight_get s i (suc (suc (suc (suc (suc (suc (suc (suc k)))))))) l = absurd (omega arith)

-- as the code counts: what the sum with a number y leaves clear of the high bits
abbrev pub clear_of : ℕ → ℕ → ℕ
clear_of y x = 0x8080808080808080 - bit_and (x + y) 0x8080808080808080

pub zeros_few : (y : ℕ) → count_trailing_zeros 64 y / 8 ≤ 8
zeros_few y = let h = trailing_le 64 y in omega arith

module _ (s : List ℕ) (i : ℕ) (small : (k : ℕ) → get_or s k 0 < 256) (x : ℕ) (is : x ≡ as_number (eight_at s i)) (clear : bit_and x 0x8080808080808080 ≡ 0) where
  ascii : AllBelow 128 (eight_at s i)
  unfolding as_number
  ascii =
      all_ascii (eight_at s i) (small i, (small (i + 1), (small (i + 2), (small (i + 3), (small (i + 4), (small (i + 5), (small (i + 6), (small (i + 7), tt))))))))
      (rw is at clear)

  -- y has the same digit v eight times
  module _ (v y : ℕ) (few : v ≤ 128) (each : y ≡ as_number (same v (eight_at s i))) where
    pub sum_fits : x + y < 18446744073709551616
    unfolding as_number
    sum_fits =
        let a = ascii in
        omega (arith, is, each, a.0, a.1.0, a.1.1.0, a.1.1.1.0, a.1.1.1.1.0, a.1.1.1.1.1.0, a.1.1.1.1.1.1.0, a.1.1.1.1.1.1.1.0)

    abbrev zeros : ℕ
    zeros = count_trailing_zeros 64 (clear_of y x)

    zeros_is : zeros ≡ count_trailing_zeros (bits (eight_at s i)) (stops v (eight_at s i))
    unfolding as_number stops
    zeros_is = rw (is, each)

    -- each of the bytes that are counted
    pub counted : (k : ℕ) → i ≤ k → k < i + zeros / 8 → (128 ≤ get_or s k 0 + v) × (get_or s k 0 < 128)
    counted k a b =
        let f = zeros_few (clear_of y x) in
        let h : k - i < 8 = omega arith in
        let e : i + (k - i) ≡ k = omega arith in
        let d : get_or (eight_at s i) (k - i) 0 ≡ get_or s k 0 = eight_get s i (k - i) h ∙ ap (λ (n : ℕ). get_or s n 0) e in (
          rw d at (all_least v (eight_at s i) few ascii (k - i) h (rw (← zeros_is) (omega arith))),
          rw d at (below_get 128 (eight_at s i) ascii (k - i) h),
        )

-- The forms of RFC 3629 as the code tests them: the octets a, b, c, d at the front of a list, 0 where it ends, and the number k.
use Rattle.std.proofs.Common.{Option, None}
use mathlib.Core.Path.{◌≡◌, refl, sym, ap, ◌∙◌}
use mathlib.Core.Bool.{Bool, true, false}
use lib.Dec.{ltb}
use mathlib.Core.List.{List, [], ◌∷◌, ◌++◌}
use Prim.Native.Nat.{ℕ, ◌+◌, ◌-◌, ◌*◌, ◌/◌, ◌%◌, ◌≤◌, ◌<◌}
use native.Mathlib.Omega.{arith}
use lib.ListN.{length, get_or, take, drop, length-drop, get_or-eq_default}
use lib.Seq.{take_all}
use borrow.Author.Tests.{ltb-true, ltb-false, lt-ltb, le-ltb}
use Rattle.lists.proofs.Views.{drop_here, drop_none}
use Rattle.text.specs.Rfc3629.{encode, Front, front, nothing, decode}
use Rattle.text.specs.Cited.Places.{read_as, good}
use Rattle.text.specs.declared.Char.{Char}
use Rattle.text.proofs.Decoder.{Octets, one, two, three, four, octets_of, number_four, Scalar, scalar_plain, scalar_true, sound, complete}

pub record Two (k a b : ℕ) : Type 0 where
  pub second : b / 64 ≡ 2
  pub number : k ≡ a % 32 * 64 + b % 64

pub record Three (k a b c : ℕ) : Type 0 where
  pub second : b / 64 ≡ 2
  pub third : c / 64 ≡ 2
  pub number : k ≡ a % 16 * 4096 + b % 64 * 64 + c % 64
  pub long : 0x800 ≤ k
  pub is_scalar : Scalar k

pub record Four (k a b c d : ℕ) : Type 0 where
  pub lead : a ≤ 0xF4
  pub second : b / 64 ≡ 2
  pub third : c / 64 ≡ 2
  pub fourth : d / 64 ≡ 2
  pub number : k ≡ a % 8 * 262144 + b % 64 * 4096 + c % 64 * 64 + d % 64
  pub long : 0x10000 ≤ k
  pub most : k ≤ 0x10FFFF

-- octets of a form are those of their number
encode_two : (k a b : ℕ) → 0xC2 ≤ a → a < 0xE0 → Two k a b → encode k ≡ a ∷ b ∷ []
unfolding encode
encode_two k a b lo hi t =
    let x : 0xC0 + k / 64 ≡ a = omega arith in
    let y : 0x80 + k % 64 ≡ b = omega arith in
    rw (le-ltb k 0x80 (omega arith), lt-ltb k 0x800 (omega arith), x, y)

encode_three : (k a b c : ℕ) → 0xE0 ≤ a → a < 0xF0 → Three k a b c → encode k ≡ a ∷ b ∷ c ∷ []
unfolding encode
encode_three k a b c lo hi t =
    let x : 0xE0 + k / 4096 ≡ a = omega arith in
    let y : 0x80 + k / 64 % 64 ≡ b = omega arith in
    let z : 0x80 + k % 64 ≡ c = omega arith in
    rw (le-ltb k 0x80 (omega arith), le-ltb k 0x800 (omega arith), lt-ltb k 0x10000 (omega arith), x, y, z)

encode_four : (k a b c d : ℕ) → 0xF0 ≤ a → Four k a b c d → encode k ≡ a ∷ b ∷ c ∷ d ∷ []
unfolding encode
encode_four k a b c d lo t =
    let x : 0xF0 + k / 262144 ≡ a = omega arith in
    let y : 0x80 + k / 4096 % 64 ≡ b = omega arith in
    let z : 0x80 + k / 64 % 64 ≡ c = omega arith in
    let w : 0x80 + k % 64 ≡ d = omega arith in
    rw (le-ltb k 0x80 (omega arith), le-ltb k 0x800 (omega arith), le-ltb k 0x10000 (omega arith), x, y, z, w)

-- a number's octets begin the list: the answer is that number
found : (k : ℕ) (p rest : List ℕ) → Scalar k → encode k ≡ p → decode (p ++ rest) ≡ front k (length p)
found k p rest s e = rw (← e) (complete k (encode k ++ rest) rest (record { is_scalar = rw (scalar_true k s) tt; octets = refl }))

pub ascii : (a : ℕ) (xs : List ℕ) → a < 0x80 → decode (a ∷ xs) ≡ front a 1
unfolding encode
ascii a xs h = found a (a ∷ []) xs (record { most = omega arith; no_surrogate = λ l k. omega arith }) (rw lt-ltb)

-- no number's octets do: the answer is none
missed : (xs : List ℕ) → ((k : ℕ) → Scalar k → Octets k xs → ⊥) → decode xs ≡ nothing
missed xs never = pick (decode xs) refl
  where
    pick : (g : Front) → decode xs ≡ g → decode xs ≡ nothing
    pick nothing e = e
    pick (front k n) e = let s = (sound xs k n e).stands in absurd (never k (scalar_plain k s.is_scalar) (octets_of k xs (drop n xs) s))

module _ (at : ℕ) (xs : List ℕ) (a : ℕ) (at0 : a ≡ get_or xs 0 0) where
  pub stray : 0x80 ≤ a → a < 0xC2 → None ≡ read_as at (decode xs)
  stray lo hi = rw (missed xs pick)
    where
      pick : (k : ℕ) → Scalar k → Octets k xs → ⊥
      pick k s (one h e) = omega arith
      pick k s (two h l e f) = omega arith
      pick k s (three h l e f g) = omega arith
      pick k s (four h l e f g m) = omega arith

  module _ (b : ℕ) (at1 : b ≡ get_or xs 1 0) where
    module _ (lo : 0xC2 ≤ a) (hi : a < 0xE0) where
      pub no_two : ((k : ℕ) → Two k a b → ⊥) → None ≡ read_as at (decode xs)
      no_two never = rw (missed xs pick)
        where
          pick : (k : ℕ) → Scalar k → Octets k xs → ⊥
          pick k s (one h e) = omega arith
          pick k s (two h l e f) = never k (omega arith)
          pick k s (three h l e f g) = omega arith
          pick k s (four h l e f g m) = omega arith

      pub is_two : (k : ℕ) → Two k a b → good k (at + 2) ≡ read_as at (decode xs)
      is_two k t = rw (pick xs at0 at1)
        where
          pick : (ys : List ℕ) → a ≡ get_or ys 0 0 → b ≡ get_or ys 1 0 → decode ys ≡ front k 2
          pick [] e f = absurd (omega arith)
          pick (x ∷ []) e f = absurd (omega arith)
          pick (x ∷ y ∷ r) e f = rw (← e, ← f) (found k (a ∷ b ∷ []) r (record { most = omega arith; no_surrogate = λ l m. omega arith }) (encode_two k a b lo hi t))

    module _ (c : ℕ) (at2 : c ≡ get_or xs 2 0) where
      module _ (lo : 0xE0 ≤ a) (hi : a < 0xF0) where
        pub no_three : ((k : ℕ) → Three k a b c → ⊥) → None ≡ read_as at (decode xs)
        no_three never = rw (missed xs pick)
          where
            pick : (k : ℕ) → Scalar k → Octets k xs → ⊥
            pick k s (one h e) = omega arith
            pick k s (two h l e f) = omega arith
            pick k s (three h l e f g) = never k (record { second = omega arith; third = omega arith; number = omega arith; long = h; is_scalar = s })
            pick k s (four h l e f g m) = omega arith

        pub is_three : (k : ℕ) → Three k a b c → good k (at + 3) ≡ read_as at (decode xs)
        is_three k t = rw (pick xs at0 at1 at2)
          where
            pick : (ys : List ℕ) → a ≡ get_or ys 0 0 → b ≡ get_or ys 1 0 → c ≡ get_or ys 2 0 → decode ys ≡ front k 3
            pick [] e f g = absurd (omega arith)
            pick (x ∷ []) e f g = absurd (omega arith)
            pick (x ∷ y ∷ []) e f g = absurd (omega arith)
            pick (x ∷ y ∷ z ∷ r) e f g = rw (← e, ← f, ← g) (found k (a ∷ b ∷ c ∷ []) r t.is_scalar (encode_three k a b c lo hi t))

      module _ (d : ℕ) (at3 : d ≡ get_or xs 3 0) (lo : 0xF0 ≤ a) where
        pub no_four : ((k : ℕ) → Four k a b c d → ⊥) → None ≡ read_as at (decode xs)
        no_four never = rw (missed xs pick)
          where
            pick : (k : ℕ) → Scalar k → Octets k xs → ⊥
            pick k s (one h e) = omega arith
            pick k s (two h l e f) = omega arith
            pick k s (three h l e f g) = omega arith
            pick k s (four h l e f g m) =
                let number = sym (number_four k a b c d l (at0 ∙ e) (at1 ∙ f) (at2 ∙ g) (at3 ∙ m)) in
                never k (record { lead = omega arith; second = omega arith; third = omega arith; fourth = omega arith; number = number; long = h; most = l })

        pub is_four : (k : ℕ) → Four k a b c d → good k (at + 4) ≡ read_as at (decode xs)
        is_four k t = rw (pick xs at0 at1 at2 at3)
          where
            pick : (ys : List ℕ) → a ≡ get_or ys 0 0 → b ≡ get_or ys 1 0 → c ≡ get_or ys 2 0 → d ≡ get_or ys 3 0 → decode ys ≡ front k 4
            pick [] e f g m = absurd (omega arith)
            pick (x ∷ []) e f g m = absurd (omega arith)
            pick (x ∷ y ∷ []) e f g m = absurd (omega arith)
            pick (x ∷ y ∷ z ∷ []) e f g m = absurd (omega arith)
            pick (x ∷ y ∷ z ∷ w ∷ r) e f g m = rw (← e, ← f, ← g, ← m) (found k (a ∷ b ∷ c ∷ d ∷ []) r (record { most = t.most; no_surrogate = λ l n. omega arith }) (encode_four k a b c d lo t))

-- an octet that is not 0 is there
pub within : (xs : List ℕ) (n : ℕ) → 0 < get_or xs n 0 → n < length xs
within xs n h = go (ltb n (length xs)) refl
  where
    go : (t : Bool) → ltb n (length xs) ≡ t → n < length xs
    go true e = ltb-true n (length xs) e
    go false e = absurd (omega (arith, get_or-eq_default xs 0 (ltb-false n (length xs) e)))

-- the octets of a text from a place on, as the code takes them
abbrev pub rest : List ℕ → ℕ → List ℕ
rest s at = take (length s - at) (drop at s)

-- a place of a text: the octets there, and after it
module _ (s : List ℕ) (at : ℕ) where
  pub rest_is : rest s at ≡ drop at s
  rest_is = take_all (length s - at) (drop at s) (omega (arith, length-drop at s))

  pub past : length s ≤ at → None ≡ read_as at (decode (drop at s))
  unfolding decode
  past h = rw (drop_none 0 s at h)

  module _ (more : at < length s) where
    pub lead : get_or s at 0 ≡ get_or (drop at s) 0 0
    lead = rw (drop_here 0 s at more)

    pub stray_at : 0x80 ≤ get_or s at 0 → get_or s at 0 < 0xC2 → None ≡ read_as at (decode (drop at s))
    stray_at lo hi = stray at (drop at s) _ lead lo hi

    pub ascii_at : get_or s at 0 < 0x80 → good (get_or s at 0) (at + 1) ≡ read_as at (decode (drop at s))
    ascii_at h = rw (drop_here 0 s at more, ascii (get_or s at 0) (drop (at + 1) s) h)

    -- where an octet begins two, three or four: the tests of those that are to continue it
    pub lead_is : get_or s at 0 ≡ get_or (rest s at) 0 0
    lead_is = lead ∙ ap (λ (l : List ℕ). get_or l 0 0) (sym rest_is)

    read_is : {r : Option Char} → r ≡ read_as at (decode (rest s at)) → r ≡ read_as at (decode (drop at s))
    read_is e = e ∙ ap (λ (l : List ℕ). read_as at (decode l)) rest_is

    module _ (lo : 0xC2 ≤ get_or s at 0) (hi : get_or s at 0 < 0xE0) where
      pub two_here : (k : ℕ) → Two k (get_or (rest s at) 0 0) (get_or (rest s at) 1 0) → good k (at + 2) ≡ read_as at (decode (drop at s))
      two_here k t = let l = lead_is in read_is (is_two at (rest s at) _ refl _ refl (omega arith) (omega arith) k t)

      pub two_none : ((k : ℕ) → 2 ≤ length (rest s at) → Two k (get_or (rest s at) 0 0) (get_or (rest s at) 1 0) → ⊥) → None ≡ read_as at (decode (drop at s))
      two_none never =
          let l = lead_is in
          read_is (no_two at (rest s at) _ refl _ refl (omega arith) (omega arith) (λ k t. never k (within (rest s at) 1 (omega (arith, t.second))) t))

    module _ (lo : 0xE0 ≤ get_or s at 0) (hi : get_or s at 0 < 0xF0) where
      pub three_here : (k : ℕ) → Three k (get_or (rest s at) 0 0) (get_or (rest s at) 1 0) (get_or (rest s at) 2 0) → good k (at + 3) ≡ read_as at (decode (drop at s))
      three_here k t = let l = lead_is in read_is (is_three at (rest s at) _ refl _ refl _ refl (omega arith) (omega arith) k t)

      pub three_none : ((k : ℕ) → 3 ≤ length (rest s at) → Three k (get_or (rest s at) 0 0) (get_or (rest s at) 1 0) (get_or (rest s at) 2 0) → ⊥) → None ≡ read_as at (decode (drop at s))
      three_none never =
          let l = lead_is in
          read_is (no_three at (rest s at) _ refl _ refl _ refl (omega arith) (omega arith) (λ k t. never k (within (rest s at) 2 (omega (arith, t.third))) t))

    module _ (lo : 0xF0 ≤ get_or s at 0) where
      pub four_here : (k : ℕ) → Four k (get_or (rest s at) 0 0) (get_or (rest s at) 1 0) (get_or (rest s at) 2 0) (get_or (rest s at) 3 0) → good k (at + 4) ≡ read_as at (decode (drop at s))
      four_here k t = let l = lead_is in read_is (is_four at (rest s at) _ refl _ refl _ refl _ refl (omega arith) k t)

      pub four_none : ((k : ℕ) → 4 ≤ length (rest s at) → Four k (get_or (rest s at) 0 0) (get_or (rest s at) 1 0) (get_or (rest s at) 2 0) (get_or (rest s at) 3 0) → ⊥)
          → None ≡ read_as at (decode (drop at s))
      four_none never =
          let l = lead_is in
          read_is (no_four at (rest s at) _ refl _ refl _ refl _ refl (omega arith) (λ k t. never k (within (rest s at) 3 (omega (arith, t.fourth))) t))

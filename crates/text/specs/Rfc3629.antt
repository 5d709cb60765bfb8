-- RFC 3629: UTF-8. Section 3's table is `encode`; a decoder is given, and proofs/Decoder.antt shows that it accepts exactly the encodings.
use Rattle.std.specs.Prelude.{◌≡◌, Bool, cond, not, ◌&&◌, List, [], ◌∷◌, ◌++◌, ℕ, ◌+◌, ◌*◌, ◌/◌, ◌%◌, T, ltb, leb, length, get_or}
use Rattle.lists.specs.Runs.{begins}

-- a character number: up to U+10FFFF, and no surrogate (U+D800 to U+DFFF)
unfoldable pub scalar : ℕ → Bool
scalar c = leb c 0x10FFFF && not (leb 0xD800 c && leb c 0xDFFF)

-- the octets of a character number: the four rows of section 3's table
unfoldable pub encode : ℕ → List ℕ
encode c =
    cond (ltb c 0x80) (c ∷ [])
    (cond (ltb c 0x800) ((0xC0 + c / 64) ∷ (0x80 + c % 64) ∷ [])
    (cond (ltb c 0x10000) ((0xE0 + c / 4096) ∷ (0x80 + c / 64 % 64) ∷ (0x80 + c % 64) ∷ [])
    ((0xF0 + c / 262144) ∷ (0x80 + c / 4096 % 64) ∷ (0x80 + c / 64 % 64) ∷ (0x80 + c % 64) ∷ [])))

-- the character c is at the front of xs, and rest is after it
pub record StandsFirst (c : ℕ) (xs rest : List ℕ) : Type 0 where
  pub is_scalar : T (scalar c)
  pub octets : xs ≡ encode c ++ rest

-- what reading at the front of a list finds: a character's number and how many octets it has, or none
pub data Front : Type 0 where
  front : ℕ → ℕ → Front
  nothing : Front

-- the number that the free bits of the octet a and of those after it would spell, whatever they are
unfoldable pub spelled : ℕ → List ℕ → ℕ
spelled a xs =
    let second = get_or xs 0 0 % 64 in
    let third = get_or xs 1 0 % 64 in
    let fourth = get_or xs 2 0 % 64 in
    cond (ltb a 0x80) a
    (cond (ltb a 0xE0) (a % 32 * 64 + second)
    (cond (ltb a 0xF0) (a % 16 * 4096 + second * 64 + third)
    (a % 8 * 262144 + second * 4096 + third * 64 + fourth)))

-- The decoder: the number so spelled, if it is a character's and its own encoding is what stands there. Overlong forms, surrogates,
-- cut sequences, stray continuation octets and octets that begin nothing all fail that one test.
unfoldable pub decode : List ℕ → Front
decode [] = nothing
decode (a ∷ xs) = let c = spelled a xs in let e = encode c in cond (scalar c && begins e (a ∷ xs)) (front c (length e)) nothing

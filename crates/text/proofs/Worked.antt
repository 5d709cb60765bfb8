-- RFC 3629, section 7's examples, and octets that begin no character; and bytes that part no words, which `Gap` refuses.
use mathlib.Core.Path.{◌≡◌, refl, sym, ap, ◌∙◌}
use mathlib.Core.Bool.{Bool, true, false, true≢false, and-eq-true_iff}
use mathlib.Core.List.{List, [], ◌∷◌, ◌++◌}
use Prim.Native.Nat.{ℕ, ◌+◌, ◌<◌, ◌/◌, ◌%◌}
use native.Mathlib.Omega.{arith}
use lib.Dec.{eqb}
use lib.ListN.{length, length-append}
use Rattle.lists.specs.Runs.{every, begins, joined}
use Rattle.lists.proofs.Parts.{every_cons}
use Rattle.widths.specs.WhiteSpace.{white_space}
use Rattle.text.specs.Rfc3629.{scalar, encode, spelled, front, nothing, decode}
use Rattle.text.specs.Theorems.Blanks.{space_code, Gap}
use Rattle.text.proofs.Decoder.{Row, row1, row2, row3, row4, row, some_octets}

not_identical : encode 0x41 ++ encode 0x2262 ++ encode 0x391 ++ encode 0x2E ≡ 0x41 ∷ 0xE2 ∷ 0x89 ∷ 0xA2 ∷ 0xCE ∷ 0x91 ∷ 0x2E ∷ []
unfolding encode
not_identical = refl

hangugeo : encode 0xD55C ++ encode 0xAD6D ++ encode 0xC5B4 ≡ 0xED ∷ 0x95 ∷ 0x9C ∷ 0xEA ∷ 0xB5 ∷ 0xAD ∷ 0xEC ∷ 0x96 ∷ 0xB4 ∷ []
unfolding encode
hangugeo = refl

nihongo : encode 0x65E5 ++ encode 0x672C ++ encode 0x8A9E ≡ 0xE6 ∷ 0x97 ∷ 0xA5 ∷ 0xE6 ∷ 0x9C ∷ 0xAC ∷ 0xE8 ∷ 0xAA ∷ 0x9E ∷ []
unfolding encode
nihongo = refl

stump : encode 0xFEFF ++ encode 0x233B4 ≡ 0xEF ∷ 0xBB ∷ 0xBF ∷ 0xF0 ∷ 0xA3 ∷ 0x8E ∷ 0xB4 ∷ []
unfolding encode
stump = refl

stump_read : decode (0xF0 ∷ 0xA3 ∷ 0x8E ∷ 0xB4 ∷ 0x2E ∷ []) ≡ front 0x233B4 4
unfolding decode scalar encode spelled begins
stump_read = refl

overlong : decode (0xC0 ∷ 0x80 ∷ []) ≡ nothing
unfolding decode scalar encode spelled begins
overlong = refl

surrogate : decode (0xED ∷ 0xA0 ∷ 0x80 ∷ []) ≡ nothing
unfolding decode scalar encode spelled begins
surrogate = refl

past_the_last : decode (0xF4 ∷ 0x90 ∷ 0x80 ∷ 0x80 ∷ []) ≡ nothing
unfolding decode scalar encode spelled begins
past_the_last = refl

cut_short : decode (0xE2 ∷ 0x89 ∷ []) ≡ nothing
unfolding decode scalar encode spelled begins
cut_short = refl

-- ---- what parts no words

nothing_at_all : (glue : Bool) → Gap glue [] → ⊥
nothing_at_all glue g = omega (arith, g.some)

-- an octet below 0x80 is its character
low_octet : (c x : ℕ) (rest more : List ℕ) → x < 0x80 → encode c ++ rest ≡ x ∷ more → c ≡ x
low_octet c x rest more low e = pick (row c)
  where
    pick : Row c → c ≡ x
    pick (row1 h o) = let f : c ∷ rest ≡ x ∷ more = rw o at e in cc
    pick (row2 h k o) = let f : (0xC0 + c / 64) ∷ (0x80 + c % 64) ∷ rest ≡ x ∷ more = rw o at e in let z : 0xC0 + c / 64 ≡ x = cc in absurd (omega arith)
    pick (row3 h k o) = let f : (0xE0 + c / 4096) ∷ (0x80 + c / 64 % 64) ∷ (0x80 + c % 64) ∷ rest ≡ x ∷ more = rw o at e in let z : 0xE0 + c / 4096 ≡ x = cc in absurd (omega arith)
    pick (row4 h o) = let f : (0xF0 + c / 262144) ∷ (0x80 + c / 4096 % 64) ∷ (0x80 + c / 64 % 64) ∷ (0x80 + c % 64) ∷ rest ≡ x ∷ more = rw o at e in let z : 0xF0 + c / 262144 ≡ x = cc in absurd (omega arith)

no_low : (glue : Bool) (x : ℕ) (more : List ℕ) → x < 0x80 → space_code x ≡ false → Gap glue (x ∷ more) → ⊥
unfolding joined
no_low glue x more low none g = go g.codes g.blanks.octets g.blanks.blank
  where
    go : (codes : List ℕ) → x ∷ more ≡ joined encode codes → every space_code codes ≡ true → ⊥
    go [] o b = let n = ap length o in omega arith
    go (c ∷ codes) o b =
        let k = low_octet c x (joined encode codes) more low (sym o) in
        let h = (and-eq-true_iff (space_code c) (every space_code codes)).0 (rw every_cons at b) in
        true≢false (sym h.0 ∙ ap (λ (y : ℕ). space_code y) k ∙ none)

a_letter : (glue : Bool) → Gap glue (120 ∷ []) → ⊥
unfolding white_space
a_letter glue g = no_low glue 120 [] (omega arith) refl g

a_line_feed : (glue : Bool) → Gap glue (10 ∷ []) → ⊥
unfolding white_space
a_line_feed glue g = no_low glue 10 [] (omega arith) refl g

-- with glue on, U+00A0
no_break_octets : (c : ℕ) (rest : List ℕ) → encode c ++ rest ≡ 0xC2 ∷ 0xA0 ∷ [] → (c ≡ 0xA0) × (length rest ≡ 0)
no_break_octets c rest e = pick (row c)
  where
    pick : Row c → (c ≡ 0xA0) × (length rest ≡ 0)
    pick (row1 h o) = let f : c ∷ rest ≡ 0xC2 ∷ 0xA0 ∷ [] = rw o at e in let z : c ≡ 0xC2 = cc in absurd (omega arith)
    pick (row2 h k o) =
        let f : (0xC0 + c / 64) ∷ (0x80 + c % 64) ∷ rest ≡ 0xC2 ∷ 0xA0 ∷ [] = rw o at e in
        let y : 0xC0 + c / 64 ≡ 0xC2 = cc in
        let z : 0x80 + c % 64 ≡ 0xA0 = cc in
        (omega arith, let n = ap length f in omega arith)
    pick (row3 h k o) = let f : (0xE0 + c / 4096) ∷ (0x80 + c / 64 % 64) ∷ (0x80 + c % 64) ∷ rest ≡ 0xC2 ∷ 0xA0 ∷ [] = rw o at e in let z : 0xE0 + c / 4096 ≡ 0xC2 = cc in absurd (omega arith)
    pick (row4 h o) = let f : (0xF0 + c / 262144) ∷ (0x80 + c / 4096 % 64) ∷ (0x80 + c / 64 % 64) ∷ (0x80 + c % 64) ∷ rest ≡ 0xC2 ∷ 0xA0 ∷ [] = rw o at e in let z : 0xF0 + c / 262144 ≡ 0xC2 = cc in absurd (omega arith)

a_no_break_space : Gap true (0xC2 ∷ 0xA0 ∷ []) → ⊥
unfolding joined every
a_no_break_space g = go g.codes g.blanks.octets (g.other refl)
  where
    go : (codes : List ℕ) → 0xC2 ∷ 0xA0 ∷ [] ≡ joined encode codes → every (λ (c : ℕ). eqb c 0xA0) codes ≡ false → ⊥
    go [] o f = let n = ap length o in omega arith
    go (c ∷ []) o f = let k = no_break_octets c [] (sym o) in true≢false (rw k.0 at f)
    go (c ∷ d ∷ codes) o f =
        let k = no_break_octets c (joined encode (d ∷ codes)) (sym o) in
        let l = length-append (encode d) (joined encode codes) in
        omega (arith, k.1, (some_octets d).0)

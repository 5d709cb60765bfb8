-- Where the search for a character begins: no range before that place reaches the character's block. One test over the lists, which is
-- computed, looks at the range before each place alone; that the ranges ascend does the rest.
use mathlib.Core.Path.{◌≡◌, refl, sym, ◌∙◌}
use mathlib.Core.Bool.{Bool, true, false, ◌&&◌}
use mathlib.Core.List.{List, [], ◌∷◌}
use Prim.Native.Nat.{ℕ, zero, suc, ◌+◌, ◌-◌, ◌*◌, ◌/◌, ◌≤◌, ◌<◌}
use native.Mathlib.Omega.{arith}
use lib.Dec.{T, ltb, leb, ltb→lt}
use lib.ListN.{length, get_or, drop, get_or-eq_default}
use borrow.Author.Tests.{leb-true, leb-false}
use Rattle.widths.specs.Ranges.{Range, span, width_in, ascending}
use Rattle.widths.specs.Table.{table}
use Rattle.widths.specs.Widths.{width_of, table_ascends}
use Rattle.widths.specs.Cited.Forms.{LeftOut, behind}
use Rattle.widths.specs.Cited.Starts.{near_starts, next_starts, far_starts}
use Rattle.widths.proofs.Ranges.{left, right, from, some, rest, head_past}

-- the last character of the range k
unfoldable pub end_of : List Range → ℕ → ℕ
end_of [] k = 0
end_of (span a b w ∷ rs) zero = b
end_of (span a b w ∷ rs) (suc k) = end_of rs k

-- a range's end is not before its list's start
end_from : (n : ℕ) (rs : List Range) (k : ℕ) → T (ascending n rs) → k < length rs → n ≤ end_of rs k
unfolding end_of
end_from n [] k up h = absurd (omega arith)
end_from n (span a b w ∷ rs) zero up h = let f = from n a b w rs up in let s = some n a b w rs up in omega arith
end_from n (span a b w ∷ rs) (suc k) up h =
    let f = from n a b w rs up in
    let s = some n a b w rs up in
    let i = end_from (suc b) rs k (rest n a b w rs up) (omega arith) in
    omega arith

-- a range that ends before c, and all before it, may be left out
skip : (n : ℕ) (rs : List Range) (k c : ℕ) → T (ascending n rs) → k < length rs → end_of rs k < c → width_in (drop (suc k) rs) c ≡ width_in rs c
unfolding end_of
skip n [] k c up h g = absurd (omega arith)
skip n (span a b w ∷ rs) zero c up h g = sym (head_past a b w rs c (some n a b w rs up) g)
skip n (span a b w ∷ rs) (suc k) c up h g =
    let u = rest n a b w rs up in
    let s = end_from (suc b) rs k u (omega arith) in
    skip (suc b) rs k c u (omega arith) g ∙ sym (head_past a b w rs c (some n a b w rs up) (omega arith))

pub size : length table ≡ 479
unfolding table
size = refl

pub ends_before : (k c : ℕ) → k < 479 → end_of table k < c → LeftOut (suc k) c
unfolding width_of
ends_before k c h g = skip 0 table k c table_ascends (rw size h) g

-- the range before s ends before d
unfoldable clear : ℕ → ℕ → Bool
clear zero d = true
clear (suc k) d = ltb k 479 && ltb (end_of table k) d

-- so of each place in a list, by blocks of n characters from d on
unfoldable clears : ℕ → ℕ → List ℕ → Bool
clears n d [] = true
clears n d (s ∷ ss) = clear s d && clears n (d + n) ss

left_out : (s d c : ℕ) → T (clear s d) → d ≤ c → LeftOut s c
unfolding clear width_of
left_out zero d c t h = refl
left_out (suc k) d c t h =
    let e = ltb→lt (end_of table k) d (right (ltb k 479) _ t) in
    ends_before k c (ltb→lt k 479 (left (ltb k 479) _ t)) (omega arith)

clears_at : (n d : ℕ) (ss : List ℕ) (i e : ℕ) → T (clears n d ss) → i < length ss → T (clear (get_or ss i e) (d + i * n))
unfolding clears
clears_at n d [] i e t h = absurd (omega arith)
clears_at n d (s ∷ ss) zero e t h = let z : d + 0 * n ≡ d = omega arith in rw z (left (clear s d) _ t)
clears_at n d (s ∷ ss) (suc i) e t h =
    let z : d + suc i * n ≡ d + n + i * n = omega arith in
    rw z (clears_at n (d + n) ss i e (right (clear s d) _ t) (omega arith))

near_clears : T (clears 32 0 near_starts)
unfolding clears clear end_of table near_starts
near_clears = tt

next_clears : T (clears 64 0x2000 next_starts)
unfolding clears clear end_of table next_starts
next_clears = tt

far_clears : T (clears 256 0xA000 far_starts)
unfolding clears clear end_of table far_starts
far_clears = tt

near_size : length near_starts ≡ 256
unfolding near_starts
near_size = refl

next_size : length next_starts ≡ 128
unfolding next_starts
next_size = refl

far_size : length far_starts ≡ 352
unfolding far_starts
far_size = refl

pub near_begins : (c : ℕ) → c < 0x2000 → LeftOut (get_or near_starts (c / 32) behind) c
near_begins c h =
    left_out (get_or near_starts (c / 32) behind) (0 + c / 32 * 32) c (clears_at 32 0 near_starts (c / 32) behind near_clears (rw near_size (omega arith))) (omega arith)

pub next_begins : (c : ℕ) → 0x2000 ≤ c → c < 0x4000 → LeftOut (get_or next_starts (c / 64 - 128) behind) c
next_begins c h l =
    left_out (get_or next_starts (c / 64 - 128) behind) (0x2000 + (c / 64 - 128) * 64) c
    (clears_at 64 0x2000 next_starts (c / 64 - 128) behind next_clears (rw next_size (omega arith)))
    (omega arith)

pub few_begin : (c : ℕ) → 0x4000 ≤ c → LeftOut 226 c
unfolding clear end_of table
few_begin c h = left_out 226 0x4000 c tt h

all_begin : (c : ℕ) → 0x20000 ≤ c → LeftOut behind c
unfolding clear end_of table
all_begin c h = left_out behind 0x20000 c tt h

pub behind_all : (c : ℕ) → 0xE01F0 ≤ c → 1 ≡ width_of c
unfolding clear end_of table width_in
behind_all c h = left_out 479 0xE01F0 c tt h

pub far_begins : (c : ℕ) → 0xA000 ≤ c → LeftOut (get_or far_starts (c / 256 - 160) behind) c
far_begins c h = pick (leb 0x20000 c) refl
  where
    pick : (t : Bool) → leb 0x20000 c ≡ t → LeftOut (get_or far_starts (c / 256 - 160) behind) c
    pick true e =
        let l = leb-true 0x20000 c e in
        let z : length far_starts ≤ c / 256 - 160 = rw far_size (omega arith) in
        rw (get_or-eq_default far_starts behind z) (all_begin c l)
    pick false e =
        let l = leb-false 0x20000 c e in
        left_out (get_or far_starts (c / 256 - 160) behind) (0xA000 + (c / 256 - 160) * 256) c
        (clears_at 256 0xA000 far_starts (c / 256 - 160) behind far_clears (rw far_size (omega arith)))
        (omega arith)

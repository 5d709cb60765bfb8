-- What is at a place of a text, as an answer of the code tells it; and the characters of a whole text.
use Rattle.std.proofs.Common.{None}
use mathlib.Core.Path.{◌≡◌, refl, sym, ap, ap₂, ◌∙◌}
use mathlib.Core.Bool.{Bool, true, false, cond}
use mathlib.Core.List.{List, [], ◌∷◌, ◌++◌}
use mathlib.Core.Logic.{⊎_elim}
use Prim.Native.Nat.{ℕ, suc, ◌+◌, ◌-◌, ◌≤◌, ◌<◌}
use native.Mathlib.Omega.{arith}
use lib.ListN.{length, get_or, take, drop, length-drop, take-append-drop}
use lib.Seq.{slice, length-take-le}
use lib.Dec.{ltb}
use borrow.Author.Tests.{ltb-true, ltb-false}
use Rattle.lists.specs.Runs.{joined}
use Rattle.lists.proofs.Walk.{each_nil, each_step, each_at}
use Rattle.lists.proofs.Pieces.{each_induct}
use Rattle.lists.proofs.Views.{drop_here, drop_none}
use Rattle.lists.proofs.Slices.{slice_is, slice_one}
use Rattle.text.specs.Rfc3629.{Front, front, nothing, encode, decode}
use Rattle.widths.specs.Widths.{width_of}
use Rattle.widths.specs.WhiteSpace.{white_space}
use Rattle.widths.proofs.Laws.{at_most_two, at_most_one_before_1100}
use Rattle.text.specs.Characters.{Glyph, glyph_as, glyph, characters}
use Rattle.text.specs.Cited.Places.{read_as, seen_as, good}
use Rattle.text.specs.declared.Glyph.{Glyph as Seen}
use Rattle.text.specs.declared.Glyph.TheVariants.{Ink, Blank, Damaged as Broken}
use Rattle.text.specs.contracts.Glyph.{the_type}
use denote.Enum.Declared.{tag_of}
use types.Run.{OneOf}
use Rattle.text.proofs.Decoder.{some_octets, three_octets, sound}
use Rattle.text.proofs.Forms.{ascii}
use Rattle.text.proofs.Places.{seen_char_spec, glyph_char, damaged_char, good_front, damaged_front}

-- a character that may take two columns has three octets: none takes more columns than it has octets
width_octets : (c : ℕ) → width_of c ≤ length (encode c)
width_octets c = go (ltb c 0x1100) refl
  where
    go : (t : Bool) → ltb c 0x1100 ≡ t → width_of c ≤ length (encode c)
    go true e = let w = at_most_one_before_1100 c (ltb-true c 0x1100 e) in let s = some_octets c in omega arith
    go false e = let w = at_most_two c in let s = three_octets c (let l = ltb-false c 0x1100 e in omega arith) in omega arith

-- how many bytes the first character has
pub record Bytes (xs : List ℕ) : Type 0 where
  pub n : ℕ
  pub some : 1 ≤ n
  pub within : n ≤ length xs
  pub are : (glyph xs).bytes ≡ take n xs
  pub count : length (glyph xs).bytes ≡ n

pub bytes_of_part : (xs : List ℕ) → 0 < length xs → Bytes xs
unfolding glyph
bytes_of_part xs h = pick (decode xs) refl
  where
    pick : (f : Front) → decode xs ≡ f → Bytes xs
    pick nothing e = record { n = 1; some = omega arith; within = h; are = rw e; count = rw e (length-take-le 1 xs h) }
    pick (front c m) e = let d = sound xs c m e in record { n = m; some = d.some; within = d.within; are = rw e; count = rw e (length-take-le m xs d.within) }

-- a character is at a place, and the next one at next
pub record Here (blank : Bool) (s : List ℕ) (at code next : ℕ) : Type 0 where
  pub on : at < next
  pub few : next ≤ at + 4
  pub within : next ≤ length s
  pub first : characters (drop at s) ≡ glyph (drop at s) ∷ characters (drop next s)
  pub is_good : (glyph (drop at s)).damaged ≡ false
  pub is_blank : (glyph (drop at s)).blank ≡ blank
  pub is_blank_code : white_space code ≡ blank
  pub has_code : (glyph (drop at s)).code ≡ code
  pub has_width : (glyph (drop at s)).width ≡ width_of code
  pub narrow : width_of code ≤ next - at
  pub has_bytes : (glyph (drop at s)).bytes ≡ slice at next s
  pub count : length (glyph (drop at s)).bytes ≡ next - at

-- no character is at a place, and the next one is after the byte there
pub record DamagedHere (s : List ℕ) (at : ℕ) : Type 0 where
  pub first : characters (drop at s) ≡ glyph (drop at s) ∷ characters (drop (at + 1) s)
  pub is_damaged : (glyph (drop at s)).damaged ≡ true
  pub is_blank : (glyph (drop at s)).blank ≡ false
  pub has_code : (glyph (drop at s)).code ≡ 0xFFFD
  pub has_width : (glyph (drop at s)).width ≡ 1
  pub has_bytes : (glyph (drop at s)).bytes ≡ get_or s at 0 ∷ []

module _ (s : List ℕ) (at : ℕ) where
  pub characters_past : length s ≤ at → characters (drop at s) ≡ []
  unfolding characters
  characters_past h = rw (drop_none 0 s at h) (each_nil _ _)

  -- one character of n bytes, and the rest
  characters_at : (n : ℕ) → at < length s → 1 ≤ n → length (glyph (drop at s)).bytes ≡ n → characters (drop at s) ≡ glyph (drop at s) ∷ characters (drop (at + n) s)
  unfolding characters
  characters_at n h k e = each_at _ _ s at n h (omega arith)

  pub characters_first : at < length s → characters (drop at s) ≡ glyph (drop at s) ∷ characters (drop (at + length (glyph (drop at s)).bytes) s)
  characters_first h = let b = bytes_of_part (drop at s) (simp length-drop (omega arith)) in characters_at _ h (omega arith) refl

  glyph_is : (f : Front) → decode (drop at s) ≡ f → glyph (drop at s) ≡ glyph_as (drop at s) f
  unfolding glyph
  glyph_is f e = ap (glyph_as (drop at s)) e

  front_here : (c n : ℕ) → decode (drop at s) ≡ front c n → Here (white_space c) s at c (at + n)
  front_here c n e =
      let d = sound (drop at s) c n e in
      let g = glyph_is (front c n) e in
      let w : n ≤ length s - at = rw (← length-drop at s) d.within in
      let l : length (take n (drop at s)) ≡ n = length-take-le n (drop at s) d.within in
      let m : length (glyph (drop at s)).bytes ≡ n = rw g l in
      record {
        on = omega (arith, d.some);
        few = omega (arith, d.few);
        within = omega (arith, d.some);
        first = characters_at n (omega (arith, d.some)) d.some m;
        is_good = rw g;
        is_blank = rw g;
        is_blank_code = refl;
        has_code = rw g;
        has_width = rw g;
        narrow = let k = width_octets c in let e = d.count in omega arith;
        has_bytes = rw g (sym (slice_is at n s));
        count = omega arith;
      }

  -- from the answer of decode_at
  pub char_here : (code next : ℕ) → read_as at (decode (drop at s)) ≡ good code next → Here (white_space code) s at code next
  char_here code next h = let v = good_front at (decode (drop at s)) code next h in rw (← v.2) (front_here code v.0 v.1)

  pub char_damaged_here : at < length s → read_as at (decode (drop at s)) ≡ None → DamagedHere s at
  char_damaged_here h e =
      let g = glyph_is nothing (damaged_front at (decode (drop at s)) e) in
      let b : (glyph (drop at s)).bytes ≡ get_or s at 0 ∷ [] = rw g (sym (slice_is at 1 s) ∙ slice_one 0 s at h) in
      record { first = characters_at 1 h (omega arith) (ap length b); is_damaged = rw g; is_blank = rw g; has_code = rw g; has_width = rw g; has_bytes = b }

  -- from the answer of glyph_at
  glyph_here : (t : Bool) (code next : ℕ) → seen_as at (glyph (drop at s)) ≡ cond t (Blank code next) (Ink code next) → Here t s at code next
  glyph_here t code next h =
      let v = glyph_char (read_as at (decode (drop at s))) t code next (seen_char_spec at (drop at s) ∙ h) in
      rw (← v.1) (char_here code next v.0)

  pub ink_here : (code next : ℕ) → seen_as at (glyph (drop at s)) ≡ Ink code next → Here false s at code next
  ink_here code next h = glyph_here false code next h

  pub blank_here : (code next : ℕ) → seen_as at (glyph (drop at s)) ≡ Blank code next → Here true s at code next
  blank_here code next h = glyph_here true code next h

  damaged_char_here : seen_as at (glyph (drop at s)) ≡ Broken → read_as at (decode (drop at s)) ≡ None
  damaged_char_here e = damaged_char (read_as at (decode (drop at s))) (seen_char_spec at (drop at s) ∙ e)

  pub damaged_here : at < length s → seen_as at (glyph (drop at s)) ≡ Broken → DamagedHere s at
  damaged_here h e = char_damaged_here h (damaged_char_here e)

  -- where a pattern for one variant did not fit, the answer's tag is another's
  damaged_is : Broken ≡ seen_as at (glyph (drop at s)) → glyph (drop at s) ≡ glyph_as (drop at s) nothing
  damaged_is e = glyph_is nothing (damaged_front at (decode (drop at s)) (damaged_char_here (sym e)))

  pub not_blank : (r : Seen) → r ≡ seen_as at (glyph (drop at s)) → OneOf (0 ∷ 2 ∷ []) (tag_of the_type r) → (glyph (drop at s)).blank ≡ false
  not_blank (Ink c n) e h = (ink_here c n (sym e)).is_blank
  not_blank (Blank c n) e h = absurd (⊎_elim (λ z. omega arith) (λ z. omega arith) h)
  not_blank Broken e h = rw (damaged_is e)

  -- a byte below 0x80 reads as itself
  pub ascii_here : at < length s → get_or s at 0 < 0x80 → Here (white_space (get_or s at 0)) s at (get_or s at 0) (at + 1)
  ascii_here h k = front_here (get_or s at 0) 1 (rw (drop_here 0 s at h) (ascii (get_or s at 0) (drop (at + 1) s) k))

-- the first character of a text, and the rest
pub characters_step : (xs : List ℕ) (b : Bytes xs) → characters xs ≡ glyph xs ∷ characters (drop b.n xs)
unfolding characters
characters_step xs b =
    let e : suc (length (glyph xs).bytes - 1) ≡ b.n = omega (arith, b.count, b.some) in
    each_step _ _ xs (omega (arith, b.some, b.within)) ∙ ap (λ (n : ℕ). glyph xs ∷ characters (drop n xs)) e

-- what holds of nothing, and of a text if it holds of what is after its first character, holds of every text
pub characters_induct : (P : List ℕ → List Glyph → Type 0) → P [] []
    → ((xs : List ℕ) (b : Bytes xs) → P (drop b.n xs) (characters (drop b.n xs)) → P xs (glyph xs ∷ characters (drop b.n xs)))
    → (xs : List ℕ) → P xs (characters xs)
unfolding characters
characters_induct P none more xs = each_induct _ glyph P none turn xs
  where
    turn : (ys : List ℕ) → 0 < length ys → P (drop (suc (length (glyph ys).bytes - 1)) ys) (characters (drop (suc (length (glyph ys).bytes - 1)) ys))
        → P ys (glyph ys ∷ characters (drop (suc (length (glyph ys).bytes - 1)) ys))
    turn ys h p =
        let b = bytes_of_part ys h in
        let e : suc (length (glyph ys).bytes - 1) ≡ b.n = omega arith in
        rw e (more ys b (rw e at p))

-- the characters' bytes, joined, are the text
pub characters_joined : (xs : List ℕ) → joined (λ g. g.bytes) (characters xs) ≡ xs
unfolding joined
characters_joined =
    characters_induct (λ ys gs. joined (λ g. g.bytes) gs ≡ ys) refl
    (λ ys b e. ap₂ (λ (l r : List ℕ). l ++ r) b.are e ∙ take-append-drop b.n ys)

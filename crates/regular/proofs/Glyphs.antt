-- The glyphs of regular bytes and of letters of two: each is one, glue or not, after ink or not. So the words of a line of them are those
-- of its stretch.
use mathlib.Core.Path.{◌≡◌, refl, sym, ap, ◌∙◌}
use mathlib.Core.Bool.{Bool, true, false, not}
use mathlib.Core.List.{List, [], ◌∷◌}
use Prim.Native.Nat.{ℕ, ◌+◌, ◌-◌, ◌*◌, ◌/◌, ◌%◌, ◌≤◌, ◌<◌}
use native.Mathlib.Omega.{arith}
use lib.Dec.{eqb}
use lib.ListN.{length}
use borrow.Author.Tests.{eqb-true, eqb-false, ne_eqb}
use Rattle.widths.specs.WhiteSpace.{white_space}
use Rattle.widths.proofs.Laws.{one_before_300}
use Rattle.text.specs.Characters.{Glyph, glyph, characters, no_break}
use Rattle.text.specs.Cited.Places.{settle, ink_glyphs}
use Rattle.text.proofs.Forms.{ascii}
use Rattle.text.proofs.Leads.{plain_ink}
use Rattle.text.proofs.Letters.{Letter, letter_here, letter_width}
use Rattle.text.proofs.Glyphs.{bytes_of_part, characters_step, characters_past}
use Rattle.text.proofs.Glue.{glyphs_settle, settle_none, settle_other}
use Rattle.options.specs.Opts.{Opts}
use Rattle.words.specs.Cited.Scan.{glyphs_behind, words_from}
use Rattle.text.specs.Cited.Joins.{goes_on}
use Rattle.regular.specs.Cited.Regular.{is_regular, begins_letter, spelled, carries_on, byte_glyph, with_byte, with_first, spelling, stretch_words}
use Rattle.regular.proofs.Stretch.{alone, before_more}
use Rattle.regular.proofs.Spelling.{byte_range, Leads, leads, spelled_begins, spelled_induct}

-- ---- a regular byte

blank_is : (b : ℕ) → 32 ≤ b → b < 128 → white_space b ≡ eqb b 32
unfolding white_space
blank_is b h k = pick (eqb b 32) refl
  where
    pick : (t : Bool) → eqb b 32 ≡ t → white_space b ≡ t
    pick true e = rw (eqb-true b 32 e)
    pick false e = plain_ink b (omega (arith, eqb-false b 32 e)) k

begins_next : (xs : List ℕ) → spelled false xs ≡ true → carries_on xs ≡ false
unfolding carries_on
begins_next [] h = refl
begins_next (x ∷ xs) h = spelled_begins x xs h

module _ (b : ℕ) (xs : List ℕ) (is : is_regular b ≡ true) where
  small : (32 ≤ b) × (b < 128)
  small = byte_range b is

  glyph_is : glyph (b ∷ xs) ≡ byte_glyph b
  unfolding glyph
  glyph_is = rw (ascii b xs small.1, blank_is b small.0 small.1, one_before_300 b (omega (arith, small.1)), ne_eqb (b / 64) 2 (λ q. omega (arith, small.1)))

  characters_plain : characters (b ∷ xs) ≡ byte_glyph b ∷ characters xs
  characters_plain =
      let y = bytes_of_part (b ∷ xs) (omega arith) in
      let n : y.n ≡ 1 = sym y.count ∙ ap (λ (g : Glyph). length g.bytes) glyph_is in
      characters_step (b ∷ xs) y ∙ rw (n, glyph_is)

  plain_no_break : no_break (byte_glyph b) ≡ false
  plain_no_break = ne_eqb b 0xA0 (λ e. omega (arith, small.1))

  spelling_plain : spelled false xs ≡ true → spelling (b ∷ xs) ≡ byte_glyph b ∷ spelling xs
  spelling_plain h = alone b xs (begins_next xs h)

-- ---- a letter of two

module _ (x y : ℕ) (ys : List ℕ) (b : begins_letter x ≡ true) (c : goes_on y ≡ true) where
  lead : Leads x
  lead = leads x b

  second : y / 64 ≡ 2
  second = eqb-true (y / 64) 2 c

  letter : Letter (x ∷ y ∷ ys) 0
  letter = record { within = omega arith; least = lead.least; most = lead.most; no_accent = lead.no_accent; second = second }

  abbrev pair : Glyph
  pair = with_byte x (byte_glyph y)

  pair_is : glyph (x ∷ y ∷ ys) ≡ pair
  pair_is =
      let h = letter_here (x ∷ y ∷ ys) 0 letter in
      let k : x % 32 * 64 + y % 64 ≡ 128 + ((x - 194) * 64 + (y - 128)) = omega (arith, lead.least, lead.most, second) in
      let l : goes_on x ≡ false = ne_eqb (x / 64) 2 (λ q. omega (arith, lead.least)) in
      fields (glyph (x ∷ y ∷ ys)) pair.bytes pair.code false false pair.width h.has_bytes (h.has_code ∙ k) h.is_good h.is_blank (h.has_width ∙ sym (letter_width (x ∷ y ∷ ys) 0 letter) ∙ rw (c, l))
    where
      fields : (g : Glyph) (bytes : List ℕ) (code : ℕ) (damaged blank : Bool) (width : ℕ) → g.bytes ≡ bytes → g.code ≡ code → g.damaged ≡ damaged → g.blank ≡ blank → g.width ≡ width
          → g ≡ record { bytes = bytes; code = code; damaged = damaged; blank = blank; width = width }
      fields g bytes code damaged blank width e f d n w = rw (← e, ← f, ← d, ← n, ← w)

  characters_letter : characters (x ∷ y ∷ ys) ≡ pair ∷ characters ys
  characters_letter = (letter_here (x ∷ y ∷ ys) 0 letter).first ∙ rw pair_is

  letter_no_break : no_break pair ≡ false
  letter_no_break = ne_eqb pair.code 0xA0 (λ e. omega (arith, lead.least, second))

  spelling_letter : spelled false ys ≡ true → spelling (x ∷ y ∷ ys) ≡ pair ∷ spelling ys
  unfolding with_first carries_on
  spelling_letter h = before_more x (y ∷ ys) (ap not (ne_eqb x 32 (λ q. omega (arith, lead.least)))) c ∙ ap (with_first x) (alone y ys (begins_next ys h))

-- ---- all

spelled_characters : (xs : List ℕ) → spelled false xs ≡ true → characters xs ≡ spelling xs
unfolding spelling
spelled_characters =
    spelled_induct (λ xs. characters xs ≡ spelling xs) (characters_past [] 0 (omega arith))
    (λ x xs is h ih. rw (characters_plain x xs is, spelling_plain x xs is h, ih))
    (λ x y ys b c h ih. rw (characters_letter x y ys b c, spelling_letter x y ys b c h, ih))

spelled_settled : (glue : Bool) (xs : List ℕ) → spelled false xs ≡ true → (ink : Bool) → settle glue ink (spelling xs) ≡ spelling xs
unfolding spelling
spelled_settled glue =
    spelled_induct (λ xs. (ink : Bool) → settle glue ink (spelling xs) ≡ spelling xs) (λ ink. settle_none glue ink)
    (λ x xs is h ih ink. rw (spelling_plain x xs is h, settle_other glue (byte_glyph x) (spelling xs) ink (plain_no_break x xs is), ih (not (eqb x 32))))
    (λ x y ys b c h ih ink. rw (spelling_letter x y ys b c h, settle_other glue (with_byte x (byte_glyph y)) (spelling ys) ink (letter_no_break x y ys b c), ih true))

pub spelled_glyphs : (glue ink : Bool) (xs : List ℕ) → spelled false xs ≡ true → glyphs_behind glue ink xs ≡ spelling xs
unfolding ink_glyphs
spelled_glyphs glue true xs h = rw (spelled_characters xs h) (spelled_settled glue xs h true)
spelled_glyphs glue false xs h = rw (glyphs_settle glue xs, spelled_characters xs h) (spelled_settled glue xs h false)

-- the words of such a line, or of its rest
pub spelled_words : (o : Opts) (new_line previous ink : Bool) (xs : List ℕ) → spelled false xs ≡ true
    → words_from o false new_line previous (glyphs_behind o.glue ink xs) ≡ stretch_words o new_line previous xs
unfolding words_from stretch_words
spelled_words o new_line previous ink xs h = rw (spelled_glyphs o.glue ink xs h)

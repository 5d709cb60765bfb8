-- What a line's words have: their bytes joined are the line's ink; none is empty; and the blanks that their records hold are blank characters.
use mathlib.Core.Path.{◌≡◌, refl, sym, ◌∙◌}
use mathlib.Core.Bool.{Bool, true, false, cond, not, ◌&&◌, ◌||◌, and-eq-true_iff, false≢true, true≢false}
use mathlib.Core.List.{List, [], ◌∷◌, ◌++◌, map}
use Prim.Native.Nat.{ℕ, ◌<◌}
use native.Mathlib.Omega.{arith}
use lib.Dec.{eqb}
use lib.ListN.{length, length-append}
use Rattle.lists.specs.Runs.{every, joined}
use Rattle.lists.specs.Theorems.All.{All}
use Rattle.lists.proofs.Runs.{every_map}
use Rattle.lists.proofs.Parts.{every_nil, every_cons, every_append, joined_nil, joined_cons, joined_append}
use Rattle.lists.proofs.All.{all_front, all_back, all_map, all_weaken, all_joined}
use Rattle.text.specs.Characters.{Glyph, glyphs, is_blank}
use Rattle.text.specs.Theorems.Blanks.{Blanks}
use Rattle.text.proofs.Extents.{Sound, glyphs_sound}
use Rattle.text.proofs.Edges.{glyphs_joined}
use Rattle.text.proofs.Blanks.{blanks_none, blanks_glyphs}
use Rattle.options.specs.Opts.{Opts}
use Rattle.lines.specs.Lines.{Line, no_feed}
use Rattle.lines.specs.Classes.{glyphs_before, glyphs_from, classify}
use Rattle.lines.specs.declared.Shape.{Shape}
use Rattle.lines.specs.declared.Class.TheVariants.{Formatted}
use Rattle.lines.proofs.Ink.{up_to_from, formatted_ink}
use Rattle.pieces.specs.Pieces.{Row, Paragraph, start_as, row_of}
use Rattle.pieces.proofs.Extents.{Feedless, Rows}
use Rattle.records.specs.Word.{Word}
use Rattle.words.specs.Words.{is_ink, glyph_bytes, bytes_of, row_words, words_of}
use Rattle.words.specs.Theorems.Ink.{ink_of, row_ink}
use Rattle.words.proofs.Spelled.{Begins, Spelled, row_spelled}

abbrev pub text_of : Word → List ℕ
text_of w = w.text

-- ---- the ink of blanks and of ink

ink_none : (gs : List Glyph) → every is_blank gs ≡ true → joined ink_of gs ≡ []
ink_none [] e = joined_nil ink_of
ink_none (g ∷ gs) e =
    let h = (and-eq-true_iff g.blank (every is_blank gs)).0 (rw every_cons at e) in
    rw (joined_cons ink_of g gs, h.0, ink_none gs h.1)

ink_all : (gs : List Glyph) → every is_ink gs ≡ true → joined ink_of gs ≡ bytes_of gs
unfolding bytes_of
ink_all [] e = rw (joined_nil ink_of, joined_nil glyph_bytes)
ink_all (g ∷ gs) e =
    let h = (and-eq-true_iff (not g.blank) (every is_ink gs)).0 (rw every_cons at e) in
    rw (joined_cons ink_of g gs, joined_cons glyph_bytes g gs, ink_all gs h.1) (go g.blank h.0)
  where
    go : (b : Bool) → not b ≡ true → cond b [] g.bytes ++ bytes_of gs ≡ g.bytes ++ bytes_of gs
    go true k = absurd (false≢true k)
    go false k = refl

spelled_ink : (glue uniform : Bool) (ws : List Word) (gs : List Glyph) → Spelled glue uniform ws gs → joined text_of ws ≡ joined ink_of gs
spelled_ink glue uniform [] gs s = rw (joined_nil text_of) (sym (ink_none gs s))
spelled_ink glue uniform (w ∷ ws) gs s =
    let b = s.1 in
    rw (
      joined_cons text_of w ws,
      spelled_ink glue uniform ws s.0 s.2,
      b.text,
      b.parts,
      joined_append ink_of b.blanks (b.ink ++ s.0),
      joined_append ink_of b.ink s.0,
      ink_none b.blanks b.blank,
      ink_all b.ink b.inked,
    )

pub row_ink_law : (o : Opts) (mail : Bool) (row : Row) → joined text_of (row_words o mail row) ≡ row_ink o mail row
row_ink_law o mail row = spelled_ink o.glue (o.uniform || mail) _ _ (row_spelled o mail row)

-- ---- each word

-- a word has a byte; the blanks of its record are blank characters, where it is neither uniform nor the first of its line some, with glue on
-- not U+00A0 alone; no line feed is in it or in its blanks
pub record Whole (glue uniform : Bool) (w : Word) : Type 0 where
  pub some : 0 < length w.text
  pub codes : List ℕ
  pub blanks : Blanks codes w.blanks
  pub gap : uniform ≡ false → w.new_line ≡ false → 0 < length w.blanks
  pub other : glue ≡ true → uniform ≡ false → w.new_line ≡ false → every (λ c. eqb c 0xA0) codes ≡ false
  pub feedless : every no_feed w.text ≡ true
  pub blanks_feedless : every no_feed w.blanks ≡ true

-- glyphs as they are read from a text without a line feed
record Clean (gs : List Glyph) : Type 0 where
  sound : All Sound gs
  feedless : every no_feed (bytes_of gs) ≡ true

clean_parts : (xs ys : List Glyph) → Clean (xs ++ ys) → Clean xs × Clean ys
unfolding bytes_of
clean_parts xs ys c =
    let f = (and-eq-true_iff _ _).0 (rw (joined_append, every_append) at c.feedless) in
    (record { sound = all_front _ xs ys c.sound; feedless = f.0 }, record { sound = all_back _ xs ys c.sound; feedless = f.1 })

pub bytes_some : (gs : List Glyph) → All Sound gs → 0 < length gs → 0 < length (bytes_of gs)
unfolding bytes_of
bytes_some [] s h = absurd (omega arith)
bytes_some (g ∷ gs) s h =
    let k = s.0.some in
    rw (joined_cons, length-append) (omega arith)

blank_bytes : (gs : List Glyph) → Clean gs → every is_blank gs ≡ true → Blanks (map (λ (g : Glyph). g.code) gs) (bytes_of gs)
unfolding bytes_of
blank_bytes gs c e = blanks_glyphs gs c.sound e c.feedless

module _ (glue : Bool) where
  module _ (uniform : Bool) (w : Word) (gs rest : List Glyph) (b : Begins glue uniform w gs rest) where
    word_whole : Clean b.blanks → Clean b.ink → Whole glue uniform w
    word_whole c d = record {
      some = rw b.text (bytes_some b.ink d.sound b.some);
      codes = cond uniform [] (map (λ (g : Glyph). g.code) b.blanks);
      blanks = rw b.before (held uniform);
      gap = gap uniform refl;
      other = other uniform refl;
      feedless = rw b.text d.feedless;
      blanks_feedless = rw b.before (one_line uniform);
    }
      where
        held : (u : Bool) → Blanks (cond u [] (map (λ (g : Glyph). g.code) b.blanks)) (cond u [] (bytes_of b.blanks))
        held true = blanks_none
        held false = blank_bytes b.blanks c b.blank

        one_line : (u : Bool) → every no_feed (cond u [] (bytes_of b.blanks)) ≡ true
        one_line true = every_nil no_feed
        one_line false = c.feedless

        gap : (u : Bool) → uniform ≡ u → u ≡ false → w.new_line ≡ false → 0 < length w.blanks
        gap true e u n = absurd (true≢false u)
        gap false e u n = rw (b.before, e) (bytes_some b.blanks c.sound (b.gap e n))

        other : (u : Bool) → uniform ≡ u → glue ≡ true → u ≡ false → w.new_line ≡ false → every (λ c. eqb c 0xA0) (cond u [] (map (λ (g : Glyph). g.code) b.blanks)) ≡ false
        other true e g u n = absurd (true≢false u)
        other false e g u n = sym (every_map (λ c. eqb c 0xA0) (λ (g : Glyph). g.code) b.blanks) ∙ b.other g e n

  spelled_whole : (uniform : Bool) (ws : List Word) (gs : List Glyph) → Clean gs → Spelled glue uniform ws gs → All (Whole glue uniform) ws
  spelled_whole uniform [] gs c s = tt
  spelled_whole uniform (w ∷ ws) gs c s =
      let b = s.1 in
      let p = clean_parts b.blanks (b.ink ++ s.0) (rw b.parts at c) in
      let q = clean_parts b.ink s.0 p.1 in
      (word_whole uniform w gs s.0 b p.0 q.0, spelled_whole uniform ws s.0 q.1 s.2)

  glyphs_clean : (xs : List ℕ) → every no_feed xs ≡ true → Clean (glyphs glue xs)
  unfolding bytes_of
  glyphs_clean xs e = record { sound = glyphs_sound glue xs; feedless = rw glyphs_joined e }

from_clean : (place : ℕ) (gs : List Glyph) → Clean gs → Clean (glyphs_from place gs)
from_clean place gs c = (clean_parts (glyphs_before place gs) (glyphs_from place gs) (rw up_to_from c)).1

pub row_whole : (o : Opts) (mail : Bool) (row : Row) → every no_feed row.text ≡ true → All (Whole o.glue (o.uniform || mail)) (row_words o mail row)
row_whole o mail row e = spelled_whole o.glue (o.uniform || mail) (row_words o mail row) _ (go mail) (row_spelled o mail row)
  where
    go : (m : Bool) → Clean (let gs = glyphs o.glue row.text in cond m gs (glyphs_from row.start gs))
    go true = glyphs_clean o.glue row.text e
    go false = from_clean row.start _ (glyphs_clean o.glue row.text e)

-- ---- the words of a paragraph

-- glyphs that are not all blank have ink
ink_some : (gs : List Glyph) → All Sound gs → every is_blank gs ≡ false → 0 < length (joined ink_of gs)
ink_some [] s e = absurd (true≢false (rw every_nil at e))
ink_some (g ∷ gs) s e = rw joined_cons (go g.blank (rw every_cons at e) (ink_some gs s.1))
  where
    go : (b : Bool) → (b && every is_blank gs) ≡ false → (every is_blank gs ≡ false → 0 < length (joined ink_of gs)) → 0 < length (cond b [] g.bytes ++ joined ink_of gs)
    go true k ih = ih k
    go false k ih = let h = s.0.some in rw length-append (omega arith)

-- words that spell glyphs with ink are some
spelled_some : (glue uniform : Bool) (ws : List Word) (gs : List Glyph) → Spelled glue uniform ws gs → 0 < length (joined ink_of gs) → 0 < length ws
spelled_some glue uniform [] gs s h = rw (ink_none gs s) at h
spelled_some glue uniform (w ∷ ws) gs s h = omega arith

-- the line of a paragraph that is formatted has a word
formatted_some : (o : Opts) (mail : Bool) (l : Line) (s : Shape) → classify o l.text ≡ Formatted s → 0 < length (row_words o mail (row_of o l))
unfolding row_of
formatted_some o mail l s e = spelled_some o.glue (o.uniform || mail) (row_words o mail (row_of o l)) _ (row_spelled o mail (row_of o l)) (go mail)
  where
    gs : List Glyph
    gs = glyphs o.glue l.text

    go : (m : Bool) → 0 < length (joined ink_of (cond m gs (glyphs_from (start_as (classify o l.text)) gs)))
    go true = ink_some gs (glyphs_sound o.glue l.text) (formatted_ink o l.text s e).0
    go false =
        let sound : All Sound (glyphs_from s.indent_end gs) = all_back _ (glyphs_before s.indent_end gs) (glyphs_from s.indent_end gs) (rw up_to_from (glyphs_sound o.glue l.text)) in
        rw e (ink_some (glyphs_from s.indent_end gs) sound (formatted_ink o l.text s e).1)

module _ (o : Opts) (lines : List Line) (p : Paragraph) (r : Rows o lines p) where
  pub paragraph_some : 0 < length (words_of o p)
  unfolding words_of
  paragraph_some =
      let h = formatted_some o p.mail r.head r.shape r.formatted in
      rw (r.rows, r.begin, joined_cons, length-append) (omega arith)

  pub paragraph_whole : All (Whole o.glue (o.uniform || p.mail)) (words_of o p)
  unfolding words_of row_of
  paragraph_whole =
      rw r.rows
      (all_joined _ _ (map (row_of o) lines) (all_map _ (row_of o) lines (all_weaken Feedless _ (λ l e. row_whole o p.mail (row_of o l) e) lines r.feedless)))

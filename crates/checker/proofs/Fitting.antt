-- The words of an undamaged line fit: after any U+00A0 of its own in front a word has a character that is no blank. With glue on, an
-- ordinary U+00A0 has ink after it.
use mathlib.Core.Path.{◌≡◌, refl, sym, ap, ◌∙◌, subst⁻¹}
use mathlib.Core.Bool.{Bool, true, false, cond, not, ◌&&◌, false≢true, true≢false, and-eq-true_iff}
use mathlib.Core.List.{List, [], ◌∷◌, ◌++◌, append_assoc}
use mathlib.Core.Logic.{◌⊎◌, inl, inr}
use Prim.Native.Nat.{ℕ, zero, suc, ◌+◌, ◌-◌}
use native.Mathlib.Omega.{arith}
use lib.Dec.{eqb}
use lib.ListN.{length, drop, replicate}
use lib.Seq.{drop-append_seam}
use borrow.Author.Tests.{eqb-true, not-true}
use Rattle.lists.specs.Walk.{piece, each}
use Rattle.lists.specs.Runs.{while, behind, every, joined}
use Rattle.lists.specs.Theorems.All.{All}
use Rattle.lists.proofs.Runs.{while_more, while_end, behind_more, behind_end}
use Rattle.lists.proofs.Parts.{while_nil, behind_nil, every_nil, every_cons, every_append, joined_nil, joined_cons}
use Rattle.lists.proofs.RunParts.{behind_fails}
use Rattle.lists.proofs.Extents.{walk_all}
use Rattle.widths.specs.WhiteSpace.{white_space}
use Rattle.text.specs.Rfc3629.{encode}
use Rattle.text.specs.Characters.{Glyph, glyph, characters, no_break, ordinary, ink_ahead, glued, glyphs, is_blank, is_good}
use Rattle.text.proofs.Glyphs.{Bytes, characters_induct}
use Rattle.text.proofs.Glue.{ahead_none, ahead_run, ahead_other, every_good}
use Rattle.options.specs.Opts.{Opts}
use Rattle.lines.specs.Lines.{no_feed}
use Rattle.lines.specs.Classes.{glyphs_from}
use Rattle.pieces.specs.Pieces.{Row}
use Rattle.words.specs.Words.{Run, is_ink, run_of, runs, glyph_bytes, bytes_of, punct_at_end, counting, word_of, line_words, mail_word, mail_words, row_words}
use Rattle.output.proofs.Indents.{Feedless}
use Rattle.checker.proofs.Codes.{Character, octets, good_read}
use Rattle.checker.proofs.Gaps.{Fits, WordFits}

-- ---- the characters of an undamaged text

record Sound (g : Glyph) : Type 0 where
  is_character : Character g.code
  bytes_are : g.bytes ≡ encode g.code
  is_blank : white_space g.code ≡ g.blank
  feedless : Feedless g.bytes

characters_sound : (xs : List ℕ) → every is_good (characters xs) ≡ true → Feedless xs → All Sound (characters xs)
characters_sound = characters_induct (λ ys gs. every is_good gs ≡ true → Feedless ys → All Sound gs) (λ e f. tt) turn
  where
    turn : (ys : List ℕ) (b : Bytes ys) → (every is_good (characters (drop b.n ys)) ≡ true → Feedless (drop b.n ys) → All Sound (characters (drop b.n ys)))
        → every is_good (glyph ys ∷ characters (drop b.n ys)) ≡ true → Feedless ys → All Sound (glyph ys ∷ characters (drop b.n ys))
    turn ys b rest e f =
        let k = (and-eq-true_iff (is_good (glyph ys)) (every is_good (characters (drop b.n ys)))).0 (rw every_cons at e) in
        let r = good_read ys (not-true (glyph ys).damaged k.0) in
        let n : b.n ≡ length (encode r.code) = sym b.count ∙ ap (λ (g : Glyph). length g.bytes) r.glyph_is in
        let s : drop b.n ys ≡ r.rest = ap (λ (i : ℕ). drop i ys) n ∙ ap (drop (length (encode r.code))) r.octets ∙ drop-append_seam (encode r.code) r.rest in
        let h = (and-eq-true_iff (every no_feed (encode r.code)) (every no_feed r.rest)).0 (sym (every_append no_feed (encode r.code) r.rest) ∙ ap (every no_feed) (sym r.octets) ∙ f) in
        (subst⁻¹ Sound r.glyph_is (record { is_character = r.is; bytes_are = refl; is_blank = refl; feedless = h.0 }), rest k.1 (ap (every no_feed) s ∙ h.1))

-- ---- the glyphs of a line

-- what words are asked for: a glyph is a character's; one that is ink is no blank character, or U+00A0 with glue on
record Good (glue : Bool) (g : Glyph) : Type 0 where
  is_character : Character g.code
  bytes_are : g.bytes ≡ encode g.code
  ink : no_break g ≡ false → g.blank ≡ false → white_space g.code ≡ false
  off : glue ≡ false → no_break g ≡ true → g.blank ≡ false → ⊥
  feedless : Feedless g.bytes

abbrev InkFirst : List Glyph → Type 0
InkFirst [] = ⊥
InkFirst (g ∷ gs) = g.blank ≡ false

-- after U+00A0 that is ink stands ink
abbrev Anchored : List Glyph → Type 0
Anchored [] = Unit {0}
Anchored (g ∷ gs) = (no_break g ≡ true → g.blank ≡ false → InkFirst gs) × Anchored gs

record Line (glue : Bool) (gs : List Glyph) : Type 0 where
  good : All (Good glue) gs
  anchored : Anchored gs

-- U+00A0 is a blank character
no_break_blank : (g : Glyph) → Sound g → no_break g ≡ true → g.blank ≡ true
unfolding white_space
no_break_blank g s h = sym s.is_blank ∙ ap white_space (eqb-true g.code 0xA0 h)

sound_good : (glue : Bool) (g : Glyph) → Sound g → Good glue g
sound_good glue g s = record {
  is_character = s.is_character;
  bytes_are = s.bytes_are;
  ink = λ n b. s.is_blank ∙ b;
  off = λ e n b. absurd (true≢false (sym (no_break_blank g s n) ∙ b));
  feedless = s.feedless;
}

ordinary_good : (g : Glyph) → Sound g → no_break g ≡ true → Good true (ordinary g)
ordinary_good g s h = record {
  is_character = s.is_character;
  bytes_are = s.bytes_are;
  ink = λ n b. absurd (true≢false (sym h ∙ n));
  off = λ e n b. absurd (true≢false e);
  feedless = s.feedless;
}

-- a character by itself, with a line after it
line_more : (glue : Bool) (g : Glyph) (gs : List Glyph) → Sound g → Line glue gs → Line glue (g ∷ gs)
line_more glue g gs s l = record { good = (sound_good glue g s, l.good); anchored = (λ n b. absurd (true≢false (sym (no_break_blank g s n) ∙ b)), l.anchored) }

glued_run : (ink : Bool) (g : Glyph) (gs : List Glyph) → no_break g ≡ true → glued ink (g ∷ gs) ≡ cond (ink && ink_ahead gs) (ordinary g) g ∷ glued ink gs
unfolding glued
glued_run ink g gs h = rw (h, glued)

glued_other : (ink : Bool) (g : Glyph) (gs : List Glyph) → no_break g ≡ false → glued ink (g ∷ gs) ≡ g ∷ glued (not g.blank) gs
unfolding glued
glued_other ink g gs h = rw (h, glued)

glued_none : (ink : Bool) → glued ink [] ≡ []
unfolding glued
glued_none ink = refl

ahead_first : (gs : List Glyph) → ink_ahead gs ≡ true → InkFirst (glued true gs)
ahead_first [] h = absurd (false≢true (sym ahead_none ∙ h))
ahead_first (g ∷ gs) h = go (no_break g) refl
  where
    go : (t : Bool) → no_break g ≡ t → InkFirst (glued true (g ∷ gs))
    go true e = let k : ink_ahead gs ≡ true = sym (ahead_run g gs e) ∙ h in rw (glued_run true g gs e, k) refl
    go false e = rw (glued_other true g gs e) (not-true g.blank (sym (ahead_other g gs e) ∙ h))

glued_line : (ink : Bool) (gs : List Glyph) → All Sound gs → Line true (glued ink gs)
glued_line ink [] a = rw (glued_none ink) (record { good = tt; anchored = tt })
glued_line ink (g ∷ gs) a = go (no_break g) refl (λ k. glued_line k gs a.1)
  where
    go : (t : Bool) → no_break g ≡ t → ((k : Bool) → Line true (glued k gs)) → Line true (glued ink (g ∷ gs))
    go true e rest = rw (glued_run ink g gs e) (pick ink (ink_ahead gs) refl refl)
      where
        pick : (i t : Bool) → ink ≡ i → ink_ahead gs ≡ t → Line true (cond (i && t) (ordinary g) g ∷ glued ink gs)
        pick true true ei et =
            let l = rest ink in
            record { good = (ordinary_good g a.0 e, l.good); anchored = (λ n b. rw ei (ahead_first gs et), l.anchored) }
        pick true false ei et = line_more true g (glued ink gs) a.0 (rest ink)
        pick false t ei et = line_more true g (glued ink gs) a.0 (rest ink)
    go false e rest = rw (glued_other ink g gs e) (line_more true g (glued (not g.blank) gs) a.0 (rest (not g.blank)))

characters_line : (gs : List Glyph) → All Sound gs → Line false gs
characters_line [] a = record { good = tt; anchored = tt }
characters_line (g ∷ gs) a = line_more false g gs a.0 (characters_line gs a.1)

glyphs_line : (glue : Bool) (text : List ℕ) → every is_good (glyphs glue text) ≡ true → Feedless text → Line glue (glyphs glue text)
unfolding glyphs
glyphs_line true text e f = glued_line false (characters text) (characters_sound text (sym (every_good true text) ∙ e) f)
glyphs_line false text e f = characters_line (characters text) (characters_sound text e f)

-- ---- what is after a place of a line

line_tail : (glue : Bool) (g : Glyph) (gs : List Glyph) → Line glue (g ∷ gs) → Line glue gs
line_tail glue g gs l = record { good = l.good.1; anchored = l.anchored.1 }

line_drop : (glue : Bool) (n : ℕ) (gs : List Glyph) → Line glue gs → Line glue (drop n gs)
line_drop glue zero gs l = l
line_drop glue (suc n) [] l = l
line_drop glue (suc n) (g ∷ gs) l = line_drop glue n gs (line_tail glue g gs l)

line_behind : (glue : Bool) (gs : List Glyph) → Line glue gs → Line glue (behind is_blank gs)
line_behind glue [] l = rw behind_nil l
line_behind glue (g ∷ gs) l = go g.blank refl (line_behind glue gs (line_tail glue g gs l))
  where
    go : (t : Bool) → g.blank ≡ t → Line glue (behind is_blank gs) → Line glue (behind is_blank (g ∷ gs))
    go true e ih = rw (behind_more is_blank g gs e) ih
    go false e ih = rw (behind_end is_blank g gs e) l

line_from : (glue : Bool) (place : ℕ) (gs : List Glyph) → Line glue gs → Line glue (glyphs_from place gs)
unfolding glyphs_from
line_from glue place [] l = l
line_from glue place (g ∷ gs) l = go (eqb place 0) (λ n. line_from glue n gs (line_tail glue g gs l))
  where
    go : (t : Bool) → ((n : ℕ) → Line glue (glyphs_from n gs)) → Line glue (elim t as (λ x. List Glyph) [ true ↦ g ∷ gs | false ↦ glyphs_from (place - length g.bytes) gs ])
    go true rest = l
    go false rest = rest (place - length g.bytes)

-- ---- words

-- ink fits
ink_feedless : (glue : Bool) (gs : List Glyph) → All (Good glue) gs → Feedless (bytes_of (while is_ink gs))
unfolding bytes_of
ink_feedless glue [] a = rw (while_nil, joined_nil) (every_nil no_feed)
ink_feedless glue (g ∷ gs) a = go g.blank refl (ink_feedless glue gs a.1)
  where
    go : (t : Bool) → g.blank ≡ t → Feedless (joined glyph_bytes (while is_ink gs)) → Feedless (joined glyph_bytes (while is_ink (g ∷ gs)))
    go true e ih = rw (while_stop, joined_nil) (every_nil no_feed)
      where
        while_stop : while is_ink (g ∷ gs) ≡ []
        while_stop = while_end is_ink g gs (ap not e)
    go false e ih = rw (while_more is_ink g gs (ap not e), joined_cons glyph_bytes g (while is_ink gs), every_append no_feed g.bytes (joined glyph_bytes (while is_ink gs)), a.0.feedless, ih)

ink_fits : (glue : Bool) (gs : List Glyph) → Line glue gs → InkFirst gs → Fits glue (bytes_of (while is_ink gs))
unfolding bytes_of
ink_fits glue [] l i = absurd i
ink_fits glue (g ∷ gs) l i = go (no_break g) refl (ink_fits glue gs (line_tail glue g gs l))
  where
    a : Good glue g
    a = l.good.0

    bytes : joined glyph_bytes (while is_ink (g ∷ gs)) ≡ encode g.code ++ joined glyph_bytes (while is_ink gs)
    bytes = ap (joined glyph_bytes) (while_more is_ink g gs (ap not i)) ∙ joined_cons glyph_bytes g (while is_ink gs) ∙ ap (λ (b : List ℕ). b ++ joined glyph_bytes (while is_ink gs)) a.bytes_are

    go : (t : Bool) → no_break g ≡ t → (InkFirst gs → Fits glue (joined glyph_bytes (while is_ink gs))) → Fits glue (joined glyph_bytes (while is_ink (g ∷ gs)))
    go true e more =
        let f = more (l.anchored.0 e i) in
        record {
          feedless = ink_feedless glue (g ∷ gs) l.good;
          count = suc f.count;
          none = λ z. absurd (a.off z e i);
          ink = f.ink;
          is_character = f.is_character;
          is_ink = f.is_ink;
          tail = f.tail;
          is =
              bytes
              ∙ ap (λ (c : ℕ). encode c ++ joined glyph_bytes (while is_ink gs)) (eqb-true g.code 0xA0 e)
              ∙ ap (λ (b : List ℕ). encode 0xA0 ++ b) f.is
              ∙ sym (append_assoc (encode 0xA0) (octets (replicate f.count 0xA0)) (encode f.ink ++ f.tail))
              ∙ ap (λ (b : List ℕ). b ++ (encode f.ink ++ f.tail)) (sym (joined_cons encode 0xA0 (replicate f.count 0xA0)));
        }
    go false e more = record {
      feedless = ink_feedless glue (g ∷ gs) l.good;
      count = 0;
      none = λ z. refl;
      ink = g.code;
      is_character = a.is_character;
      is_ink = a.ink e i;
      tail = joined glyph_bytes (while is_ink gs);
      is = bytes ∙ ap (λ (b : List ℕ). b ++ (encode g.code ++ joined glyph_bytes (while is_ink gs))) (sym (joined_nil encode));
    }

-- a run's word
abbrev RunFits : Bool → Run → Type 0
RunFits glue r = (r.text ≡ []) ⊎ Fits glue (bytes_of r.text)

run_fits : (glue : Bool) (gs : List Glyph) → Line glue gs → RunFits glue (run_of gs)
unfolding run_of
run_fits glue gs l = go (behind is_blank gs) refl (line_behind glue gs l)
  where
    go : (xs : List Glyph) → behind is_blank gs ≡ xs → Line glue (behind is_blank gs) → RunFits glue (run_of gs)
    go [] e k = inl (ap (while is_ink) e ∙ while_nil is_ink)
    go (x ∷ xs) e k = inr (ink_fits glue (behind is_blank gs) k (first (behind is_blank gs) e e))
      where
        first : (ys : List Glyph) → ys ≡ x ∷ xs → behind is_blank gs ≡ x ∷ xs → InkFirst ys
        first ys q h = rw q (behind_fails is_blank gs h)

runs_fit : (glue : Bool) (gs : List Glyph) → Line glue gs → All (RunFits glue) (runs gs)
unfolding runs each piece
runs_fit glue gs l = walk_all (piece (λ gs. let r = run_of gs in length r.blanks + length r.text - 1) run_of) (RunFits glue) (Line glue) (line_drop glue) (λ s ys h k. run_fits glue ys k) tt gs l

some_fits : (glue : Bool) (r : Run) (g : Glyph) (gs : List Glyph) → r.text ≡ g ∷ gs → RunFits glue r → Fits glue (bytes_of r.text)
some_fits glue r g gs e (inl z) = absurd (let q = sym z ∙ e in let y : ◌≡◌ {A = ℕ} 0 1 = cc in omega arith)
some_fits glue r g gs e (inr f) = f

line_words_law : (glue : Bool) (count : List Glyph → ℕ) (o : Opts) (new_line previousPunct : Bool) (rs : List Run) → All (RunFits glue) rs → All (WordFits glue) (line_words count o new_line previousPunct rs)
unfolding line_words word_of
line_words_law glue count o new_line previousPunct [] a = tt
line_words_law glue count o new_line previousPunct (r ∷ rs) a = go r.text refl (line_words_law glue count o false (punct_at_end r.text) rs a.1)
  where
    go : (t : List Glyph) → r.text ≡ t → All (WordFits glue) (line_words count o false (punct_at_end r.text) rs) → All (WordFits glue) (line_words count o new_line previousPunct (r ∷ rs))
    go [] e ih = rw (line_words, e) tt
    go (g ∷ t) e ih = let f = some_fits glue r g t e a.0 in rw (line_words, e) (f, ih)

mail_words_law : (glue : Bool) (rs : List Run) → All (RunFits glue) rs → All (WordFits glue) (mail_words rs)
unfolding mail_words mail_word
mail_words_law glue [] a = tt
mail_words_law glue (r ∷ rs) a = go r.text refl (mail_words_law glue rs a.1)
  where
    go : (t : List Glyph) → r.text ≡ t → All (WordFits glue) (mail_words rs) → All (WordFits glue) (mail_words (r ∷ rs))
    go [] e ih = rw (mail_words, e) tt
    go (g ∷ t) e ih = let f = some_fits glue r g t e a.0 in rw (mail_words, e) (f, ih)

pub row_fits : (o : Opts) (mail : Bool) (row : Row) → every is_good (glyphs o.glue row.text) ≡ true → Feedless row.text → All (WordFits o.glue) (row_words o mail row)
unfolding row_words
row_fits o true row e f = mail_words_law o.glue _ (runs_fit o.glue _ (glyphs_line o.glue row.text e f))
row_fits o false row e f =
    line_words_law o.glue (counting o.by_characters) o true false _ (runs_fit o.glue _ (line_from o.glue row.start _ (glyphs_line o.glue row.text e f)))

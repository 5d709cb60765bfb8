-- How many words there are at most: of a line's bytes, and of lines', every second one at most begins a word.
use mathlib.Core.Path.{◌≡◌, refl, sym, ap, ◌∙◌}
use mathlib.Core.Bool.{Bool, true, false}
use mathlib.Core.List.{List, [], ◌∷◌, ◌++◌}
use Prim.Native.Nat.{ℕ, zero, suc, ◌+◌, ◌-◌, ◌*◌, ◌≤◌}
use native.Mathlib.Omega.{arith}
use lib.ListN.{length, drop, length-append, length-drop}
use Rattle.lists.specs.Runs.{joined}
use Rattle.lists.specs.Theorems.All.{All}
use Rattle.lists.proofs.Parts.{joined_cons}
use Rattle.lists.proofs.Walk.{each_nil, each_step}
use Rattle.text.specs.Characters.{Glyph, glyphs}
use Rattle.text.proofs.Extents.{Sound as SoundGlyph, glyphs_sound}
use Rattle.text.proofs.Edges.{glyphs_joined}
use Rattle.options.specs.Opts.{Opts}
use Rattle.lines.specs.Lines.{body, first_line, lines_of}
use Rattle.lines.specs.Classes.{glyphs_before, glyphs_from}
use Rattle.lines.specs.Cited.Places.{lengths_of}
use Rattle.lines.proofs.Lines.{text_in_body, body_within}
use Rattle.lines.proofs.Ink.{up_to_from}
use Rattle.pieces.specs.Pieces.{Row}
use Rattle.words.specs.Words.{Run, counting, punct_at_end, line_words, mail_words, glyph_bytes, runs, row_words}
use Rattle.words.specs.Cited.Places.{words_at}
use Rattle.words.proofs.Spelled.{Parted, Splits, runs_split}
use Rattle.words.proofs.Gaps.{line_lined, from_lined}
use Rattle.words.proofs.Rows.{rows_none, rows_first}

-- ---- a line: a word has a glyph, and a blank between it and the one before

-- of glyphs that begin with a blank, if there are any, every second one at most begins a word
module _ (glue : Bool) where
  -- the words of runs, by their number alone
  inked : List Run → ℕ
  inked [] = 0
  inked (r ∷ rs) = elim r.text as (λ t. ℕ) [ [] ↦ 0 | g ∷ (gs → h) ↦ suc (inked rs) ]

  inked_few : (rs : List Run) (gs : List Glyph) → Splits glue rs gs → (2 * inked rs ≤ length gs + 1) × (Parted glue gs → 2 * inked rs ≤ length gs)
  unfolding inked
  inked_few [] gs s = (omega arith, λ p. omega arith)
  inked_few (r ∷ rs) gs s = go r.text refl ((inked_few rs s.0 s.2).1 s.1.next)
    where
      parts : length gs ≡ length r.blanks + (length r.text + length s.0)
      parts = ap length s.1.parts ∙ length-append r.blanks (r.text ++ s.0) ∙ ap (λ (n : ℕ). length r.blanks + n) (length-append r.text s.0)

      go : (t : List Glyph) → r.text ≡ t → 2 * inked rs ≤ length s.0 → (2 * inked (r ∷ rs) ≤ length gs + 1) × (Parted glue gs → 2 * inked (r ∷ rs) ≤ length gs)
      go [] e ih = (rw (inked, e) (omega arith), λ p. rw (inked, e) (omega arith))
      go (g ∷ t) e ih =
          let n = ap length e in
          (rw (inked, e) (omega (arith, parts, n, ih)), λ p. let b = p.first (omega (arith, parts, n)) in let k = ap length s.1.lead in rw (inked, e) (omega (arith, parts, n, ih, b, k)))

  line_inked : (count : List Glyph → ℕ) (o : Opts) (new_line punct : Bool) (rs : List Run) → length (line_words count o new_line punct rs) ≡ inked rs
  unfolding inked line_words
  line_inked count o new_line punct [] = refl
  line_inked count o new_line punct (r ∷ rs) = go r.text refl (line_inked count o false (punct_at_end r.text) rs)
    where
      go : (t : List Glyph) → r.text ≡ t → length (line_words count o false (punct_at_end r.text) rs) ≡ inked rs → length (line_words count o new_line punct (r ∷ rs)) ≡ inked (r ∷ rs)
      go [] e ih = rw (line_words, inked, e)
      go (g ∷ t) e ih = rw (line_words, inked, e) (ap suc ih)

  mail_inked : (rs : List Run) → length (mail_words rs) ≡ inked rs
  unfolding inked mail_words
  mail_inked [] = refl
  mail_inked (r ∷ rs) = go r.text refl (mail_inked rs)
    where
      go : (t : List Glyph) → r.text ≡ t → length (mail_words rs) ≡ inked rs → length (mail_words (r ∷ rs)) ≡ inked (r ∷ rs)
      go [] e ih = rw (mail_words, inked, e)
      go (g ∷ t) e ih = rw (mail_words, inked, e) (ap suc ih)

pub bytes_many : (gs : List Glyph) → All SoundGlyph gs → length gs ≤ length (joined glyph_bytes gs)
bytes_many [] a = omega arith
bytes_many (g ∷ gs) a =
    let r = bytes_many gs a.1 in
    let k = a.0.some in
    rw (joined_cons, length-append) (omega arith)

pub row_half : (o : Opts) (mail : Bool) (row : Row) → 2 * length (row_words o mail row) ≤ length row.text + 1
unfolding row_words
row_half o mail row = read mail
  where
    gs : List Glyph
    gs = glyphs o.glue row.text

    all : length gs ≤ length row.text
    all = let e = ap length (glyphs_joined o.glue row.text) in omega (arith, bytes_many gs (glyphs_sound o.glue row.text), e)

    read : (m : Bool) → 2 * length (row_words o m row) ≤ length row.text + 1
    read true =
        let k = (inked_few o.glue (runs gs) gs (runs_split o.glue gs (line_lined o.glue row.text))).0 in
        let n = mail_inked o.glue (runs gs) in
        omega (arith, all, k, n)
    read false =
        let rest = glyphs_from row.start gs in
        let k = (inked_few o.glue (runs rest) rest (runs_split o.glue rest (from_lined o.glue row.text row.start))).0 in
        let n = line_inked o.glue (counting o.by_characters) o true false (runs rest) in
        let e = sym (length-append (glyphs_before row.start gs) rest) ∙ ap length (up_to_from row.start gs) in
        omega (arith, all, k, n, e)

-- ---- a paragraph's lines: each but the last ends in a line feed, which is none of its text

-- a line whose body has so many bytes, and those after its line feed
lines_more : (a b body whole : ℕ) (behind : List ℕ) → 2 * a ≤ body + 1 → body ≤ whole → 2 * b ≤ length behind + 1 → length behind ≡ whole - suc body → (length behind ≡ 0 → b ≡ 0) → 2 * (a + b) ≤ whole + 1
lines_more a b body whole [] half in_whole rest size none = omega (arith, half, in_whole, none refl)
lines_more a b body whole (y ∷ ys) half in_whole rest size none = omega (arith, half, rest, size)

line_half : (o : Opts) (mail : Bool) (start : ℕ) (xs : List ℕ) → 2 * length (row_words o mail (record { text = (first_line xs).text; start = start })) ≤ length (body xs) + 1
unfolding lengths_of
line_half o mail start xs =
    let t : length (first_line xs).text ≤ length (body xs) = text_in_body xs (lengths_of (first_line xs)) refl in
    omega (arith, row_half o mail (record { text = (first_line xs).text; start = start }), t)

lines_upto : (o : Opts) (mail : Bool) (k : ℕ) (xs : List ℕ) → length xs ≤ k → (start later : ℕ) → (2 * length (words_at o mail start later (lines_of xs)) ≤ length xs + 1) × (length xs ≡ 0 → length (words_at o mail start later (lines_of xs)) ≡ 0)
unfolding lines_of
lines_upto o mail zero [] h start later = rw (each_nil (λ ys. length (body ys)) first_line, rows_none o mail start later) (omega arith, λ q. refl)
lines_upto o mail zero (x ∷ xs) h start later = absurd (omega arith)
lines_upto o mail (suc k) [] h start later = rw (each_nil (λ ys. length (body ys)) first_line, rows_none o mail start later) (omega arith, λ q. refl)
lines_upto o mail (suc k) (x ∷ xs) h start later =
    let n = suc (length (body (x ∷ xs))) in
    let d = length-drop n (x ∷ xs) in
    let r = lines_upto o mail k (drop n (x ∷ xs)) (omega (arith, d, h)) later later in
    (rw (each_step (λ ys. length (body ys)) first_line (x ∷ xs) (omega arith), rows_first o mail start later, length-append) (lines_more _ _ (length (body (x ∷ xs))) (suc (length xs)) (drop n (x ∷ xs)) (line_half o mail start (x ∷ xs)) (body_within (x ∷ xs)) r.0 d r.1), λ q. absurd (omega arith))

-- by their bytes
pub lines_half : (o : Opts) (mail : Bool) (start later : ℕ) (xs : List ℕ) → 2 * length (words_at o mail start later (lines_of xs)) ≤ length xs + 1
lines_half o mail start later xs = (lines_upto o mail (length xs) xs (omega arith) start later).0

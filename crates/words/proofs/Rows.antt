-- The words of a paragraph, line by line; and that they depend on no prefix.
use Rattle.std.proofs.Common.{Result}
use mathlib.Core.Path.{◌≡◌, refl, sym, ap, ap₂, ◌∙◌}
use mathlib.Core.Bool.{Bool, true, false, cond, not}
use mathlib.Core.List.{List, [], ◌∷◌, ◌++◌}
use Prim.Native.Nat.{ℕ, ◌+◌, ◌-◌, ◌≤◌, ◌<◌}
use native.Mathlib.Omega.{arith}
use lib.ListN.{length, take, drop, length-append, length-take, length-drop}
use lib.Seq.{slice, drop-drop, take-take, length-slice, length-take-le}
use Rattle.lists.proofs.Parts.{joined_append}
use Rattle.lists.specs.Runs.{while, joined}
use Rattle.text.specs.Characters.{Glyph, glyphs, is_blank, extent}
use Rattle.text.specs.Cited.Places.{ink_glyphs}
use Rattle.text.proofs.Edges.{glyphs_joined}
use Rattle.options.specs.Opts.{Opts, meant}
use Rattle.options.specs.declared.Options.{Options}
use Rattle.lines.specs.Lines.{Line, first_line, lines_of}
use Rattle.lines.specs.Classes.{glyphs_before, glyphs_from}
use Rattle.lines.specs.Cited.Places.{lengths_of}
use Rattle.lines.specs.declared.Extent.{Extent}
use Rattle.lists.proofs.Fronts.{part_to_end}
use Rattle.lines.proofs.Ink.{up_to_from}
use Rattle.lines.proofs.Lines.{LineHere, lines_past, line_here}
use Rattle.pieces.specs.Pieces.{Row}
use Rattle.pieces.specs.Cited.Bounds.{InkBegins, AllBegin}
use Rattle.records.specs.Word.{Word}
use Rattle.words.specs.Words.{Run, runs, glyph_bytes, bytes_of, counting, word_of, line_words, row_words}
use Rattle.words.specs.Places.{places_from, row_places, places_of}
use Rattle.words.specs.Cited.Places.{rows_at, words_at, places_at}
use Rattle.words.specs.Cited.Scan.{glyphs_behind, words_from}
use Rattle.words.specs.Cited.Split.{WordsFilled, Split}
use Rattle.words.specs.declared.TooMany.{TooMany}
use Rattle.words.proofs.WordRuns.{extent_bytes, behind_joined}
use Rattle.words.proofs.Filling.{filled_split}

-- ---- of the options, only uniform, tab, glue and the counting rule count

module _ (o : Options) (block : List ℕ) where
  line_same : (count : List Glyph → ℕ) (new_line previous : Bool) (rs : List Run) → line_words count (meant block o) new_line previous rs ≡ line_words count (meant [] o) new_line previous rs
  unfolding line_words word_of meant
  line_same count new_line previous [] = refl
  line_same count new_line previous (r ∷ rs) = pick r.text (ap (λ (l : List Word). word_of count (meant [] o) new_line previous r ∷ l) (line_same count false _ rs))
    where
      pick : (t : List Glyph) {a b : List Word} → a ≡ b → ◌≡◌ {A = List Word} (elim t as (λ t. List Word) [ [] ↦ [] | x ∷ (xs → y) ↦ a ]) (elim t as (λ t. List Word) [ [] ↦ [] | x ∷ (xs → y) ↦ b ])
      pick [] e = refl
      pick (x ∷ t) e = e

  row_same : (mail : Bool) (row : Row) → row_words (meant block o) mail row ≡ row_words (meant [] o) mail row
  unfolding row_words meant
  row_same true row = refl
  row_same false row = line_same (counting o.by_characters) true false _

  rows_same : (mail : Bool) (rows : List Row) → joined (row_words (meant block o) mail) rows ≡ joined (row_words (meant [] o) mail) rows
  unfolding joined
  rows_same mail [] = refl
  rows_same mail (row ∷ rows) = ap₂ (λ (l r : List Word). l ++ r) (row_same mail row) (rows_same mail rows)

  pub words_same : (mail : Bool) (start later : ℕ) (ls : List Line) → words_at (meant [] o) mail start later ls ≡ words_at (meant block o) mail start later ls
  unfolding words_at
  words_same mail start later ls = sym (rows_same mail (rows_at start later ls))

-- ---- line by line

module _ (o : Opts) (mail : Bool) (start later : ℕ) where
  pub rows_none : words_at o mail start later [] ≡ []
  unfolding words_at rows_at joined
  rows_none = refl

  pub places_nil : (glue : Bool) (at : ℕ) → places_at glue mail at start later [] ≡ []
  unfolding places_at places_of
  places_nil glue at = refl

  pub rows_first : (l : Line) (ls : List Line) → words_at o mail start later (l ∷ ls) ≡ row_words o mail (record { text = l.text; start = start }) ++ words_at o mail later later ls
  unfolding words_at rows_at joined
  rows_first l ls = refl

places_first : (glue mail : Bool) (at start later : ℕ) (l : Line) (ls : List Line) → places_at glue mail at start later (l ∷ ls)
    ≡ row_places glue mail at (record { text = l.text; start = start }) ++ places_at glue mail (at + length l.raw) later later ls
unfolding places_at places_of rows_at
places_first glue mail at start later l ls = refl

begin_first : (glue : Bool) (start later : ℕ) (l : Line) (ls : List Line) → AllBegin glue start later (l ∷ ls) → InkBegins glue start l.text × AllBegin glue later later ls
unfolding AllBegin
begin_first glue start later l ls a = a

-- the bytes before the place where a line's words begin
indent_extent : (glue : Bool) (start : ℕ) (text : List ℕ) → InkBegins glue start text → extent (glyphs_before start (glyphs glue text)) ≡ start
unfolding bytes_of
indent_extent glue start text b =
    let gs = glyphs glue text in
    let whole : joined glyph_bytes (glyphs_before start gs) ++ joined glyph_bytes (glyphs_from start gs) ≡ text =
    sym (joined_append glyph_bytes (glyphs_before start gs) (glyphs_from start gs)) ∙ ap (joined glyph_bytes) (up_to_from start gs) ∙ glyphs_joined glue text in
    let rest : joined glyph_bytes (glyphs_from start gs) ≡ drop start text = ap (joined glyph_bytes) b.glyph ∙ behind_joined glue true (drop start text) in
    omega (arith, b.within, extent_bytes (glyphs_before start gs), simp length-append at (ap length whole), ap length rest, length-drop start text)

row_places_law : (glue mail : Bool) (at : ℕ) (text : List ℕ) (start : ℕ) → (mail ≡ false → InkBegins glue start text)
    → row_places glue mail at (record { text = text; start = start }) ≡ places_from (at + cond mail 0 start) (runs (glyphs_behind glue (not mail) (drop (cond mail 0 start) text)))
unfolding row_places
row_places_law glue true at text start b = let z : at + 0 ≡ at = omega arith in rw z
row_places_law glue false at text start b = rw (indent_extent glue start text (b refl), (b refl).glyph)

row_words_law : (o : Opts) (mail : Bool) (text : List ℕ) (start : ℕ) → (mail ≡ false → InkBegins o.glue start text)
    → row_words o mail (record { text = text; start = start }) ≡ words_from o mail (not mail) false (glyphs_behind o.glue (not mail) (drop (cond mail 0 start) text))
unfolding row_words words_from
row_words_law o true text start b = refl
row_words_law o false text start b = rw (b refl).glyph

-- the line at a place i of the notes up to next, of which e are the lengths
pub record LineAt (o : Opts) (mail : Bool) (skip later : ℕ) (notes : List ℕ) (next i : ℕ) (e : Extent) : Type 0 where
  pub on : 0 < e.whole
  pub shorter : e.text ≤ e.whole
  pub within : i + e.whole ≤ next
  pub starts : mail ≡ false → skip ≤ e.text
  pub begins : cond mail 0 skip ≤ e.text
  pub words : words_at o mail skip later (lines_of (slice i next notes))
      ≡ words_from o mail (not mail) false (glyphs_behind o.glue (not mail) (slice (i + cond mail 0 skip) (i + e.text) notes)) ++ words_at o mail later later (lines_of (slice (i + e.whole) next notes))
  pub places : places_at o.glue mail i skip later (lines_of (slice i next notes))
      ≡ places_from (i + cond mail 0 skip) (runs (glyphs_behind o.glue (not mail) (slice (i + cond mail 0 skip) (i + e.text) notes))) ++ places_at o.glue mail (i + e.whole) later later (lines_of (slice (i + e.whole) next notes))
  pub ink : mail ≡ false → while is_blank (ink_glyphs o.glue (slice (i + cond mail 0 skip) (i + e.text) notes)) ≡ []
  pub rest : mail ≡ false → AllBegin o.glue later later (lines_of (slice (i + e.whole) next notes))

module _ (o : Opts) (mail : Bool) (skip later : ℕ) (notes : List ℕ) (next i : ℕ) (e : Extent) where
  pub line_at : i < next → next ≤ length notes → e ≡ lengths_of (first_line (slice i next notes)) → (mail ≡ false → AllBegin o.glue skip later (lines_of (slice i next notes))) → LineAt o mail skip later notes next i e
  line_at more fits q begins = record {
    on = here.on;
    shorter = here.shorter;
    within = omega (arith, here.within, sized);
    starts = starts;
    begins = low mail starts;
    words = rw (here.first, rows_first o mail skip later, row_words_law o mail line.text skip (λ m. (begin m).0), text, drop-drop (cond mail 0 skip) i (take (i + e.text) notes));
    places = rw (here.first, places_first o.glue mail i skip later, row_places_law o.glue mail i line.text skip (λ m. (begin m).0), text, drop-drop (cond mail 0 skip) i (take (i + e.text) notes), size);
    ink = λ m. rw (m, ← drop-drop skip i (take (i + e.text) notes), ← text) (begin m).0.ink;
    rest = λ m. (begin m).1;
  }
    where
      low : (m : Bool) → (m ≡ false → skip ≤ e.text) → cond m 0 skip ≤ e.text
      low true h = omega arith
      low false h = h refl

      sized : length (take next notes) ≡ next
      sized = length-take-le next notes fits

      here : LineHere (take next notes) i e
      here = line_here (take next notes) i e (omega (arith, sized)) q

      line : Line
      line = first_line (slice i next notes)

      size : length line.raw ≡ e.whole
      size = rw (here.raw, length-slice i (i + e.whole) (take next notes) here.within) (omega arith)

      begin : mail ≡ false → InkBegins o.glue skip line.text × AllBegin o.glue later later (lines_of (slice (i + e.whole) next notes))
      begin m = begin_first o.glue skip later line _ (rw here.first at (begins m))

      text : line.text ≡ slice i (i + e.text) notes
      text = here.text ∙ ap (drop i) (take-take (i + e.text) next notes (omega (arith, here.within, here.shorter, sized)))

      count : length line.text ≡ e.text
      count = rw (text, length-slice i (i + e.text) notes (omega (arith, here.within, here.shorter, sized))) (omega arith)

      starts : mail ≡ false → skip ≤ e.text
      starts m = rw count at (begin m).0.within

-- where its words begin, and from the answer of first_line there
module _ (o : Opts) (mail : Bool) (skip later : ℕ) (notes : List ℕ) (next i : ℕ) (more : i < next) (fits : next ≤ length notes) (begins : mail ≡ false → AllBegin o.glue skip later (lines_of (slice i next notes))) where
  pub begins_within : (mail ≡ false → i + skip ≤ next) × (i + cond mail 0 skip ≤ next)
  begins_within = let line = line_at o mail skip later notes next i _ more fits refl begins in (λ m. omega (arith, line.starts m, line.shorter, line.within), omega (arith, line.begins, line.shorter, line.within))

  pub line_read : (e : Extent) → e ≡ lengths_of (first_line (take (length (take next notes) - i) (drop i (take next notes)))) → LineAt o mail skip later notes next i e
  line_read e q = line_at o mail skip later notes next i e more fits (q ∙ ap (λ (l : List ℕ). lengths_of (first_line l)) (part_to_end i (take next notes))) begins

pub lines_end : (o : Opts) (mail : Bool) (skip later : ℕ) (notes : List ℕ) (next i : ℕ) → next ≤ i → words_at o mail skip later (lines_of (slice i next notes)) ≡ []
lines_end o mail skip later notes next i h = rw (lines_past (take next notes) i (rw length-take (omega arith))) (rows_none o mail skip later)

pub places_end : (o : Opts) (mail : Bool) (skip later : ℕ) (notes : List ℕ) (next i : ℕ) → next ≤ i → places_at o.glue mail i skip later (lines_of (slice i next notes)) ≡ []
places_end o mail skip later notes next i h = rw (lines_past (take next notes) i (rw length-take (omega arith))) (places_nil o mail skip later o.glue i)

-- so the table filled answers for every block
pub filled_words : (most : ℕ) (notes t ps : List ℕ) (r : Result ℕ TooMany) (o : Options) (mail : Bool) (start later : ℕ) (ls : List Line) → WordsFilled most notes (words_at (meant [] o) mail start later ls) ps t r
    → (block : List ℕ) → Split most notes (words_at (meant block o) mail start later ls) ps t r
filled_words most notes t ps r o mail start later ls f block = rw (words_same o block mail start later ls) at (filled_split most notes (words_at (meant [] o) mail start later ls) ps t r f)

-- How long a piece's output gets: at most 1,040 bytes for each byte of the notes that it takes, if it has no more than 1,024 words; with any
-- number of words, not so many that the sums of the walk leave 64 bits.
use mathlib.Core.Path.{◌≡◌, refl, sym, ap, ◌∙◌}
use mathlib.Core.Bool.{Bool, true, false, cond, ◌||◌}
use mathlib.Core.List.{List, [], ◌∷◌, ◌++◌, map}
use Prim.Native.Nat.{ℕ, ◌+◌, ◌-◌, ◌*◌, ◌≤◌}
use native.Mathlib.Nat.{mul-le-mul}
use native.Mathlib.Omega.{arith}
use lib.Dec.{ltb}
use lib.ListN.{length, replicate, length-append, length-replicate}
use lib.Seq.{slice, length-slice}
use borrow.Author.Tests.{ltb-true, ltb-false}
use Rattle.lists.specs.Runs.{joined}
use Rattle.lists.specs.Theorems.All.{All}
use Rattle.lists.proofs.Parts.{joined_nil, joined_cons, joined_append}
use Rattle.lists.proofs.Extents.{each_all}
use Rattle.text.specs.Characters.{Glyph, glyphs}
use Rattle.text.proofs.Edges.{glyphs_joined}
use Rattle.options.specs.Opts.{Opts}
use Rattle.lines.specs.Lines.{Line, body, first_line, lines_of}
use Rattle.lines.specs.Classes.{glyphs_before, glyphs_from}
use Rattle.lines.specs.Cited.Places.{most_large, lengths_of}
use Rattle.lines.proofs.Lines.{lengths}
use Rattle.lines.proofs.Extents.{lines_extents}
use Rattle.lines.proofs.Ink.{up_to_from}
use Rattle.pieces.specs.Pieces.{Row, Indent, Paragraph, row_of}
use Rattle.pieces.specs.Cited.Places.{taken}
use Rattle.pieces.specs.declared.Margin.{Margin}
use Rattle.pieces.specs.declared.Paragraph.{Paragraph as ParagraphAt}
use Rattle.pieces.specs.Cited.Bounds.{MarginWithin, ParagraphWithin}
use Rattle.pieces.proofs.Following.{taken_more}
use Rattle.pieces.proofs.Indents.{MarginIs}
use Rattle.pieces.proofs.Meaning.{TextIs}
use Rattle.records.specs.Word.{Word}
use Rattle.words.specs.Words.{bytes_of, row_words, words_of}
use Rattle.words.proofs.Spelled.{Spelled, row_spelled}
use Rattle.words.proofs.Order.{Whole, paragraph_whole}
use Rattle.output.specs.Emission.{emit}
use Rattle.output.specs.Cited.Bound.{bulk, longest}
use Rattle.output.proofs.Bound.{emit_most}
use Rattle.paragraphs.specs.Breaks.{setting_of, breaks_by}
use Rattle.walk.specs.Digest.{formatted, most_words}
use Rattle.walk.specs.Cited.Course.{most_per_byte}

-- ---- the words of a line have no more bytes than the line

bytes_append : (a b : List Glyph) → length (bytes_of (a ++ b)) ≡ length (bytes_of a) + length (bytes_of b)
unfolding bytes_of
bytes_append a b = rw joined_append (length-append (bytes_of a) (bytes_of b))

spelled_bulk : (glue uniform : Bool) (ws : List Word) (gs : List Glyph) → Spelled glue uniform ws gs → bulk ws ≤ length (bytes_of gs)
unfolding bulk
spelled_bulk glue uniform [] gs s = omega arith
spelled_bulk glue uniform (w ∷ ws) gs s =
    let b = s.1 in
    let r = spelled_bulk glue uniform ws s.0 s.2 in
    let p = ap (λ (l : List Glyph). length (bytes_of l)) b.parts ∙ bytes_append b.blanks (b.ink ++ s.0) in
    let q = bytes_append b.ink s.0 in
    let t = ap length b.text in
    let c = ap length b.before in
    let d = held uniform (bytes_of b.blanks) in
    omega arith
  where
    held : (u : Bool) (xs : List ℕ) → length (cond u [] xs) ≤ length xs
    held true xs = omega arith
    held false xs = omega arith

row_bulk : (o : Opts) (mail : Bool) (row : Row) → bulk (row_words o mail row) ≤ length row.text
unfolding bytes_of
row_bulk o mail row = omega (arith, spelled_bulk o.glue (o.uniform || mail) (row_words o mail row) (cond mail gs (glyphs_from row.start gs)) (row_spelled o mail row), read mail)
  where
    gs : List Glyph
    gs = glyphs o.glue row.text

    all : length (bytes_of gs) ≡ length row.text
    all = ap length (glyphs_joined o.glue row.text)

    read : (m : Bool) → length (bytes_of (cond m gs (glyphs_from row.start gs))) ≤ length row.text
    read true = omega (arith, all)
    read false = omega (arith, all, sym (bytes_append (glyphs_before row.start gs) (glyphs_from row.start gs)) ∙ ap (λ (l : List Glyph). length (bytes_of l)) (up_to_from row.start gs))

-- ---- nor the words of lines

abbrev pub Shorter : Line → Type 0
Shorter l = length l.text ≤ length l.raw

pub lines_shorter : (xs : List ℕ) → All Shorter (lines_of xs)
unfolding lines_of lengths_of
lines_shorter xs = each_all (λ ys. length (body ys)) first_line Shorter (λ ys h. (lengths ys (lengths_of (first_line ys)) refl).shorter) xs

bulk_append : (a b : List Word) → bulk (a ++ b) ≡ bulk a + bulk b
unfolding bulk
bulk_append [] b = omega arith
bulk_append (w ∷ a) b = omega (arith, bulk_append a b)

rows_bulk : (o : Opts) (mail : Bool) (ls : List Line) → All Shorter ls → bulk (joined (row_words o mail) (map (row_of o) ls)) ≤ taken ls
unfolding bulk row_of
rows_bulk o mail [] s = rw joined_nil (omega arith)
rows_bulk o mail (l ∷ ls) s =
    let a = s.0 in
    let r = rows_bulk o mail ls s.1 in
    let k = row_bulk o mail (row_of o l) in
    rw (joined_cons, bulk_append, taken_more) (omega arith)

-- each word has a byte: there are no more words than bytes
words_bytes : (glue uniform : Bool) (ws : List Word) → All (Whole glue uniform) ws → length ws ≤ bulk ws
unfolding bulk
words_bytes glue uniform [] a = omega arith
words_bytes glue uniform (w ∷ ws) a = omega (arith, a.0.some, words_bytes glue uniform ws a.1)

-- ---- a paragraph

-- no more than 1,024 words, nor than there are bytes, each with no more bytes before it than there are and six: 1,030 for each byte
before_words : (words each bytes : ℕ) → words ≤ 1024 → words ≤ bytes → each ≤ bytes + 6 → words * each ≤ 1030 * bytes
before_words words each bytes few fewer e = go (ltb bytes 1024) refl
  where
    go : (t : Bool) → ltb bytes 1024 ≡ t → words * each ≤ 1030 * bytes
    go true t =
        let b = ltb-true bytes 1024 t in
        let m = mul-le-mul {n₁ = words} {n₂ = bytes} fewer (let z : each ≤ 1030 = omega arith in z) in
        omega arith
    go false t =
        let b = ltb-false bytes 1024 t in
        let m = mul-le-mul {n₁ = words} {n₂ = 1024} few e in
        omega arith

module _ (o : Opts) (notes : List ℕ) (at : ℕ) (p : ParagraphAt) (q : Paragraph) (t : TextIs o notes at p q) (within : ParagraphWithin o.glue notes at p) where
  words_bulk : bulk (words_of o q) ≤ p.next - at
  unfolding words_of taken
  words_bulk =
      let b = rows_bulk o q.mail (lines_of (slice at p.next notes)) (lines_shorter (slice at p.next notes)) in
      let e = ap length (lines_extents (slice at p.next notes)) in
      let n = length-slice at p.next notes within.within in
      rw t.rows.rows (omega arith)

  pub words_few : length (words_of o q) ≤ p.next - at
  words_few =
      let w = paragraph_whole o (lines_of (slice at p.next notes)) q t.rows in
      omega (arith, words_bulk, words_bytes o.glue (o.uniform || q.mail) (words_of o q) w)

  margin_most : (m : Margin) (i : Indent) → MarginIs notes m i → MarginWithin at p.next m → length i.bytes ≤ p.next - at + 4
  margin_most m i h w =
      let n = length-slice m.start m.end notes (omega (arith, w.high, within.within)) in
      let l = length-append (slice m.start m.end notes) (replicate m.more 32) in
      let r = length-replicate {A = ℕ} m.more 32 in
      let b = ap length h.bytes in
      omega (arith, w.more, w.low, w.order, w.high)

  -- all but what is before the words
  words_most : (first indent : List ℕ) → length first ≤ p.next - at + 4 → longest first indent (words_of o q) ≤ 10 * (p.next - at) + length (words_of o q) * (length indent + 2)
  words_most first indent f =
      let b = words_bulk in
      let on = within.on in
      omega arith

  emitted_most : (first indent : List ℕ) (breaks : List Bool) → length first ≤ p.next - at + 4 → length indent ≤ p.next - at + 4 → length (words_of o q) ≤ most_words
      → length (emit (o.uniform || q.mail) first indent breaks (words_of o q)) + 1040 * at ≤ 1040 * p.next
  emitted_most first indent breaks f i few =
      let n = before_words (length (words_of o q)) (length indent + 2) (p.next - at) few words_few (omega arith) in
      let on = within.on in
      omega (arith, emit_most (o.uniform || q.mail) indent first breaks (words_of o q), words_most first indent f, n)

  -- what emission promises, with so many words
  pub text_most : length (words_of o q) ≤ most_words → longest q.first.bytes q.indent.bytes (words_of o q) + 1040 * at ≤ 1040 * p.next
  text_most few =
      let i = margin_most p.indent q.indent t.indent within.indent in
      let n = before_words (length (words_of o q)) (length q.indent.bytes + 2) (p.next - at) few words_few (omega (arith, i)) in
      let on = within.on in
      omega (arith, words_most q.first.bytes q.indent.bytes (margin_most p.first q.first t.first within.first), n)

  -- and with any number
  pub any_text_most : length notes ≤ most_large → longest q.first.bytes q.indent.bytes (words_of o q) + most_per_byte * at ≤ most_per_byte * p.next
  any_text_most short =
      let i = margin_most p.indent q.indent t.indent within.indent in
      let w = within.within in
      let n = mul-le-mul {n₁ = length (words_of o q)} {n₂ = p.next - at} words_few (let z : length q.indent.bytes + 2 ≤ 1048582 = omega (arith, i, w, short) in z) in
      let on = within.on in
      omega (arith, words_most q.first.bytes q.indent.bytes (margin_most p.first q.first t.first within.first), n)

  -- and what is defined
  pub formatted_most : length (words_of o q) ≤ most_words → length (formatted o q) + 1040 * at ≤ 1040 * p.next
  unfolding formatted
  formatted_most few =
      let f = margin_most p.first q.first t.first within.first in
      let i = margin_most p.indent q.indent t.indent within.indent in
      emitted_most _ _ (breaks_by (o.quick || q.mail) (setting_of o q.mail q.first.columns q.indent.columns) (words_of o q)) (omega (arith, f, i)) (omega (arith, f, i)) few

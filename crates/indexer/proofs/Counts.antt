-- Each piece of the notes has a line of output, and no more lines than it has bytes in the notes: a line for each word at most, and each
-- word has a byte.
use mathlib.Core.Path.{◌≡◌, refl, sym, ap, subst, ◌∙◌}
use mathlib.Core.Bool.{Bool, true, false, cond, ◌||◌}
use mathlib.Core.List.{List, [], ◌∷◌, ◌++◌, map, append_assoc}
use Prim.Native.Nat.{ℕ, suc, ◌+◌, ◌≤◌, ◌<◌}
use native.Mathlib.Omega.{arith}
use lib.ListN.{length, take, drop, length-append}
use lib.Seq.{drop-append-add}
use Rattle.lists.specs.Runs.{joined}
use Rattle.lists.specs.Theorems.All.{All}
use Rattle.lists.proofs.Parts.{every_nil, every_append, joined_nil, joined_cons}
use Rattle.lists.proofs.Walk.{each_nil, each_step}
use Rattle.lists.proofs.All.{all_drop, all_take}
use Rattle.lists.proofs.Extents.{walk_all}
use Rattle.text.specs.Characters.{Glyph, glyphs}
use Rattle.text.proofs.Extents.{glyphs_sound}
use Rattle.text.proofs.Edges.{glyphs_joined}
use Rattle.options.specs.Opts.{Opts}
use Rattle.lines.specs.Lines.{Line, no_feed, body, first_line, lines_of}
use Rattle.lines.specs.Classes.{glyphs_before, glyphs_from, classify}
use Rattle.lines.specs.declared.Class.{Class}
use Rattle.lines.specs.declared.Class.TheVariants.{Blank, Plain, Formatted}
use Rattle.lines.proofs.Lines.{feedless_body}
use Rattle.lines.proofs.Extents.{lines_some, lines_feedless}
use Rattle.lines.proofs.Ink.{up_to_from}
use Rattle.pieces.specs.Pieces.{Row, Paragraph, Kind, Piece, blank_line, plain_line, paragraph, further, starts_mail, first_indent, indent_for, row_of, paragraph_at, piece_as, next_piece}
use Rattle.pieces.specs.Cited.Places.{raw_bytes}
use Rattle.pieces.proofs.Columns.{spaces_feedless, feedless_append, first_feedless}
use Rattle.pieces.proofs.Extents.{Feedless, Rows}
use Rattle.records.specs.Word.{Word}
use Rattle.words.specs.Words.{row_words, words_of}
use Rattle.words.proofs.Halves.{bytes_many}
use Rattle.words.proofs.Spelled.{Spelled, row_spelled}
use Rattle.words.proofs.Order.{Whole, paragraph_some, paragraph_whole}
use Rattle.output.specs.Emission.{line_feed, space_before, emit_rest, emit}
use Rattle.output.proofs.Indents.{Feedless as Feed, indent_for_feedless}
use Rattle.walk.specs.Digest.{formatted, output_of, extent_of}
use Rattle.walk.specs.Cited.Course.{pieces_from}
use Rattle.walk.proofs.Bound.{Shorter, lines_shorter}
use Rattle.indexer.specs.Index.{line_count}

-- ---- the lines of a text, counted

abbrev count : List ℕ → ℕ
count xs = length (lines_of xs)

count_none : count [] ≡ 0
unfolding lines_of
count_none = ap length (each_nil (λ xs. length (body xs)) first_line)

count_more : (t rest : List ℕ) → Feed t → count (t ++ 10 ∷ rest) ≡ suc (count rest)
unfolding lines_of
count_more t rest f =
    let n : suc (length (body (t ++ 10 ∷ rest))) ≡ length t + 1 = let b = ap length (feedless_body t rest f) in omega (arith, b) in
    let l = length-append t (10 ∷ rest) in
    ap length (each_step (λ xs. length (body xs)) first_line (t ++ 10 ∷ rest) (omega arith))
    ∙ ap (λ (k : ℕ). suc (count (drop k (t ++ 10 ∷ rest)))) n
    ∙ ap (λ (xs : List ℕ). suc (count xs)) (drop-append-add t (10 ∷ rest) 1)

count_one : (t : List ℕ) → Feed t → count (t ++ line_feed) ≡ 1
count_one t f = count_more t [] f ∙ ap suc count_none

-- ---- a paragraph has no more lines than words

abbrev Between : ℕ → ℕ → Type 0
Between most n = (1 ≤ n) × (n ≤ most)

-- a word after a line that stands so far, on the same line and on the next
goes_on : (line space text rest : List ℕ) (n : ℕ) → Between n (count ((line ++ (space ++ text)) ++ rest)) → Between (suc n) (count (line ++ (space ++ (text ++ rest))))
goes_on line space text rest n r =
    let e = ap count (ap (λ (xs : List ℕ). line ++ xs) (sym (append_assoc space text rest)) ∙ sym (append_assoc line (space ++ text) rest)) in
    (omega (arith, e, r.0), omega (arith, e, r.1))

breaks : (line indent text rest : List ℕ) (n : ℕ) → Feed line → Between n (count ((indent ++ text) ++ rest)) → Between (suc n) (count (line ++ (10 ∷ indent ++ (text ++ rest))))
breaks line indent text rest n f r =
    let e = count_more line (indent ++ (text ++ rest)) f ∙ ap (λ (xs : List ℕ). suc (count xs)) (sym (append_assoc indent text rest)) in
    (omega (arith, e, r.0), omega (arith, e, r.1))

pub space_feed : (glue uniform punct : Bool) (w : Word) → Whole glue uniform w → Feed (space_before uniform punct w ++ w.text)
unfolding space_before
space_feed glue uniform punct w h = rw (every_append, every_append, spaces_feedless, h.blanks_feedless, h.feedless)

module _ (glue uniform : Bool) (indent : List ℕ) (i : Feed indent) where
  rest_lines : (line : List ℕ) (punct : Bool) (bs : List Bool) (ws : List Word) → Feed line → All (Whole glue uniform) ws
      → Between (suc (length ws)) (count (line ++ emit_rest uniform indent punct bs ws))
  unfolding emit_rest
  rest_lines line punct bs [] l a = let c = count_one line l in (omega (arith, c), omega (arith, c))
  rest_lines line punct [] (w ∷ ws) l a =
      goes_on line (space_before uniform punct w) w.text (emit_rest uniform indent w.ends_punct [] ws) (suc (length ws))
      (rest_lines (line ++ (space_before uniform punct w ++ w.text)) w.ends_punct [] ws (feedless_append line (space_before uniform punct w ++ w.text) l (space_feed glue uniform punct w a.0)) a.1)
  rest_lines line punct (false ∷ bs) (w ∷ ws) l a =
      goes_on line (space_before uniform punct w) w.text (emit_rest uniform indent w.ends_punct bs ws) (suc (length ws))
      (rest_lines (line ++ (space_before uniform punct w ++ w.text)) w.ends_punct bs ws (feedless_append line (space_before uniform punct w ++ w.text) l (space_feed glue uniform punct w a.0)) a.1)
  rest_lines line punct (true ∷ bs) (w ∷ ws) l a =
      breaks line indent w.text (emit_rest uniform indent w.ends_punct bs ws) (suc (length ws)) l
      (rest_lines (indent ++ w.text) w.ends_punct bs ws (feedless_append indent w.text i a.0.feedless) a.1)

  emit_lines : (first : List ℕ) (bs : List Bool) (ws : List Word) → Feed first → 0 < length ws → All (Whole glue uniform) ws → Between (length ws) (count (emit uniform first indent bs ws))
  unfolding emit
  emit_lines first bs [] f h a = absurd (omega arith)
  emit_lines first bs (w ∷ ws) f h a =
      let r = rest_lines (first ++ w.text) false bs ws (feedless_append first w.text f a.0.feedless) a.1 in
      let e = ap count (append_assoc first w.text (emit_rest uniform indent false bs ws)) in
      (omega (arith, e, r.0), omega (arith, e, r.1))

-- ---- lines have no more words than bytes

spelled_few : (glue uniform : Bool) (ws : List Word) (gs : List Glyph) → Spelled glue uniform ws gs → length ws ≤ length gs
spelled_few glue uniform [] gs s = omega arith
spelled_few glue uniform (w ∷ ws) gs s =
    let b = s.1 in
    let r = spelled_few glue uniform ws s.0 s.2 in
    let p = ap length b.parts ∙ length-append b.blanks (b.ink ++ s.0) in
    let q = length-append b.ink s.0 in
    omega (arith, p, q, r, b.some)

row_few : (o : Opts) (mail : Bool) (row : Row) → length (row_words o mail row) ≤ length row.text
row_few o mail row = let r = read mail in omega (arith, spelled_few o.glue (o.uniform || mail) (row_words o mail row) _ (row_spelled o mail row), r)
  where
    gs : List Glyph
    gs = glyphs o.glue row.text

    all : length gs ≤ length row.text
    all = let e = ap length (glyphs_joined o.glue row.text) in omega (arith, bytes_many gs (glyphs_sound o.glue row.text), e)

    read : (m : Bool) → length (cond m gs (glyphs_from row.start gs)) ≤ length row.text
    read true = all
    read false = let e = sym (length-append (glyphs_before row.start gs) (glyphs_from row.start gs)) ∙ ap length (up_to_from row.start gs) in omega (arith, all, e)

rows_few : (o : Opts) (mail : Bool) (ls : List Line) → All Shorter ls → length (joined (row_words o mail) (map (row_of o) ls)) ≤ length (joined raw_bytes ls)
unfolding row_of
rows_few o mail [] s = rw joined_nil (omega arith)
rows_few o mail (l ∷ ls) s =
    let a = s.0 in
    let r = rows_few o mail ls s.1 in
    let k = row_few o mail (row_of o l) in
    rw (joined_cons, joined_cons, length-append, length-append) (omega arith)

-- a line has a byte, and its text no more of them, and none of these is a line feed
abbrev Lines : List Line → Type 0
Lines ls = All (λ (l : Line). 0 < length l.raw) ls × All Shorter ls × All Feedless ls

module _ (o : Opts) where
  -- ---- a piece

  -- a piece of the notes has a line of output, and no more of them than bytes
  abbrev pub Counted : Piece → Type 0
  Counted q = (1 ≤ line_count o q) × (line_count o q ≤ length (extent_of q))

  one_counted : (l : Line) (k : Kind) → 0 < length l.raw → count (output_of o k) ≡ 1 → Counted (record { kind = k; lines = l ∷ [] })
  unfolding line_count extent_of
  one_counted l k h c = (omega (arith, c), rw (joined_cons, length-append) (omega (arith, c)))

  text_counted : (lines : List Line) (p : Paragraph) → Rows o lines p → All Shorter lines → Feed p.first.bytes → Feed p.indent.bytes → Counted (record { kind = paragraph p; lines = lines })
  unfolding line_count extent_of output_of formatted words_of
  text_counted lines p r s f i =
      let c = emit_lines o.glue (o.uniform || p.mail) p.indent.bytes i p.first.bytes _ (words_of o p) f (paragraph_some o lines p r) (paragraph_whole o lines p r) in
      let w : length (words_of o p) ≤ length (joined raw_bytes lines) = rw r.rows (rows_few o p.mail lines s) in
      (c.0, omega (arith, c.1, w))

  next_counted : (nextMail : Bool) (ls : List Line) → 0 < length ls → Lines ls → Counted (next_piece o nextMail ls).item
  unfolding next_piece paragraph_at output_of
  next_counted nextMail [] h f = absurd (omega arith)
  next_counted nextMail (l ∷ ls) h f = go (classify o l.text) refl
    where
      go : (c : Class) → classify o l.text ≡ c → Counted (piece_as o nextMail l ls c).item
      go Blank e = one_counted l blank_line f.0.0 (count_one [] (every_nil no_feed))
      go Plain e = one_counted l (plain_line l.text) f.0.0 (count_one l.text f.2.0)
      go (Formatted s) e =
          let mail = starts_mail o.mail nextMail s l.text in
          let n = further o mail s ls in
          let p : Paragraph = record { mail = mail; first = first_indent mail l.text s; indent = indent_for o mail l.text s ls; rows = map (row_of o) (l ∷ take n ls) } in
          let rows : Rows o (l ∷ take n ls) p = record { rows = refl; feedless = (f.2.0, all_take Feedless n ls f.2.1); head = l; tail = take n ls; begin = refl; shape = s; formatted = e } in
          text_counted (l ∷ take n ls) p rows (f.1.0, all_take Shorter n ls f.1.1) (first_feedless mail l.text s f.2.0) (indent_for_feedless o mail l.text s ls f.2.0 f.2.1)

  pieces_counted : (nextMail : Bool) (notes : List ℕ) (at : ℕ) → All Counted (pieces_from o nextMail notes at)
  unfolding pieces_from
  pieces_counted nextMail notes at =
      let ls = lines_of (drop at notes) in
      walk_all (next_piece o) Counted Lines (λ n xs f. (all_drop _ n xs f.0, all_drop Shorter n xs f.1, all_drop Feedless n xs f.2)) next_counted nextMail ls (lines_some (drop at notes), lines_shorter (drop at notes), lines_feedless (drop at notes))

  pub piece_lines : (nextMail : Bool) (notes : List ℕ) (at : ℕ) (q : Piece) (qs : List Piece) → pieces_from o nextMail notes at ≡ q ∷ qs → Counted q
  piece_lines nextMail notes at q qs e = (subst (All Counted) e (pieces_counted nextMail notes at)).0

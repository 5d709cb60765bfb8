-- What folding promises, in plain sentences. Each statement is about the definitions of specs/ alone, no code, and is proved with
-- nothing assumed. `rows_of`, `folded` and `fold` stand in specs/Fold.antt, `fits`, `marked` and `unadded` in specs/Theorems/Rows.antt.
use mathlib.Core.Path.{◌≡◌, refl, sym, ap, ap₂, ◌∙◌}
use mathlib.Core.Bool.{Bool, true, false, cond, ◌&&◌, ◌||◌, false≢true, and-eq-true_iff}
use mathlib.Core.List.{List, [], ◌∷◌, ◌++◌, map, map-append}
use Prim.Native.Nat.{ℕ, suc, ◌+◌, ◌-◌, ◌*◌, ◌/◌, ◌%◌, ◌^◌, ◌≤◌, ◌<◌}
use native.Mathlib.Omega.{arith}
use lib.Dec.{ltb, leb, eqb}
use lib.ListN.{length, take, drop, length-append, take-append-drop}
use lib.Seq.{take-take}
use borrow.Author.Tests.{leb-true, leb-false, ltb-false, eqb-true, lt-ltb, le-leb, lt-leb}
use Rattle.lists.specs.Runs.{every, joined}
use Rattle.lists.specs.Theorems.All.{All}
use Rattle.lists.proofs.Parts.{every_nil, every_append, joined_nil, joined_cons, joined_joined}
use Rattle.lists.proofs.Runs.{every_more}
use Rattle.lists.proofs.All.{all_drop, all_weaken, all_append, all_joined}
use Rattle.lists.proofs.Extents.{walk_all, each_joined, each_all}
use Rattle.lists.specs.Walk.{piece, each}
use Rattle.widths.specs.Widths.{width_of}
use Rattle.text.specs.Rfc3629.{Front, front, nothing, decode}
use Rattle.text.specs.Characters.{Glyph, glyph_as, glyph, characters}
use Rattle.text.proofs.Glyphs.{characters_joined}
use Rattle.text.proofs.Extents.{Sound, glyphs_sound}
use Rattle.text.proofs.Glue.{glue_off}
use Rattle.lines.specs.Lines.{Line, no_feed, first_line, lines_of}
use Rattle.lines.specs.Classes.{next_stop, column_behind, columns_of}
use Rattle.lines.specs.Cited.Places.{lengths_of}
use Rattle.lines.proofs.Lines.{lengths}
use Rattle.lines.proofs.Extents.{lines_extents, lines_feedless}
use Rattle.panel.specs.Panel.{stop_width}
use Rattle.spacing.proofs.Laws.{stop_behind}
use Rattle.lists.specs.Coded.{numbered}
use Rattle.fold.specs.Fold.{stays, staying_on, first_row, rows_of, feed, row_bytes, fed, in_rows, end_of, folded_line, folded, done, options, long, room, fold, fold_coded}
use Rattle.fold.specs.Theorems.Rows.{has_no_width, is_alone, fits, Marked, kept, added_feed, marked_rows, marked_line, marked, unadded}
use Rattle.fold.proofs.Stays.{width_tab, staying_more, staying_end}
use Rattle.fold.proofs.Rows.{first_front, first_some}

-- ---- every row fits

-- a tab has a width
abbrev Tabbed : Glyph → Type 0
Tabbed g = g.code ≡ 9 → g.width ≡ 1

tabbed : (xs : List ℕ) → All Tabbed (characters xs)
unfolding characters glyph
tabbed xs = each_all _ glyph Tabbed (λ ys h. go ys (decode ys)) xs
  where
    go : (ys : List ℕ) (f : Front) → Tabbed (glyph_as ys f)
    go ys (front c n) = λ e. ap width_of e ∙ width_tab
    go ys nothing = λ e. absurd (omega arith)

module _ (tab : ℕ) (some : 1 ≤ tab) where
  same_column : (column : ℕ) (g : Glyph) → Tabbed g → g.width ≡ 0 → column_behind tab column g ≡ column
  unfolding column_behind
  same_column column g t z = go (eqb g.code 9) refl
    where
      go : (b : Bool) → eqb g.code 9 ≡ b → cond b (next_stop tab column) (column + g.width) ≡ column
      go true e = absurd (omega (arith, t (eqb-true _ _ e)))
      go false e = omega arith

  module _ (columns : ℕ) where
    -- a character that stays ends within the columns, or has width 0
    stays_within : (column : ℕ) (g : Glyph) → Tabbed g → column ≤ columns → stays tab columns column g ≡ true → column_behind tab column g ≤ columns
    unfolding stays
    stays_within column g t h e = pick (leb (column_behind tab column g) columns) refl e
      where
        pick : (b : Bool) → leb (column_behind tab column g) columns ≡ b → (b || eqb g.width 0) ≡ true → column_behind tab column g ≤ columns
        pick true f e = leb-true _ _ f
        pick false f e = omega (arith, same_column column g t (eqb-true g.width 0 e))

    still_past : (column : ℕ) (g : Glyph) → columns < column → columns < column_behind tab column g
    unfolding column_behind
    still_past column g h = go (eqb g.code 9)
      where
        go : (b : Bool) → columns < cond b (next_stop tab column) (column + g.width)
        go true = omega (arith, stop_behind tab column some)
        go false = omega arith

    stays_narrow : (column : ℕ) (g : Glyph) → columns < column → stays tab columns column g ≡ true → has_no_width g ≡ true
    unfolding stays
    stays_narrow column g h e = rw (lt-leb (column_behind tab column g) columns (still_past column g h)) at e

    -- after a character within the columns none goes past them
    stay_within : (column : ℕ) (gs : List Glyph) → All Tabbed gs → column ≤ columns → columns_of tab column (staying_on tab columns column gs) ≤ columns
    unfolding staying_on columns_of
    stay_within column [] t h = h
    stay_within column (g ∷ gs) t h = go (stays tab columns column g) refl (λ c k. stay_within c gs t.1 k)
      where
        go : (b : Bool) → stays tab columns column g ≡ b → ((c : ℕ) → c ≤ columns → columns_of tab c (staying_on tab columns c gs) ≤ columns)
            → columns_of tab column (staying_on tab columns column (g ∷ gs)) ≤ columns
        go true e i = rw (staying_more tab columns column g gs e) (i (column_behind tab column g) (stays_within column g t.0 h e))
        go false e i = rw (staying_end tab columns column g gs e) h

    -- after one that goes past them all have width 0
    stay_past_columns : (column : ℕ) (gs : List Glyph) → All Tabbed gs → columns < column → every has_no_width (staying_on tab columns column gs) ≡ true
    unfolding staying_on
    stay_past_columns column [] t h = every_nil has_no_width
    stay_past_columns column (g ∷ gs) t h = go (stays tab columns column g) refl (stay_past_columns column gs t.1 h)
      where
        go : (b : Bool) → stays tab columns column g ≡ b → every has_no_width (staying_on tab columns column gs) ≡ true → every has_no_width (staying_on tab columns column (g ∷ gs)) ≡ true
        go true e i =
            let c = same_column column g t.0 (eqb-true g.width 0 (stays_narrow column g h e)) in
            rw (staying_more tab columns column g gs e, every_more has_no_width g (staying_on tab columns (column_behind tab column g) gs) (stays_narrow column g h e), c) i
        go false e i = rw (staying_end tab columns column g gs e) (every_nil has_no_width)

    first_fits : (gs : List Glyph) → 0 < length gs → All Tabbed gs → fits tab columns (first_row tab columns gs) ≡ true
    unfolding first_row fits is_alone columns_of
    first_fits [] h t = absurd (omega arith)
    first_fits (g ∷ gs) h t = go (leb (column_behind tab 0 g) columns) refl
      where
        row : List Glyph
        row = staying_on tab columns (column_behind tab 0 g) gs

        go : (b : Bool) → leb (column_behind tab 0 g) columns ≡ b
            → (leb (columns_of tab (column_behind tab 0 g) row) columns || (ltb columns (column_behind tab 0 g) && every has_no_width row)) ≡ true
        go true e = rw (le-leb (columns_of tab (column_behind tab 0 g) row) columns (stay_within (column_behind tab 0 g) gs t.1 (leb-true _ _ e)))
        go false e =
            let p = leb-false _ _ e in
            rw (lt-ltb columns (column_behind tab 0 g) p, stay_past_columns (column_behind tab 0 g) gs t.1 p) (or_true (leb (columns_of tab (column_behind tab 0 g) row) columns))
          where
            or_true : (a : Bool) → (a || true) ≡ true
            or_true true = refl
            or_true false = refl

    -- Every row takes at most the columns, or holds a single character wider than they are, with ones of width 0 after it.
    pub every_row_fits : (text : List ℕ) → All (λ row. fits tab columns row ≡ true) (rows_of tab columns (characters text))
    unfolding rows_of each piece
    every_row_fits text =
        walk_all (piece (λ gs. length (first_row tab columns gs) - 1) (first_row tab columns)) (λ row. fits tab columns row ≡ true) (All Tabbed) (all_drop Tabbed) (λ s gs h t. first_fits gs h t) tt (characters text) (tabbed text)

-- ---- the text is the output without what was added

map_kept : (xs : List ℕ) → map (λ (m : Marked). m.byte) (map kept xs) ≡ xs
map_kept [] = refl
map_kept (x ∷ xs) = ap (λ (l : List ℕ). x ∷ l) (map_kept xs)

unadded_append : (a b : List Marked) → unadded (a ++ b) ≡ unadded a ++ unadded b
unfolding unadded
unadded_append [] b = refl
unadded_append (m ∷ a) b = pick m.added (unadded_append a b)
  where
    pick : (t : Bool) → unadded (a ++ b) ≡ unadded a ++ unadded b
        → (elim t as (λ x. List ℕ) [ true ↦ unadded (a ++ b) | false ↦ m.byte ∷ unadded (a ++ b) ]) ≡ (elim t as (λ x. List ℕ) [ true ↦ unadded a | false ↦ m.byte ∷ unadded a ]) ++ unadded b
    pick true i = i
    pick false i = ap (λ (l : List ℕ). m.byte ∷ l) i

unadded_kept : (xs : List ℕ) → unadded (map kept xs) ≡ xs
unfolding unadded
unadded_kept [] = refl
unadded_kept (x ∷ xs) = ap (λ (l : List ℕ). x ∷ l) (unadded_kept xs)

abbrev fed_marked : List Glyph → List Marked
fed_marked r = added_feed ∷ map kept (row_bytes r)

fed_bytes : (rows : List (List Glyph)) → map (λ (m : Marked). m.byte) (joined fed_marked rows) ≡ joined fed rows
unfolding joined fed
fed_bytes [] = refl
fed_bytes (r ∷ rows) = map-append (λ (m : Marked). m.byte) (fed_marked r) (joined fed_marked rows) ∙ ap₂ (λ (a b : List ℕ). feed ∷ a ++ b) (map_kept (row_bytes r)) (fed_bytes rows)

fed_unadded : (rows : List (List Glyph)) → unadded (joined fed_marked rows) ≡ joined row_bytes rows
unfolding joined unadded
fed_unadded [] = refl
fed_unadded (r ∷ rows) = unadded_append (fed_marked r) (joined fed_marked rows) ∙ ap₂ (λ (a b : List ℕ). a ++ b) (unadded_kept (row_bytes r)) (fed_unadded rows)

module _ (tab columns : ℕ) where
  rows_joined : (gs : List Glyph) → joined (λ (row : List Glyph). row) (rows_of tab columns gs) ≡ gs
  unfolding rows_of
  rows_joined gs = each_joined (λ l. length (first_row tab columns l) - 1) (first_row tab columns) (λ row. row) (λ l h. whole l h) gs
    where
      whole : (l : List Glyph) → 0 < length l → first_row tab columns l ≡ take (suc (length (first_row tab columns l) - 1)) l
      whole l h =
          let e : length (first_row tab columns l) ≡ suc (length (first_row tab columns l) - 1) = omega (arith, first_some tab columns l h) in
          first_front tab columns l ∙ ap (λ (n : ℕ). take n l) e

  -- the rows' bytes are the line's
  rows_bytes : (line : List ℕ) → joined row_bytes (rows_of tab columns (characters line)) ≡ line
  unfolding row_bytes
  rows_bytes line =
      sym (joined_joined (λ (g : Glyph). g.bytes) (λ (row : List Glyph). row) (rows_of tab columns (characters line)))
      ∙ ap (joined (λ (g : Glyph). g.bytes)) (rows_joined (characters line)) ∙ characters_joined line

  rows_feedless : (rows : List (List Glyph)) → every no_feed (joined row_bytes rows) ≡ true → All (λ row. every no_feed (row_bytes row) ≡ true) rows
  rows_feedless [] e = tt
  rows_feedless (row ∷ rows) e =
      let f : every no_feed (row_bytes row ++ joined row_bytes rows) ≡ true = ap (every no_feed) (sym (joined_cons row_bytes row rows)) ∙ e in
      let p = (and-eq-true_iff (every no_feed (row_bytes row)) (every no_feed (joined row_bytes rows))).0 (sym (every_append no_feed (row_bytes row) (joined row_bytes rows)) ∙ f) in
      (p.0, rows_feedless rows p.1)

  -- No row has a line feed in it: the rows are what is between the line feeds of the output.
  pub no_row_has_a_line_feed : (text : List ℕ) → All (λ (l : Line). All (λ row. every no_feed (row_bytes row) ≡ true) (rows_of tab columns (characters l.text))) (lines_of text)
  no_row_has_a_line_feed text =
      all_weaken (λ (l : Line). every no_feed l.text ≡ true) (λ (l : Line). All (λ row. every no_feed (row_bytes row) ≡ true) (rows_of tab columns (characters l.text)))
      (λ l e. rows_feedless (rows_of tab columns (characters l.text)) (ap (every no_feed) (rows_bytes l.text) ∙ e)) (lines_of text) (lines_feedless text)

  bytes_rows : (rows : List (List Glyph)) → map (λ (m : Marked). m.byte) (marked_rows rows) ≡ in_rows rows
  unfolding marked_rows in_rows
  bytes_rows [] = refl
  bytes_rows (row ∷ rows) =
      map-append (λ (m : Marked). m.byte) (map kept (row_bytes row)) (joined fed_marked rows)
      ∙ ap₂ (λ (a b : List ℕ). a ++ b) (map_kept (row_bytes row)) (fed_bytes rows)

  unadded_rows : (rows : List (List Glyph)) → unadded (marked_rows rows) ≡ joined row_bytes rows
  unfolding marked_rows unadded
  unadded_rows [] = sym (joined_nil row_bytes)
  unadded_rows (row ∷ rows) =
      unadded_append (map kept (row_bytes row)) (joined fed_marked rows)
      ∙ ap₂ (λ (a b : List ℕ). a ++ b) (unadded_kept (row_bytes row)) (fed_unadded rows)
      ∙ sym (joined_cons row_bytes row rows)

  -- The marked bytes are the output, ..
  pub the_marked_bytes_are_the_output : (text : List ℕ) → map (λ (m : Marked). m.byte) (marked tab columns text) ≡ folded tab columns text
  unfolding joined marked folded marked_line folded_line
  the_marked_bytes_are_the_output text = go (lines_of text)
    where
      line : (l : Line) → map (λ (m : Marked). m.byte) (marked_line tab columns l) ≡ folded_line tab columns l
      line l =
          map-append (λ (m : Marked). m.byte) (marked_rows (rows_of tab columns (characters l.text))) (map kept (end_of l))
          ∙ ap₂ (λ (a b : List ℕ). a ++ b) (bytes_rows (rows_of tab columns (characters l.text))) (map_kept (end_of l))

      go : (ls : List Line) → map (λ (m : Marked). m.byte) (joined (marked_line tab columns) ls) ≡ joined (folded_line tab columns) ls
      go [] = refl
      go (l ∷ ls) = map-append (λ (m : Marked). m.byte) (marked_line tab columns l) (joined (marked_line tab columns) ls) ∙ ap₂ (λ (a b : List ℕ). a ++ b) (line l) (go ls)

  -- a line of a text is its text and its line end
  ends : (text : List ℕ) → All (λ (l : Line). l.text ++ end_of l ≡ l.raw) (lines_of text)
  unfolding lines_of end_of lengths_of
  ends text = each_all _ first_line (λ (l : Line). l.text ++ drop (length l.text) l.raw ≡ l.raw) (λ s h. line s) text
    where
      line : (s : List ℕ) → (first_line s).text ++ drop (length (first_line s).text) (first_line s).raw ≡ (first_line s).raw
      line s =
          let l = lengths s (lengths_of (first_line s)) refl in
          let n = length (first_line s).text in
          let t : (first_line s).text ≡ take n (first_line s).raw = l.text ∙ sym (ap (take n) l.raw ∙ take-take n (length (first_line s).raw) s l.shorter) in
          ap (λ (x : List ℕ). x ++ drop n (first_line s).raw) t ∙ take-append-drop n (first_line s).raw

  -- .. those that were not added are the text, ..
  pub the_bytes_that_were_not_added_are_the_text : (text : List ℕ) → unadded (marked tab columns text) ≡ text
  unfolding joined unadded marked marked_line
  the_bytes_that_were_not_added_are_the_text text = go (lines_of text) (ends text) ∙ lines_extents text
    where
      line : (l : Line) → l.text ++ end_of l ≡ l.raw → unadded (marked_line tab columns l) ≡ l.raw
      line l e =
          unadded_append (marked_rows (rows_of tab columns (characters l.text))) (map kept (end_of l))
          ∙ ap₂ (λ (a b : List ℕ). a ++ b) (unadded_rows (rows_of tab columns (characters l.text)) ∙ rows_bytes l.text) (unadded_kept (end_of l))
          ∙ e

      go : (ls : List Line) → All (λ (l : Line). l.text ++ end_of l ≡ l.raw) ls → unadded (joined (marked_line tab columns) ls) ≡ joined (λ (l : Line). l.raw) ls
      go [] t = refl
      go (l ∷ ls) t = unadded_append (marked_line tab columns l) (joined (marked_line tab columns) ls) ∙ ap₂ (λ (a b : List ℕ). a ++ b) (line l t.0) (go ls t.1)

  -- .. and those that were are line feeds.
  pub what_was_added_are_line_feeds : (text : List ℕ) → All (λ (m : Marked). m.added ≡ true → m.byte ≡ feed) (marked tab columns text)
  unfolding marked marked_rows marked_line
  what_was_added_are_line_feeds text = all_joined (marked_line tab columns) Fed (lines_of text) (each_line (lines_of text))
    where
      Fed : Marked → Type 0
      Fed m = m.added ≡ true → m.byte ≡ feed

      keeps : (xs : List ℕ) → All Fed (map kept xs)
      keeps [] = tt
      keeps (x ∷ xs) = (λ e. absurd (false≢true e), keeps xs)

      row : (rows : List (List Glyph)) → All (λ r. All Fed (added_feed ∷ map kept (row_bytes r))) rows
      row [] = tt
      row (r ∷ rows) = ((λ e. refl, keeps (row_bytes r)), row rows)

      all_rows : (rows : List (List Glyph)) → All Fed (marked_rows rows)
      all_rows [] = tt
      all_rows (r ∷ rows) = all_append Fed (map kept (row_bytes r)) _ (keeps (row_bytes r)) (all_joined (λ q. added_feed ∷ map kept (row_bytes q)) Fed rows (row rows))

      each_line : (ls : List Line) → All (λ l. All Fed (marked_line tab columns l)) ls
      each_line [] = tt
      each_line (l ∷ ls) = (all_append Fed (marked_rows (rows_of tab columns (characters l.text))) (map kept (end_of l)) (all_rows (rows_of tab columns (characters l.text))) (keeps (end_of l)), each_line ls)

  -- ---- the answer's number

  rows_some : (line : List ℕ) → All (λ row. 0 < length (row_bytes row)) (rows_of tab columns (characters line))
  unfolding rows_of each piece first_row row_bytes
  rows_some line =
      walk_all (piece (λ gs. length (first_row tab columns gs) - 1) (first_row tab columns)) (λ row. 0 < length (row_bytes row)) (All Sound) (all_drop Sound) (λ s gs h t. first gs h t) tt (characters line)
      (rw (glue_off line) at (glyphs_sound false line))
    where
      first : (gs : List Glyph) → 0 < length gs → All Sound gs → 0 < length (row_bytes (first_row tab columns gs))
      first [] h t = absurd (omega arith)
      first (g ∷ gs) h t =
          rw (joined_cons (λ (g : Glyph). g.bytes) g (staying_on tab columns (column_behind tab 0 g) gs), length-append) (omega (arith, t.0.some))

  fed_most : (rows : List (List Glyph)) → All (λ row. 0 < length (row_bytes row)) rows → length (joined fed rows) ≤ 2 * length (joined row_bytes rows)
  unfolding fed
  fed_most [] t = rw (joined_nil fed) (omega arith)
  fed_most (row ∷ rows) t =
      rw (joined_cons fed row rows, joined_cons row_bytes row rows, length-append (row_bytes row) (joined row_bytes rows), length-append (feed ∷ row_bytes row) (joined fed rows))
      (omega (arith, t.0, fed_most rows t.1))

  line_most : (l : Line) → length (folded_line tab columns l) ≤ 2 * length (l.text ++ end_of l)
  unfolding folded_line in_rows
  line_most l = go (rows_of tab columns (characters l.text)) (rows_some l.text) (rows_bytes l.text)
    where
      go : (rows : List (List Glyph)) → All (λ row. 0 < length (row_bytes row)) rows → joined row_bytes rows ≡ l.text → length (in_rows rows ++ end_of l) ≤ 2 * length (l.text ++ end_of l)
      go [] t e = rw (length-append l.text (end_of l)) (omega arith)
      go (row ∷ rows) t e =
          let n = ap length (sym (joined_cons row_bytes row rows) ∙ e) in
          let m = length-append (row_bytes row) (joined row_bytes rows) in
          rw (length-append (row_bytes row ++ joined fed rows) (end_of l), length-append (row_bytes row) (joined fed rows), length-append l.text (end_of l))
          (omega (arith, n, m, fed_most rows t.1))

  pub folded_most : (text : List ℕ) → length (folded tab columns text) ≤ 2 * length text
  unfolding folded
  folded_most text = ap_le (go (lines_of text) (ends text)) (lines_extents text)
    where
      ap_le : {n : ℕ} {xs ys : List ℕ} → n ≤ 2 * length xs → xs ≡ ys → n ≤ 2 * length ys
      ap_le h e = rw (← e) h

      go : (ls : List Line) → All (λ (l : Line). l.text ++ end_of l ≡ l.raw) ls → length (joined (folded_line tab columns) ls) ≤ 2 * length (joined (λ (l : Line). l.raw) ls)
      go [] t = rw (joined_nil (folded_line tab columns)) (omega arith)
      go (l ∷ ls) t =
          let n = ap length t.0 in
          rw (joined_cons (folded_line tab columns) l ls, joined_cons (λ (l : Line). l.raw) l ls, length-append (folded_line tab columns l) _, length-append l.raw _)
          (omega (arith, n, line_most l, go ls t.1))

value_most : (text : List ℕ) (tab columns bytes : ℕ) → (fold_coded (fold text tab columns bytes)).value ≤ 2147483648
unfolding fold
value_most text tab columns bytes = go (ltb 100 tab || eqb columns 0 || ltb 1000 columns) (ltb 1073741824 (length text)) refl (leb (length all) bytes)
  where
    all : List ℕ
    all = folded (stop_width tab) columns text

    go : (a b : Bool) → ltb 1073741824 (length text) ≡ b → (c : Bool) → (fold_coded (cond a options (cond b long (cond c (done all) (room (length all)))))).value ≤ 2147483648
    go true b e c = omega arith
    go false true e c = omega arith
    go false false e true = omega (arith, folded_most (stop_width tab) columns text, ltb-false 1073741824 (length text) e)
    go false false e false = omega (arith, folded_most (stop_width tab) columns text, ltb-false 1073741824 (length text) e)

-- Code and N can be read back from the number, whatever the text, the tab width, the columns and the room.
pub the_answer_tells_code_and_value : (text : List ℕ) (tab columns bytes : ℕ)
    → (numbered (fold_coded (fold text tab columns bytes)) / 2 ^ 32 ≡ (fold_coded (fold text tab columns bytes)).code) × (numbered (fold_coded (fold text tab columns bytes)) % 2 ^ 32 ≡ (fold_coded (fold text tab columns bytes)).value)
unfolding numbered
the_answer_tells_code_and_value text tab columns bytes =
    let v = value_most text tab columns bytes in
    (omega arith, omega arith)

-- The columns that a word and the blanks before it take are those that its record counts: a word's width, a gap's counts before and after
-- its first tab.
use Rattle.std.proofs.Common.{Option, Some, None}
use mathlib.Core.Path.{◌≡◌, refl, sym, ap, ◌∙◌}
use mathlib.Core.Bool.{Bool, true, false, cond, not, ◌||◌, and-eq-true_iff, true≢false, false≢true}
use mathlib.Core.List.{List, [], ◌∷◌, ◌++◌}
use Prim.Native.Nat.{ℕ, ◌+◌, ◌*◌, ◌/◌, ◌%◌, ◌≤◌}
use native.Mathlib.Nat.{div-add-mod', mod-lt, add-mul}
use native.Mathlib.Omega.{arith}
use lib.Arith.{digits_div}
use lib.Dec.{eqb}
use borrow.Author.Tests.{eqb-true}
use Rattle.lists.specs.Runs.{while, every, joined}
use Rattle.lists.specs.Theorems.All.{All}
use Rattle.lists.proofs.Parts.{every_cons, joined_nil}
use Rattle.lists.proofs.All.{all_front, all_back}
use Rattle.text.specs.Characters.{Glyph, characters, is_blank, is_tab}
use Rattle.text.proofs.Spelling.{Spells}
use Rattle.options.specs.Opts.{Opts}
use Rattle.lines.specs.Classes.{next_stop, column_behind, columns_of, classify}
use Rattle.lines.specs.declared.Shape.{Shape}
use Rattle.lines.specs.declared.Class.TheVariants.{Formatted}
use Rattle.lines.proofs.Columns.{columns_again, every_again, formatted_indented, from_indented}
use Rattle.pieces.specs.Pieces.{Row}
use Rattle.records.specs.Word.{Word}
use Rattle.words.specs.Words.{Run, is_ink, runs, bytes_of, width_sum, Gap, gap_tab, gap_from, gap_of, no_gap, punct_at_end, counting, word_of, line_words, row_words}
use Rattle.words.specs.Theorems.PlainGap.{plain_blank, plain_gap}
use Rattle.words.proofs.Gaps.{from_lined}
use Rattle.words.proofs.Spelled.{First, Splits, runs_split}

-- ---- ink

-- no ink is a tab
ink_tab : (g : Glyph) → Spells g → is_ink g ≡ true → is_tab g ≡ false
ink_tab g s h = go (is_tab g) refl
  where
    go : (t : Bool) → is_tab g ≡ t → t ≡ false
    go true e = absurd (false≢true (ap not (sym (s.tab (eqb-true g.code 9 e))) ∙ h))
    go false e = refl

ink_columns : (tab column : ℕ) (gs : List Glyph) → All Spells gs → every is_ink gs ≡ true → columns_of tab column gs ≡ column + width_sum gs
unfolding columns_of column_behind width_sum
ink_columns tab column [] s e = omega arith
ink_columns tab column (g ∷ gs) s e =
    let h = (and-eq-true_iff (not g.blank) (every is_ink gs)).0 (rw every_cons at e) in
    let k = ink_columns tab (column + g.width) gs s.1 h.1 in
    rw (ink_tab g s.0 h.0) (k ∙ omega arith)

-- ---- blanks

-- a stop as many stops further on
stops_apart : (a b c : ℕ) → (a + b + 1) * c ≡ a * c + (b + 1) * c
stops_apart a b c = rw (add-mul (a + b) 1 c, add-mul a b c, add-mul b 1 c) (omega arith)

stop_on : (tab stops column : ℕ) → 1 ≤ tab → next_stop tab (stops * tab + column) ≡ stops * tab + next_stop tab column
unfolding next_stop
stop_on tab stops column h =
    let e = div-add-mod' column tab in
    let a = add-mul stops (column / tab) tab in
    let k : stops * tab + column ≡ (stops + column / tab) * tab + column % tab = omega arith in
    let d : (stops * tab + column) / tab ≡ stops + column / tab = ap (λ (x : ℕ). x / tab) k ∙ digits_div (stops + column / tab) (mod-lt column h) in
    ap (λ (x : ℕ). (x + 1) * tab) d ∙ stops_apart stops (column / tab) tab

-- the column after a gap that begins at a column
unfoldable pub gap_end : ℕ → ℕ → Option ℕ → ℕ → ℕ
gap_end tab column None after = column + after
gap_end tab column (Some before) after = next_stop tab (before + column) + after

-- one blank more
tab_end : (tab column : ℕ) (before : Option ℕ) (after : ℕ) → 1 ≤ tab
    → next_stop tab (gap_end tab column before after) ≡ gap_end tab column (gap_tab tab before after).before (gap_tab tab before after).after
unfolding gap_end next_stop
tab_end tab column None after h = let e : column + after ≡ after + column = omega arith in ap (next_stop tab) e ∙ omega arith
tab_end tab column (Some n) after h = stop_on tab ((n + column) / tab + 1) after h

blank_end : (tab column : ℕ) (before : Option ℕ) (after : ℕ) → gap_end tab column before after + 1 ≡ gap_end tab column before (after + 1)
unfolding gap_end
blank_end tab column None after = omega arith
blank_end tab column (Some n) after = omega arith

-- a blank that is no tab takes a column
abbrev pub Narrow : Glyph → Type 0
Narrow g = is_tab g ≡ false → g.width ≡ 1

gap_columns_from : (tab column : ℕ) (gap : Gap) (bs : List Glyph) → 1 ≤ tab → All Narrow bs
    → columns_of tab (gap_end tab column gap.before gap.after) bs ≡ gap_end tab column (gap_from tab gap bs).before (gap_from tab gap bs).after
unfolding columns_of column_behind gap_from
gap_columns_from tab column gap [] h n = refl
gap_columns_from tab column gap (b ∷ bs) h n = go (is_tab b) refl (λ g. gap_columns_from tab column g bs h n.1)
  where
    go : (t : Bool) → is_tab b ≡ t
        → ((g : Gap) → columns_of tab (gap_end tab column g.before g.after) bs ≡ gap_end tab column (gap_from tab g bs).before (gap_from tab g bs).after)
        → columns_of tab (cond t (next_stop tab (gap_end tab column gap.before gap.after)) (gap_end tab column gap.before gap.after + b.width)) bs
        ≡ gap_end tab column (gap_from tab (cond t (gap_tab tab gap.before gap.after) (record { before = gap.before; after = gap.after + 1 })) bs).before
        (gap_from tab (cond t (gap_tab tab gap.before gap.after) (record { before = gap.before; after = gap.after + 1 })) bs).after
    go true e ih = rw (tab_end tab column gap.before gap.after h) (ih (gap_tab tab gap.before gap.after))
    go false e ih = rw (n.0 e, blank_end tab column gap.before gap.after) (ih (record { before = gap.before; after = gap.after + 1 }))

gap_columns : (tab column : ℕ) (bs : List Glyph) → 1 ≤ tab → All Narrow bs → columns_of tab column bs ≡ gap_end tab column (gap_of tab bs).before (gap_of tab bs).after
unfolding gap_of gap_end
gap_columns tab column bs h n = ap (λ (c : ℕ). columns_of tab c bs) (omega arith) ∙ gap_columns_from tab column no_gap bs h n

all_narrow : (bs : List Glyph) → every (λ b. plain_blank b.code b.width) bs ≡ true → All Narrow bs
all_narrow [] e = tt
all_narrow (b ∷ bs) e =
    let h = (and-eq-true_iff (plain_blank b.code b.width) (every (λ c. plain_blank c.code c.width) bs)).0 (rw every_cons at e) in
    (one (is_tab b) refl h.0, all_narrow bs h.1)
  where
    one : (t : Bool) → is_tab b ≡ t → (t || eqb b.width 1) ≡ true → is_tab b ≡ false → b.width ≡ 1
    one true q k n = absurd (true≢false (sym q ∙ n))
    one false q k n = eqb-true b.width 1 k

-- ---- a word of a line

-- the columns of a word's bytes, and of the blanks before it, whatever is after them; where spaces are added there are no blanks
pub record Counted (o : Opts) (w : Word) : Type 0 where
  pub text : (column : ℕ) (ys : List ℕ) → columns_of o.tab column (characters (w.text ++ ys)) ≡ columns_of o.tab (column + w.width) (characters ys)
  pub blanks : plain_gap w ≡ true → (column : ℕ) (ys : List ℕ) → columns_of o.tab column (characters (w.blanks ++ ys)) ≡ columns_of o.tab (gap_end o.tab column w.before w.after) (characters ys)
  pub bare : (o.uniform || w.new_line) ≡ true → (w.blanks ≡ []) × (w.before ≡ None) × (w.after ≡ 0)

module _ (count : List Glyph → ℕ) (o : Opts) (least : 1 ≤ o.tab) where
  word_counted : (new_line previousPunct : Bool) (r : Run) (gs rest : List Glyph) → First o.glue r gs rest → All Spells gs → (new_line ≡ true → while is_blank gs ≡ [])
      → Counted o (word_of count o new_line previousPunct r)
  unfolding word_of bytes_of gap_of gap_from gap_end
  word_counted new_line previousPunct r gs rest f s starts =
      let sp : All Spells (r.blanks ++ (r.text ++ rest)) = rw (← f.parts) s in
      let si : All Spells r.text = all_front _ r.text rest (all_back _ r.blanks (r.text ++ rest) sp) in
      record {
        text = λ column ys. columns_again o.tab column r.text ys si ∙ ap (λ (c : ℕ). columns_of o.tab c (characters ys)) (ink_columns o.tab column r.text si f.ink);
        blanks = held o.uniform (all_front _ r.blanks (r.text ++ rest) sp);
        bare = none o.uniform new_line starts;
      }
    where
      held : (u : Bool) → All Spells r.blanks → every (λ (g : Glyph). plain_blank g.code g.width) (characters (cond u [] (joined (λ (g : Glyph). g.bytes) r.blanks))) ≡ true → (column : ℕ) (ys : List ℕ)
          → columns_of o.tab column (characters (cond u [] (joined (λ (g : Glyph). g.bytes) r.blanks) ++ ys))
          ≡ columns_of o.tab (gap_end o.tab column (cond u no_gap (gap_of o.tab r.blanks)).before (cond u no_gap (gap_of o.tab r.blanks)).after) (characters ys)
      held true sb plain column ys = ap (λ (c : ℕ). columns_of o.tab c (characters ys)) (omega arith)
      held false sb plain column ys =
          columns_again o.tab column r.blanks ys sb
          ∙ ap (λ (c : ℕ). columns_of o.tab c (characters ys)) (gap_columns o.tab column r.blanks least (all_narrow r.blanks (sym (every_again plain_blank r.blanks sb) ∙ plain)))

      none : (u n : Bool) → (n ≡ true → while is_blank gs ≡ []) → (u || n) ≡ true
          → (cond u [] (joined (λ (g : Glyph). g.bytes) r.blanks) ≡ []) × ((cond u no_gap (gap_of o.tab r.blanks)).before ≡ None) × ((cond u no_gap (gap_of o.tab r.blanks)).after ≡ 0)
      none true n st e = (refl, refl, refl)
      none false true st e = let z : r.blanks ≡ [] = f.lead ∙ st refl in rw z (joined_nil (λ (g : Glyph). g.bytes), refl, refl)
      none false false st e = absurd (false≢true e)

  line_counted : (new_line previousPunct : Bool) (rs : List Run) (gs : List Glyph) → Splits o.glue rs gs → All Spells gs → (new_line ≡ true → while is_blank gs ≡ [])
      → All (Counted o) (line_words count o new_line previousPunct rs)
  unfolding line_words
  line_counted new_line previousPunct [] gs sp s starts = tt
  line_counted new_line previousPunct (r ∷ rs) gs sp s starts =
      let sr : All Spells (r.blanks ++ (r.text ++ sp.0)) = rw (← sp.1.parts) s in
      go r.text refl
      (line_counted false (punct_at_end r.text) rs sp.0 sp.2 (all_back _ r.text sp.0 (all_back _ r.blanks (r.text ++ sp.0) sr)) (λ e. absurd (false≢true e)))
    where
      go : (t : List Glyph) → r.text ≡ t → All (Counted o) (line_words count o false (punct_at_end r.text) rs) → All (Counted o) (line_words count o new_line previousPunct (r ∷ rs))
      go [] e ih = rw (line_words, e) tt
      go (g ∷ t) e ih = rw (line_words, e) (word_counted new_line previousPunct r gs sp.0 sp.1 s starts, ih)

-- the words of a formatted line, from its indent's end on
pub row_counted : (o : Opts) (row : Row) (s : Shape) → 1 ≤ o.tab → classify o row.text ≡ Formatted s → row.start ≡ s.indent_end → All (Counted o) (row_words o false row)
unfolding row_words
row_counted o row s h e b =
    let i = formatted_indented o row.text s e in
    rw (b, from_indented o row.text s i)
    (line_counted (counting o.by_characters) o h true false (runs i.rest) i.rest (runs_split o.glue i.rest (rw (from_indented o row.text s i) at (from_lined o.glue row.text s.indent_end))) (all_back _ i.front i.rest i.spell) (λ z. i.ink))

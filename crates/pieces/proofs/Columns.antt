-- A paragraph that is not mail: its lines are formatted, and its indents' bytes take the columns that are counted for them, whatever stands
-- after them.
use mathlib.Core.Path.{◌≡◌, refl, sym, ap, ◌∙◌}
use mathlib.Core.Bool.{Bool, true, false, cond, ◌||◌, and-eq-true_iff, true≢false}
use mathlib.Core.List.{List, [], ◌∷◌, ◌++◌, map, append_assoc}
use Prim.Native.Nat.{ℕ, zero, suc, ◌+◌, ◌<◌}
use native.Mathlib.Omega.{arith}
use lib.ListN.{length, take, drop, replicate, take-append-drop}
use Rattle.lists.specs.Runs.{every, joined}
use Rattle.lists.specs.Theorems.All.{All}
use Rattle.lists.proofs.Parts.{every_nil, every_cons, every_append}
use Rattle.lists.proofs.All.{all_drop, all_weaken}
use Rattle.lists.proofs.Extents.{walk_all}
use Rattle.text.specs.Rfc3629.{scalar, encode}
use Rattle.widths.proofs.Laws.{one_before_300}
use Rattle.text.specs.Characters.{Glyph, characters}
use Rattle.text.proofs.Spelling.{Spells}
use Rattle.options.specs.Opts.{Opts}
use Rattle.lines.specs.Lines.{Line, no_feed, lines_of}
use Rattle.lines.specs.Classes.{column_behind, columns_of, classify}
use Rattle.lines.specs.declared.Shape.{Shape}
use Rattle.lines.specs.declared.Class.{Class}
use Rattle.lines.specs.declared.Class.TheVariants.{Blank, Plain, Formatted}
use Rattle.lines.proofs.Extents.{lines_feedless}
use Rattle.lines.proofs.Columns.{columns_again, formatted_indented, indent_columns}
use Rattle.pieces.specs.Pieces.{Indent, Paragraph, Kind, Piece, blank_line, plain_line, paragraph, row_of, starts_mail, second_rule, alone, joins, second_as, second_of, further, indent_of, widened, later_indent, first_indent, indent_for, paragraph_at, piece_as, next_piece, pieces}
use Rattle.pieces.proofs.Extents.{Feedless}
use Rattle.pieces.proofs.Starting.{Starts, further_starts}

-- spaces take a column each
space : Glyph
space = record { bytes = 32 ∷ []; code = 32; damaged = false; blank = true; width = 1 }

space_spells : Spells space
unfolding space scalar encode
space_spells = record { is_scalar = tt; octets = refl; has_width = sym (one_before_300 32 (omega arith)); tab = λ e. refl }

space_columns : (tab column : ℕ) (ys : List ℕ) → columns_of tab column (characters (32 ∷ ys)) ≡ columns_of tab (column + 1) (characters ys)
unfolding space columns_of column_behind joined
space_columns tab column ys = columns_again tab column (space ∷ []) ys (space_spells, tt)

pub spaces_columns : (tab column n : ℕ) (ys : List ℕ) → columns_of tab column (characters (replicate n 32 ++ ys)) ≡ columns_of tab (column + n) (characters ys)
spaces_columns tab column zero ys = ap (λ (c : ℕ). columns_of tab c (characters ys)) (omega arith)
spaces_columns tab column (suc n) ys =
    let e : column + 1 + n ≡ column + suc n = omega arith in
    space_columns tab column (replicate n 32 ++ ys) ∙ spaces_columns tab (column + 1) n ys ∙ ap (λ (c : ℕ). columns_of tab c (characters ys)) e

pub spaces_feedless : (n : ℕ) → every no_feed (replicate n 32) ≡ true
spaces_feedless zero = every_nil no_feed
spaces_feedless (suc n) = rw (every_cons no_feed 32 (replicate n 32), spaces_feedless n)

pub feedless_append : (a b : List ℕ) → every no_feed a ≡ true → every no_feed b ≡ true → every no_feed (a ++ b) ≡ true
feedless_append a b h k = rw (every_append no_feed a b, h, k)

pub feedless_take : (n : ℕ) (text : List ℕ) → every no_feed text ≡ true → every no_feed (take n text) ≡ true
feedless_take n text h =
    ((and-eq-true_iff (every no_feed (take n text)) (every no_feed (drop n text))).0 (sym (every_append no_feed (take n text) (drop n text)) ∙ ap (every no_feed) (take-append-drop n text) ∙ h)).0

-- ---- an indent

pub first_feedless : (mail : Bool) (text : List ℕ) (s : Shape) → every no_feed text ≡ true → every no_feed (first_indent mail text s).bytes ≡ true
unfolding first_indent indent_of
first_feedless true text s h = every_nil no_feed
first_feedless false text s h = feedless_take s.indent_end text h

pub record Margined (tab : ℕ) (i : Indent) : Type 0 where
  pub columns : (ys : List ℕ) → columns_of tab 0 (characters (i.bytes ++ ys)) ≡ columns_of tab i.columns (characters ys)
  pub feedless : every no_feed i.bytes ≡ true

indent_margined : (o : Opts) (text : List ℕ) (s : Shape) → every no_feed text ≡ true → classify o text ≡ Formatted s → Margined o.tab (indent_of text s)
unfolding indent_of
indent_margined o text s f e = record {
  columns = indent_columns o text s (formatted_indented o text s e);
  feedless =
      let k = every_append no_feed (take s.indent_end text) (drop s.indent_end text) in
      ((and-eq-true_iff (every no_feed (take s.indent_end text)) _).0 (sym k ∙ ap (every no_feed) (take-append-drop s.indent_end text) ∙ f)).0;
}

widened_margined : (tab : ℕ) (i : Indent) (n : ℕ) → Margined tab i → Margined tab (widened i n)
widened_margined tab i n m = record {
  columns = λ ys. ap (λ (l : List ℕ). columns_of tab 0 (characters l)) (append_assoc i.bytes (replicate n 32) ys) ∙ m.columns (replicate n 32 ++ ys) ∙ spaces_columns tab i.columns n ys;
  feedless = rw (every_append no_feed i.bytes (replicate n 32), m.feedless, spaces_feedless n);
}

-- ---- a paragraph

pub record Settled (o : Opts) (lines : List Line) (p : Paragraph) : Type 0 where
  pub formatted : All (λ l. (s : Shape) × (classify o l.text ≡ Formatted s)) lines
  pub first : Margined o.tab p.first
  pub indent : Margined o.tab p.indent

module _ (o : Opts) where
  later_margined : (i : Indent) (s : Shape) (ls : List Line) → All Feedless ls → Margined o.tab i → Margined o.tab (later_indent o i (second_of o s ls))
  unfolding second_of
  later_margined i s [] f m = widened_margined o.tab i _ m
  later_margined i s (l ∷ ls) f m = go (classify o l.text) refl
    where
      join : (t : Bool) (b : Shape) → classify o l.text ≡ Formatted b → Margined o.tab (later_indent o i (cond t (joins l.text b) alone))
      join true b e = indent_margined o l.text b f.0 e
      join false b e = widened_margined o.tab i (cond o.tagged 4 0) m

      go : (c : Class) → classify o l.text ≡ c → Margined o.tab (later_indent o i (second_as o s l.text c))
      go Blank e = widened_margined o.tab i (cond o.tagged 4 0) m
      go Plain e = widened_margined o.tab i (cond o.tagged 4 0) m
      go (Formatted b) e = join (second_rule o.tagged s b) b e

  indent_for_law : (text : List ℕ) (s : Shape) (ls : List Line) → All Feedless ls → Margined o.tab (indent_of text s) → Margined o.tab (indent_for o false text s ls)
  unfolding indent_for
  indent_for_law text s ls f m = go (o.crown || o.tagged)
    where
      go : (two : Bool) → Margined o.tab (elim two as (λ x. Indent) [ true ↦ later_indent o (indent_of text s) (second_of o s ls) | false ↦ indent_of text s ])
      go true = later_margined (indent_of text s) s ls f m
      go false = m

  paragraph_settled : (s : Shape) (l : Line) (ls : List Line) → All Feedless (l ∷ ls) → classify o l.text ≡ Formatted s
      → Settled o (l ∷ take (further o false s ls) ls) (record { mail = false; first = first_indent false l.text s; indent = indent_for o false l.text s ls; rows = [] })
  unfolding first_indent
  paragraph_settled s l ls f e =
      let m = indent_margined o l.text s f.0 e in
      record {
        formatted = ((s, e), all_weaken _ _ (λ k (h : Starts o _ k). (h.shape, h.formatted)) (take (further o false s ls) ls) (further_starts o s ls));
        first = m;
        indent = indent_for_law l.text s ls f.1 m;
      }

abbrev SettledKind : Opts → List Line → Kind → Type 0
SettledKind o lines blank_line = Unit {0}
SettledKind o lines (plain_line text) = Unit {0}
SettledKind o lines (paragraph p) = p.mail ≡ false → Settled o lines p

abbrev pub SettledPiece : Opts → Piece → Type 0
SettledPiece o q = SettledKind o q.lines q.kind

next_settled : (o : Opts) (nextMail : Bool) (ls : List Line) → 0 < length ls → All Feedless ls → SettledPiece o (next_piece o nextMail ls).item
unfolding next_piece paragraph_at
next_settled o nextMail [] h f = tt
next_settled o nextMail (l ∷ ls) h f = go (classify o l.text) refl
  where
    text : (mail : Bool) (s : Shape) → classify o l.text ≡ Formatted s → mail ≡ false
        → Settled o (l ∷ take (further o mail s ls) ls) (record { mail = mail; first = first_indent mail l.text s; indent = indent_for o mail l.text s ls; rows = map (row_of o) (l ∷ take (further o mail s ls) ls) })
    text true s e n = absurd (true≢false n)
    text false s e n = let p = paragraph_settled o s l ls f e in record { formatted = p.formatted; first = p.first; indent = p.indent }

    go : (c : Class) → classify o l.text ≡ c → SettledPiece o (piece_as o nextMail l ls c).item
    go Blank e = tt
    go Plain e = tt
    go (Formatted s) e = text (starts_mail o.mail nextMail s l.text) s e

pub pieces_settled : (o : Opts) (notes : List ℕ) → All (SettledPiece o) (pieces o notes)
unfolding pieces
pieces_settled o notes = walk_all (next_piece o) (SettledPiece o) (All Feedless) (all_drop Feedless) (next_settled o) true (lines_of notes) (lines_feedless notes)

-- What the piece that the code finds at a place means: the next piece of the definition, its bytes, and what goes on after it; and that its
-- places and numbers keep to their bounds.
use mathlib.Core.Path.{◌≡◌, refl, sym, ap, subst, subst⁻¹, ◌∙◌}
use mathlib.Core.Bool.{Bool, true, false, ◌||◌, true≢false}
use mathlib.Core.List.{List, ◌∷◌, map}
use Prim.Native.Nat.{ℕ, suc, ◌+◌, ◌≤◌, ◌<◌}
use native.Mathlib.Omega.{arith}
use lib.ListN.{length, take, drop}
use lib.Seq.{slice}
use Rattle.lists.specs.Walk.{Stride}
use Rattle.options.specs.Opts.{Opts, meant}
use Rattle.options.specs.declared.Options.{Options}
use Rattle.lines.specs.Lines.{Line, first_line, lines_of}
use Rattle.lines.specs.Cited.Places.{most_large, Usable}
use Rattle.lines.specs.Classes.{classify}
use Rattle.lines.specs.declared.Shape.{Shape}
use Rattle.lines.specs.declared.Class.{Class}
use Rattle.lines.specs.declared.Class.TheVariants.{Blank, Plain, Formatted}
use Rattle.lines.proofs.Extents.{lines_feedless}
use Rattle.pieces.specs.Pieces.{Paragraph, Kind, Piece, blank_line, plain_line, paragraph, starts_mail, further, first_indent, indent_for, row_of, paragraph_at, piece_as, next_piece}
use Rattle.pieces.specs.Cited.Places.{taken, start_at, paragraph_with, piece_from, piece_at, Cleared}
use Rattle.pieces.specs.Cited.Bounds.{Bounded}
use Rattle.pieces.specs.declared.Paragraph.{Paragraph as ParagraphAt}
use Rattle.pieces.specs.declared.Piece.{Piece as PieceAt}
use Rattle.pieces.specs.declared.Piece.TheVariants.{Blank as BlankAt, Plain as PlainAt, Text}
use Rattle.pieces.proofs.Extents.{Rows}
use Rattle.pieces.proofs.Indents.{MarginIs}
use Rattle.pieces.proofs.Starting.{AllStart, further_starts, starts_begin}
use Rattle.pieces.proofs.Taken.{line_at, behind_at, rest_at, here, Lines, lines_are, alone_lines}
use Rattle.pieces.proofs.Indented.{end_of, first_is, indent_is}

-- ---- what a piece in places means

-- the turn of the pieces at a place of the notes
abbrev pub turn_at : Opts → Bool → List ℕ → ℕ → Stride Piece Bool
turn_at o nextMail notes at = next_piece o nextMail (lines_of (drop at notes))

-- it gives a piece of a kind, whose lines stand from at up to next, and a state; the lines left are those after next
pub record TurnIs (o : Opts) (nextMail : Bool) (notes : List ℕ) (at : ℕ) (kind : Kind) (state : Bool) (next : ℕ) : Type 0 where
  pub some : 0 < length (lines_of (drop at notes))
  pub kind_is : (turn_at o nextMail notes at).item.kind ≡ kind
  pub state_is : (turn_at o nextMail notes at).state ≡ state
  pub extent : at + taken (turn_at o nextMail notes at).item.lines ≡ next
  pub behind : drop (suc (turn_at o nextMail notes at).besides) (lines_of (drop at notes)) ≡ lines_of (drop next notes)

-- a paragraph in places: its indents, its rows, which are the lines of its part of the notes, and where their words begin
pub record TextIs (o : Opts) (notes : List ℕ) (at : ℕ) (p : ParagraphAt) (q : Paragraph) : Type 0 where
  pub mail : q.mail ≡ p.mail
  pub first : MarginIs notes p.first q.first
  pub indent : MarginIs notes p.indent q.indent
  pub rows : Rows o (lines_of (slice at p.next notes)) q
  pub starts : p.mail ≡ false → AllStart o p.start p.later (lines_of (slice at p.next notes))

pub record TextMeans (o : Opts) (nextMail : Bool) (notes : List ℕ) (at : ℕ) (p : ParagraphAt) : Type 0 where
  pub paragraph_is : Paragraph
  pub turn : TurnIs o nextMail notes at (paragraph paragraph_is) p.mail p.next
  pub text : TextIs o notes at p paragraph_is

abbrev pub Means : Opts → Bool → List ℕ → ℕ → PieceAt → Type 0
Means o nextMail notes at (BlankAt next) = TurnIs o nextMail notes at blank_line true next
Means o nextMail notes at (PlainAt end next) = TurnIs o nextMail notes at (plain_line (slice at end notes)) false next
Means o nextMail notes at (Text p) = TextMeans o nextMail notes at p

-- it does so, within its bounds
record Found (o : Opts) (nextMail : Bool) (notes : List ℕ) (at : ℕ) (r : PieceAt) : Type 0 where
  meaning : Means o nextMail notes at r
  bounds : Bounded o.glue notes at r

-- ---- the next turn

module _ (o : Opts) (nextMail : Bool) (notes : List ℕ) (at : ℕ) (inside : at < length notes) where
  abbrev line : Line
  line = line_at notes at

  abbrev behind : ℕ
  behind = behind_at notes at

  abbrev rest : List Line
  rest = rest_at notes at

  turn_is : (t : Stride Piece Bool) (kind : Kind) (next : ℕ) → next_piece o nextMail (line ∷ rest) ≡ t → t.item.kind ≡ kind → t.item.lines ≡ line ∷ take t.besides rest → Lines notes at inside t.besides next
      → TurnIs o nextMail notes at kind t.state next
  turn_is t kind next e k ls n =
      let f = (here notes at inside).first in
      let u : turn_at o nextMail notes at ≡ t = ap (next_piece o nextMail) f ∙ e in
      record {
        some = rw f (omega arith);
        kind_is = ap (λ (x : Stride Piece Bool). x.item.kind) u ∙ k;
        state_is = ap (λ (x : Stride Piece Bool). x.state) u;
        extent = ap (λ (x : Stride Piece Bool). at + taken x.item.lines) u ∙ ap (λ (ys : List Line). at + taken ys) ls ∙ n.count;
        behind = ap (λ (x : Stride Piece Bool). drop (suc x.besides) (lines_of (drop at notes))) u ∙ ap (drop (suc t.besides)) f ∙ n.more;
      }

  as_class : (k : Class) → classify o line.text ≡ k → next_piece o nextMail (line ∷ rest) ≡ piece_as o nextMail line rest k
  unfolding next_piece
  as_class k e = ap (piece_as o nextMail line rest) e

  blank_found : classify o line.text ≡ Blank → Found o nextMail notes at (BlankAt behind)
  unfolding behind_at line_at
  blank_found e = let h = here notes at inside in record {
    meaning = turn_is (piece_as o nextMail line rest Blank) blank_line behind (as_class Blank e) refl refl (alone_lines notes at inside);
    bounds = (omega (arith, h.on), h.within);
  }

  plain_found : classify o line.text ≡ Plain → Found o nextMail notes at (PlainAt (at + length line.text) behind)
  unfolding behind_at line_at
  plain_found e = let h = here notes at inside in record {
    meaning = turn_is (piece_as o nextMail line rest Plain) _ behind (as_class Plain e) (ap plain_line h.text) refl (alone_lines notes at inside);
    bounds = (omega (arith, h.on), h.within, omega arith, omega (arith, h.shorter));
  }

  -- ---- a paragraph

  module _ (least : 1 ≤ o.tab) (most : o.tab ≤ 100) (short : length notes ≤ most_large) (cleared : o.split ≡ true → (o.crown || o.tagged) ≡ false)
      (s : Shape) (formed : classify o line.text ≡ Formatted s) where
    meant_by : Bool → Paragraph
    meant_by mail = record {
      mail = mail;
      first = first_indent mail line.text s;
      indent = indent_for o mail line.text s rest;
      rows = map (row_of o) (line ∷ take (further o mail s rest) rest);
    }

    starts_are : (mail : Bool) → mail ≡ false → AllStart o s.indent_end (start_at o mail s rest) (line ∷ take (further o mail s rest) rest)
    starts_are true e = absurd (true≢false e)
    starts_are false e = (record { shape = s; formatted = formed; indent = refl }, further_starts o s rest)

    starts_in : (mail : Bool) → mail ≡ false → AllStart o s.indent_end (start_at o mail s rest) (lines_of (slice at (end_of o mail s notes at) notes))
    starts_in mail e = subst (AllStart o s.indent_end (start_at o mail s rest)) (lines_are notes at inside (further o mail s rest)).are (starts_are mail e)

    rows_are : (mail : Bool) → Rows o (lines_of (slice at (end_of o mail s notes at) notes)) (meant_by mail)
    unfolding meant_by
    rows_are mail =
        let n = (lines_are notes at inside (further o mail s rest)).are in
        record { rows = ap (map (row_of o)) n; feedless = lines_feedless (slice at (end_of o mail s notes at) notes); head = line; tail = _; begin = sym n; shape = s; formatted = formed }

    text_found : Found o nextMail notes at (Text (paragraph_with o (starts_mail o.mail nextMail s line.text) at behind s rest))
    unfolding meant_by paragraph_with paragraph_at
    text_found =
        let mail = starts_mail o.mail nextMail s line.text in
        let n = lines_are notes at inside (further o mail s rest) in
        let f = first_is o notes at inside least most short cleared s formed mail in
        let i = indent_is o notes at inside least most short cleared s formed mail in
        record {
          meaning = record {
            paragraph_is = meant_by mail;
            turn = turn_is (paragraph_at o nextMail s line rest) (paragraph (meant_by mail)) _ (as_class (Formatted s) formed) refl refl n;
            text = record { mail = refl; first = f.is; indent = i.is; rows = rows_are mail; starts = starts_in mail };
          };
          bounds = record { on = n.on; within = n.most; first = f.inside; indent = i.inside; begins = λ m. starts_begin o least most _ _ _ (starts_in mail m) };
        }

-- the piece that the code finds at a place of the notes
module _ (o : Opts) (nextMail : Bool) (notes : List ℕ) (at : ℕ) (inside : at < length notes) (least : 1 ≤ o.tab) (most : o.tab ≤ 100) (short : length notes ≤ most_large)
    (cleared : o.split ≡ true → (o.crown || o.tagged) ≡ false) where
  found_as : (k : Class) → classify o (first_line (drop at notes)).text ≡ k → Found o nextMail notes at (piece_from o nextMail at (first_line (drop at notes)) (rest_at notes at) k)
  unfolding line_at behind_at
  found_as Blank e = blank_found o nextMail notes at inside e
  found_as Plain e = plain_found o nextMail notes at inside e
  found_as (Formatted s) e = text_found o nextMail notes at inside least most short cleared s e

  found : Found o nextMail notes at (piece_at o nextMail notes at)
  unfolding piece_at line_at
  found = rw (here notes at inside).first (found_as (classify o (first_line (drop at notes)).text) refl)

  pub means : Means o nextMail notes at (piece_at o nextMail notes at)
  means = found.meaning

  pub bounded : Bounded o.glue notes at (piece_at o nextMail notes at)
  bounded = found.bounds

-- of the code's options: a piece that is the one at the place, with its bounds, whatever else is known
pub piece_bounded : (block notes : List ℕ) (o : Options) (nextMail : Bool) (at : ℕ) (r : PieceAt) (Known : Type 0) → (at < length notes) × (length notes ≤ most_large) × Usable block o × Cleared o × Known
    → r ≡ piece_at (meant block o) nextMail notes at → (r ≡ piece_at (meant block o) nextMail notes at) × Bounded o.glue notes at r
unfolding meant
piece_bounded block notes o nextMail at r Known h e = (e, subst⁻¹ (Bounded o.glue notes at) e (bounded (meant block o) nextMail notes at h.0 h.2.least h.2.most h.1 h.3))

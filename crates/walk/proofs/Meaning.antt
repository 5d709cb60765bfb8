-- What the piece that the code finds at a place means for the call: which pieces go on after it.
use mathlib.Core.Path.{ap, ◌∙◌}
use mathlib.Core.Bool.{Bool, true, false}
use mathlib.Core.List.{List, ◌∷◌}
use Prim.Native.Nat.{ℕ, ◌≤◌, ◌<◌}
use lib.ListN.{length}
use lib.Seq.{slice}
use Rattle.lists.specs.Walk.{walk}
use Rattle.lists.proofs.Walk.{walk_step}
use Rattle.options.specs.Opts.{Opts}
use Rattle.lines.specs.Lines.{Line}
use Rattle.pieces.specs.Pieces.{Paragraph, Kind, blank_line, plain_line, paragraph, next_piece}
use Rattle.pieces.specs.Cited.Places.{taken}
use Rattle.pieces.specs.Cited.Bounds.{ParagraphWithin, Bounded}
use Rattle.pieces.specs.declared.Paragraph.{Paragraph as ParagraphAt}
use Rattle.pieces.specs.declared.Piece.{Piece as PieceAt}
use Rattle.pieces.specs.declared.Piece.TheVariants.{Blank as BlankAt, Plain as PlainAt, Text}
use Rattle.pieces.proofs.Meaning.{turn_at, TurnIs, TextIs, Means}
use Rattle.walk.specs.Digest.{extent_of}
use Rattle.walk.specs.Cited.Course.{pieces_from, FirstPiece}

-- a paragraph in places, the piece that it is, and what its places and numbers keep to
pub record TextGoes (o : Opts) (nextMail : Bool) (notes : List ℕ) (at : ℕ) (p : ParagraphAt) : Type 0 where
  pub paragraph_is : Paragraph
  pub goes : FirstPiece o nextMail notes at (paragraph paragraph_is) p.mail p.next
  pub text : TextIs o notes at p paragraph_is
  pub bounds : ParagraphWithin o.glue notes at p

abbrev pub PieceGoes : Opts → Bool → List ℕ → ℕ → PieceAt → Type 0
PieceGoes o nextMail notes at (BlankAt next) = FirstPiece o nextMail notes at blank_line true next
PieceGoes o nextMail notes at (PlainAt end next) = FirstPiece o nextMail notes at (plain_line (slice at end notes)) false next × (at ≤ end) × (end ≤ next)
PieceGoes o nextMail notes at (Text p) = TextGoes o nextMail notes at p

module _ (o : Opts) (nextMail : Bool) (notes : List ℕ) (at : ℕ) where
  turn_goes : (kind : Kind) (state : Bool) (next : ℕ) → TurnIs o nextMail notes at kind state next → at < next → next ≤ length notes → FirstPiece o nextMail notes at kind state next
  unfolding pieces_from extent_of taken
  turn_goes kind state next t on within = record {
    piece = (turn_at o nextMail notes at).item;
    is = t.kind_is;
    pieces =
        walk_step (next_piece o) nextMail _ t.some
        ∙ ap (λ (ls : List Line). (turn_at o nextMail notes at).item ∷ walk (next_piece o) (turn_at o nextMail notes at).state ls) t.behind
        ∙ ap (λ (b : Bool). (turn_at o nextMail notes at).item ∷ pieces_from o b notes next) t.state_is;
    extent = t.extent;
    on = on;
    within = within;
  }

  -- the bounds are those that `next_piece` promises
  pub piece_goes : (r : PieceAt) → Means o nextMail notes at r → Bounded o.glue notes at r → PieceGoes o nextMail notes at r
  piece_goes (BlankAt next) m b = turn_goes blank_line true next m b.0 b.1
  piece_goes (PlainAt end next) m b = (turn_goes (plain_line (slice at end notes)) false next m b.0 b.1, b.2, b.3)
  piece_goes (Text p) m b = record {
    paragraph_is = m.paragraph_is;
    goes = turn_goes (paragraph m.paragraph_is) p.mail p.next m.turn b.on b.within;
    text = m.text;
    bounds = b;
  }

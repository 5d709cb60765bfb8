-- The pieces of notes, one after the other, are decided, wherever they are such as notes can have.
use mathlib.Core.Path.{◌≡◌, refl, ap, ◌∙◌}
use mathlib.Core.List.{List, [], ◌∷◌, ◌++◌}
use Prim.Native.Nat.{ℕ, ◌+◌, ◌<◌}
use native.Mathlib.Omega.{arith}
use lib.ListN.{length}
use Rattle.lists.specs.Theorems.All.{All}
use Rattle.lists.proofs.Parts.{every_nil}
use Rattle.options.specs.Opts.{Opts}
use Rattle.lines.specs.Lines.{no_feed}
use Rattle.pieces.specs.Pieces.{Paragraph, Kind, Piece, blank_line, plain_line, paragraph}
use Rattle.records.specs.Word.{Word}
use Rattle.words.specs.Words.{words_of}
use Rattle.output.specs.Emission.{line_feed}
use Rattle.output.proofs.Indents.{Feedless}
use Rattle.checker.specs.Acceptable.{Then, PieceIn, PiecesIn}
use Rattle.checker.specs.Named.{feeds}
use Rattle.checker.specs.Matching.{match_text, match_feed, match_line, match_piece, match_pieces}
use Rattle.checker.proofs.Feeds.{feeds_nil}
use Rattle.checker.proofs.Decides.{Decides, Is, on_fault, decides_text, decides_feed, decides_then, decides_same}
use Rattle.checker.proofs.Gaps.{Fits}
use Rattle.checker.proofs.Lines.{decides_words}

-- a paragraph that notes can have
pub record Lays (o : Opts) (p : Paragraph) : Type 0 where
  pub first : Feedless p.first.bytes
  pub indent : Feedless p.indent.bytes
  pub words : All (λ (w : Word). Fits o.glue w.text) (words_of o p)
  pub some : 0 < length (words_of o p)

abbrev pub KindFits : Opts → Kind → Type 0
KindFits o blank_line = Unit {0}
KindFits o (plain_line line) = Feedless line
KindFits o (paragraph p) = Lays o p

abbrev pub PieceFits : Opts → Piece → Type 0
PieceFits o q = KindFits o q.kind

decides_line : (line : List ℕ) → Feedless line → Decides (λ bytes. bytes ≡ line ++ line_feed) (match_line line)
unfolding match_line
decides_line line f =
    decides_same (Then (Is line) (Is line_feed)) (λ bytes. bytes ≡ line ++ line_feed) _
    (λ part t. t.bytes_are ∙ ap (λ (l : List ℕ). l ++ t.rest) t.first ∙ ap (λ (l : List ℕ). line ++ l) t.second)
    (λ part e. record { part = line; rest = line_feed; bytes_are = e; first = refl; second = refl })
    (decides_then (Is line) (Is line_feed) (match_text line) match_feed (decides_text line f) decides_feed)

pub decides_piece : (o : Opts) (kind : Kind) → KindFits o kind → Decides (PieceIn o kind) (match_piece o kind)
unfolding match_piece
decides_piece o blank_line f = decides_line [] (every_nil no_feed)
decides_piece o (plain_line line) f = decides_line line f
decides_piece o (paragraph p) f = decides_words o.glue p.first.bytes p.indent.bytes (words_of o p) f.first f.indent f.words f.some

pub decides_pieces : (o : Opts) (qs : List Piece) → All (PieceFits o) qs → Decides (PiecesIn o qs) (match_pieces o qs)
unfolding match_pieces
decides_pieces o [] a = record {
  found = λ xs n rest m e.
      let z : xs ≡ rest = cc in
      let q : n ≡ m = cc in
      record { part = []; is = z; takes = refl; line = omega (arith, feeds_nil) };
  finds = λ part rest n e. let z : n ≡ n + feeds [] = omega (arith, feeds_nil) in rw (e, ← z);
  example = [];
  some = refl;
  faults = λ xs n m e. on_fault e;
}
decides_pieces o (q ∷ qs) a = decides_then (PieceIn o q.kind) (PiecesIn o qs) (match_piece o q.kind) (match_pieces o qs) (decides_piece o q.kind a.0) (decides_pieces o qs a.1)

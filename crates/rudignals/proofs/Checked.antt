-- What the formatter writes, the checker accepts: from the order of its words (Order). So does the call, within 65,536 bytes.
use Rattle.std.proofs.Common.{Result, Ok, Err}
use mathlib.Core.Path.{◌≡◌, refl}
use mathlib.Core.List.{List, [], ◌∷◌}
use Prim.Native.Nat.{ℕ, ◌≤◌}
use native.Mathlib.Omega.{arith}
use lib.ListN.{length}
use Rattle.lists.specs.Runs.{joined}
use Rattle.lists.specs.Theorems.All.{All, ◌∈◌}
use Rattle.lists.proofs.Parts.{joined_nil, joined_cons}
use Rattle.options.specs.Opts.{Opts, meant}
use Rattle.options.specs.OptionBlock.{read_block}
use Rattle.options.specs.declared.Options.{Options}
use Rattle.options.specs.declared.Fault.{Fault}
use Rattle.pieces.specs.Pieces.{Kind, Piece, blank_line, plain_line, paragraph, pieces}
use Rattle.words.specs.Words.{words_of}
use Rattle.walk.specs.Digest.{formatted, output_of, piece_output, digest}
use Rattle.formatter.specs.Format.{Limits, found, with_block, finding}
use Rattle.formatter.proofs.Answers.{found_done}
use Rattle.checker.specs.Acceptable.{PieceIn, PiecesIn, Acceptable}
use Rattle.checker.specs.Matching.{accepted, verdict}
use Rattle.checker.proofs.Lines.{order_carried}
use Rattle.checker.proofs.Theorems.{what_is_acceptable_is_accepted}
use Rattle.judge.specs.Checking.{checking}
use Rattle.judge.proofs.Theorems.{what_is_acceptable_the_call_accepts}
use Rattle.rudignals.proofs.Order.{members_all, paragraph_order}

piece_in : (o : Opts) (notes : List ℕ) (q : Piece) → q ∈ pieces o notes → PieceIn o q.kind (piece_output o q)
unfolding output_of
piece_in o notes q m = go q.kind refl
  where
    go : (k : Kind) → q.kind ≡ k → PieceIn o k (output_of o k)
    go blank_line e = refl
    go (plain_line line) e = refl
    go (paragraph p) e = order_carried o.glue p.indent.bytes p.first.bytes (words_of o p) (formatted o p) (rw e at (paragraph_order o notes q p m e))

pieces_in : (o : Opts) (qs : List Piece) → All (λ (q : Piece). PieceIn o q.kind (piece_output o q)) qs → PiecesIn o qs (joined (piece_output o) qs)
pieces_in o [] a = joined_nil (piece_output o)
pieces_in o (q ∷ qs) a = record { part = piece_output o q; rest = joined (piece_output o) qs; bytes_are = joined_cons (piece_output o) q qs; first = a.0; second = pieces_in o qs a.1 }

pub what_is_written_is_acceptable : (o : Opts) (notes : List ℕ) → Acceptable o notes (digest o notes)
unfolding digest
what_is_written_is_acceptable o notes = pieces_in o (pieces o notes) (members_all _ (pieces o notes) (piece_in o notes))

pub what_is_written_is_accepted : (o : Opts) (notes : List ℕ) → verdict o notes (digest o notes) ≡ accepted
what_is_written_is_accepted o notes = what_is_acceptable_is_accepted o notes (digest o notes) (what_is_written_is_acceptable o notes)

-- All that our formatter writes within the limit, 65,536 bytes in RULES 2.2, is accepted with the notes it was written for.
pub what_is_written_the_call_accepts : (l : Limits) (block notes bytes : List ℕ) → finding l block notes ≡ found bytes → length bytes ≤ l.bytes → checking l block notes bytes ≡ Ok tt
unfolding finding
what_is_written_the_call_accepts l block notes bytes e h = go (read_block block) refl e
  where
    go : (b : Result Options Fault) → read_block block ≡ b → with_block l block notes b ≡ found bytes → checking l block notes bytes ≡ Ok tt
    go (Err fault) q k = absurd (let z : ◌≡◌ {A = ℕ} 0 1 = cc in omega arith)
    go (Ok o) q k = what_is_acceptable_the_call_accepts l block notes bytes (record {
      options = o;
      accepted = q;
      bytes = bytes;
      passed = e;
      short = h;
      holds = rw (found_done l block notes o bytes q e).bytes_are (what_is_written_is_acceptable (meant block o) notes);
    })

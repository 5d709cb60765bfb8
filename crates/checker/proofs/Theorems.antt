-- What RULES 18 claims of the checker, about all notes and all digests.
use mathlib.Core.Path.{◌≡◌}
use mathlib.Core.List.{List}
use Prim.Native.Nat.{ℕ}
use Rattle.options.specs.Opts.{Opts}
use Rattle.pieces.specs.Pieces.{pieces}
use Rattle.checker.specs.Acceptable.{PiecesIn, Acceptable}
use Rattle.checker.specs.Named.{Named}
use Rattle.checker.specs.Matching.{match_pieces, accepted, at, verdict}
use Rattle.checker.proofs.Decides.{Decides}
use Rattle.checker.proofs.Pieces.{decides_pieces}
use Rattle.checker.proofs.Verdicts.{accepted_good, good_accepted, at_named, named_at}
use Rattle.checker.proofs.Notes.{pieces_fit}

module _ (o : Opts) (notes digest : List ℕ) where
  decided : Decides (PiecesIn o (pieces o notes)) (match_pieces o (pieces o notes))
  decided = decides_pieces o (pieces o notes) (pieces_fit o notes)

  -- It accepts exactly the acceptable digests: those that are accepted are acceptable, and those that are acceptable are accepted.
  pub what_is_accepted_is_acceptable : verdict o notes digest ≡ accepted → Acceptable o notes digest
  unfolding verdict
  what_is_accepted_is_acceptable = accepted_good _ _ decided digest

  pub what_is_acceptable_is_accepted : Acceptable o notes digest → verdict o notes digest ≡ accepted
  unfolding verdict
  what_is_acceptable_is_accepted = good_accepted _ _ decided digest

  -- Of every other digest it names the first line that cannot be continued to an acceptable one, whatever may follow; and there is no other.
  pub the_line_told_is_the_line_named : (n : ℕ) → verdict o notes digest ≡ at n → Named (Acceptable o notes) digest n
  unfolding verdict
  the_line_told_is_the_line_named = at_named _ _ decided digest

  pub the_line_named_is_the_line_told : (n : ℕ) → Named (Acceptable o notes) digest n → verdict o notes digest ≡ at n
  unfolding verdict
  the_line_named_is_the_line_told = named_at _ _ decided digest

-- Room that is lent, and the paragraphs: it is enough exactly where none has more words than there is room for.
use Rattle.std.proofs.Common.{Option, Some, None}
use mathlib.Core.Path.{◌≡◌, refl, sym, ◌∙◌}
use mathlib.Core.Bool.{Bool, true, false, cond}
use mathlib.Core.List.{List, [], ◌∷◌}
use Prim.Native.Nat.{ℕ, ◌+◌, ◌*◌, ◌≤◌, ◌<◌}
use native.Mathlib.Nat.{max-le}
use native.Mathlib.Omega.{arith}
use lib.Dec.{leb}
use lib.ListN.{length}
use borrow.Author.Tests.{ltb-false, leb-true, leb-false}
use Rattle.options.specs.Opts.{Opts}
use Rattle.pieces.specs.Pieces.{Piece, Kind, blank_line, plain_line, paragraph, pieces}
use Rattle.words.specs.Words.{words_of}
use Rattle.paragraphs.specs.Cited.Steps.{room_for}
use Rattle.walk.specs.Digest.{extent_of, too_many, long_paragraph}
use Rattle.walk.specs.Work.{work_of, most_work, work_for}
use Rattle.walk.proofs.Loop.{all_long}
use Rattle.walk.proofs.Lent.{enough}

-- words that there is room for take no more numbers than there are
room_words : (quick : Bool) (size n : ℕ) → n ≤ room_for quick size → cond quick 7 15 * n ≤ size
unfolding room_for
room_words true size n h = omega arith
room_words false size n h = omega arith

module _ (o : Opts) (size : ℕ) where
  kind_room : (k : Kind) → too_many (room_for o.quick size) o k ≡ false → work_of o k ≤ size
  kind_room blank_line e = omega arith
  kind_room (plain_line line) e = omega arith
  kind_room (paragraph p) e = room_words o.quick size (length (words_of o p)) (ltb-false (room_for o.quick size) (length (words_of o p)) e)

  none_over : (place : ℕ) (qs : List Piece) → long_paragraph (room_for o.quick size) o place qs ≡ None → most_work o qs ≤ size
  unfolding long_paragraph most_work
  none_over place [] e = omega arith
  none_over place (q ∷ qs) e = go (too_many (room_for o.quick size) o q.kind) refl e (none_over (place + length (extent_of q)) qs)
    where
      go : (b : Bool) → too_many (room_for o.quick size) o q.kind ≡ b → elim b as (λ x. Option ℕ) [ true ↦ Some place | false ↦ long_paragraph (room_for o.quick size) o (place + length (extent_of q)) qs ] ≡ None
          → (long_paragraph (room_for o.quick size) o (place + length (extent_of q)) qs ≡ None → most_work o qs ≤ size) → most_work o (q ∷ qs) ≤ size
      go true t k rest = absurd (let z : ◌≡◌ {A = ℕ} 0 1 = cc in omega arith)
      go false t k rest = max-le (kind_room q.kind t) (rest k)

  pub fits : (notes : List ℕ) → long_paragraph (room_for o.quick size) o 0 (pieces o notes) ≡ None → work_for o notes ≤ size
  unfolding work_for
  fits notes e = none_over 0 (pieces o notes) e

  pub over : (notes : List ℕ) {place : ℕ} → long_paragraph (room_for o.quick size) o 0 (pieces o notes) ≡ Some place → size < work_for o notes
  over notes {place} e = go (leb (work_for o notes) size) refl
    where
      go : (b : Bool) → leb (work_for o notes) size ≡ b → size < work_for o notes
      go false t = leb-false (work_for o notes) size t
      go true t =
          let n : long_paragraph (room_for o.quick size) o 0 (pieces o notes) ≡ None = sym (all_long (room_for o.quick size) o notes) ∙ enough o size notes (leb-true (work_for o notes) size t) in
          let m = sym n ∙ e in
          absurd (let z : ◌≡◌ {A = ℕ} 0 1 = cc in omega arith)

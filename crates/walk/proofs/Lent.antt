-- The walk in lent room: where it is as much as the notes need, no paragraph has more words than there is room for; and the greatest need, found
-- piece by piece.
use Rattle.std.proofs.Common.{None}
use mathlib.Core.Path.{◌≡◌, refl, sym, ap, ◌∙◌}
use mathlib.Core.Bool.{Bool, true, false, cond}
use mathlib.Core.List.{List, [], ◌∷◌}
use Prim.Native.Nat.{ℕ, ◌+◌, ◌-◌, ◌*◌, ◌≤◌, max}
use native.Mathlib.Omega.{arith}
use lib.ListN.{length}
use lib.Seq.{slice, length-slice}
use borrow.Author.Tests.{le-ltb}
use Rattle.options.specs.Opts.{Opts, meant}
use Rattle.options.specs.declared.Options.{Options}
use Rattle.lines.specs.Lines.{lines_of}
use Rattle.lines.proofs.Extents.{lines_extents}
use Rattle.pieces.specs.Pieces.{Piece, Kind, blank_line, plain_line, paragraph, pieces}
use Rattle.pieces.specs.Cited.Bounds.{AllBegin}
use Rattle.pieces.specs.declared.Paragraph.{Paragraph as ParagraphAt}
use Rattle.words.specs.Words.{words_of}
use Rattle.words.proofs.Rows.{words_same}
use Rattle.paragraphs.specs.Cited.Steps.{room_for, words_for}
use Rattle.walk.specs.Digest.{extent_of, too_many, long_paragraph}
use Rattle.walk.specs.Work.{work_of, most_work, work_for}
use Rattle.walk.specs.Cited.Course.{pieces_from, long_from, FirstPiece}
use Rattle.walk.proofs.Meaning.{TextGoes}
use Rattle.walk.proofs.Rows.{text_words}
use Rattle.walk.proofs.Work.{paragraph_half, trail_upto}
use Rattle.walk.proofs.Loop.{all_long, all_pieces, none_left}

-- ---- enough room

-- so many words that take no more numbers than there are have room in them
words_room : (quick : Bool) (size n : ℕ) → cond quick 7 15 * n ≤ size → n ≤ room_for quick size
unfolding room_for
words_room true size n h = omega arith
words_room false size n h = omega arith

module _ (o : Opts) (size : ℕ) where
  kind_few : (k : Kind) → work_of o k ≤ size → too_many (room_for o.quick size) o k ≡ false
  kind_few blank_line h = refl
  kind_few (plain_line line) h = refl
  kind_few (paragraph p) h = le-ltb (room_for o.quick size) (length (words_of o p)) (words_room o.quick size (length (words_of o p)) h)

  none_long : (place : ℕ) (qs : List Piece) → most_work o qs ≤ size → long_paragraph (room_for o.quick size) o place qs ≡ None
  unfolding long_paragraph most_work
  none_long place [] h = refl
  none_long place (q ∷ qs) h =
      rw (long_paragraph, kind_few q.kind (let m : max (work_of o q.kind) (most_work o qs) ≤ size = h in omega arith))
      (none_long (place + length (extent_of q)) qs (let m : max (work_of o q.kind) (most_work o qs) ≤ size = h in omega arith))

  -- where there is as much room as the notes need, there is room for every paragraph
  pub enough : (notes : List ℕ) → work_for o notes ≤ size → long_from (room_for o.quick size) o true notes 0 ≡ None
  unfolding work_for
  enough notes h = all_long (room_for o.quick size) o notes ∙ none_long 0 (pieces o notes) h

-- ---- the greatest need

module _ (o : Opts) (notes : List ℕ) where
  -- so much, or what the pieces from a place on need
  pub work_from : ℕ → Bool → ℕ → ℕ
  work_from most nextMail at = max most (most_work o (pieces_from o nextMail notes at))

  pub work_first : (lent : ℕ) → work_from lent true 0 ≡ max lent (work_for o notes)
  unfolding work_for work_from
  work_first lent = ap (λ (qs : List Piece). max lent (most_work o qs)) (all_pieces o notes)

  pub work_last : (most : ℕ) (nextMail : Bool) (at : ℕ) → length notes ≤ at → work_from most nextMail at ≡ most
  unfolding most_work work_from
  work_last most nextMail at h = rw (none_left o nextMail notes at h) (omega arith)

  pub work_on : {kind : Kind} {state : Bool} {next more : ℕ} (most : ℕ) (nextMail : Bool) (at : ℕ) → more ≡ max most (work_of o kind) → FirstPiece o nextMail notes at kind state next
      → work_from more state next ≡ work_from most nextMail at
  unfolding most_work work_from
  work_on {kind} {state} {next} {more} most nextMail at m g =
      let e : most_work o (pieces_from o nextMail notes at) ≡ max (work_of o kind) (most_work o (pieces_from o state notes next)) = ap (most_work o) g.pieces ∙ ap (λ (k : Kind). max (work_of o k) (most_work o (pieces_from o state notes next))) g.is in
      omega (arith, e, m)

  -- a line needs none
  pub work_line : {kind : Kind} {state : Bool} {next : ℕ} (most : ℕ) (nextMail : Bool) (at : ℕ) → work_of o kind ≡ 0 → FirstPiece o nextMail notes at kind state next → work_from most state next ≡ work_from most nextMail at
  work_line most nextMail at z g = work_on most nextMail at (omega (arith, z)) g

-- ---- a paragraph

-- its lines' words begin where the code was told
pub text_begins : (block notes : List ℕ) (o : Options) (nextMail : Bool) (at : ℕ) (p : ParagraphAt) → TextGoes (meant block o) nextMail notes at p → p.mail ≡ false → AllBegin o.glue p.start p.later (lines_of (slice at p.next notes))
unfolding meant
text_begins block notes o nextMail at p g = g.bounds.begins

-- it has a byte for each word and one between two
pub text_half : (block notes : List ℕ) (o : Options) (nextMail : Bool) (at : ℕ) (p : ParagraphAt) → TextGoes (meant block o) nextMail notes at p → (other : List ℕ) → 2 * length (words_for other notes at o p) ≤ p.next - at + 1
text_half block notes o nextMail at p g other =
    let ls = lines_of (slice at p.next notes) in
    let h = paragraph_half (meant block o) ls g.paragraph_is g.text.rows (trail_upto (length (slice at p.next notes)) (slice at p.next notes) (omega arith)) in
    let e = ap length (lines_extents (slice at p.next notes)) in
    let n = length-slice at p.next notes g.bounds.within in
    let w = ap length (text_words (meant block o) notes at p g.paragraph_is g.text) in
    let s = ap length (sym (words_same o block p.mail p.start p.later ls) ∙ words_same o other p.mail p.start p.later ls) in
    omega (arith, h, e, n, w, s, g.bounds.on)

-- what it needs, as the definition says it
pub text_work : (block notes : List ℕ) (o : Options) (nextMail : Bool) (at : ℕ) (p : ParagraphAt) (g : TextGoes (meant block o) nextMail notes at p) → work_of (meant block o) (paragraph g.paragraph_is) ≡ cond o.quick 7 15 * length (words_for block notes at o p)
unfolding meant
text_work block notes o nextMail at p g = ap (λ (n : ℕ). cond o.quick 7 15 * n) (ap length (text_words (meant block o) notes at p g.paragraph_is g.text))

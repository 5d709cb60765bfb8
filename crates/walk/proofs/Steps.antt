-- What a piece's writers have done, as the definition says it of the piece; and what they could ask.
use Rattle.std.proofs.Common.{None, Result, Ok, Err}
use mathlib.Core.Path.{◌≡◌, refl, sym, ap, ◌∙◌}
use mathlib.Core.Bool.{Bool, true, false, not, ◌||◌}
use mathlib.Core.List.{List, [], ◌++◌}
use Prim.Native.Nat.{ℕ, ◌+◌, ◌-◌, ◌*◌, ◌^◌, ◌≤◌, ◌<◌}
use native.Mathlib.Omega.{arith}
use lib.ListN.{length}
use lib.Seq.{slice}
use borrow.Author.Tests.{le-ltb, lt-ltb, not-true}
use Rattle.lists.proofs.Slices.{slice_is}
use Rattle.text.specs.Characters.{damage}
use Rattle.options.specs.Opts.{Opts, meant}
use Rattle.options.specs.declared.Options.{Options}
use Rattle.options.proofs.Accepted.{Kept, accepted}
use Rattle.lines.specs.Cited.Places.{most_large, Usable}
use Rattle.lines.proofs.Usable.{usable}
use Rattle.pieces.specs.Pieces.{Paragraph, blank_line, plain_line, paragraph}
use Rattle.pieces.specs.Cited.Places.{Cleared, piece_at}
use Rattle.pieces.specs.Cited.Bounds.{MarginWithin, ParagraphWithin, Bounded}
use Rattle.pieces.specs.declared.Margin.{Margin}
use Rattle.pieces.specs.declared.Paragraph.{Paragraph as ParagraphAt}
use Rattle.pieces.specs.declared.Piece.{Piece as PieceAt}
use Rattle.pieces.specs.declared.Piece.TheVariants.{Text}
use Rattle.pieces.proofs.Meaning.{TextIs, means}
use Rattle.words.specs.Words.{words_of}
use Rattle.words.specs.declared.TooMany.{TooMany}
use Rattle.words.proofs.Order.{paragraph_some}
use Rattle.output.specs.Cited.Bound.{longest}
use Rattle.output.specs.Emission.{line_feed, emit}
use Rattle.output.specs.Cited.Sink.{Wrote}
use Rattle.output.specs.Cited.Writers.{margin_of, MarginIn}
use Rattle.paragraphs.specs.Breaks.{breaks_by}
use Rattle.walk.specs.Digest.{formatted, most_words, output_of}
use Rattle.paragraphs.specs.Cited.Steps.{room_for, setting_for, words_for, Placed, TextPut, takes, TextStepped}
use Rattle.walk.specs.Cited.Course.{FirstPiece, Put, TooLong, Admitted, TextAhead, Going, FinishedFrom}
use Rattle.paragraphs.specs.declared.Cursor.{Cursor}
use Rattle.paragraphs.proofs.Streaming.{takes_few, takes_many, half}
use Rattle.walk.proofs.Rows.{text_words}
use Rattle.walk.proofs.Meaning.{TextGoes, PieceGoes, piece_goes}
use Rattle.walk.proofs.Bound.{words_few, any_text_most}
use Rattle.walk.proofs.Loop.{going_over}

-- ---- what the block's options allow

-- the piece that the code found at a place, with the bounds promised of it
pub usable_goes : (block notes : List ℕ) (o : Options) → Usable block o → Cleared o → length notes ≤ most_large → (nextMail : Bool) (at : ℕ) (r s : PieceAt) → at < length notes
    → (r ≡ piece_at (meant block o) nextMail notes at) × Bounded o.glue notes at r → r ≡ s → PieceGoes (meant block o) nextMail notes at s
unfolding meant
usable_goes block notes o u cleared short nextMail at r s h p q =
    let m = means (meant block o) nextMail notes at h u.least u.most short cleared in
    piece_goes (meant block o) nextMail notes at s (rw (sym q ∙ p.0) m) (rw q at p.1)

-- in notes that are not too long, under options that a block can give
module _ (block notes : List ℕ) (o : Options) (kept : Kept block o) (short : length notes ≤ most_large) (nextMail : Bool) (at : ℕ) where
  pub piece_found : (r s : PieceAt) → at < length notes → (r ≡ piece_at (meant block o) nextMail notes at) × Bounded o.glue notes at r → r ≡ s → PieceGoes (meant block o) nextMail notes at s
  piece_found r s h p q = usable_goes block notes o (usable block o kept) kept.split_clears short nextMail at r s h p q

  -- a paragraph lies in the notes, with limits that keep all sums small
  module _ (p : ParagraphAt) (q : Paragraph) (text : TextIs (meant block o) notes at p q) (bounds : ParagraphWithin (meant block o).glue notes at p) where
    margin_in : (m : Margin) → MarginWithin at p.next m → MarginIn (length notes) m
    margin_in m h = record { order = h.order; end = omega (arith, h.high, bounds.within); more = omega (arith, h.more) }

    pub text_found : Placed notes at o p
    unfolding meant
    text_found =
        let f = bounds.first in
        let i = bounds.indent in
        let s = paragraph_some (meant block o) _ q text.rows in
        record {
          order = omega (arith, bounds.on);
          within = bounds.within;
          short = short;
          begins = bounds.begins;
          block = block;
          some = rw (text_words (meant block o) notes at p q text) at s;
          few = omega (arith, words_few (meant block o) notes at p q text bounds, ap length (text_words (meant block o) notes at p q text), bounds.within);
          first = margin_in p.first f;
          indent = margin_in p.indent i;
          first_small = omega (arith, f.columns);
          indent_small = omega (arith, i.columns);
          goal = kept.goal_most;
          twice = kept.width_twice;
          width = kept.width_most;
          tab_least = kept.tab_least;
          tab_most = kept.tab_most;
        }

module _ (block notes : List ℕ) (o : Options) (ready : Admitted block notes o) where
  pub ready_kept : Kept block o
  ready_kept = accepted block o ready.accepted

  pub ready_usable : Usable block o
  ready_usable = usable block o ready_kept

  pub ready_cleared : Cleared o
  ready_cleared = ready_kept.split_clears

  -- where damaged characters are not kept there are none
  pub ready_sound : not o.keep ≡ true → damage notes ≡ None
  ready_sound k = ready.sound (not-true o.keep k)

  pub found_goes : (nextMail : Bool) (at : ℕ) (r s : PieceAt) → at < length notes → (r ≡ piece_at (meant block o) nextMail notes at) × Bounded o.glue notes at r → r ≡ s → PieceGoes (meant block o) nextMail notes at s
  found_goes nextMail at r s h p q = piece_found block notes o ready_kept ready.short nextMail at r s h p q

pub found_begins : (block notes : List ℕ) (o : Options) (c : Cursor) (p : ParagraphAt) {r : PieceAt} → c.at < length notes → (r ≡ piece_at (meant block o) c.mail notes c.at) × Bounded o.glue notes c.at r → r ≡ Text p
    → TextAhead block o notes c p
found_begins block notes o c p h m e = record { within = h; is = sym e ∙ m.0; bounds = rw e at m.1 }

-- ---- blank and plain lines

module _ (most : ℕ) (o : Opts) (notes out : List ℕ) (c : Cursor) (out' : List ℕ) (next n : ℕ) where
  pub blank_put : FirstPiece o c.mail notes c.at blank_line true next → Wrote out c.written (slice c.at c.at notes ++ line_feed) out' n × (n ≤ c.written + (c.at - c.at) + 1)
      → Put most o notes out c (record { at = next; written = n; mail = true }) out'
  unfolding output_of
  blank_put g w =
      let z : c.at + 0 ≡ c.at = omega arith in
      let e : slice c.at c.at notes ≡ [] = rw z at (slice_is c.at 0 notes) in
      record { kind = blank_line; goes = g; few = refl; wrote = rw e at w.0; bounded = omega (arith, g.on, w.1) }

  pub plain_put : (end : ℕ) {bytes : List ℕ} {longest : ℕ} → FirstPiece o c.mail notes c.at (plain_line (slice c.at end notes)) false next × (c.at ≤ end) × (end ≤ next) → Wrote out c.written bytes out' n × (n ≤ longest)
      → bytes ≡ slice c.at end notes ++ line_feed → longest ≤ c.written + (end - c.at) + 1 → Put most o notes out c (record { at = next; written = n; mail = false }) out'
  unfolding output_of
  plain_put end g w e k = record { kind = plain_line (slice c.at end notes); goes = g.0; few = refl; wrote = rw e at w.0; bounded = omega (arith, g.0.on, g.1, g.2, w.1, k) }

-- ---- paragraphs

module _ (block notes : List ℕ) (o : Options) (ready : Admitted block notes o) (nextMail : Bool) (at : ℕ) (p : ParagraphAt) (q : Paragraph)
    (goes : FirstPiece (meant block o) nextMail notes at (paragraph q) p.mail p.next) (text : TextIs (meant block o) notes at p q) (bounds : ParagraphWithin (meant block o).glue notes at p) where
  words_are : words_of (meant block o) q ≡ words_for block notes at o p
  words_are = text_words (meant block o) notes at p q text

  formatted_is : formatted (meant block o) q
      ≡ emit (o.uniform || p.mail) (margin_of notes p.first) (margin_of notes p.indent) (breaks_by (o.quick || p.mail) (setting_for block o p) (words_for block notes at o p)) (words_for block notes at o p)
  unfolding formatted meant
  formatted_is = rw (words_are, text.mail, text.first.bytes, text.indent.bytes, text.first.columns, text.indent.columns)

  most_is : longest (margin_of notes p.first) (margin_of notes p.indent) (words_for block notes at o p) ≡ longest q.first.bytes q.indent.bytes (words_of (meant block o) q)
  most_is = rw (words_are, text.first.bytes, text.indent.bytes)

  words_count : length (words_of (meant block o) q) ≡ length (words_for block notes at o p)
  words_count = ap length words_are

  text_put : (most : ℕ) (out : List ℕ) (c d : Cursor) (out' : List ℕ) → c.at ≡ at → c.mail ≡ nextMail → length (words_for block notes at o p) ≤ most → TextPut notes at o p out c.written out' d block
      → Put most (meant block o) notes out c d out'
  unfolding output_of
  text_put most out c d out' a m f w = record {
    kind = paragraph q;
    goes = rw (a, m, w.next, w.mail) (goes);
    few = rw words_count (le-ltb most (length (words_for block notes at o p)) f);
    wrote = rw formatted_is w.wrote;
    bounded = rw (a, w.next) (omega (arith, w.bounded, most_is, any_text_most (meant block o) notes at p q text bounds ready.short));
  }

  text_long : (most : ℕ) (out : List ℕ) (c : Cursor) → c.at ≡ at → c.mail ≡ nextMail → most < length (words_for block notes at o p) → TooLong most (meant block o) notes out c out
  text_long most out c a m w = record {
    kind = paragraph q;
    state = p.mail;
    next = p.next;
    goes = rw (a, m) (goes);
    many = rw words_count (lt-ltb most (length (words_for block notes at o p)) w);
    same = refl;
  }

module _ (block notes : List ℕ) (o : Options) (c : Cursor) (p : ParagraphAt) (ready : Admitted block notes o) (b : TextAhead block o notes c p) where
  begins_goes : TextGoes (meant block o) c.mail notes c.at p
  begins_goes = found_goes block notes o ready c.mail c.at (Text p) (Text p) b.within (b.is, b.bounds) refl

  pub begins_placed : Placed notes c.at o p
  begins_placed = let g = begins_goes in text_found block notes o (ready_kept block notes o ready) ready.short c.mail c.at p g.paragraph_is g.text g.bounds

  pub begins_stepped : (most limit room : ℕ) (out out' : List ℕ) (r : Result Cursor TooMany) (d : Cursor) → limit ≤ most → room ≤ limit → TextStepped (takes o.quick (p.next - c.at) limit room (length (words_for block notes c.at o p))) notes c.at o p out c.written out' r block → r ≡ Ok d
      → Put most (meant block o) notes out c d out'
  begins_stepped most limit room out out' r d few small w e =
      let g = begins_goes in
      let v : TextStepped (takes o.quick (p.next - c.at) limit room (length (words_for block notes c.at o p))) notes c.at o p out c.written out' (Ok d) block = rw e at w in
      let n = takes_few o.quick (p.next - c.at) limit room (length (words_for block notes c.at o p)) (half notes c.at o p begins_placed block) small v.0 in
      text_put block notes o ready c.mail c.at p g.paragraph_is g.goes g.text g.bounds most out c d out' refl refl (omega (arith, n, few)) v.1

  pub begins_over : (limit room : ℕ) (out out' : List ℕ) (r : Result Cursor TooMany) → TextStepped (takes o.quick (p.next - c.at) limit room (length (words_for block notes c.at o p))) notes c.at o p out c.written out' r block → r ≡ Err (record {})
      → (room < length (words_for block notes c.at o p)) × (out' ≡ out)
  begins_over limit room out out' r w e =
      let v : TextStepped (takes o.quick (p.next - c.at) limit room (length (words_for block notes c.at o p))) notes c.at o p out c.written out' (Err (record {})) block = rw e at w in
      (takes_many o.quick (p.next - c.at) limit room (length (words_for block notes c.at o p)) v.0, v.1)

  -- it has more words than any may have
  pub begins_long : (most : ℕ) (c₀ : Cursor) (out₀ out : List ℕ) → Going most (meant block o) notes c₀ out₀ c out → most < length (words_for block notes c.at o p)
      → FinishedFrom most (meant block o) notes c₀ out₀ out (Err (record { at = c.at }))
  begins_long most c₀ out₀ out going h =
      let g = begins_goes in
      going_over most (meant block o) notes going (text_long block notes o ready c.mail c.at p g.paragraph_is g.goes g.text g.bounds most out c refl refl h)

-- ---- the rooms

-- none of them is for more words than a paragraph may have
pub room_few : (quick : Bool) (size k : ℕ) → size ≡ k → (quick ≡ true → k ≤ 7168) → (quick ≡ false → k ≤ 15360) → room_for quick size ≤ most_words
unfolding room_for
room_few true size k e a b = let h = a refl in omega arith
room_few false size k e a b = let h = b refl in omega arith

-- so they are small
pub room_small : (quick : Bool) (size : ℕ) → room_for quick size ≤ most_words → size * 4 < 2 ^ 63
unfolding room_for
room_small true size h = omega arith
room_small false size h = omega arith

-- and the last ones are for as many
pub room_last : (quick : Bool) (size n k : ℕ) → size ≡ k → room_for quick size < n → (quick ≡ true → 7168 ≤ k) → (quick ≡ false → 15360 ≤ k) → most_words < n
unfolding room_for
room_last true size n k e h a b = let l = a refl in omega arith
room_last false size n k e h a b = let l = b refl in omega arith

pub room_full : (quick : Bool) (size : ℕ) → (quick ≡ true → size ≡ 7168) → (quick ≡ false → size ≡ 15360) → room_for quick size ≡ most_words
unfolding room_for
room_full true size a b = let k = a refl in omega arith
room_full false size a b = let k = b refl in omega arith

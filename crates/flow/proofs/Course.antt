-- Piece by piece: what was sent of each, and what is left of the work.
use Rattle.std.proofs.Common.{None, Ok, Err, Result}
use mathlib.Core.Path.{◌≡◌, refl, sym, ap, ◌∙◌}
use mathlib.Core.Bool.{Bool, true, false, not}
use mathlib.Core.List.{List, [], ◌∷◌, ◌++◌, append-nil}
use Prim.Native.Nat.{ℕ, ◌+◌, ◌-◌, ◌*◌, ◌≤◌, ◌<◌}
use native.Mathlib.Nat.{mul-add}
use native.Mathlib.Omega.{arith}
use lib.ListN.{length}
use lib.Seq.{slice, slice_empty}
use borrow.Author.Tests.{le-ltb, lt-ltb, not-true}
use Rattle.lists.specs.Runs.{joined, begins}
use Rattle.lists.proofs.Parts.{joined_nil, joined_cons}
use Rattle.lists.proofs.Walk.{walk_nil}
use Rattle.text.specs.Characters.{damage}
use Rattle.options.specs.Opts.{Opts, meant}
use Rattle.options.specs.declared.Options.{Options}
use Rattle.options.proofs.Accepted.{Kept, accepted}
use Rattle.lines.specs.Cited.Places.{Usable}
use Rattle.lines.proofs.Lines.{lines_past}
use Rattle.lines.proofs.Sound.{lines_sound}
use Rattle.lines.proofs.Usable.{usable}
use Rattle.pieces.specs.Pieces.{Piece, Kind, blank_line, plain_line, paragraph, Paragraph, next_piece, pieces}
use Rattle.pieces.specs.Cited.Places.{Cleared, piece_at}
use Rattle.pieces.specs.Cited.Bounds.{ParagraphWithin, Bounded}
use Rattle.pieces.specs.declared.Paragraph.{Paragraph as ParagraphAt}
use Rattle.pieces.specs.declared.Piece.{Piece as PieceAt}
use Rattle.pieces.proofs.Meaning.{TextIs}
use Rattle.records.specs.Word.{Word}
use Rattle.records.specs.Cited.Table.{words_in}
use Rattle.records.specs.Cited.Marks.{breaks_of}
use Rattle.words.specs.Words.{words_of}
use Rattle.words.proofs.Order.{paragraph_some}
use Rattle.spacing.specs.declared.Setting.{Setting}
use Rattle.spacing.specs.Cited.Bounds.{Fair}
use Rattle.output.specs.declared.Layout.{Layout}
use Rattle.output.specs.Cited.Bound.{longest}
use Rattle.output.specs.Cited.Sink.{Wrote, Left}
use Rattle.output.specs.Cited.Writers.{margin_of}
use Rattle.output.proofs.Sink.{wrote_nil, left_first, left_then, left_last}
use Rattle.quick.specs.Quick.{quick_breaks}
use Rattle.paragraphs.specs.Cited.Steps.{setting_for, words_for, Placed}
use Rattle.paragraphs.proofs.Breaking.{limits_of}
use Rattle.walk.specs.Digest.{too_many, long_paragraph}
use Rattle.walk.specs.Cited.Course.{most_per_byte, pieces_from, long_from, FirstPiece}
use Rattle.walk.proofs.Rows.{text_words}
use Rattle.walk.proofs.Meaning.{TextGoes, PieceGoes}
use Rattle.walk.proofs.Bound.{any_text_most}
use Rattle.walk.proofs.Steps.{piece_found, text_found}
use Rattle.walk.proofs.Loop.{all_long, long_none, long_more, long_here, sound_more}
use Rattle.unflow.specs.Flowed.{is_dashes}
use Rattle.flow.specs.Flow.{broken_into, paragraph_lines, sent_lines, plain_sent, trimmed, sent, sent_piece, flowed, piece_dashes, dashes_in}
use Rattle.flow.specs.Cited.Words.{most_sent}
use Rattle.flow.specs.Cited.Sending.{Ready, ParagraphSent, TextSent, TextStepped, flowed_from, dashes_for, CursorIn, Put, PieceStepped, Finished}
use Rattle.flow.specs.declared.Cursor.{Cursor}
use Rattle.words.specs.declared.TooMany.{TooMany}
use Rattle.flow.specs.declared.Turn.{Turn}
use Rattle.flow.proofs.Words.{words_sent_law, words_dashes_law, sent_most, words_dashes_few}

-- ---- what the options allow

module _ (block notes : List ℕ) (o : Options) (ready : Ready block notes o) where
  ready_kept : Kept block o
  ready_kept =
      let k = accepted block ready.read ready.admitted.accepted in
      rw ready.is
      (record {
        goal_least = k.goal_least;
        goal_most = k.goal_most;
        width_twice = k.width_twice;
        width_most = k.width_most;
        tab_least = k.tab_least;
        tab_most = k.tab_most;
        split_clears = k.split_clears;
        prefix_given = k.prefix_given;
        skip_given = k.skip_given;
      })

  pub ready_usable : Usable block o
  ready_usable = usable block o ready_kept

  pub ready_cleared : Cleared o
  ready_cleared = ready_kept.split_clears

  -- where damaged characters are not kept there are none
  pub ready_sound : not o.keep ≡ true → damage notes ≡ None
  ready_sound k = ready.admitted.sound (ap (λ (m : Options). m.keep) (sym ready.is) ∙ not-true o.keep k)

  pub ready_uniform : o.uniform ≡ true
  ready_uniform = rw ready.is

  ready_quick : o.quick ≡ true
  ready_quick = rw ready.is

  pub mailed_quick : (meant block o).quick ≡ true
  unfolding meant
  mailed_quick = ready_quick

  pub found_goes : (nextMail : Bool) (at : ℕ) (r s : PieceAt) → at < length notes → (r ≡ piece_at (meant block o) nextMail notes at) × Bounded o.glue notes at r → r ≡ s → PieceGoes (meant block o) nextMail notes at s
  found_goes nextMail at r s h p q = piece_found block notes o ready_kept ready.admitted.short nextMail at r s h p q

pub fair_of : {notes : List ℕ} {at : ℕ} {o : Options} {p : ParagraphAt} → Placed notes at o p → (block : List ℕ) → Fair (setting_for block o p)
fair_of {notes} {at} {o} {p} h block =
    let l = limits_of notes at o p h block in
    record { some = l.tab; tab = l.tabs; width = omega (arith, l.wide); first = omega (arith, l.first); indent = omega (arith, l.indent) }

-- ---- what was sent of a paragraph, in terms of its own words

pub text_sent : {most : ℕ} {notes table : List ℕ} {n : ℕ} {c : Cursor} {o : Options} {p : ParagraphAt} {out out' block : List ℕ} {g : Setting} (l : Layout) (t : Turn) → length (words_for block notes c.at o p) ≤ most
    → l.first ≡ p.first → l.indent ≡ p.indent → words_in notes n table ≡ words_for block notes c.at o p → breaks_of n table ≡ quick_breaks g (words_for block notes c.at o p) → g ≡ setting_for block o p
    → ParagraphSent notes table n l out c.written out' t
    → TextSent most notes c o p out out' (record { at = p.next; written = t.at; mail = p.mail; dashes = c.dashes + t.dashes }) block
text_sent {most} {notes} {table} {n} {c} {o} {p} {out} {out'} {block} {g} l t few f i w b s q = record {
  few = few;
  next = refl;
  mail = refl;
  wrote = rw (f, i, b, w, s) at q.wrote;
  dashes = ap (λ (k : ℕ). c.dashes + k) (rw (f, i, b, w, s) at q.dashes);
}

-- ---- blank and plain lines

pub one_sent : (line : List ℕ) → joined sent (line ∷ []) ≡ sent line
one_sent line = rw (joined_cons sent line [], joined_nil sent) (append-nil (sent line))

blank_sent : (notes : List ℕ) (at : ℕ) → plain_sent (slice at at notes) ≡ []
unfolding plain_sent trimmed is_dashes begins
blank_sent notes at = rw (slice_empty at notes)

module _ (room : ℕ) (o : Opts) (notes out : List ℕ) (c : Cursor) (out' : List ℕ) (next n : ℕ) where
  pub blank_put : FirstPiece o c.mail notes c.at blank_line true next → Wrote out c.written (sent (plain_sent (slice c.at c.at notes))) out' n × (n ≤ c.written + (c.at - c.at) + 3)
      → Put room o notes out c (record { at = next; written = n; mail = true; dashes = c.dashes }) out'
  unfolding sent_lines
  blank_put g w = record {
    kind = blank_line;
    goes = g;
    few = refl;
    wrote = rw (one_sent []) (rw (blank_sent notes c.at) at w.0);
    dashes = omega arith;
    bounded = omega (arith, g.on, w.1);
    counted = omega (arith, g.on);
  }

  pub plain_put : (end : ℕ) → FirstPiece o c.mail notes c.at (plain_line (slice c.at end notes)) false next × (c.at ≤ end) × (end ≤ next)
      → Wrote out c.written (sent (plain_sent (slice c.at end notes))) out' n × (n ≤ c.written + (end - c.at) + 3)
      → Put room o notes out c (record { at = next; written = n; mail = false; dashes = c.dashes }) out'
  unfolding sent_lines
  plain_put end g w = record {
    kind = plain_line (slice c.at end notes);
    goes = g.0;
    few = refl;
    wrote = rw (one_sent (plain_sent (slice c.at end notes))) w.0;
    dashes = omega arith;
    bounded = omega (arith, g.0.on, g.1, g.2, w.1);
    counted = omega (arith, g.0.on);
  }

-- ---- paragraphs

-- what is sent of one, and its lines `--`, take no more than three times what its digest may
pub sent_longest : (first indent : List ℕ) (ws : List Word) → most_sent first indent ws ≤ 3 * longest first indent ws
sent_longest first indent ws = omega (arith, mul-add (length ws) (length indent) 4, mul-add (length ws) (length indent) 2)

few_longest : (first indent : List ℕ) (ws : List Word) → length ws ≤ 3 * longest first indent ws
few_longest first indent ws = omega (arith, mul-add (length ws) (length indent) 2)

module _ (block notes : List ℕ) (o : Options) (ready : Ready block notes o) (nextMail : Bool) (at : ℕ) (p : ParagraphAt) (q : Paragraph)
    (goes : FirstPiece (meant block o) nextMail notes at (paragraph q) p.mail p.next) (text : TextIs (meant block o) notes at p q) (bounds : ParagraphWithin (meant block o).glue notes at p) where
  abbrev first : List ℕ
  first = margin_of notes p.first

  abbrev indent : List ℕ
  indent = margin_of notes p.indent

  abbrev ws : List Word
  ws = words_for block notes at o p

  abbrev breaks : List Bool
  breaks = quick_breaks (setting_for block o p) ws

  words_are : words_of (meant block o) q ≡ ws
  words_are = text_words (meant block o) notes at p q text

  words_count : length (words_of (meant block o) q) ≡ length ws
  words_count = ap length words_are

  some : 0 < length ws
  some = let s = paragraph_some (meant block o) _ q text.rows in rw words_are at s

  placed : Placed notes at o p
  placed = text_found block notes o (ready_kept block notes o ready) ready.admitted.short nextMail at p q text bounds

  lines_are : paragraph_lines (meant block o) q ≡ broken_into first indent breaks ws
  unfolding paragraph_lines meant
  lines_are = rw (words_are, text.mail, text.first.bytes, text.indent.bytes, text.first.columns, text.indent.columns, ready_quick block notes o ready)

  most : longest first indent ws + most_per_byte * at ≤ most_per_byte * p.next
  most =
      let e : longest first indent ws ≡ longest q.first.bytes q.indent.bytes (words_of (meant block o) q) = rw (words_are, text.first.bytes, text.indent.bytes) in
      omega (arith, e, any_text_most (meant block o) notes at p q text bounds ready.admitted.short)

  put : (room : ℕ) (out : List ℕ) (c d : Cursor) (out' : List ℕ) → c.at ≡ at → c.mail ≡ nextMail → TextSent room notes c o p out out' d block → Put room (meant block o) notes out c d out'
  unfolding sent_lines
  put room out c d out' a m w =
      let v : TextSent room notes (record { at = at; written = c.written; mail = nextMail; dashes = c.dashes }) o p out out' d block = rw (a, m) at w in
      let b = most in
      let l = sent_most indent first breaks ws in
      let k = words_dashes_few indent first breaks ws in
      record {
        kind = paragraph q;
        goes = rw (a, m, v.next, v.mail) goes;
        few = rw words_count (le-ltb room (length ws) v.few);
        wrote = rw (lines_are, words_sent_law indent first breaks ws some) v.wrote;
        dashes = rw (lines_are, words_dashes_law indent first breaks ws some) v.dashes;
        bounded = rw (a, v.next) (omega (arith, v.wrote.count, b, l, sent_longest first indent ws));
        counted = rw (a, v.next) (omega (arith, v.dashes, b, k, few_longest first indent ws));
      }

  many : (room : ℕ) → room < length ws → too_many room (meant block o) (paragraph q) ≡ true
  many room h = rw words_count (lt-ltb room (length ws) h)

module _ (block notes : List ℕ) (o : Options) (ready : Ready block notes o) (c : Cursor) {p : ParagraphAt} (g : TextGoes (meant block o) c.mail notes c.at p) where
  pub text_placed : Placed notes c.at o p
  text_placed = placed block notes o ready c.mail c.at p g.paragraph_is g.goes g.text g.bounds

  pub text_stepped : (room : ℕ) (out out' : List ℕ) (r : Result Cursor TooMany) → TextStepped room notes c o p out out' r block → PieceStepped room (meant block o) notes out c out' r
  text_stepped room out out' (Ok d) w = put block notes o ready c.mail c.at p g.paragraph_is g.goes g.text g.bounds room out c d out' refl refl w
  text_stepped room out out' (Err over) w = (long_here room (meant block o) g.goes (many block notes o ready c.mail c.at p g.paragraph_is g.goes g.text g.bounds room w.0), w.1)

-- ---- the loop over the pieces

module _ (o : Opts) (notes : List ℕ) where
  none_left : (nextMail : Bool) (at : ℕ) → length notes ≤ at → pieces_from o nextMail notes at ≡ []
  unfolding pieces_from
  none_left nextMail at h = rw (lines_past notes at h) (walk_nil (next_piece o) nextMail)

  pub sent_none : (nextMail : Bool) (at : ℕ) → length notes ≤ at → flowed_from o nextMail notes at ≡ []
  unfolding flowed_from
  sent_none nextMail at h = rw (none_left nextMail at h) (joined_nil (λ (q : Piece). joined sent (sent_lines o q.kind)))

  dashes_none : (nextMail : Bool) (at : ℕ) → length notes ≤ at → dashes_for o nextMail notes at ≡ 0
  unfolding dashes_for dashes_in
  dashes_none nextMail at h = ap (dashes_in o) (none_left nextMail at h)

  pub all_sent : flowed_from o true notes 0 ≡ flowed o notes
  unfolding flowed_from pieces_from flowed pieces sent_piece
  all_sent = refl

  all_dashes : dashes_for o true notes 0 ≡ dashes_in o (pieces o notes)
  unfolding dashes_for pieces_from pieces
  all_dashes = refl

  module _ {nextMail : Bool} {at : ℕ} {kind : Kind} {state : Bool} {next : ℕ} (g : FirstPiece o nextMail notes at kind state next) where
    pub sent_more : flowed_from o nextMail notes at ≡ joined sent (sent_lines o kind) ++ flowed_from o state notes next
    unfolding flowed_from
    sent_more =
        ap (joined (λ (q : Piece). joined sent (sent_lines o q.kind))) g.pieces
        ∙ joined_cons (λ (q : Piece). joined sent (sent_lines o q.kind)) g.piece (pieces_from o state notes next)
        ∙ ap (λ (k : Kind). joined sent (sent_lines o k) ++ flowed_from o state notes next) g.is

    dashes_more : dashes_for o nextMail notes at ≡ piece_dashes o kind + dashes_for o state notes next
    unfolding dashes_for dashes_in
    dashes_more = ap (dashes_in o) g.pieces ∙ ap (λ (k : Kind). piece_dashes o k + dashes_for o state notes next) g.is

  -- what the cursor and the output have come to
  pub record Going (room : ℕ) (out₀ : List ℕ) (c : Cursor) (out : List ℕ) : Type 0 where
    pub stands : CursorIn notes c
    pub left : Left out₀ 0 (flowed o notes) out c.written (flowed_from o c.mail notes c.at)
    pub dashes : c.dashes + dashes_for o c.mail notes c.at ≡ dashes_in o (pieces o notes)
    pub long : long_from room o c.mail notes c.at ≡ long_paragraph room o 0 (pieces o notes)

  pub going_first : (room : ℕ) (out : List ℕ) → Going room out (record { at = 0; written = 0; mail = true; dashes = 0 }) out
  going_first room out = record {
    stands = record { within = omega arith; bounded = omega arith; few = omega arith; sound = lines_sound notes };
    left = rw all_sent (left_first out 0 (flowed o notes));
    dashes = omega (arith, all_dashes);
    long = all_long room o notes;
  }

  module _ {room : ℕ} {out₀ : List ℕ} {c : Cursor} {out : List ℕ} (g : Going room out₀ c out) where
    pub going_on : {d : Cursor} {out' : List ℕ} → Put room o notes out c d out' → Going room out₀ d out'
    going_on {d} {out'} p = record {
      stands = record { within = p.goes.within; bounded = omega (arith, g.stands.bounded, p.bounded); few = omega (arith, g.stands.few, p.counted); sound = sound_more o p.goes g.stands.sound };
      left = left_then {d = joined sent (sent_lines o p.kind)} {e = flowed_from o d.mail notes d.at} (rw (sent_more p.goes) at g.left) p.wrote;
      dashes = omega (arith, g.dashes, p.dashes, dashes_more p.goes);
      long = sym (long_more room o p.goes p.few) ∙ g.long;
    }

    pub going_last : length notes ≤ c.at → Finished room o notes out₀ out (Ok (record { written = c.written; dashes = c.dashes }))
    going_last h = (
      sym g.long ∙ long_none room o c.mail notes c.at h,
      left_last (rw (sent_none c.mail c.at h) at g.left) (wrote_nil out c.written),
      omega (arith, g.dashes, dashes_none c.mail c.at h),
      omega (arith, g.stands.bounded, g.stands.within),
    )

-- ---- by what came of a piece

module _ (room : ℕ) (o : Opts) (notes out out' : List ℕ) (c : Cursor) {r : Result Cursor TooMany} (s : PieceStepped room o notes out c out' r) where
  pub stepped_on : {d : Cursor} → r ≡ Ok d → Put room o notes out c d out'
  stepped_on e = rw e at s

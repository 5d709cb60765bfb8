-- How long what is sent gets: at most 3,120 bytes for each byte of the notes, if no paragraph has more than 1,024 words.
use Rattle.std.proofs.Common.{None}
use mathlib.Core.Path.{◌≡◌, refl, sym, ap, ◌∙◌}
use mathlib.Core.Bool.{Bool, true, false, ◌||◌}
use mathlib.Core.List.{List, [], ◌++◌}
use Prim.Native.Nat.{ℕ, zero, suc, ◌+◌, ◌*◌, ◌≤◌, ◌<◌}
use native.Mathlib.Omega.{arith}
use lib.Dec.{ltb}
use lib.ListN.{length, length-append}
use lib.Seq.{slice, length-slice}
use borrow.Author.Tests.{ltb-true, ltb-false}
use Rattle.lists.specs.Runs.{joined}
use Rattle.options.specs.Opts.{Opts}
use Rattle.lines.specs.Cited.Places.{most_large}
use Rattle.pieces.specs.Pieces.{Kind, blank_line, plain_line, paragraph, pieces}
use Rattle.pieces.specs.Cited.Places.{piece_at}
use Rattle.pieces.specs.declared.Paragraph.{Paragraph as ParagraphAt}
use Rattle.pieces.specs.declared.Piece.{Piece as PieceAt}
use Rattle.pieces.specs.declared.Piece.TheVariants.{Blank as BlankAt, Plain as PlainAt, Text}
use Rattle.pieces.proofs.Meaning.{means, bounded}
use Rattle.words.specs.Words.{words_of}
use Rattle.words.proofs.Order.{paragraph_some}
use Rattle.paragraphs.specs.Breaks.{setting_of, breaks_by}
use Rattle.walk.specs.Digest.{most_words, too_many, long_paragraph}
use Rattle.walk.specs.Cited.Course.{long_from, FirstPiece}
use Rattle.walk.proofs.Meaning.{TextGoes, PieceGoes, piece_goes}
use Rattle.walk.proofs.Bound.{text_most}
use Rattle.walk.proofs.Loop.{all_long, long_more, long_here}
use Rattle.unflow.specs.Flowed.{cr_lf, stuffing}
use Rattle.flow.specs.Flow.{paragraph_lines, sent_lines, plain_sent, sent, flowed}
use Rattle.flow.specs.Cited.Sending.{flowed_from}
use Rattle.unflow.proofs.Texts.{stuffing_most}
use Rattle.flow.proofs.Words.{words_sent_law, sent_most}
use Rattle.flow.proofs.Plain.{plain_shorter}
use Rattle.flow.proofs.Course.{one_sent, sent_longest, sent_none, sent_more, all_sent}

line_most : (line : List ℕ) → length (sent line) ≤ length line + 3
unfolding sent
line_most line = omega (arith, stuffing_most line, length-append (stuffing line) (line ++ cr_lf), length-append line cr_lf)

paragraph_most : (o : Opts) (nextMail : Bool) (notes : List ℕ) (at : ℕ) {p : ParagraphAt} (g : TextGoes o nextMail notes at p) → too_many most_words o (paragraph g.paragraph_is) ≡ false
    → length (joined sent (sent_lines o (paragraph g.paragraph_is))) + 3120 * at ≤ 3120 * p.next
unfolding sent_lines paragraph_lines
paragraph_most o nextMail notes at {p} g few =
    let q = g.paragraph_is in
    let ws = words_of o q in
    let breaks = breaks_by (o.quick || q.mail) (setting_of o q.mail q.first.columns q.indent.columns) ws in
    let e = ap length (words_sent_law q.indent.bytes q.first.bytes breaks ws (paragraph_some o _ q g.text.rows)) in
    omega (
      arith,
      e,
      sent_most q.indent.bytes q.first.bytes breaks ws,
      sent_longest q.first.bytes q.indent.bytes ws,
      text_most o notes at p q g.text g.bounds (ltb-false most_words (length ws) few),
    )

-- a piece, and how long it gets
record Next (o : Opts) (nextMail : Bool) (notes : List ℕ) (at : ℕ) : Type 0 where
  kind : Kind
  state : Bool
  next : ℕ
  goes : FirstPiece o nextMail notes at kind state next
  most : too_many most_words o kind ≡ false → length (joined sent (sent_lines o kind)) + 3120 * at ≤ 3120 * next

next_of : (o : Opts) (nextMail : Bool) (notes : List ℕ) (at : ℕ) (r : PieceAt) → PieceGoes o nextMail notes at r → Next o nextMail notes at
unfolding sent_lines
next_of o nextMail notes at (BlankAt next) g = record { kind = blank_line; state = true; next = next; goes = g; most = λ few. rw (one_sent []) (omega (arith, g.on, line_most [])) }
next_of o nextMail notes at (PlainAt end next) g =
    let l = length-slice at end notes (omega (arith, g.2, g.0.within)) in
    record {
      kind = plain_line (slice at end notes);
      state = false;
      next = next;
      goes = g.0;
      most = λ few. rw (one_sent (plain_sent (slice at end notes))) (omega (arith, g.0.on, g.1, g.2, line_most (plain_sent (slice at end notes)), plain_shorter (slice at end notes)));
    }
next_of o nextMail notes at (Text p) g =
    record { kind = paragraph g.paragraph_is; state = p.mail; next = p.next; goes = g.goes; most = paragraph_most o nextMail notes at g }

module _ (o : Opts) (notes : List ℕ) (least : 1 ≤ o.tab) (most : o.tab ≤ 100) (short : length notes ≤ most_large) (cleared : o.split ≡ true → (o.crown || o.tagged) ≡ false) where
  past_most : (nextMail : Bool) (at : ℕ) → at ≤ length notes → length notes ≤ at → length (flowed_from o nextMail notes at) + 3120 * at ≤ 3120 * length notes
  past_most nextMail at h k = rw (sent_none o notes nextMail at k) (omega arith)

  from_most : (k : ℕ) (nextMail : Bool) (at : ℕ) → at ≤ length notes → length notes ≤ at + k → long_from most_words o nextMail notes at ≡ None
      → length (flowed_from o nextMail notes at) + 3120 * at ≤ 3120 * length notes
  from_most zero nextMail at h k e = past_most nextMail at h (omega arith)
  from_most (suc k) nextMail at h g e = go (ltb at (length notes)) refl (from_most k)
    where
      go : (t : Bool) → ltb at (length notes) ≡ t
          → ((m : Bool) (i : ℕ) → i ≤ length notes → length notes ≤ i + k → long_from most_words o m notes i ≡ None → length (flowed_from o m notes i) + 3120 * i ≤ 3120 * length notes)
          → length (flowed_from o nextMail notes at) + 3120 * at ≤ 3120 * length notes
      go false t rest = past_most nextMail at h (ltb-false at (length notes) t)
      go true t rest = step (too_many most_words o n.kind) refl
        where
          i : at < length notes
          i = ltb-true at (length notes) t

          r : PieceAt
          r = piece_at o nextMail notes at

          n : Next o nextMail notes at
          n = next_of o nextMail notes at r (piece_goes o nextMail notes at r (means o nextMail notes at i least most short cleared) (bounded o nextMail notes at i least most short cleared))

          step : (b : Bool) → too_many most_words o n.kind ≡ b → length (flowed_from o nextMail notes at) + 3120 * at ≤ 3120 * length notes
          step true b = absurd (let q = sym e ∙ long_here most_words o n.goes b in let z : ◌≡◌ {A = ℕ} 0 1 = cc in omega arith)
          step false b =
              let s = rest n.state n.next n.goes.within (omega (arith, n.goes.on)) (sym (long_more most_words o n.goes b) ∙ e) in
              let l = ap length (sent_more o notes n.goes) ∙ length-append (joined sent (sent_lines o n.kind)) (flowed_from o n.state notes n.next) in
              omega (arith, l, s, n.most b)

  -- a host that lends so much room never gets code 5
  pub flowed_most : long_paragraph most_words o 0 (pieces o notes) ≡ None → length (flowed o notes) ≤ 3120 * length notes
  flowed_most e = let s = from_most (length notes) true 0 (omega arith) (omega arith) (all_long most_words o notes ∙ e) in omega (arith, s, ap length (all_sent o notes))

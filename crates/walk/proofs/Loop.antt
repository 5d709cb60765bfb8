-- The loop over the pieces: what is left of the digest, and of the search for a paragraph of too many words; and that a line begins after each.
use Rattle.std.proofs.Common.{Option, Some, None, Result, Ok, Err}
use mathlib.Core.Path.{◌≡◌, refl, sym, ap, ◌∙◌}
use mathlib.Core.Bool.{Bool, true, false}
use mathlib.Core.List.{List, [], ◌++◌}
use Prim.Native.Nat.{ℕ, ◌≤◌}
use native.Mathlib.Omega.{arith}
use lib.ListN.{length, drop, replicate}
use Rattle.lists.specs.Runs.{joined}
use Rattle.lists.proofs.Walk.{walk_nil}
use Rattle.lists.proofs.Parts.{joined_nil, joined_cons}
use Rattle.lists.proofs.All.{all_back}
use Rattle.options.specs.Opts.{Opts}
use Rattle.lines.specs.Lines.{Line, lines_of}
use Rattle.lines.proofs.Lines.{lines_past}
use Rattle.lines.proofs.Sound.{lines_sound}
use Rattle.pieces.specs.Pieces.{Kind, next_piece, pieces}
use Rattle.pieces.proofs.Extents.{lines_in, walk_lines}
use Rattle.output.proofs.Sink.{length_written, wrote_nil, left_first, left_then, left_last}
use Rattle.walk.specs.Digest.{output_of, piece_output, digest, too_many, long_paragraph}
use Rattle.walk.specs.Cited.Course.{pieces_from, output_from, long_from, FirstPiece, Put, TooLong, SoundFrom, CursorIn, Going, start, FinishedFrom, ClearedFrom, Finished}
use Rattle.paragraphs.specs.declared.Cursor.{Cursor}
use Rattle.walk.specs.declared.Stopped.{Stopped}

-- ---- the pieces from a place on

module _ (o : Opts) where
  pub all_output : (notes : List ℕ) → output_from o true notes 0 ≡ digest o notes
  unfolding output_from pieces_from digest pieces
  all_output notes = refl

  pub all_pieces : (notes : List ℕ) → pieces_from o true notes 0 ≡ pieces o notes
  unfolding pieces_from pieces
  all_pieces notes = refl

  pub none_left : (nextMail : Bool) (notes : List ℕ) (at : ℕ) → length notes ≤ at → pieces_from o nextMail notes at ≡ []
  unfolding pieces_from
  none_left nextMail notes at h = rw (lines_past notes at h) (walk_nil (next_piece o) nextMail)

  pub output_none : (nextMail : Bool) (notes : List ℕ) (at : ℕ) → length notes ≤ at → output_from o nextMail notes at ≡ []
  unfolding output_from
  output_none nextMail notes at h = rw (none_left nextMail notes at h) (joined_nil (piece_output o))

  pub output_more : {nextMail : Bool} {notes : List ℕ} {at : ℕ} {kind : Kind} {state : Bool} {next : ℕ} (g : FirstPiece o nextMail notes at kind state next)
      → output_from o nextMail notes at ≡ output_of o kind ++ output_from o state notes next
  unfolding output_from
  output_more {nextMail} {notes} {at} {kind} {state} {next} g =
      ap (joined (piece_output o)) g.pieces ∙ joined_cons (piece_output o) g.piece (pieces_from o state notes next) ∙ ap (λ (k : Kind). output_of o k ++ output_from o state notes next) g.is

  -- after the first of them the lines of the others go on
  lines_more : {nextMail : Bool} {notes : List ℕ} {at : ℕ} {kind : Kind} {state : Bool} {next : ℕ} (g : FirstPiece o nextMail notes at kind state next)
      → lines_of (drop at notes) ≡ g.piece.lines ++ lines_of (drop next notes)
  unfolding pieces_from
  lines_more {nextMail} {notes} {at} {kind} {state} {next} g =
      sym (walk_lines o nextMail (lines_of (drop at notes))) ∙ ap (joined lines_in) g.pieces ∙ joined_cons lines_in g.piece (pieces_from o state notes next)
      ∙ ap (λ (ls : List Line). g.piece.lines ++ ls) (walk_lines o state (lines_of (drop next notes)))

  pub sound_more : {nextMail : Bool} {notes : List ℕ} {at : ℕ} {kind : Kind} {state : Bool} {next : ℕ} → FirstPiece o nextMail notes at kind state next → SoundFrom notes at → SoundFrom notes next
  sound_more {notes = notes} {next = next} g s h = all_back _ g.piece.lines (lines_of (drop next notes)) (rw (lines_more g) at (s h))

-- the first of them that has more than so many words
module _ (most : ℕ) (o : Opts) where
  pub all_long : (notes : List ℕ) → long_from most o true notes 0 ≡ long_paragraph most o 0 (pieces o notes)
  unfolding long_from pieces_from pieces
  all_long notes = refl

  pub long_none : (nextMail : Bool) (notes : List ℕ) (at : ℕ) → length notes ≤ at → long_from most o nextMail notes at ≡ None
  unfolding long_from long_paragraph
  long_none nextMail notes at h = ap (long_paragraph most o at) (none_left o nextMail notes at h)

  module _ {nextMail : Bool} {notes : List ℕ} {at : ℕ} {kind : Kind} {state : Bool} {next : ℕ} (g : FirstPiece o nextMail notes at kind state next) where
    long_as : (t : Bool) → too_many most o kind ≡ t → long_from most o nextMail notes at ≡ elim t as (λ x. Option ℕ) [ true ↦ Some at | false ↦ long_from most o state notes next ]
    unfolding long_from long_paragraph
    long_as t e =
        ap (long_paragraph most o at) g.pieces
        ∙ ap (λ (n : ℕ). elim (too_many most o g.piece.kind) as (λ x. Option ℕ) [ true ↦ Some at | false ↦ long_paragraph most o n (pieces_from o state notes next) ]) g.extent
        ∙ ap (λ (b : Bool). elim b as (λ x. Option ℕ) [ true ↦ Some at | false ↦ long_from most o state notes next ]) (ap (too_many most o) g.is ∙ e)

    pub long_more : too_many most o kind ≡ false → long_from most o nextMail notes at ≡ long_from most o state notes next
    long_more e = long_as false e

    pub long_here : too_many most o kind ≡ true → long_from most o nextMail notes at ≡ Some at
    long_here e = long_as true e

-- ---- the work from a place on

module _ (most : ℕ) (o : Opts) (notes : List ℕ) where
  pub going_first : (c : Cursor) (out : List ℕ) → CursorIn notes c → Going most o notes c out c out
  going_first c out s = record { stands = s; left = left_first out c.written (output_from o c.mail notes c.at); long = refl }

  module _ {c₀ : Cursor} {out₀ : List ℕ} {c : Cursor} {out : List ℕ} (g : Going most o notes c₀ out₀ c out) where
    pub going_length : length out ≡ length out₀
    going_length = sym (length_written c.written out (output_from o c.mail notes c.at)) ∙ ap length g.left.bytes ∙ length_written c₀.written out₀ (output_from o c₀.mail notes c₀.at)

    pub going_on : {d : Cursor} {out' : List ℕ} → Put most o notes out c d out' → Going most o notes c₀ out₀ d out'
    going_on {d} {out'} p = record {
      stands = record { within = p.goes.within; bounded = omega (arith, g.stands.bounded, p.bounded); sound = sound_more o p.goes g.stands.sound };
      left = left_then {d = output_of o p.kind} {e = output_from o d.mail notes d.at} (rw (output_more o p.goes) at g.left) p.wrote;
      long = sym (long_more most o p.goes p.few) ∙ g.long;
    }

    pub going_further : {d : Cursor} {out' : List ℕ} → Going most o notes c out d out' → Going most o notes c₀ out₀ d out'
    going_further h = record {
      stands = h.stands;
      left = record { count = h.left.count ∙ g.left.count; bytes = h.left.bytes ∙ g.left.bytes };
      long = h.long ∙ g.long;
    }

    pub going_finished : (out' : List ℕ) (r : Result ℕ Stopped) → FinishedFrom most o notes c out out' r → FinishedFrom most o notes c₀ out₀ out' r
    going_finished out' (Ok n) f = (sym g.long ∙ f.0, left_last g.left f.1)
    going_finished out' (Err stopped) f = (sym g.long ∙ f.0, f.1 ∙ going_length)

    pub going_cleared : (out' : List ℕ) (r : Result ℕ Stopped) → ClearedFrom most o notes c out out' r → ClearedFrom most o notes c₀ out₀ out' r
    going_cleared out' (Ok n) f = going_finished out' (Ok n) f
    going_cleared out' (Err stopped) f = (sym g.long ∙ f.0, f.1 ∙ ap (λ (n : ℕ). replicate n 0) going_length)

    pub going_over : {out' : List ℕ} → TooLong most o notes out c out' → FinishedFrom most o notes c₀ out₀ out' (Err (record { at = c.at }))
    going_over t = (sym g.long ∙ long_here most o t.goes t.many, ap length t.same ∙ going_length)

    pub going_last : length notes ≤ c.at → FinishedFrom most o notes c₀ out₀ out (Ok c.written)
    going_last h = (sym g.long ∙ long_none most o c.mail notes c.at h, left_last (rw (output_none o c.mail notes c.at h) at g.left) (wrote_nil out c.written))

-- from the first place on
pub stands_first : (notes : List ℕ) → CursorIn notes start
stands_first notes = record { within = omega arith; bounded = omega arith; sound = lines_sound notes }

module _ (most : ℕ) (o : Opts) (notes : List ℕ) where
  pub all_finished : (out out' : List ℕ) (r : Result ℕ Stopped) → ClearedFrom most o notes start out out' r → Finished most o notes out out' r
  all_finished out out' (Ok n) f = (sym (all_long most o notes) ∙ f.0, rw (all_output o notes) at f.1)
  all_finished out out' (Err stopped) f = (sym (all_long most o notes) ∙ f.0, f.1)

-- A blank line is a full boundary: of the pieces, of the digest, of what is refused, and of measuring.
use Rattle.std.proofs.Common.{Option, Some, None, Ok}
use mathlib.Core.Path.{◌≡◌, refl, sym, ap, ◌∙◌}
use mathlib.Core.Bool.{Bool, true, false}
use mathlib.Core.List.{List, [], ◌∷◌, ◌++◌}
use Prim.Native.Nat.{ℕ, ◌+◌, ◌≤◌}
use native.Mathlib.Omega.{arith}
use lib.ListN.{length}
use Rattle.lists.specs.Runs.{every, joined}
use Rattle.lists.specs.Theorems.All.{All}
use Rattle.lists.proofs.All.{all_append}
use Rattle.lists.proofs.Parts.{joined_append, joined_cons}
use Rattle.text.specs.Characters.{damage}
use Rattle.options.specs.Opts.{Opts, meant}
use Rattle.options.specs.OptionBlock.{read_block}
use Rattle.options.specs.declared.Options.{Options}
use Rattle.lines.specs.Lines.{Line, no_feed, lines_of}
use Rattle.lines.specs.Classes.{classify}
use Rattle.lines.specs.declared.Class.TheVariants.{Blank}
use Rattle.lines.specs.Theorems.Closed.{Closed}
use Rattle.pieces.specs.Pieces.{Piece, pieces}
use Rattle.pieces.proofs.Boundary.{blank_piece, blank_stands}
use Rattle.formatter.specs.Answers.{done}
use Rattle.walk.specs.Digest.{output_of, piece_output, digest, extent_of, too_many, long_paragraph}
use Rattle.formatter.specs.Format.{Words, up_to, lent, Limits, found, damage_in, finding, is_told, measuring}
use Rattle.rudignals.specs.Theorems.LineEnds.{LineEnd, feed, return_and_feed, by_feed}
use Rattle.walk.specs.Work.{most_work, work_for}
use Rattle.walk.proofs.Work.{work_append}
use Rattle.formatter.specs.Work.{lending}
use Rattle.formatter.proofs.Answers.{Enough, Done, measured_done, found_done, done_found, done_measured}
use Rattle.rudignals.proofs.LineEnds.{line_of_bytes}
use Rattle.rudignals.proofs.Undamaged.{damage_append, blank_sound, feed_sound, return_feed_sound}

-- ---- long paragraphs

abbrev Short : ℕ → Opts → Piece → Type 0
Short most o q = too_many most o q.kind ≡ false

long_short : (most : ℕ) (o : Opts) (place : ℕ) (qs : List Piece) → long_paragraph most o place qs ≡ None → All (Short most o) qs
unfolding long_paragraph
long_short most o place [] h = tt
long_short most o place (q ∷ qs) h = go (too_many most o q.kind) refl h (long_short most o (place + length (extent_of q)) qs)
  where
    go : (b : Bool) → too_many most o q.kind ≡ b → elim b as (λ t. Option ℕ) [ true ↦ Some place | false ↦ long_paragraph most o (place + length (extent_of q)) qs ] ≡ None
        → (long_paragraph most o (place + length (extent_of q)) qs ≡ None → All (Short most o) qs) → All (Short most o) (q ∷ qs)
    go true e h ih = (cc, absurd (let z : ◌≡◌ {A = ℕ} 0 1 = cc in omega arith))
    go false e h ih = (e, ih h)

short_long : (most : ℕ) (o : Opts) (place : ℕ) (qs : List Piece) → All (Short most o) qs → long_paragraph most o place qs ≡ None
unfolding long_paragraph
short_long most o place [] a = refl
short_long most o place (q ∷ qs) a = rw (long_paragraph, a.0) (short_long most o (place + length (extent_of q)) qs a.1)

-- ---- working room

-- what is enough for the pieces above a blank line and for those below it is enough for all. (A number of words is, for each paragraph by itself.)
abbrev pub Joining : Words → Type 0
Joining (up_to most) = Unit {0}
Joining (lent lends need) = (o : Opts) (a b whole : List ℕ) (l : Line) → pieces o whole ≡ pieces o a ++ blank_piece l ∷ pieces o b → need o a ≤ lends → need o b ≤ lends → need o whole ≤ lends

-- the room that paragraphs take is so, since each takes it for itself
pub lending_joins : (lends : ℕ) → Joining (lending lends).words
unfolding work_for most_work
lending_joins lends o a b whole l e h g = let n = ap (most_work o) e ∙ work_append o (pieces o a) (blank_piece l ∷ pieces o b) in omega (arith, n, h, g)

-- ---- a blank line, in the notes' own bytes: above it a text that is empty or ends in a line feed, below it any

module _ (o : Opts) (a line end b : List ℕ) (closed : Closed a) (feedless : every no_feed line ≡ true) (ends : LineEnd line end) (blank : classify o line ≡ Blank) where
  abbrev whole : List ℕ
  whole = a ++ (line ++ (end ++ b))

  abbrev the_line : Line
  the_line = record { raw = line ++ end; text = line }

  pub pieces_boundary : pieces o whole ≡ pieces o a ++ blank_piece the_line ∷ pieces o b
  unfolding pieces
  pieces_boundary =
      blank_stands o whole (lines_of a) the_line (lines_of b) blank (line_of_bytes a line end b closed (record { feedless = feedless; ended = by_feed ends }))

  pub digest_boundary : digest o whole ≡ digest o a ++ 10 ∷ digest o b
  unfolding digest output_of
  digest_boundary =
      ap (joined (piece_output o)) pieces_boundary
      ∙ joined_append (piece_output o) (pieces o a) (blank_piece the_line ∷ pieces o b)
      ∙ ap (λ (l : List ℕ). joined (piece_output o) (pieces o a) ++ l) (joined_cons (piece_output o) (blank_piece the_line) (pieces o b))

  -- no long paragraph above it and none below it: none in the notes; likewise with room
  enough_boundary : (w : Words) → Joining w → Enough w o a → Enough w o b → Enough w o whole
  enough_boundary (up_to most) j h g =
      rw pieces_boundary
      (short_long most o 0 _ (all_append (Short most o) (pieces o a) (blank_piece the_line ∷ pieces o b) (long_short most o 0 (pieces o a) h) (refl, long_short most o 0 (pieces o b) g)))
  enough_boundary (lent lends need) j h g = j o a b whole the_line pieces_boundary h g

  end_sound : LineEnd line end → damage end ≡ None
  end_sound (feed e n) = rw e feed_sound
  end_sound (return_and_feed e) = rw e return_feed_sound

  -- nothing damaged that is refused above it, and nothing below it: nothing in the notes
  sound_boundary : damage_in o.keep a ≡ None → damage_in o.keep b ≡ None → damage_in o.keep whole ≡ None
  sound_boundary h g = go o.keep h g
    where
      go : (keep : Bool) → damage_in keep a ≡ None → damage_in keep b ≡ None → damage_in keep whole ≡ None
      go true h g = refl
      go false h g = damage_append a (line ++ (end ++ b)) h (damage_append line (end ++ b) (blank_sound o line blank) (damage_append end b (end_sound ends) g))

-- ---- measuring

module _ (l : Limits) (joining : Joining l.words) (block first line end second : List ℕ) (o : Options) (digest₁ digest₂ : List ℕ)
    (b : read_block block ≡ Ok o) (c : Closed first) (f : every no_feed line ≡ true) (e : LineEnd line end) (k : classify (meant block o) line ≡ Blank)
    (n : length (first ++ (line ++ (end ++ second))) ≤ l.bytes) where
  done_boundary : Done l (meant block o) first digest₁ → Done l (meant block o) second digest₂ → Done l (meant block o) (first ++ (line ++ (end ++ second))) (digest₁ ++ 10 ∷ digest₂)
  done_boundary a₁ a₂ = let m = meant block o in record {
    sound = sound_boundary m first line end second c f e k a₁.sound a₂.sound;
    enough = enough_boundary m first line end second c f e k l.words joining a₁.enough a₂.enough;
    bytes_are = rw (a₁.bytes_are, a₂.bytes_are) (sym (digest_boundary m first line end second c f e k));
  }

  pub finding_boundary : finding l block first ≡ found digest₁ → finding l block second ≡ found digest₂ → finding l block (first ++ (line ++ (end ++ second))) ≡ found (digest₁ ++ 10 ∷ digest₂)
  finding_boundary h₁ h₂ = done_found l block (first ++ (line ++ (end ++ second))) o (digest₁ ++ 10 ∷ digest₂) b n (done_boundary (found_done l block first o digest₁ b h₁) (found_done l block second o digest₂ b h₂))

  pub measuring_boundary : measuring l block first ≡ done digest₁ → measuring l block second ≡ done digest₂ → is_told l.words (length (digest₁ ++ 10 ∷ digest₂)) ≡ true
      → measuring l block (first ++ (line ++ (end ++ second))) ≡ done (digest₁ ++ 10 ∷ digest₂)
  measuring_boundary h₁ h₂ t =
      done_measured l block (first ++ (line ++ (end ++ second))) o (digest₁ ++ 10 ∷ digest₂) b n (done_boundary (measured_done l block first o digest₁ b h₁) (measured_done l block second o digest₂ b h₂)) t

-- Piece by piece: what is left to be matched, and of the search for a paragraph of too many words.
use Rattle.std.proofs.Common.{Option, Some, None, Result, Ok, Err}
use mathlib.Core.Path.{◌≡◌, refl, sym, ap, ◌∙◌}
use mathlib.Core.Bool.{Bool, true, false}
use mathlib.Core.List.{List, [], ◌∷◌}
use Prim.Native.Nat.{ℕ, ◌-◌, ◌≤◌, ◌<◌}
use native.Mathlib.Omega.{arith}
use lib.ListN.{length, take, drop}
use lib.Seq.{slice}
use borrow.Author.Tests.{le-ltb, lt-ltb}
use Rattle.options.specs.Opts.{Opts, meant}
use Rattle.options.specs.declared.Options.{Options}
use Rattle.lines.specs.Lines.{lines_of}
use Rattle.lines.specs.Cited.Places.{most_large}
use Rattle.lines.proofs.Sound.{lines_sound}
use Rattle.pieces.specs.Pieces.{Kind, Piece, blank_line, plain_line, paragraph, pieces}
use Rattle.pieces.specs.Cited.Places.{piece_at}
use Rattle.pieces.specs.Cited.Bounds.{AllBegin, MarginWithin, Bounded}
use Rattle.pieces.specs.declared.Margin.{Margin}
use Rattle.pieces.specs.declared.Paragraph.{Paragraph}
use Rattle.pieces.specs.declared.Piece.TheVariants.{Text}
use Rattle.records.specs.Word.{Word}
use Rattle.records.specs.Cited.Table.{words_in}
use Rattle.words.specs.Words.{words_of}
use Rattle.words.specs.Cited.Places.{words_at}
use Rattle.words.specs.Cited.Split.{Split}
use Rattle.words.specs.declared.TooMany.{TooMany}
use Rattle.words.proofs.Order.{paragraph_some}
use Rattle.output.specs.Cited.Writers.{margin_of}
use Rattle.paragraphs.proofs.Breaking.{split_many, split_few}
use Rattle.walk.specs.Digest.{too_many, long_paragraph}
use Rattle.walk.specs.Cited.Course.{Admitted, SoundFrom, pieces_from, FirstPiece}
use Rattle.walk.proofs.Rows.{text_words}
use Rattle.walk.proofs.Meaning.{TextGoes}
use Rattle.walk.proofs.Steps.{ready_kept, found_goes}
use Rattle.walk.proofs.Loop.{none_left, all_pieces, sound_more}
use Rattle.checker.specs.Matching.{Match, on, fault, and_then, match_line, match_words, match_piece, match_pieces}
use Rattle.checker.specs.Cited.Places.{matched, MatchedIn, Matches, MarginFits, Matchable}
use Rattle.checker.specs.declared.Spot.{Spot}
use Rattle.checker.specs.declared.Fault.{Fault}
use Rattle.checker.proofs.Spots.{matches_same, part_slice}
use Rattle.judge.specs.Cited.Judging.{Took, long_behind, Walked}
use Rattle.judge.specs.declared.Stand.{Stand}

-- ---- the first paragraph of over so many words

module _ (most : ℕ) (o : Opts) (notes : List ℕ) (c : Stand) where
  long_none : length notes ≤ c.at → long_behind most o notes c ≡ None
  unfolding long_paragraph
  long_none h = ap (long_paragraph most o c.at) (none_left o c.mail notes c.at h)

  module _ {kind : Kind} {state : Bool} {next : ℕ} (g : FirstPiece o c.mail notes c.at kind state next) where
    long_as : (b : Bool) → too_many most o kind ≡ b → long_behind most o notes c ≡ elim b as (λ x. Option ℕ) [ true ↦ Some c.at | false ↦ long_paragraph most o next (pieces_from o state notes next) ]
    unfolding long_paragraph
    long_as b e =
        ap (long_paragraph most o c.at) g.pieces
        ∙ ap (λ (n : ℕ). elim (too_many most o g.piece.kind) as (λ x. Option ℕ) [ true ↦ Some c.at | false ↦ long_paragraph most o n (pieces_from o state notes next) ]) g.extent
        ∙ ap (λ (x : Bool). elim x as (λ y. Option ℕ) [ true ↦ Some c.at | false ↦ long_paragraph most o next (pieces_from o state notes next) ]) (ap (too_many most o) g.is ∙ e)

-- ---- a piece

module _ (most : ℕ) (o : Opts) (notes digest : List ℕ) (c : Stand) (next : ℕ) {r : Result Spot Fault} where
  pub blank_took : FirstPiece o c.mail notes c.at blank_line true next → Matches digest (and_then (matched digest c.matched) (match_line (take (c.at - c.at) (drop c.at notes)))) r
      → Took most o notes digest c (record { at = next; mail = true; matched = r })
  unfolding match_piece
  blank_took g m =
      let z : c.at - c.at ≡ 0 = omega arith in
      record { kind = blank_line; goes = g; few = refl; matches = matches_same (ap (λ (n : ℕ). and_then (matched digest c.matched) (match_line (take n (drop c.at notes)))) z) m }

  pub plain_took : (end : ℕ) → FirstPiece o c.mail notes c.at (plain_line (slice c.at end notes)) false next × (c.at ≤ end) × (end ≤ next)
      → Matches digest (and_then (matched digest c.matched) (match_line (take (end - c.at) (drop c.at notes)))) r → Took most o notes digest c (record { at = next; mail = false; matched = r })
  unfolding match_piece
  plain_took end g m = record {
    kind = plain_line (slice c.at end notes);
    goes = g.0;
    few = refl;
    matches = matches_same (ap (λ (t : List ℕ). and_then (matched digest c.matched) (match_line t)) (part_slice c.at end notes g.1)) m;
  }

-- a paragraph that `next_piece` found
module _ (block notes : List ℕ) (o : Options) (c : Stand) (p : Paragraph) (ready : Admitted block notes o) (here : c.at < length notes)
    (is : (Text p ≡ piece_at (meant block o) c.mail notes c.at) × Bounded o.glue notes c.at (Text p)) where
  abbrev words : List Word
  words = words_at (meant block o) p.mail p.start p.later (lines_of (slice c.at p.next notes))

  goes : TextGoes (meant block o) c.mail notes c.at p
  goes = found_goes block notes o ready c.mail c.at (Text p) (Text p) here is refl

  words_are : words_of (meant block o) goes.paragraph_is ≡ words
  words_are = text_words (meant block o) notes c.at p goes.paragraph_is goes.text

  words_some : 0 < length words
  words_some = let h = paragraph_some (meant block o) _ goes.paragraph_is goes.text.rows in omega (arith, h, ap length words_are)

  margin_fits : (m : Margin) → MarginWithin c.at p.next m → MarginFits notes m
  margin_fits m w = let h = goes.bounds.within in record { order = w.order; end = omega (arith, w.high, h); more = w.more }

  -- what splitting it asks
  pub text_splits : (c.at ≤ p.next) × (p.next ≤ length notes) × (length notes ≤ most_large) × (1 ≤ o.tab) × (o.tab ≤ 100) × (p.mail ≡ false → AllBegin o.glue p.start p.later (lines_of (slice c.at p.next notes)))
  unfolding meant
  text_splits =
      let k = ready_kept block notes o ready in
      let b = goes.bounds in
      (omega (arith, b.on), b.within, ready.short, k.tab_least, k.tab_most, b.begins)

  module _ {most : ℕ} {table es : List ℕ} where
    pub text_over : {t : TooMany} → Split most notes words es table (Err t) → long_behind most (meant block o) notes c ≡ Some c.at
    text_over s = long_as most (meant block o) notes c goes.goes true (lt-ltb most (length (words_of (meant block o) goes.paragraph_is)) (omega (arith, split_many s refl, ap length words_are)))

    module _ (n : ℕ) (s : Split most notes words es table (Ok n)) where
      pub text_matchable : Matchable notes table n p.indent × MarginFits notes p.first
      text_matchable =
          let w = s.kept n refl in
          let f = split_few s n refl in (
            record { some = omega (arith, words_some, f.0); words = w.within; held = omega (arith, w.few, w.held); fits = margin_fits p.indent goes.bounds.indent },
            margin_fits p.first goes.bounds.first,
          )

      pub text_took : {digest : List ℕ} {r : Result Spot Fault} → Matches digest (and_then (matched digest c.matched) (match_words o.glue (margin_of notes p.first) (margin_of notes p.indent) (words_in notes n table))) r
          → Took most (meant block o) notes digest c (record { at = p.next; mail = p.mail; matched = r })
      unfolding match_piece meant
      text_took m = record {
        kind = paragraph goes.paragraph_is;
        goes = goes.goes;
        few = le-ltb most (length (words_of (meant block o) goes.paragraph_is)) (omega (arith, (split_few s n refl).1, ap length words_are));
        matches = rw (words_are, ← goes.text.first.bytes, ← goes.text.indent.bytes, ← s.words n refl) m;
      }

-- ---- the pieces from a place on

module _ (o : Opts) where
  match_more : (m : Match) (q : Piece) (qs : List Piece) → and_then (and_then m (match_piece o q.kind)) (match_pieces o qs) ≡ and_then m (match_pieces o (q ∷ qs))
  unfolding match_pieces
  match_more (on xs n) q qs = refl
  match_more (fault n) q qs = refl

  match_none : (m : Match) → and_then m (match_pieces o []) ≡ m
  unfolding match_pieces
  match_none (on xs n) = refl
  match_none (fault n) = refl

-- what is left where the work is at c, of what the digest had come to first
pub record Going (most : ℕ) (o : Opts) (notes digest : List ℕ) (first : Result Spot Fault) (c : Stand) : Type 0 where
  pub within : c.at ≤ length notes
  pub sound : SoundFrom notes c.at
  pub inside : MatchedIn digest c.matched
  pub left : and_then (matched digest c.matched) (match_pieces o (pieces_from o c.mail notes c.at)) ≡ and_then (matched digest first) (match_pieces o (pieces o notes))
  pub long : long_behind most o notes c ≡ long_paragraph most o 0 (pieces o notes)

module _ (most : ℕ) (o : Opts) (notes digest : List ℕ) (first : Result Spot Fault) where
  pub going_first : MatchedIn digest first → Going most o notes digest first (record { at = 0; mail = true; matched = first })
  going_first h = record { within = omega arith; sound = lines_sound notes; inside = h; left = rw (all_pieces o notes); long = rw (all_pieces o notes) }

  module _ {c : Stand} (g : Going most o notes digest first c) where
    pub going_on : {d : Stand} → Took most o notes digest c d → Going most o notes digest first d
    going_on {d} t =
        let q = t.goes.piece in
        let rest = pieces_from o d.mail notes d.at in
        record {
          within = t.goes.within;
          sound = sound_more o t.goes g.sound;
          inside = t.matches.inside;
          left =
              ap (λ (m : Match). and_then m (match_pieces o rest)) t.matches.is
              ∙ ap (λ (k : Kind). and_then (and_then (matched digest c.matched) (match_piece o k)) (match_pieces o rest)) (sym t.goes.is)
              ∙ match_more o (matched digest c.matched) q rest
              ∙ ap (λ (qs : List Piece). and_then (matched digest c.matched) (match_pieces o qs)) (sym t.goes.pieces)
              ∙ g.left;
          long = sym (long_as most o notes c t.goes false t.few) ∙ g.long;
        }

    pub going_through : length notes ≤ c.at → Walked most o notes digest first (Ok c.matched)
    going_through h = (
      sym g.long ∙ long_none most o notes c h,
      record {
        is = sym (match_none o (matched digest c.matched)) ∙ ap (λ (qs : List Piece). and_then (matched digest c.matched) (match_pieces o qs)) (sym (none_left o c.mail notes c.at h)) ∙ g.left;
        inside = g.inside;
      },
    )

-- The next word at a place, from the blanks and the ink that the code found there.
use Rattle.std.proofs.Common.{None}
use mathlib.Core.Path.{◌≡◌, refl, sym, ap, ap₂, ◌∙◌}
use mathlib.Core.Bool.{Bool, true, false, cond, ◌&&◌, ◌||◌}
use mathlib.Core.List.{List, [], ◌∷◌}
use Prim.Native.Nat.{ℕ, ◌+◌, ◌-◌, ◌*◌, ◌≤◌, ◌<◌}
use native.Mathlib.Omega.{arith}
use lib.Dec.{ltb}
use lib.ListN.{length, drop, length-drop}
use lib.Seq.{slice, slice_empty, length-slice}
use Rattle.lists.specs.Runs.{while, behind}
use Rattle.lists.proofs.Runs.{while_more}
use Rattle.lists.proofs.RunParts.{behind_fails}
use Rattle.text.specs.Characters.{Glyph, glyph, characters, ordinary, glyphs, is_blank, extent}
use Rattle.text.specs.Cited.Places.{settle, ink_glyphs}
use Rattle.text.proofs.Glyphs.{bytes_of_part, characters_first}
use Rattle.text.proofs.Glue.{settle_first}
use Rattle.text.proofs.Edges.{glyphs_past, ink_past}
use Rattle.options.specs.Opts.{Opts}
use Rattle.lines.specs.Cited.Places.{most_large}
use Rattle.records.specs.Word.{meaning}
use Rattle.records.specs.Cited.Table.{before_number, Small, Within}
use Rattle.records.specs.declared.Word.{Word as Record}
use Rattle.words.specs.Words.{Run, is_ink, run_of, runs, bytes_of, width_sum, Gap, no_gap, gap_of, has_tab, punct_at_end, counting, wide_gap, word_of, mail_word}
use Rattle.words.specs.Places.{places_from}
use Rattle.words.specs.Cited.Scan.{glyphs_behind, gap_in, OverBlanks, OverInk, word_at, mail_at, words_from, NextWord}
use Rattle.words.specs.declared.Blanks.{Blanks}
use Rattle.words.specs.declared.Ink.{Ink}
use Rattle.words.proofs.WordRuns.{behind_joined, run_bytes, words_none, places_none, word_for, words_one, places_one}
use Rattle.words.proofs.Tabless.{tabless_wide}

-- some glyph stands first, and it has a byte
ink_some : (glue : Bool) (s : List ℕ) (at : ℕ) → at < length s → (g : Glyph) × (rest : List Glyph) × (ink_glyphs glue (drop at s) ≡ g ∷ rest) × (0 < length g.bytes)
unfolding ink_glyphs
ink_some glue s at h =
    let g = glyph (drop at s) in
    let b = bytes_of_part (drop at s) (simp length-drop (omega arith)) in
    let v = settle_first glue true g (characters (drop (at + length g.bytes) s)) in
    (_, _, ap (settle glue true) (characters_first s at h) ∙ v.1, some v.0 (omega (arith, b.some, b.count)))
  where
    some : (t : Bool) → 0 < length (glyph (drop at s)).bytes → 0 < length (cond t (ordinary (glyph (drop at s))) (glyph (drop at s))).bytes
    some true k = k
    some false k = k

-- nothing is left of the line
past_blanks : (glue new_line : Bool) (s : List ℕ) (at : ℕ) → length s ≤ at → behind is_blank (glyphs_behind glue new_line (drop at s)) ≡ []
unfolding behind
past_blanks glue true s at h = rw (ink_past glue s at h)
past_blanks glue false s at h = rw (glyphs_past glue s at h)

pub none_past : (o : Opts) (mail new_line previous : Bool) (s : List ℕ) (at : ℕ) → length s ≤ at
    → (words_from o mail new_line previous (glyphs_behind o.glue new_line (drop at s)) ≡ []) × (places_from at (runs (glyphs_behind o.glue new_line (drop at s))) ≡ [])
none_past o mail new_line previous s at h = let e = past_blanks o.glue new_line s at h in (words_none o mail new_line previous _ e, places_none at _ e)

module _ (o : Opts) (new_line : Bool) (s : List ℕ) (at : ℕ) (b : Blanks) (over : OverBlanks o.glue o.tab new_line s at b) where
  abbrev line : List Glyph
  line = glyphs_behind o.glue new_line (drop at s)

  pub next_none : (mail previous : Bool) → length s ≤ b.end → words_from o mail new_line previous line ≡ []
  next_none mail previous h = words_none o mail new_line previous _ (sym over.rest ∙ ink_past o.glue s b.end h)

  pub places_past : length s ≤ b.end → places_from at (runs line) ≡ []
  places_past h = places_none at _ (sym over.rest ∙ ink_past o.glue s b.end h)

  module _ (w : Ink) (ink : OverInk o.glue s b.end w) (more : b.end < length s) where
    abbrev rest : List Glyph
    rest = (ink_some o.glue s b.end more).1

    starts : behind is_blank line ≡ (ink_some o.glue s b.end more).0 ∷ rest
    starts = sym over.rest ∙ (ink_some o.glue s b.end more).2

    run : Run
    run = run_of line

    text_is : while is_ink (behind is_blank line) ≡ while is_ink (ink_glyphs o.glue (drop b.end s))
    text_is = rw over.rest

    text_bytes : bytes_of run.text ≡ slice b.end w.end s
    unfolding run run_of
    text_bytes = rw text_is (run_bytes is_ink (ink_glyphs o.glue (drop b.end s)) s b.end w.end (behind_joined o.glue true (drop b.end s)) ink.end)

    blank_bytes : bytes_of run.blanks ≡ slice at b.end s
    unfolding run run_of
    blank_bytes = run_bytes is_blank line s at b.end (behind_joined o.glue new_line (drop at s)) over.end

    -- the word is at least a byte long
    ends : b.end < w.end
    unfolding extent
    ends =
        let f = ink_some o.glue s b.end more in
        let i : is_ink f.0 ≡ true = rw (behind_fails is_blank _ starts) in
        let e : while is_ink (ink_glyphs o.glue (drop b.end s)) ≡ f.0 ∷ while is_ink rest = rw f.2 (while_more is_ink _ _ i) in
        omega (arith, ink.end, ap extent e, f.3)

    -- the words from here on, with the next written as the code's record
    onward : (mail previous : Bool) (r : Record) → meaning s r ≡ word_for o mail new_line previous run → r.end ≡ w.end
        → words_from o mail new_line previous line ≡ meaning s r ∷ words_from o mail false w.punct (glyphs o.glue (drop r.end s))
    unfolding run
    onward mail previous r m e =
        rw (m, e, ink.punct, ink.rest, over.rest) (words_one _ starts o mail new_line previous)

    -- and it is where the record says
    placed : places_from at (runs line) ≡ b.end ∷ places_from w.end (runs (glyphs o.glue (drop w.end s)))
    placed = rw (ink.rest, over.rest) (places_one _ starts at b.end w.end over.end (ink.end ∙ ap (λ (gs : List Glyph). b.end + extent (while is_ink gs)) over.rest))

    -- in mail
    mail_means : (previous : Bool) → meaning s (mail_at b.end w.end) ≡ word_for o true new_line previous run
    unfolding meaning word_for mail_word
    mail_means previous = rw (slice_empty b.end s, text_bytes, length-slice b.end w.end s ink.within)

    -- elsewhere
    text_width : width_sum run.text ≡ w.width
    unfolding run run_of
    text_width = rw text_is (sym ink.width)

    text_punct : punct_at_end run.text ≡ w.punct
    unfolding run run_of
    text_punct = rw text_is (sym ink.punct)

    blank_gap : gap_of o.tab run.blanks ≡ gap_in b
    unfolding run run_of
    blank_gap = sym over.gap

    blank_count : length (bytes_of run.blanks) ≡ b.end - at
    blank_count = ap length blank_bytes ∙ length-slice at b.end s over.within

    -- by the bytes of the blanks, or by their after count, which has them all where no tab is
    blank_wide : (characters : Bool) → wide_gap (counting characters) o.tab run.blanks ≡ (has_tab b.before || ltb 1 (cond characters b.after (b.end - at)))
    unfolding wide_gap counting
    blank_wide true = tabless_wide o.tab run.blanks ∙ ap (λ (g : Gap). has_tab g.before || ltb 1 g.after) blank_gap
    blank_wide false = ap₂ (λ (g : Gap) (n : ℕ). has_tab g.before || ltb 1 n) blank_gap blank_count

    line_means : (previous : Bool) → meaning s (word_at o.uniform o.by_characters new_line previous at b w) ≡ word_for o false new_line previous run
    unfolding meaning word_for word_of
    line_means previous =
        rw (text_width, text_punct, blank_wide o.by_characters, blank_gap, text_bytes, blank_bytes) (pick o.uniform)
      where
        pick : (u : Bool) → meaning s (word_at u o.by_characters new_line previous at b w) ≡ record {
          blanks = cond u [] (slice at b.end s);
          text = slice b.end w.end s;
          width = w.width;
          before = (cond u no_gap (gap_in b)).before;
          after = (cond u no_gap (gap_in b)).after;
          new_line = new_line;
          ends_punct = w.punct;
          sentence_start = previous && (has_tab b.before || ltb 1 (cond o.by_characters b.after (b.end - at)));
        }
        pick true = rw (slice_empty b.end s)
        pick false = refl

    pub next_mail : (previous : Bool) → NextWord o true new_line previous s at (mail_at b.end w.end)
    unfolding words_from
    next_mail previous = let e = ends in record {
      first = onward true previous (mail_at b.end w.end) (mail_means previous) refl;
      place = placed;
      within = record { gap = omega arith; text = omega arith; end = ink.within };
      on = omega (arith, over.end);
      narrow = omega (arith, ink.within);
      before = omega arith;
      after = omega arith;
    }

    pub next_line : (previous : Bool) → NextWord o false new_line previous s at (word_at o.uniform o.by_characters new_line previous at b w)
    next_line previous = let e = ends in record {
      first = onward false previous (word_at o.uniform o.by_characters new_line previous at b w) (line_means previous) refl;
      place = placed;
      within = pick_within o.uniform;
      on = omega (arith, over.end);
      narrow = omega (arith, ink.narrow, ink.within);
      before = pick_before o.uniform;
      after = pick_after o.uniform;
    }
      where
        pick_within : (u : Bool) → Within (length s) (word_at u o.by_characters new_line previous at b w)
        pick_within true = let e = ends in record { gap = omega arith; text = omega arith; end = ink.within }
        pick_within false = let e = ends in record { gap = omega (arith, over.end); text = omega arith; end = ink.within }

        pick_before : (u : Bool) → before_number (cond u None b.before) ≤ 100 * length s
        pick_before true = omega arith
        pick_before false = over.before

        pick_after : (u : Bool) → cond u 0 b.after ≤ 100 * length s
        pick_after true = omega arith
        pick_after false = over.after

-- its numbers fit the table
pub next_small : {o : Opts} {mail new_line previous : Bool} {s : List ℕ} {at : ℕ} {w : Record} → NextWord o mail new_line previous s at w → length s ≤ most_large → Small w
next_small n h = record {
  from = omega (arith, n.within.gap, n.within.text, n.within.end);
  start = omega (arith, n.within.text, n.within.end);
  end = omega (arith, n.within.end);
  width = omega (arith, n.narrow);
  before = omega (arith, n.before);
  after = omega (arith, n.after);
}

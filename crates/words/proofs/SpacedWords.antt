-- Words of plain characters, spaces apart: each is the next word of its line, wherever that ends.
use Rattle.std.proofs.Common.{None, Result}
use mathlib.Core.Path.{◌≡◌, refl, ap}
use mathlib.Core.Bool.{Bool, true, false, not, ◌||◌, true≢false, false≢true}
use mathlib.Core.Logic.{⊎_elim}
use mathlib.Core.List.{List, ◌++◌}
use Prim.Native.Nat.{ℕ, ◌+◌, ◌-◌, ◌≤◌, ◌<◌}
use native.Mathlib.Omega.{arith}
use lib.Dec.{ltb, eqb}
use lib.ListN.{length, get_or, take, drop, length-take}
use lib.Seq.{slice, get_or-take, take-take, length-take-le}
use borrow.Author.Tests.{ltb-true, ltb-false}
use Rattle.lists.proofs.Runs.{while_end}
use Rattle.text.specs.Characters.{glyphs, is_blank}
use Rattle.text.proofs.Glyphs.{Here}
use Rattle.text.proofs.Edges.{ink_on}
use Rattle.options.specs.Opts.{Opts}
use Rattle.lines.specs.Lines.{first_line}
use Rattle.lines.specs.Cited.Places.{most_large, lengths_of}
use Rattle.records.specs.Word.{Word}
use Rattle.records.specs.Cited.Table.{Small, with_word, words_in}
use Rattle.records.specs.declared.Word.{Word as Record}
use Rattle.words.specs.Words.{runs}
use Rattle.words.specs.Places.{places_from}
use Rattle.words.specs.Cited.Scan.{glyphs_behind, no_blanks, Plain, OverBlanks, OverInk, word_at, words_from, NextWord}
use Rattle.words.specs.Cited.Split.{Kept, places_in, WordsFilled}
use Rattle.words.specs.Cited.Spaced.{SpacesBefore, plain_ink, PlainWord, PlainBehind, one_blank, PlainNext, EndsAt, SpacedTo}
use Rattle.words.specs.declared.Blanks.{Blanks}
use Rattle.words.specs.declared.TooMany.{TooMany}
use Rattle.words.specs.declared.Spaced.{Spaced}
use Rattle.words.proofs.InkRuns.{InkLeft, ink_first, ink_past, ink_stop}
use Rattle.words.proofs.PlainRuns.{plain_here, ink_plain}
use Rattle.lines.proofs.UsualBlanks.{ends_here, ends_word_here}
use Rattle.words.proofs.BlankRuns.{blanks_none, blanks_spaces}
use Rattle.words.proofs.NextWord.{next_line, next_small}
use Rattle.words.proofs.LineEnds.{ends_later, line_ends}
use Rattle.words.proofs.Filling.{Filling, filling_first, filling_more}

here_moved : {t : List ℕ} {x y : ℕ} → x ≡ y → Here false t x (get_or t x 0) (x + 1) → Here false t y (get_or t y 0) (y + 1)
here_moved e h = rw (← e) h

as_counted : {glue : Bool} {tab : ℕ} {s : List ℕ} {at : ℕ} (b : Blanks) → b ≡ record { end = b.end; before = None; after = b.end - at } → OverBlanks glue tab false s at (record { end = b.end; before = None; after = b.end - at }) → OverBlanks glue tab false s at b
as_counted b e o = rw e o

as_none : {glue : Bool} {tab : ℕ} {s : List ℕ} {at : ℕ} {b : Blanks} → b ≡ no_blanks at → OverBlanks glue tab true s at (no_blanks at) → OverBlanks glue tab true s at b
as_none e o = rw e o

-- ---- a word after one space

pub near_next : (o : Opts) (first previous : Bool) (s : List ℕ) (at stop : ℕ) (w : Record) → first ≡ false → at < length s → get_or s at 0 ≡ 32 → PlainWord s (at + 1) stop
    → w ≡ word_at o.uniform o.by_characters false previous at (one_blank at) (plain_ink s (at + 1) stop) → PlainNext o first previous s at w
near_next o true previous s at stop w e within space p is = absurd (true≢false e)
near_next o false previous s at stop w e within space p is =
    let one : at + 1 - at ≡ 1 = omega arith in
    record {
      gap = one_blank at;
      stop = stop;
      plain = record {
        gap = record {
          over = record { on = omega arith; within = omega arith; spaces = λ i h k. let q : i ≡ at = omega arith in rw q space };
          counts = rw one;
          none = λ f. absurd (false≢true f);
        };
        word = p;
      };
      is = is;
    }

-- ---- one word, where the line's text ends at e

module _ (s : List ℕ) (at e : ℕ) (line : EndsAt s at e) (first : Bool) (b : Blanks) (end : ℕ) (p : PlainBehind s at first b end) where
  abbrev start : ℕ
  start = b.end

  -- a line feed or a carriage return stands there
  small : e < length s → get_or s e 0 ≤ 13
  small h = ⊎_elim (λ (f : get_or s e 0 ≡ 10). omega arith) (λ (r : (get_or s e 0 ≡ 13) × (get_or s (e + 1) 0 ≡ 10)). omega (arith, r.0)) (line.ends h)

  -- so it is no byte of the word, nor a space before it
  pub spaced_reaches : end ≤ e
  spaced_reaches = pick (ltb e end) (ltb e start) refl refl
    where
      pick : (t u : Bool) → ltb e end ≡ t → ltb e start ≡ u → end ≤ e
      pick false u q r = ltb-false e end q
      pick true true q r = let w = p.word.run.within in let h = small (omega (arith, ltb-true e end q)) in absurd (omega (arith, p.gap.over.spaces e line.on (ltb-true e start r)))
      pick true false q r = let w = p.word.run.within in let h = small (omega (arith, ltb-true e end q)) in absurd (omega (arith, p.word.run.least e (ltb-false e start r) (ltb-true e end q)))

  text : List ℕ
  text = take e s

  size : length text ≡ e
  unfolding text
  size = length-take-le e s line.within

  byte : (i : ℕ) → i < e → get_or text i 0 ≡ get_or s i 0
  unfolding text
  byte i h = get_or-take e s i 0 h

  run : Plain text start end
  run =
      let h = spaced_reaches in
      let r = p.word.run in
      record {
        on = r.on;
        within = rw size h;
        least = λ i a b. rw (byte i (omega arith)) (r.least i a b);
        most = λ i a b. rw (byte i (omega arith)) (r.most i a b);
      }

  -- its first character
  begins : Here false text start (get_or text start 0) (start + 1)
  begins = let h = spaced_reaches in let l = p.word.some in plain_here text start start refl (rw size (omega arith)) (run.least start (omega arith) l) (run.most start (omega arith) l)

  module _ (glue : Bool) where
    left : InkLeft glue text start (plain_ink s start end)
    left =
        let h = spaced_reaches in
        let l = p.word.some in
        ink_plain (record { end = start; width = 0; punct = false }) (ink_first (rw size (omega arith))) (plain_ink s start end)
        (record { run = run; on = l; width = omega arith; punct = rw (byte (end - 1) (omega arith)) })

    over_ink : OverInk glue text start (plain_ink s start end)
    over_ink = pick (ltb end e) refl
      where
        pick : (t : Bool) → ltb end e ≡ t → OverInk glue text start (plain_ink s start end)
        pick false q = ink_past _ left (rw size (ltb-false end e q))
        pick true q =
            let l = ltb-true end e q in
            ⊎_elim
            (λ (b : (eqb (get_or s end 0) 32 || eqb (get_or s end 0) 9) ≡ true).
            let h : end < length text = rw size l in
            let c : (eqb (get_or text end 0) 32 || eqb (get_or text end 0) 9) ≡ true = rw (byte end l) b in
            ink_stop _ left (ends_here text end h c) (ends_word_here text end h glue c))
            (λ (f : get_or s end 0 ≡ 10). absurd (line.feedless end (omega (arith, p.word.some, p.gap.over.on)) l f))
            (p.word.ends (omega (arith, line.within)))

    over_blanks : (tab : ℕ) → tab ≤ 100 → OverBlanks glue tab first text at b
    over_blanks tab few = pick first p.gap
      where
        pick : (f : Bool) → SpacesBefore s at f b → OverBlanks glue tab f text at b
        pick true g =
            let e = g.none refl in
            let h = here_moved (ap (λ (x : Blanks). x.end) e) begins in
            as_none e (blanks_none (rw size line.on) (rw (ink_on glue text at h) (while_end is_blank _ _ h.is_blank)))
        pick false g =
            let r = spaced_reaches in
            let l = p.word.some in
            as_counted b g.counts (blanks_spaces start g.over.on (λ i x y. rw (byte i (omega arith)) (g.over.spaces i x y)) (record { within = rw size (omega arith); ink = begins.is_blank }) few)

  pub spaced_next : (o : Opts) (previous : Bool) → o.tab ≤ 100
      → NextWord o false first previous (take e s) at (word_at o.uniform o.by_characters first previous at b (plain_ink s start end))
  unfolding text
  spaced_next o previous few = next_line o first text at b (over_blanks o.glue o.tab few) (plain_ink s start end) (over_ink o.glue) (let h = spaced_reaches in let l = p.word.some in rw size (omega arith)) previous

-- ---- in the table

-- a plain word of the notes before next: w is its record, after the first n of the table
module _ (o : Opts) (notes : List ℕ) (next at : ℕ) (first previous : Bool) (b : Blanks) (stop : ℕ) (w : Record) (fits : next ≤ length notes) (few : o.tab ≤ 100) (p : PlainBehind (take next notes) at first b stop)
    (is : w ≡ word_at o.uniform o.by_characters first previous at b (plain_ink (take next notes) b.end stop)) where
  ends_there : w.end ≡ stop
  ends_there = rw is

  -- it is the next word of its line, wherever that ends
  spaced_word : {end : ℕ} → EndsAt (take next notes) at end → NextWord o false first previous (take end notes) at w
  spaced_word {end} line =
      let sized : length (take next notes) ≡ next = length-take-le next notes fits in
      let cut : take end (take next notes) ≡ take end notes = take-take end next notes (omega (arith, line.within)) in
      rw (is, ← cut) (spaced_next (take next notes) at end line first b stop p o previous few)

  module _ {most n : ℕ} {t : List ℕ} (more : n < most) (kept : Kept most (length notes) n t) where
    spaced_filling : {end : ℕ} → EndsAt (take next notes) at end → {whole : List Word} {ps : List ℕ}
        → Filling most notes whole (words_from o false first previous (glyphs_behind o.glue first (slice at end notes))) ps (places_from at (runs (glyphs_behind o.glue first (slice at end notes)))) n t
        → Filling most notes whole (words_from o false false w.punct (glyphs o.glue (slice w.end end notes))) ps (places_from w.end (runs (glyphs o.glue (slice w.end end notes)))) (n + 1) (with_word t n w)
    spaced_filling {end} line f = let word = spaced_word line in filling_more f end w word.first word.place more word.within word.narrow

    -- what is known of the word and of the table, and depends on no end
    pub spaced_step : at ≤ next → length notes ≤ most_large → Small w × Kept most (length notes) (n + 1) (with_word t n w) × (at < w.end) × (w.end ≤ next)
    spaced_step on short =
        let sized : length (take next notes) ≡ next = length-take-le next notes fits in
        let line = (line_ends (take next notes) at (omega arith) _ refl).ends in
        let word = spaced_word line in
        let run = p.word in
        (next_small word (omega (arith, word.within.end, length-take (at + (lengths_of (first_line (drop at (take next notes)))).text) notes)), (spaced_filling line (filling_first kept)).kept, word.on, omega (arith, ends_there, run.run.within))

    -- one word more, where it is not mail
    pub spaced_more : {mail : Bool} {start end m : ℕ} {t₀ : List ℕ} → mail ≡ false → EndsAt (take next notes) start end → start ≤ at → SpacedTo o mail notes start end m t₀ (record { count = n; at = at; first = first; punct = previous }) t
        → SpacedTo o mail notes start end m t₀ (record { count = n + 1; at = w.end; first = false; punct = w.punct }) (with_word t n w)
    spaced_more {mail = true} e line on to = absurd (true≢false e)
    spaced_more {mail = false} {end = end} e line on to =
        let here = ends_later line on to.to in
        let g = spaced_filling here (record { words = to.words; places = to.places; kept = kept }) in
        record {
          to = omega (arith, ends_there, spaced_reaches (take next notes) at end here first b stop p);
          words = g.words;
          places = g.places;
          ink = λ a b. absurd (false≢true b);
        }

-- with the words of the rest of the line, up to where its end was found
pub spaced_filled : (most : ℕ) {o : Opts} {mail : Bool} {notes : List ℕ} {start end n : ℕ} {t : List ℕ} {r : Spaced} {t' : List ℕ} → SpacedTo o mail notes start end n t r t' → (stop : ℕ) → stop ≡ end → (t'' : List ℕ) (k : Result ℕ TooMany)
    → WordsFilled most notes (words_in notes r.count t' ++ words_from o mail r.first r.punct (glyphs_behind o.glue r.first (slice r.at stop notes)))
    (places_in r.count t' ++ places_from r.at (runs (glyphs_behind o.glue r.first (slice r.at stop notes)))) t'' k
    → WordsFilled most notes (words_in notes n t ++ words_from o mail (not mail) false (glyphs_behind o.glue (not mail) (slice start end notes)))
    (places_in n t ++ places_from start (runs (glyphs_behind o.glue (not mail) (slice start end notes)))) t'' k
spaced_filled most to stop e t'' k f = rw (← to.words, ← to.places, ← e) f

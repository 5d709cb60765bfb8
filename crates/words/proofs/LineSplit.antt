-- One line of a paragraph: first its words that stand spaces apart, and then the rest of it, up to the end that is found behind them.
use Rattle.std.proofs.Common.{Ok, Err}
use mathlib.Core.Path.{◌≡◌, refl, ap, ◌∙◌}
use mathlib.Core.Bool.{Bool, true, false, cond}
use mathlib.Core.List.{List, [], ◌++◌}
use Prim.Native.Nat.{ℕ, ◌+◌, ◌-◌, ◌≤◌, ◌<◌}
use native.Mathlib.Omega.{arith}
use lib.ListN.{length, take, drop}
use lib.Seq.{slice, length-take-le}
use Rattle.lists.specs.Runs.{while}
use Rattle.lists.proofs.Fronts.{part_to_end}
use Rattle.text.specs.Characters.{is_blank}
use Rattle.text.specs.Cited.Places.{ink_glyphs}
use Rattle.options.specs.Opts.{Opts}
use Rattle.lines.specs.Lines.{first_line, lines_of}
use Rattle.lines.specs.Cited.Places.{lengths_of}
use Rattle.lines.specs.declared.Extent.{Extent}
use Rattle.pieces.specs.Cited.Bounds.{AllBegin}
use Rattle.records.specs.Word.{Word}
use Rattle.records.specs.Cited.Table.{words_in}
use Rattle.words.specs.Words.{runs}
use Rattle.words.specs.Places.{places_from}
use Rattle.words.specs.Cited.Places.{words_at, places_at}
use Rattle.words.specs.Cited.Scan.{glyphs_behind, words_from}
use Rattle.words.specs.Cited.Split.{places_in, WordsFilled}
use Rattle.words.specs.Cited.Spaced.{EndsAt, SpacedTo}
use Rattle.words.specs.declared.Spaced.{Spaced}
use Rattle.words.proofs.LineEnds.{LineEnds, ends_later, line_ends, same_ends}
use Rattle.words.proofs.Filling.{Filling, filling_line, filling_over}
use Rattle.words.proofs.Rows.{LineAt, line_at}
use Rattle.words.proofs.SpacedWords.{spaced_filled}

-- the line at a place i of the notes up to next: its words spaces apart end at r.at, and f are the lengths of its rest
pub record LineSplit (o : Opts) (mail : Bool) (later : ℕ) (notes : List ℕ) (next i most : ℕ) (whole : List Word) (ps : List ℕ) (r : Spaced) (t : List ℕ) (f : Extent) : Type 0 where
  pub text : r.at + f.text ≤ next
  pub on : i < r.at + f.whole
  pub within : r.at + f.whole ≤ next
  pub ink : r.first ≡ true → while is_blank (ink_glyphs o.glue (slice r.at (r.at + f.text) notes)) ≡ []
  pub rest : mail ≡ false → AllBegin o.glue later later (lines_of (slice (r.at + f.whole) next notes))
  pub over : most < length (words_in notes r.count t ++ words_from o mail r.first r.punct (glyphs_behind o.glue r.first (slice r.at (r.at + f.text) notes))) → most < length whole
  pub filling : (t' : List ℕ) (m : ℕ) → WordsFilled most notes (words_in notes r.count t ++ words_from o mail r.first r.punct (glyphs_behind o.glue r.first (slice r.at (r.at + f.text) notes)))
      (places_in r.count t ++ places_from r.at (runs (glyphs_behind o.glue r.first (slice r.at (r.at + f.text) notes)))) t' (Ok m)
      → Filling most notes whole (words_at o mail later later (lines_of (slice (r.at + f.whole) next notes))) ps (places_at o.glue mail (r.at + f.whole) later later (lines_of (slice (r.at + f.whole) next notes))) m t'

module _ (o : Opts) (mail : Bool) (skip later : ℕ) (notes : List ℕ) (next i from : ℕ) (r : Spaced) (f : Extent) where
  pub line_split : {most n : ℕ} {t t' : List ℕ} {whole : List Word} {ps : List ℕ} → i < next → next ≤ length notes → (mail ≡ false → AllBegin o.glue skip later (lines_of (slice i next notes)))
      → from ≡ i + cond mail 0 skip → from ≤ r.at → r.at ≤ next → ((end : ℕ) → EndsAt (take next notes) from end → SpacedTo o mail notes from end n t r t')
      → f ≡ lengths_of (first_line (take (length (take next notes) - r.at) (drop r.at (take next notes))))
      → Filling most notes whole (words_at o mail skip later (lines_of (slice i next notes))) ps (places_at o.glue mail i skip later (lines_of (slice i next notes))) n t
      → LineSplit o mail later notes next i most whole ps r t' f
  line_split {most} {n} {t} {t'} more fits begins e on to run q fill =
      let x : Extent = lengths_of (first_line (slice i next notes)) in
      let line : LineAt o mail skip later notes next i x = line_at o mail skip later notes next i x more fits refl begins in
      let ends : LineEnds (take next notes) i x = line_ends (take next notes) i (rw (length-take-le next notes fits) (omega arith)) x refl in
      let spaced : SpacedTo o mail notes from (i + x.text) n t r t' = run (i + x.text) (ends_later ends.ends (omega arith) (omega arith)) in
      let found : (r.at + f.text ≡ i + x.text) × (r.at + f.whole ≡ i + x.whole) =
      same_ends ends (line_ends (take next notes) r.at (rw (length-take-le next notes fits) to) f (q ∙ ap (λ (l : List ℕ). lengths_of (first_line l)) (part_to_end r.at (take next notes)))) (omega arith) spaced.to in
      record {
        text = omega arith;
        on = omega arith;
        within = omega arith;
        ink = λ m. rw found.0 (spaced.ink (λ z. rw e (line.ink z)) m);
        rest = rw found.1 line.rest;
        over = λ l. filling_over fill _ _ line.words (rw e at (spaced_filled most spaced (r.at + f.text) found.0 t' (Err (record {})) l));
        filling = λ u m l. rw found.1 (filling_line fill _ _ line.words _ _ line.places u m (rw e at (spaced_filled most spaced (r.at + f.text) found.0 u (Ok m) l)));
      }

-- Words taken of a line, as many as there is room for: how many they are, and all of them.
use Rattle.std.proofs.Common.{Ok, Err}
use mathlib.Core.Path.{◌≡◌, sym, ap, ◌∙◌}
use mathlib.Core.Bool.{Bool, true, false}
use mathlib.Core.List.{List, ◌++◌, append-nil}
use Prim.Native.Nat.{ℕ, ◌+◌}
use native.Mathlib.Omega.{arith}
use lib.ListN.{length, length-append}
use lib.Seq.{slice}
use Rattle.options.specs.Opts.{Opts}
use Rattle.records.specs.Cited.Table.{words_in}
use Rattle.records.proofs.Table.{words_length}
use Rattle.words.specs.Words.{runs}
use Rattle.words.specs.Places.{places_from}
use Rattle.words.specs.Cited.Scan.{glyphs_behind}
use Rattle.words.specs.Cited.Split.{places_in, WordsFilled}
use Rattle.words.specs.Cited.Taken.{words_between, TakenTo}
use Rattle.words.specs.declared.Taken.{Taken}

module _ {most : ℕ} {o : Opts} {mail : Bool} {notes : List ℕ} {start end : ℕ} {head punct : Bool} {n : ℕ} {t : List ℕ} {r : Taken} {t' : List ℕ} (taken : TakenTo most o mail notes start end head punct n t r t') where
  pub taken_count : r.count + length (words_between o mail r.first r.punct notes r.at end) ≡ n + length (words_between o mail head punct notes start end)
  taken_count =
      let a = ap length taken.words in
      let b = length-append (words_in notes r.count t') (words_between o mail r.first r.punct notes r.at end) in
      let c = length-append (words_in notes n t) (words_between o mail head punct notes start end) in
      omega (arith, a, b, c, words_length notes r.count t', words_length notes n t)

  pub taken_over : r.more ≡ true → WordsFilled most notes (words_in notes n t ++ words_between o mail head punct notes start end) (places_in n t ++ places_from start (runs (glyphs_behind o.glue head (slice start end notes)))) t' (Err (record {}))
  taken_over e =
      let l = taken.left e in
      let c = length-append (words_in notes n t) (words_between o mail head punct notes start end) in
      omega (arith, l.0, l.1, taken_count, c, words_length notes n t)

  pub taken_all : r.more ≡ false → WordsFilled most notes (words_in notes n t ++ words_between o mail head punct notes start end) (places_in n t ++ places_from start (runs (glyphs_behind o.glue head (slice start end notes)))) t' (Ok r.count)
  taken_all e =
      let d = taken.done e in
      (sym (append-nil (words_in notes r.count t')) ∙ rw d.0 at taken.words, sym (append-nil (places_in r.count t')) ∙ rw d.1 at taken.places, taken.kept)

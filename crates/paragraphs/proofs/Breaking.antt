-- What splitting, breaking and emitting have done, in terms of the paragraph's own words.
use Rattle.std.proofs.Common.{Result, Ok, Err}
use mathlib.Core.Path.{◌≡◌, refl, sym, ◌∙◌}
use mathlib.Core.Bool.{Bool, true, false, cond}
use mathlib.Core.List.{List, []}
use Prim.Native.Nat.{ℕ, ◌+◌, ◌≤◌, ◌<◌}
use native.Mathlib.Omega.{arith}
use lib.Dec.{leb}
use lib.ListN.{length}
use borrow.Author.Tests.{leb-true, leb-false}
use Rattle.options.specs.Opts.{meant}
use Rattle.options.specs.declared.Options.{Options}
use Rattle.lines.specs.Cited.Places.{most_large}
use Rattle.pieces.specs.declared.Margin.{Margin}
use Rattle.pieces.specs.declared.Paragraph.{Paragraph as ParagraphAt}
use Rattle.records.specs.Word.{Word}
use Rattle.records.specs.Cited.Table.{words_in}
use Rattle.records.specs.Cited.Marks.{MarkedBy}
use Rattle.records.proofs.Marks.{words_same}
use Rattle.words.specs.Cited.Places.{counted}
use Rattle.words.specs.Cited.Split.{Split}
use Rattle.words.specs.declared.TooMany.{TooMany}
use Rattle.spacing.specs.declared.Setting.{Setting}
use Rattle.output.specs.Cited.Bound.{longest, most_emitted}
use Rattle.output.specs.Emission.{emit}
use Rattle.output.specs.Cited.Sink.{Wrote}
use Rattle.output.specs.Cited.Writers.{margin_of, emitted}
use Rattle.output.specs.declared.Layout.{Layout}
use Rattle.quick.specs.Quick.{quick_breaks}
use Rattle.knuth_plass.specs.Cited.Round.{Limits, AllNarrow}
use Rattle.paragraphs.specs.Breaks.{setting_of, breaks_by}
use Rattle.paragraphs.specs.Cited.Steps.{setting_for, Broken, Placed}

pub limits_of : (notes : List ℕ) (at : ℕ) (o : Options) (p : ParagraphAt) → Placed notes at o p → (block : List ℕ) → Limits (setting_for block o p)
unfolding setting_of meant
limits_of notes at o p h block = record { over = h.goal; twice = h.twice; wide = h.width; tab = h.tab_least; tabs = h.tab_most; first = h.first_small; indent = h.indent_small }

counted_many : (most : ℕ) (ws : List Word) → counted most ws ≡ Err (record {}) → most < length ws
unfolding counted
counted_many most ws e = go (leb (length ws) most) refl e
  where
    go : (t : Bool) → leb (length ws) most ≡ t → cond {A = Result ℕ TooMany} t (Ok (length ws)) (Err (record {})) ≡ Err (record {}) → most < length ws
    go true h k = absurd (let z : ◌≡◌ {A = ℕ} 0 1 = cc in omega arith)
    go false h k = leb-false (length ws) most h

counted_few : (most : ℕ) (ws : List Word) (n : ℕ) → counted most ws ≡ Ok n → (length ws ≡ n) × (length ws ≤ most)
unfolding counted
counted_few most ws n e = go (leb (length ws) most) refl e
  where
    go : (t : Bool) → leb (length ws) most ≡ t → cond {A = Result ℕ TooMany} t (Ok (length ws)) (Err (record {})) ≡ Ok n → (length ws ≡ n) × (length ws ≤ most)
    go true h k = (cc, leb-true (length ws) most h)
    go false h k = absurd (let z : ◌≡◌ {A = ℕ} 0 1 = cc in omega arith)

module _ {most : ℕ} {notes t : List ℕ} {r : Result ℕ TooMany} {ws : List Word} {es : List ℕ} (s : Split most notes ws es t r) where
  pub split_many : r ≡ Err (record {}) → most < length ws
  split_many e = counted_many most ws (sym s.count ∙ e)

  pub split_few : (n : ℕ) → r ≡ Ok n → (length ws ≡ n) × (length ws ≤ most)
  split_few n e = counted_few most ws n (sym s.count ∙ e)

  -- no word is wider than the notes are long
  pub split_narrow : (n : ℕ) → r ≡ Ok n → length notes ≤ most_large → AllNarrow n t
  split_narrow n e h i l = omega (arith, (s.kept n e).narrow i l)

module _ (fast : Bool) (g : Setting) (n : ℕ) (work work' : List ℕ) where
  pub broken_fast : fast ≡ true → ((notes : List ℕ) → MarkedBy n work (quick_breaks g (words_in notes n work)) work') → Broken fast g n work work'
  broken_fast e m = record { breaks = λ notes. rw e (m notes).says; words = λ j h. (m []).words j; sized = (m []).sized }

-- what was emitted is the paragraph, in terms of its own words
pub emitted_is : (notes old work : List ℕ) (n : ℕ) (l : Layout) {uniform fast₀ fast : Bool} {first indent : Margin} {g₀ g : Setting} {ws : List Word}
    → l.uniform ≡ uniform → l.first ≡ first → l.indent ≡ indent → words_in notes n old ≡ ws → Broken fast₀ g₀ n old work → fast₀ ≡ fast → g₀ ≡ g
    → emitted notes work n l ≡ emit uniform (margin_of notes first) (margin_of notes indent) (breaks_by fast g ws) ws
emitted_is notes old work n l u f i w b k s = rw (u, f, i, b.breaks notes, words_same notes n old work b.words, w, k, s)

-- and so is its bound
pub most_as : (notes table : List ℕ) (n : ℕ) (l : Layout) (written : ℕ) {first indent : Margin} {ws : List Word} {r : ℕ} → l.first ≡ first → l.indent ≡ indent → words_in notes n table ≡ ws
    → r ≤ written + most_emitted notes table n l → r ≤ written + longest (margin_of notes first) (margin_of notes indent) ws
most_as notes table n l written f i w h = rw (f, i, w) at h

pub wrote_as : {o o' d e : List ℕ} {n n' : ℕ} → d ≡ e → Wrote o n d o' n' → Wrote o n e o' n'
wrote_as q w = rw (← q) w

-- What the functions of a paragraph's work answer for: the storage lent to them, and a paragraph that was written or has too many words.
use Rattle.std.specs.Prelude.{◌≡◌, Bool, true, false, cond, ◌&&◌, ◌||◌, List, ℕ, ◌+◌, ◌*◌, ◌/◌, ◌^◌, ◌≤◌, ◌<◌, leb, length, Result, Ok, Err}
use Rattle.std.proofs.Math.Seq.{slice}
use Rattle.options.specs.Opts.{meant}
use Rattle.options.specs.declared.Options.{Options}
use Rattle.lines.specs.Lines.{lines_of}
use Rattle.lines.specs.Cited.Places.{most_large}
use Rattle.pieces.specs.Cited.Bounds.{AllBegin}
use Rattle.pieces.specs.declared.Paragraph.{Paragraph}
use Rattle.records.specs.Word.{Word}
use Rattle.records.specs.Cited.Table.{Holds, word_in, words_in}
use Rattle.records.specs.Cited.Marks.{breaks_of}
use Rattle.words.specs.Cited.Places.{words_at}
use Rattle.words.specs.declared.TooMany.{TooMany}
use Rattle.spacing.specs.declared.Setting.{Setting}
use Rattle.output.specs.Cited.Bound.{longest}
use Rattle.output.specs.Emission.{emit}
use Rattle.output.specs.Cited.Sink.{Wrote}
use Rattle.output.specs.Cited.Writers.{margin_of, MarginIn}
use Rattle.paragraphs.specs.Breaks.{setting_of, breaks_by}
use Rattle.paragraphs.specs.declared.Cursor.{Cursor}

-- ---- working room

-- so many words there is room for in so many numbers: a word takes seven and, with Knuth-Plass, the break after it eight
unfoldable pub room_for : Bool → ℕ → ℕ
room_for quick size = cond quick (size / 7) (size / 15)

-- a room holds n words, and their breaks where they are not broken quick
pub record Roomy (fast : Bool) (n : ℕ) (work : List ℕ) : Type 0 where
  pub held : Holds n work
  pub breaks : fast ≡ false → n * 15 ≤ length work

-- ---- a paragraph

-- the marks of n words say so, for whatever notes the words are in; these are as they were
pub record Broken (fast : Bool) (g : Setting) (n : ℕ) (work work' : List ℕ) : Type 0 where
  pub breaks : (notes : List ℕ) → breaks_of n work' ≡ breaks_by fast g (words_in notes n work)
  pub words : (j : ℕ) → j < n → word_in work' j ≡ word_in work j
  pub sized : length work' ≡ length work

-- what a paragraph in places is broken with, and its words
abbrev pub setting_for : List ℕ → Options → Paragraph → Setting
setting_for block o p = setting_of (meant block o) p.mail p.first.columns p.indent.columns

abbrev pub words_for : List ℕ → List ℕ → ℕ → Options → Paragraph → List Word
words_for block notes at o p = words_at (meant block o) p.mail p.start p.later (lines_of (slice at p.next notes))

-- a paragraph that lies in the notes, with limits that keep all sums small
pub record Placed (notes : List ℕ) (at : ℕ) (o : Options) (p : Paragraph) : Type 0 where
  pub order : at ≤ p.next
  pub within : p.next ≤ length notes
  pub short : length notes ≤ most_large
  pub begins : p.mail ≡ false → AllBegin o.glue p.start p.later (lines_of (slice at p.next notes))
  pub block : List ℕ
  pub some : 0 < length (words_for block notes at o p)
  pub few : length (words_for block notes at o p) ≤ length notes
  pub first : MarginIn (length notes) p.first
  pub indent : MarginIn (length notes) p.indent
  pub first_small : p.first.columns < 2 ^ 31
  pub indent_small : p.indent.columns < 2 ^ 31
  pub goal : o.goal ≤ o.width
  pub twice : o.width ≤ 2 * o.goal
  pub width : o.width ≤ 1000
  pub tab_least : 1 ≤ o.tab
  pub tab_most : o.tab ≤ 100

-- it was written
pub record TextPut (notes : List ℕ) (at : ℕ) (o : Options) (p : Paragraph) (out : List ℕ) (written : ℕ) (out' : List ℕ) (d : Cursor) (block : List ℕ) : Type 0 where
  pub next : d.at ≡ p.next
  pub mail : d.mail ≡ p.mail
  pub wrote : Wrote out written
      (emit (o.uniform || p.mail) (margin_of notes p.first) (margin_of notes p.indent) (breaks_by (o.quick || p.mail) (setting_for block o p) (words_for block notes at o p)) (words_for block notes at o p))
      out' d.written
  pub bounded : d.written ≤ written + longest (margin_of notes p.first) (margin_of notes p.indent) (words_for block notes at o p)

-- Whether a paragraph is taken: with quick, where its bytes show that it has no more than so many words, of which every second one at most
-- begins one; else if there is room for its words.
abbrev pub takes : Bool → ℕ → ℕ → ℕ → ℕ → Bool
takes quick bytes most room words = quick && leb ((bytes + 1) / 2) most || leb words room

-- it is written if it is taken, and else nothing is
abbrev pub TextStepped : Bool → List ℕ → ℕ → Options → Paragraph → List ℕ → ℕ → List ℕ → Result Cursor TooMany → List ℕ → Type 0
TextStepped taken notes at o p out written out' (Ok d) block = (taken ≡ true) × TextPut notes at o p out written out' d block
TextStepped taken notes at o p out written out' (Err e) block = (taken ≡ false) × (out' ≡ out)

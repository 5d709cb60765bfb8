-- What the functions of the walk answer for that go on from a paragraph, or come to one.
use Rattle.std.specs.Prelude.{◌≡◌, List, ℕ, ◌≤◌, ◌<◌, length, Result, Ok, Err}
use Rattle.options.specs.Opts.{meant}
use Rattle.paragraphs.specs.Cited.Steps.{words_for}
use Rattle.paragraphs.specs.declared.Cursor.{Cursor}
use Rattle.walk.specs.Cited.Course.{Going, FinishedFrom, ClearedFrom}
use Rattle.walk.specs.declared.Ahead.{Ahead}
use Rattle.walk.specs.declared.Ahead.TheVariants.{Text as AheadText, End}
use Rattle.walk.specs.declared.Stopped.{Stopped}
use Rattle.walk.specs.declared.notes.Notes.{Notes}
use Rattle.walk.specs.declared.texts.Text.{Text}

-- all pieces from the paragraph on were written; or the work stopped at a paragraph of too many words
abbrev pub FinishedText : ℕ → Text → List ℕ → List ℕ → Result ℕ Stopped → Type 0
FinishedText most text out out' r = FinishedFrom most (meant text.notes.block.now text.notes.options) text.notes.bytes.now text.c out out' r

-- the same, and where a paragraph has too many words no byte of a digest is left
abbrev pub ClearedText : ℕ → Text → List ℕ → List ℕ → Result ℕ Stopped → Type 0
ClearedText most text out out' r = ClearedFrom most (meant text.notes.block.now text.notes.options) text.notes.bytes.now text.c out out' r

-- so far as the room reaches, which is for so many words: to the end, or to a paragraph of more words
abbrev pub Coursed : ℕ → ℕ → Text → List ℕ → List ℕ → Result ℕ Text → Type 0
Coursed most room text out out' (Ok n) = FinishedText most text out out' (Ok n)
Coursed most room text out out' (Err short) =
    (short.notes ≡ text.notes) × Going most (meant text.notes.block.now text.notes.options) text.notes.bytes.now text.c out short.c out'
    × (room < length (words_for text.notes.block.now text.notes.bytes.now short.c.at text.notes.options short.p))

-- the lines from a place on were written, up to a paragraph or to the end
abbrev pub Reached : ℕ → Notes → Cursor → List ℕ → List ℕ → Ahead → Type 0
Reached most notes c out out' (AheadText text) =
    (text.notes ≡ notes) × Going most (meant notes.block.now notes.options) notes.bytes.now c out text.c out' × (c.at ≤ text.c.at)
Reached most notes c out out' (End n) = FinishedFrom most (meant notes.block.now notes.options) notes.bytes.now c out out' (Ok n)

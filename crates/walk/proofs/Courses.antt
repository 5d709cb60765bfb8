-- The work from a paragraph on: one paragraph further, and as far as a room reaches.
use Rattle.std.proofs.Common.{None, Result, Ok, Err}
use mathlib.Core.Path.{◌≡◌, refl, ◌∙◌}
use mathlib.Core.List.{List}
use Prim.Native.Nat.{ℕ, ◌-◌, ◌≤◌, ◌<◌}
use native.Mathlib.Omega.{arith}
use lib.ListN.{length}
use Rattle.std.specs.Result.{IsErrAnd}
use Rattle.std.proofs.lemmas.Result.{err_from_is_err_and}
use Rattle.options.specs.Opts.{meant}
use Rattle.output.specs.Cited.Sink.{Wrote}
use Rattle.words.specs.declared.TooMany.{TooMany}
use Rattle.paragraphs.specs.Cited.Steps.{words_for, takes, TextStepped}
use Rattle.paragraphs.specs.declared.Cursor.{Cursor}
use Rattle.walk.specs.Digest.{most_words}
use Rattle.walk.specs.Cited.Course.{output_from, long_from, Put, CursorIn, Going}
use Rattle.walk.specs.Cited.Texts.{FinishedText, Coursed}
use Rattle.walk.specs.declared.Stopped.{Stopped}
use Rattle.walk.specs.declared.notes.Notes.{Notes}
use Rattle.walk.specs.declared.texts.Text.{Text}
use Rattle.walk.proofs.Loop.{going_first, going_on, going_further, going_finished}
use Rattle.walk.proofs.Unique.{nowhere_else}
use Rattle.walk.proofs.Steps.{begins_stepped, begins_long}

-- a paragraph was written, or has too many words for the room
module _ (limit room : ℕ) (text : Text) (out out' : List ℕ) (r : Result Cursor TooMany)
    (w : TextStepped (takes text.notes.options.quick (text.p.next - text.c.at) limit room (length (words_for text.notes.block.now text.notes.bytes.now text.c.at text.notes.options text.p)))
    text.notes.bytes.now text.c.at text.notes.options text.p out text.c.written out' r text.notes.block.now) where
  module _ {d : Cursor} (e : r ≡ Ok d) (small : room ≤ limit) where
    stepped : (most : ℕ) → limit ≤ most → Put most (meant text.notes.block.now text.notes.options) text.notes.bytes.now out text.c d out'
    stepped most few = begins_stepped _ _ _ _ _ text.notes.admitted text.ahead most limit room out out' r d few small w e

    pub stepped_over : text.c.at < d.at
    stepped_over = (stepped limit (omega arith)).goes.on

    pub stepped_stands : CursorIn text.notes.bytes.now d
    stepped_stands = (going_on limit _ _ (going_first _ _ _ text.c out text.stands) (stepped limit (omega arith))).stands

    -- the work has gone on, in the notes in which it began
    pub stepped_on : (notes : Notes) → text.notes ≡ notes → (most : ℕ) {c₀ : Cursor} {out₀ : List ℕ} → limit ≤ most → Going most (meant notes.block.now notes.options) notes.bytes.now c₀ out₀ text.c out
        → Going most (meant notes.block.now notes.options) notes.bytes.now c₀ out₀ d out'
    stepped_on notes same most few g = going_on most _ _ g (rw same at (stepped most few))

-- ---- as far as a room reaches

-- the work has gone on from a paragraph to another of the same notes
pub record Gone (text : Text) (out : List ℕ) (left : Text) (out' : List ℕ) : Type 0 where
  pub same : left.notes ≡ text.notes
  pub going : Going most_words (meant text.notes.block.now text.notes.options) text.notes.bytes.now text.c out left.c out'

pub gone_first : (text : Text) (out : List ℕ) → Gone text out text out
gone_first text out = record { same = refl; going = going_first _ _ _ text.c out text.stands }

-- to one of more words than the room is for
pub gone_short : {text : Text} {out : List ℕ} {left : Text} {out' : List ℕ} → Gone text out left out' → (room : ℕ) {short : Text} {out'' : List ℕ} → Coursed most_words room left out' out'' (Err short) → Gone text out short out''
gone_short g room s = record { same = s.0 ∙ g.same; going = going_further _ _ _ g.going (rw g.same at s.1) }

-- where that is for the most, it has too many
pub gone_stopped : {text : Text} {out : List ℕ} {left : Text} {out' : List ℕ} → Gone text out left out' → (room : ℕ) → most_words ≤ room → (short : Text) {out'' : List ℕ} → Coursed most_words room left out' out'' (Err short)
    → (ended : Result ℕ Stopped) → IsErrAnd ended (λ stopped. stopped.at ≡ short.c.at) → FinishedText most_words text out out'' ended
gone_stopped {text} {left = left} g room h short s ended e =
    let p = err_from_is_err_and ended e in
    let l = gone_short g room {short = short} s in
    let many : most_words < length (words_for left.notes.block.now left.notes.bytes.now short.c.at left.notes.options short.p) = omega (arith, s.2, h) in
    rw (p.1, p.2) (begins_long _ _ _ short.c short.p text.notes.admitted (rw l.same at short.ahead) most_words _ _ _ l.going (rw g.same at many))

-- or to the end
pub gone_ended : {text : Text} {out : List ℕ} {left : Text} {out' : List ℕ} → Gone text out left out' → (n : ℕ) (out'' : List ℕ) → FinishedText most_words left out' out'' (Ok n) → FinishedText most_words text out out'' (Ok n)
gone_ended g n out'' s = going_finished _ _ _ g.going _ (Ok n) (rw g.same at s)

-- and to the end where no paragraph has more words than it is for
pub lent_ended : (room : ℕ) (text : Text) (out out' : List ℕ) (r : Result ℕ Text) → long_from room (meant text.notes.block.now text.notes.options) text.c.mail text.notes.bytes.now text.c.at ≡ None → Coursed room room text out out' r
    → (n : ℕ) × (r ≡ Ok n) × Wrote out text.c.written (output_from (meant text.notes.block.now text.notes.options) text.c.mail text.notes.bytes.now text.c.at) out' n
lent_ended room text out out' (Ok n) none s = (n, refl, s.1)
lent_ended room text out out' (Err short) none s = nowhere_else none (begins_long _ _ _ short.c short.p text.notes.admitted (rw s.0 at short.ahead) room _ _ _ s.1 s.2).0

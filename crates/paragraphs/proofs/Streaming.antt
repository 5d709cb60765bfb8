-- A paragraph written by quick without a table of its words: the promise is the paragraph's own.
use mathlib.Core.Path.{◌≡◌, refl, sym, ap, ◌∙◌}
use mathlib.Core.Bool.{Bool, true, false, ◌&&◌, ◌||◌, true≢false}
use mathlib.Core.List.{List, []}
use Prim.Native.Nat.{ℕ, ◌+◌, ◌-◌, ◌*◌, ◌/◌, ◌≤◌, ◌<◌}
use native.Mathlib.Omega.{arith}
use lib.Dec.{leb}
use lib.ListN.{length}
use lib.Seq.{slice, length-slice}
use borrow.Author.Tests.{leb-true, leb-false}
use Rattle.options.specs.Opts.{meant}
use Rattle.options.specs.declared.Options.{Options}
use Rattle.lines.specs.Lines.{lines_of}
use Rattle.pieces.specs.declared.Paragraph.{Paragraph}
use Rattle.records.specs.Word.{Word}
use Rattle.spacing.specs.declared.Setting.{Setting}
use Rattle.spacing.specs.Cited.Bounds.{Fair}
use Rattle.words.proofs.Rows.{words_same}
use Rattle.words.proofs.Halves.{lines_half}
use Rattle.output.specs.Emission.{emit}
use Rattle.output.specs.Cited.Sink.{Wrote}
use Rattle.output.specs.Cited.Writers.{margin_of}
use Rattle.output.proofs.Bound.{emit_most}
use Rattle.quick.specs.Quick.{quick_breaks}
use Rattle.paragraphs.specs.Breaks.{setting_of, breaks_by}
use Rattle.paragraphs.specs.Cited.Steps.{Placed, setting_for, words_for, TextPut, takes}
use Rattle.regular.specs.Cited.Places.{PutIs}

-- over plain marks
by_quick : (quick mail uniform : Bool) → quick ≡ true → (first indent : List ℕ) (g h : Setting) (ws : List Word) (out : List ℕ) (written : ℕ) (out' : List ℕ) (r : ℕ) → h ≡ g → g.uniform ≡ uniform
    → Wrote out written (emit h.uniform first indent (quick_breaks h ws) ws) out' r → Wrote out written (emit uniform first indent (breaks_by (quick || mail) g ws) ws) out' r
by_quick quick mail uniform q first indent g h ws out written out' r e u v = rw (q, ← u) (rw e at v)

-- what is taken has no more than so many words, and what is not has more than there is room for
pub takes_few : (quick : Bool) (bytes most room words : ℕ) → 2 * words ≤ bytes + 1 → room ≤ most → takes quick bytes most room words ≡ true → words ≤ most
takes_few false bytes most room words h k e = omega (arith, leb-true words room e, k)
takes_few true bytes most room words h k e = pick (leb ((bytes + 1) / 2) most) refl e
  where
    pick : (t : Bool) → leb ((bytes + 1) / 2) most ≡ t → (t || leb words room) ≡ true → words ≤ most
    pick true q e = omega (arith, leb-true ((bytes + 1) / 2) most q, h)
    pick false q e = omega (arith, leb-true words room e, k)

pub takes_many : (quick : Bool) (bytes most room words : ℕ) → takes quick bytes most room words ≡ false → room < words
takes_many quick bytes most room words e = pick (quick && leb ((bytes + 1) / 2) most) e
  where
    pick : (t : Bool) → (t || leb words room) ≡ false → room < words
    pick true e = absurd (true≢false e)
    pick false e = leb-false words room e

pub is_quick : (quick b : Bool) → true ≡ (quick && b) → quick ≡ true
is_quick true b e = refl
is_quick false b e = absurd (true≢false e)

-- by the bytes, or by the table
pub by_bytes : (a b : Bool) → true ≡ a → (a || b) ≡ true
by_bytes a b e = rw (← e)

module _ (notes : List ℕ) (at : ℕ) (o : Options) (p : Paragraph) (placed : Placed notes at o p) where
  -- every second byte at most begins a word
  pub half : (block : List ℕ) → 2 * length (words_for block notes at o p) ≤ p.next - at + 1
  half block =
      let h = lines_half (meant block o) p.mail p.start p.later (slice at p.next notes) in
      let n = length-slice at p.next notes placed.within in
      omega (arith, h, n)

  -- it has a word, whatever the block
  some_word : (block : List ℕ) → 0 < length (words_for block notes at o p)
  some_word block =
      let ls = lines_of (slice at p.next notes) in
      let n = placed.some in
      let e = ap length (sym (words_same o placed.block p.mail p.start p.later ls) ∙ words_same o block p.mail p.start p.later ls) in
      omega (arith, n, e)

  pub fair : (g : Setting) → g ≡ setting_for [] o p → Fair g
  unfolding setting_of meant
  fair g e = rw e (record { some = placed.tab_least; tab = placed.tab_most; width = omega (arith, placed.width); first = omega (arith, placed.first_small); indent = omega (arith, placed.indent_small) })

  pub spaced : (g : Setting) → g ≡ setting_for [] o p → g.uniform ≡ (o.uniform || p.mail)
  unfolding setting_of meant
  spaced g e = rw e

  -- what it is broken with depends on no block
  pub streamed : o.quick ≡ true → (g : Setting) → ((block : List ℕ) → g ≡ setting_for block o p) → (out : List ℕ) (written : ℕ) (out' : List ℕ) (end : ℕ)
      → PutIs notes at p.next p.mail p.start p.later o g (margin_of notes p.first) (margin_of notes p.indent) out written out' end
      → (block : List ℕ) → TextPut notes at o p out written out' (record { at = p.next; written = end; mail = p.mail }) block
  unfolding setting_of meant
  streamed fast g e out written out' end put block =
      let wrote : Wrote out written (emit (o.uniform || p.mail) (margin_of notes p.first) (margin_of notes p.indent) (breaks_by (o.quick || p.mail) (setting_for block o p) (words_for block notes at o p)) (words_for block notes at o p)) out' end =
      by_quick o.quick p.mail (o.uniform || p.mail) fast (margin_of notes p.first) (margin_of notes p.indent) (setting_for block o p) g (words_for block notes at o p) out written out' end (e block) refl (put block (some_word block)) in
      record {
        next = refl;
        mail = refl;
        wrote = wrote;
        bounded = omega (arith, wrote.count, emit_most (o.uniform || p.mail) (margin_of notes p.indent) (margin_of notes p.first) (breaks_by (o.quick || p.mail) (setting_for block o p) (words_for block notes at o p)) (words_for block notes at o p));
      }

-- The indents of a paragraph of the notes have no line feed.
use mathlib.Core.Path.{◌≡◌, refl, sym, ap, ◌∙◌}
use mathlib.Core.Bool.{Bool, true, false, cond, ◌||◌}
use mathlib.Core.List.{List, ◌∷◌}
use Prim.Native.Nat.{ℕ}
use lib.ListN.{replicate}
use Rattle.lists.specs.Runs.{every}
use Rattle.lists.specs.Theorems.All.{All}
use Rattle.lists.proofs.Parts.{every_nil}
use Rattle.options.specs.Opts.{Opts}
use Rattle.lines.specs.Lines.{Line, no_feed}
use Rattle.lines.specs.declared.Shape.{Shape}
use Rattle.pieces.specs.Pieces.{Second, alone, joins, second_of, Indent, indent_of, widened, no_indent, later_indent, indent_for}
use Rattle.pieces.proofs.Columns.{spaces_feedless, feedless_append, feedless_take}
use Rattle.pieces.proofs.Extents.{Feedless as LineFeedless}
use Rattle.pieces.proofs.Indents.{second_is}

abbrev pub Feedless : List ℕ → Type 0
Feedless t = every no_feed t ≡ true

widened_feedless : (i : Indent) (n : ℕ) → Feedless i.bytes → Feedless (widened i n).bytes
widened_feedless i n h = feedless_append i.bytes (replicate n 32) h (spaces_feedless n)

indent_feedless : (text : List ℕ) (s : Shape) → Feedless text → Feedless (indent_of text s).bytes
unfolding indent_of
indent_feedless text s h = feedless_take s.indent_end text h

module _ (o : Opts) where
  later_feedless : (s : Shape) (i : Indent) (ls : List Line) (k : Second) → second_of o s ls ≡ k → Feedless i.bytes → All LineFeedless ls → Feedless (later_indent o i k).bytes
  later_feedless s i ls alone e h a = widened_feedless i (cond o.tagged 4 0) h
  later_feedless s i ls (joins text b) e h a =
      let k = second_is o s ls text b e in
      let f : All LineFeedless (k.head ∷ k.tail) = rw k.are at a in
      indent_feedless text b (ap (every no_feed) (sym k.is) ∙ f.0)

  pub indent_for_feedless : (mail : Bool) (text : List ℕ) (s : Shape) (ls : List Line) → Feedless text → All LineFeedless ls → Feedless (indent_for o mail text s ls).bytes
  unfolding indent_for
  indent_for_feedless true text s ls h a = widened_feedless no_indent 2 (every_nil no_feed)
  indent_for_feedless false text s ls h a = go (o.crown || o.tagged)
    where
      go : (k : Bool) → Feedless (elim k as (λ x. Indent) [ true ↦ later_indent o (indent_of text s) (second_of o s ls) | false ↦ indent_of text s ]).bytes
      go true = later_feedless s (indent_of text s) ls (second_of o s ls) refl (indent_feedless text s h) a
      go false = indent_feedless text s h

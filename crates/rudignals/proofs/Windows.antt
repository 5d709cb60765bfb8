-- A front part of the notes shows where pieces begin: all of its pieces but the last are pieces of the notes, whatever is after it.
use mathlib.Core.Path.{◌≡◌, refl, sym, ap, ◌∙◌}
use mathlib.Core.Bool.{Bool, true, false, cond, ◌||◌}
use mathlib.Core.List.{List, [], ◌∷◌, ◌++◌}
use Prim.Native.Nat.{ℕ, zero, suc, ◌<◌}
use native.Mathlib.Omega.{arith}
use lib.Dec.{leb}
use lib.ListN.{length, take, drop, drop_of_length-le}
use lib.Seq.{take-append-le, drop-append-le}
use borrow.Author.Tests.{leb-true, leb-false}
use Rattle.lists.specs.Walk.{Stride, walk}
use Rattle.lists.proofs.Walk.{walk_nil, walk_step}
use Rattle.options.specs.Opts.{Opts}
use Rattle.lines.specs.Lines.{Line, lines_of}
use Rattle.lines.specs.Classes.{classify}
use Rattle.lines.specs.declared.Shape.{Shape}
use Rattle.lines.specs.declared.Class.{Class}
use Rattle.lines.specs.declared.Class.TheVariants.{Blank, Plain, Formatted}
use Rattle.lines.specs.Theorems.Closed.{Closed}
use Rattle.lines.proofs.Boundary.{lines_append}
use Rattle.pieces.specs.Pieces.{Indent, Piece, continues, agrees, follow, Second, alone, joins, second_of, follow_second, further, starts_mail, indent_of, later_indent, indent_for, paragraph_at, piece_as, next_piece, pieces}
use Rattle.pieces.proofs.Reach.{class_cases, follow_stop, follow_more, further_is}

-- ---- a paragraph that ends before the lines do is the same with more lines after them

module _ (o : Opts) where
  follow_grows : (test : Shape → Bool) (a b : List Line) → follow o test a < length a → follow o test (a ++ b) ≡ follow o test a
  unfolding follow
  follow_grows test [] b h = absurd (omega arith)
  follow_grows test (l ∷ a) b h =
      class_cases o _ l (λ st. follow_stop o test l (a ++ b) st ∙ sym (follow_stop o test l a st))
      (λ s e. follow_more o test l (a ++ b) s e ∙ go (test s) (rw (follow_more o test l a s e) at h) (follow_grows test a b) ∙ sym (follow_more o test l a s e))
    where
      go : (t : Bool) → cond t (suc (follow o test a)) 0 < suc (length a) → (follow o test a < length a → follow o test (a ++ b) ≡ follow o test a)
          → cond t (suc (follow o test (a ++ b))) 0 ≡ cond t (suc (follow o test a)) 0
      go true k ih = ap suc (ih (omega arith))
      go false k ih = refl

  second_grows : (s : Shape) (a b : List Line) → 0 < length a → second_of o s (a ++ b) ≡ second_of o s a
  unfolding second_of
  second_grows s [] b h = absurd (omega arith)
  second_grows s (l ∷ a) b h = refl

  both_grow : (s : Shape) (a b : List Line) → follow_second o a (second_of o s a) < length a → follow_second o (a ++ b) (second_of o s (a ++ b)) ≡ follow_second o a (second_of o s a)
  unfolding second_of
  both_grow s [] b h = absurd (omega arith)
  both_grow s (l ∷ a) b h = go (second_of o s (l ∷ a)) h
    where
      go : (t : Second) → follow_second o (l ∷ a) t < suc (length a) → follow_second o (l ∷ a ++ b) t ≡ follow_second o (l ∷ a) t
      go alone k = refl
      go (joins text c) k = ap suc (follow_grows (agrees c) a b (omega arith))

  further_grows : (mail : Bool) (s : Shape) (a b : List Line) → further o mail s a < length a → further o mail s (a ++ b) ≡ further o mail s a
  further_grows mail s a b h = further_is o mail s (a ++ b) ∙ go o.split mail (o.crown || o.tagged) (rw further_is at h) ∙ sym (further_is o mail s a)
    where
      reach : List Line → Bool → Bool → Bool → ℕ
      reach ls split mail two = cond split 0 (cond mail (follow o (continues o) ls) (cond two (follow_second o ls (second_of o s ls)) (follow o (agrees s) ls)))

      go : (split mail two : Bool) → reach a split mail two < length a → reach (a ++ b) split mail two ≡ reach a split mail two
      go true mail two k = refl
      go false true two k = follow_grows (continues o) a b k
      go false false true k = both_grow s a b k
      go false false false k = follow_grows (agrees s) a b k

  indent_grows : (mail : Bool) (text : List ℕ) (s : Shape) (a b : List Line) → 0 < length a → indent_for o mail text s (a ++ b) ≡ indent_for o mail text s a
  unfolding indent_for
  indent_grows true text s a b h = refl
  indent_grows false text s a b h = go (o.crown || o.tagged)
    where
      later : List Line → Bool → Indent
      later ls two = elim two as (λ t. Indent) [ true ↦ later_indent o (indent_of text s) (second_of o s ls) | false ↦ indent_of text s ]

      go : (two : Bool) → later (a ++ b) two ≡ later a two
      go true = ap (later_indent o (indent_of text s)) (second_grows s a b h)
      go false = refl

  next_grows : (nextMail : Bool) (a b : List Line) → suc (next_piece o nextMail a).besides < length a → next_piece o nextMail (a ++ b) ≡ next_piece o nextMail a
  unfolding next_piece paragraph_at
  next_grows nextMail [] b h = absurd (omega arith)
  next_grows nextMail (l ∷ a) b h = go (classify o l.text) h
    where
      go : (c : Class) → suc (piece_as o nextMail l a c).besides < suc (length a) → piece_as o nextMail l (a ++ b) c ≡ piece_as o nextMail l a c
      go Blank k = refl
      go Plain k = refl
      go (Formatted s) k =
          let mail = starts_mail o.mail nextMail s l.text in
          rw (further_grows mail s a b (omega arith), indent_grows mail l.text s a b (omega arith), take-append-le (further o mail s a) a b (omega arith))

  -- ---- the pieces of lines, all but the last

  some_left : (nextMail : Bool) (n : ℕ) (a : List Line) → 0 < length (walk (next_piece o) nextMail (drop n a)) → n < length a
  some_left nextMail n a h = go (leb (length a) n) refl
    where
      go : (t : Bool) → leb (length a) n ≡ t → n < length a
      go true t = absurd (let z = ap length (ap (walk (next_piece o) nextMail) (drop_of_length-le a {i = n} (leb-true (length a) n t)) ∙ walk_nil (next_piece o) nextMail) in omega arith)
      go false t = leb-false (length a) n t

  lines_front : (k : ℕ) (nextMail : Bool) (a b : List Line) → k < length (walk (next_piece o) nextMail a) → take k (walk (next_piece o) nextMail (a ++ b)) ≡ take k (walk (next_piece o) nextMail a)
  lines_front zero nextMail a b h = refl
  lines_front (suc k) nextMail [] b h = absurd (omega (arith, ap length (walk_nil (next_piece o) nextMail)))
  lines_front (suc k) nextMail (l ∷ a) b h =
      let t = next_piece o nextMail (l ∷ a) in
      let w = walk_step (next_piece o) nextMail (l ∷ a) (omega arith) in
      let n = some_left t.state t.besides a (omega (arith, ap length w)) in
      let g = next_grows nextMail (l ∷ a) b (omega arith) in
      let v : walk (next_piece o) nextMail (l ∷ a ++ b) ≡ t.item ∷ walk (next_piece o) t.state (drop t.besides a ++ b) =
      walk_step (next_piece o) nextMail (l ∷ a ++ b) (omega arith)
      ∙ ap (λ (u : Stride Piece Bool). u.item ∷ walk (next_piece o) u.state (drop (suc u.besides) (l ∷ a ++ b))) g
      ∙ ap (λ (ls : List Line). t.item ∷ walk (next_piece o) t.state ls) (drop-append-le t.besides a b (omega arith)) in
      rw (v, w) (ap (λ (ps : List Piece). t.item ∷ ps) (lines_front k t.state (drop t.besides a) b (omega (arith, ap length w))))

  -- of a text that ends in a line feed
  pub pieces_front : (k : ℕ) (a b : List ℕ) → Closed a → k < length (pieces o a) → take k (pieces o (a ++ b)) ≡ take k (pieces o a)
  unfolding pieces
  pieces_front k a b closed h = ap (λ (ls : List Line). take k (walk (next_piece o) true ls)) (lines_append a b closed) ∙ lines_front k true (lines_of a) (lines_of b) h

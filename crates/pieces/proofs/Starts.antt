-- Notes may be cut where a piece begins: the pieces before the cut are those of their own lines, and so are the pieces after it, from next-mail
-- as it is there. Without mail next-mail does not matter.
use mathlib.Core.Path.{◌≡◌, refl, sym, ap, ◌∙◌}
use mathlib.Core.Bool.{Bool, true, false, cond, ◌||◌, true≢false}
use mathlib.Core.List.{List, [], ◌∷◌, ◌++◌}
use Prim.Native.Nat.{ℕ, suc, ◌≤◌, ◌<◌}
use native.Mathlib.Omega.{arith}
use lib.ListN.{length, drop}
use lib.Seq.{take-append-le}
use Rattle.lists.specs.Walk.{Stride, walk}
use Rattle.lists.specs.Runs.{joined}
use Rattle.lists.proofs.Walk.{last, walk_nil, last_nil, walk_step, last_step}
use Rattle.lists.proofs.Cut.{Cut, walk_cut}
use Rattle.lists.proofs.Parts.{joined_append}
use Rattle.options.specs.Opts.{Opts}
use Rattle.lines.specs.Lines.{Line, lines_of}
use Rattle.lines.specs.Classes.{classify}
use Rattle.lines.specs.declared.Shape.{Shape}
use Rattle.lines.specs.declared.Class.{Class}
use Rattle.lines.specs.declared.Class.TheVariants.{Blank, Plain, Formatted}
use Rattle.lines.proofs.Boundary.{lines_cut}
use Rattle.pieces.specs.Pieces.{Indent, Piece, continues, agrees, follow, Second, alone, joins, second_of, follow_second, further, starts_mail, indent_of, later_indent, indent_for, paragraph_at, piece_as, next_piece, pieces}
use Rattle.pieces.specs.Theorems.NextMail.{next_mail_as, next_mail_behind}
use Rattle.pieces.proofs.Extents.{lines_in, next_lines, pieces_lines}
use Rattle.pieces.proofs.Reach.{class_cases, follow_stop, follow_more, further_is}

-- ---- a paragraph is the same without the lines after those that it takes

module _ (o : Opts) where
  follow_front : (test : Shape → Bool) (a b : List Line) → follow o test (a ++ b) ≤ length a → follow o test a ≡ follow o test (a ++ b)
  unfolding follow
  follow_front test [] b h = omega arith
  follow_front test (l ∷ a) b h =
      class_cases o _ l (λ st. follow_stop o test l a st ∙ sym (follow_stop o test l (a ++ b) st))
      (λ s e. follow_more o test l a s e ∙ go (test s) (rw (follow_more o test l (a ++ b) s e) at h) (follow_front test a b) ∙ sym (follow_more o test l (a ++ b) s e))
    where
      go : (t : Bool) → cond t (suc (follow o test (a ++ b))) 0 ≤ suc (length a) → (follow o test (a ++ b) ≤ length a → follow o test a ≡ follow o test (a ++ b))
          → cond t (suc (follow o test a)) 0 ≡ cond t (suc (follow o test (a ++ b))) 0
      go true k ih = ap suc (ih (omega arith))
      go false k ih = refl

  -- the second line of a crown or tagged paragraph, and how far it then reaches
  record SecondSame (s : Shape) (a b : List Line) : Type 0 where
    second : second_of o s a ≡ second_of o s (a ++ b)
    reach : follow_second o a (second_of o s a) ≡ follow_second o (a ++ b) (second_of o s (a ++ b))

  second_front : (s : Shape) (a b : List Line) → follow_second o (a ++ b) (second_of o s (a ++ b)) ≤ length a → SecondSame s a b
  unfolding second_of
  second_front s [] b h = let n = go (second_of o s b) h in record { second = sym n; reach = sym (ap (follow_second o b) n) }
    where
      go : (t : Second) → follow_second o b t ≤ 0 → t ≡ alone
      go alone k = refl
      go (joins text c) k = absurd (omega arith)
  second_front s (l ∷ a) b h = record { second = refl; reach = go (second_of o s (l ∷ a)) h }
    where
      go : (t : Second) → follow_second o (l ∷ a ++ b) t ≤ suc (length a) → follow_second o (l ∷ a) t ≡ follow_second o (l ∷ a ++ b) t
      go alone k = refl
      go (joins text c) k = ap suc (follow_front (agrees c) a b (omega arith))

  further_front : (mail : Bool) (s : Shape) (a b : List Line) → further o mail s (a ++ b) ≤ length a → further o mail s a ≡ further o mail s (a ++ b)
  further_front mail s a b h = further_is o mail s a ∙ go o.split mail (o.crown || o.tagged) (rw further_is at h) ∙ sym (further_is o mail s (a ++ b))
    where
      reach : List Line → Bool → Bool → Bool → ℕ
      reach ls split mail two = cond split 0 (cond mail (follow o (continues o) ls) (cond two (follow_second o ls (second_of o s ls)) (follow o (agrees s) ls)))

      go : (split mail two : Bool) → reach (a ++ b) split mail two ≤ length a → reach a split mail two ≡ reach (a ++ b) split mail two
      go true mail two k = refl
      go false true two k = follow_front (continues o) a b k
      go false false true k = (second_front s a b k).reach
      go false false false k = follow_front (agrees s) a b k

  -- split clears crown and tagged: then no paragraph looks at a line that it does not take
  module _ (cleared : o.split ≡ true → (o.crown || o.tagged) ≡ false) where
    indent_front : (mail : Bool) (text : List ℕ) (s : Shape) (a b : List Line) → further o mail s (a ++ b) ≤ length a → indent_for o mail text s a ≡ indent_for o mail text s (a ++ b)
    unfolding indent_for
    indent_front true text s a b h = refl
    indent_front false text s a b h = go o.split (o.crown || o.tagged) cleared (rw further_is at h)
      where
        later : List Line → Bool → Indent
        later ls two = elim two as (λ t. Indent) [ true ↦ later_indent o (indent_of text s) (second_of o s ls) | false ↦ indent_of text s ]

        go : (split two : Bool) → (split ≡ true → two ≡ false) → cond split 0 (cond two (follow_second o (a ++ b) (second_of o s (a ++ b))) (follow o (agrees s) (a ++ b))) ≤ length a → later a two ≡ later (a ++ b) two
        go split false c k = refl
        go true true c k = absurd (true≢false (c refl))
        go false true c k = ap (later_indent o (indent_of text s)) (second_front s a b k).second

    paragraph_front : (nextMail : Bool) (s : Shape) (l : Line) (a b : List Line) → (paragraph_at o nextMail s l (a ++ b)).besides ≤ length a → paragraph_at o nextMail s l a ≡ paragraph_at o nextMail s l (a ++ b)
    unfolding paragraph_at
    paragraph_front nextMail s l a b h =
        let mail = starts_mail o.mail nextMail s l.text in
        rw (further_front mail s a b h, indent_front mail l.text s a b h, take-append-le (further o mail s (a ++ b)) a b h)

    next_front : (nextMail : Bool) (a b : List Line) → (next_piece o nextMail (a ++ b)).besides < length a → next_piece o nextMail a ≡ next_piece o nextMail (a ++ b)
    unfolding next_piece
    next_front nextMail [] b h = absurd (omega arith)
    next_front nextMail (l ∷ a) b h = go (classify o l.text) h
      where
        go : (c : Class) → (piece_as o nextMail l (a ++ b) c).besides < suc (length a) → piece_as o nextMail l a c ≡ piece_as o nextMail l (a ++ b) c
        go Blank k = refl
        go Plain k = refl
        go (Formatted s) k = paragraph_front nextMail s l a b (omega arith)

    lines_part : (nextMail : Bool) (ls : List Line) (ps qs : List Piece) → walk (next_piece o) nextMail ls ≡ ps ++ qs → Cut (next_piece o) lines_in (next_lines o) next_front nextMail ps qs
    lines_part nextMail ls ps qs e = walk_cut (next_piece o) lines_in (next_lines o) next_front nextMail ls ps qs e

-- ---- next-mail

-- it is what the piece before tells
next_state : (o : Opts) (nextMail : Bool) (ls : List Line) → 0 < length ls → (next_piece o nextMail ls).state ≡ next_mail_as (next_piece o nextMail ls).item.kind
unfolding next_piece paragraph_at
next_state o nextMail [] h = absurd (omega arith)
next_state o nextMail (l ∷ ls) h = go (classify o l.text)
  where
    go : (c : Class) → (piece_as o nextMail l ls c).state ≡ next_mail_as (piece_as o nextMail l ls c).item.kind
    go Blank = refl
    go Plain = refl
    go (Formatted s) = refl

-- after all pieces of lines
pub next_mail_behind_law : (o : Opts) (nextMail : Bool) (ls : List Line) (ps : List Piece) → walk (next_piece o) nextMail ls ≡ ps → last (next_piece o) nextMail ls ≡ next_mail_behind nextMail ps
unfolding next_mail_behind
next_mail_behind_law o nextMail [] [] e = last_nil (next_piece o) nextMail
next_mail_behind_law o nextMail (l ∷ ls) [] e = absurd (let n = ap length (sym (walk_step (next_piece o) nextMail (l ∷ ls) (omega arith)) ∙ e) in omega arith)
next_mail_behind_law o nextMail [] (p ∷ ps) e = absurd (let n = ap length (sym (walk_nil (next_piece o) nextMail) ∙ e) in omega arith)
next_mail_behind_law o nextMail (l ∷ ls) (p ∷ ps) e =
    let t = next_piece o nextMail (l ∷ ls) in
    let u : t.item ∷ walk (next_piece o) t.state (drop t.besides ls) ≡ p ∷ ps = sym (walk_step (next_piece o) nextMail (l ∷ ls) (omega arith)) ∙ e in
    let i : t.item ≡ p = cc in
    let w : walk (next_piece o) t.state (drop t.besides ls) ≡ ps = cc in
    last_step (next_piece o) nextMail (l ∷ ls) (omega arith)
    ∙ next_mail_behind_law o t.state (drop t.besides ls) ps w
    ∙ ap (λ (m : Bool). next_mail_behind m ps) (next_state o nextMail (l ∷ ls) (omega arith) ∙ ap (λ (q : Piece). next_mail_as q.kind) i)

-- without mail no paragraph starts as mail, so it does not matter
no_mail : (o : Opts) → o.mail ≡ false → (m n : Bool) (ls : List Line) → walk (next_piece o) m ls ≡ walk (next_piece o) n ls
unfolding starts_mail paragraph_at next_piece
no_mail o off m n [] = walk_nil (next_piece o) m ∙ sym (walk_nil (next_piece o) n)
no_mail o off m n (l ∷ ls) =
    walk_step (next_piece o) m (l ∷ ls) (omega arith)
    ∙ ap (λ (t : Stride Piece Bool). t.item ∷ walk (next_piece o) t.state (drop (suc t.besides) (l ∷ ls))) same
    ∙ sym (walk_step (next_piece o) n (l ∷ ls) (omega arith))
  where
    never : (k : Bool) (s : Shape) → starts_mail o.mail k s l.text ≡ false
    never k s = rw off

    as_one : (c : Class) → piece_as o m l ls c ≡ piece_as o n l ls c
    as_one Blank = refl
    as_one Plain = refl
    as_one (Formatted s) = rw (never m s, never n s)

    same : next_piece o m (l ∷ ls) ≡ next_piece o n (l ∷ ls)
    same = as_one (classify o l.text)

-- ---- notes in two parts

abbrev pub bytes_in : List Piece → List ℕ
bytes_in ps = joined (λ (l : Line). l.raw) (joined lines_in ps)

-- With mail, next-mail is true where the second part begins.
pub pieces_part : (o : Opts) → (o.split ≡ true → (o.crown || o.tagged) ≡ false) → (notes : List ℕ) (ps qs : List Piece)
    → pieces o notes ≡ ps ++ qs
    → (o.mail ≡ true → next_mail_behind true ps ≡ true)
    → (pieces o (bytes_in ps) ≡ ps) × (pieces o (bytes_in qs) ≡ qs)
unfolding pieces
pieces_part o cleared notes ps qs e m =
    let c = lines_part o cleared true (lines_of notes) ps qs e in
    let ls = lines_cut notes (joined lines_in ps) (joined lines_in qs) (sym (pieces_lines o notes) ∙ ap (joined lines_in) e ∙ joined_append lines_in ps qs) in
    let b = next_mail_behind_law o true (joined lines_in ps) ps c.front in (
      ap (walk (next_piece o) true) ls.0 ∙ c.front,
      ap (walk (next_piece o) true) ls.1 ∙ go o.mail refl m b ∙ c.back,
    )
  where
    go : (mail : Bool) → o.mail ≡ mail → (mail ≡ true → next_mail_behind true ps ≡ true) → last (next_piece o) true (joined lines_in ps) ≡ next_mail_behind true ps
        → walk (next_piece o) true (joined lines_in qs) ≡ walk (next_piece o) (last (next_piece o) true (joined lines_in ps)) (joined lines_in qs)
    go true on h b = ap (λ (k : Bool). walk (next_piece o) k (joined lines_in qs)) (sym (b ∙ h refl))
    go false off h b = no_mail o off true (last (next_piece o) true (joined lines_in ps)) (joined lines_in qs)

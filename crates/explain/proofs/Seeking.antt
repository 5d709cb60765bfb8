-- The search over the pieces: what is left of the lines from a place on, and the line that is asked for.
use Rattle.std.proofs.Common.{Option, Some, None, Result, Ok, Err}
use mathlib.Core.Path.{◌≡◌, refl, sym, ap, ◌∙◌}
use mathlib.Core.Bool.{Bool, true, false, cond, ◌||◌}
use mathlib.Core.List.{List, [], ◌∷◌, ◌++◌}
use Prim.Native.Nat.{ℕ, ◌+◌, ◌-◌, ◌≤◌, ◌<◌}
use native.Mathlib.Omega.{arith}
use borrow.Author.Tests.{lt-ltb, le-ltb, ltb-true, ltb-false}
use lib.Dec.{ltb}
use lib.ListN.{length, get_or, length-append, get_or-append}
use lib.Seq.{get_or-append-add}
use Rattle.lists.specs.Runs.{joined}
use Rattle.lists.proofs.Parts.{joined_nil, joined_cons}
use Rattle.options.specs.Opts.{Opts, meant}
use Rattle.options.specs.declared.Options.{Options}
use Rattle.pieces.specs.Pieces.{Kind, blank_line, plain_line, paragraph, pieces}
use Rattle.pieces.specs.declared.Paragraph.{Paragraph as ParagraphAt}
use Rattle.records.specs.Word.{Word}
use Rattle.words.specs.Words.{words_of}
use Rattle.words.specs.declared.TooMany.{TooMany}
use Rattle.spacing.specs.declared.Setting.{Setting}
use Rattle.endings.specs.declared.Ending.{Ending}
use Rattle.endings.specs.declared.Ending.TheVariants.{Paragraph, Plain, Blank}
use Rattle.endings.specs.Endings.{endings}
use Rattle.paragraphs.specs.Cited.Steps.{setting_for, words_for}
use Rattle.walk.specs.Digest.{too_many, long_paragraph}
use Rattle.walk.specs.Cited.Course.{pieces_from, FirstPiece}
use Rattle.walk.specs.declared.Stopped.{Stopped}
use Rattle.walk.proofs.Loop.{none_left}
use Rattle.walk.proofs.Meaning.{TextGoes}
use Rattle.walk.proofs.Rows.{text_words}
use Rattle.explain.specs.declared.Asked.{Asked}
use Rattle.explain.specs.declared.Asked.TheVariants.{Told, Behind}
use Rattle.explain.specs.declared.Seek.{Seek}
use Rattle.explain.specs.Reasons.{lines_by, paragraph_endings, endings_of, piece_endings, line_endings}
use Rattle.explain.specs.Cited.Asking.{passed}
use Rattle.explain.specs.Cited.Seeking.{TextPassed, PieceBehind, NoRoom, PiecePassed, endings_from, long_behind, Seeking, SoughtIs}

-- ---- lines that are passed

pub passed_told : (es : List Ending) (e : Ending) → Told e ≡ passed es (Told e)
unfolding passed
passed_told es e = refl

-- one line
pub passed_one : (e : Ending) (left : ℕ) → left ≡ 0 → Told e ≡ passed (e ∷ []) (Behind left)
unfolding passed
passed_one e left z = rw z

pub passed_past : (e : Ending) (left : ℕ) → (left ≡ 0 → ⊥) → Behind (left - 1) ≡ passed (e ∷ []) (Behind left)
unfolding passed
passed_past e left n = sym (rw (le-ltb left (length (e ∷ [])) (omega (arith, n))))

passed_none : (a : Asked) → passed [] a ≡ a
unfolding passed
passed_none (Told e) = refl
passed_none (Behind left) = rw (le-ltb left 0 (omega arith)) (ap Behind (omega arith))

-- lines, and then others
passed_append : (es fs : List Ending) (a : Asked) → passed (es ++ fs) a ≡ passed fs (passed es a)
unfolding passed
passed_append es fs (Told e) = refl
passed_append es fs (Behind left) = go (ltb left (length es)) refl
  where
    go : (t : Bool) → ltb left (length es) ≡ t → passed (es ++ fs) (Behind left) ≡ passed fs (cond t (Told (get_or es left Paragraph)) (Behind (left - length es)))
    go true t =
        let h = ltb-true left (length es) t in
        let l = length-append es fs in
        rw (lt-ltb left (length (es ++ fs)) (omega arith)) (ap Told (get_or-append es fs Paragraph left h))
    go false t =
        let h = ltb-false left (length es) t in
        let k : length es + (left - length es) ≡ left = omega arith in
        let g : get_or (es ++ fs) left Paragraph ≡ get_or fs (left - length es) Paragraph = rw k at (get_or-append-add es fs (left - length es) Paragraph) in
        rest (ltb (left - length es) (length fs)) refl g
      where
        rest : (u : Bool) → ltb (left - length es) (length fs) ≡ u → get_or (es ++ fs) left Paragraph ≡ get_or fs (left - length es) Paragraph
            → passed (es ++ fs) (Behind left) ≡ passed fs (Behind (left - length es))
        rest true u g =
            let h = ltb-false left (length es) t in
            let k = ltb-true (left - length es) (length fs) u in
            let l = length-append es fs in
            rw (lt-ltb left (length (es ++ fs)) (omega arith), u) (ap Told g)
        rest false u g =
            let h = ltb-false left (length es) t in
            let k = ltb-false (left - length es) (length fs) u in
            let l = length-append es fs in
            rw (le-ltb left (length (es ++ fs)) (omega arith), u) (ap Behind (omega arith))

-- the lines of words, in terms of a paragraph's own
pub passed_as : (fast : Bool) (g₀ g : Setting) (ws₀ ws : List Word) (a : Asked) (line : ℕ) (r : Asked) → r ≡ passed (endings (lines_by fast g₀ ws₀)) (Behind line) → a ≡ Behind line → g₀ ≡ g → ws₀ ≡ ws
    → r ≡ passed (endings (lines_by fast g ws)) a
passed_as fast g₀ g ws₀ ws a line r h e f k = rw (e, ← f, ← k) h

-- ---- the lines from a place on

module _ (o : Opts) where
  pub all_endings : (notes : List ℕ) → endings_from o true notes 0 ≡ line_endings o notes
  unfolding endings_from pieces_from line_endings pieces
  all_endings notes = refl

  endings_none : (nextMail : Bool) (notes : List ℕ) (at : ℕ) → length notes ≤ at → endings_from o nextMail notes at ≡ []
  unfolding endings_from
  endings_none nextMail notes at h = rw (none_left o nextMail notes at h) (joined_nil (piece_endings o))

  endings_more : {nextMail : Bool} {notes : List ℕ} {at : ℕ} {kind : Kind} {state : Bool} {next : ℕ} → FirstPiece o nextMail notes at kind state next
      → endings_from o nextMail notes at ≡ endings_of o kind ++ endings_from o state notes next
  unfolding endings_from
  endings_more {nextMail} {notes} {at} {kind} {state} {next} g =
      ap (joined (piece_endings o)) g.pieces ∙ joined_cons (piece_endings o) g.piece (pieces_from o state notes next) ∙ ap (λ (k : Kind). endings_of o k ++ endings_from o state notes next) g.is

-- ---- the first paragraph of over so many words

-- of no more than fewer words is of no more than so many
kind_fewer : (room most : ℕ) (o : Opts) (kind : Kind) → room ≤ most → too_many room o kind ≡ false → too_many most o kind ≡ false
kind_fewer room most o blank_line h e = refl
kind_fewer room most o (plain_line line) h e = refl
kind_fewer room most o (paragraph p) h e = le-ltb most (length (words_of o p)) (let f = ltb-false room (length (words_of o p)) e in omega arith)

module _ (most : ℕ) (o : Opts) (notes : List ℕ) where
  long_none : (s : Seek) → length notes ≤ s.at → long_behind most o notes s ≡ None
  unfolding long_paragraph
  long_none s h = ap (long_paragraph most o s.at) (none_left o s.mail notes s.at h)

  module _ (s : Seek) {kind : Kind} {state : Bool} {next : ℕ} (g : FirstPiece o s.mail notes s.at kind state next) where
    long_as : (b : Bool) → too_many most o kind ≡ b → long_behind most o notes s ≡ elim b as (λ x. Option ℕ) [ true ↦ Some s.at | false ↦ long_paragraph most o next (pieces_from o state notes next) ]
    unfolding long_paragraph
    long_as b e =
        ap (long_paragraph most o s.at) g.pieces
        ∙ ap (λ (n : ℕ). elim (too_many most o g.piece.kind) as (λ x. Option ℕ) [ true ↦ Some s.at | false ↦ long_paragraph most o n (pieces_from o state notes next) ]) g.extent
        ∙ ap (λ (x : Bool). elim x as (λ y. (Option ℕ)) [ true ↦ Some s.at | false ↦ long_paragraph most o next (pieces_from o state notes next) ]) (ap (too_many most o) g.is ∙ e)

-- ---- the search

module _ (most : ℕ) (o : Opts) (notes : List ℕ) where
  module _ {s t : Seek} (g : Seeking most o notes s t) where
    pub seeking_on : {room : ℕ} {u : Seek} → room ≤ most → PieceBehind room o notes t u → Seeking most o notes s u
    seeking_on {room} {u} fewer p = record {
      within = p.goes.within;
      asked =
          ap (passed (endings_from o u.mail notes u.at)) p.asked
          ∙ sym (passed_append (endings_of o p.kind) (endings_from o u.mail notes u.at) t.asked)
          ∙ ap (λ (es : List Ending). passed es t.asked) (sym (endings_more o p.goes))
          ∙ g.asked;
      long = sym (long_as most o notes t p.goes false (kind_fewer room most o p.kind fewer p.few)) ∙ g.long;
    }

    pub seeking_last : length notes ≤ t.at → SoughtIs most o notes s (Ok t.asked)
    seeking_last h = (
      sym g.long ∙ long_none most o notes t h,
      sym (passed_none t.asked) ∙ ap (λ (es : List Ending). passed es t.asked) (sym (endings_none o t.mail notes t.at h)) ∙ g.asked,
    )

    -- where it began does not matter
    pub seeking_sought : (r : Result Asked Stopped) → SoughtIs most o notes t r → SoughtIs most o notes s r
    seeking_sought (Ok a) k = (sym g.long ∙ k.0, k.1 ∙ g.asked)
    seeking_sought (Err stopped) k = sym g.long ∙ k

    -- at last there is room for as many words as a paragraph may have
    pub seeking_stopped : {room : ℕ} (n : NoRoom room o notes t) → most < length (words_of o n.text) → SoughtIs most o notes s (Err (record { at = t.at }))
    seeking_stopped n many = sym g.long ∙ long_as most o notes t n.goes true (lt-ltb most (length (words_of o n.text)) many)

-- ---- a piece

module _ (room : ℕ) (o : Opts) (notes : List ℕ) (s : Seek) (next : ℕ) (a : Asked) where
  pub blank_behind : FirstPiece o s.mail notes s.at blank_line true next → a ≡ passed (Blank ∷ []) s.asked → PieceBehind room o notes s (record { at = next; mail = true; asked = a })
  unfolding endings_of
  blank_behind g e = record { kind = blank_line; goes = g; few = refl; asked = e }

  pub plain_behind : {line : List ℕ} → FirstPiece o s.mail notes s.at (plain_line line) false next → a ≡ passed (Plain ∷ []) s.asked → PieceBehind room o notes s (record { at = next; mail = false; asked = a })
  unfolding endings_of
  plain_behind {line} g e = record { kind = plain_line line; goes = g; few = refl; asked = e }

-- a paragraph in places
module _ (room : ℕ) (block notes : List ℕ) (o : Options) (s : Seek) (p : ParagraphAt) (g : TextGoes (meant block o) s.mail notes s.at p) where
  words_are : words_of (meant block o) g.paragraph_is ≡ words_for block notes s.at o p
  words_are = text_words (meant block o) notes s.at p g.paragraph_is g.text

  endings_are : endings_of (meant block o) (paragraph g.paragraph_is)
      ≡ endings (lines_by (o.quick || p.mail) (setting_for block o p) (words_for block notes s.at o p))
  unfolding endings_of paragraph_endings meant
  endings_are = rw (words_are, g.text.mail, g.text.first.columns, g.text.indent.columns)

  pub text_passed : (r : Result Seek TooMany) → TextPassed room notes s.at o p s.asked r block → PiecePassed room (meant block o) notes s r
  unfolding meant
  text_passed (Ok t) h = record {
    kind = paragraph g.paragraph_is;
    goes = rw (h.next, h.mail) g.goes;
    few = rw words_are (le-ltb room (length (words_for block notes s.at o p)) h.few);
    asked = rw endings_are h.asked;
  }
  text_passed (Err many) h = record {
    text = g.paragraph_is;
    state = p.mail;
    next = p.next;
    goes = g.goes;
    many = rw words_are h;
  }

-- The start of a piece is a full boundary: of what is refused, of measuring, of the index and of the reasons.
use Rattle.std.proofs.Common.{Option, Some, None, Ok}
use mathlib.Core.Path.{◌≡◌, refl, sym, ap, ap₂, ◌∙◌}
use mathlib.Core.Bool.{Bool, true, false, cond, ◌||◌}
use mathlib.Core.List.{List, [], ◌∷◌, ◌++◌, append-nil}
use Prim.Native.Nat.{ℕ, ◌+◌, ◌-◌, ◌≤◌, max}
use native.Mathlib.Omega.{arith}
use lib.Dec.{leb, ltb}
use lib.ListN.{length, take, drop, length-append, length-map, take-append-drop, get_or-append}
use borrow.Author.Tests.{le-ltb, ltb-true, ltb-false, lt-ltb, lt-leb, leb-false}
use Rattle.lists.specs.Runs.{joined}
use Rattle.lists.proofs.Parts.{joined_nil, joined_cons, joined_append}
use Rattle.text.specs.Characters.{damage}
use Rattle.text.proofs.Damage.{later, or_later}
use Rattle.options.specs.Opts.{Opts, meant}
use Rattle.options.specs.OptionBlock.{read_block}
use Rattle.options.specs.declared.Options.{Options}
use Rattle.options.proofs.Accepted.{accepted}
use Rattle.lines.specs.Lines.{Line, lines_of}
use Rattle.lines.specs.Theorems.Closed.{Closed}
use Rattle.pieces.specs.Pieces.{Piece, pieces}
use Rattle.pieces.proofs.Extents.{lines_in, pieces_lines}
use Rattle.endings.specs.declared.Ending.{Ending}
use Rattle.endings.specs.declared.Ending.TheVariants.{Paragraph as OfParagraph}
use Rattle.walk.specs.Digest.{digest, extent_of, too_many, long_paragraph}
use Rattle.walk.proofs.Starts.{bytes_are, parts_are_notes, first_pieces, second_pieces, pieces_of_parts, digest_of_parts}
use Rattle.formatter.specs.Answers.{done, refused, room}
use Rattle.formatter.specs.declared.Refusal.TheVariants.{Text as Damaged, Work}
use Rattle.formatter.specs.Format.{Words, up_to, lent, Limits, Finding, found, stopped, damage_in, with_words, with_work, within, with_text, with_notes, finding, answering, most_told, is_told, measured, measuring}
use Rattle.walk.specs.Work.{most_work, work_for}
use Rattle.walk.proofs.Work.{work_append}
use Rattle.formatter.specs.Work.{lending}
use Rattle.formatter.proofs.Answers.{found_done}
use Rattle.checker.specs.Named.{feeds}
use Rattle.index.specs.declared.Record.{Record}
use Rattle.indexer.specs.Index.{index_of}
use Rattle.indexer.specs.Answers.{done as indexed}
use Rattle.indexer.specs.Indexing.{indexing}
use Rattle.indexer.specs.Theorems.Follows.{shifted}
use Rattle.indexer.proofs.Follows.{index_append}
use Rattle.explain.proofs.Ends.{reason_behind}
use Rattle.explain.specs.Reasons.{piece_endings, line_endings}
use Rattle.explain.specs.Explain.{look_up, explaining}
use Rattle.rudignals.specs.Theorems.Parts.{up_to_piece, from_piece, MayCut, ByParts, moved, both_found, both, behind_first, both_reasons}
use Rattle.rudignals.proofs.LineEnds.{line_at}
use Rattle.rudignals.proofs.Undamaged.{empty_sound, damage_closed}
use Rattle.rudignals.proofs.Explained.{as_many_line_feeds_as_reasons}
use Rattle.rudignals.proofs.Indexed.{indexed_done, done_indexed}

-- ---- the first paragraph of too many words, of pieces and of those after them

module _ (most : ℕ) (o : Opts) where
  long_moved : (n place : ℕ) (qs : List Piece) → long_paragraph most o (n + place) qs ≡ later n (long_paragraph most o place qs)
  unfolding long_paragraph
  long_moved n place [] = refl
  long_moved n place (q ∷ qs) = go (too_many most o q.kind) (long_moved n (place + length (extent_of q)) qs)
    where
      go : (t : Bool) → long_paragraph most o (n + (place + length (extent_of q))) qs ≡ later n (long_paragraph most o (place + length (extent_of q)) qs)
          → elim t as (λ b. Option ℕ) [ true ↦ Some (n + place) | false ↦ long_paragraph most o (n + place + length (extent_of q)) qs ]
          ≡ later n (elim t as (λ b. Option ℕ) [ true ↦ Some place | false ↦ long_paragraph most o (place + length (extent_of q)) qs ])
      go true ih = refl
      go false ih = let e : n + place + length (extent_of q) ≡ n + (place + length (extent_of q)) = omega arith in rw e ih

  long_both : (place : ℕ) (ps qs : List Piece) → long_paragraph most o place (ps ++ qs) ≡ or_later (place + length (joined extent_of ps)) (long_paragraph most o place ps) (long_paragraph most o 0 qs)
  unfolding long_paragraph
  long_both place [] qs =
      let n = ap length (joined_nil extent_of) in
      let p : place ≡ place + 0 = omega arith in
      let z : place ≡ place + length (joined extent_of []) = omega arith in
      ap (λ (k : ℕ). long_paragraph most o k qs) p ∙ long_moved place 0 qs ∙ ap (λ (k : ℕ). later k (long_paragraph most o 0 qs)) z
  long_both place (p ∷ ps) qs = go (too_many most o p.kind) (long_both (place + length (extent_of p)) ps qs)
    where
      size : place + length (extent_of p) + length (joined extent_of ps) ≡ place + length (joined extent_of (p ∷ ps))
      size = omega (arith, ap length (joined_cons extent_of p ps) ∙ length-append (extent_of p) (joined extent_of ps))

      go : (t : Bool) → long_paragraph most o (place + length (extent_of p)) (ps ++ qs) ≡ or_later (place + length (extent_of p) + length (joined extent_of ps)) (long_paragraph most o (place + length (extent_of p)) ps) (long_paragraph most o 0 qs)
          → elim t as (λ b. Option ℕ) [ true ↦ Some place | false ↦ long_paragraph most o (place + length (extent_of p)) (ps ++ qs) ]
          ≡ or_later (place + length (joined extent_of (p ∷ ps))) (elim t as (λ b. Option ℕ) [ true ↦ Some place | false ↦ long_paragraph most o (place + length (extent_of p)) ps ]) (long_paragraph most o 0 qs)
      go true ih = refl
      go false ih = rw size at ih

-- ---- working room

-- the room that paragraphs take: each takes it for itself
pub lending_is_by_parts : (lends : ℕ) → ByParts (lending lends).words
unfolding work_for
lending_is_by_parts lends o first second notes e = ap (most_work o) e ∙ work_append o (pieces o first) (pieces o second)

-- ---- what is found in both parts, from what is found in each

-- damage in the second part, and none in the first
text_wins : (w : Words) (o : Opts) (part : List ℕ) (size place : ℕ) → stopped (Damaged (size + place)) ≡ both_found size (within w o part) (stopped (Damaged place))
text_wins (up_to most) o part size place = go (long_paragraph most o 0 (pieces o part))
  where
    go : (f : Option ℕ) → stopped (Damaged (size + place)) ≡ both_found size (with_words o part f) (stopped (Damaged place))
    go (Some early) = refl
    go None = refl
text_wins (lent lends need) o part size place = go (ltb lends (need o part))
  where
    go : (b : Bool) → stopped (Damaged (size + place)) ≡ both_found size (elim b as (λ t. Finding) [ true ↦ stopped (Work (need o part)) | false ↦ found (digest o part) ]) (stopped (Damaged place))
    go true = refl
    go false = refl

module _ (o : Opts) (notes first second : List ℕ)
    (digests : digest o notes ≡ digest o first ++ digest o second)
    (all_pieces : pieces o notes ≡ pieces o first ++ pieces o second)
    (size : length (joined extent_of (pieces o first)) ≡ length first) where
  words_both : (f g : Option ℕ) → with_words o notes (or_later (length first) f g) ≡ both_found (length first) (with_words o first f) (with_words o second g)
  words_both (Some place) (Some later) = refl
  words_both (Some place) None = refl
  words_both None (Some place) = refl
  words_both None None = ap found digests

  longs : (most : ℕ) → long_paragraph most o 0 (pieces o notes) ≡ or_later (length first) (long_paragraph most o 0 (pieces o first)) (long_paragraph most o 0 (pieces o second))
  longs most =
      ap (long_paragraph most o 0) all_pieces ∙ long_both most o 0 (pieces o first) (pieces o second)
      ∙ ap (λ (n : ℕ). or_later n (long_paragraph most o 0 (pieces o first)) (long_paragraph most o 0 (pieces o second))) (omega (arith, size))

  work_both : (lends n m : ℕ) → with_work o notes lends (max n m) ≡ both_found (length first) (with_work o first lends n) (with_work o second lends m)
  work_both lends n m = go (ltb lends n) (ltb lends m) refl refl
    where
      asked : List ℕ → ℕ → Bool → Finding
      asked part needed b = elim b as (λ t. Finding) [ true ↦ stopped (Work needed) | false ↦ found (digest o part) ]

      go : (s t : Bool) → ltb lends n ≡ s → ltb lends m ≡ t → with_work o notes lends (max n m) ≡ both_found (length first) (asked first n s) (asked second m t)
      go true true a b = let h = ltb-true lends n a in rw (with_work, lt-ltb lends (max n m) (omega (arith, h)))
      go true false a b =
          let h = ltb-true lends n a in
          let k = ltb-false lends m b in
          let z : max n m ≡ n = omega (arith, h, k) in
          rw (with_work, lt-ltb lends (max n m) (omega (arith, z, h))) (ap (λ (k : ℕ). stopped (Work k)) z)
      go false true a b =
          let h = ltb-false lends n a in
          let k = ltb-true lends m b in
          let z : max n m ≡ m = omega (arith, h, k) in
          rw (with_work, lt-ltb lends (max n m) (omega (arith, z, k))) (ap (λ (k : ℕ). stopped (Work k)) z)
      go false false a b =
          let h = ltb-false lends n a in
          let k = ltb-false lends m b in
          rw (with_work, le-ltb lends (max n m) (omega (arith, h, k)), digests)

  within_both : (w : Words) → ByParts w → within w o notes ≡ both_found (length first) (within w o first) (within w o second)
  within_both (up_to most) j = ap (with_words o notes) (longs most) ∙ words_both (long_paragraph most o 0 (pieces o first)) (long_paragraph most o 0 (pieces o second))
  within_both (lent lends need) j = ap (with_work o notes lends) (j o first second notes all_pieces) ∙ work_both lends (need o first) (need o second)

  text_both : (w : Words) → ByParts w → (f g : Option ℕ) → with_text w o notes (or_later (length first) f g) ≡ both_found (length first) (with_text w o first f) (with_text w o second g)
  text_both w j (Some place) (Some later) = refl
  text_both w j (Some place) None = text_first (within w o second)
    where
      text_first : (f : Finding) → stopped (Damaged place) ≡ both_found (length first) (stopped (Damaged place)) f
      text_first (found d) = refl
      text_first (stopped r) = refl
  text_both w j None (Some place) = text_wins w o first (length first) place
  text_both w j None None = within_both w j

-- ---- what measuring tells of it

-- the digest of both can be told only if each can
told_both : (w : Words) (size : ℕ) (x y : List ℕ) → measured w (x ++ y) ≡ both (measured w) size (measured w x) (measured w y)
told_both (up_to most) size x y = refl
told_both (lent lends need) size x y = go (leb (length x) most_told) (leb (length y) most_told) refl refl
  where
    n : length (x ++ y) ≡ length x + length y
    n = length-append x y

    go : (s t : Bool) → leb (length x) most_told ≡ s → leb (length y) most_told ≡ t
        → measured (lent lends need) (x ++ y) ≡ both (measured (lent lends need)) size (cond s (done x) (room most_told)) (cond t (done y) (room most_told))
    go true true a b = refl
    go true false a b = let h = leb-false (length y) most_told b in rw (lt-leb (length (x ++ y)) most_told (omega (arith, n, h)))
    go false true a b = let h = leb-false (length x) most_told a in rw (lt-leb (length (x ++ y)) most_told (omega (arith, n, h)))
    go false false a b = let h = leb-false (length x) most_told a in rw (lt-leb (length (x ++ y)) most_told (omega (arith, n, h)))

-- what is refused of one part is refused whatever is told of the other
told_of_both : (w : Words) (size : ℕ) (a b : Finding) → answering (measured w) (both_found size a b) ≡ both (measured w) size (answering (measured w) a) (answering (measured w) b)
told_of_both w size (found x) (found y) = told_both w size x y
told_of_both w size (found x) (stopped r) = go (is_told w (length x))
  where
    go : (t : Bool) → refused (moved size r) ≡ both (measured w) size (cond t (done x) (room most_told)) (refused r)
    go true = refl
    go false = refl
told_of_both w size (stopped q) (found y) = go (is_told w (length y))
  where
    go : (t : Bool) → refused q ≡ both (measured w) size (refused q) (cond t (done y) (room most_told))
    go true = refl
    go false = refl
told_of_both w size (stopped q) (stopped r) = refl

-- ---- reasons of one list of lines after the other

look_both : (line : ℕ) (es fs : List Ending) → look_up line (es ++ fs) ≡ both_reasons (look_up line es) (look_up (line - length es) fs)
look_both line es fs = go (ltb line (length es)) (ltb (line - length es) (length fs)) refl refl
  where
    n : length (es ++ fs) ≡ length es + length fs
    n = length-append es fs

    go : (s t : Bool) → ltb line (length es) ≡ s → ltb (line - length es) (length fs) ≡ t → look_up line (es ++ fs) ≡ both_reasons (look_up line es) (look_up (line - length es) fs)
    go true t a b =
        let h = ltb-true line (length es) a in
        rw (a, lt-ltb line (length (es ++ fs)) (omega (arith, n)), get_or-append es fs OfParagraph line h)
    go false true a b =
        let h = ltb-false line (length es) a in
        let k = ltb-true (line - length es) (length fs) b in
        rw (a, b, lt-ltb line (length (es ++ fs)) (omega (arith, n)), reason_behind es fs line h)
    go false false a b =
        let h = ltb-false line (length es) a in
        let k = ltb-false (line - length es) (length fs) b in
        rw (a, b, le-ltb line (length (es ++ fs)) (omega (arith, n)), n)

-- ---- notes cut where a piece begins, under the options that an accepted block means

module _ (block notes : List ℕ) (o : Options) (k : ℕ) (accepts : read_block block ≡ Ok o) (may : MayCut (meant block o) k notes) where
  abbrev m : Opts
  m = meant block o

  abbrev before : List Piece
  before = take k (pieces m notes)

  abbrev after : List Piece
  after = drop k (pieces m notes)

  abbrev first : List ℕ
  first = up_to_piece m k notes

  abbrev second : List ℕ
  second = from_piece m k notes

  are : pieces m notes ≡ before ++ after
  are = sym (take-append-drop k (pieces m notes))

  cleared : m.split ≡ true → (m.crown || m.tagged) ≡ false
  unfolding meant
  cleared = (accepted block o accepts).split_clears

  pub parts_are : notes ≡ first ++ second
  parts_are = parts_are_notes m cleared notes before after are may

  pub parts_pieces : (pieces m first ≡ before) × (pieces m second ≡ after)
  parts_pieces = (first_pieces m cleared notes before after are may, second_pieces m cleared notes before after are may)

  both_pieces : pieces m notes ≡ pieces m first ++ pieces m second
  both_pieces = pieces_of_parts m cleared notes before after are may

  pub digest_parts : digest m notes ≡ digest m first ++ digest m second
  digest_parts = digest_of_parts m cleared notes before after are may

  -- the first part is empty or ends in a line feed, or there is no second
  data Ends : Type 0 where
    fed : Closed first → Ends
    all : second ≡ [] → Ends

  ends : Ends
  ends = go (joined lines_in after) refl
    where
      lines : lines_of notes ≡ joined lines_in before ++ joined lines_in after
      lines = sym (pieces_lines m notes) ∙ ap (joined lines_in) are ∙ joined_append lines_in before after

      go : (ls : List Line) → joined lines_in after ≡ ls → Ends
      go [] e = all (sym (bytes_are after) ∙ ap (joined (λ (l : Line). l.raw)) e ∙ joined_nil (λ (l : Line). l.raw))
      go (l ∷ ls) e = fed (rw (bytes_are before) at (line_at (joined lines_in before) l ls notes (lines ∙ ap (λ (x : List Line). joined lines_in before ++ x) e)).above)

  damage_of_parts : damage notes ≡ or_later (length first) (damage first) (damage second)
  damage_of_parts = go ends
    where
      alone : (f : Option ℕ) → f ≡ or_later (length first) f None
      alone (Some place) = refl
      alone None = refl

      go : Ends → damage notes ≡ or_later (length first) (damage first) (damage second)
      go (fed c) = ap damage parts_are ∙ damage_closed first second c
      go (all e) =
          let w : notes ≡ first = parts_are ∙ ap (λ (l : List ℕ). first ++ l) e ∙ append-nil first in
          ap damage w ∙ alone (damage first) ∙ ap (or_later (length first) (damage first)) (sym empty_sound ∙ ap damage (sym e))

  damage_in_parts : damage_in m.keep notes ≡ or_later (length first) (damage_in m.keep first) (damage_in m.keep second)
  damage_in_parts = go m.keep
    where
      go : (keep : Bool) → damage_in keep notes ≡ or_later (length first) (damage_in keep first) (damage_in keep second)
      go true = refl
      go false = damage_of_parts

  -- ---- the index

  pub index_parts : index_of m notes ≡ index_of m first ++ behind_first first (digest m first) (index_of m second)
  index_parts = index_append m first second notes both_pieces

  -- ---- the reasons

  pub reasons_parts : line_endings m notes ≡ line_endings m first ++ line_endings m second
  unfolding line_endings
  reasons_parts = ap (joined (piece_endings m)) both_pieces ∙ joined_append (piece_endings m) (pieces m first) (pieces m second)

  -- ---- the calls, with any limits

  module _ (l : Limits) (by_parts : ByParts l.words) (within-limit : length notes ≤ l.bytes) where
    short : (part : List ℕ) → length part ≤ length notes → finding l block part ≡ with_text l.words m part (damage_in m.keep part)
    unfolding finding
    short part h = rw (accepts, with_notes, le-ltb l.bytes (length part) (omega arith))

    pub finding_parts : finding l block notes ≡ both_found (length first) (finding l block first) (finding l block second)
    finding_parts =
        let n = ap length parts_are ∙ length-append first second in
        short notes (omega arith)
        ∙ ap (with_text l.words m notes) damage_in_parts
        ∙ text_both m notes first second digest_parts both_pieces (ap (λ (qs : List Piece). length (joined extent_of qs)) parts_pieces.0) l.words by_parts (damage_in m.keep first) (damage_in m.keep second)
        ∙ ap₂ (both_found (length first)) (sym (short first (omega arith))) (sym (short second (omega arith)))

    pub measuring_parts : measuring l block notes ≡ both (measured l.words) (length first) (measuring l block first) (measuring l block second)
    unfolding measuring
    measuring_parts = ap (answering (measured l.words)) finding_parts ∙ told_of_both l.words (length first) (finding l block first) (finding l block second)

    -- each part by itself is done with an index, whatever room it had, and there is room for both
    pub indexing_parts : (digest₁ digest₂ : List ℕ) (index₁ index₂ : List Record) (space₁ records₁ space₂ records₂ space records : ℕ)
        → indexing l block first space₁ records₁ ≡ indexed digest₁ index₁ → indexing l block second space₂ records₂ ≡ indexed digest₂ index₂
        → is_told l.words (length (digest₁ ++ digest₂)) ≡ true → length digest₁ + length digest₂ ≤ space → length index₁ + length index₂ ≤ records
        → indexing l block notes space records ≡ indexed (digest₁ ++ digest₂) (index₁ ++ behind_first first digest₁ index₂)
    indexing_parts digest₁ digest₂ index₁ index₂ space₁ records₁ space₂ records₂ space records h₁ h₂ t r s =
        let a₁ = indexed_done l block first o space₁ records₁ digest₁ index₁ accepts h₁ in
        let a₂ = indexed_done l block second o space₂ records₂ digest₂ index₂ accepts h₂ in
        let w : finding l block notes ≡ found (digest₁ ++ digest₂) = finding_parts ∙ ap₂ (both_found (length first)) a₁.is a₂.is in
        let i : index_of m notes ≡ index₁ ++ behind_first first digest₁ index₂ = rw (a₁.index, a₂.index, (found_done l block first o digest₁ accepts a₁.is).bytes_are) index_parts in
        let n = length-append digest₁ digest₂ in
        let p = ap length i ∙ length-append index₁ (behind_first first digest₁ index₂) in
        let q = length-map index₂ (shifted (length first) (length (lines_of digest₁))) in
        done_indexed l block notes o space records (digest₁ ++ digest₂) accepts w t (omega (arith, n, r)) (omega (arith, p, q, s)) ∙ ap (indexed (digest₁ ++ digest₂)) i

    -- each part by itself is found to be done: a line has its reason in its part
    pub explaining_parts : (line : ℕ) (digest₁ digest₂ : List ℕ) → finding l block first ≡ found digest₁ → finding l block second ≡ found digest₂
        → explaining l block notes line ≡ both_reasons (explaining l block first line) (explaining l block second (line - feeds digest₁))
    unfolding explaining
    explaining_parts line digest₁ digest₂ h₁ h₂ =
        let w : finding l block notes ≡ found (digest₁ ++ digest₂) = finding_parts ∙ ap₂ (both_found (length first)) h₁ h₂ in
        let n : feeds digest₁ ≡ length (line_endings m first) = ap feeds (found_done l block first o digest₁ accepts h₁).bytes_are ∙ as_many_line_feeds_as_reasons m first in
        explained notes line w
        ∙ ap (look_up line) reasons_parts
        ∙ look_both line (line_endings m first) (line_endings m second)
        ∙ ap₂ both_reasons (sym (explained first line h₁)) (ap (λ (i : ℕ). look_up (line - i) (line_endings m second)) (sym n) ∙ sym (explained second (line - feeds digest₁) h₂))
      where
        explained : (part : List ℕ) {bytes : List ℕ} (asked : ℕ) → finding l block part ≡ found bytes → explaining l block part asked ≡ look_up asked (line_endings m part)
        explained part asked h = rw (h, accepts)

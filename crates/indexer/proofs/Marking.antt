-- What is spelled as the pieces are written: after the gaps of the pieces so far come those of the next.
use Rattle.std.proofs.Common.{Some, Ok}
use mathlib.Core.Path.{◌≡◌, refl, sym, ap, ◌∙◌}
use mathlib.Core.Bool.{Bool, true, false}
use mathlib.Core.List.{List, [], ◌∷◌, ◌++◌, append_assoc, append-nil}
use Prim.Native.Nat.{ℕ, ◌+◌, ◌-◌, ◌*◌, ◌≤◌}
use native.Mathlib.Omega.{arith}
use lib.Dec.{leb}
use lib.ListN.{length, take, drop, get_or, set, replicate, length-append, length-drop, length-replicate, take-append-drop}
use lib.Seq.{take_at, take-take, drop_at, length-take-le}
use borrow.Author.Tests.{leb-true, leb-false}
use borrow.Rule.Slice.PartMut.{mid_of, put_mid, mid_len, take_put}
use Rattle.options.specs.Opts.{Opts}
use Rattle.lines.specs.Lines.{lines_of}
use Rattle.pieces.specs.Pieces.{Piece, Kind, pieces}
use Rattle.output.specs.Cited.Sink.{Wrote}
use Rattle.output.proofs.Sink.{written_fits, wrote_length}
use Rattle.paragraphs.specs.Cited.Steps.{room_for}
use Rattle.paragraphs.specs.declared.Cursor.{Cursor}
use Rattle.walk.specs.Digest.{output_of, extent_of, long_paragraph}
use Rattle.walk.specs.Cited.Course.{pieces_from, long_from, Put, Going, start}
use Rattle.walk.proofs.Loop.{all_output, all_long, going_length, going_last, none_left, all_pieces}
use Rattle.marks.specs.Cited.Marks.{marks_in, spelled, sum, Positive}
use Rattle.marks.proofs.Laws.{marks_none, marks_append}
use Rattle.marks.proofs.Spelled.{spelled_room, spelled_more}
use Rattle.index.specs.Cited.Lists.{no_record}
use Rattle.index.specs.Cited.Reading.{front, read_from}
use Rattle.indexer.specs.Index.{line_count, records_from, index_of}
use Rattle.indexer.specs.Cited.Noting.{gaps_of, lines_put, Spells, Spelt, Noted}
use Rattle.indexer.proofs.Laws.{length_records}
use Rattle.indexer.proofs.Counts.{piece_lines}
use Rattle.indexer.proofs.Reading.{records_read}

-- ---- one number more

sum_more : (gs : List ℕ) (g : ℕ) → sum (gs ++ g ∷ []) ≡ sum gs + g
unfolding sum
sum_more [] g = omega arith
sum_more (f ∷ gs) g = let e = sum_more gs g in omega (arith, e)

positive_more : (gs : List ℕ) (g : ℕ) → Positive gs → 1 ≤ g → Positive (gs ++ g ∷ [])
positive_more [] g p h = (h, tt)
positive_more (f ∷ gs) g p h = (p.0, positive_more gs g p.1 h)

-- ---- two numbers more, the first of which ends at a place

module _ (gs : List ℕ) (g h e : ℕ) (marks : List Bool) (some : Positive gs) (first : 1 ≤ g) (second : 1 ≤ h) (ends : sum gs + g ≡ e) (size : ℕ) (room : e + h ≤ size) (is : marks ≡ spelled gs ++ replicate (size - sum gs) false) where
  abbrev once : List ℕ
  once = gs ++ g ∷ []

  sum_once : sum once ≡ e
  sum_once = sum_more gs g ∙ ends

  first_free : get_or marks (e - 1) true ≡ false
  first_free = rw (is, ← ends) (spelled_room gs g (size - sum gs) some first (omega (arith, ends, room)))

  marked_once : set marks (e - 1) true ≡ spelled once ++ replicate (size - sum once) false
  marked_once =
      let k : size - sum gs - g ≡ size - sum once = omega (arith, sum_more gs g) in
      ap (λ (xs : List Bool). set xs (e - 1) true) is ∙ ap (λ (n : ℕ). set (spelled gs ++ replicate (size - sum gs) false) (n - 1) true) (sym ends)
      ∙ spelled_more gs g (size - sum gs) some first (omega (arith, ends, room))
      ∙ ap (λ (n : ℕ). spelled once ++ replicate n false) k

  second_free : get_or (set marks (e - 1) true) (e + h - 1) true ≡ false
  second_free = rw (marked_once, ← sum_once) (spelled_room once h (size - sum once) (positive_more gs g some first) second (omega (arith, sum_once, room)))

  marked_twice : set (set marks (e - 1) true) (e + h - 1) true ≡ spelled (once ++ h ∷ []) ++ replicate (size - sum (once ++ h ∷ [])) false
  marked_twice =
      let k : size - sum once - h ≡ size - sum (once ++ h ∷ []) = omega (arith, sum_more once h) in
      ap (λ (xs : List Bool). set xs (e + h - 1) true) marked_once ∙ ap (λ (n : ℕ). set (spelled once ++ replicate (size - sum once) false) (n + h - 1) true) (sym sum_once)
      ∙ spelled_more once h (size - sum once) (positive_more gs g some first) second (omega (arith, sum_once, room))
      ∙ ap (λ (n : ℕ). spelled (once ++ h ∷ []) ++ replicate n false) k

-- ---- the gaps of one piece more

gaps_more : (o : Opts) (qs : List Piece) (q : Piece) → gaps_of o (qs ++ q ∷ []) ≡ (gaps_of o qs ++ length (extent_of q) ∷ []) ++ line_count o q ∷ []
unfolding gaps_of
gaps_more o [] q = refl
gaps_more o (p ∷ qs) q = ap (λ (gs : List ℕ). length (extent_of p) ∷ line_count o p ∷ gs) (gaps_more o qs q)

-- what was written stands there, where it fits
wrote_there : (out out' d : List ℕ) (n n' : ℕ) → Wrote out n d out' n' → n' ≤ length out → take (n' - n) (drop n out') ≡ d
wrote_there out out' d n n' w h =
    let c = w.count in
    let m : n' - n ≡ length d = omega (arith, c) in
    ap (λ (k : ℕ). take k (drop n out')) m
    ∙ ap (take (length d)) (ap (drop n) (w.bytes ∙ written_fits n out d (omega (arith, c, h))) ∙ drop_at (take n out) (d ++ drop (length d) (drop n out)) n (length-take-le n out (omega (arith, c, h))))
    ∙ take_at d (drop (length d) (drop n out)) (length d) refl

-- ---- the loop

-- k pieces stand before the cursor; where their output fits, their gaps are spelled, and after these there is no mark
pub record Marking (o : Opts) (notes : List ℕ) (size marks : ℕ) (c : Cursor) (k line : ℕ) (gaps : List ℕ) : Type 0 where
  pub before : List Piece
  pub all : before ++ pieces_from o c.mail notes c.at ≡ pieces o notes
  pub count : k ≡ length before
  pub some : Positive (gaps_of o before)
  pub few : k ≤ c.at
  pub lines : line ≤ c.at
  pub upto : c.written ≤ size → sum (gaps_of o before) ≡ c.at + line
  pub spelt : c.written ≤ size → marks_in gaps ≡ spelled (gaps_of o before) ++ replicate (32 * marks - sum (gaps_of o before)) false

module _ (o : Opts) (notes : List ℕ) (size marks : ℕ) where
  pub marking_first : (gaps : List ℕ) → gaps ≡ replicate marks 0 → Marking o notes size marks start 0 0 gaps
  unfolding gaps_of sum spelled
  marking_first gaps e = let n : 32 * marks ≡ 32 * marks - 0 = omega arith in record {
    before = [];
    all = all_pieces o notes;
    count = refl;
    some = tt;
    few = omega arith;
    lines = omega arith;
    upto = λ _. refl;
    spelt = λ _. ap marks_in e ∙ marks_none marks ∙ ap (λ (k : ℕ). replicate k false) n;
  }

  module _ {c : Cursor} {k line : ℕ} {gaps : List ℕ} (m : Marking o notes size marks c k line gaps) where
    module _ {most : ℕ} {out : List ℕ} {d : Cursor} {out' : List ℕ} (p : Put most o notes out c d out') (short : 2 * length notes ≤ 32 * marks) (few : marks ≤ 65536) (same : length out' ≡ size) where
      abbrev here : Piece
      here = p.goes.piece

      lines_here : (1 ≤ line_count o here) × (line_count o here ≤ length (extent_of here))
      lines_here = piece_lines o c.mail notes c.at here (pieces_from o d.mail notes d.at) p.goes.pieces

      some_here : 1 ≤ length (extent_of here)
      some_here = omega (arith, p.goes.extent, p.goes.on)

      behind : c.written ≤ d.written
      behind = omega (arith, p.wrote.count)

      module _ (fits : d.written ≤ length out') where
        in_room : c.written ≤ size
        in_room = omega (arith, behind, fits, same)

        lines_put_law : lines_put out' c d ≡ line_count o here
        unfolding line_count
        lines_put_law =
            ap (λ (t : List ℕ). length (lines_of t)) (wrote_there out out' _ c.written d.written p.wrote (omega (arith, fits, wrote_length p.wrote)))
            ∙ ap (λ (t : Kind). length (lines_of (output_of o t))) (sym p.goes.is)

        ends_here : sum (gaps_of o m.before) + length (extent_of here) ≡ d.at + line
        ends_here = omega (arith, m.upto in_room, p.goes.extent)

        fits_here : d.at + line + line_count o here ≤ 32 * marks
        fits_here = omega (arith, lines_here.1, m.lines, p.goes.extent, p.goes.within, short)

      pub marking_spells : Spells gaps out' c d line
      marking_spells = record {
        on = p.goes.on;
        within = omega (arith, p.goes.within, short, few);
        few = m.lines;
        behind = behind;
        lines = λ f. omega (arith, lines_put_law f, lines_here.1, p.goes.extent);
        first = λ f. first_free _ _ _ _ _ m.some some_here lines_here.0 (ends_here f) _ (fits_here f) (m.spelt (in_room f));
        second = λ f. rw (lines_put_law f) (second_free _ _ _ _ _ m.some some_here lines_here.0 (ends_here f) _ (fits_here f) (m.spelt (in_room f)));
      }

      module _ {gaps' : List ℕ} {line' : ℕ} (s : Spelt gaps out' c d line gaps' line') where
        sum_here : d.written ≤ length out' → sum (gaps_of o (m.before ++ here ∷ [])) ≡ d.at + line'
        sum_here f =
            let a = sum_more (gaps_of o m.before) (length (extent_of here)) in
            let b = sum_more (gaps_of o m.before ++ length (extent_of here) ∷ []) (line_count o here) in
            ap sum (gaps_more o m.before here) ∙ omega (arith, a, b, ends_here f, s.moves f, lines_put_law f)

        spelt_here : d.written ≤ length out' → marks_in gaps' ≡ spelled (gaps_of o (m.before ++ here ∷ [])) ++ replicate (32 * marks - sum (gaps_of o (m.before ++ here ∷ []))) false
        spelt_here f =
            rw (lines_put_law f) at (s.marked f)
            ∙ marked_twice _ _ _ _ _ m.some some_here lines_here.0 (ends_here f) _ (fits_here f) (m.spelt (in_room f))
            ∙ ap (λ (gs : List ℕ). spelled gs ++ replicate (32 * marks - sum gs) false) (sym (gaps_more o m.before here))

        lines_less : line' ≤ d.at
        lines_less = go (leb d.written (length out')) refl
          where
            go : (b : Bool) → leb d.written (length out') ≡ b → line' ≤ d.at
            go true e = let f = leb-true d.written (length out') e in omega (arith, s.moves f, lines_put_law f, lines_here.1, m.lines, p.goes.extent)
            go false e = let f = leb-false d.written (length out') e in omega (arith, s.stays f, m.lines, p.goes.on)

        pub marking_on : Marking o notes size marks d (k + 1) line' gaps'
        marking_on = record {
          before = m.before ++ here ∷ [];
          all = append_assoc m.before (here ∷ []) _ ∙ ap (λ (qs : List Piece). m.before ++ qs) (sym p.goes.pieces) ∙ m.all;
          count = omega (arith, m.count, length-append m.before (here ∷ []));
          some = rw (gaps_more o m.before here) (positive_more (gaps_of o m.before ++ length (extent_of here) ∷ []) _ (positive_more (gaps_of o m.before) _ m.some some_here) lines_here.0);
          few = omega (arith, m.few, p.goes.on);
          lines = lines_less;
          upto = λ f. sum_here (omega (arith, f, same));
          spelt = λ f. spelt_here (omega (arith, f, same));
        }

    all_before : length notes ≤ c.at → m.before ≡ pieces o notes
    all_before h = sym (append-nil m.before) ∙ ap (λ (qs : List Piece). m.before ++ qs) (sym (none_left o c.mail notes c.at h)) ∙ m.all

    count_all : length notes ≤ c.at → k ≡ length (index_of o notes)
    unfolding index_of
    count_all h = m.count ∙ ap length (all_before h) ∙ sym (length_records o 0 0 (pieces o notes))

    read_all : (rest : List Bool) → length notes ≤ c.at → c.written ≤ size → read_from (marks_in gaps ++ rest) k no_record ≡ index_of o notes
    unfolding index_of
    read_all rest h f =
        ap (λ (n : ℕ). read_from (marks_in gaps ++ rest) n no_record) m.count
        ∙ ap (λ (ms : List Bool). read_from ms (length m.before) no_record) (ap (λ (ms : List Bool). ms ++ rest) (m.spelt f) ∙ append_assoc (spelled (gaps_of o m.before)) _ rest)
        ∙ records_read o m.before _ m.some ∙ ap (records_from o 0 0) (all_before h)

-- the marks stand in front of what else the room holds
front_marks : (marks : ℕ) (work : List ℕ) → marks ≤ 65536 → marks_in (front work) ≡ marks_in (take marks work) ++ marks_in (drop marks (front work))
front_marks marks work few =
    ap marks_in (sym (take-append-drop marks (front work)) ∙ ap (λ (xs : List ℕ). xs ++ drop marks (front work)) (take-take marks 65536 work few))
    ∙ marks_append (take marks work) (drop marks (front work))

module _ (most : ℕ) (o : Opts) (notes out₀ : List ℕ) {c : Cursor} {out : List ℕ} (w : Going most o notes start out₀ c out) where
  pub noted_all : {marks k line : ℕ} (work : List ℕ) → marks ≤ 65536 → Marking o notes (length out₀) marks c k line (take marks work) → length notes ≤ c.at → Noted most o notes out₀ out work (Ok (record { written = c.written; pieces = k }))
  noted_all {marks} {k} {line} work few m h =
      let f = going_last most o notes w h in (
        sym (all_long most o notes) ∙ f.0,
        rw (all_output o notes) at f.1,
        count_all o notes (length out₀) marks m h,
        λ g. ap (λ (ms : List Bool). read_from ms k no_record) (front_marks marks work few) ∙ read_all o notes (length out₀) marks m (marks_in (drop marks (front work))) h g,
      )

  pub noted_stopped : {out' : List ℕ} → (long_from most o c.mail notes c.at ≡ Some c.at) × (out' ≡ out) → (long_paragraph most o 0 (pieces o notes) ≡ Some c.at) × (length out' ≡ length out₀)
  noted_stopped t = (sym (all_long most o notes) ∙ sym w.long ∙ t.0, ap length t.1 ∙ going_length most o notes w)

-- ---- the room, of which a part is lent and comes home

-- the part has as many words as its bounds say
pub part_room : (quick : Bool) (marks end : ℕ) (work : List ℕ) → marks ≤ end → end ≤ length work → room_for quick (length (mid_of marks (end - marks) work)) ≡ room_for quick (end - marks)
part_room quick marks end work h k = ap (room_for quick) (mid_len marks end work k)

-- the room after its front was cleared
pub front_cleared : (marks : ℕ) (work cleared : List ℕ) → marks ≤ length work → cleared ≡ replicate (length (take marks work)) 0 → (cleared ≡ replicate marks 0) × (length (cleared ++ drop marks work) ≡ length work)
front_cleared marks work cleared h e =
    let l = length-take-le marks work h in
    let n = ap length e ∙ length-replicate (length (take marks work)) 0 in
    let a = length-append cleared (drop marks work) in
    let d = length-drop marks work in
    (e ∙ ap (λ (k : ℕ). replicate k 0) l, omega (arith, l, n, a, d, h))

-- what is in front of the part is as it was
pub front_kept : (marks k : ℕ) (work part : List ℕ) → marks ≤ length work → take marks (put_mid marks k work part) ≡ take marks work
front_kept marks k work part h = take_put marks k work part h

-- and the front that was lent is what it came home as
pub front_home : (marks : ℕ) (work part : List ℕ) → length part ≡ marks → marks ≤ length work → (take marks (part ++ drop marks work) ≡ part) × (length (part ++ drop marks work) ≡ length work)
front_home marks work part e h = let a = length-append part (drop marks work) in let d = length-drop marks work in (take_at part (drop marks work) marks e, omega (arith, a, d, e, h))

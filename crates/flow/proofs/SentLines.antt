-- The lines that are sent of a piece have no line feed, the last of them is fixed, and they are read as the piece comes back.
use mathlib.Core.Path.{◌≡◌, refl, sym, ap, ◌∙◌, subst⁻¹}
use mathlib.Core.Bool.{Bool, true, false, cond, and-eq-true_iff}
use mathlib.Core.List.{List, [], ◌∷◌, ◌++◌}
use Prim.Native.Nat.{ℕ, ◌<◌}
use native.Mathlib.Omega.{arith}
use lib.Dec.{eqb}
use lib.ListN.{length, replicate, length-append}
use Rattle.lists.specs.Runs.{every}
use Rattle.lists.specs.Theorems.All.{All}
use Rattle.lists.proofs.Parts.{every_nil, every_cons}
use Rattle.lists.proofs.All.{all_drop}
use Rattle.lists.proofs.Extents.{walk_all}
use Rattle.options.specs.Opts.{Opts}
use Rattle.lines.specs.Lines.{Line, no_feed, lines_of}
use Rattle.lines.specs.Classes.{classify}
use Rattle.lines.specs.declared.Class.{Class}
use Rattle.lines.specs.declared.Class.TheVariants.{Blank, Plain, Formatted}
use Rattle.lines.proofs.Extents.{lines_feedless}
use Rattle.pieces.specs.Pieces.{Paragraph, Kind, Piece, blank_line, plain_line, paragraph, starts_mail, paragraph_at, piece_as, next_piece, pieces}
use Rattle.pieces.proofs.Extents.{Feedless}
use Rattle.pieces.proofs.Columns.{spaces_feedless, feedless_append, first_feedless}
use Rattle.records.specs.Word.{Word}
use Rattle.spacing.specs.Spacing.{added_space}
use Rattle.words.specs.Words.{words_of}
use Rattle.output.specs.Emission.{space_before}
use Rattle.output.proofs.Indents.{Feedless as Feed, indent_for_feedless}
use Rattle.unflow.specs.Flowed.{space, is_dashes, ends_in_space}
use Rattle.unflow.proofs.Lines.{ends_append}
use Rattle.output.specs.EmittedLines.{lines_from}
use Rattle.flow.specs.Flow.{broken_into, paragraph_lines, is_dashed, softened, all_but_last, before, trimmed, plain_sent, sent_lines}
use Rattle.flow.specs.Theorems.ReadBack.{flows, read_from, read, back, came_back}
use Rattle.flow.proofs.Readings.{Ended}
use Rattle.flow.proofs.Back.{LastBare, sent_ended, read_back, plain_fixed}
use Rattle.flow.proofs.Solid.{Solid}

-- ---- a paragraph's lines

-- lines of which the last does not end in a space; there is one
abbrev Bare : List (List ℕ) → Type 0
Bare [] = ⊥
Bare (line ∷ lines) = LastBare line lines

bare_behind : (line : List ℕ) (lines : List (List ℕ)) → Bare lines → LastBare line lines
bare_behind line [] h = absurd h
bare_behind line (next ∷ lines) h = h

module _ (indent : List ℕ) (i : Feed indent) where
  on_feed : (line : List ℕ) (punct : Bool) (w : Word) → Feed line → Solid w → Feed (line ++ (space_before true punct w ++ w.text))
  unfolding space_before
  on_feed line punct w h s =
      let n = added_space true w.new_line w.sentence_start punct in
      feedless_append line _ h (feedless_append _ w.text (feedless_append (replicate n 32) w.blanks (spaces_feedless n) s.before) s.feedless)

  on_bare : (front middle : List ℕ) (w : Word) → Solid w → ends_in_space (front ++ (middle ++ w.text)) ≡ false
  on_bare front middle w s =
      ends_append front (middle ++ w.text) (omega (arith, length-append middle w.text, s.some)) ∙ ends_append middle w.text s.some ∙ s.bare

  from_feed : (line : List ℕ) (punct : Bool) (breaks : List Bool) (ws : List Word) → Feed line → All Solid ws → All Feed (lines_from true indent line punct breaks ws)
  unfolding lines_from
  from_feed line punct breaks [] h a = (h, tt)
  from_feed line punct [] (w ∷ ws) h a = from_feed (line ++ (space_before true punct w ++ w.text)) w.ends_punct [] ws (on_feed line punct w h a.0) a.1
  from_feed line punct (true ∷ bs) (w ∷ ws) h a = (h, from_feed (indent ++ w.text) w.ends_punct bs ws (feedless_append indent w.text i a.0.feedless) a.1)
  from_feed line punct (false ∷ bs) (w ∷ ws) h a = from_feed (line ++ (space_before true punct w ++ w.text)) w.ends_punct bs ws (on_feed line punct w h a.0) a.1

  from_bare : (line : List ℕ) (punct : Bool) (breaks : List Bool) (ws : List Word) → ends_in_space line ≡ false → All Solid ws → Bare (lines_from true indent line punct breaks ws)
  unfolding lines_from
  from_bare line punct breaks [] h a = h
  from_bare line punct [] (w ∷ ws) h a = from_bare (line ++ (space_before true punct w ++ w.text)) w.ends_punct [] ws (on_bare line (space_before true punct w) w a.0) a.1
  from_bare line punct (true ∷ bs) (w ∷ ws) h a =
      bare_behind line (lines_from true indent (indent ++ w.text) w.ends_punct bs ws)
      (from_bare (indent ++ w.text) w.ends_punct bs ws (ends_append indent w.text a.0.some ∙ a.0.bare) a.1)
  from_bare line punct (false ∷ bs) (w ∷ ws) h a = from_bare (line ++ (space_before true punct w ++ w.text)) w.ends_punct bs ws (on_bare line (space_before true punct w) w a.0) a.1

broken_sound : (first indent : List ℕ) (breaks : List Bool) (ws : List Word) → Feed first → Feed indent → 0 < length ws → All Solid ws
    → All Feed (broken_into first indent breaks ws) × Bare (broken_into first indent breaks ws)
unfolding broken_into
broken_sound first indent breaks [] f i n a = absurd (omega arith)
broken_sound first indent breaks (w ∷ ws) f i n a = (
  from_feed indent i (first ++ w.text) false breaks ws (feedless_append first w.text f a.0.feedless) a.1,
  from_bare indent i (first ++ w.text) false breaks ws (ends_append first w.text a.0.some ∙ a.0.bare) a.1,
)

soft_feed : (line : List ℕ) → Feed line → Feed (softened line)
unfolding softened
soft_feed line h = go (is_dashed line)
  where
    go : (b : Bool) → Feed (cond b line (line ++ space ∷ []))
    go true = h
    go false = feedless_append line (space ∷ []) h (spaces_feedless 1)

sent_feed : (lines : List (List ℕ)) → All Feed lines → All Feed (all_but_last lines)
unfolding all_but_last
sent_feed [] a = tt
sent_feed (line ∷ []) a = a
sent_feed (line ∷ next ∷ lines) a = (soft_feed line a.0, sent_feed (next ∷ lines) a.1)

-- ---- plain lines

trimmed_feed : (t : List ℕ) → Feed t → Feed (trimmed t)
unfolding trimmed
trimmed_feed [] h = h
trimmed_feed (x ∷ t) h =
    let k = (and-eq-true_iff (no_feed x) (every no_feed t)).0 (rw (every_cons no_feed x t) at h) in
    go k.0 (trimmed t) (trimmed_feed t k.1)
  where
    alone : no_feed x ≡ true → (b : Bool) → Feed (cond b [] (x ∷ []))
    alone e true = every_nil no_feed
    alone e false = rw (every_cons no_feed x [], e, every_nil no_feed)

    go : no_feed x ≡ true → (u : List ℕ) → Feed u → Feed (before x u)
    go e [] f = alone e (eqb x space)
    go e (y ∷ u) f = rw (every_cons no_feed x (y ∷ u), e, f)

plain_feed : (t : List ℕ) → Feed t → Feed (plain_sent t)
unfolding plain_sent
plain_feed t h = go (is_dashes t)
  where
    go : (b : Bool) → Feed (cond b t (trimmed t))
    go true = h
    go false = trimmed_feed t h

-- ---- a piece

pub record Sound (o : Opts) (k : Kind) : Type 0 where
  pub feedless : All Feed (sent_lines o k)
  pub ended : Ended (sent_lines o k)
  pub back : read (sent_lines o k) ≡ came_back o k

pub blank_sound : (o : Opts) → Sound o blank_line
unfolding sent_lines read read_from flows ends_in_space
blank_sound o = record { feedless = (every_nil no_feed, tt); ended = refl; back = refl }

pub plain_sound : (o : Opts) (t : List ℕ) → Feed t → Sound o (plain_line t)
unfolding sent_lines read read_from
plain_sound o t h = record { feedless = (plain_feed t h, tt); ended = plain_fixed t; back = refl }

lines_sound : (o : Opts) (p : Paragraph) (lines : List (List ℕ)) → paragraph_lines o p ≡ lines → All Feed lines → Bare lines → Sound o (paragraph p)
unfolding sent_lines
lines_sound o p [] e a b = absurd b
lines_sound o p (line ∷ lines) e a b = record {
  feedless = subst⁻¹ (λ (ls : List (List ℕ)). All Feed (all_but_last ls)) e (sent_feed (line ∷ lines) a);
  ended = subst⁻¹ (λ (ls : List (List ℕ)). Ended (all_but_last ls)) e (sent_ended line lines b);
  back = ap (λ (ls : List (List ℕ)). read (all_but_last ls)) e ∙ read_back line lines b ∙ sym (ap back e);
}

pub paragraph_sound : (o : Opts) (p : Paragraph) → Feed p.first.bytes → Feed p.indent.bytes → 0 < length (words_of o p) → All Solid (words_of o p) → Sound o (paragraph p)
unfolding paragraph_lines
paragraph_sound o p f i n a = let s = broken_sound p.first.bytes p.indent.bytes _ (words_of o p) f i n a in lines_sound o p _ refl s.0 s.1

-- ---- indents and plain lines have no line feed

abbrev pub Level : Kind → Type 0
Level blank_line = Unit {0}
Level (plain_line t) = Feed t
Level (paragraph p) = Feed p.first.bytes × Feed p.indent.bytes

module _ (o : Opts) where
  next_level : (nextMail : Bool) (ls : List Line) → 0 < length ls → All Feedless ls → Level (next_piece o nextMail ls).item.kind
  unfolding next_piece paragraph_at
  next_level nextMail [] h f = tt
  next_level nextMail (l ∷ ls) h f = go (classify o l.text)
    where
      go : (c : Class) → Level (piece_as o nextMail l ls c).item.kind
      go Blank = tt
      go Plain = f.0
      go (Formatted s) = let mail = starts_mail o.mail nextMail s l.text in (first_feedless mail l.text s f.0, indent_for_feedless o mail l.text s ls f.0 f.1)

  pub pieces_level : (notes : List ℕ) → All (λ (q : Piece). Level q.kind) (pieces o notes)
  unfolding pieces
  pieces_level notes = walk_all (next_piece o) (λ (q : Piece). Level q.kind) (All Feedless) (all_drop Feedless) next_level true (lines_of notes) (lines_feedless notes)

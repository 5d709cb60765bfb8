-- Quick keeps to the width (RULES 21.7). The breaker's own sums are the columns of the bytes that are written, counted afresh: through
-- the indents, gaps with tabs, and added spaces.
use Rattle.std.proofs.Common.{Option, Some, None, Ok}
use mathlib.Core.Path.{◌≡◌, refl, sym, ap, ◌∙◌}
use mathlib.Core.Bool.{Bool, true, false, cond, ◌&&◌, ◌||◌, or-false, and-eq-true_iff}
use mathlib.Core.List.{List, [], ◌∷◌, ◌++◌, map, append_assoc}
use mathlib.Core.Logic.{◌⊎◌, inl, inr, ⊎_elim}
use Prim.Native.Nat.{ℕ, suc, ◌+◌, ◌≤◌, ◌<◌}
use native.Mathlib.Omega.{arith}
use lib.ListN.{length, replicate}
use Rattle.lists.specs.Runs.{every, joined}
use Rattle.lists.specs.Theorems.All.{All, ◌∈◌}
use Rattle.lists.proofs.All.{all_at, all_map, all_weaken, all_joined}
use Rattle.lists.proofs.Parts.{every_nil, every_cons, every_append, joined_nil, joined_cons}
use Rattle.lists.proofs.Joins.{append_inner}
use Rattle.text.specs.Characters.{characters}
use Rattle.text.proofs.Glyphs.{characters_past}
use Rattle.text.specs.Theorems.Blanks.{Gap}
use Rattle.options.specs.Opts.{Opts, meant}
use Rattle.options.specs.OptionBlock.{read_block}
use Rattle.options.specs.declared.Options.{Options}
use Rattle.options.proofs.Accepted.{accepted}
use Rattle.lines.specs.Lines.{Line, no_feed}
use Rattle.lines.specs.Classes.{columns_of, classify}
use Rattle.lines.specs.declared.Shape.{Shape}
use Rattle.lines.specs.declared.Class.TheVariants.{Formatted}
use Rattle.pieces.specs.Pieces.{Indent, Paragraph, Piece, paragraph, row_of, pieces}
use Rattle.pieces.proofs.Extents.{Rows}
use Rattle.pieces.proofs.Columns.{Margined, Settled, SettledPiece, pieces_settled, spaces_columns, spaces_feedless}
use Rattle.records.specs.Word.{Word}
use Rattle.words.specs.Words.{row_words, words_of}
use Rattle.words.specs.Theorems.PlainGap.{plain_gap}
use Rattle.words.proofs.Order.{Whole, paragraph_some, paragraph_whole}
use Rattle.words.proofs.Columns.{gap_end, Counted, row_counted}
use Rattle.spacing.specs.Spacing.{gap_width, gap_at, added_space}
use Rattle.spacing.specs.declared.Setting.{Setting}
use Rattle.spacing.proofs.Laws.{stop_behind}
use Rattle.output.specs.Emission.{line_feed, space_before, emit_rest, emit}
use Rattle.output.specs.Theorems.Order.{laid_out}
use Rattle.quick.specs.Quick.{quick_from, quick_breaks}
use Rattle.quick.proofs.Width.{reached_by, goes}
use Rattle.paragraphs.specs.Breaks.{setting_of}
use Rattle.walk.specs.Digest.{formatted, output_of, piece_output, digest}
use Rattle.formatter.specs.Answers.{done}
use Rattle.formatter.specs.Format.{Limits, limited, answer, writing}
use Rattle.formatter.proofs.Together.{together_they_do_what_the_old_call_did}
use Rattle.formatter.proofs.Answers.{measured_done, written_measured}
use Rattle.rudignals.specs.Theorems.Width.{OutputLine, ended, words_on, KeepsToWidth, WithinWidth, PieceKeeps, KeptToWidth}
use Rattle.rudignals.proofs.Order.{members_all, rows_of, space_separates}

-- ---- what is before a word on its line

gap_end_law : (tab column : ℕ) (before : Option ℕ) (after : ℕ) → 1 ≤ tab → gap_end tab column before after ≡ column + gap_width tab column before after
unfolding gap_end gap_width
gap_end_law tab column None after h = refl
gap_end_law tab column (Some n) after h = let s = stop_behind tab (n + column) h in omega arith

no_gap : (tab a k : ℕ) → a + k + gap_width tab (a + k) None 0 ≡ a + gap_width tab a None 0 + k
unfolding gap_width
no_gap tab a k = omega arith

same_gap : (tab a : ℕ) (before : Option ℕ) (after : ℕ) → a + 0 + gap_width tab (a + 0) before after ≡ a + gap_width tab a before after + 0
same_gap tab a before after = let e : a + 0 ≡ a = omega arith in rw e (omega arith)

module _ (o : Opts) (least : 1 ≤ o.tab) where
  abbrev added : Bool → Word → ℕ
  added punct w = added_space o.uniform w.new_line w.sentence_start punct

  -- spaces are added only where the word's record has no blanks
  space_end : (punct : Bool) (w : Word) (column : ℕ) → Counted o w → gap_end o.tab (column + added punct w) w.before w.after ≡ column + gap_at o.tab column w + added punct w
  unfolding added_space
  space_end punct w column c = go (o.uniform || w.new_line) refl
    where
      go : (t : Bool) → (o.uniform || w.new_line) ≡ t
          → gap_end o.tab (column + cond t (cond (w.sentence_start || w.new_line && punct) 2 1) 0) w.before w.after ≡ column + gap_at o.tab column w + cond t (cond (w.sentence_start || w.new_line && punct) 2 1) 0
      go true e =
          let b = c.bare e in
          let k : ℕ = cond (w.sentence_start || w.new_line && punct) 2 1 in
          rw (b.1, b.2, gap_end_law o.tab (column + k) None 0 least) (no_gap o.tab column k)
      go false e = rw (gap_end_law o.tab (column + 0) w.before w.after least) (same_gap o.tab column w.before w.after)

  space_columns : (punct : Bool) (w : Word) → Counted o w → plain_gap w ≡ true → (column : ℕ) (ys : List ℕ)
      → columns_of o.tab column (characters (space_before o.uniform punct w ++ ys)) ≡ columns_of o.tab (column + gap_at o.tab column w + added punct w) (characters ys)
  unfolding space_before
  space_columns punct w c plain column ys =
      ap (λ (l : List ℕ). columns_of o.tab column (characters l)) (append_assoc (replicate (added punct w) 32) w.blanks ys)
      ∙ spaces_columns o.tab column (added punct w) (w.blanks ++ ys)
      ∙ c.blanks plain (column + added punct w) ys
      ∙ ap (λ (k : ℕ). columns_of o.tab k (characters ys)) (space_end punct w column c)

-- ---- the lines of a paragraph

-- bytes in another order of joining
first_bytes : (indent text rest more : List ℕ) → indent ++ (text ++ (rest ++ (line_feed ++ more))) ≡ ((indent ++ (text ++ rest)) ++ line_feed) ++ more
first_bytes indent text rest more = sym (append_assoc (indent ++ (text ++ rest)) line_feed more ∙ append_assoc indent (text ++ rest) (line_feed ++ more) ∙ ap (λ (l : List ℕ). indent ++ l) (append_assoc text rest (line_feed ++ more)))

broken_bytes : (indent text rest more : List ℕ) → (line_feed ++ indent) ++ (text ++ (rest ++ (line_feed ++ more))) ≡ line_feed ++ (((indent ++ (text ++ rest)) ++ line_feed) ++ more)
broken_bytes indent text rest more = append_assoc line_feed indent (text ++ (rest ++ (line_feed ++ more))) ∙ ap (λ (l : List ℕ). line_feed ++ l) (first_bytes indent text rest more)

nothing_read : characters [] ≡ []
nothing_read = characters_past [] 0 (omega arith)

module _ (o : Opts) (p : Paragraph) (least : 1 ≤ o.tab) (first : Margined o.tab p.first) (later : Margined o.tab p.indent) where
  abbrev g : Setting
  g = record { width = o.width; goal = o.goal; tab = o.tab; uniform = o.uniform; first = p.first.columns; indent = p.indent.columns }

  abbrev Placeable : Word → Type 0
  Placeable w = Counted o w × Whole o.glue o.uniform w

  -- What is written from a column on: the rest of a line, which is its words, each after blanks, and stays within the width if it has any;
  -- and the lines after it.
  record Rest (column : ℕ) (ws : List Word) (written : List ℕ) : Type 0 where
    bytes : List ℕ
    words : List Word
    more : List OutputLine
    emits : written ≡ bytes ++ (line_feed ++ joined ended more)
    holds : words ++ joined words_on more ≡ ws
    one_line : every no_feed bytes ≡ true
    separators : List (List ℕ)
    as_many : length words ≡ length separators
    between : All (Gap o.glue) separators
    laid : bytes ++ line_feed ≡ laid_out separators words
    fits : every plain_gap words ≡ true → ((length words ≡ 0) × (bytes ≡ [])) ⊎ (columns_of o.tab column (characters bytes) ≤ o.width)
    each : All (KeepsToWidth o p) more

  -- a line that begins with an indent and a word
  abbrev line_of : List ℕ → Word → List ℕ → List Word → OutputLine
  line_of indent w bytes words = record { bytes = indent ++ (w.text ++ bytes); indent = indent; words = w ∷ words }

  line_keeps : (i : Indent) (w : Word) (ws : List Word) (written : List ℕ) → Margined o.tab i → ((i.bytes ≡ p.first.bytes) ⊎ (i.bytes ≡ p.indent.bytes)) → Placeable w
      → (r : Rest (i.columns + w.width) ws written) → KeepsToWidth o p (line_of i.bytes w r.bytes r.words)
  unfolding laid_out
  line_keeps i w ws written m which placed r = record {
    one_line = rw (every_append no_feed i.bytes (w.text ++ r.bytes), every_append no_feed w.text r.bytes, m.feedless, placed.1.feedless, r.one_line);
    indented = which;
    in_order = record {
      separators = r.separators;
      one_less = ap suc r.as_many;
      each = r.between;
      laid =
          append_assoc i.bytes (w.text ++ r.bytes) line_feed
          ∙ ap (λ (l : List ℕ). i.bytes ++ l) (append_assoc w.text r.bytes line_feed ∙ ap (λ (l : List ℕ). w.text ++ l) r.laid);
    };
    keeps = λ plain h. ⊎_elim (λ (z : (length r.words ≡ 0) × (r.bytes ≡ [])). ap suc z.0) (λ (z : columns_of o.tab (i.columns + w.width) (characters r.bytes) ≤ o.width). absurd (omega (arith, m.columns (w.text ++ r.bytes), placed.0.text i.columns r.bytes))) (r.fits plain);
  }

  -- after the last word
  rest_none : (column : ℕ) → Rest column [] line_feed
  unfolding laid_out
  rest_none column = record {
    bytes = [];
    words = [];
    more = [];
    emits = rw (joined_nil ended) refl;
    holds = joined_nil words_on;
    one_line = every_nil no_feed;
    separators = [];
    as_many = refl;
    between = tt;
    laid = refl;
    fits = λ plain. inl (refl, refl);
    each = tt;
  }

  -- a new line starts with the word
  rest_broken : (column : ℕ) (w : Word) (ws : List Word) (written : List ℕ) → Placeable w → Rest (p.indent.columns + w.width) ws written
      → Rest column (w ∷ ws) ((line_feed ++ p.indent.bytes) ++ (w.text ++ written))
  unfolding laid_out
  rest_broken column w ws written placed r =
      let l = line_of p.indent.bytes w r.bytes r.words in
      record {
        bytes = [];
        words = [];
        more = l ∷ r.more;
        emits = rw (joined_cons ended l r.more, r.emits) (broken_bytes p.indent.bytes w.text r.bytes (joined ended r.more));
        holds = rw (joined_cons words_on l r.more) (ap (λ (k : List Word). w ∷ k) r.holds);
        one_line = every_nil no_feed;
        separators = [];
        as_many = refl;
        between = tt;
        laid = refl;
        fits = λ plain. inl (refl, refl);
        each = (line_keeps p.indent w ws written later (inr refl) placed r, r.each);
      }

  space_feedless : (punct : Bool) (w : Word) → Whole o.glue o.uniform w → every no_feed (space_before o.uniform punct w) ≡ true
  unfolding space_before
  space_feedless punct w h = rw (every_append no_feed (replicate (added o least punct w) 32) w.blanks, spaces_feedless (added o least punct w), h.blanks_feedless)

  abbrev reached_at : ℕ → Bool → Word → ℕ
  reached_at column punct w = column + gap_at o.tab column w + added o least punct w + w.width

  -- the rest of a line that a word goes on stays within the width
  on_fits : (column : ℕ) (punct : Bool) (w : Word) (bytes : List ℕ) (words : List Word) → Counted o w → reached_at column punct w ≤ o.width
      → (every plain_gap words ≡ true → ((length words ≡ 0) × (bytes ≡ [])) ⊎ (columns_of o.tab (reached_at column punct w) (characters bytes) ≤ o.width))
      → every plain_gap (w ∷ words) ≡ true → columns_of o.tab column (characters (space_before o.uniform punct w ++ (w.text ++ bytes))) ≤ o.width
  unfolding columns_of
  on_fits column punct w bytes words c within fits plain =
      let h = (and-eq-true_iff (plain_gap w) (every plain_gap words)).0 (rw every_cons at plain) in
      let e : columns_of o.tab column (characters (space_before o.uniform punct w ++ (w.text ++ bytes))) ≡ columns_of o.tab (reached_at column punct w) (characters bytes) =
      space_columns o least punct w c h.0 column (w.text ++ bytes) ∙ c.text (column + gap_at o.tab column w + added o least punct w) bytes in
      rw e (⊎_elim (λ (z : (length words ≡ 0) × (bytes ≡ [])). rw (z.1, nothing_read) within) (λ z. z) (fits h.1))

  -- the word goes on the line
  rest_on : (column : ℕ) (punct : Bool) (w : Word) (ws : List Word) (written : List ℕ) → Placeable w
      → reached_at column punct w ≤ o.width
      → Rest (reached_at column punct w) ws written
      → Rest column (w ∷ ws) (space_before o.uniform punct w ++ (w.text ++ written))
  unfolding laid_out
  rest_on column punct w ws written placed within r =
      let space = space_before o.uniform punct w in
      record {
        bytes = space ++ (w.text ++ r.bytes);
        words = w ∷ r.words;
        more = r.more;
        emits = rw r.emits (sym (append_inner space w.text r.bytes (line_feed ++ joined ended r.more)));
        holds = ap (λ (k : List Word). w ∷ k) r.holds;
        one_line = rw (every_append no_feed space (w.text ++ r.bytes), every_append no_feed w.text r.bytes, space_feedless punct w placed.1, placed.1.feedless, r.one_line);
        separators = space ∷ r.separators;
        as_many = ap suc r.as_many;
        between = (space_separates o.glue o.uniform punct w placed.1, r.between);
        laid =
            append_assoc space (w.text ++ r.bytes) line_feed
            ∙ ap (λ (l : List ℕ). space ++ l) (append_assoc w.text r.bytes line_feed ∙ ap (λ (l : List ℕ). w.text ++ l) r.laid);
        fits = λ plain. inr (on_fits column punct w r.bytes r.words placed.0 within r.fits plain);
        each = r.each;
      }

  abbrev written_from : ℕ → Bool → List Word → List ℕ
  written_from column punct ws = emit_rest o.uniform p.indent.bytes punct (quick_from g column punct ws) ws

  step : (starts : Bool) (column : ℕ) (punct : Bool) (w : Word) (ws : List Word) → Placeable w → (starts ≡ false → reached_by g column punct w ≤ o.width)
      → Rest (cond starts (p.indent.columns + w.width) (reached_by g column punct w)) ws (written_from (cond starts (p.indent.columns + w.width) (reached_by g column punct w)) w.ends_punct ws)
      → Rest column (w ∷ ws) (emit_rest o.uniform p.indent.bytes punct (starts ∷ quick_from g (cond starts (p.indent.columns + w.width) (reached_by g column punct w)) w.ends_punct ws) (w ∷ ws))
  unfolding emit_rest
  step true column punct w ws placed within r = rest_broken column w ws _ placed r
  step false column punct w ws placed within r = rest_on column punct w ws _ placed (within refl) r

  rests : (column : ℕ) (punct : Bool) (ws : List Word) → All Placeable ws → Rest column ws (written_from column punct ws)
  unfolding emit_rest
  rests column punct [] a = rest_none column
  rests column punct (w ∷ ws) a =
      let t = goes g column punct w ws in
      rw t.next (step t.starts column punct w ws a.0 t.within (rests (cond t.starts (p.indent.columns + w.width) (reached_by g column punct w)) w.ends_punct ws a.1))

  -- the first line, and the lines after it
  all_lines : (ws : List Word) → ws ≡ words_of o p → 0 < length ws → All Placeable ws → WithinWidth o p (emit o.uniform p.first.bytes p.indent.bytes (quick_breaks g ws) ws)
  unfolding emit quick_breaks
  all_lines [] e h a = absurd (omega arith)
  all_lines (w ∷ ws) e h a =
      let r = rests (p.first.columns + w.width) false ws a.1 in
      let l = line_of p.first.bytes w r.bytes r.words in
      record {
        lines = l ∷ r.more;
        are = rw (joined_cons ended l r.more, r.emits) (first_bytes p.first.bytes w.text r.bytes (joined ended r.more));
        holds = rw (joined_cons words_on l r.more) (ap (λ (k : List Word). w ∷ k) r.holds ∙ e);
        each = (line_keeps p.first w ws _ first (inl refl) a.0 r, r.each);
      }

-- ---- a paragraph of the notes

quick_written : (o : Opts) (p : Paragraph) → o.quick ≡ true → p.mail ≡ false
    → emit o.uniform p.first.bytes p.indent.bytes (quick_breaks (record { width = o.width; goal = o.goal; tab = o.tab; uniform = o.uniform; first = p.first.columns; indent = p.indent.columns }) (words_of o p)) (words_of o p)
    ≡ formatted o p
unfolding formatted setting_of
quick_written o p q m = rw (q, m, or-false o.uniform) refl

row_placed : (o : Opts) (l : Line) (s : Shape) → 1 ≤ o.tab → classify o l.text ≡ Formatted s → All (Counted o) (row_words o false (row_of o l))
unfolding row_of
row_placed o l s h e = row_counted o (row_of o l) s h e (rw e refl)

words_counted : (o : Opts) (lines : List Line) (p : Paragraph) → 1 ≤ o.tab → p.mail ≡ false → Rows o lines p → Settled o lines p → All (Counted o) (words_of o p)
unfolding words_of
words_counted o lines p h m r s =
    rw (r.rows, m)
    (all_joined _ _ (map (row_of o) lines) (all_map _ (row_of o) lines (all_weaken _ _ (λ l (f : (s : Shape) × (classify o l.text ≡ Formatted s)). row_placed o l f.0 h f.1) lines s.formatted)))

-- In quick mode each line of the output of a paragraph that is not mail keeps to the width, unless it holds a single word.
pub quick_keeps_to_the_width : (o : Opts) (notes : List ℕ) (q : Piece) (p : Paragraph)
    → 1 ≤ o.tab
    → o.quick ≡ true
    → q ∈ pieces o notes
    → q.kind ≡ paragraph p
    → p.mail ≡ false
    → WithinWidth o p (piece_output o q)
unfolding output_of
quick_keeps_to_the_width o notes q p h quick m e n =
    let r = rows_of o notes q p m e in
    let s = rw e at (all_at (SettledPiece o) (pieces_settled o notes) m) in
    let u : (o.uniform || p.mail) ≡ o.uniform = ap (λ (b : Bool). o.uniform || b) n ∙ or-false o.uniform in
    let whole : All (Whole o.glue o.uniform) (words_of o p) = rw u at (paragraph_whole o q.lines p r) in
    rw (e, ← quick_written o p quick n)
    (all_lines o p h (s n).first (s n).indent (words_of o p) refl (paragraph_some o q.lines p r) (both (words_of o p) (words_counted o q.lines p h n r (s n)) whole))
  where
    both : (ws : List Word) → All (Counted o) ws → All (Whole o.glue o.uniform) ws → All (λ w. Counted o w × Whole o.glue o.uniform w) ws
    both [] a b = tt
    both (w ∷ ws) a b = ((a.0, b.0), both ws a.1 b.1)

-- ---- the call

-- What a call has written under an accepted option block with quick on keeps to the width, whatever the limits. Nothing else is assumed.
pub what_is_written_keeps_to_the_width : (l : Limits) (block notes : List ℕ) (o : Options) (space : ℕ) (bytes : List ℕ)
    → read_block block ≡ Ok o
    → o.quick ≡ true
    → writing l block notes space ≡ done bytes
    → KeptToWidth (meant block o) notes bytes
unfolding digest meant
what_is_written_keeps_to_the_width l block notes o space bytes b quick h =
    let m = meant block o in
    record {
      are = (measured_done l block notes o bytes b (written_measured l block notes space bytes h).0).bytes_are;
      each = members_all (PieceKeeps m) (pieces m notes) (λ q i p e n. quick_keeps_to_the_width m notes q p (accepted block o b).tab_least quick i e n);
    }

-- (The call that measures and writes in one has limits such as those of RULES 2.2.)
pub what_is_done_keeps_to_the_width : (most words : ℕ) (block notes : List ℕ) (o : Options) (space : ℕ) (bytes : List ℕ)
    → read_block block ≡ Ok o
    → o.quick ≡ true
    → answer (limited most words) block notes space ≡ done bytes
    → KeptToWidth (meant block o) notes bytes
what_is_done_keeps_to_the_width most words block notes o space bytes b quick h =
    what_is_written_keeps_to_the_width (limited most words) block notes o space bytes b quick (together_they_do_what_the_old_call_did most words block notes space ∙ h)

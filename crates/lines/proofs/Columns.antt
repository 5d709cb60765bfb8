-- Columns counted afresh from bytes: glyphs written one after the other take the columns that they take as glyphs. So does the indent of a
-- formatted line, after which stands a character that is no blank.
use Rattle.std.proofs.Common.{Option, Some, None}
use mathlib.Core.Path.{◌≡◌, refl, sym, ap, ◌∙◌}
use mathlib.Core.Bool.{Bool, true, false, cond, not, ◌||◌, and-eq-true_iff}
use mathlib.Core.List.{List, [], ◌∷◌, ◌++◌, append_assoc}
use Prim.Native.Nat.{ℕ, ◌+◌}
use native.Mathlib.Omega.{arith}
use lib.ListN.{length, take, length-append}
use lib.Seq.{take-append_seam}
use borrow.Author.Tests.{not-true}
use Rattle.lists.specs.Runs.{while, behind, every, joined}
use Rattle.lists.specs.Theorems.All.{All}
use Rattle.lists.proofs.Parts.{while_nil, while_behind, every_cons, joined_nil, joined_cons, joined_append}
use Rattle.lists.proofs.All.{all_front}
use Rattle.lists.proofs.Runs.{while_end}
use Rattle.lists.proofs.RunParts.{behind_fails}
use Rattle.text.specs.Characters.{Glyph, characters, glyphs, is_blank, is_good, extent}
use Rattle.text.proofs.Extents.{glyphs_sound}
use Rattle.text.proofs.Glyphs.{characters_past}
use Rattle.text.proofs.Edges.{glyphs_joined}
use Rattle.text.proofs.Spelling.{Spells, Undamaged, glyphs_spell, read_again}
use Rattle.options.specs.Opts.{Opts}
use Rattle.lines.specs.Classes.{glyphs_before, glyphs_from, column_behind, columns_of, prefix_found, prefix_size, skip_found, somewhere, shape_at, class_behind, classify}
use Rattle.lines.specs.declared.Shape.{Shape}
use Rattle.lines.specs.declared.Class.TheVariants.{Blank, Plain, Formatted}
use Rattle.lines.proofs.Ink.{up_to_from, from_extent}

abbrev pub bytes_in : Glyph → List ℕ
bytes_in g = g.bytes

-- by a glyph's number and width alone
column_alike : (tab column : ℕ) (a b : Glyph) → a.code ≡ b.code → a.width ≡ b.width → column_behind tab column a ≡ column_behind tab column b
unfolding column_behind
column_alike tab column a b c w = rw (c, w)

columns_first : (tab column : ℕ) (a b : Glyph) (rest : List Glyph) → a.code ≡ b.code → a.width ≡ b.width → columns_of tab column (a ∷ rest) ≡ columns_of tab (column_behind tab column b) rest
unfolding columns_of
columns_first tab column a b rest c w = ap (λ (k : ℕ). columns_of tab k rest) (column_alike tab column a b c w)

pub columns_again : (tab column : ℕ) (gs : List Glyph) (ys : List ℕ) → All Spells gs
    → columns_of tab column (characters (joined bytes_in gs ++ ys)) ≡ columns_of tab (columns_of tab column gs) (characters ys)
unfolding columns_of
columns_again tab column [] ys s = rw (joined_nil bytes_in) refl
columns_again tab column (g ∷ gs) ys s =
    let r = read_again g (joined bytes_in gs ++ ys) s.0 in
    ap (λ (l : List ℕ). columns_of tab column (characters l)) (rw (joined_cons bytes_in g gs) (append_assoc g.bytes (joined bytes_in gs) ys))
    ∙ ap (columns_of tab column) r.first
    ∙ columns_first tab column r.again g (characters (joined bytes_in gs ++ ys)) r.same_code r.same_width
    ∙ columns_again tab (column_behind tab column g) gs ys s.1

-- so do they answer a test of their numbers and widths
pub every_again : (test : ℕ → ℕ → Bool) (gs : List Glyph) → All Spells gs → every (λ g. test g.code g.width) (characters (joined bytes_in gs)) ≡ every (λ g. test g.code g.width) gs
every_again test [] s = rw (joined_nil bytes_in) (ap (every (λ (g : Glyph). test g.code g.width)) (characters_past [] 0 (omega arith)))
every_again test (g ∷ gs) s =
    let r = read_again g (joined bytes_in gs) s.0 in
    rw (joined_cons bytes_in g gs, r.first, every_cons (λ (h : Glyph). test h.code h.width) r.again (characters (joined bytes_in gs)), every_cons (λ (h : Glyph). test h.code h.width) g gs, r.same_code, r.same_width, every_again test gs s.1)

good_spell : (gs : List Glyph) → All Undamaged gs → every is_good gs ≡ true → All Spells gs
good_spell [] a e = tt
good_spell (g ∷ gs) a e =
    let h = (and-eq-true_iff (not g.damaged) (every is_good gs)).0 (rw every_cons at e) in
    (a.0 (not-true g.damaged h.0), good_spell gs a.1 h.1)

-- A formatted line: its indent, and after it a character that is no blank.
pub record Indented (o : Opts) (line : List ℕ) (s : Shape) : Type 0 where
  pub front : List Glyph
  pub rest : List Glyph
  pub parts : glyphs o.glue line ≡ front ++ rest
  pub end : extent front ≡ s.indent_end
  pub columns : columns_of o.tab 0 front ≡ s.indent_length
  pub ink : while is_blank rest ≡ []
  pub spell : All Spells (front ++ rest)

-- after leading blanks no blank leads
none_leads : (gs : List Glyph) → while is_blank (behind is_blank gs) ≡ []
none_leads gs = go (behind is_blank gs) refl
  where
    go : (bs : List Glyph) → behind is_blank gs ≡ bs → while is_blank bs ≡ []
    go [] e = while_nil is_blank
    go (b ∷ bs) e = while_end is_blank b bs (behind_fails is_blank gs e)

module _ (o : Opts) (line : List ℕ) where
  abbrev gs : List Glyph
  gs = glyphs o.glue line

  shaped : (place : ℕ) → every is_good gs ≡ true → Indented o line (shape_at o.tab (prefix_size o.prefix) gs place)
  unfolding shape_at
  shaped place good =
      let end = place + prefix_size o.prefix in
      let behindPrefix = glyphs_from end gs in
      let parts : glyphs_before end gs ++ while is_blank behindPrefix ++ behind is_blank behindPrefix ≡ gs = append_assoc (glyphs_before end gs) (while is_blank behindPrefix) (behind is_blank behindPrefix) ∙ rw while_behind (up_to_from end gs) in
      record {
        front = glyphs_before end gs ++ while is_blank behindPrefix;
        rest = behind is_blank behindPrefix;
        parts = sym parts;
        end = refl;
        columns = refl;
        ink = none_leads behindPrefix;
        spell = rw parts (good_spell gs (glyphs_spell o.glue line) good);
      }

  pub formatted_indented : (s : Shape) → classify o line ≡ Formatted s → Indented o line s
  unfolding classify
  formatted_indented s e = blank (every is_blank gs) (every is_good gs) refl (prefix_found o.exact_prefix o.prefix line gs) e
    where
      behind_prefix : (place : ℕ) (b : Bool) → every is_good gs ≡ true → cond b Plain (Formatted (shape_at o.tab (prefix_size o.prefix) gs place)) ≡ Formatted s → Indented o line s
      behind_prefix place true g e = absurd (let z : ◌≡◌ {A = ℕ} 0 1 = cc in omega arith)
      behind_prefix place false g e =
          let k : shape_at o.tab (prefix_size o.prefix) gs place ≡ s = cc in
          rw (← k) (shaped place g)

      found : (f : Option ℕ) → every is_good gs ≡ true → class_behind o line gs f ≡ Formatted s → Indented o line s
      found None g e = absurd (let z : ◌≡◌ {A = ℕ} 0 1 = cc in omega arith)
      found (Some place) g e = behind_prefix place (every is_blank (glyphs_from (place + prefix_size o.prefix) gs) || somewhere (skip_found o.exact_skip o.skip line gs)) g e

      blank : (b t : Bool) → every is_good gs ≡ t → (f : Option ℕ) → cond b Blank (cond t (class_behind o line gs f) Plain) ≡ Formatted s → Indented o line s
      blank true t g f e = absurd (let z : ◌≡◌ {A = ℕ} 0 1 = cc in omega arith)
      blank false true g f e = found f g e
      blank false false g f e = absurd (let z : ◌≡◌ {A = ℕ} 0 1 = cc in omega arith)

module _ (o : Opts) (line : List ℕ) (s : Shape) (i : Indented o line s) where
  -- the glyphs from the indent's end on
  pub from_indented : glyphs_from s.indent_end (glyphs o.glue line) ≡ i.rest
  from_indented =
      rw (← i.end, i.parts)
      (from_extent i.front i.rest (all_front _ i.front i.rest (rw (← i.parts) (glyphs_sound o.glue line))))

  extent_joined : (front : List Glyph) → extent front ≡ length (joined bytes_in front)
  unfolding extent
  extent_joined [] = rw joined_nil refl
  extent_joined (g ∷ front) = rw (joined_cons bytes_in g front, length-append, extent_joined front)

  indent_bytes : take s.indent_end line ≡ joined bytes_in i.front
  indent_bytes =
      ap (λ (l : List ℕ). take s.indent_end l) (sym (glyphs_joined o.glue line) ∙ ap (joined bytes_in) i.parts ∙ joined_append bytes_in i.front i.rest)
      ∙ rw (← i.end, extent_joined i.front) (take-append_seam (joined bytes_in i.front) (joined bytes_in i.rest))

  -- the indent's bytes take its columns, whatever is after them
  pub indent_columns : (ys : List ℕ) → columns_of o.tab 0 (characters (take s.indent_end line ++ ys)) ≡ columns_of o.tab s.indent_length (characters ys)
  indent_columns ys = rw (indent_bytes, ← i.columns) (columns_again o.tab 0 i.front ys (all_front _ i.front i.rest i.spell))

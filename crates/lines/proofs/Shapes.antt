-- For callers: what is known of a formatted line. Its prefix and its indent lie in the line, its columns are small, and at the indent's
-- end stands a character that is not blank.
use Rattle.std.proofs.Common.{Option, Some, None}
use mathlib.Core.Path.{◌≡◌, refl, sym, ap, ◌∙◌}
use mathlib.Core.Bool.{Bool, true, false, cond, ◌||◌}
use mathlib.Core.List.{List, [], ◌∷◌, ◌++◌, append_assoc}
use Prim.Native.Nat.{ℕ, ◌+◌, ◌*◌, ◌≤◌, ◌<◌}
use native.Mathlib.Omega.{arith}
use lib.Dec.{ltb}
use lib.ListN.{length, drop}
use borrow.Author.Tests.{ltb-true, ltb-false}
use Rattle.lists.specs.Runs.{while, behind, every}
use Rattle.lists.proofs.RunsAt.{behind_first}
use Rattle.lists.specs.Theorems.All.{All}
use Rattle.lists.proofs.All.{all_front}
use Rattle.lists.proofs.Runs.{while_end}
use Rattle.lists.proofs.Parts.{while_behind}
use Rattle.text.specs.Characters.{Glyph, characters, glyphs, is_blank, is_good, extent}
use Rattle.text.specs.Cited.Places.{settle, ink_glyphs}
use Rattle.text.proofs.Glyphs.{characters_past}
use Rattle.text.proofs.Glue.{settle_none}
use Rattle.text.proofs.Extents.{Sound, glyphs_sound}
use Rattle.text.proofs.Edges.{ink_stands}
use Rattle.options.specs.Opts.{Opts, Text, absent, given}
use Rattle.lines.specs.Classes.{glyphs_before, glyphs_from, prefix_found, prefix_size, skip_found, somewhere, shape_at, class_behind, classify}
use Rattle.lines.specs.declared.Shape.{Shape}
use Rattle.lines.specs.declared.Class.TheVariants.{Blank, Plain, Formatted}
use Rattle.lines.proofs.Prefixes.{search_within}
use Rattle.lines.proofs.Bounds.{columns_front, columns_near, parted}
use Rattle.lines.proofs.Ink.{up_to_from, from_extent}

-- what a formatted line was found to be
record Formed (o : Opts) (line : List ℕ) (s : Shape) : Type 0 where
  at : ℕ
  good : every is_good (glyphs o.glue line) ≡ true
  found : prefix_found o.exact_prefix o.prefix line (glyphs o.glue line) ≡ Some at
  text : every is_blank (glyphs_from (at + prefix_size o.prefix) (glyphs o.glue line)) ≡ false
  shape : shape_at o.tab (prefix_size o.prefix) (glyphs o.glue line) at ≡ s

plain_formatted : (s : Shape) → Plain ≡ Formatted s → ⊥
plain_formatted s e = let z : ◌≡◌ {A = ℕ} 0 1 = cc in omega arith

blank_formatted : (s : Shape) → Blank ≡ Formatted s → ⊥
blank_formatted s e = let z : ◌≡◌ {A = ℕ} 0 1 = cc in omega arith

module _ (o : Opts) (line : List ℕ) (s : Shape) where
  formed : classify o line ≡ Formatted s → Formed o line s
  unfolding classify
  formed h = pick (every is_blank gs) (every is_good gs) refl refl h
    where
      gs : List Glyph
      gs = glyphs o.glue line

      found : Option ℕ
      found = prefix_found o.exact_prefix o.prefix line gs

      skipped : Bool
      skipped = somewhere (skip_found o.exact_skip o.skip line gs)

      place : (f : Option ℕ) → every is_good gs ≡ true → found ≡ f → class_behind o line gs f ≡ Formatted s → Formed o line s
      place None g e c = absurd (plain_formatted s c)
      place (Some at) g e c = end (every is_blank (glyphs_from (at + prefix_size o.prefix) gs)) skipped refl c
        where
          end : (t u : Bool) → every is_blank (glyphs_from (at + prefix_size o.prefix) gs) ≡ t → cond (t || u) Plain (Formatted (shape_at o.tab (prefix_size o.prefix) gs at)) ≡ Formatted s → Formed o line s
          end true u b k = absurd (plain_formatted s k)
          end false true b k = absurd (plain_formatted s k)
          end false false b k = record { at = at; good = g; found = e; text = b; shape = cc }

      pick : (t u : Bool) → every is_blank gs ≡ t → every is_good gs ≡ u → cond t Blank (cond u (class_behind o line gs found) Plain) ≡ Formatted s → Formed o line s
      pick true u b g c = absurd (blank_formatted s c)
      pick false false b g c = absurd (plain_formatted s c)
      pick false true b g c = place found g refl c

  -- the prefix that is found lies in the line
  prefix_within : (t : Text) (at : ℕ) → prefix_found o.exact_prefix t line (glyphs o.glue line) ≡ Some at → at + prefix_size t ≤ length line
  prefix_within absent at e = let z : 0 ≡ at = cc in omega arith
  prefix_within (given p) at e = omega (arith, search_within o.exact_prefix o.glue p line 0 at e)

-- where a glyph stands, the line goes on
first_within : (glue ink : Bool) (line : List ℕ) (at : ℕ) (g : Glyph) (gs : List Glyph) → settle glue ink (characters (drop at line)) ≡ g ∷ gs → at < length line
first_within glue ink line at g gs e = pick (ltb at (length line)) refl
  where
    pick : (t : Bool) → ltb at (length line) ≡ t → at < length line
    pick true k = ltb-true at (length line) k
    pick false k =
        let f = sym (settle_none glue ink) ∙ ap (settle glue ink) (sym (characters_past line at (ltb-false at (length line) k))) ∙ e in
        absurd (let z : ◌≡◌ {A = ℕ} 0 1 = cc in omega arith)

-- what callers may know of it
pub record Known (o : Opts) (line : List ℕ) (s : Shape) : Type 0 where
  pub prefix : s.prefix_place + prefix_size o.prefix ≤ length line
  pub indent : s.indent_end < length line
  pub columns : s.indent_length ≤ 100 * length line
  pub margin : s.prefix_length ≤ s.indent_length
  pub good : every is_good (glyphs o.glue line) ≡ true
  pub rest : glyphs_from s.indent_end (glyphs o.glue line) ≡ ink_glyphs o.glue (drop s.indent_end line)
  pub ink : while is_blank (ink_glyphs o.glue (drop s.indent_end line)) ≡ []

-- the same of the definition's shape
module _ (o : Opts) (least : 1 ≤ o.tab) (most : o.tab ≤ 100) (line : List ℕ) (at : ℕ) (good : every is_good (glyphs o.glue line) ≡ true)
    (found : prefix_found o.exact_prefix o.prefix line (glyphs o.glue line) ≡ Some at)
    (text : every is_blank (glyphs_from (at + prefix_size o.prefix) (glyphs o.glue line)) ≡ false) where
  known_at : Known o line (shape_at o.tab (prefix_size o.prefix) (glyphs o.glue line) at)
  unfolding shape_at
  known_at =
      let gs = glyphs o.glue line in
      let end = at + prefix_size o.prefix in
      let margin = glyphs_before end gs in
      let indent = margin ++ while is_blank (glyphs_from end gs) in
      let behindIndent = behind is_blank (glyphs_from end gs) in
      let f = behind_first is_blank (glyphs_from end gs) text in
      let whole : indent ++ behindIndent ≡ gs = append_assoc margin (while is_blank (glyphs_from end gs)) behindIndent ∙ rw (while_behind is_blank (glyphs_from end gs)) (up_to_from end gs) in
      let p = parted o.glue line indent behindIndent whole in
      let first = sym p.1 ∙ f.2 in
      let stands = ink_stands o.glue p.0 (drop (extent indent) line) f.0 f.1 first f.3 in
      let sound : All Sound indent = all_front _ indent behindIndent (rw whole (glyphs_sound o.glue line)) in
      record {
        prefix = prefix_within o line (shape_at o.tab (prefix_size o.prefix) gs at) o.prefix at found;
        indent = first_within o.glue p.0 line (extent indent) f.0 f.1 first;
        columns = omega (arith, rw whole at (columns_front o.tab least 0 indent behindIndent), columns_near o.tab least most o.glue line 0);
        margin = columns_front o.tab least 0 margin (while is_blank (glyphs_from end gs));
        good = good;
        rest = ap (glyphs_from (extent indent)) (sym whole) ∙ from_extent indent behindIndent sound ∙ p.1 ∙ stands;
        ink = ap (while is_blank) (sym stands ∙ first) ∙ while_end is_blank f.0 f.1 f.3;
      }

-- from the answer of classify
pub known : (o : Opts) (line : List ℕ) (s : Shape) → 1 ≤ o.tab → o.tab ≤ 100 → classify o line ≡ Formatted s → Known o line s
known o line s least most h = let k = formed o line s h in rw k.shape at (known_at o least most line k.at k.good k.found k.text)

-- A paragraph's lines are formatted, and the words of its first line and of its other lines begin where the code was told: at ink.
use mathlib.Core.Path.{◌≡◌, refl, sym}
use mathlib.Core.Bool.{Bool, true, false, cond, ◌&&◌, ◌||◌, false≢true}
use mathlib.Core.List.{List, [], ◌∷◌}
use Prim.Native.Nat.{ℕ, suc, ◌≤◌}
use native.Mathlib.Omega.{arith}
use lib.Dec.{eqb}
use lib.ListN.{take}
use borrow.Author.Tests.{eqb-true}
use Rattle.lists.specs.Theorems.All.{All}
use Rattle.options.specs.Opts.{Opts}
use Rattle.lines.specs.Lines.{Line}
use Rattle.lines.specs.Classes.{classify}
use Rattle.lines.specs.declared.Shape.{Shape}
use Rattle.lines.specs.declared.Class.{Class}
use Rattle.lines.specs.declared.Class.TheVariants.{Blank, Plain, Formatted}
use Rattle.lines.proofs.Shapes.{known}
use Rattle.pieces.specs.Pieces.{agrees, second_rule, follow, alone, joins, second_as, second_of, follow_second, further}
use Rattle.pieces.specs.Cited.Places.{later_start, start_at}
use Rattle.pieces.specs.Cited.Bounds.{InkBegins, AllBegin}

-- a formatted line whose words begin at a place
pub record Starts (o : Opts) (start : ℕ) (l : Line) : Type 0 where
  pub shape : Shape
  pub formatted : classify o l.text ≡ Formatted shape
  pub indent : shape.indent_end ≡ start

-- lines of which the first begins at start, the others at later
abbrev pub AllStart : Opts → ℕ → ℕ → List Line → Type 0
AllStart o start later [] = Unit {0}
AllStart o start later (l ∷ ls) = Starts o start l × All (Starts o later) ls

agree_indent : (a b : Shape) → agrees a b ≡ true → b.indent_end ≡ a.indent_end
unfolding agrees
agree_indent a b e = sym (eqb-true a.indent_end b.indent_end (pick (eqb a.indent_end b.indent_end) _ _ _ e))
  where
    pick : (p q r s : Bool) → (p && q && r && s) ≡ true → p ≡ true
    pick true q r s h = refl
    pick false q r s h = absurd (false≢true h)

module _ (o : Opts) where
  follow_starts : (test : Shape → Bool) (start : ℕ) → ((s : Shape) → test s ≡ true → s.indent_end ≡ start) → (ls : List Line) → All (Starts o start) (take (follow o test ls) ls)
  unfolding follow
  follow_starts test start at [] = tt
  follow_starts test start at (l ∷ ls) = go (classify o l.text) refl (follow_starts test start at ls)
    where
      join : (t : Bool) (s : Shape) → classify o l.text ≡ Formatted s → test s ≡ t → All (Starts o start) (take (follow o test ls) ls)
          → All (Starts o start) (take (elim t as (λ x. ℕ) [ true ↦ suc (follow o test ls) | false ↦ 0 ]) (l ∷ ls))
      join true s e h rest = (record { shape = s; formatted = e; indent = at s h }, rest)
      join false s e h rest = tt

      go : (k : Class) → classify o l.text ≡ k → All (Starts o start) (take (follow o test ls) ls)
          → All (Starts o start) (take (elim k as (λ x. ℕ) [ Blank ↦ 0 | Plain ↦ 0 | Formatted s ↦ elim (test s) as (λ x. ℕ) [ true ↦ suc (follow o test ls) | false ↦ 0 ] ]) (l ∷ ls))
      go Blank e rest = tt
      go Plain e rest = tt
      go (Formatted s) e rest = join (test s) s e refl rest

  second_starts : (s : Shape) (ls : List Line) → All (Starts o (later_start s (second_of o s ls))) (take (follow_second o ls (second_of o s ls)) ls)
  unfolding second_of
  second_starts s [] = tt
  second_starts s (l ∷ ls) = go (classify o l.text) refl
    where
      join : (t : Bool) (b : Shape) → classify o l.text ≡ Formatted b
          → All (Starts o (later_start s (cond t (joins l.text b) alone))) (take (follow_second o (l ∷ ls) (cond t (joins l.text b) alone)) (l ∷ ls))
      join true b e = (record { shape = b; formatted = e; indent = refl }, follow_starts (agrees b) b.indent_end (agree_indent b) ls)
      join false b e = tt

      go : (k : Class) → classify o l.text ≡ k → All (Starts o (later_start s (second_as o s l.text k))) (take (follow_second o (l ∷ ls) (second_as o s l.text k)) (l ∷ ls))
      go Blank e = tt
      go Plain e = tt
      go (Formatted b) e = join (second_rule o.tagged s b) b e

  pub further_starts : (s : Shape) (ls : List Line) → All (Starts o (start_at o false s ls)) (take (further o false s ls) ls)
  unfolding further start_at
  further_starts s ls = go o.split (o.crown || o.tagged)
    where
      go : (split two : Bool) → All (Starts o (elim two as (λ x. ℕ) [ true ↦ later_start s (second_of o s ls) | false ↦ s.indent_end ]))
          (take (elim split as (λ x. ℕ) [ true ↦ 0 | false ↦ elim two as (λ x. ℕ) [ true ↦ follow_second o ls (second_of o s ls) | false ↦ follow o (agrees s) ls ] ]) ls)
      go true two = tt
      go false true = second_starts s ls
      go false false = follow_starts (agrees s) s.indent_end (agree_indent s) ls

  -- ---- so ink is at each start

  module _ (least : 1 ≤ o.tab) (most : o.tab ≤ 100) where
    begin : (start : ℕ) (l : Line) → Starts o start l → InkBegins o.glue start l.text
    begin start l s =
        let k = known o l.text s.shape least most s.formatted in
        rw (← s.indent) (record { within = omega (arith, k.indent); glyph = k.rest; ink = k.ink })

    all_begin : (start : ℕ) (ls : List Line) → All (Starts o start) ls → AllBegin o.glue start start ls
    unfolding AllBegin
    all_begin start [] a = tt
    all_begin start (l ∷ ls) a = (begin start l a.0, all_begin start ls a.1)

    pub starts_begin : (start later : ℕ) (ls : List Line) → AllStart o start later ls → AllBegin o.glue start later ls
    unfolding AllBegin
    starts_begin start later [] a = tt
    starts_begin start later (l ∷ ls) a = (begin start l a.0, all_begin later ls a.1)

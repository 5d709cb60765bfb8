-- How far a paragraph reaches: not past the lines, and not past a line of another class than formatted, whatever is after it.
use mathlib.Core.Path.{◌≡◌, refl, sym, ap, ◌∙◌}
use mathlib.Core.Bool.{Bool, true, false, cond, ◌||◌}
use mathlib.Core.List.{List, [], ◌∷◌, ◌++◌}
use Prim.Native.Nat.{ℕ, suc, ◌≤◌}
use native.Mathlib.Omega.{arith}
use lib.ListN.{length}
use Rattle.options.specs.Opts.{Opts}
use Rattle.lines.specs.Lines.{Line}
use Rattle.lines.specs.Classes.{classify}
use Rattle.lines.specs.declared.Shape.{Shape}
use Rattle.lines.specs.declared.Class.{Class}
use Rattle.lines.specs.declared.Class.TheVariants.{Blank, Plain, Formatted}
use Rattle.pieces.specs.Pieces.{Indent, continues, agrees, follow, Second, alone, joins, second_as, second_of, follow_second, further, indent_of, later_indent, indent_for}

module _ (o : Opts) where
  -- a line that no paragraph takes
  abbrev pub Stops : Line → Type 0
  Stops l = (s : Shape) → classify o l.text ≡ Formatted s → ⊥

  pub blank_stops : (l : Line) → classify o l.text ≡ Blank → Stops l
  blank_stops l e s f = let z : ◌≡◌ {A = ℕ} 0 1 = cc in omega arith

  pub plain_stops : (l : Line) → classify o l.text ≡ Plain → Stops l
  plain_stops l e s f = let z : ◌≡◌ {A = ℕ} 0 1 = cc in omega arith

  pub class_cases : (P : Type 0) (l : Line) → (Stops l → P) → ((s : Shape) → classify o l.text ≡ Formatted s → P) → P
  class_cases P l stop more = go (classify o l.text) refl
    where
      go : (c : Class) → classify o l.text ≡ c → P
      go Blank e = stop (blank_stops l e)
      go Plain e = stop (plain_stops l e)
      go (Formatted s) e = more s e

  module _ (test : Shape → Bool) (l : Line) (ls : List Line) where
    pub follow_stop : Stops l → follow o test (l ∷ ls) ≡ 0
    unfolding follow
    follow_stop stops = go (classify o l.text) refl
      where
        go : (c : Class) → classify o l.text ≡ c → follow o test (l ∷ ls) ≡ 0
        go Blank e = rw (follow, e)
        go Plain e = rw (follow, e)
        go (Formatted s) e = absurd (stops s e)

    pub follow_more : (s : Shape) → classify o l.text ≡ Formatted s → follow o test (l ∷ ls) ≡ cond (test s) (suc (follow o test ls)) 0
    unfolding follow
    follow_more s e = go (test s) refl
      where
        go : (b : Bool) → test s ≡ b → follow o test (l ∷ ls) ≡ cond b (suc (follow o test ls)) 0
        go true t = rw (follow, e, t)
        go false t = rw (follow, e, t)

  -- ---- how far a paragraph reaches: within the lines

  follow_le : (test : Shape → Bool) (ls : List Line) → follow o test ls ≤ length ls
  unfolding follow
  follow_le test [] = omega arith
  follow_le test (l ∷ ls) = class_cases _ l (λ st. rw (follow_stop test l ls st) (omega arith)) (λ s e. rw (follow_more test l ls s e) (go (test s) (follow_le test ls)))
    where
      go : (b : Bool) → follow o test ls ≤ length ls → cond b (suc (follow o test ls)) 0 ≤ suc (length ls)
      go true h = omega arith
      go false h = omega arith

  second_le : (a : Shape) (ls : List Line) → follow_second o ls (second_of o a ls) ≤ length ls
  unfolding second_of
  second_le a [] = omega arith
  second_le a (l ∷ ls) = go (second_as o a l.text (classify o l.text))
    where
      go : (t : Second) → follow_second o (l ∷ ls) t ≤ suc (length ls)
      go alone = omega arith
      go (joins text b) = let h = follow_le (agrees b) ls in omega arith

  -- the count of lines after the first, its tests in a row
  pub further_is : (mail : Bool) (a : Shape) (ls : List Line)
      → further o mail a ls ≡ cond o.split 0 (cond mail (follow o (continues o) ls) (cond (o.crown || o.tagged) (follow_second o ls (second_of o a ls)) (follow o (agrees a) ls)))
  unfolding further
  further_is mail a ls = go o.split mail (o.crown || o.tagged)
    where
      go : (split mail two : Bool)
          → elim split as (λ t. ℕ) [
            | true ↦ 0
            | false ↦ elim mail as (λ t. ℕ) [
              | true ↦ follow o (continues o) ls
              | false ↦ elim two as (λ t. ℕ) [ true ↦ follow_second o ls (second_of o a ls) | false ↦ follow o (agrees a) ls ]
            ]
          ]
          ≡ cond split 0 (cond mail (follow o (continues o) ls) (cond two (follow_second o ls (second_of o a ls)) (follow o (agrees a) ls)))
      go true mail two = refl
      go false true two = refl
      go false false true = refl
      go false false false = refl

  pub further_le : (mail : Bool) (a : Shape) (ls : List Line) → further o mail a ls ≤ length ls
  further_le mail a ls = rw further_is (either o.split (omega arith) (either mail (follow_le (continues o) ls) (either (o.crown || o.tagged) (second_le a ls) (follow_le (agrees a) ls))))
    where
      either : {n m : ℕ} (b : Bool) → n ≤ length ls → m ≤ length ls → cond b n m ≤ length ls
      either true h k = h
      either false h k = k

  -- ---- with a line after the lines that stops a paragraph, the same

  module _ (l : Line) (after : List Line) (stops : Stops l) where
    follow_append : (test : Shape → Bool) (ls : List Line) → follow o test (ls ++ l ∷ after) ≡ follow o test ls
    unfolding follow
    follow_append test [] = follow_stop test l after stops
    follow_append test (k ∷ ls) =
        class_cases _ k (λ st. follow_stop test k (ls ++ l ∷ after) st ∙ sym (follow_stop test k ls st))
        (λ s e. follow_more test k (ls ++ l ∷ after) s e ∙ ap (λ (n : ℕ). cond (test s) (suc n) 0) (follow_append test ls) ∙ sym (follow_more test k ls s e))

    second_append : (a : Shape) (ls : List Line) → second_of o a (ls ++ l ∷ after) ≡ second_of o a ls
    unfolding second_of
    second_append a [] = go (classify o l.text) refl
      where
        go : (c : Class) → classify o l.text ≡ c → second_as o a l.text c ≡ alone
        go Blank e = refl
        go Plain e = refl
        go (Formatted s) e = absurd (stops s e)
    second_append a (k ∷ ls) = refl

    follow_second_append : (a : Shape) (ls : List Line) → follow_second o (ls ++ l ∷ after) (second_of o a (ls ++ l ∷ after)) ≡ follow_second o ls (second_of o a ls)
    unfolding second_of
    follow_second_append a [] = ap (follow_second o (l ∷ after)) (second_append a [])
    follow_second_append a (k ∷ ls) = go (second_as o a k.text (classify o k.text))
      where
        go : (t : Second) → follow_second o (k ∷ ls ++ l ∷ after) t ≡ follow_second o (k ∷ ls) t
        go alone = refl
        go (joins text b) = ap suc (follow_append (agrees b) ls)

    pub further_append : (mail : Bool) (a : Shape) (ls : List Line) → further o mail a (ls ++ l ∷ after) ≡ further o mail a ls
    further_append mail a ls = rw (further_is mail a (ls ++ l ∷ after), further_is mail a ls, follow_append (continues o) ls, follow_second_append a ls, follow_append (agrees a) ls)

    pub indent_append : (mail : Bool) (text : List ℕ) (s : Shape) (ls : List Line) → indent_for o mail text s (ls ++ l ∷ after) ≡ indent_for o mail text s ls
    unfolding indent_for
    indent_append true text s ls = refl
    indent_append false text s ls = go (o.crown || o.tagged)
      where
        later : List Line → Bool → Indent
        later ks two = elim two as (λ t. Indent) [ true ↦ later_indent o (indent_of text s) (second_of o s ks) | false ↦ indent_of text s ]

        go : (two : Bool) → later (ls ++ l ∷ after) two ≡ later ls two
        go true = ap (later_indent o (indent_of text s)) (second_append s ls)
        go false = refl

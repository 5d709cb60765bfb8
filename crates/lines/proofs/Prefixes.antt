-- A prefix looked for: it stands here, it cannot stand further on, or one blank on; and where it is found it lies within the line.
use Rattle.std.proofs.Common.{Some, None}
use mathlib.Core.Path.{◌≡◌, refl, sym, ◌∙◌}
use mathlib.Core.Bool.{Bool, true, false, not, ◌&&◌, and-false}
use mathlib.Core.List.{List, [], ◌∷◌}
use Prim.Native.Nat.{ℕ, ◌+◌, ◌-◌, ◌≤◌}
use native.Mathlib.Omega.{arith}
use lib.ListN.{length, drop, length-append}
use lib.Seq.{drop-drop, drop-append_seam}
use Rattle.lists.specs.Runs.{while, begins, joined}
use Rattle.lists.proofs.Runs.{while_more}
use Rattle.lists.proofs.RunsAt.{begins_within}
use Rattle.text.specs.Characters.{Glyph, glyph, glyphs, is_blank}
use Rattle.text.proofs.Glyphs.{Here}
use Rattle.text.proofs.Edges.{glyphs_joined, blank_on}
use Rattle.lines.specs.Classes.{search}

module _ (p xs : List ℕ) (place : ℕ) where
  pub search_found : (exact : Bool) (gs : List Glyph) → begins p xs ≡ true → search exact p xs place gs ≡ Some place
  unfolding search
  search_found exact [] h = rw h
  search_found exact (g ∷ gs) h = rw (h, search)

  search_first : (exact : Bool) (g : Glyph) (gs : List Glyph) → begins p xs ≡ false → (g.blank && not exact) ≡ false → search exact p xs place (g ∷ gs) ≡ None
  unfolding search
  search_first exact g gs h e = rw (h, e, search)

  search_more : (exact : Bool) (g : Glyph) (gs : List Glyph) → begins p xs ≡ false → (g.blank && not exact) ≡ true
      → search exact p xs place (g ∷ gs) ≡ search exact p (drop (length g.bytes) xs) (place + length g.bytes) gs
  unfolding search
  search_more exact g gs h e = rw (h, e, search)

  pub search_exact : (exact : Bool) (gs : List Glyph) → begins p xs ≡ false → exact ≡ true → search exact p xs place gs ≡ None
  unfolding search
  search_exact exact [] h e = rw h
  search_exact exact (g ∷ gs) h e = search_first exact g gs h (rw e (and-false g.blank))

  pub search_stop : (exact : Bool) (gs : List Glyph) → begins p xs ≡ false → while is_blank gs ≡ [] → search exact p xs place gs ≡ None
  unfolding search
  search_stop exact [] h e = rw h
  search_stop exact (g ∷ gs) h e = pick g.blank refl
    where
      pick : (t : Bool) → g.blank ≡ t → search exact p xs place (g ∷ gs) ≡ None
      pick true b = absurd (let f = while_more is_blank g gs b in let z : ◌≡◌ {A = ℕ} 0 1 = cc in omega arith)
      pick false b = search_first exact g gs h (rw b)

-- one blank on
pub search_on : (exact glue : Bool) (p line : List ℕ) (at code next : ℕ) → Here true line at code next → begins p (drop at line) ≡ false → exact ≡ false
    → search exact p (drop at line) at (glyphs glue (drop at line)) ≡ search exact p (drop next line) next (glyphs glue (drop next line))
search_on exact glue p line at code next g h f =
    let e : at + (next - at) ≡ next = omega (arith, g.on) in
    let b : ((glyph (drop at line)).blank && not exact) ≡ true = rw (g.is_blank, f) in
    rw (blank_on glue line at g, search_more p (drop at line) at exact (glyph (drop at line)) (glyphs glue (drop next line)) h b, g.count, drop-drop (next - at) at line, e)

-- a prefix that is found ends within the line
module _ (exact : Bool) (p : List ℕ) (q : ℕ) where
  bytes_of : List Glyph → List ℕ
  bytes_of gs = joined (λ g. g.bytes) gs

  found_here : (xs : List ℕ) (place : ℕ) → begins p xs ≡ true → Some place ≡ Some q → q + length p ≤ place + length xs
  found_here xs place h e = let k : place ≡ q = cc in omega (arith, begins_within p xs h)

  nowhere : {A : Type 0} → None ≡ Some q → A
  nowhere e = absurd (let z : ◌≡◌ {A = ℕ} 0 1 = cc in omega arith)

  within : (gs : List Glyph) (place : ℕ) → search exact p (bytes_of gs) place gs ≡ Some q → q + length p ≤ place + length (bytes_of gs)
  unfolding bytes_of joined while
  within [] place e = pick (begins p []) refl
    where
      pick : (t : Bool) → begins p [] ≡ t → q + length p ≤ place + 0
      pick true h = found_here [] place h (sym (search_found p [] place exact [] h) ∙ e)
      pick false h = nowhere (sym (search_stop p [] place exact [] h refl) ∙ e)
  within (g ∷ gs) place e = pick (begins p (bytes_of (g ∷ gs))) (g.blank && not exact) refl refl (within gs (place + length g.bytes))
    where
      xs : List ℕ
      xs = bytes_of (g ∷ gs)

      behind : ℕ
      behind = place + length g.bytes

      pick : (t u : Bool) → begins p xs ≡ t → (g.blank && not exact) ≡ u → (search exact p (bytes_of gs) behind gs ≡ Some q → q + length p ≤ behind + length (bytes_of gs)) → q + length p ≤ place + length xs
      pick true u h b rest = found_here xs place h (sym (search_found p xs place exact (g ∷ gs) h) ∙ e)
      pick false false h b rest = nowhere (sym (search_first p xs place exact g gs h b) ∙ e)
      pick false true h b rest =
          let m = rw (drop-append_seam g.bytes (bytes_of gs)) at (sym (search_more p xs place exact g gs h b) ∙ e) in
          omega (arith, rest m, length-append g.bytes (bytes_of gs))

pub search_within : (exact glue : Bool) (p line : List ℕ) (place q : ℕ) → search exact p line place (glyphs glue line) ≡ Some q → q + length p ≤ place + length line
unfolding bytes_of
search_within exact glue p line place q h = rw (glyphs_joined glue line) at (within exact p q (glyphs glue line) place (rw (glyphs_joined glue line) h))

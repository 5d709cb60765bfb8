-- Spaces and tabs: blanks that are seen by their byte.
use mathlib.Core.Path.{◌≡◌, refl, sym, ap, ◌∙◌}
use mathlib.Core.Bool.{Bool, true, false, ◌||◌, false≢true}
use mathlib.Core.List.{List}
use Prim.Native.Nat.{ℕ, ◌+◌, ◌<◌}
use native.Mathlib.Omega.{arith}
use lib.Dec.{eqb}
use lib.ListN.{length, get_or, drop}
use borrow.Author.Tests.{eqb-true}
use Rattle.widths.specs.WhiteSpace.{white_space}
use Rattle.text.specs.Characters.{glyphs}
use Rattle.text.specs.Cited.Places.{ink_glyphs}
use Rattle.text.proofs.Glyphs.{Here, ascii_here}
use Rattle.text.proofs.Edges.{ink_stop}

module _ (s : List ℕ) (at : ℕ) (h : at < length s) where
  -- a byte that is blank as a character
  blank_byte : (b : ℕ) → get_or s at 0 ≡ b → b < 0x80 → white_space b ≡ true → Here true s at b (at + 1)
  blank_byte b e k t = rw (e, t) at (ascii_here s at h (rw e k))

  pub tab_here : get_or s at 0 ≡ 9 → Here true s at 9 (at + 1)
  unfolding white_space
  tab_here e = blank_byte 9 e (omega arith) refl

  pub space_here : get_or s at 0 ≡ 32 → Here true s at 32 (at + 1)
  unfolding white_space
  space_here e = blank_byte 32 e (omega arith) refl

  -- by the test for both
  pub ends_here : (eqb (get_or s at 0) 32 || eqb (get_or s at 0) 9) ≡ true → Here true s at (get_or s at 0) (at + 1)
  ends_here e = pick (eqb (get_or s at 0) 32) refl e
    where
      pick : (t : Bool) → eqb (get_or s at 0) 32 ≡ t → (t || eqb (get_or s at 0) 9) ≡ true → Here true s at (get_or s at 0) (at + 1)
      pick true q k = let z = eqb-true (get_or s at 0) 32 q in rw z (space_here z)
      pick false q k = let z = eqb-true (get_or s at 0) 9 k in rw z (tab_here z)

  -- and there a word ends
  pub ends_word_here : (glue : Bool) → (eqb (get_or s at 0) 32 || eqb (get_or s at 0) 9) ≡ true → ink_glyphs glue (drop at s) ≡ glyphs glue (drop at s)
  ends_word_here glue e = ink_stop glue s at (ends_here e) (λ z. false≢true (sym (ap (λ (b : ℕ). eqb b 32 || eqb b 9) z) ∙ e))

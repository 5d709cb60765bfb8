-- Where a text has no damaged character, none of its lines has one; and a line's text has none where that is known, or where it is ASCII.
use Rattle.std.proofs.Common.{None}
use mathlib.Core.Path.{◌≡◌, refl, sym, ap, ◌∙◌}
use mathlib.Core.Bool.{Bool, true, false, cond, ◌||◌}
use mathlib.Core.List.{List, [], ◌∷◌, ◌++◌, append-nil}
use Prim.Native.Nat.{ℕ, suc, ◌<◌}
use native.Mathlib.Omega.{arith}
use lib.Dec.{ltb, eqb}
use lib.ListN.{length, take, drop}
use lib.Seq.{take_all, append_snoc}
use borrow.Author.Tests.{eqb-true, not-false, ltb-true, ltb-false}
use Rattle.lists.proofs.Runs.{while_more, while_end}
use Rattle.lists.proofs.Pieces.{each_induct}
use Rattle.lists.proofs.Views.{drop_none}
use Rattle.text.specs.Characters.{damage}
use Rattle.text.proofs.Damage.{later_zero, damage_past}
use Rattle.text.proofs.Cuts.{none_around}
use Rattle.lines.specs.Lines.{no_feed, body, without_return, first_line, lines_of}
use Rattle.lines.specs.Cited.Places.{lengths_of, body_end, AsciiBody, LinesSound}
use Rattle.lines.specs.declared.Extent.{Extent}
use Rattle.lines.proofs.Lines.{body_front, lengths}
use Rattle.lines.proofs.Asciis.{ascii_text, ascii_sound}

-- the body of a line that is ended, its line feed, and what is after it
ended_parts : (xs : List ℕ) → length (body xs) < length xs → xs ≡ body xs ++ 10 ∷ drop (suc (length (body xs))) xs
unfolding body
ended_parts [] h = absurd (omega arith)
ended_parts (x ∷ xs) h = go (no_feed x) refl (ended_parts xs)
  where
    go : (t : Bool) → no_feed x ≡ t → (length (body xs) < length xs → xs ≡ body xs ++ 10 ∷ drop (suc (length (body xs))) xs)
        → x ∷ xs ≡ body (x ∷ xs) ++ 10 ∷ drop (suc (length (body (x ∷ xs)))) (x ∷ xs)
    go true e rest = rw (while_more no_feed x xs e) (ap (λ (l : List ℕ). x ∷ l) (rest (omega (arith, ap length (while_more no_feed x xs e), h))))
    go false e rest = rw (while_end no_feed x xs e) (ap (λ (b : ℕ). b ∷ xs) (eqb-true x 10 (not-false (eqb x 10) e)))

-- without a carriage return at its end
return_sound : (a b : List ℕ) → damage (a ++ b) ≡ None → damage (a ++ without_return b) ≡ None
unfolding without_return
return_sound a [] s = s
return_sound a (x ∷ []) s = go (eqb x 13) refl
  where
    go : (t : Bool) → eqb x 13 ≡ t → damage (a ++ cond t [] (x ∷ [])) ≡ None
    go true e = rw append-nil (none_around a x [] (omega (arith, eqb-true x 13 e)) s).0
    go false e = s
return_sound a (x ∷ y ∷ b) s = rw (append_snoc a x (without_return (y ∷ b))) at (return_sound (a ++ x ∷ []) (y ∷ b) (rw (append_snoc a x (y ∷ b)) s))

-- the first line's text, and what is after the line
first_sound : (xs : List ℕ) → damage xs ≡ None → (damage (first_line xs).text ≡ None) × (damage (drop (suc (length (body xs))) xs) ≡ None)
unfolding first_line
first_sound xs s = go (ltb (length (body xs)) (length xs)) refl
  where
    go : (t : Bool) → ltb (length (body xs)) (length xs) ≡ t
        → (damage (cond t (without_return (body xs)) (body xs)) ≡ None) × (damage (drop (suc (length (body xs))) xs) ≡ None)
    go true e =
        let p = none_around (body xs) 10 (drop (suc (length (body xs))) xs) (omega arith) (rw (← ended_parts xs (ltb-true _ _ e)) s) in
        (return_sound [] (body xs) p.0, p.1)
    go false e =
        let h = ltb-false (length (body xs)) (length xs) e in
        (rw (body_front xs ∙ take_all (length (body xs)) xs h) s, rw (drop_none 0 xs (suc (length (body xs))) (omega arith)) (sym (later_zero (damage [])) ∙ damage_past [] 0 (omega arith)))

pub lines_sound : (xs : List ℕ) → damage xs ≡ None → LinesSound (lines_of xs)
unfolding lines_of
lines_sound = each_induct (λ ys. length (body ys)) first_line (λ ys ls. damage ys ≡ None → LinesSound ls) (λ s. tt) (λ ys h rest s. let p = first_sound ys s in (p.0, rest p.1))

-- ---- the text of a first line

pub text_sound : (s : List ℕ) (e : Extent) (run end : ℕ) (sound : Bool) → e ≡ lengths_of (first_line s) → AsciiBody s 0 run → end ≡ body_end s run → (sound ≡ true → damage (first_line s).text ≡ None)
    → (sound || eqb run end) ≡ true → damage (take e.text s) ≡ None
text_sound s e run end true h a b known q = rw (← (lengths s e h).text) (known refl)
text_sound s e run end false h a b known q = ascii_sound (take e.text s) (ascii_text s e run end h a b q)

-- With glue on, blanks between ink are not U+00A0 alone: those are ordinary, and no blanks.
use mathlib.Core.Path.{◌≡◌, refl, sym, ap, ◌∙◌}
use mathlib.Core.Bool.{Bool, true, false, cond, not, ◌&&◌, false≢true, true≢false}
use mathlib.Core.List.{List, [], ◌∷◌, ◌++◌, map}
use Prim.Native.Nat.{ℕ, ◌-◌, ◌<◌}
use native.Mathlib.Omega.{arith}
use lib.Dec.{eqb}
use borrow.Author.Tests.{not-true}
use lib.ListN.{length}
use Rattle.lists.specs.Runs.{while, behind, every}
use Rattle.lists.specs.Theorems.All.{All}
use Rattle.lists.proofs.Runs.{while_more, while_end, behind_more, behind_end}
use Rattle.lists.proofs.Parts.{behind_nil, every_cons}
use Rattle.text.specs.Characters.{Glyph, characters, no_break, ordinary, ink_ahead, glyphs, is_blank}
use Rattle.text.specs.Cited.Places.{settle, ink_behind}
use Rattle.text.proofs.Extents.{Read, characters_read}
use Rattle.text.proofs.Glue.{glyphs_settle, ahead_none, ahead_run, ahead_other, behind_run, behind_other, settle_none, settle_first, settle_other, settle_blank, settle_start, settle_end, settle_edge, settle_run}
use Rattle.text.proofs.NoBreaks.{no_break_blank}
use Rattle.lines.specs.Classes.{glyphs_from}
use Rattle.words.specs.Words.{is_ink}

-- the rest of a line that is read with glue on, after ink or not
pub record OfLine (ink : Bool) (gs : List Glyph) : Type 0 where
  pub cs : List Glyph
  pub read : All Read cs
  pub are : gs ≡ settle true ink cs

-- a character that is no blank is no U+00A0
other : (c : Glyph) → Read c → c.blank ≡ false → no_break c ≡ false
other c r b = pick (no_break c) refl
  where
    pick : (n : Bool) → no_break c ≡ n → n ≡ false
    pick false h = refl
    pick true h = absurd (true≢false (sym (no_break_blank c r h) ∙ b))

-- ---- what is after blanks, and after ink

-- one that begins with ink is read as after ink
stands : (ink : Bool) (c : Glyph) (cs : List Glyph) → Read c → (x : Glyph) (xs : List Glyph) → settle true ink (c ∷ cs) ≡ x ∷ xs → x.blank ≡ false → settle true ink (c ∷ cs) ≡ settle true true (c ∷ cs)
stands true c cs r x xs e b = refl
stands false c cs r x xs e b =
    let f = sym (settle_edge true c cs) ∙ e in
    let q : c ≡ x = cc in
    sym (settle_start true c cs (other c r (ap (λ (g : Glyph). g.blank) q ∙ b)))

behind_blanks : (ink : Bool) (cs : List Glyph) → All Read cs → OfLine true (behind is_blank (settle true ink cs))
behind_blanks ink [] a = record { cs = []; read = tt; are = ap (behind is_blank) (settle_none true ink) ∙ behind_nil is_blank ∙ sym (settle_none true true) }
behind_blanks ink (c ∷ cs) a = pick (settle_first true ink c cs) (λ k. behind_blanks k cs a.1)
  where
    pick : (t : Bool) × (settle true ink (c ∷ cs) ≡ cond t (ordinary c) c ∷ settle true (ink_behind ink c) cs) → ((k : Bool) → OfLine true (behind is_blank (settle true k cs))) → OfLine true (behind is_blank (settle true ink (c ∷ cs)))
    pick (t, e) rest = go (cond t (ordinary c) c).blank refl
      where
        go : (b : Bool) → (cond t (ordinary c) c).blank ≡ b → OfLine true (behind is_blank (settle true ink (c ∷ cs)))
        go true b = let r = rest (ink_behind ink c) in record { cs = r.cs; read = r.read; are = ap (behind is_blank) e ∙ behind_more is_blank _ _ b ∙ r.are }
        go false b = record { cs = c ∷ cs; read = a; are = ap (behind is_blank) e ∙ behind_end is_blank _ _ b ∙ sym e ∙ stands ink c cs a.0 _ _ e b }

behind_ink : (cs : List Glyph) → All Read cs → OfLine true (behind is_ink (settle true true cs))
behind_ink [] a = record { cs = []; read = tt; are = ap (behind is_ink) (settle_none true true) ∙ behind_nil is_ink ∙ sym (settle_none true true) }
behind_ink (c ∷ cs) a = pick (settle_first true true c cs) (behind_ink cs a.1)
  where
    pick : (t : Bool) × (settle true true (c ∷ cs) ≡ cond t (ordinary c) c ∷ settle true (ink_behind true c) cs) → OfLine true (behind is_ink (settle true true cs)) → OfLine true (behind is_ink (settle true true (c ∷ cs)))
    pick (t, e) rest = go (cond t (ordinary c) c).blank refl
      where
        -- after ink stands what is after ink
        still : (cond t (ordinary c) c).blank ≡ false → ink_behind true c ≡ true
        still b = run (no_break c) refl
          where
            run : (n : Bool) → no_break c ≡ n → ink_behind true c ≡ true
            run true h = behind_run true c h
            run false h =
                let f = sym (settle_other true c cs true h) ∙ e in
                let q : c ≡ cond t (ordinary c) c = cc in
                behind_other true c h ∙ ap (λ (g : Glyph). not g.blank) q ∙ ap not b

        go : (b : Bool) → (cond t (ordinary c) c).blank ≡ b → OfLine true (behind is_ink (settle true true (c ∷ cs)))
        go true b = record { cs = c ∷ cs; read = a; are = ap (behind is_ink) e ∙ behind_end is_ink _ _ (ap not b) ∙ sym e }
        go false b = record { cs = rest.cs; read = rest.read; are = ap (behind is_ink) e ∙ behind_more is_ink _ _ (ap not b) ∙ ap (λ (k : Bool). behind is_ink (settle true k cs)) (still b) ∙ rest.are }

-- what is after a word, and after a place
pub behind_word : {ink : Bool} (gs : List Glyph) → OfLine ink gs → OfLine true (behind is_ink (behind is_blank gs))
behind_word {ink} gs r =
    let b = behind_blanks ink r.cs r.read in
    let k = behind_ink b.cs b.read in
    record { cs = k.cs; read = k.read; are = ap (λ (l : List Glyph). behind is_ink (behind is_blank l)) r.are ∙ ap (behind is_ink) b.are ∙ k.are }

from_place : (place : ℕ) (ink : Bool) (cs : List Glyph) → All Read cs → (k : Bool) × OfLine k (glyphs_from place (settle true ink cs))
unfolding glyphs_from
from_place place ink [] a = (true, record { cs = []; read = tt; are = ap (glyphs_from place) (settle_none true ink) ∙ sym (settle_none true true) })
from_place place ink (c ∷ cs) a = pick (settle_first true ink c cs) (λ n k. from_place n k cs a.1)
  where
    pick : (t : Bool) × (settle true ink (c ∷ cs) ≡ cond t (ordinary c) c ∷ settle true (ink_behind ink c) cs) → ((n : ℕ) (k : Bool) → (m : Bool) × OfLine m (glyphs_from n (settle true k cs)))
        → (k : Bool) × OfLine k (glyphs_from place (settle true ink (c ∷ cs)))
    pick (t, e) rest = rw e (go (eqb place 0))
      where
        go : (b : Bool) → (k : Bool) × OfLine k (elim b as (λ x. List Glyph) [ true ↦ cond t (ordinary c) c ∷ settle true (ink_behind ink c) cs | false ↦ glyphs_from (place - length (cond t (ordinary c) c).bytes) (settle true (ink_behind ink c) cs) ])
        go true = (ink, record { cs = c ∷ cs; read = a; are = sym e })
        go false = rest _ (ink_behind ink c)

-- ---- a line's words are parted

-- the rest of a line, if it is read with glue on
abbrev pub Lined : Bool → List Glyph → Type 0
Lined glue gs = glue ≡ true → (ink : Bool) × OfLine ink gs

module _ (glue : Bool) (text : List ℕ) where
  pub line_lined : Lined glue (glyphs glue text)
  line_lined e = (false, record { cs = characters text; read = characters_read text; are = glyphs_settle glue text ∙ ap (λ (t : Bool). settle t false (characters text)) e })

  pub from_lined : (place : ℕ) → Lined glue (glyphs_from place (glyphs glue text))
  from_lined place e =
      let r = from_place place false (characters text) (characters_read text) in
      (r.0, rw (glyphs_settle glue text, e) r.1)

-- ---- a gap

-- where no ink follows, U+00A0 alone lead to the line's end
leads_out : (cs : List Glyph) → All Read cs → ink_ahead cs ≡ false → every no_break (while is_blank (settle true false cs)) ≡ true → behind is_blank (settle true false cs) ≡ []
leads_out [] a h e = ap (behind is_blank) (settle_none true false) ∙ behind_nil is_blank
leads_out (c ∷ cs) a h e = pick (no_break c) refl (leads_out cs a.1)
  where
    pick : (n : Bool) → no_break c ≡ n → (ink_ahead cs ≡ false → every no_break (while is_blank (settle true false cs)) ≡ true → behind is_blank (settle true false cs) ≡ []) → behind is_blank (settle true false (c ∷ cs)) ≡ []
    pick true n rest =
        let b = no_break_blank c a.0 n in
        let f = settle_blank true c cs b in
        let k = sym (ap (every no_break) (ap (while is_blank) f ∙ while_more is_blank c _ b) ∙ every_cons no_break c _ ∙ ap (λ (t : Bool). t && every no_break (while is_blank (settle true false cs))) n) ∙ e in
        ap (behind is_blank) f ∙ behind_more is_blank c _ b ∙ rest (sym (ahead_run c cs n) ∙ h) k
    pick false n rest =
        let b : c.blank ≡ true = blank c.blank refl in
        let f = settle_blank true c cs b in
        let k = sym (ap (every no_break) (ap (while is_blank) f ∙ while_more is_blank c _ b) ∙ every_cons no_break c _ ∙ ap (λ (t : Bool). t && every no_break (while is_blank (settle true false cs))) n) ∙ e in
        absurd (false≢true k)
      where
        blank : (t : Bool) → c.blank ≡ t → t ≡ true
        blank true q = refl
        blank false q = absurd (true≢false (sym (ahead_other c cs n ∙ ap not q) ∙ h))

-- where ink follows, no blank stands first
no_blank : (cs : List Glyph) → ink_ahead cs ≡ true → while is_blank (settle true true cs) ≡ []
no_blank [] h = absurd (false≢true (sym ahead_none ∙ h))
no_blank (c ∷ cs) h = pick (no_break c) refl
  where
    pick : (n : Bool) → no_break c ≡ n → while is_blank (settle true true (c ∷ cs)) ≡ []
    pick true n =
        let m = while_more no_break c cs n in
        ap (while is_blank) (settle_run (c ∷ cs) h ∙ ap (λ (gs : List Glyph). map ordinary gs ++ settle true true (behind no_break (c ∷ cs))) m) ∙ while_end is_blank (ordinary c) _ refl
    pick false n = ap (while is_blank) (settle_other true c cs true n) ∙ while_end is_blank c _ (not-true c.blank (sym (ahead_other c cs n) ∙ h))

-- after ink and before ink stand blanks of which one is no U+00A0
pub gap_other : (gs : List Glyph) → OfLine true gs → 0 < length (while is_blank gs) → 0 < length (behind is_blank gs) → every no_break (while is_blank gs) ≡ false
gap_other gs r some more = pick (ink_ahead r.cs) refl
  where
    pick : (t : Bool) → ink_ahead r.cs ≡ t → every no_break (while is_blank gs) ≡ false
    pick true h = absurd (omega (arith, some, ap length (ap (while is_blank) r.are ∙ no_blank r.cs h)))
    pick false h = go (every no_break (while is_blank gs)) refl
      where
        e : gs ≡ settle true false r.cs
        e = r.are ∙ settle_end true r.cs h

        go : (t : Bool) → every no_break (while is_blank gs) ≡ t → t ≡ false
        go false q = refl
        go true q = absurd (omega (arith, more, ap length (ap (behind is_blank) e ∙ leads_out r.cs r.read h (sym (ap (λ (l : List Glyph). every no_break (while is_blank l)) e) ∙ q))))

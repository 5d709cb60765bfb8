-- Texts end to end: without a damaged character in either there is none in both; and where the first ends in a line feed the damaged place of
-- both is the first's, or else the second's. A blank line has none.
use Rattle.std.proofs.Common.{None}
use mathlib.Core.Path.{◌≡◌, refl, sym, ap, ◌∙◌}
use mathlib.Core.Bool.{Bool, true, false, and-eq-true_iff, false≢true}
use mathlib.Core.List.{List, [], ◌∷◌, ◌++◌, append_assoc}
use Prim.Native.Nat.{ℕ, suc, ◌-◌, ◌<◌}
use native.Mathlib.Omega.{arith}
use lib.ListN.{length, drop}
use lib.Seq.{take-append-le, append_snoc}
use borrow.Author.Tests.{not-true}
use Rattle.lists.specs.Walk.{walk_up_to, walk, piece, each}
use Rattle.lists.specs.Runs.{every, begins}
use Rattle.lists.proofs.Parts.{every_cons, every_append}
use Rattle.lists.proofs.Walk.{each_step}
use Rattle.lists.proofs.Extents.{each_append}
use Rattle.text.specs.Rfc3629.{Front, front, nothing, scalar, encode, spelled, decode}
use Rattle.text.specs.Characters.{Glyph, glyph_as, glyph, characters, glyphs, is_good, damage}
use Rattle.text.proofs.Decoder.{sound}
use Rattle.text.proofs.Glyphs.{bytes_of_part, characters_past}
use Rattle.text.proofs.Glue.{every_good}
use Rattle.text.proofs.Damage.{damage_none, or_later, damage_parts}
use Rattle.text.proofs.Cuts.{front_append, cut, characters_before}
use Rattle.options.specs.Opts.{Opts}
use Rattle.lines.specs.Classes.{classify}
use Rattle.lines.specs.declared.Class.TheVariants.{Blank}
use Rattle.lines.specs.Theorems.Closed.{Closed}
use Rattle.lines.proofs.Ink.{damaged_plain}

-- a good glyph at the front of a text is found there with more after the text
good_append : (a b : List ℕ) → (glyph a).damaged ≡ false → glyph (a ++ b) ≡ glyph a
unfolding glyph
good_append a b h = go (decode a) refl h
  where
    go : (f : Front) → decode a ≡ f → (glyph_as a f).damaged ≡ false → glyph (a ++ b) ≡ glyph a
    go (front c n) e k = rw (e, front_append a b c n e, take-append-le n a b (sound a c n e).within)
    go nothing e k = absurd (false≢true (sym k))

abbrev pub Good : List ℕ → Type 0
Good a = every is_good (characters a) ≡ true

pub characters_append : (a b : List ℕ) → Good a → characters (a ++ b) ≡ characters a ++ characters b
unfolding characters
characters_append a b g = each_append cut glyph Good b stays a g
  where
    stays : (d : List ℕ) → Good d → 0 < length d
        → (glyph (d ++ b) ≡ glyph d) × (cut (d ++ b) ≡ cut d) × (cut d < length d) × Good (drop (suc (cut d)) d)
    stays d w h =
        let s = each_step cut glyph d h in
        let k = (and-eq-true_iff (is_good (glyph d)) (every is_good (characters (drop (suc (cut d)) d)))).0 (rw (s, every_cons is_good) at w) in
        let y = bytes_of_part d h in
        let e = good_append d b (not-true (glyph d).damaged k.0) in
        (e, ap (λ (q : Glyph). length q.bytes - 1) e, omega (arith, y.some, y.within, y.count), k.1)

pub good_sound : (a : List ℕ) → Good a → damage a ≡ None
unfolding damage
good_sound a g = rw g

pub damage_good : (a : List ℕ) → damage a ≡ None → Good a
damage_good a h = sym (every_good false a) ∙ damage_none false a h

pub damage_append : (a b : List ℕ) → damage a ≡ None → damage b ≡ None → damage (a ++ b) ≡ None
damage_append a b h g =
    let p = damage_good a h in
    good_sound (a ++ b) (rw (characters_append a b p, every_append is_good (characters a) (characters b), p, damage_good b g))

-- a blank line is not damaged
pub blank_sound : (o : Opts) (line : List ℕ) → classify o line ≡ Blank → damage line ≡ None
blank_sound o line e = good_sound line (sym (every_good o.glue line) ∙ go (every is_good (glyphs o.glue line)) refl)
  where
    go : (t : Bool) → every is_good (glyphs o.glue line) ≡ t → every is_good (glyphs o.glue line) ≡ true
    go true g = g
    go false g = absurd (let p = damaged_plain o line g in let z : ◌≡◌ {A = ℕ} 0 1 = cc in omega arith)

-- nor is nothing, nor a line end
pub empty_sound : damage [] ≡ None
unfolding damage characters each piece walk walk_up_to every
empty_sound = refl

pub feed_sound : damage (10 ∷ []) ≡ None
unfolding damage characters each piece walk walk_up_to glyph decode spelled encode scalar begins every
feed_sound = refl

pub return_feed_sound : damage (13 ∷ 10 ∷ []) ≡ None
unfolding damage characters each piece walk walk_up_to glyph decode spelled encode scalar begins every
return_feed_sound = refl

-- ---- a text that ends in a line feed

-- a line feed is its last byte
record LastFeed (a : List ℕ) : Type 0 where
  text : List ℕ
  is : a ≡ text ++ 10 ∷ []

last_feed : (a : List ℕ) → 0 < length a → Closed a → LastFeed a
last_feed [] h c = absurd (omega arith)
last_feed (x ∷ []) h c = record { text = []; is = ap (λ (b : ℕ). b ∷ []) c }
last_feed (x ∷ y ∷ a) h c = let l = last_feed (y ∷ a) (omega arith) c in record { text = x ∷ l.text; is = ap (λ (r : List ℕ). x ∷ r) l.is }

characters_feed : (a b : List ℕ) → characters (a ++ 10 ∷ b) ≡ characters (a ++ 10 ∷ []) ++ characters b
characters_feed a b =
    characters_before a 10 b (omega arith) ∙ ap (λ (gs : List Glyph). characters a ++ gs) (characters_append (10 ∷ []) b (damage_good (10 ∷ []) feed_sound))
    ∙ sym (append_assoc (characters a) (characters (10 ∷ [])) (characters b)) ∙ ap (λ (gs : List Glyph). gs ++ characters b) (sym (characters_before a 10 [] (omega arith)))

characters_ended : (a text b : List ℕ) → a ≡ text ++ 10 ∷ [] → characters (a ++ b) ≡ characters a ++ characters b
characters_ended a text b e = rw e (ap characters (append_snoc text 10 b) ∙ characters_feed text b)

characters_closed : (a b : List ℕ) → Closed a → characters (a ++ b) ≡ characters a ++ characters b
characters_closed [] b closed = ap (λ (gs : List Glyph). gs ++ characters b) (sym (characters_past [] 0 (omega arith)))
characters_closed (x ∷ r) b closed =
    let l = last_feed (x ∷ r) (omega arith) closed in
    characters_ended (x ∷ r) l.text b l.is

pub damage_closed : (a b : List ℕ) → Closed a → damage (a ++ b) ≡ or_later (length a) (damage a) (damage b)
damage_closed a b closed = damage_parts a b (characters_closed a b closed)

-- The damaged place of a text, from any place that it is read from, and of two texts end to end; and what it says of the text's glyphs.
use Rattle.std.proofs.Common.{Option, Some, None}
use mathlib.Core.Path.{◌≡◌, refl, sym, ap, ◌∙◌}
use mathlib.Core.Bool.{Bool, true, false, cond}
use mathlib.Core.List.{List, [], ◌∷◌, ◌++◌}
use Prim.Native.Nat.{ℕ, ◌+◌, ◌-◌, ◌≤◌, ◌<◌}
use native.Mathlib.Omega.{arith}
use lib.ListN.{length, drop, length-drop}
use Rattle.lists.specs.Runs.{while, every}
use Rattle.lists.proofs.Runs.{while_more, while_end, every_more, every_end}
use Rattle.text.specs.Characters.{Glyph, glyph, characters, glyphs, is_good, extent, damage}
use Rattle.text.proofs.Glyphs.{Here, DamagedHere, Bytes, characters_past, characters_induct}
use Rattle.text.proofs.Glue.{every_good}

-- a place counted from i, counted from the front
abbrev pub later : ℕ → Option ℕ → Option ℕ
later i (Some n) = Some (i + n)
later i None = None

pub later_zero : (f : Option ℕ) → later 0 f ≡ f
later_zero (Some n) = ap Some (omega arith)
later_zero None = refl

later_later : (i n : ℕ) (f : Option ℕ) → later i (later n f) ≡ later (i + n) f
later_later i n (Some k) = ap Some (omega arith)
later_later i n None = refl

-- the damaged place by the glyphs
damage_of : List Glyph → Option ℕ
damage_of gs = cond (every is_good gs) None (Some (extent (while is_good gs)))

none_damaged : damage_of [] ≡ None
unfolding damage_of every
none_damaged = refl

first_damaged : (g : Glyph) (gs : List Glyph) → g.damaged ≡ true → damage_of (g ∷ gs) ≡ Some 0
unfolding damage_of extent
first_damaged g gs h = let e : is_good g ≡ false = rw h in rw (every_end is_good g gs e, while_end is_good g gs e)

first_good : (g : Glyph) (gs : List Glyph) → g.damaged ≡ false → damage_of (g ∷ gs) ≡ later (length g.bytes) (damage_of gs)
unfolding damage_of extent
first_good g gs h = let e : is_good g ≡ true = rw h in rw (every_more is_good g gs e, while_more is_good g gs e) (pick (every is_good gs))
  where
    pick : (t : Bool) → cond t None (Some (length g.bytes + extent (while is_good gs))) ≡ later (length g.bytes) (cond t None (Some (extent (while is_good gs))))
    pick true = refl
    pick false = refl

damage_characters : (xs : List ℕ) → damage xs ≡ damage_of (characters xs)
unfolding damage damage_of
damage_characters xs = refl

module _ (s : List ℕ) (at : ℕ) where
  pub damage_past : length s ≤ at → later at (damage (drop at s)) ≡ None
  damage_past h = rw (damage_characters (drop at s), characters_past s at h, none_damaged)

  pub damage_here : DamagedHere s at → later at (damage (drop at s)) ≡ Some at
  damage_here b = rw (damage_characters (drop at s), b.first, first_damaged (glyph (drop at s)) (characters (drop (at + 1) s)) b.is_damaged) (ap Some (omega arith))

  pub damage_on : {t : Bool} {code next : ℕ} → Here t s at code next → later at (damage (drop at s)) ≡ later next (damage (drop next s))
  damage_on {t} {code} {next} g =
      let e : at + (next - at) ≡ next = omega arith in
      rw (
        damage_characters (drop at s),
        g.first,
        first_good (glyph (drop at s)) (characters (drop next s)) g.is_good,
        g.count,
        later_later at (next - at) (damage_of (characters (drop next s))),
        e,
        ← damage_characters (drop next s),
      )

-- ---- two texts end to end

-- the first's place, or else the second's, counted from the first's front
abbrev pub or_later : ℕ → Option ℕ → Option ℕ → Option ℕ
or_later n (Some place) f = Some place
or_later n None f = later n f

damage_both : (gs hs : List Glyph) → damage_of (gs ++ hs) ≡ or_later (extent gs) (damage_of gs) (damage_of hs)
unfolding extent
damage_both [] hs = rw none_damaged (sym (later_zero (damage_of hs)))
damage_both (g ∷ gs) hs = go g.damaged refl (damage_both gs hs)
  where
    moved : (f : Option ℕ) → later (length g.bytes) (or_later (extent gs) f (damage_of hs)) ≡ or_later (length g.bytes + extent gs) (later (length g.bytes) f) (damage_of hs)
    moved (Some place) = refl
    moved None = later_later (length g.bytes) (extent gs) (damage_of hs)

    go : (t : Bool) → g.damaged ≡ t → damage_of (gs ++ hs) ≡ or_later (extent gs) (damage_of gs) (damage_of hs)
        → damage_of (g ∷ gs ++ hs) ≡ or_later (length g.bytes + extent gs) (damage_of (g ∷ gs)) (damage_of hs)
    go true e ih = rw (first_damaged g (gs ++ hs) e, first_damaged g gs e)
    go false e ih = rw (first_good g (gs ++ hs) e, first_good g gs e, ih) (moved (damage_of gs))

characters_extent : (xs : List ℕ) → extent (characters xs) ≡ length xs
unfolding extent
characters_extent = characters_induct (λ ys gs. extent gs ≡ length ys) refl (λ ys b e. let d = length-drop b.n ys in let n = b.within in let c = b.count in omega arith)

-- where the first text's last character ends with it
pub damage_parts : (a b : List ℕ) → characters (a ++ b) ≡ characters a ++ characters b → damage (a ++ b) ≡ or_later (length a) (damage a) (damage b)
damage_parts a b e =
    rw (damage_characters (a ++ b), e, damage_characters a, damage_characters b, ← characters_extent a)
    (damage_both (characters a) (characters b))

-- ---- what it says of the glyphs

-- no damaged place: every glyph is good, with glue and without
pub damage_none : (glue : Bool) (xs : List ℕ) → damage xs ≡ None → every is_good (glyphs glue xs) ≡ true
unfolding damage
damage_none glue xs h = every_good glue xs ∙ pick (every is_good (characters xs)) h
  where
    pick : (t : Bool) → cond t None (Some (extent (while is_good (characters xs)))) ≡ None → t ≡ true
    pick true e = refl
    pick false e = cc

-- a damaged place is one of the text
good_before : (xs : List ℕ) → every is_good (characters xs) ≡ false → extent (while is_good (characters xs)) < length xs
unfolding every extent
good_before = characters_induct (λ ys gs. every is_good gs ≡ false → extent (while is_good gs) < length ys) (λ e. absurd (let z : ◌≡◌ {A = ℕ} 0 1 = cc in omega arith)) more
  where
    pick : (g : Glyph) (gs : List Glyph) (m k : ℕ) (t : Bool) → is_good g ≡ t → 1 ≤ m → m ≤ k → length g.bytes ≡ m → (every is_good gs ≡ false → extent (while is_good gs) < k - m)
        → every is_good (g ∷ gs) ≡ false → extent (while is_good (g ∷ gs)) < k
    pick g gs m k true t h l c rest e = rw (while_more is_good g gs t) (let r = rest (sym (every_more is_good g gs t) ∙ e) in omega arith)
    pick g gs m k false t h l c rest e = rw (while_end is_good g gs t) (omega arith)

    more : (ys : List ℕ) (b : Bytes ys) → (every is_good (characters (drop b.n ys)) ≡ false → extent (while is_good (characters (drop b.n ys))) < length (drop b.n ys))
        → every is_good (glyph ys ∷ characters (drop b.n ys)) ≡ false → extent (while is_good (glyph ys ∷ characters (drop b.n ys))) < length ys
    more ys b rest = pick (glyph ys) (characters (drop b.n ys)) b.n (length ys) _ refl b.some b.within b.count (λ e. rw length-drop at (rest e))

pub damage_some : (glue : Bool) (xs : List ℕ) (n : ℕ) → damage xs ≡ Some n → (every is_good (glyphs glue xs) ≡ false) × (n < length xs)
unfolding damage
damage_some glue xs n h = let e = pick (every is_good (characters xs)) h in (every_good glue xs ∙ e.0, rw (← e.1) (good_before xs e.0))
  where
    pick : (t : Bool) → cond t None (Some (extent (while is_good (characters xs)))) ≡ Some n → (t ≡ false) × (extent (while is_good (characters xs)) ≡ n)
    pick true e = (cc, absurd (let z : ◌≡◌ {A = ℕ} 0 1 = cc in omega arith))
    pick false e = (refl, cc)

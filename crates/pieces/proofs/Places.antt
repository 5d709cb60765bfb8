-- The line that begins at a place, from the answer of `first_classed` on a part of the notes; and where the lines from a place on are sound,
-- so is the first, and so are those after it.
use Rattle.std.proofs.Common.{None}
use mathlib.Core.Path.{◌≡◌, refl, ap, ◌∙◌}
use mathlib.Core.Bool.{Bool, true}
use mathlib.Core.List.{List, ◌∷◌}
use Prim.Native.Nat.{ℕ, ◌+◌, ◌-◌, ◌<◌}
use native.Mathlib.Omega.{arith}
use lib.ListN.{length, take, drop, length-drop}
use lib.Seq.{take_all}
use Rattle.text.specs.Characters.{damage}
use Rattle.options.specs.Opts.{Opts}
use Rattle.lines.specs.Lines.{first_line, lines_of}
use Rattle.lines.specs.Cited.Places.{lengths_of, classed_of, LinesSound}
use Rattle.lines.specs.declared.ClassedExtent.{ClassedExtent}
use Rattle.lines.proofs.Lines.{LineHere, line_here}
use Rattle.pieces.specs.Cited.Places.{LineIs}
use Rattle.pieces.specs.declared.Classed.{Classed}

module _ (o : Opts) (notes : List ℕ) (at : ℕ) (r : ClassedExtent) (inside : at < length notes)
    (read : r ≡ classed_of o (first_line (take (length notes - at) (drop at notes)))) where
  from_here : r ≡ classed_of o (first_line (drop at notes))
  from_here = read ∙ ap (λ (l : List ℕ). classed_of o (first_line l)) (take_all (length notes - at) (drop at notes) (omega (arith, length-drop at notes)))

  extent_is : r.extent ≡ lengths_of (first_line (drop at notes))
  unfolding classed_of
  extent_is = ap (λ (x : ClassedExtent). x.extent) from_here

  pub part_line : LineHere notes at r.extent
  part_line = line_here notes at r.extent inside extent_is

  pub line_is : LineIs o notes at (record { end = at + r.extent.text; next = at + r.extent.whole; class = r.class })
  unfolding classed_of lengths_of
  line_is =
      let h = part_line in
      record {
        end = ap (λ (x : ClassedExtent). at + x.extent.text) from_here;
        next = ap (λ (x : ClassedExtent). at + x.extent.whole) from_here;
        class = ap (λ (x : ClassedExtent). x.class) from_here;
        text = h.text;
        first = h.first;
        on = omega (arith, h.on);
        before = omega (arith, h.shorter);
        within = h.within;
      }

-- ---- sound lines

module _ (notes : List ℕ) (at : ℕ) (known : Bool) (sound : known ≡ true → LinesSound (lines_of (drop at notes))) where
  -- the first, on a part of the notes
  pub part_sound : at < length notes → known ≡ true → damage (first_line (take (length notes - at) (drop at notes))).text ≡ None
  part_sound h k =
      let l = line_here notes at (lengths_of (first_line (drop at notes))) h refl in
      rw (take_all (length notes - at) (drop at notes) (omega (arith, length-drop at notes))) (rw l.first at (sound k)).0

  -- those after it
  rest_sound : (next : ℕ) → lines_of (drop at notes) ≡ first_line (drop at notes) ∷ lines_of (drop next notes) → known ≡ true → LinesSound (lines_of (drop next notes))
  rest_sound next first k = (rw first at (sound k)).1

-- from line to line
pub next_sound : (o : Opts) (notes : List ℕ) (at : ℕ) (r : Classed) (known : Bool) → LineIs o notes at r → (known ≡ true → LinesSound (lines_of (drop at notes))) → known ≡ true → LinesSound (lines_of (drop r.next notes))
next_sound o notes at r known l sound = rest_sound notes at known sound r.next l.first

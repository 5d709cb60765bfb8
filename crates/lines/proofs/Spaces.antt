-- The spaces at the front of a line, passed at once: all that is asked of the line is asked of what is after them.
use Rattle.std.proofs.Common.{None}
use mathlib.Core.Path.{◌≡◌, refl, sym, ap, ◌∙◌}
use mathlib.Core.Bool.{Bool, true, false}
use mathlib.Core.List.{List}
use Prim.Native.Nat.{ℕ, zero, suc, ◌+◌, ◌≤◌, ◌<◌}
use native.Mathlib.Omega.{arith}
use lib.ListN.{length, get_or, drop}
use lib.Seq.{get_or-drop}
use Rattle.lists.specs.Runs.{while, every, begins}
use Rattle.widths.proofs.Laws.{one_before_300}
use Rattle.text.specs.Characters.{glyph, glyphs, is_blank}
use Rattle.text.proofs.Glyphs.{Here, ascii_here}
use Rattle.text.proofs.Leads.{plain_ink}
use Rattle.lines.specs.Classes.{search}
use Rattle.lines.specs.Cited.Places.{Repeats, line_start, behind_all, BehindBlanks}
use Rattle.lines.specs.declared.Spot.{Spot}
use Rattle.lines.proofs.Measures.{behind_char, width_is}
use Rattle.lines.proofs.Prefixes.{search_exact, search_stop, search_on}
use Rattle.lines.proofs.Same.{begins_unlike}
use Rattle.lines.proofs.Turns.{Reached, blanks_first, blanks_then, blanks_last, no_blank}
use Rattle.lines.proofs.UsualBlanks.{space_here}

-- one space fewer
fewer : {line : List ℕ} {n : ℕ} → Repeats 32 line 0 (suc n) → Repeats 32 line 0 n
fewer r = record { on = omega arith; within = omega (arith, r.within); each = λ i a b. r.each i a (omega arith) }

last_here : {line : List ℕ} {n : ℕ} → Repeats 32 line 0 (suc n) → Here true line n 32 (n + 1)
last_here {line} {n} r = space_here line n (omega (arith, r.within)) (r.each n (omega arith) (omega arith))

-- a column each, and what is left from there on leads where the whole does
pub spaces_lead : (glue : Bool) (tab : ℕ) (line : List ℕ) (n : ℕ) → Repeats 32 line 0 n → Reached glue tab line line_start n n
spaces_lead glue tab line zero r = (record { place = omega arith; small = omega arith }, blanks_first)
spaces_lead glue tab line (suc n) r =
    let t = spaces_lead glue tab line n (fewer r) in
    let m : Spot = record { at = n; column = n } in
    let e : n + 1 ≡ suc n = omega arith in
    let w = width_is n tab 32 1 (λ z. omega arith) (sym (one_before_300 32 (omega arith))) in
    let b = behind_char tab line m (record { at = n + 1; column = n + 1 }) t.0 (last_here r) w (omega arith) in
    rw (← e) (b.inside, blanks_then b (last_here r) t.1)

module _ (line : List ℕ) (n : ℕ) (r : Repeats 32 line 0 n) where
  pub spaces_blank : (glue : Bool) → every is_blank (glyphs glue (drop n line)) ≡ every is_blank (glyphs glue line)
  spaces_blank glue = (spaces_lead glue 1 line n r).1.blank

  pub spaces_behind : (glue : Bool) (tab : ℕ) (s : Spot) → BehindBlanks tab line (glyphs glue (drop n line)) (record { at = n; column = n }) s
      → s ≡ behind_all tab line_start (while is_blank (glyphs glue line))
  spaces_behind glue tab s b = b.spot ∙ (spaces_lead glue tab line n r).1.spot

  -- where ink that is seen by its byte is after them
  module _ (h : n < length line) (least : 33 ≤ get_or line n 0) (most : get_or line n 0 < 128) where
    plain_stop : (glyph (drop n line)).blank ≡ false
    plain_stop = (ascii_here line n h most).is_blank ∙ plain_ink (get_or line n 0) least most

    pub spaces_only : (glue : Bool) (tab : ℕ) → ◌≡◌ {A = Spot} (record { at = n; column = n }) (behind_all tab line_start (while is_blank (glyphs glue line)))
    spaces_only glue tab = (blanks_last (spaces_lead glue tab line n r).0 (no_blank glue line n (omega arith) plain_stop) (spaces_lead glue tab line n r).1).spot

-- a prefix that begins with no space stands at none of them
module _ (p line : List ℕ) (some : 0 < length p) where
  not_at : (i : ℕ) → (get_or p 0 0 ≡ get_or line i 0 → ⊥) → begins p (drop i line) ≡ false
  not_at i u =
      let e : get_or (drop i line) 0 0 ≡ get_or line i 0 = get_or-drop i line 0 0 ∙ ap (λ (k : ℕ). get_or line k 0) (omega arith) in
      begins_unlike p (drop i line) 0 some (λ z. u (sym z ∙ e))

  module _ (bare : get_or p 0 0 ≡ 32 → ⊥) where
    search_spaces : (glue : Bool) (n : ℕ) → Repeats 32 line 0 n → search false p (drop n line) n (glyphs glue (drop n line)) ≡ search false p line 0 (glyphs glue line)
    search_spaces glue zero r = refl
    search_spaces glue (suc n) r =
        let e : n + 1 ≡ suc n = omega arith in
        let u = not_at n (λ z. bare (z ∙ r.each n (omega arith) (omega arith))) in
        rw (← e) (sym (search_on false glue p line n 32 (n + 1) (last_here r) u refl) ∙ search_spaces glue n (fewer r))

    -- nor after them, where ink begins that does not begin the prefix
    module _ (n : ℕ) (r : Repeats 32 line 0 n) (h : n < length line) (least : 33 ≤ get_or line n 0) (most : get_or line n 0 < 128) (unlike : get_or p 0 0 ≡ get_or line n 0 → ⊥) where
      not_first : begins p line ≡ false
      not_first = pick n refl
        where
          pick : (k : ℕ) → n ≡ k → begins p line ≡ false
          pick zero e = not_at 0 (rw e at unlike)
          pick (suc k) e = not_at 0 (λ z. bare (z ∙ r.each 0 (omega arith) (omega arith)))

      pub search_nowhere : (exact glue : Bool) → search exact p line 0 (glyphs glue line) ≡ None
      search_nowhere true glue = search_exact p line 0 true (glyphs glue line) not_first refl
      search_nowhere false glue =
          sym (search_spaces glue n r)
          ∙ search_stop p (drop n line) n false (glyphs glue (drop n line)) (not_at n unlike) (no_blank glue line n (omega arith) (plain_stop line n r h least most)).none

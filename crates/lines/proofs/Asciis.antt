-- A line's front of bytes below 0x80: the run that the code goes over, and that a line of such bytes alone has no damaged character.
use Rattle.std.proofs.Common.{None}
use mathlib.Core.Path.{◌≡◌, refl, sym, ◌∙◌}
use mathlib.Core.Bool.{true}
use mathlib.Core.List.{List}
use Prim.Native.Nat.{ℕ, zero, suc, ◌+◌, ◌≤◌, ◌<◌}
use native.Mathlib.Omega.{arith}
use lib.Dec.{eqb}
use lib.ListN.{length, get_or, take}
use lib.Seq.{get_or-take, length-take-le}
use borrow.Author.Tests.{eqb-true}
use Rattle.text.specs.Characters.{damage}
use Rattle.text.specs.Cited.Places.{Ascii, Printable}
use Rattle.text.proofs.Damage.{later_zero, damage_past}
use Rattle.text.proofs.Asciis.{ascii_none, ascii_one, ascii_more, damage_run}
use Rattle.lines.specs.Lines.{first_line}
use Rattle.lines.specs.Cited.Places.{lengths_of, body_end, AsciiBody}
use Rattle.lines.specs.declared.Extent.{Extent}
use Rattle.lines.proofs.Lines.{text_in_body, body_more}

-- ---- the run

module _ {s : List ℕ} {from : ℕ} where
  pub run_none : from ≤ length s → AsciiBody s from from
  run_none h = record { ascii = ascii_none h; same = refl }

  -- one run after another
  pub run_more : {i to : ℕ} → AsciiBody s from i → AsciiBody s i to → AsciiBody s from to
  run_more a b = record { ascii = ascii_more a.ascii b.ascii; same = a.same ∙ b.same }

  pub run_one : from < length s → body_end s from ≡ body_end s (from + 1) → get_or s from 0 < 0x80 → AsciiBody s from (from + 1)
  run_one h e k = record { ascii = ascii_one h k; same = e }

-- a byte by its tests
pub run_byte : {s : List ℕ} {from at : ℕ} → AsciiBody s from at → at < length s → get_or s at 0 < 0x80 → (get_or s at 0 ≡ 10 → ⊥) → AsciiBody s from (at + 1)
run_byte {s} {from} {at} a h k n = run_more a (run_one h (body_more s at h n) k)

pub run_same : {s : List ℕ} {from to : ℕ} (end : ℕ) → to ≡ end → AsciiBody s from to → AsciiBody s from end
run_same end e a = rw (← e) a

pub run_nothing : (s : List ℕ) (i : ℕ) → i ≤ length s → AsciiBody s i (i + 0)
run_nothing s i h = let e : i ≡ i + 0 = omega arith in rw (← e) (run_none h)

-- bytes from 32 to 127
pub run_printable : (s : List ℕ) (i n : ℕ) → i + n ≤ length s → Printable s i (i + n) → AsciiBody s i (i + n)
run_printable s i zero h each = run_nothing s i (omega arith)
run_printable s i (suc n) h each =
    let e : i + n + 1 ≡ i + suc n = omega arith in
    let b = each (i + n) (omega arith) (omega arith) in
    rw (← e) (run_byte (run_printable s i n (omega arith) (λ k a d. each k a (omega arith))) (omega arith) b.1 (λ z. omega (arith, b.0, z)))

-- ---- a line of the run alone

-- the text of a line whose body ends where the run from its start does
pub ascii_text : (s : List ℕ) (e : Extent) (run end : ℕ) → e ≡ lengths_of (first_line s) → AsciiBody s 0 run → end ≡ body_end s run → eqb run end ≡ true
    → Ascii (take e.text s) 0 (length (take e.text s))
ascii_text s e run end h a b q =
    let t : e.text ≤ run = omega (arith, text_in_body s e h, a.same, eqb-true run end q) in
    let l : length (take e.text s) ≡ e.text = length-take-le e.text s (omega (arith, a.ascii.within)) in
    record { on = omega arith; within = omega arith; small = λ i x y. rw (get_or-take e.text s i 0 (omega arith)) (a.ascii.small i x (omega arith)) }

pub ascii_sound : (line : List ℕ) → Ascii line 0 (length line) → damage line ≡ None
ascii_sound line a = sym (later_zero _) ∙ damage_run line 0 (length line) a ∙ damage_past line (length line) (omega arith)

-- The bytes from 80 on: their two octets, their changes, and how many they are; of a line, of lines, of notes from a place on.
use mathlib.Core.Path.{◌≡◌, refl, ap, ◌∙◌}
use mathlib.Core.Bool.{Bool, true, false}
use mathlib.Core.List.{List, [], ◌∷◌, ◌++◌, append-nil}
use Prim.Native.Nat.{ℕ, suc, ◌+◌, ◌-◌, ◌/◌, ◌%◌, ◌≤◌, ◌<◌}
use native.Mathlib.Nat.{zero-add}
use native.Mathlib.Omega.{arith}
use lib.Dec.{ltb}
use lib.ListN.{length, get_or, take, drop, length-append, length-take, length-drop, drop_of_length-le}
use borrow.Author.Tests.{lt-ltb, le-ltb, ltb-true, ltb-false}
use Rattle.lists.specs.Runs.{joined}
use Rattle.lists.proofs.Parts.{joined_nil, joined_cons}
use Rattle.lists.proofs.Views.{drop_here}
use Rattle.text.specs.Rfc3629.{encode}
use Rattle.salvage.specs.Lines.{is_utf8, whole_lines}
use Rattle.salvage.specs.Mending.{mended_line, mended, high_bytes, line_changes, changes_from, changes}
use Rattle.salvage.specs.Cited.Steps.{LineAt, HighCounted, LineCounted, Counted}
use Rattle.salvage.proofs.Lines.{no_lines}

-- ---- a byte

pub encode_low : (b : ℕ) → b < 0x80 → encode b ≡ b ∷ []
unfolding encode
encode_low b h = rw lt-ltb

pub encode_high : (b : ℕ) → 0x80 ≤ b → b < 256 → encode b ≡ (0xC0 + b / 64) ∷ (0x80 + b % 64) ∷ []
unfolding encode
encode_high b h k = rw (le-ltb b 0x80 h, lt-ltb b 0x800 (omega arith))

pub high_nil : (at : ℕ) → high_bytes at [] ≡ []
unfolding high_bytes
high_nil at = refl

pub high_low : (at b : ℕ) (bs : List ℕ) → b < 0x80 → high_bytes at (b ∷ bs) ≡ high_bytes (at + 1) bs
unfolding high_bytes
high_low at b bs h = rw (lt-ltb b 0x80 h, high_bytes)

pub high_high : (at b : ℕ) (bs : List ℕ) → 0x80 ≤ b → high_bytes at (b ∷ bs) ≡ record { place = at; byte = b } ∷ high_bytes (at + 1) bs
unfolding high_bytes
high_high at b bs h = rw (le-ltb b 0x80 h, high_bytes)

-- a byte is low or high
pub low_or_high : {P : Type 0} (b : ℕ) → (b < 0x80 → P) → (0x80 ≤ b → P) → P
low_or_high {P} b low high = pick (ltb b 0x80) refl
  where
    pick : (t : Bool) → ltb b 0x80 ≡ t → P
    pick true e = low (ltb-true _ _ e)
    pick false e = high (ltb-false _ _ e)

pub high_cons : (at b : ℕ) (bs : List ℕ) → high_bytes at (b ∷ bs) ≡ high_bytes at (b ∷ []) ++ high_bytes (at + 1) bs
high_cons at b bs =
    low_or_high b
    (λ h. rw (high_low at b bs h, high_low at b [] h, high_nil (at + 1)))
    (λ h. rw (high_high at b bs h, high_high at b [] h, high_nil (at + 1)))

-- ---- counts of a line

-- how many they are does not depend on the place
pub high_anywhere : (at at' : ℕ) (bs : List ℕ) → length (high_bytes at bs) ≡ length (high_bytes at' bs)
high_anywhere at at' [] = rw (high_nil at, high_nil at')
high_anywhere at at' (b ∷ bs) =
    let e = high_anywhere (at + 1) (at' + 1) bs in
    low_or_high b
    (λ h. rw (high_low at b bs h, high_low at' b bs h) e)
    (λ h. rw (high_high at b bs h, high_high at' b bs h) (ap suc e))

pub one_low : (b : ℕ) → b < 0x80 → HighCounted (b ∷ []) 0
one_low b h = record { count = rw (high_low 0 b [] h, high_nil 1); mended = rw (joined_cons, joined_nil, encode_low b h) }

pub one_high : (b : ℕ) → 0x80 ≤ b → b < 256 → HighCounted (b ∷ []) 1
one_high b h k = record { count = rw (high_high 0 b [] h, high_nil 1); mended = rw (joined_cons, joined_nil, encode_high b h k) }

pub counted_cons : (b : ℕ) (bs : List ℕ) (m n : ℕ) → HighCounted (b ∷ []) m → HighCounted bs n → HighCounted (b ∷ bs) (m + n)
counted_cons b bs m n p q =
    let l = length-append (high_bytes 0 (b ∷ [])) (high_bytes 1 bs) in
    let j = length-append (encode b) (joined encode bs) in
    let e : length (encode b) ≡ 1 + m = rw (joined_cons encode b [], joined_nil encode, append-nil (encode b)) at p.mended in
    record {
      count = rw (high_cons 0 b bs) (omega (arith, high_anywhere 1 0 bs, p.count, q.count));
      mended = rw (joined_cons) (omega (arith, q.mended));
    }

pub counted_nil : HighCounted [] 0
counted_nil = record { count = rw (high_nil 0); mended = rw joined_nil }

-- n are counted up to place i of a line: what the line has is n and what is left
pub record CountLeft (line : List ℕ) (n i : ℕ) : Type 0 where
  pub within : i ≤ length line
  pub few : n ≤ i
  pub count : (m : ℕ) → HighCounted (drop i line) m → HighCounted line (n + m)

pub count_more : (line : List ℕ) (n i r : ℕ) → i < length line → CountLeft line n i → HighCounted (get_or line i 0 ∷ []) r → CountLeft line (n + r) (i + 1)
count_more line n i r h p q =
    let f : r ≤ 1 = low_or_high (get_or line i 0) (λ l. omega (arith, q.count, ap length (high_low 0 (get_or line i 0) [] l), ap length (high_nil 1))) (λ l. omega (arith, q.count, ap length (high_high 0 (get_or line i 0) [] l), ap length (high_nil 1))) in
    record {
      within = omega arith;
      few = omega (arith, p.few);
      count = λ m k. let e : n + (r + m) ≡ n + r + m = omega arith in rw e at (p.count (r + m) (rw (drop_here 0 line i h) (counted_cons (get_or line i 0) (drop (i + 1) line) r m q k)));
    }

pub count_last : (line : List ℕ) (n i : ℕ) → length line ≤ i → CountLeft line n i → HighCounted line n
count_last line n i h p = let e : n + 0 ≡ n = omega arith in rw e at (p.count 0 (rw (drop_none_nil h) counted_nil))
  where
    drop_none_nil : length line ≤ i → drop i line ≡ []
    drop_none_nil k = drop_of_length-le line {i = i} k

-- ---- of a line, mended or left

module _ (line : List ℕ) where
  pub left_as_found : is_utf8 line ≡ true → (mended_line line ≡ line) × ((at : ℕ) → line_changes at line ≡ [])
  unfolding mended_line line_changes
  left_as_found h = (rw h, λ at. rw h)

  pub changed : is_utf8 line ≡ false → (mended_line line ≡ joined encode line) × ((at : ℕ) → line_changes at line ≡ high_bytes at line)
  unfolding mended_line line_changes
  changed h = (rw h, λ at. rw h)

  pub counted_found : is_utf8 line ≡ true → LineCounted line 0
  counted_found h = let f = left_as_found h in record { count = rw (f.1 0); mended = rw f.0 (omega arith) }

  pub counted_changed : (r : ℕ) → is_utf8 line ≡ false → HighCounted line r → LineCounted line r
  counted_changed r h q = let f = changed h in record { count = rw (f.1 0) q.count; mended = rw f.0 q.mended }

  -- formed or not
  pub formed_or_not : {P : Type 0} → (is_utf8 line ≡ true → P) → (is_utf8 line ≡ false → P) → P
  formed_or_not {P} y n = pick (is_utf8 line) refl
    where
      pick : (t : Bool) → is_utf8 line ≡ t → P
      pick true e = y e
      pick false e = n e

  pub changes_anywhere : (at at' : ℕ) → length (line_changes at line) ≡ length (line_changes at' line)
  changes_anywhere at at' =
      formed_or_not
      (λ h. let f = left_as_found h in rw (f.1 at, f.1 at'))
      (λ h. let f = changed h in rw (f.1 at, f.1 at') (high_anywhere at at' line))

-- ---- of notes from a place on

pub mended_nil : mended [] ≡ []
unfolding mended
mended_nil = rw (no_lines, joined_nil)

changes_none : (at : ℕ) → changes_from at (whole_lines []) ≡ []
unfolding changes_from
changes_none at = rw no_lines

module _ (s : List ℕ) (at end : ℕ) (l : LineAt s at end) where
  pub mended_line_law : mended (drop at s) ≡ mended_line (take (end - at) (drop at s)) ++ mended (drop end s)
  unfolding mended
  mended_line_law = rw (l.first, joined_cons)

  pub line_length : length (take (end - at) (drop at s)) ≡ end - at
  line_length = simp (length-take, length-drop) (omega (arith, l.within))

  pub changes_line : changes_from at (whole_lines (drop at s)) ≡ line_changes at (take (end - at) (drop at s)) ++ changes_from end (whole_lines (drop end s))
  unfolding changes_from
  changes_line = let e : at + (end - at) ≡ end = omega (arith, l.on) in rw (l.first, changes_from, line_length, e)

module _ (s : List ℕ) (i : ℕ) (h : length s ≤ i) where
  pub mended_past : mended (drop i s) ≡ []
  mended_past = rw (drop_of_length-le s {i = i} h) mended_nil

  pub changes_past : changes_from i (whole_lines (drop i s)) ≡ []
  changes_past = rw (drop_of_length-le s {i = i} h) (changes_none i)

-- n are counted up to place at of the notes
pub record NotesLeft (notes : List ℕ) (n at : ℕ) : Type 0 where
  pub within : at ≤ length notes
  pub few : n ≤ at
  pub count : n + length (changes_from at (whole_lines (drop at notes))) ≡ length (changes notes)
  pub mended : at + n + length (mended (drop at notes)) ≡ length (mended notes)

pub notes_first : (notes : List ℕ) → NotesLeft notes 0 0
unfolding changes
notes_first notes = record { within = omega arith; few = omega arith; count = zero-add _; mended = omega arith }

pub high_few : (at : ℕ) (bs : List ℕ) → length (high_bytes at bs) ≤ length bs
high_few at [] = rw (high_nil at) (omega arith)
high_few at (b ∷ bs) =
    let e = high_few (at + 1) bs in
    low_or_high b (λ h. rw (high_low at b bs h) (omega arith)) (λ h. rw (high_high at b bs h) (omega arith))

pub notes_more : (notes : List ℕ) (n at end r : ℕ) → NotesLeft notes n at → LineAt notes at end → LineCounted (take (end - at) (drop at notes)) r → NotesLeft notes (n + r) end
notes_more notes n at end r p l q =
    let line = take (end - at) (drop at notes) in
    let k = line_length notes at end l in
    let a = ap length (changes_line notes at end l) ∙ length-append (line_changes at line) (changes_from end (whole_lines (drop end notes))) in
    let b = ap length (mended_line_law notes at end l) ∙ length-append (mended_line line) (mended (drop end notes)) in
    let f : r ≤ length line = few line r q in
    record {
      within = l.within;
      few = omega (arith, p.few, l.on);
      count = omega (arith, p.count, q.count, changes_anywhere line at 0);
      mended = omega (arith, p.mended, q.mended, l.on);
    }
  where
    few : (line : List ℕ) (r : ℕ) → LineCounted line r → r ≤ length line
    few line r q =
        formed_or_not line
        (λ h. omega (arith, q.count, ap length ((left_as_found line h).1 0)))
        (λ h. omega (arith, q.count, ap length ((changed line h).1 0), high_few 0 line))

pub notes_last : (notes : List ℕ) (n at : ℕ) → length notes ≤ at → NotesLeft notes n at → Counted notes n
notes_last notes n at h p =
    record {
      count = omega (arith, p.count, ap length (changes_past notes at h));
      mended = omega (arith, p.mended, p.within, ap length (mended_past notes at h));
      few = omega (arith, p.few, p.within);
    }

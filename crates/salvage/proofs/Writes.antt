-- What is written after what: the copy and the list, a byte, a line, notes.
use mathlib.Core.Path.{◌≡◌, refl, sym, ap, ◌∙◌}
use mathlib.Core.Bool.{true}
use mathlib.Core.List.{List, [], ◌∷◌, ◌++◌, map}
use Prim.Native.Nat.{ℕ, suc, ◌+◌, ◌-◌, ◌/◌, ◌%◌, ◌≤◌, ◌<◌}
use native.Mathlib.Omega.{arith}
use native.Mathlib.Nat.{add-zero, add-suc, suc-add}
use native.Mathlib.Numerals.{add-one}
use lib.ListN.{length, get_or, take, drop, set, length-append}
use lib.Seq.{sets, length-sets}
use Rattle.lists.specs.Runs.{joined}
use Rattle.lists.proofs.Parts.{joined_nil, joined_cons}
use Rattle.lists.proofs.Views.{drop_here, drop_none}
use Rattle.text.specs.Rfc3629.{encode}
use Rattle.salvage.specs.Lines.{is_utf8, whole_lines}
use Rattle.salvage.specs.Mending.{Change, mended_line, mended, high_bytes, line_changes, changes_from, changes}
use Rattle.salvage.specs.Cited.Steps.{LineAt, Fits, Put}
use Rattle.salvage.proofs.Counts.{encode_low, encode_high, high_nil, high_low, high_high, high_cons, mended_line_law, changes_line, mended_past, changes_past, left_as_found, line_length}

-- one run of stores after another
pub sets_append : {A : Type 0} (l : List A) (k : ℕ) (xs ys : List A) → sets (sets l k xs) (k + length xs) ys ≡ sets l k (xs ++ ys)
sets_append l k [] ys = rw add-zero
sets_append l k (x ∷ xs) ys = rw (add-suc k (length xs), ← suc-add k (length xs)) (sets_append (set l k x) (suc k) xs ys)

-- a text that is stored from its front on, up to its place i
pub record Storing (text out₀ : List ℕ) (at : ℕ) (out : List ℕ) (i : ℕ) : Type 0 where
  pub within : i ≤ length text
  pub left : sets out (at + i) (drop i text) ≡ sets out₀ at text

map_append : {A B : Type 0} (f : A → B) (xs ys : List A) → map f (xs ++ ys) ≡ map f xs ++ map f ys
map_append f [] ys = refl
map_append {A} {B} f (x ∷ xs) ys = ap (λ (l : List B). f x ∷ l) (map_append f xs ys)

length_mapped : {A B : Type 0} (f : A → B) (xs : List A) → length (map f xs) ≡ length xs
length_mapped f [] = refl
length_mapped f (x ∷ xs) = ap suc (length_mapped f xs)

-- ---- a byte

module _ (b at n : ℕ) (copy places bytes : List ℕ) where
  pub put_low : b < 0x80 → Put at n (encode b) (high_bytes at (b ∷ [])) copy places bytes (at + 1) n (set copy (at + n) b) places bytes
  put_low h = rw (encode_low b h, high_low at b [] h, high_nil (at + 1)) (record { next = omega arith; count = omega arith; copied = refl; placed = refl; kept = refl })

  pub put_high : 0x80 ≤ b → b < 256
      → Put at n (encode b) (high_bytes at (b ∷ [])) copy places bytes (at + 1) (n + 1) (set (set copy (at + n) (0xC0 + b / 64)) (at + n + 1) (0x80 + b % 64)) (set places n at) (set bytes n b)
  put_high h k =
      rw (encode_high b h k, high_high at b [] h, high_nil (at + 1))
      (record { next = omega arith; count = omega arith; copied = rw (add-one (at + n)); placed = refl; kept = refl })

  pub room_low : b < 0x80 → Fits at n (encode b) (high_bytes at (b ∷ [])) copy places bytes → at + n < length copy
  room_low h f = omega (arith, f.copied, ap length (encode_low b h))

  pub room_high : 0x80 ≤ b → b < 256 → Fits at n (encode b) (high_bytes at (b ∷ [])) copy places bytes
      → (at + n + 1 < length copy) × (n < length places) × (n < length bytes)
  room_high h k f =
      let e = ap length (encode_high b h k) in
      let l : length (high_bytes at (b ∷ [])) ≡ 1 = ap length (high_high at b [] h) ∙ rw (high_nil (at + 1)) in
      (omega (arith, f.copied), omega (arith, f.placed), omega (arith, f.kept))

-- ---- what is left to be written: at place at and after n changes, the text and the list; from at₀ and n₀ it was text₀ and list₀

pub record Left (at₀ n₀ : ℕ) (text₀ : List ℕ) (list₀ : List Change) (copy₀ places₀ bytes₀ : List ℕ) (at n : ℕ) (text : List ℕ) (list : List Change) (copy places bytes : List ℕ) : Type 0 where
  pub next : at + n + length text ≡ at₀ + n₀ + length text₀
  pub count : n + length list ≡ n₀ + length list₀
  pub copied : sets copy (at + n) text ≡ sets copy₀ (at₀ + n₀) text₀
  pub placed : sets places n (map (λ c. c.place) list) ≡ sets places₀ n₀ (map (λ c. c.place) list₀)
  pub kept : sets bytes n (map (λ c. c.byte) list) ≡ sets bytes₀ n₀ (map (λ c. c.byte) list₀)

pub left_first : (at n : ℕ) (text : List ℕ) (list : List Change) (copy places bytes : List ℕ) → Left at n text list copy places bytes at n text list copy places bytes
left_first at n text list copy places bytes = record { next = refl; count = refl; copied = refl; placed = refl; kept = refl }

module _ {at₀ n₀ : ℕ} {text₀ : List ℕ} {list₀ : List Change} {copy₀ places₀ bytes₀ : List ℕ} {at n : ℕ} where
  pub left_then : {t text : List ℕ} {l list : List Change} {copy places bytes : List ℕ} {at' n' : ℕ} {copy' places' bytes' : List ℕ}
      → Left at₀ n₀ text₀ list₀ copy₀ places₀ bytes₀ at n (t ++ text) (l ++ list) copy places bytes
      → Put at n t l copy places bytes at' n' copy' places' bytes'
      → Left at₀ n₀ text₀ list₀ copy₀ places₀ bytes₀ at' n' text list copy' places' bytes'
  left_then {t} {text} {l} {list} {copy} {places} {bytes} p q =
      let a = length-append t text in
      let b = length-append l list in
      record {
        next = omega (arith, p.next, q.next);
        count = omega (arith, p.count, q.count);
        copied = rw (q.next, q.copied) (sets_append copy (at + n) t text ∙ p.copied);
        placed =
            rw (q.placed, q.count, ← length_mapped (λ (c : Change). c.place) l)
            (sets_append places n (map (λ c. c.place) l) (map (λ c. c.place) list) ∙ ap (sets places n) (sym (map_append (λ c. c.place) l list)) ∙ p.placed);
        kept =
            rw (q.kept, q.count, ← length_mapped (λ (c : Change). c.byte) l)
            (sets_append bytes n (map (λ c. c.byte) l) (map (λ c. c.byte) list) ∙ ap (sets bytes n) (sym (map_append (λ c. c.byte) l list)) ∙ p.kept);
      }

  module _ {text : List ℕ} {list : List Change} {copy places bytes : List ℕ} (p : Left at₀ n₀ text₀ list₀ copy₀ places₀ bytes₀ at n text list copy places bytes) where
    pub left_length : (length copy ≡ length copy₀) × (length places ≡ length places₀) × (length bytes ≡ length bytes₀)
    left_length = (
      sym (length-sets copy (at + n) text) ∙ ap length p.copied ∙ length-sets copy₀ (at₀ + n₀) text₀,
      sym (length-sets places n (map (λ c. c.place) list)) ∙ ap length p.placed ∙ length-sets places₀ n₀ (map (λ c. c.place) list₀),
      sym (length-sets bytes n (map (λ c. c.byte) list)) ∙ ap length p.kept ∙ length-sets bytes₀ n₀ (map (λ c. c.byte) list₀),
    )

    pub left_fits : Fits at₀ n₀ text₀ list₀ copy₀ places₀ bytes₀ → Fits at n text list copy places bytes
    left_fits f =
        let l = left_length in
        record { copied = omega (arith, p.next, f.copied); placed = omega (arith, p.count, f.placed); kept = omega (arith, p.count, f.kept) }

  pub left_last : {copy places bytes : List ℕ}
      → Left at₀ n₀ text₀ list₀ copy₀ places₀ bytes₀ at n [] [] copy places bytes
      → Put at₀ n₀ text₀ list₀ copy₀ places₀ bytes₀ at n copy places bytes
  left_last p = record { next = omega (arith, p.next); count = omega (arith, p.count); copied = p.copied; placed = p.placed; kept = p.kept }

-- the front of what fits fits
pub fits_front : {at n : ℕ} (t text : List ℕ) (l list : List Change) {copy places bytes : List ℕ}
    → Fits at n (t ++ text) (l ++ list) copy places bytes → Fits at n t l copy places bytes
fits_front t text l list f =
    let a = length-append t text in
    let b = length-append l list in
    record { copied = omega (arith, f.copied); placed = omega (arith, f.placed); kept = omega (arith, f.kept) }

-- ---- a line, byte by byte, up to its place i

pub record LinePart (line : List ℕ) (at n : ℕ) (copy₀ places₀ bytes₀ : List ℕ) (i m : ℕ) (copy places bytes : List ℕ) : Type 0 where
  pub within : i ≤ length line
  pub left : Left at n (joined encode line) (high_bytes at line) copy₀ places₀ bytes₀ (at + i) m (joined encode (drop i line)) (high_bytes (at + i) (drop i line)) copy places bytes

module _ {line : List ℕ} {at n : ℕ} {copy₀ places₀ bytes₀ : List ℕ} {i m : ℕ} {copy places bytes : List ℕ} (p : LinePart line at n copy₀ places₀ bytes₀ i m copy places bytes) where
  module _ (h : i < length line) where
    byte_and_rest : Left at n (joined encode line) (high_bytes at line) copy₀ places₀ bytes₀ (at + i) m
        (encode (get_or line i 0) ++ joined encode (drop (i + 1) line)) (high_bytes (at + i) (get_or line i 0 ∷ []) ++ high_bytes (at + i + 1) (drop (i + 1) line)) copy places bytes
    byte_and_rest = rw (← joined_cons encode (get_or line i 0) (drop (i + 1) line), ← high_cons (at + i) (get_or line i 0) (drop (i + 1) line), ← drop_here 0 line i h) p.left

    pub byte_fits : Fits at n (joined encode line) (high_bytes at line) copy₀ places₀ bytes₀ → Fits (at + i) m (encode (get_or line i 0)) (high_bytes (at + i) (get_or line i 0 ∷ [])) copy places bytes
    byte_fits f =
        fits_front (encode (get_or line i 0)) (joined encode (drop (i + 1) line)) (high_bytes (at + i) (get_or line i 0 ∷ [])) (high_bytes (at + i + 1) (drop (i + 1) line))
        (left_fits byte_and_rest f)

    pub byte_put : {m' : ℕ} {copy' places' bytes' : List ℕ}
        → Put (at + i) m (encode (get_or line i 0)) (high_bytes (at + i) (get_or line i 0 ∷ [])) copy places bytes (at + i + 1) m' copy' places' bytes'
        → LinePart line at n copy₀ places₀ bytes₀ (i + 1) m' copy' places' bytes'
    byte_put q = let e : at + (i + 1) ≡ at + i + 1 = omega arith in record { within = omega arith; left = rw e (left_then byte_and_rest q) }

  pub line_put : length line ≤ i → Put at n (joined encode line) (high_bytes at line) copy₀ places₀ bytes₀ (at + length line) m copy places bytes
  line_put h =
      let e : i ≡ length line = omega (arith, p.within) in
      rw (← e) (left_last (rw (drop_none 0 line i h, joined_nil encode, high_nil (at + i)) at p.left))

-- ---- a line as it is

pub line_as_it_is : (line : List ℕ) (at n : ℕ) (copy places bytes copy' : List ℕ) → is_utf8 line ≡ true → copy' ≡ sets copy (at + n) line
    → Put at n (mended_line line) (line_changes at line) copy places bytes (at + length line) n copy' places bytes
line_as_it_is line at n copy places bytes copy' h e =
    let f = left_as_found line h in
    rw (f.0, f.1 at) (record { next = omega arith; count = omega arith; copied = e; placed = refl; kept = refl })

-- ---- notes, line by line, up to their place at

pub record NotesPart (notes copy₀ places₀ bytes₀ : List ℕ) (at n : ℕ) (copy places bytes : List ℕ) : Type 0 where
  pub within : at ≤ length notes
  pub left : Left 0 0 (mended notes) (changes notes) copy₀ places₀ bytes₀ at n (mended (drop at notes)) (changes_from at (whole_lines (drop at notes))) copy places bytes

pub notes_begin : (notes copy places bytes : List ℕ) → NotesPart notes copy places bytes 0 0 copy places bytes
unfolding changes
notes_begin notes copy places bytes = record { within = omega arith; left = left_first 0 0 (mended notes) (changes notes) copy places bytes }

module _ {notes copy₀ places₀ bytes₀ : List ℕ} {at n : ℕ} {copy places bytes : List ℕ} (p : NotesPart notes copy₀ places₀ bytes₀ at n copy places bytes) where
  module _ {end : ℕ} (l : LineAt notes at end) where
    line_and_rest : Left 0 0 (mended notes) (changes notes) copy₀ places₀ bytes₀ at n
        (mended_line (take (end - at) (drop at notes)) ++ mended (drop end notes)) (line_changes at (take (end - at) (drop at notes)) ++ changes_from end (whole_lines (drop end notes))) copy places bytes
    line_and_rest = rw (← mended_line_law notes at end l, ← changes_line notes at end l) p.left

    pub line_fits : Fits 0 0 (mended notes) (changes notes) copy₀ places₀ bytes₀
        → Fits at n (mended_line (take (end - at) (drop at notes))) (line_changes at (take (end - at) (drop at notes))) copy places bytes
    line_fits f =
        fits_front (mended_line (take (end - at) (drop at notes))) (mended (drop end notes)) (line_changes at (take (end - at) (drop at notes))) (changes_from end (whole_lines (drop end notes)))
        (left_fits line_and_rest f)

    pub line_then : {n' : ℕ} {copy' places' bytes' : List ℕ}
        → Put at n (mended_line (take (end - at) (drop at notes))) (line_changes at (take (end - at) (drop at notes))) copy places bytes (at + length (take (end - at) (drop at notes))) n' copy' places' bytes'
        → NotesPart notes copy₀ places₀ bytes₀ end n' copy' places' bytes'
    line_then {n'} {copy'} {places'} {bytes'} q =
        let e : at + length (take (end - at) (drop at notes)) ≡ end = omega (arith, line_length notes at end l, l.on) in
        record { within = l.within; left = left_then line_and_rest (rw e at q) }

  pub notes_put : length notes ≤ at → Put 0 0 (mended notes) (changes notes) copy₀ places₀ bytes₀ at n copy places bytes
  notes_put h = left_last (rw (mended_past notes at h, changes_past notes at h) at p.left)

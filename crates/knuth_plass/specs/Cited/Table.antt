-- The break table: one list of numbers, eight a record. The record's own seven, and the table's list of active breaks beside them, one
-- number a record. What a record's path is, and the break of RULES 8.1 that a record means.
use Rattle.std.specs.Prelude.{false, cond, List, [], ◌∷◌, ◌≡◌, ℕ, zero, suc, ◌+◌, ◌-◌, ◌*◌, ◌/◌, ◌%◌, ◌^◌, ◌≤◌, ◌<◌, T, eqb, ltb, Float, length, get_or, set, take, drop}
use Rattle.std.specs.Float.{binary32}
use Rattle.std.specs.Float.Ieee.{of_bits}
use Rattle.std.proofs.lemmas.List.Edits.{sets}
use Rattle.demerits.specs.Cited.Bounds.{within, most_cost}
use Rattle.knuth_plass.specs.declared.Break.{Break as Record}
use Rattle.knuth_plass.specs.KnuthPlass.{Place, Break}

-- the most words of a paragraph, and so the most breaks: up to here every sum fits
abbrev pub most_words : ℕ
most_words = 2 ^ 20

-- the ratio that a record has as bits
abbrev pub ratio_of : ℕ → Float
ratio_of bits = of_bits binary32 bits

-- ---- the numbers

-- number j of record i
abbrev pub break_number : List ℕ → ℕ → ℕ → ℕ
break_number numbers i j = get_or numbers (i * 8 + j) 0

-- the demerits of record i, of 64 bits, stand in two places, the lower half first
abbrev pub demerits_in : List ℕ → ℕ → ℕ
demerits_in numbers i = break_number numbers i 5 * 2 ^ 32 + break_number numbers i 4

-- record i, put together; the word and whether the break is before it are one number
unfoldable pub record_at : List ℕ → ℕ → Record
record_at numbers i = record {
  previous = break_number numbers i 0;
  word = break_number numbers i 1 / 2;
  before = eqb (break_number numbers i 1 % 2) 1;
  demerits = demerits_in numbers i;
  ratio = break_number numbers i 3;
  columns = break_number numbers i 6;
  fresh = eqb (break_number numbers i 7) 1;
}

-- the number of the k-th active break is in record k
abbrev pub active_at : List ℕ → ℕ → ℕ
active_at numbers k = break_number numbers k 2

-- record i with the place of b, and the break before it
abbrev pub place_numbers : Record → List ℕ
place_numbers b = b.previous ∷ (b.word * 2 + cond b.before 1 0) ∷ []

unfoldable pub with_place : List ℕ → ℕ → Record → List ℕ
with_place numbers i b = sets numbers (i * 8) (place_numbers b)

-- record i with the demerits and the line of b: what changes where a break stays
abbrev pub line_numbers : Record → List ℕ
line_numbers b = b.demerits % 2 ^ 32 ∷ b.demerits / 2 ^ 32 ∷ b.columns ∷ cond b.fresh 1 0 ∷ []

unfoldable pub with_line : List ℕ → ℕ → Record → List ℕ
with_line numbers i b = sets numbers (i * 8 + 4) (line_numbers b)

-- record i with all that b has
unfoldable pub with_record : List ℕ → ℕ → Record → List ℕ
with_record numbers i b = set (with_line (with_place numbers i b) i b) (i * 8 + 3) b.ratio

-- break n is the k-th active one
unfoldable pub with_active : List ℕ → ℕ → ℕ → List ℕ
with_active numbers k n = set numbers (k * 8 + 2) n

-- a record whose numbers fit the table
pub record Fits (b : Record) : Type 0 where
  pub previous : b.previous < 2 ^ 32
  pub word : b.word < 2 ^ 31
  pub columns : b.columns < 2 ^ 32

-- the numbers of n break records after n words of seven numbers each
abbrev pub records_part : ℕ → List ℕ → List ℕ
records_part n work = take (n * 15 - n * 7) (drop (n * 7) work)

-- ---- the table and the active breaks that the numbers are

-- what f gives at the numbers below n, in order
unfoldable pub below : {A : Type 0} → ℕ → (ℕ → A) → List A
below zero f = []
below (suc n) f = f 0 ∷ below n (λ i. f (suc i))

abbrev pub Tables : Type 0
Tables = List Record

unfoldable pub table_in : List ℕ → Tables
table_in numbers = below (length numbers / 8) (record_at numbers)

unfoldable pub active_in : List ℕ → List ℕ
active_in numbers = below (length numbers / 8) (active_at numbers)

-- there is room for no more records than a paragraph may have words
pub record Sized (t : Tables) : Type 0 where
  pub few : length t ≤ most_words

abbrev pub no_record : Record
no_record = record { previous = 0; word = 0; before = false; demerits = 0; ratio = 0; columns = 0; fresh = false }

unfoldable pub break_in : Tables → ℕ → Record
break_in t i = get_or t i no_record

unfoldable pub with_break : Tables → ℕ → Record → Tables
with_break t i b = set t i b

-- record i is b now, and the others are as they were
pub record Stored (t : Tables) (i : ℕ) (b : Record) (t₁ : Tables) : Type 0 where
  pub sized : Sized t₁
  pub length : length t₁ ≡ length t
  pub here : break_in t₁ i ≡ b
  pub others : (j : ℕ) → (j ≡ i → ⊥) → break_in t₁ j ≡ break_in t j

-- where a record stands
abbrev pub place_of : Record → Place
place_of b = record { word = b.word; before = b.before }

-- the path that ends at record i, last first, in at most k steps: record 0 is the paragraph's start
unfoldable pub path_in : ℕ → (ℕ → Record) → ℕ → List Place
path_in zero f i = []
path_in (suc k) f zero = []
path_in (suc k) f (suc i) = place_of (f (suc i)) ∷ path_in k f (f (suc i)).previous

-- each record but the first leads to one before it, so that record i has no more than i steps
unfoldable pub path_to : Tables → ℕ → List Place
path_to t i = path_in i (break_in t) i

-- a record with its path is a break
unfoldable pub seen : List Place → Record → Break
seen path b = record { places = path; demerits = b.demerits; ratio = ratio_of b.ratio; columns = b.columns; fresh = b.fresh }

unfoldable pub break_meant : Tables → ℕ → Break
break_meant t i = seen (path_to t i) (break_in t i)

-- what holds of each record before the round of word i: its ratio, its columns, its demerits and its word are bounded
pub record Sound (i : ℕ) (b : Record) : Type 0 where
  pub ratio : T (within 1 (ratio_of b.ratio))
  pub columns : b.columns < 2 ^ 32
  pub demerits : b.demerits ≤ i * most_cost
  pub word : b.word < i

-- so it is of the first n records, and each but the first leads to one before it
pub record Filled (i n : ℕ) (t : Tables) : Type 0 where
  pub sized : Sized t
  pub sound : (j : ℕ) → j < n → Sound i (break_in t j)
  pub down : (j : ℕ) → 0 < j → j < n → (break_in t j).previous < j

-- numbers that ascend, from lo on and below hi
abbrev pub Ascends : ℕ → ℕ → List ℕ → Type 0
Ascends lo hi [] = lo ≤ hi
Ascends lo hi (x ∷ xs) = (lo ≤ x) × Ascends (suc x) hi xs

-- each record up to `last`, but the first, leads to one before it, and is at a word that has a mark
abbrev pub Leads : Tables → ℕ → Type 0
Leads t last = (j : ℕ) → 0 < j → j ≤ last → ((break_in t j).previous < j) × ((break_in t j).word < most_words)

-- the word that a break starts a line with
abbrev pub start_of : Record → ℕ
start_of b = cond b.before b.word (b.word + 1)

-- the one of two records with less demerits, the first where they are equal
abbrev pub lesser_in : Tables → ℕ → ℕ → ℕ
lesser_in t m n = cond (ltb (break_in t n).demerits (break_in t m).demerits) n m

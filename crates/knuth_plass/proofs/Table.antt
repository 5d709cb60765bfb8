-- The break table's laws: a record that was stored is read back, and the others are as they were; and the active breaks beside them.
use mathlib.Core.Path.{◌≡◌, refl, ap, ap₂, ◌∙◌}
use mathlib.Core.Bool.{Bool, true, false, cond}
use mathlib.Core.List.{List, ◌∷◌}
use Prim.Native.Nat.{ℕ, zero, suc, ◌+◌, ◌*◌, ◌/◌, ◌%◌, ◌^◌, ◌≤◌, ◌<◌}
use native.Mathlib.Numerals.{add-one, add-two, add-three}
use native.Mathlib.Nat.{div-add-mod'}
use native.Mathlib.Omega.{arith}
use lib.Dec.{eqb}
use lib.ListN.{length, get_or, set, length-set}
use lib.Seq.{length-sets, get_or-set_same, get_or-set_other}
use Rattle.std.specs.Int.{from_bool}
use Rattle.lists.proofs.Stores.{sets_other, sets_within}
use Rattle.knuth_plass.specs.declared.Break.{Break as Record}
use Rattle.knuth_plass.specs.Cited.Table.{below, Tables, table_in, active_in, active_at, Sized, break_number, record_at, break_in, no_record, place_numbers, with_place, line_numbers, with_line, with_record, with_active, with_break, Stored}
use Rattle.knuth_plass.specs.Cited.Round.{lessened, extended}

-- ---- records in a list

module _ (t : Tables) (i : ℕ) (b : Record) where
  pub length_with : length (with_break t i b) ≡ length t
  unfolding with_break
  length_with = length-set t i b

  pub sized_with : Sized t → Sized (with_break t i b)
  sized_with s = record { few = rw length_with s.few }

  pub read_back : i < length t → Sized t → break_in (with_break t i b) i ≡ b
  unfolding break_in with_break
  read_back room sized = get_or-set_same t i b no_record room

  pub read_other : (j : ℕ) → (j ≡ i → ⊥) → break_in (with_break t i b) j ≡ break_in t j
  unfolding break_in with_break
  read_other j other = get_or-set_other t i j b no_record other

  pub stored_with : i < length t → Sized t → Stored t i b (with_break t i b)
  stored_with room sized = record { sized = sized_with sized; length = length_with; here = read_back room sized; others = read_other }

-- ---- what a function gives at the numbers below n

module _ {A : Type 0} where
  below_length : (n : ℕ) (f : ℕ → A) → length (below n f) ≡ n
  unfolding below
  below_length zero f = refl
  below_length (suc n) f = ap suc (below_length n (λ i. f (suc i)))

  below_at : (d : A) (n i : ℕ) (f : ℕ → A) → i < n → get_or (below n f) i d ≡ f i
  unfolding below
  below_at d zero i f h = absurd (omega arith)
  below_at d (suc n) zero f h = refl
  below_at d (suc n) (suc i) f h = below_at d n i (λ j. f (suc j)) (omega arith)

  below_same : (n : ℕ) (f g : ℕ → A) → ((j : ℕ) → g j ≡ f j) → below n g ≡ below n f
  unfolding below
  below_same zero f g e = refl
  below_same (suc n) f g e = ap₂ (λ (x : A) (xs : List A). x ∷ xs) (e 0) (below_same n (λ j. f (suc j)) (λ j. g (suc j)) (λ j. e (suc j)))

  below_set : (n i : ℕ) (f g : ℕ → A) → i < n → ((j : ℕ) → (j ≡ i → ⊥) → g j ≡ f j) → below n g ≡ set (below n f) i (g i)
  unfolding below
  below_set zero i f g h e = absurd (omega arith)
  below_set (suc n) zero f g h e = ap (λ (xs : List A). g 0 ∷ xs) (below_same n (λ j. f (suc j)) (λ j. g (suc j)) (λ j. e (suc j) (λ q. omega arith)))
  below_set (suc n) (suc i) f g h e =
      ap₂ (λ (x : A) (xs : List A). x ∷ xs) (e 0 (λ q. omega arith))
      (below_set n i (λ j. f (suc j)) (λ j. g (suc j)) (omega arith) (λ j ne. e (suc j) (λ q. ne (omega arith))))

-- ---- the table and the active breaks in a list of numbers

module _ (l : List ℕ) where
  pub table_length : length (table_in l) ≡ length l / 8
  unfolding table_in
  table_length = below_length (length l / 8) (record_at l)

  pub active_length : length (active_in l) ≡ length l / 8
  unfolding active_in
  active_length = below_length (length l / 8) (active_at l)

  -- there are as many of the ones as of the others
  pub active_sized : length (active_in l) ≡ length (table_in l)
  active_sized = rw (table_length, active_length)

  pub has_room : (i : ℕ) → i < length (table_in l) → i * 8 + 8 ≤ length l
  has_room i h = let e = table_length in omega arith

  pub table_at : (i : ℕ) → i < length (table_in l) → break_in (table_in l) i ≡ record_at l i
  unfolding break_in table_in
  table_at i h = let e = table_length in below_at no_record (length l / 8) i (record_at l) (omega arith)

  pub active_at_law : (k : ℕ) → k < length (table_in l) → get_or (active_in l) k 0 ≡ active_at l k
  unfolding active_in
  active_at_law k h = let e = table_length in below_at 0 (length l / 8) k (active_at l) (omega arith)

module _ (l l₁ : List ℕ) (same : length l₁ ≡ length l) where
  table_same : ((j : ℕ) → record_at l₁ j ≡ record_at l j) → table_in l₁ ≡ table_in l
  unfolding table_in
  table_same e = rw same (below_same (length l / 8) (record_at l) (record_at l₁) e)

  active_same : ((k : ℕ) → active_at l₁ k ≡ active_at l k) → active_in l₁ ≡ active_in l
  unfolding active_in
  active_same e = rw same (below_same (length l / 8) (active_at l) (active_at l₁) e)

  module _ (i : ℕ) (room : i < length (table_in l)) where
    table_set : (b : Record) → record_at l₁ i ≡ b → ((j : ℕ) → (j ≡ i → ⊥) → record_at l₁ j ≡ record_at l j) → table_in l₁ ≡ with_break (table_in l) i b
    unfolding table_in with_break
    table_set b here others = let e = table_length l in rw (same, ← here) (below_set (length l / 8) i (record_at l) (record_at l₁) (omega arith) others)

    active_set : (n : ℕ) → active_at l₁ i ≡ n → ((k : ℕ) → (k ≡ i → ⊥) → active_at l₁ k ≡ active_at l k) → active_in l₁ ≡ set (active_in l) i n
    unfolding active_in
    active_set n here others = let e = table_length l in rw (same, ← here) (below_set (length l / 8) i (active_at l) (active_at l₁) (omega arith) others)

-- a record is as it was if its own numbers are
same_record : (l l₁ : List ℕ) (j : ℕ) → ((a : ℕ) → a < 8 → (a ≡ 2 → ⊥) → break_number l₁ j a ≡ break_number l j a) → record_at l₁ j ≡ record_at l j
unfolding record_at
same_record l l₁ j same =
    rw (
      same 0 (omega arith) (λ e. omega arith),
      same 1 (omega arith) (λ e. omega arith),
      same 3 (omega arith) (λ e. omega arith),
      same 4 (omega arith) (λ e. omega arith),
      same 5 (omega arith) (λ e. omega arith),
      same 6 (omega arith) (λ e. omega arith),
      same 7 (omega arith) (λ e. omega arith),
    )

-- ---- a number of the active breaks

module _ (l : List ℕ) (k n : ℕ) where
  length_active : length (with_active l k n) ≡ length l
  unfolding with_active
  length_active = length-set l (k * 8 + 2) n

  active_beside : (m : ℕ) → (m ≡ k * 8 + 2 → ⊥) → get_or (with_active l k n) m 0 ≡ get_or l m 0
  unfolding with_active
  active_beside m ne = get_or-set_other l (k * 8 + 2) m n 0 ne

  active_here : k < length (table_in l) → active_at (with_active l k n) k ≡ n
  unfolding with_active
  active_here room = let h = has_room l k room in get_or-set_same l (k * 8 + 2) n 0 (omega arith)

  pub table_active : table_in (with_active l k n) ≡ table_in l
  table_active = table_same l (with_active l k n) length_active (λ j. same_record l (with_active l k n) j (λ a h ne. active_beside (j * 8 + a) (λ e. ne (omega arith))))

  pub active_active : k < length (table_in l) → active_in (with_active l k n) ≡ set (active_in l) k n
  active_active room = active_set l (with_active l k n) length_active k room n (active_here room) (λ j ne. active_beside (j * 8 + 2) (λ e. ne (omega arith)))

-- ---- the numbers of a place, and those of a line, stored one by one

bit_is : (a : Bool) → from_bool a ≡ cond a 1 0
bit_is true = refl
bit_is false = refl

bit_back : (a : Bool) → eqb (cond a 1 0) 1 ≡ a
bit_back true = refl
bit_back false = refl

-- the two halves of a number of 64 bits
halves : (d : ℕ) → d / 2 ^ 32 * 2 ^ 32 + d % 2 ^ 32 ≡ d
halves d = div-add-mod' d (2 ^ 32)

-- a word and a bit in one number
word_back : (w : ℕ) (a : Bool) → (w * 2 + cond a 1 0) / 2 ≡ w
word_back w true = omega arith
word_back w false = omega arith

before_back : (w : ℕ) (a : Bool) → eqb ((w * 2 + cond a 1 0) % 2) 1 ≡ a
before_back w true = let e : (w * 2 + 1) % 2 ≡ 1 = omega arith in rw e
before_back w false = let e : (w * 2 + 0) % 2 ≡ 0 = omega arith in rw e

module _ (l : List ℕ) (i : ℕ) (b : Record) where
  pub stored_place : (p : ℕ) → p ≡ from_bool b.before → set (set l (i * 8) b.previous) (i * 8 + 1) (b.word * 2 + p) ≡ with_place l i b
  unfolding with_place
  stored_place p e = rw (add-one (i * 8), e, bit_is b.before)

  pub stored_line : (f : ℕ) → f ≡ from_bool b.fresh
      → set (set (set (set l (i * 8 + 4) (b.demerits % 2 ^ 32)) (i * 8 + 4 + 1) (b.demerits / 2 ^ 32)) (i * 8 + 4 + 2) b.columns) (i * 8 + 4 + 3) f ≡ with_line l i b
  unfolding with_line
  stored_line f e = rw (add-one (i * 8 + 4), add-two (i * 8 + 4), add-three (i * 8 + 4), e, bit_is b.fresh)

  pub length_place : length (with_place l i b) ≡ length l
  unfolding with_place
  length_place = length-sets l (i * 8) (place_numbers b)

  pub length_line : length (with_line l i b) ≡ length l
  unfolding with_line
  length_line = length-sets l (i * 8 + 4) (line_numbers b)

  place_at : (m j : ℕ) → m ≡ i * 8 + j → j < 2 → i * 8 + 8 ≤ length l → get_or (with_place l i b) m 0 ≡ get_or (place_numbers b) j 0
  unfolding with_place
  place_at m j e h room = rw e (sets_within 0 l (i * 8) (place_numbers b) j h (omega arith))

  place_beside : (m : ℕ) → ((j : ℕ) → j < 2 → m ≡ i * 8 + j → ⊥) → get_or (with_place l i b) m 0 ≡ get_or l m 0
  unfolding with_place
  place_beside m ne = sets_other 0 l (i * 8) (place_numbers b) m ne

  line_at : (m j : ℕ) → m ≡ i * 8 + 4 + j → j < 4 → i * 8 + 8 ≤ length l → get_or (with_line l i b) m 0 ≡ get_or (line_numbers b) j 0
  unfolding with_line
  line_at m j e h room = rw e (sets_within 0 l (i * 8 + 4) (line_numbers b) j h (omega arith))

  line_beside : (m : ℕ) → ((j : ℕ) → j < 4 → m ≡ i * 8 + 4 + j → ⊥) → get_or (with_line l i b) m 0 ≡ get_or l m 0
  unfolding with_line
  line_beside m ne = sets_other 0 l (i * 8 + 4) (line_numbers b) m ne

-- ---- a record that is stored

module _ (l : List ℕ) (i : ℕ) (b : Record) where
  length_record : length (with_record l i b) ≡ length l
  unfolding with_record
  length_record = simp (length-set, length_line, length_place)

  record_beside : (m : ℕ) → (m ≡ i * 8 + 3 → ⊥) → ((j : ℕ) → j < 2 → m ≡ i * 8 + j → ⊥) → ((j : ℕ) → j < 4 → m ≡ i * 8 + 4 + j → ⊥) → get_or (with_record l i b) m 0 ≡ get_or l m 0
  unfolding with_record
  record_beside m r p q = get_or-set_other (with_line (with_place l i b) i b) (i * 8 + 3) m b.ratio 0 r ∙ line_beside (with_place l i b) i b m q ∙ place_beside l i b m p

  module _ (room : i < length (table_in l)) where
    place_back : (j : ℕ) → j < 2 → break_number (with_record l i b) i j ≡ get_or (place_numbers b) j 0
    unfolding with_record
    place_back j h =
        get_or-set_other (with_line (with_place l i b) i b) (i * 8 + 3) (i * 8 + j) b.ratio 0 (λ e. omega arith)
        ∙ line_beside (with_place l i b) i b (i * 8 + j) (λ m g e. omega arith)
        ∙ place_at l i b (i * 8 + j) j refl h (has_room l i room)

    line_back : (m j : ℕ) → m ≡ i * 8 + 4 + j → j < 4 → get_or (with_record l i b) m 0 ≡ get_or (line_numbers b) j 0
    unfolding with_record
    line_back m j e h =
        get_or-set_other (with_line (with_place l i b) i b) (i * 8 + 3) m b.ratio 0 (λ q. omega arith)
        ∙ line_at (with_place l i b) i b m j e h (rw length_place (has_room l i room))

    ratio_back : break_number (with_record l i b) i 3 ≡ b.ratio
    unfolding with_record
    ratio_back = let h = has_room l i room in get_or-set_same (with_line (with_place l i b) i b) (i * 8 + 3) b.ratio 0 (rw (length_line, length_place) (omega arith))

    record_back : record_at (with_record l i b) i ≡ b
    unfolding record_at
    record_back =
        rw (
          place_back 0 (omega arith),
          place_back 1 (omega arith),
          line_back (i * 8 + 4) 0 (omega arith) (omega arith),
          line_back (i * 8 + 5) 1 (omega arith) (omega arith),
          line_back (i * 8 + 6) 2 (omega arith) (omega arith),
          line_back (i * 8 + 7) 3 (omega arith) (omega arith),
          ratio_back,
          word_back b.word b.before,
          before_back b.word b.before,
          bit_back b.fresh,
          halves b.demerits,
        )

    pub table_record : table_in (with_record l i b) ≡ with_break (table_in l) i b
    table_record =
        table_set l (with_record l i b) length_record i room b record_back
        (λ j ne. same_record l (with_record l i b) j (λ a h two. record_beside (j * 8 + a) (λ e. ne (omega arith)) (λ m g e. ne (omega arith)) (λ m g e. ne (omega arith))))

  pub active_record : active_in (with_record l i b) ≡ active_in l
  active_record = active_same l (with_record l i b) length_record (λ k. record_beside (k * 8 + 2) (λ e. omega arith) (λ m g e. omega arith) (λ m g e. omega arith))

  -- one break more, and its number as the k-th active one
  pub table_more : (k n : ℕ) (l₁ l₂ : List ℕ) → i < length (table_in l) → l₁ ≡ with_record l i b → l₂ ≡ with_active l₁ k n → table_in l₂ ≡ with_break (table_in l) i b
  table_more k n l₁ l₂ room e f = rw (f, table_active l₁ k n, e) (table_record room)

  pub active_more : (k n : ℕ) (l₁ l₂ : List ℕ) → k < length (table_in l) → l₁ ≡ with_record l i b → l₂ ≡ with_active l₁ k n → active_in l₂ ≡ set (active_in l) k n
  active_more k n l₁ l₂ room e f =
      let s : k < length (table_in l₁) = rw (table_length l₁, e, length_record, ← table_length l) room in
      rw (f, active_active l₁ k n s, e, active_record)

-- ---- a break that stays, with the reduction k taken off and the word on its line

module _ (l : List ℕ) (i k x : ℕ) (b : Record) (is : b ≡ lessened k (break_in (table_in l) i)) (room : i < length (table_in l)) where
  kept_line : (m j : ℕ) → m ≡ i * 8 + 4 + j → j < 4 → get_or (with_line l i (extended x b)) m 0 ≡ get_or (line_numbers (extended x b)) j 0
  kept_line m j e h = line_at l i (extended x b) m j e h (has_room l i room)

  kept_here : record_at (with_line l i (extended x b)) i ≡ extended x b
  unfolding record_at
  kept_here =
      rw (
        line_beside l i (extended x b) (i * 8 + 0) (λ m h e. omega arith),
        line_beside l i (extended x b) (i * 8 + 1) (λ m h e. omega arith),
        line_beside l i (extended x b) (i * 8 + 3) (λ m h e. omega arith),
        kept_line (i * 8 + 4) 0 (omega arith) (omega arith),
        kept_line (i * 8 + 5) 1 (omega arith) (omega arith),
        kept_line (i * 8 + 6) 2 (omega arith) (omega arith),
        kept_line (i * 8 + 7) 3 (omega arith) (omega arith),
        halves b.demerits,
        is,
        table_at l i room,
      )

  kept_other : (j : ℕ) → (j ≡ i → ⊥) → record_at (with_line l i (extended x b)) j ≡ record_at l j
  kept_other j ne = same_record l (with_line l i (extended x b)) j (λ a h two. line_beside l i (extended x b) (j * 8 + a) (λ m g e. ne (omega arith)))

  -- it is stored, and its number is after those that stay
  pub table_kept : (m n : ℕ) (l₁ : List ℕ) → l₁ ≡ with_active (with_line l i (extended x b)) m n → table_in l₁ ≡ with_break (table_in l) i (extended x b)
  table_kept m n l₁ e =
      rw (e, table_active (with_line l i (extended x b)) m n) (table_set l (with_line l i (extended x b)) (length_line l i (extended x b)) i room (extended x b) kept_here kept_other)

  pub active_kept : (m n : ℕ) (l₁ : List ℕ) → m < length (table_in l) → l₁ ≡ with_active (with_line l i (extended x b)) m n → active_in l₁ ≡ set (active_in l) m n
  active_kept m n l₁ h e =
      let s : m < length (table_in (with_line l i (extended x b))) = rw (table_length (with_line l i (extended x b)), length_line l i (extended x b), ← table_length l) h in
      rw (e, active_active (with_line l i (extended x b)) m n s)
      (ap (λ (a : List ℕ). set a m n) (active_same l (with_line l i (extended x b)) (length_line l i (extended x b)) (λ j. line_beside l i (extended x b) (j * 8 + 2) (λ p h e. omega arith))))

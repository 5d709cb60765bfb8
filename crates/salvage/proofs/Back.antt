-- The way back: entries of a list, where one belongs to a copy, how many do, and what comes back.
use mathlib.Core.Path.{◌≡◌, refl, sym, ap, ◌∙◌}
use mathlib.Core.Bool.{Bool, true, false, ◌&&◌}
use mathlib.Core.List.{List, [], ◌∷◌, ◌++◌}
use Prim.Native.Nat.{ℕ, zero, suc, ◌+◌, ◌-◌, ◌/◌, ◌%◌, ◌≤◌, ◌<◌, min}
use native.Mathlib.Omega.{arith}
use native.Mathlib.Nat.{suc-add, zero-min, min-zero, suc-min-suc}
use lib.Dec.{ltb, leb, eqb}
use lib.ListN.{length, get_or, get_or-eq_default, take, drop, set, length-append, length-drop}
use lib.Seq.{sets, length-sets, drop-drop, length-take-le}
use borrow.Author.Tests.{ltb-true, ltb-false, leb-true, eqb-true, eqb-false, eq-eqb, ne_eqb}
use Rattle.lists.specs.Runs.{begins}
use Rattle.lists.proofs.RunsAt.{begins_within}
use Rattle.lists.proofs.Views.{drop_here, drop_none}
use Rattle.lists.proofs.Fronts.{part_to_end}
use Rattle.text.specs.Rfc3629.{encode}
use Rattle.salvage.specs.Mending.{Change}
use Rattle.salvage.specs.Restoring.{listed, belongs, belonging, restored}
use Rattle.salvage.proofs.Counts.{encode_high}
use Rattle.salvage.proofs.Writes.{sets_append}

-- ---- the list in two slices

pub listed_length : (places bytes : List ℕ) → length (listed places bytes) ≡ min (length places) (length bytes)
unfolding listed
listed_length [] bytes = sym (zero-min (length bytes))
listed_length (p ∷ places) [] = sym (min-zero (suc (length places)))
listed_length (p ∷ places) (b ∷ bytes) = rw (suc-min-suc (length places) (length bytes)) (ap suc (listed_length places bytes))

listed_here : (places bytes : List ℕ) (k : ℕ) → k < length (listed places bytes)
    → drop k (listed places bytes) ≡ record { place = get_or places k 0; byte = get_or bytes k 0 } ∷ drop (k + 1) (listed places bytes)
unfolding listed
listed_here [] bytes k h = absurd (omega arith)
listed_here (p ∷ places) [] k h = absurd (omega arith)
listed_here (p ∷ places) (b ∷ bytes) zero h = refl
listed_here (p ∷ places) (b ∷ bytes) (suc k) h = rw (suc-add k 1) (listed_here places bytes k (omega arith))

-- ---- two octets at a place

module _ (x y : ℕ) (s : List ℕ) (i : ℕ) where
  module _ (h : i + 1 < length s) where
    two_here : drop i s ≡ get_or s i 0 ∷ get_or s (i + 1) 0 ∷ drop (i + 1 + 1) s
    two_here = rw (← drop_here 0 s (i + 1) h) (drop_here 0 s i (omega arith))

    pair_first : (get_or s i 0 ≡ x → ⊥) → begins (x ∷ y ∷ []) (drop i s) ≡ false
    unfolding begins
    pair_first e = rw (two_here, ne_eqb x (get_or s i 0) (λ q. e (sym q)), begins)

    pair_second : get_or s i 0 ≡ x → (get_or s (i + 1) 0 ≡ y → ⊥) → begins (x ∷ y ∷ []) (drop i s) ≡ false
    unfolding begins
    pair_second e f = rw (two_here, eq-eqb x (get_or s i 0) (sym e), begins, ne_eqb y (get_or s (i + 1) 0) (λ q. f (sym q)), begins)

    pair_both : get_or s i 0 ≡ x → get_or s (i + 1) 0 ≡ y → begins (x ∷ y ∷ []) (drop i s) ≡ true
    unfolding begins
    pair_both e f = rw (two_here, eq-eqb x (get_or s i 0) (sym e), begins, eq-eqb y (get_or s (i + 1) 0) (sym f), begins)

  pair_cut : length s ≤ i + 1 → begins (x ∷ y ∷ []) (drop i s) ≡ false
  pair_cut h = pick (begins (x ∷ y ∷ []) (drop i s)) refl
    where
      pick : (t : Bool) → begins (x ∷ y ∷ []) (drop i s) ≡ t → begins (x ∷ y ∷ []) (drop i s) ≡ false
      pick false e = e
      pick true e = absurd (omega (arith, begins_within (x ∷ y ∷ []) (drop i s) e, length-drop i s))

  -- past the end 0 is read, and the second is above it
  pub two_octets : 0 < y → eqb (get_or s i 0) x && eqb (get_or s (i + 1) 0) y ≡ begins (x ∷ y ∷ []) (drop i s)
  two_octets more = go (eqb (get_or s i 0) x) refl (eqb (get_or s (i + 1) 0) y) refl (ltb (i + 1) (length s)) refl
    where
      go : (t : Bool) → eqb (get_or s i 0) x ≡ t → (u : Bool) → eqb (get_or s (i + 1) 0) y ≡ u → (v : Bool) → ltb (i + 1) (length s) ≡ v → t && u ≡ begins (x ∷ y ∷ []) (drop i s)
      go true p true q true l = sym (pair_both (ltb-true _ _ l) (eqb-true _ x p) (eqb-true _ y q))
      go true p false q true l = sym (pair_second (ltb-true _ _ l) (eqb-true _ x p) (eqb-false _ y q))
      go false p u q true l = sym (pair_first (ltb-true _ _ l) (eqb-false _ x p))
      go t p true q false l = absurd (omega (arith, eqb-true _ y q, get_or-eq_default s 0 {n = i + 1} (ltb-false _ _ l)))
      go true p false q false l = sym (pair_cut (ltb-false _ _ l))
      go false p false q false l = sym (pair_cut (ltb-false _ _ l))

-- ---- whether an entry belongs, where its two octets are read

pub entry_told : (copy : List ℕ) (at k place byte one two : ℕ) → byte < 256 → one ≡ get_or copy (place + k) 0 → two ≡ get_or copy (place + k + 1) 0
    → ((leb at place && leb 0x80 byte) && eqb one (0xC0 + byte / 64)) && eqb two (0x80 + byte % 64) ≡ belongs at (drop (at + k) copy) (record { place = place; byte = byte })
unfolding belongs
entry_told copy at k place byte one two small e f = rw (e, f) (go (leb at place) refl (leb 0x80 byte) refl)
  where
    go : (t : Bool) → leb at place ≡ t → (u : Bool) → leb 0x80 byte ≡ u
        → ((t && u) && eqb (get_or copy (place + k) 0) (0xC0 + byte / 64)) && eqb (get_or copy (place + k + 1) 0) (0x80 + byte % 64)
        ≡ t && (u && begins (encode byte) (drop (place - at) (drop (at + k) copy)))
    go false p u q = refl
    go true p false q = refl
    go true p true q =
        let h = leb-true at place p in
        let i : at + k + (place - at) ≡ place + k = omega arith in
        rw (encode_high byte (leb-true 0x80 byte q) small, drop-drop (place - at) (at + k) copy, i) (two_octets (0xC0 + byte / 64) (0x80 + byte % 64) copy (place + k) (omega arith))

-- what an entry that belongs says
pub record Belongs (at : ℕ) (copy : List ℕ) (e : Change) : Type 0 where
  pub on : at ≤ e.place
  pub high : 0x80 ≤ e.byte
  pub octets : begins (encode e.byte) (drop (e.place - at) copy) ≡ true

pub belongs_so : (at : ℕ) (copy : List ℕ) (e : Change) → belongs at copy e ≡ true → Belongs at copy e
unfolding belongs
belongs_so at copy e h = pick (leb at e.place) (leb 0x80 e.byte) (begins (encode e.byte) (drop (e.place - at) copy)) refl refl refl h
  where
    no : false ≡ true → Belongs at copy e
    no q = absurd (let z : ◌≡◌ {A = ℕ} 0 1 = cc in omega arith)

    pick : (t u v : Bool) → leb at e.place ≡ t → leb 0x80 e.byte ≡ u → begins (encode e.byte) (drop (e.place - at) copy) ≡ v → (t && (u && v)) ≡ true → Belongs at copy e
    pick true true true a b d w = record { on = leb-true _ _ a; high = leb-true _ _ b; octets = d }
    pick true true false a b d w = no w
    pick true false v a b d w = no w
    pick false u v a b d w = no w

pub belonging_nil : (at : ℕ) (copy : List ℕ) → belonging at copy [] ≡ 0
unfolding belonging
belonging_nil at copy = refl

module _ (at : ℕ) (copy : List ℕ) (e : Change) (es : List Change) where
  pub belonging_on : belongs at copy e ≡ true → belonging at copy (e ∷ es) ≡ suc (belonging (e.place + 1) (drop (e.place - at + 2) copy) es)
  unfolding belonging
  belonging_on h = rw (h, belonging)

  pub belonging_end : belongs at copy e ≡ false → belonging at copy (e ∷ es) ≡ 0
  unfolding belonging
  belonging_end h = rw (h, belonging)

  -- a list that belongs as a whole: its first entry does, and so does the rest
  pub whole_first : belonging at copy (e ∷ es) ≡ suc (length es) → (belongs at copy e ≡ true) × (belonging (e.place + 1) (drop (e.place - at + 2) copy) es ≡ length es)
  whole_first h = pick (belongs at copy e) refl
    where
      pick : (t : Bool) → belongs at copy e ≡ t → (belongs at copy e ≡ true) × (belonging (e.place + 1) (drop (e.place - at + 2) copy) es ≡ length es)
      pick true q = (q, let z = sym (belonging_on q) ∙ h in omega arith)
      pick false q = absurd (let z = sym (belonging_end q) ∙ h in omega arith)

-- bytes are below 256
abbrev pub Small : List Change → Type 0
Small es = (i : ℕ) → (get_or es i (record { place = 0; byte = 0 })).byte < 256

-- an entry takes two octets of the copy
pub entry_within : (at : ℕ) (copy : List ℕ) (e : Change) → e.byte < 256 → Belongs at copy e → e.place - at + 2 ≤ length copy
entry_within at copy e m b =
    let l = length-drop (e.place - at) copy in
    omega (arith, begins_within (encode e.byte) (drop (e.place - at) copy) b.octets, ap length (encode_high e.byte b.high m))

pub restored_nil : (at : ℕ) (copy : List ℕ) → restored at copy [] ≡ copy
unfolding restored
restored_nil at copy = refl

pub restored_cons : (at : ℕ) (copy : List ℕ) (e : Change) (es : List Change)
    → restored at copy (e ∷ es) ≡ take (e.place - at) copy ++ (e.byte ∷ restored (e.place + 1) (drop (e.place - at + 2) copy) es)
unfolding restored
restored_cons at copy e es = refl

-- each entry makes the text one byte shorter
pub restored_length : (at : ℕ) (copy : List ℕ) (es : List Change) → Small es → belonging at copy es ≡ length es → length (restored at copy es) + length es ≡ length copy
restored_length at copy [] s h = rw (restored_nil at copy) (omega arith)
restored_length at copy (e ∷ es) s h =
    let w = whole_first at copy e es h in
    let g = entry_within at copy e (s 0) (belongs_so at copy e w.0) in
    let d = length-drop (e.place - at + 2) copy in
    let t = length-take-le (e.place - at) copy (omega arith) in
    let r = restored_length (e.place + 1) (drop (e.place - at + 2) copy) es (λ i. s (suc i)) w.1 in
    let a = length-append (take (e.place - at) copy) (e.byte ∷ restored (e.place + 1) (drop (e.place - at + 2) copy) es) in
    rw (restored_cons at copy e es) (omega arith)

-- no more entries belong than there are, or than the copy has bytes
pub belonging_few : (at : ℕ) (copy : List ℕ) (es : List Change) → Small es → (belonging at copy es ≤ length es) × (belonging at copy es ≤ length copy)
belonging_few at copy [] s = rw (belonging_nil at copy) (omega arith, omega arith)
belonging_few at copy (e ∷ es) s = pick (belongs at copy e) refl (belonging_few (e.place + 1) (drop (e.place - at + 2) copy) es (λ i. s (suc i)))
  where
    rest : ℕ
    rest = belonging (e.place + 1) (drop (e.place - at + 2) copy) es

    pick : (t : Bool) → belongs at copy e ≡ t → (rest ≤ length es) × (rest ≤ length (drop (e.place - at + 2) copy)) → (belonging at copy (e ∷ es) ≤ suc (length es)) × (belonging at copy (e ∷ es) ≤ length copy)
    pick false q r = rw (belonging_end at copy e es q) (omega arith, omega arith)
    pick true q r =
        let g = entry_within at copy e (s 0) (belongs_so at copy e q) in
        let d = length-drop (e.place - at + 2) copy in
        rw (belonging_on at copy e es q) (omega (arith, r.0), omega (arith, r.1))

pub listed_small : (places bytes : List ℕ) → ((i : ℕ) → get_or bytes i 0 < 256) → Small (listed places bytes)
unfolding listed
listed_small [] bytes h i = omega arith
listed_small (p ∷ places) [] h i = omega arith
listed_small (p ∷ places) (b ∷ bytes) h zero = h 0
listed_small (p ∷ places) (b ∷ bytes) h (suc i) = listed_small places bytes (λ j. h (suc j)) i

-- what is known when every entry was found to belong
pub record Measured (copy places bytes : List ℕ) (count : ℕ) : Type 0 where
  pub all : belonging 0 copy (listed places bytes) ≡ length (listed places bytes)
  pub needed : length (restored 0 copy (listed places bytes)) ≡ length copy - count
  pub within : count ≤ length copy

pub measured : (copy places bytes : List ℕ) (count fit : ℕ) → ((i : ℕ) → get_or bytes i 0 < 256) → count ≡ min (length places) (length bytes)
    → fit ≡ belonging 0 copy (listed places bytes) → count ≤ fit → Measured copy places bytes count
measured copy places bytes count fit o c f h =
    let s = listed_small places bytes o in
    let b = belonging_few 0 copy (listed places bytes) s in
    let l = listed_length places bytes in
    let a : belonging 0 copy (listed places bytes) ≡ length (listed places bytes) = omega (arith, b.0) in
    let r = restored_length 0 copy (listed places bytes) s a in
    record { all = a; needed = omega arith; within = omega arith }

-- ---- the loops: k entries belong, up to the old place at

pub record Counting (copy : List ℕ) (list : List Change) (at k : ℕ) : Type 0 where
  pub within : at + k ≤ length copy
  pub few : k ≤ length list
  pub count : k + belonging at (drop (at + k) copy) (drop k list) ≡ belonging 0 copy list

module _ {copy : List ℕ} {list : List Change} {at k : ℕ} (p : Counting copy list at k) where
  module _ (e : Change) (h : k < length list) (here : drop k list ≡ e ∷ drop (k + 1) list) where
    counting_end : belongs at (drop (at + k) copy) e ≡ false → k ≡ belonging 0 copy list
    counting_end b =
        let q = rw (here, belonging_end at (drop (at + k) copy) e (drop (k + 1) list) b) at p.count in
        omega arith

    module _ (m : e.byte < 256) (b : belongs at (drop (at + k) copy) e ≡ true) where
      within_two : e.place + k + 2 ≤ length copy
      within_two =
          let w = belongs_so at (drop (at + k) copy) e b in
          let g = entry_within at (drop (at + k) copy) e m w in
          let d = length-drop (at + k) copy in
          omega (arith, w.on, p.within)

      counting_on : Counting copy list (e.place + 1) (k + 1)
      counting_on =
          let w = belongs_so at (drop (at + k) copy) e b in
          let r = within_two in
          let j : at + k + (e.place - at + 2) ≡ e.place + 1 + (k + 1) = omega (arith, w.on) in
          let q = rw (here, belonging_on at (drop (at + k) copy) e (drop (k + 1) list) b, drop-drop (e.place - at + 2) (at + k) copy, j) at p.count in
          record { within = omega arith; few = omega arith; count = omega arith }

  pub counting_last : length list ≤ k → k ≡ belonging 0 copy list
  counting_last h =
      let q = rw (drop_none (record { place = 0; byte = 0 }) list k h, belonging_nil at (drop (at + k) copy)) at p.count in
      omega arith

-- ---- writing what comes back: k entries are back, up to the old place at

pub record Returning (copy : List ℕ) (list : List Change) (notes₀ : List ℕ) (at k : ℕ) (notes : List ℕ) : Type 0 where
  pub within : at + k ≤ length copy
  pub few : k ≤ length list
  pub all : belonging at (drop (at + k) copy) (drop k list) ≡ length (drop k list)
  pub room : at + length (restored at (drop (at + k) copy) (drop k list)) ≤ length notes₀
  pub left : sets notes at (restored at (drop (at + k) copy) (drop k list)) ≡ sets notes₀ 0 (restored 0 copy list)

module _ {copy : List ℕ} {list : List Change} {notes₀ : List ℕ} {at k : ℕ} {notes : List ℕ} (p : Returning copy list notes₀ at k notes) where
  pub returning_length : length notes ≡ length notes₀
  returning_length = sym (length-sets notes at (restored at (drop (at + k) copy) (drop k list))) ∙ ap length p.left ∙ length-sets notes₀ 0 (restored 0 copy list)

  module _ (e : Change) (h : k < length list) (here : drop k list ≡ e ∷ drop (k + 1) list) (m : e.byte < 256) where
    -- the entry belongs, and what is left is the copy up to it, its byte, and the rest
    pub record Turn : Type 0 where
      pub on : at ≤ e.place
      pub two : e.place + k + 2 ≤ length copy
      pub all : belonging (e.place + 1) (drop (e.place + 1 + (k + 1)) copy) (drop (k + 1) list) ≡ length (drop (k + 1) list)
      pub is : restored at (drop (at + k) copy) (drop k list)
          ≡ take (e.place + k - (at + k)) (drop (at + k) copy) ++ (e.byte ∷ restored (e.place + 1) (drop (e.place + 1 + (k + 1)) copy) (drop (k + 1) list))
      pub gap : at + length (take (e.place + k - (at + k)) (drop (at + k) copy)) ≡ e.place

    pub turn : Turn
    turn =
        let w = whole_first at (drop (at + k) copy) e (drop (k + 1) list) (rw here at p.all) in
        let b = belongs_so at (drop (at + k) copy) e w.0 in
        let g = entry_within at (drop (at + k) copy) e m b in
        let d = length-drop (at + k) copy in
        let j : at + k + (e.place - at + 2) ≡ e.place + 1 + (k + 1) = omega (arith, b.on) in
        let i : e.place + k - (at + k) ≡ e.place - at = omega (arith, b.on) in
        let x = drop-drop (e.place - at + 2) (at + k) copy ∙ ap (λ (n : ℕ). drop n copy) j in
        record {
          on = b.on;
          two = omega (arith, b.on, p.within);
          all = rw x at w.1;
          is = rw (here, restored_cons at (drop (at + k) copy) e (drop (k + 1) list), x, i);
          gap = rw i (omega (arith, length-take-le (e.place - at) (drop (at + k) copy) (omega arith), b.on));
        }

    store_room : {notes' : List ℕ} → notes' ≡ sets notes at (take (e.place + k - (at + k)) (drop (at + k) copy)) → (e.place < length notes) × (e.place < length notes')
    store_room {notes'} q =
        let t = turn in
        let a = length-append (take (e.place + k - (at + k)) (drop (at + k) copy)) (e.byte ∷ restored (e.place + 1) (drop (e.place + 1 + (k + 1)) copy) (drop (k + 1) list)) in
        let r = ap length t.is in
        let l = returning_length in
        let m = ap length q ∙ length-sets notes at (take (e.place + k - (at + k)) (drop (at + k) copy)) in
        (omega (arith, p.room, t.gap), omega (arith, p.room, t.gap))

    returning_on : {notes' : List ℕ} → notes' ≡ sets notes at (take (e.place + k - (at + k)) (drop (at + k) copy)) → Returning copy list notes₀ (e.place + 1) (k + 1) (set notes' e.place e.byte)
    returning_on {notes'} q =
        let t = turn in
        let a = length-append (take (e.place + k - (at + k)) (drop (at + k) copy)) (e.byte ∷ restored (e.place + 1) (drop (e.place + 1 + (k + 1)) copy) (drop (k + 1) list)) in
        let r = ap length t.is in
        let s : e.place + 1 ≡ suc e.place = omega arith in
        let z = sets_append notes at (take (e.place + k - (at + k)) (drop (at + k) copy)) (e.byte ∷ restored (e.place + 1) (drop (e.place + 1 + (k + 1)) copy) (drop (k + 1) list)) in
        record {
          within = omega (arith, t.two);
          few = omega arith;
          all = t.all;
          room = omega (arith, p.room, t.gap);
          left = go e.place (e.place + 1) s t.gap z;
        }
      where
        go : (n n' : ℕ) → n' ≡ suc n → at + length (take (e.place + k - (at + k)) (drop (at + k) copy)) ≡ n
            → sets (sets notes at (take (e.place + k - (at + k)) (drop (at + k) copy))) (at + length (take (e.place + k - (at + k)) (drop (at + k) copy))) (e.byte ∷ restored (e.place + 1) (drop (e.place + 1 + (k + 1)) copy) (drop (k + 1) list))
            ≡ sets notes at (take (e.place + k - (at + k)) (drop (at + k) copy) ++ (e.byte ∷ restored (e.place + 1) (drop (e.place + 1 + (k + 1)) copy) (drop (k + 1) list)))
            → sets (set notes' n e.byte) n' (restored (e.place + 1) (drop (e.place + 1 + (k + 1)) copy) (drop (k + 1) list)) ≡ sets notes₀ 0 (restored 0 copy list)
        go n n' s g z = rw (s, q) (rw g at z ∙ ap (sets notes at) (sym turn.is) ∙ p.left)

  module _ (h : length list ≤ k) where
    rest_is : restored at (drop (at + k) copy) (drop k list) ≡ take (length copy - (at + k)) (drop (at + k) copy)
    rest_is = rw (drop_none (record { place = 0; byte = 0 }) list k h, restored_nil at (drop (at + k) copy)) (sym (part_to_end (at + k) copy))

    pub rest_room : at + length (take (length copy - (at + k)) (drop (at + k) copy)) ≤ length notes
    rest_room = rw (← rest_is, returning_length) p.room

    pub returning_last : {notes' : List ℕ} → notes' ≡ sets notes at (take (length copy - (at + k)) (drop (at + k) copy)) → notes' ≡ sets notes₀ 0 (restored 0 copy list)
    returning_last q = q ∙ ap (sets notes at) (sym rest_is) ∙ p.left

-- ---- the turns of both loops, as the code reads an entry: count is the list's length, and place what is in the first slice

module _ (places bytes : List ℕ) (k place : ℕ) {count : ℕ} (c : count ≡ min (length places) (length bytes)) (h : k < count) (w : place ≡ get_or places k 0) where
  inside : k < length (listed places bytes)
  inside = rw (listed_length places bytes) (omega arith)

  here : drop k (listed places bytes) ≡ record { place = place; byte = get_or bytes k 0 } ∷ drop (k + 1) (listed places bytes)
  here = rw w (listed_here places bytes k inside)

  pub count_stops : {copy : List ℕ} {at : ℕ} → Counting copy (listed places bytes) at k → false ≡ belongs at (drop (at + k) copy) (record { place = place; byte = get_or bytes k 0 })
      → k ≡ belonging 0 copy (listed places bytes)
  count_stops p b = counting_end p (record { place = place; byte = get_or bytes k 0 }) inside here (sym b)

  pub count_goes_on : {copy : List ℕ} {at : ℕ} → Counting copy (listed places bytes) at k → get_or bytes k 0 < 256
      → true ≡ belongs at (drop (at + k) copy) (record { place = place; byte = get_or bytes k 0 }) → Counting copy (listed places bytes) (place + 1) (k + 1)
  count_goes_on p m b = counting_on p (record { place = place; byte = get_or bytes k 0 }) inside here m (sym b)

  module _ {copy notes₀ : List ℕ} {at : ℕ} {notes : List ℕ} (p : Returning copy (listed places bytes) notes₀ at k notes) (m : get_or bytes k 0 < 256) where
    pub entry_stands : (at ≤ place) × (place + k + 2 ≤ length copy)
    entry_stands = let t = turn p (record { place = place; byte = get_or bytes k 0 }) inside here m in (t.on, t.two)

    pub gap_room : at + length (take (place + k - (at + k)) (drop (at + k) copy)) ≤ length notes
    gap_room =
        let t = turn p (record { place = place; byte = get_or bytes k 0 }) inside here m in
        omega (arith, t.gap, (store_room p (record { place = place; byte = get_or bytes k 0 }) inside here m refl).0)

    module _ {notes' : List ℕ} (q : notes' ≡ sets notes at (take (place + k - (at + k)) (drop (at + k) copy))) where
      pub byte_room : place < length notes'
      byte_room = (store_room p (record { place = place; byte = get_or bytes k 0 }) inside here m q).1

      pub byte_back : Returning copy (listed places bytes) notes₀ (place + 1) (k + 1) (set notes' place (get_or bytes k 0))
      byte_back = returning_on p (record { place = place; byte = get_or bytes k 0 }) inside here m q

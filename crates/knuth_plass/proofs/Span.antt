-- The interval in the code's table: the entries by number, from one on; and what the code's three loops over it keep.
use mathlib.Core.Path.{◌≡◌, refl, sym, ◌∙◌, ap}
use mathlib.Core.Bool.{Bool, true, false}
use mathlib.Core.List.{List, [], ◌∷◌, ◌++◌}
use Prim.Native.Nat.{ℕ, zero, suc, ◌+◌, ◌-◌, ◌≤◌, ◌<◌}
use native.Mathlib.Numerals.{add-one}
use native.Mathlib.Omega.{arith}
use borrow.Author.Tests.{le-leb, lt-leb, eqb-true, eqb-false}
use lib.Dec.{eqb}
use lib.ListN.{length}
use Rattle.lists.specs.Theorems.All.{All}
use Rattle.records.specs.Word.{Word, meaning}
use Rattle.records.specs.declared.Word.{Word as WordRecord}
use Rattle.spacing.specs.declared.Setting.{Setting}
use Rattle.knuth_plass.specs.declared.Break.{Break as Record}
use Rattle.knuth_plass.specs.declared.Best.{Best}
use Rattle.knuth_plass.specs.declared.Turn.{Turn}
use Rattle.knuth_plass.specs.KnuthPlass.{Break, Offer, minimum_of, lesser, least_from, least}
use Rattle.knuth_plass.specs.Cited.Table.{Tables, table_in, break_number, record_at, Sized, with_break, break_in, place_of, path_to, seen, break_meant, lesser_in}
use Rattle.knuth_plass.specs.Cited.Round.{nothing, offer_made, offer_at, OfferedIs}
use Rattle.knuth_plass.proofs.Table.{table_at}
use Rattle.knuth_plass.proofs.Path.{meant_before, meant_more}
use Rattle.knuth_plass.proofs.Offers.{offer_none, lesser_assoc, lesser_none}
use Rattle.knuth_plass.proofs.Lowest.{least_next}
use Rattle.knuth_plass.specs.Cited.Interval.{reach_of, pops, near, entry_offer, best_entry, span}

-- ---- the interval from record k up to size

module _ (t : Tables) (k size : ℕ) where
  pub span_here : k < size → span t k (size - k) ≡ break_meant t k ∷ span t (k + 1) (size - (k + 1))
  unfolding span
  span_here h = let e : size - k ≡ suc (size - (k + 1)) = omega arith in rw (e, add-one k)

  pub span_none : size ≤ k → span t k (size - k) ≡ []
  unfolding span
  span_none h = let e : size - k ≡ 0 = omega arith in rw e

-- what holds of each entry holds of each record's
pub span_at : (P : Break → Type 0) (t : Tables) (k n : ℕ) → All P (span t k n) → (j : ℕ) → k ≤ j → j < k + n → P (break_meant t j)
unfolding span
span_at P t k zero a j h l = absurd (omega arith)
span_at P t k (suc n) a j h l = by (eqb j k) refl (λ m. span_at P t (suc k) n a.1 j m (omega arith)) where
  by : (x : Bool) → eqb j k ≡ x → (suc k ≤ j → P (break_meant t j)) → P (break_meant t j)
  by true e next = rw (eqb-true j k e) a.0
  by false e next = let ne = eqb-false j k e in next (omega arith)

-- a record's columns
pub columns_at : (l : List ℕ) (k : ℕ) → k < length (table_in l) → (break_meant (table_in l) k).columns ≡ break_number l k 6
unfolding break_meant seen record_at
columns_at l k h = rw (table_at l k h)

module _ (g : Setting) (t : Tables) (x k size : ℕ) (more : k < size) where
  -- `pass`: the head goes on over what is too long
  pub pass_stops : reach_of g x (break_meant t k) ≤ g.width → pops g x (span t k (size - k)) ≡ span t k (size - k)
  unfolding pops
  pass_stops h = rw (span_here t k size more, pops, le-leb (reach_of g x (break_meant t k)) g.width h)

  pub pass_goes : g.width < reach_of g x (break_meant t k) → pops g x (span t k (size - k)) ≡ pops g x (span t (k + 1) (size - (k + 1)))
  unfolding pops
  pass_goes h = rw (span_here t k size more, pops, lt-leb (reach_of g x (break_meant t k)) g.width h)

  -- `best_offer`: the best so far, and those that are left
  module _ (i gap : ℕ) (w : Word) (b : Offer) where
    pub offers_stop : reach_of g x (break_meant t k) < minimum_of g → lesser b (best_entry g i x gap w (near g x (span t k (size - k)))) ≡ b
    unfolding near best_entry
    offers_stop h = rw (span_here t k size more, near, lt-leb (minimum_of g) (reach_of g x (break_meant t k)) h) (lesser_none b)

    pub offers_go : minimum_of g ≤ reach_of g x (break_meant t k)
        → lesser (lesser b (entry_offer g i x gap w (break_meant t k))) (best_entry g i x gap w (near g x (span t (k + 1) (size - (k + 1)))))
        ≡ lesser b (best_entry g i x gap w (near g x (span t k (size - k))))
    unfolding near best_entry
    offers_go h = rw (span_here t k size more, near, le-leb (minimum_of g) (reach_of g x (break_meant t k)) h)
        (lesser_assoc b (entry_offer g i x gap w (break_meant t k)) (best_entry g i x gap w (near g x (span t (k + 1) (size - (k + 1))))))

-- the best so far is none
pub offers_begin : (columns i : ℕ) (t : Tables) (b : Best) → nothing ≤ b.total → (o : Offer) → lesser (offer_made columns false i t b) o ≡ o
unfolding lesser
offers_begin columns i t b h o = rw (offer_none columns false i t b h)

-- all are done
module _ (t : Tables) (k size : ℕ) (end : size ≤ k) where
  pub pass_ends : (g : Setting) (x : ℕ) → pops g x (span t k (size - k)) ≡ span t size (size - size)
  unfolding pops
  pass_ends g x = rw (span_none t k size end, span_none t size size (omega arith))

  pub offers_end : (g : Setting) (i x gap : ℕ) (w : Word) (b : Offer) → lesser b (best_entry g i x gap w (near g x (span t k (size - k)))) ≡ b
  unfolding near best_entry
  offers_end g i x gap w b = rw (span_none t k size end) (lesser_none b)

  pub least_ends : (m : ℕ) → least_from (break_meant t m) (span t k (size - k)) ≡ break_meant t m
  unfolding least_from
  least_ends m = rw (span_none t k size end)

-- an entry's offer is that of a break whose line has the entry's columns
pub entry_offer_law : (g : Setting) (i x gap : ℕ) (notes : List ℕ) (w : WordRecord) (t : Tables) (k y : ℕ) (b : Record) → b ≡ break_in t k → y ≡ reach_of g x (break_meant t k)
    → offer_at g false i w.width y (x + gap) false (seen (path_to t k) b) ≡ entry_offer g i x gap (meaning notes w) (break_meant t k)
unfolding offer_at entry_offer meaning break_meant
entry_offer_law g i x gap notes w t k y b e f = rw (e, f)

pub columns_meant : (t : Tables) (k : ℕ) (b : Record) → b ≡ break_in t k → (break_meant t k).columns ≡ b.columns
unfolding break_meant seen
columns_meant t k b e = rw e

-- one more is offered
pub offers_next : (g : Setting) (turn : Turn) (t : Tables) (x k size : ℕ) → k < size → turn.last ≡ false → (notes : List ℕ) (gap : ℕ) (best r : Best) (b : Record) (y : ℕ) → b ≡ break_in t k
    → y ≡ reach_of g x (break_meant t k) → minimum_of g ≤ reach_of g x (break_meant t k) → OfferedIs g turn k b y best r
    → lesser (offer_made (x + gap) false turn.number t r) (best_entry g turn.number x gap (meaning notes turn.word) (near g x (span t (k + 1) (size - (k + 1)))))
    ≡ lesser (offer_made (x + gap) false turn.number t best) (best_entry g turn.number x gap (meaning notes turn.word) (near g x (span t k (size - k))))
offers_next g turn t x k size more inner notes gap best r b y e f h o =
    rw (o.is (x + gap) false t, inner, entry_offer_law g turn.number x gap notes turn.word t k y b e f)
    (offers_go g t x k size more turn.number gap (meaning notes turn.word) (offer_made (x + gap) false turn.number t best) h)

-- `first_least`: the number of the first least so far
pub least_begins : (t : Tables) (k size : ℕ) → k < size → least_from (break_meant t k) (span t (k + 1) (size - (k + 1))) ≡ least (span t k (size - k))
unfolding least
least_begins t k size h = rw (span_here t k size h)

pub least_goes : (t : Tables) (m k size : ℕ) → k < size → least_from (break_meant t (lesser_in t m k)) (span t (k + 1) (size - (k + 1))) ≡ least_from (break_meant t m) (span t k (size - k))
least_goes t m k size h = rw (span_here t k size h) (sym (least_next t m k (span t (k + 1) (size - (k + 1)))))

-- a record stored after the last: those below it are as they were
pub span_same : (t u : Tables) (k n : ℕ) → ((j : ℕ) → j < k + n → break_meant u j ≡ break_meant t j) → span u k n ≡ span t k n
unfolding span
span_same t u k zero h = refl
span_same t u k (suc n) h = rw (h k (omega arith), span_same t u (suc k) n (λ j l. h j (omega arith)))

pub span_snoc : (t : Tables) (k n : ℕ) → span t k (suc n) ≡ span t k n ++ break_meant t (k + n) ∷ []
unfolding span
span_snoc t k zero = ap (λ (m : ℕ). break_meant t m ∷ []) (plus_zero k) where
  plus_zero : (k : ℕ) → k ≡ k + 0
  plus_zero k = omega arith
span_snoc t k (suc n) = ap (λ (bs : List Break). break_meant t k ∷ bs) (span_snoc t (suc k) n ∙ ap (λ (m : ℕ). span t (suc k) n ++ break_meant t m ∷ []) (shift k n)) where
  shift : (k n : ℕ) → suc k + n ≡ k + suc n
  shift k n = omega arith

-- the new entry is stored at the interval's end
pub span_more : (t : Tables) (head size : ℕ) (b : Record) → head ≤ size → size < length t → Sized t → ((j : ℕ) → 0 < j → j < size → (break_in t j).previous < j) → b.previous < size
    → span (with_break t size b) head (size + 1 - head) ≡ span t head (size - head) ++ seen (place_of b ∷ path_to t b.previous) b ∷ []
span_more t head size b order room sized down below =
    let e : size + 1 - head ≡ suc (size - head) = omega arith in
    let f : head + (size - head) ≡ size = omega arith in
    rw e
    (span_snoc (with_break t size b) head (size - head)
    ∙ rw (f, span_same t (with_break t size b) head (size - head) (λ j h. meant_before t size b room sized down j (omega arith)), meant_more t size b room sized down (omega arith) below))

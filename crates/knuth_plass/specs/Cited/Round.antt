-- What the code's records of a round mean, what holds of them, and what a round has still to do while it goes over the active breaks.
use Rattle.std.specs.Prelude.{Bool, true, false, cond, ◌&&◌, List, [], ◌∷◌, ◌++◌, map, ◌≡◌, ℕ, suc, ◌+◌, ◌-◌, ◌*◌, ◌^◌, ◌≤◌, ◌<◌, T, leb, ltb, Float, length, get_or, take, drop}
use Rattle.std.proofs.Math.Seq.{slice}
use Rattle.records.specs.Word.{Word, meaning}
use Rattle.records.specs.Cited.Table.{Small, word_in, words_in}
use Rattle.records.specs.Cited.Marks.{mark_in, breaks_of}
use Rattle.records.specs.declared.Word.{Word as WordRecord}
use Rattle.spacing.specs.Spacing.{gap_width}
use Rattle.spacing.specs.declared.Setting.{Setting}
use Rattle.demerits.specs.Demerits.{no_ratio, ratio, word_term, cost}
use Rattle.demerits.specs.Cited.Bounds.{within, most_word, most_cost}
use Rattle.knuth_plass.specs.declared.Break.{Break as Record}
use Rattle.knuth_plass.specs.declared.Best.{Best}
use Rattle.knuth_plass.specs.declared.Turn.{Turn}
use Rattle.knuth_plass.specs.declared.State.{State}
use Rattle.knuth_plass.specs.declared.Standing.{Standing}
use Rattle.knuth_plass.specs.KnuthPlass.{stretch_of, minimum_of, Place, Break, Active, Offer, none, offer, after, reduced, staying, lesser, best_offer, least_from, least, restart, settled, with_offer, round, first_break, rounds_from, path_of, starts_line, best_breaks}
use Rattle.knuth_plass.specs.Cited.Table.{most_words, Tables, Sized, break_in, place_of, path_to, seen, break_meant, Sound, Filled, Leads, Ascends}

-- ---- what can be asked of a caller

pub record Limits (g : Setting) : Type 0 where
  pub over : g.goal ≤ g.width
  pub twice : g.width ≤ 2 * g.goal
  pub wide : g.width ≤ 1000
  pub tab : 1 ≤ g.tab
  pub tabs : g.tab ≤ 100
  pub first : g.first < 2 ^ 31
  pub indent : g.indent < 2 ^ 31

pub record Turns (g : Setting) (turn : Turn) : Type 0 where
  pub narrow : turn.word.width < 2 ^ 31
  pub small : Small turn.word
  pub space : turn.space ≤ 2
  pub few : turn.number < most_words
  pub weight : turn.weight ≡ word_term (stretch_of g) turn.word.width
  pub light : turn.weight ≤ most_word

-- a word, its number and the space before it that a turn can be of
pub record Turnable (i : ℕ) (w : WordRecord) (s : ℕ) : Type 0 where
  pub narrow : w.width < 2 ^ 31
  pub small : Small w
  pub few : i < most_words
  pub space : s ≤ 2

abbrev pub turn_of : Bool → ℕ → WordRecord → ℕ → ℕ → Turn
turn_of last i w space weight = record { word = w; number = i; space = space; weight = weight; last = last }

-- ---- one active break

unfoldable pub line_at : Setting → Turn → Record → ℕ
line_at g turn b =
    b.columns + cond b.fresh 0 (gap_width g.tab b.columns turn.word.before turn.word.after) + turn.space + turn.word.width

abbrev pub lessened : ℕ → Record → Record
lessened k b = record {
  previous = b.previous;
  word = b.word;
  before = b.before;
  demerits = b.demerits - k;
  ratio = b.ratio;
  columns = b.columns;
  fresh = b.fresh;
}

abbrev pub extended : ℕ → Record → Record
extended t b = record {
  previous = b.previous;
  word = b.word;
  before = b.before;
  demerits = b.demerits;
  ratio = b.ratio;
  columns = t;
  fresh = false;
}

-- the least break so far, when break n has the demerits d
unfoldable pub noted : State → ℕ → ℕ → State
noted s n d = cond (ltb d s.least) (record { kept = s.kept; from = n; least = d; best = s.best }) s

-- one break more stays, and the best offer is now this one
abbrev pub stays : State → Best → State
stays s best = record { kept = s.kept + 1; from = s.from; least = s.least; best = best }

-- there is room for break n with a line of x columns, and for its number as the k-th active one
pub record Keeps (n x k : ℕ) (numbers : List ℕ) : Type 0 where
  pub here : n * 8 + 8 ≤ length numbers
  pub number : n < most_words
  pub columns : x < 2 ^ 32
  pub listed : k * 8 + 8 ≤ length numbers

-- ---- the best offer so far

-- a total that no offer reaches
abbrev pub nothing : ℕ
nothing = 2 ^ 62

abbrev pub best_from : ℕ → ℕ → Float → Best
best_from p d r = record { total = d; previous = p; ratio = r }

unfoldable pub better : Best → ℕ → ℕ → Float → Best
better b p d r = cond (leb b.total d) b (best_from p d r)

-- the offer that it means, after word i: a break with a line of so many columns, fresh or not
unfoldable pub offer_made : ℕ → Bool → ℕ → Tables → Best → Offer
offer_made columns fresh i t b =
    cond (ltb b.total nothing)
    (offer (record { places = after i ∷ path_to t b.previous; demerits = b.total; ratio = b.ratio; columns = columns; fresh = fresh }))
    none

-- as the definition has it, the new line is fresh and has the indent
abbrev pub offer_in : Setting → ℕ → Tables → Best → Offer
offer_in g i t b = offer_made g.indent true i t b

-- the offer of break b with the word, of a width, on its line of x columns
unfoldable pub offer_at : Setting → Bool → ℕ → ℕ → ℕ → ℕ → Bool → Break → Offer
offer_at g lastWord i width x columns fresh b =
    let made : ℕ → Float → Break = λ total r. record { places = after i ∷ b.places; demerits = total; ratio = r; columns = columns; fresh = fresh } in
    elim (leb x g.width && leb (minimum_of g) x) [
      | false ↦ none
      | true ↦ elim lastWord [
        | true ↦ cond (leb b.demerits 0) (offer (made 0 no_ratio)) none
        | false ↦ let r = ratio g.goal x (stretch_of g) in offer (made (cost r b.ratio (stretch_of g) width + b.demerits) r)
      ]
    ]

pub record BestFits (i size : ℕ) (b : Best) : Type 0 where
  pub previous : b.previous < size
  pub total : b.total ≤ suc i * most_cost
  pub ratio : T (within 1 b.ratio)

-- no break after a word of weight w costs less than f
pub record Floor (w f : ℕ) : Type 0 where
  pub least : f ≤ (1 + w) * (1 + w)
  pub small : f ≤ most_cost

-- a break that may offer: the word is on its line of x columns
pub record Offers (g : Setting) (turn : Turn) (b : Record) (x : ℕ) : Type 0 where
  pub fits : x ≤ g.width
  pub sound : Sound turn.number b

-- the best offer with that of break n, which is b
pub record OfferedIs (g : Setting) (turn : Turn) (n : ℕ) (b : Record) (x : ℕ) (best r : Best) : Type 0 where
  pub is : (columns : ℕ) (fresh : Bool) (t : Tables)
      → offer_made columns fresh turn.number t r
      ≡ lesser (offer_made columns fresh turn.number t best) (offer_at g turn.last turn.number turn.word.width x columns fresh (seen (path_to t n) b))
  pub fits : (size : ℕ) → n < size → (best.total < nothing → BestFits turn.number size best) → r.total < nothing → BestFits turn.number size r

-- ---- the active breaks

-- before a round: count of them, and size records in the tables
pub record RoundReady (i : ℕ) (st : Standing) (t : Tables) (a : List ℕ) : Type 0 where
  pub filled : Filled i st.size t
  pub active : length a ≡ length t
  pub few : st.size ≤ i
  pub some : 0 < st.count
  pub room : st.count ≤ st.size
  pub ascends : Ascends 0 st.size (take st.count a)

abbrev pub breaks_listed : ℕ → Tables → List ℕ → List Break
breaks_listed count t a = map (break_meant t) (take count a)

abbrev pub standing : Standing → Tables → List ℕ → Active
standing st t a = record { breaks = breaks_listed st.count t a; reduction = st.reduction }

-- in a round: k of them are done, and those that stay are the first of the list
pub record Fit (turn : Turn) (st : Standing) (k : ℕ) (t : Tables) (a : List ℕ) (s : State) : Type 0 where
  pub filled : Filled turn.number st.size t
  pub active : length a ≡ length t
  pub holds : turn.number < length t
  pub few : st.size ≤ turn.number
  pub room : st.count ≤ st.size
  pub kept : s.kept ≤ k
  pub on : k ≤ st.count
  pub ascends : Ascends 0 st.size (take s.kept a ++ slice k st.count a)
  pub from : s.from < st.size
  pub best : s.best.total < nothing → BestFits turn.number st.size s.best

-- what a round comes to, for the notes that its word is in
pub record Outcome : Type 0 where
  pub notes : List ℕ
  pub stayed : List Break
  pub best : Offer
  pub least : Break

-- the breaks that are still to be done
abbrev pub rest : Standing → ℕ → Tables → List ℕ → List Break
rest st k t a = map (reduced st.reduction) (map (break_meant t) (slice k st.count a))

-- the least break so far has the demerits that s has; while nothing stays, its record has not changed
pub record LeastFound (st : Standing) (t : Tables) (s : State) (b : Break) : Type 0 where
  pub demerits : s.least ≡ b.demerits
  pub again : s.kept ≡ 0 → seen (path_to t s.from) (lessened st.reduction (break_in t s.from)) ≡ b

-- what is done and what is still to do come to the answer
pub record RoundGoes (g : Setting) (turn : Turn) (st : Standing) (z : Outcome) (k : ℕ) (t : Tables) (a : List ℕ) (s : State) : Type 0 where
  pub stayed : map (break_meant t) (take s.kept a) ++ staying g turn.space (meaning z.notes turn.word) (rest st k t a) ≡ z.stayed
  pub best : lesser (offer_in g turn.number t s.best)
      (best_offer g turn.last turn.number turn.space (meaning z.notes turn.word) (rest st k t a))
      ≡ z.best
  pub so_far : Break
  pub found : LeastFound st t s so_far
  pub least : least_from so_far (rest st k t a) ≡ z.least

-- all are done: what stays, the best offer and the least of the breaks that the round began with
pub record Done (g : Setting) (turn : Turn) (st : Standing) (active : List Break) (t : Tables) (a : List ℕ) (s : State) (notes : List ℕ) : Type 0 where
  pub stayed : breaks_listed s.kept t a ≡ staying g turn.space (meaning notes turn.word) active
  pub best : offer_in g turn.number t s.best ≡ best_offer g turn.last turn.number turn.space (meaning notes turn.word) active
  pub found : LeastFound st t s (least active)

-- ---- what becomes of it

-- the break that a round with nothing left begins again with, from break n, which is b
pub record Restarted (g : Setting) (turn : Turn) (n : ℕ) (b r : Record) : Type 0 where
  pub previous : r.previous ≡ n
  pub sound : Sound (suc turn.number) r
  pub is : (notes : List ℕ) (path : List Place)
      → seen (place_of r ∷ path) r ≡ restart g turn.number turn.space (meaning notes turn.word) (seen path b)

-- the active breaks after a round whose least break, least offer and staying breaks s has
pub record Settled (g : Setting) (turn : Turn) (st : Standing) (t : Tables) (a : List ℕ) (s : State) (t₁ : Tables) (a₁ : List ℕ) (r : Standing) : Type 0 where
  pub ready : RoundReady (turn.number + 1) r t₁ a₁
  pub is : (notes : List ℕ) (active : List Break) → LeastFound st t s (least active)
      → standing r t₁ a₁
      ≡ settled g turn.number turn.space (meaning notes turn.word) active (with_offer (breaks_listed s.kept t a) (offer_in g turn.number t s.best))

-- ---- rounds

-- after the round of word i
pub record RoundIs (g : Setting) (last sentence : Bool) (i : ℕ) (w : WordRecord) (st : Standing) (t : Tables) (a : List ℕ) (t₁ : Tables) (a₁ : List ℕ) (r : Standing) : Type 0 where
  pub ready : RoundReady (i + 1) r t₁ a₁
  pub is : (notes : List ℕ) → standing r t₁ a₁ ≡ round g last sentence i (meaning notes w) (standing st t a)

-- word i is not too wide to be added to
abbrev pub Narrow : ℕ → List ℕ → Type 0
Narrow i table = (word_in table i).width < 2 ^ 31

-- nor is any of n words
abbrev pub AllNarrow : ℕ → List ℕ → Type 0
AllNarrow n table = (i : ℕ) → i < n → Narrow i table

-- what the definition's rounds begin with
unfoldable pub begin : Setting → Word → Active
begin g w = record { breaks = first_break g w ∷ []; reduction = 0 }

-- before the first of them: the paragraph's start is the one active break
pub record Begun (g : Setting) (n : ℕ) (table : List ℕ) (t : Tables) (a : List ℕ) (r : Standing) : Type 0 where
  pub ready : RoundReady 1 r t a
  pub is : (notes : List ℕ) → standing r t a ≡ begin g (meaning notes (word_in table 0))

-- after the rounds of n words
pub record RoundsAre (g : Setting) (n : ℕ) (table : List ℕ) (t : Tables) (a : List ℕ) (r : Standing) : Type 0 where
  pub ready : RoundReady n r t a
  pub holds : n ≤ length t
  pub is : (notes : List ℕ) → standing r t a ≡ rounds_from g false 1 (begin g (meaning notes (word_in table 0))) (drop 1 (words_in notes n table))

-- active breaks, by number, of a table of st.size records
pub record Listed (st : Standing) (t : Tables) (a : List ℕ) : Type 0 where
  pub sized : Sized t
  pub size : st.size ≤ length t
  pub some : 0 < st.count
  pub room : st.count ≤ st.size
  pub active : length a ≡ length t
  pub ascends : Ascends 0 st.size (take st.count a)

-- the number of the first least active break
pub record LeastIs (st : Standing) (t : Tables) (a : List ℕ) (r : ℕ) : Type 0 where
  pub within : r < st.size
  pub is : break_meant t r ≡ least (breaks_listed st.count t a)

-- the record that the best path ends at
pub record PathIs (g : Setting) (n : ℕ) (table : List ℕ) (t : Tables) (last : ℕ) : Type 0 where
  pub below : last < n
  pub leads : Leads t last
  pub is : (notes : List ℕ) → path_to t last ≡ path_of g (words_in notes n table)

-- a slice that has n words has room for as many breaks after them
pub record Lent (n : ℕ) (work : List ℕ) : Type 0 where
  pub few : n ≤ most_words
  pub room : n * 15 ≤ length work

-- all but the break records of a slice is as it was
pub record Worked (n : ℕ) (old new : List ℕ) : Type 0 where
  pub sized : length new ≡ length old
  pub words : take (n * 7) new ≡ take (n * 7) old
  pub beyond : drop (n * 15) new ≡ drop (n * 15) old

-- the marks are those of the definition, for whatever notes the words are in; the words, and what lies after the break records, are as they were
pub record BestAre (g : Setting) (n : ℕ) (old new : List ℕ) : Type 0 where
  pub breaks : (notes : List ℕ) → breaks_of n new ≡ best_breaks g (words_in notes n old)
  pub first : (notes : List ℕ) → mark_in new 0 ≡ starts_line 0 (path_of g (words_in notes n old))
  pub words : (j : ℕ) → j < n → word_in new j ≡ word_in old j
  pub beyond : (k : ℕ) → n * 15 ≤ k → get_or new k 0 ≡ get_or old k 0
  pub sized : length new ≡ length old

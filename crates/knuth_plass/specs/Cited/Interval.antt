-- Where no gap has a tab, every active line grows by the same from word to word. So an active break can be kept as a base that stays as it
-- is: the column of one endless line at which its own line begins, less the indent. Its line is x + indent - base columns long, where x are
-- the columns of the endless line so far. Bases ascend, so that breaks leave at the head alone and the active breaks are an interval of the
-- table. Demerits stay as they were made.
use Rattle.std.specs.Prelude.{Bool, true, false, cond, not, ◌&&◌, ◌||◌, List, [], ◌∷◌, ◌⊎◌, ◌≡◌, ℕ, zero, suc, ◌+◌, ◌-◌, ◌^◌, ◌≤◌, ◌<◌, leb, ltb, eqb, pos, Float, length, None}
use Rattle.std.specs.Float.{fin}
use Rattle.lists.specs.Theorems.All.{All}
use Rattle.records.specs.Word.{Word, meaning}
use Rattle.records.specs.Cited.Table.{Small, word_in, words_in}
use Rattle.records.specs.declared.Word.{Word as WordRecord}
use Rattle.spacing.specs.Spacing.{added_space}
use Rattle.spacing.specs.declared.Setting.{Setting}
use Rattle.demerits.specs.Demerits.{ratio, cost}
use Rattle.knuth_plass.specs.declared.Break.{Break as Record}
use Rattle.knuth_plass.specs.declared.Best.{Best}
use Rattle.knuth_plass.specs.declared.Turn.{Turn}
use Rattle.knuth_plass.specs.declared.interval.Interval.{Interval}
use Rattle.knuth_plass.specs.declared.interval.Skipped.{Skipped}
use Rattle.knuth_plass.specs.KnuthPlass.{Break, Place, Offer, none, offer, after, before_word, stretch_of, minimum_of, lesser, with_offer, least, path_of}
use Rattle.knuth_plass.specs.Cited.Table.{ratio_of, Tables, break_in, place_of, path_to, seen, break_meant, Sound, Filled}
use Rattle.knuth_plass.specs.Cited.Round.{BestFits, nothing, offer_made}

-- ---- An entry of the table is a Break whose `columns` are its base and whose `fresh` is not read.

-- made after the word before the i-th
abbrev pub fresh_at : ℕ → List Place → Bool
fresh_at i [] = false
fresh_at i (k ∷ ks) = not k.before && eqb (suc k.word) i

-- the active break that an entry is when round i begins; p: the columns of all words before the i-th on one endless line
unfoldable pub view : Setting → ℕ → ℕ → Break → Break
view g i p e = record {
  places = e.places;
  demerits = e.demerits;
  ratio = e.ratio;
  columns = cond (fresh_at i e.places) g.indent (p + g.indent - e.columns);
  fresh = fresh_at i e.places;
}

-- a fresh one's base has the gap after its word, another's does not pass the line
abbrev pub BaseIs : Setting → ℕ → ℕ → Bool → ℕ → Type 0
BaseIs g p gap true base = base ≡ p + gap
BaseIs g p gap false base = base ≤ p + g.indent

abbrev pub MadeBelow : ℕ → List Place → Type 0
MadeBelow i [] = Unit {0}
MadeBelow i (k ∷ ks) = k.word < i

pub record Good (g : Setting) (i p gap : ℕ) (e : Break) : Type 0 where
  pub base : BaseIs g p gap (fresh_at i e.places) e.columns
  pub made : MadeBelow i e.places

-- the endless line with the i-th word, s its added space
abbrev pub line_to : ℕ → ℕ → Word → ℕ
line_to p s w = p + w.after + s + w.width

-- t of an entry
abbrev pub reach_of : Setting → ℕ → Break → ℕ
reach_of g x e = x + g.indent - e.columns

-- ---- a round

-- those at the head whose line is too long leave
unfoldable pub pops : Setting → ℕ → List Break → List Break
pops g x [] = []
pops g x (e ∷ es) = elim (leb (reach_of g x e) g.width) [ true ↦ e ∷ es | false ↦ pops g x es ]

-- those at the head whose line may end here
unfoldable pub near : Setting → ℕ → List Break → List Break
near g x [] = []
near g x (e ∷ es) = elim (leb (minimum_of g) (reach_of g x e)) [ true ↦ e ∷ near g x es | false ↦ [] ]

abbrev pub entry_after : ℕ → ℕ → Break → ℕ → Float → Break
entry_after i base e total r = record { places = after i ∷ e.places; demerits = total; ratio = r; columns = base; fresh = false }

-- a new break's base has the gap of the next word in it, which does not count on a fresh line
unfoldable pub entry_offer : Setting → ℕ → ℕ → ℕ → Word → Break → Offer
entry_offer g i x gap w e =
    let t = reach_of g x e in
    elim (leb t g.width && leb (minimum_of g) t) [
      | false ↦ none
      | true ↦ let r = ratio g.goal t (stretch_of g) in offer (entry_after i (x + gap) e (cost r e.ratio (stretch_of g) w.width + e.demerits) r)
    ]

unfoldable pub best_entry : Setting → ℕ → ℕ → ℕ → Word → List Break → Offer
best_entry g i x gap w [] = none
best_entry g i x gap w (e ∷ es) = lesser (entry_offer g i x gap w e) (best_entry g i x gap w es)

-- after the last word nothing is offered
abbrev pub near_offer : Setting → Bool → ℕ → ℕ → ℕ → Word → List Break → Offer
near_offer g true i x gap w es = none
near_offer g false i x gap w es = best_entry g i x gap w (near g x es)

-- the base of a break before a word is where the word begins
unfoldable pub entry_restart : Setting → ℕ → ℕ → ℕ → ℕ → Word → Break → Break
entry_restart g i p x gap w e =
    cond (not (fresh_at i e.places) && ltb (minimum_of g + g.width) (reach_of g x e + (p + g.indent - e.columns)))
    (record { places = before_word i ∷ e.places; demerits = 0; ratio = fin false 1 (pos 0); columns = x - w.width; fresh = false })
    (entry_after i (x + gap) e 0 (fin true 1 (pos 0)))

abbrev pub entry_settled : Setting → ℕ → ℕ → ℕ → ℕ → Word → List Break → List Break → List Break
entry_settled g i p x gap w es [] = entry_restart g i p x gap w (least es) ∷ []
entry_settled g i p x gap w es (n ∷ ns) = n ∷ ns

unfoldable pub interval_round : Setting → Bool → ℕ → ℕ → ℕ → ℕ → Word → List Break → List Break
interval_round g lastWord i p x gap w es = entry_settled g i p x gap w es (with_offer (pops g x es) (near_offer g lastWord i x gap w (pops g x es)))

-- what a round begins with: some entries, their bases in order
abbrev pub Some : List Break → Type 0
Some [] = ⊥
Some (e ∷ es) = Unit {0}

abbrev pub Above : ℕ → List Break → Type 0
Above m es = All (λ (e : Break). m ≤ e.columns) es

abbrev pub Rising : List Break → Type 0
Rising [] = Unit {0}
Rising (e ∷ es) = Above e.columns es × Rising es

pub record Ready (g : Setting) (i p gap : ℕ) (es : List Break) : Type 0 where
  pub some : Some es
  pub good : All (Good g i p gap) es
  pub rising : Rising es

-- the gap before the first word of a list
abbrev pub gap_behind : List Word → ℕ
gap_behind [] = 0
gap_behind (w ∷ ws) = w.after

-- ---- in the code's table

-- n entries from number k on: the records' columns are the bases
unfoldable pub span : Tables → ℕ → ℕ → List Break
span t k zero = []
span t k (suc n) = break_meant t k ∷ span t (suc k) n

-- the first entry that stays
pub record PassIs (g : Setting) (x head size : ℕ) (t : Tables) (r : ℕ) : Type 0 where
  pub from : head ≤ r
  pub to : r ≤ size
  pub is : pops g x (span t head (size - head)) ≡ span t r (size - r)

-- the first least entry
pub record FirstLeast (head size : ℕ) (t : Tables) (r : ℕ) : Type 0 where
  pub below : r < size
  pub is : break_meant t r ≡ least (span t head (size - head))

-- entries that stay, with the word on their lines: x columns of the endless line
pub record Stay (g : Setting) (turn : Turn) (x head size : ℕ) (t : Tables) : Type 0 where
  pub inner : turn.last ≡ false
  pub short : x < 2 ^ 32
  pub filled : Filled turn.number size t
  pub room : size ≤ length t
  pub order : head ≤ size
  pub fits : (j : ℕ) → head ≤ j → j < size → ((break_in t j).columns ≤ x + g.indent) × (x + g.indent ≤ g.width + (break_in t j).columns)

-- their best offer
pub record BestOffered (g : Setting) (turn : Turn) (x head size : ℕ) (t : Tables) (r : Best) : Type 0 where
  pub is : (notes : List ℕ) (gap : ℕ) → offer_made (x + gap) false turn.number t r ≡ best_entry g turn.number x gap (meaning notes turn.word) (near g x (span t head (size - head)))
  pub fits : r.total < nothing → BestFits turn.number size r

-- record n, which is b, was made after the word before the i-th
abbrev pub is_fresh : ℕ → ℕ → Record → Bool
is_fresh i n b = cond (eqb n 0) false (cond b.before false (eqb (b.word + 1) i))

-- the record of the active break that an entry is
abbrev pub view_of : Setting → ℕ → ℕ → ℕ → Record → Record
view_of g i p n b = record {
  previous = b.previous;
  word = b.word;
  before = b.before;
  demerits = b.demerits;
  ratio = b.ratio;
  columns = cond (is_fresh i n b) g.indent (p + g.indent - b.columns);
  fresh = is_fresh i n b;
}

-- the active entries
abbrev pub active_of : Interval → Tables → List Break
active_of s t = span t s.head (s.size - s.head)

-- between rounds, before that of word i: the table so far, and its active entries; gap is that before word i
pub record Between (g : Setting) (i gap : ℕ) (s : Interval) (t : Tables) : Type 0 where
  pub filled : Filled i s.size t
  pub few : s.size ≤ i
  pub some : s.head < s.size
  pub ready : Ready g i s.line gap (active_of s t)

-- the same in a round that nothing stays in: x columns of the endless line, and gap is that after the word
pub record Leaves (g : Setting) (turn : Turn) (x gap : ℕ) (s : Interval) (t : Tables) : Type 0 where
  pub between : Between g turn.number turn.word.after s t
  pub tabless : turn.word.before ≡ None
  pub holds : turn.number < length t
  pub line : x ≡ s.line + turn.word.after + turn.space + turn.word.width
  pub short : x + gap < 2 ^ 31

-- the break that begins again
pub record AgainIs (g : Setting) (turn : Turn) (x gap : ℕ) (s : Interval) (t : Tables) (r : Record) : Type 0 where
  pub previous : r.previous < s.size
  pub sound : Sound (suc turn.number) r
  pub is : (notes : List ℕ) → seen (place_of r ∷ path_to t r.previous) r ≡ entry_restart g turn.number s.line x gap (meaning notes turn.word) (least (active_of s t))

-- the break that an offer becomes
pub record MadeIs (best : Best) (i base : ℕ) (r : Record) : Type 0 where
  pub ratio : ratio_of r.ratio ≡ best.ratio
  pub is : r ≡ record { previous = best.previous; word = i; before = false; demerits = best.total; ratio = r.ratio; columns = base; fresh = false }

-- a word that a round can be of
pub record Plain (w : WordRecord) : Type 0 where
  pub small : Small w
  pub narrow : w.width < 2 ^ 31
  pub tabless : w.before ≡ None

-- after the round of word i
pub record IntervalIs (g : Setting) (last sentence : Bool) (i gap : ℕ) (w : WordRecord) (s : Interval) (t t₁ : Tables) (r : Interval) : Type 0 where
  pub filled : Filled (i + 1) r.size t₁
  pub few : r.size ≤ i + 1
  pub some : r.head < r.size
  pub line : r.line ≡ s.line + w.after + added_space g.uniform w.first sentence false + w.width
  pub most : r.line ≤ s.line + (w.after + 2 + w.width)
  pub is : (notes : List ℕ) → active_of r t₁ ≡ interval_round g last i s.line r.line gap (meaning notes w) (active_of s t)

-- the gap before the word after word i, of n: after the last word there is none
abbrev pub gap_after : ℕ → ℕ → List ℕ → ℕ
gap_after n i table = cond (ltb (i + 1) n) (word_in table (i + 1)).after 0

-- ---- rounds that change nothing but the endless line

-- the sentence mark that the round of word i has
abbrev pub sentence_at : List ℕ → ℕ → Bool
sentence_at table i = cond (ltb i 2) false ((word_in table i).sentence || (word_in table i).first && (word_in table (i - 1)).punct)

-- the endless line with word i, from p columns
abbrev pub end_at : Bool → List ℕ → ℕ → ℕ → ℕ
end_at uniform table i p = p + (word_in table i).after + added_space uniform (word_in table i).first (sentence_at table i) false + (word_in table i).width

-- the least columns of the endless line at which the line of record k may end
abbrev pub least_end : Setting → Tables → ℕ → ℕ
least_end g t k = minimum_of g + (break_in t k).columns - g.indent

-- up to m words from the i-th on, as long as the endless line with them stays below a limit
unfoldable pub skipped_from : Bool → ℕ → List ℕ → ℕ → ℕ → ℕ → Skipped
skipped_from uniform low table zero i p = record { word = i; line = p }
skipped_from uniform low table (suc m) i p = elim (leb low (end_at uniform table i p)) [ true ↦ record { word = i; line = p } | false ↦ skipped_from uniform low table m (i + 1) (end_at uniform table i p) ]

-- after all rounds: the least of the active entries has the path
pub record IntervalsAre (g : Setting) (n : ℕ) (table : List ℕ) (t : Tables) (r : Interval) : Type 0 where
  pub filled : Filled n r.size t
  pub few : r.size ≤ n
  pub some : r.head < r.size
  pub holds : n ≤ length t
  pub is : (notes : List ℕ) → (least (active_of r t)).places ≡ path_of g (words_in notes n table)

-- ---- where the breaks are an interval

-- no word among the first n takes more of the endless line: its gap, its added space and its width
unfoldable pub line_room : List ℕ → ℕ → ℕ
line_room table zero = 0
line_room table (suc n) = line_room table n + ((word_in table n).after + 2 + (word_in table n).width)

-- no gap has a tab, and all words fit one line that a record can count
pub record OneLine (first n : ℕ) (table : List ℕ) : Type 0 where
  pub tabless : (i : ℕ) → i < n → (word_in table i).before ≡ None
  pub short : first + line_room table n < 2 ^ 31

-- The first base is the indent, and no base is below it: the first line is as long already, or none may end before it is.
abbrev pub Low : Setting → Type 0
Low g = (g.indent ≤ g.first) ⊎ (g.indent ≤ minimum_of g)

pub record Regular (g : Setting) (n : ℕ) (table : List ℕ) : Type 0 where
  pub low : Low g
  pub line : OneLine g.first n table

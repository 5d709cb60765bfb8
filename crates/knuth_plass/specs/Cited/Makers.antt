-- What is kept of a round to tell what made its break.
use Rattle.std.specs.Prelude.{Bool, false, cond, ◌&&◌, List, [], ◌∷◌, ◌≡◌, ℕ, ◌+◌, ◌-◌, ◌*◌, ◌≤◌, ◌<◌, T, leb, eqb, Float, length, get_or, Option, Some, None}
use Rattle.records.specs.Word.{Word, meaning}
use Rattle.records.specs.Cited.Table.{words_in}
use Rattle.records.specs.declared.Word.{Word as WordRecord}
use Rattle.spacing.specs.declared.Setting.{Setting}
use Rattle.demerits.specs.Demerits.{ratio, line_term, ratio_term, cost_with}
use Rattle.demerits.specs.Cited.Bounds.{within, most_word, most_cost}
use Rattle.endings.specs.declared.Ending.{Ending}
use Rattle.endings.specs.declared.Ending.TheVariants.{Paragraph, Chosen}
use Rattle.knuth_plass.specs.declared.Break.{Break as Record}
use Rattle.knuth_plass.specs.declared.State.{State}
use Rattle.knuth_plass.specs.declared.Standing.{Standing}
use Rattle.knuth_plass.specs.declared.Turn.{Turn}
use Rattle.knuth_plass.specs.declared.Told.{Told}
use Rattle.knuth_plass.specs.declared.AllTold.{AllTold}
use Rattle.knuth_plass.specs.KnuthPlass.{Place, Break, stretch_of, minimum_of, staying, best_offer, restart, path_of}
use Rattle.knuth_plass.specs.BestLines.{maker_of, maker, forced, makers_of, start_of}
use Rattle.knuth_plass.specs.Cited.Table.{most_words, ratio_of, Tables, Sized, break_in, seen, Sound}
use Rattle.knuth_plass.specs.Cited.Round.{RoundIs, RoundsAre, Done, standing}

-- ---- an offer with the word on the line

-- a break that stays, whose numbers can be summed
pub record Stays (weight : ℕ) (b : Record) : Type 0 where
  pub ratio : T (within 1 (ratio_of b.ratio))
  pub demerits : b.demerits ≤ most_words * most_cost
  pub light : weight ≤ most_word

-- an offer of a total from a line of so many columns, with its terms
unfoldable pub tried_of : Setting → ℕ → ℕ → ℕ → Float → ℕ → Option Ending
tried_of g weight total columns old demerits =
    let r = ratio g.goal columns (stretch_of g) in
    cond (leb (minimum_of g) columns && leb columns g.width && eqb (cost_with r old weight + demerits) total)
    (Some (Chosen columns (line_term r) weight (ratio_term r old) (cost_with r old weight)))
    None

abbrev pub found : Option Ending → Ending → Ending
found None e = e
found (Some e) f = e

unfoldable pub chosen_in : Setting → ℕ → ℕ → List Break → Ending
chosen_in g weight total [] = Paragraph
chosen_in g weight total (b ∷ bs) = found (tried_of g weight total b.columns b.ratio b.demerits) (chosen_in g weight total bs)

-- the breaks that stay, by number
pub record Kept (weight kept : ℕ) (t : Tables) (a : List ℕ) : Type 0 where
  pub sized : Sized t
  pub listed : kept ≤ length a
  pub within : (k : ℕ) → k < kept → get_or a k 0 < length t
  pub stays : (k : ℕ) → k < kept → Stays weight (break_in t (get_or a k 0))

-- the break that a round begins again from
pub record From (turn : Turn) (st : Standing) (from : ℕ) (t : Tables) : Type 0 where
  pub sized : Sized t
  pub within : from < length t
  pub sound : Sound turn.number (break_in t from)

abbrev pub ForcedIs : Setting → Turn → Record → Ending → Type 0
ForcedIs g turn b r = (notes : List ℕ) (path : List Place) → r ≡ forced (restart g turn.number turn.space (meaning notes turn.word) (seen path b)).places

-- what makes the break of a round, when all are done
abbrev pub MakerIs : Setting → Turn → Standing → Tables → List ℕ → State → Ending → Type 0
MakerIs g turn st t a s r =
    (notes : List ℕ) (active : List Break) → Done g turn st active t a s notes
    → r ≡ maker_of g turn.last turn.number turn.space (meaning notes turn.word) active
    (best_offer g turn.last turn.number turn.space (meaning notes turn.word) active)
    (staying g turn.space (meaning notes turn.word) active)

-- ---- a round, and all rounds

pub record ToldIs (g : Setting) (last sentence : Bool) (i : ℕ) (w : WordRecord) (st : Standing) (t : Tables) (a : List ℕ) (t₁ : Tables) (a₁ : List ℕ) (r : Told) : Type 0 where
  pub round : RoundIs g last sentence i w st t a t₁ a₁ r.st
  pub ending : (notes : List ℕ) → r.ending ≡ maker g last sentence i (meaning notes w) (standing st t a)

-- after the rounds of n words
pub record AllToldIs (g : Setting) (n e : ℕ) (table : List ℕ) (t : Tables) (a : List ℕ) (r : AllTold) : Type 0 where
  pub rounds : RoundsAre g n table t a r.st
  pub first : (notes : List ℕ) → e ≤ n → r.first ≡ get_or (makers_of g (words_in notes n table)) (e - 1) Paragraph
  pub second : (notes : List ℕ) → e < n → r.second ≡ get_or (makers_of g (words_in notes n table)) e Paragraph

-- does the break of a path that starts a line with word e stand before it?
unfoldable pub before_at : ℕ → List Place → Bool
before_at e [] = false
before_at e (k ∷ ks) = cond (eqb (start_of k) e) k.before (before_at e ks)

-- what made the break of a path that starts a line with word e: it is told by the round of its word
abbrev pub ending_before : Setting → ℕ → List Word → Ending
ending_before g e ws = cond (before_at e (path_of g ws)) (get_or (makers_of g ws) e Paragraph) (get_or (makers_of g ws) (e - 1) Paragraph)

-- RULES 8: one round for each word after the first, over the active breaks in order; the least path.
use Rattle.std.specs.Prelude.{Bool, true, false, cond, not, ◌&&◌, ◌||◌, List, [], ◌∷◌, ◌++◌, map, ℕ, suc, ◌+◌, ◌-◌, leb, ltb, eqb, pos, Float}
use Rattle.std.specs.Float.{fin}
use Rattle.records.specs.Word.{Word}
use Rattle.spacing.specs.Spacing.{gap_at, added_space}
use Rattle.spacing.specs.declared.Setting.{Setting}
use Rattle.demerits.specs.Demerits.{no_ratio, ratio, cost}

-- where a break stands: before or after a word, counted from 0
pub record Place : Type 0 where
  pub word : ℕ
  pub before : Bool

-- a break place: itself and the breaks before it, last first (none for the first break, the paragraph's start); demerits, ratio, the
-- length of the line that it begins, and whether that line is fresh
pub record Break : Type 0 where
  pub places : List Place
  pub demerits : ℕ
  pub ratio : Float
  pub columns : ℕ
  pub fresh : Bool

abbrev pub stretch_of : Setting → ℕ
stretch_of g = g.width - g.goal

abbrev pub minimum_of : Setting → ℕ
minimum_of g = g.goal - stretch_of g

abbrev pub after : ℕ → Place
after i = record { word = i; before = false }

abbrev pub before_word : ℕ → Place
before_word i = record { word = i; before = true }

-- the first break: demerits 0, ratio 0, length of first indent and first word, not fresh
unfoldable pub first_break : Setting → Word → Break
first_break g w = record { places = []; demerits = 0; ratio = no_ratio; columns = g.first + w.width; fresh = false }

-- ---- a round: the i-th word w, its added space s

-- every active break loses the last round's reduction
unfoldable pub reduced : ℕ → Break → Break
reduced k b = record { places = b.places; demerits = b.demerits - k; ratio = b.ratio; columns = b.columns; fresh = b.fresh }

-- t = length + gap (0 if fresh) + S + width; S counts even if fresh
unfoldable pub reached : Setting → ℕ → Word → Break → ℕ
reached g s w b = b.columns + cond b.fresh 0 (gap_at g.tab b.columns w) + s + w.width

-- if t ≤ width limit, the break stays active, takes length t and is not fresh
unfoldable pub staying : Setting → ℕ → Word → List Break → List Break
staying g s w [] = []
staying g s w (b ∷ bs) =
    let t = reached g s w b in
    elim (leb t g.width) [
      | true ↦ record { places = b.places; demerits = b.demerits; ratio = b.ratio; columns = t; fresh = false } ∷ staying g s w bs
      | false ↦ staying g s w bs
    ]

pub data Offer : Type 0 where
  none : Offer
  offer : Break → Offer

-- a break after the word, with a total and a ratio; it begins a fresh line with the indent's length
abbrev pub break_after : Setting → ℕ → Break → ℕ → Float → Break
break_after g i b total r = record { places = after i ∷ b.places; demerits = total; ratio = r; columns = g.indent; fresh = true }

-- If t ≤ width limit and t ≥ minimum, a break after the word is offered. Last word: cost 0, ratio 0, only if the active demerits are ≤ 0.
unfoldable pub offer_of : Setting → Bool → ℕ → ℕ → Word → Break → Offer
offer_of g lastWord i s w b =
    let t = reached g s w b in
    elim (leb t g.width && leb (minimum_of g) t) [
      | false ↦ none
      | true ↦ elim lastWord [
        | true ↦ cond (leb b.demerits 0) (offer (break_after g i b 0 no_ratio)) none
        | false ↦
            let r = ratio g.goal t (stretch_of g) in
            offer (break_after g i b (cost r b.ratio (stretch_of g) w.width + b.demerits) r)
      ]
    ]

-- the offer with least total, first among equals
unfoldable pub lesser : Offer → Offer → Offer
lesser none b = b
lesser (offer a) none = offer a
lesser (offer a) (offer b) = cond (leb a.demerits b.demerits) (offer a) (offer b)

unfoldable pub best_offer : Setting → Bool → ℕ → ℕ → Word → List Break → Offer
best_offer g lastWord i s w [] = none
best_offer g lastWord i s w (b ∷ bs) = lesser (offer_of g lastWord i s w b) (best_offer g lastWord i s w bs)

-- it becomes one new break, active last
abbrev pub with_offer : List Break → Offer → List Break
with_offer bs none = bs
with_offer bs (offer b) = bs ++ b ∷ []

-- the first break of least demerits
unfoldable pub least_from : Break → List Break → Break
least_from b [] = b
least_from b (c ∷ cs) = least_from (cond (ltb c.demerits b.demerits) c b) cs

-- stands in for the least of no breaks, which is never read: a round begins with a break and leaves one or more
abbrev pub empty_break : Break
empty_break = record { places = []; demerits = 0; ratio = no_ratio; columns = 0; fresh = false }

unfoldable pub least : List Break → Break
least [] = empty_break
least (b ∷ bs) = least_from b bs

-- If nothing stays active, restart from the first least one: break before the word if it was not fresh and t − width limit >
-- minimum − length (signed, so the terms are moved across), with ratio 1 and length indent + word; else after it, fresh, ratio −1,
-- length indent. Demerits become 0.
unfoldable pub restart : Setting → ℕ → ℕ → Word → Break → Break
restart g i s w b =
    cond (not b.fresh && ltb (minimum_of g + g.width) (reached g s w b + b.columns))
    (record { places = before_word i ∷ b.places; demerits = 0; ratio = fin false 1 (pos 0); columns = g.indent + w.width; fresh = false })
    (break_after g i b 0 (fin true 1 (pos 0)))

-- what a round begins with: the active breaks, and the reduction that they are still to lose
pub record Active : Type 0 where
  pub breaks : List Break
  pub reduction : ℕ

-- What a round ends with. There are two lists of breaks: `active` are those that the round began with, less the last reduction; the
-- other are those that it leaves, the staying ones and the new one after them. If it leaves none, it restarts from the least of
-- `active`, and the reduction is 0. Else the reduction is the least demerits of `active`: of all that were active when it began, also
-- of those that do not stay.
abbrev pub settled : Setting → ℕ → ℕ → Word → List Break → List Break → Active
settled g i s w active [] = record { breaks = restart g i s w (least active) ∷ []; reduction = 0 }
settled g i s w active (b ∷ bs) = record { breaks = b ∷ bs; reduction = (least active).demerits }

-- one round. The sentence mark is handed in, for it looks at the word before; S uses no previous punct
unfoldable pub round : Setting → Bool → Bool → ℕ → Word → Active → Active
round g lastWord sentence i w a =
    let s = added_space g.uniform w.new_line sentence false in
    let active = map (reduced a.reduction) a.breaks in
    settled g i s w active (with_offer (staying g s w active) (best_offer g lastWord i s w active))

-- ---- all rounds

abbrev pub is_last : List Word → Bool
is_last [] = true
is_last (w ∷ ws) = false

-- The sentence mark of the word after v, worked out in the round of v: its own sentence-start, or (it is new-line and v ends-punct).
-- After the last word there is no round, and the mark is never read: either value would do.
abbrev pub sentence_behind : Word → List Word → Bool
sentence_behind v [] = true
sentence_behind v (w ∷ ws) = w.sentence_start || w.new_line && v.ends_punct

-- from the i-th word on; `sentence` is the mark of the first word of the list
unfoldable pub rounds_from : Setting → Bool → ℕ → Active → List Word → Active
rounds_from g sentence i a [] = a
rounds_from g sentence i a (w ∷ ws) = rounds_from g (sentence_behind w ws) (suc i) (round g (is_last ws) sentence i w a) ws

-- At the end the first active break of least demerits gives the path. Rounds begin with the paragraph's second word, number 1, whose
-- sentence mark is false. (A paragraph has a word: the first line is not read.)
unfoldable pub path_of : Setting → List Word → List Place
path_of g [] = []
path_of g (w ∷ ws) = (least (rounds_from g false 1 (record { breaks = first_break g w ∷ []; reduction = 0 }) ws).breaks).places

-- ---- the breaks by word

-- a new line starts with the i-th word: a break is before it, or after the word before it
unfoldable pub starts_line : ℕ → List Place → Bool
starts_line i [] = false
starts_line i (k ∷ ks) = cond k.before (eqb k.word i) (eqb (suc k.word) i) || starts_line i ks

unfoldable pub marks_from : List Place → ℕ → List Word → List Bool
marks_from path i [] = []
marks_from path i (w ∷ ws) = starts_line i path ∷ marks_from path (suc i) ws

-- For each word after the first: does a new line start with it? A break after the last word adds nothing: no word has its number.
-- (A paragraph has a word: the first line is not read.)
unfoldable pub best_breaks : Setting → List Word → List Bool
best_breaks g [] = []
best_breaks g (w ∷ ws) = marks_from (path_of g (w ∷ ws)) 1 ws

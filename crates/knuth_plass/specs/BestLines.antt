-- RULES 13: the lines of Knuth-Plass, each with what made the break that ended it. A round makes at most one break, at its own
-- word: so what made a break of the path is told by the round of its word.
use Rattle.std.specs.Prelude.{Bool, true, false, cond, List, [], ◌∷◌, map, ℕ, suc, eqb, get_or}
use Rattle.records.specs.Word.{Word}
use Rattle.spacing.specs.Spacing.{added_space}
use Rattle.spacing.specs.declared.Setting.{Setting}
use Rattle.demerits.specs.Demerits.{ratio, line_term, word_term, ratio_term, cost}
use Rattle.endings.specs.declared.Ending.{Ending}
use Rattle.endings.specs.declared.Ending.TheVariants.{Paragraph, Chosen, Before, After}
use Rattle.endings.specs.Endings.{Next, goes_on, ended}
use Rattle.knuth_plass.specs.KnuthPlass.{Place, Break, Active, Offer, none, offer, stretch_of, first_break, reduced, reached, staying, offer_of, best_offer, least, restart, round, is_last, sentence_behind, path_of}

-- ---- what made the break of a round: the i-th word w, its added space s

-- the offer of an active break: t, L, W, D and the cost, which is that offer's alone
unfoldable pub offering : Setting → ℕ → Word → Break → Ending
offering g s w b =
    let t = reached g s w b in
    let r = ratio g.goal t (stretch_of g) in
    Chosen t (line_term r) (word_term (stretch_of g) w.width) (ratio_term r b.ratio) (cost r b.ratio (stretch_of g) w.width)

abbrev pub has_total : ℕ → Offer → Bool
has_total total none = false
has_total total (offer b) = eqb b.demerits total

-- the first of the active breaks whose offer has the least total: its offer became the break. (There is one: [] is not reached.)
unfoldable pub chosen_of : Setting → ℕ → ℕ → Word → ℕ → List Break → Ending
chosen_of g i s w total [] = Paragraph
chosen_of g i s w total (b ∷ bs) =
    elim (has_total total (offer_of g false i s w b)) [ true ↦ offering g s w b | false ↦ chosen_of g i s w total bs ]

-- a break begun again with is before or after the word
abbrev pub forced : List Place → Ending
forced [] = Paragraph
forced (k ∷ ks) = cond k.before Before After

-- An offer that became the break, after the last word with the end of the paragraph; or, where nothing stays, the break that is begun
-- again with. (Where breaks stay and none offers, no break is made, and this is not read.)
abbrev pub maker_of : Setting → Bool → ℕ → ℕ → Word → List Break → Offer → List Break → Ending
maker_of g lastWord i s w active (offer b) stayed = cond lastWord Paragraph (chosen_of g i s w b.demerits active)
maker_of g lastWord i s w active none [] = forced (restart g i s w (least active)).places
maker_of g lastWord i s w active none (b ∷ bs) = Paragraph

unfoldable pub maker : Setting → Bool → Bool → ℕ → Word → Active → Ending
maker g lastWord sentence i w a =
    let s = added_space g.uniform w.new_line sentence false in
    let active = map (reduced a.reduction) a.breaks in
    maker_of g lastWord i s w active (best_offer g lastWord i s w active) (staying g s w active)

-- round by round, beside the rounds
unfoldable pub makers_from : Setting → Bool → ℕ → Active → List Word → List Ending
makers_from g sentence i a [] = []
makers_from g sentence i a (w ∷ ws) = maker g (is_last ws) sentence i w a ∷ makers_from g (sentence_behind w ws) (suc i) (round g (is_last ws) sentence i w a) ws

-- for each word, what made the break of its round; the first word has no round
unfoldable pub makers_of : Setting → List Word → List Ending
makers_of g [] = []
makers_of g (w ∷ ws) = Paragraph ∷ makers_from g false 1 (record { breaks = first_break g w ∷ []; reduction = 0 }) ws

-- ---- the lines

-- the first word of the line that a break begins
abbrev pub start_of : Place → ℕ
start_of k = cond k.before k.word (suc k.word)

-- what becomes of the i-th word: it starts a line where a break of the path is before it, or after the word before it
unfoldable pub next_at : List Ending → ℕ → List Place → Next
next_at makers i [] = goes_on
next_at makers i (k ∷ ks) = elim (eqb (start_of k) i) [ true ↦ ended (get_or makers k.word Paragraph) | false ↦ next_at makers i ks ]

unfoldable pub nexts_from : List Ending → List Place → ℕ → List Word → List Next
nexts_from makers path i [] = []
nexts_from makers path i (w ∷ ws) = next_at makers i path ∷ nexts_from makers path (suc i) ws

unfoldable pub best_lines : Setting → List Word → List Next
best_lines g [] = []
best_lines g (w ∷ ws) = nexts_from (makers_of g (w ∷ ws)) (path_of g (w ∷ ws)) 1 ws

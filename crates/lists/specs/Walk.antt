-- A list worked off from the front, with a state. Each stride looks at all that is left and gives an item, how many elements it takes,
-- and the next state. Characters, lines, words, fields and pieces are such walks.
-- A stride always takes the first element, so that every walk ends; `besides` counts the elements that it takes besides the first.
-- Two laws say it plainly. proofs/Walk, `walk_step`: a walk is the first stride's item and then the walk of what is left when the
-- suc besides elements that it took are gone. proofs/Extents, `walk_joined`: items that hold what their strides took are the whole list.
use Rattle.std.specs.Prelude.{List, [], ◌∷◌, ℕ, zero, suc, length, drop}

pub record Stride (B S : Type 0) : Type 0 where
  pub item : B
  pub besides : ℕ
  pub state : S

module _ {A B S : Type 0} (stride : S → List A → Stride B S) where
  -- at most k strides
  unfoldable pub walk_up_to : ℕ → S → List A → List B
  walk_up_to zero s xs = []
  walk_up_to (suc k) s [] = []
  walk_up_to (suc k) s (x ∷ xs) = let t = stride s (x ∷ xs) in t.item ∷ walk_up_to k t.state (drop t.besides xs)

  -- the items of all strides: there are no more of them than elements
  unfoldable pub walk : S → List A → List B
  walk s xs = walk_up_to (length xs) s xs

-- A walk without a state, by two functions of what is left: `f` gives the item, and `cut` counts the elements that are taken besides
-- the first. So it is f of the list, then f of what is after the first suc (cut xs) elements, and so on: proofs/Walk, `each_step`.
module _ {A B : Type 0} (cut : List A → ℕ) (f : List A → B) where
  unfoldable pub piece : Unit {0} → List A → Stride B (Unit {0})
  piece u xs = record { item = f xs; besides = cut xs; state = u }

  unfoldable pub each : List A → List B
  each xs = walk piece tt xs

-- Octets one after another, and what is asked of each by the three before it.
use Rattle.std.specs.Prelude.{◌≡◌, Bool, true, not, ◌&&◌, ◌||◌, List, [], ◌∷◌, ℕ, ◌-◌, ◌/◌, ◌≤◌, ◌<◌, ltb, leb, eqb, get_or, drop}

-- one of the three begins a character that is not yet whole
abbrev pub asked : ℕ → ℕ → ℕ → Bool
asked p q r = leb 0xF0 p || leb 0xE0 q || leb 0xC0 r

abbrev pub goes_on : ℕ → Bool
goes_on b = eqb (b / 64) 2

-- the octet b may stand after p, q and r
unfoldable pub joins : ℕ → ℕ → ℕ → ℕ → Bool
joins p q r b =
    (not (asked p q r) || goes_on b)
    && (asked p q r || not (goes_on b))
    && not (eqb b 0xC0)
    && not (eqb b 0xC1)
    && leb b 0xF4
    && (not (eqb r 0xE0) || leb 0xA0 b)
    && (not (eqb r 0xED) || ltb b 0xA0)
    && (not (eqb r 0xF0) || leb 0x90 b)
    && (not (eqb r 0xF4) || ltb b 0x90)

-- each octet of a text may stand where it does, after p, q and r, and none is missing at its end
abbrev pub Joined : ℕ → ℕ → ℕ → List ℕ → Type 0
Joined p q r [] = (p < 0xF0) × (q < 0xE0) × (r < 0xC0)
Joined p q r (b ∷ bs) = (joins p q r b ≡ true) × Joined q r b bs

-- at a place of a text, and from a place on
abbrev pub joins_at : List ℕ → ℕ → Bool
joins_at s i = joins (get_or s (i - 3) 0) (get_or s (i - 2) 0) (get_or s (i - 1) 0) (get_or s i 0)

-- at each place from one up to another
pub record EachJoins (s : List ℕ) (from to : ℕ) : Type 0 where
  pub each : (k : ℕ) → from ≤ k → k < to → joins_at s k ≡ true

abbrev pub JoinedFrom : List ℕ → ℕ → Type 0
JoinedFrom s i = Joined (get_or s (i - 3) 0) (get_or s (i - 2) 0) (get_or s (i - 1) 0) (drop i s)

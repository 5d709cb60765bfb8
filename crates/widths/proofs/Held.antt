-- A character that lies in a range of the table, or before one that is the first from d on.
use mathlib.Core.Path.{◌≡◌, refl}
use mathlib.Core.List.{List, ◌∷◌}
use Prim.Native.Nat.{ℕ, ◌≤◌, ◌<◌}
use native.Mathlib.Omega.{arith}
use borrow.Author.Tests.{le-leb, lt-ltb, le-ltb}
use Rattle.widths.specs.Ranges.{Range, span, width_in}
use Rattle.widths.specs.Table.{table}
use Rattle.widths.specs.Widths.{width_of, table_ascends}
use Rattle.widths.proofs.Ranges.{past, past_same}

module _ (d a b w : ℕ) (rs : List Range) (c : ℕ) (e : past d table ≡ span a b w ∷ rs) (h : d ≤ c) where
  seen : width_in (span a b w ∷ rs) c ≡ width_of c
  unfolding width_of
  seen = rw (← e) (past_same 0 d table c table_ascends h)

  pub within : a ≤ c → c ≤ b → w ≡ width_of c
  unfolding width_in
  within f g = rw (le-ltb c a f, width_in, le-leb c b g) at seen

  pub before : c < a → 1 ≡ width_of c
  unfolding width_in
  before f = rw (lt-ltb c a f, width_in) at seen

pub ideographs : (c : ℕ) → 0x4E00 ≤ c → c < 0xA000 → 2 ≡ width_of c
unfolding past table
ideographs c h l = within 0x4E00 _ _ _ _ _ refl h h (omega arith)

pub emoji_form : (c : ℕ) → c ≡ 0xFE0F → 0 ≡ width_of c
unfolding past table
emoji_form c e = within 0xFE0F _ _ _ _ _ refl (omega arith) (omega arith) (omega arith)

pub dashes : (c : ℕ) → 0x2010 ≤ c → c < 0x2028 → 1 ≡ width_of c
unfolding past table
dashes c h l = before 0x2010 _ _ _ _ _ refl h (omega arith)

pub devanagari : (c : ℕ) → 0x903 ≤ c → c < 0x93A → 1 ≡ width_of c
unfolding past table
devanagari c h l = before 0x903 _ _ _ _ _ refl h l

pub thai : (c : ℕ) → 0xE00 ≤ c → c < 0xE31 → 1 ≡ width_of c
unfolding past table
thai c h l = before 0xE00 _ _ _ _ _ refl h l

pub thai_vowels : (c : ℕ) → 0xE3B ≤ c → c < 0xE47 → 1 ≡ width_of c
unfolding past table
thai_vowels c h l = before 0xE3B _ _ _ _ _ refl h l

pub arabic : (c : ℕ) → 0x61D ≤ c → c < 0x64B → 1 ≡ width_of c
unfolding past table
arabic c h l = before 0x61D _ _ _ _ _ refl h l

pub devanagari_vowels : (c : ℕ) → 0x93D ≤ c → c < 0x941 → 1 ≡ width_of c
unfolding past table
devanagari_vowels c h l = before 0x93D _ _ _ _ _ refl h l

pub devanagari_signs : (c : ℕ) → 0x941 ≤ c → c ≤ 0x948 → 0 ≡ width_of c
unfolding past table
devanagari_signs c h l = within 0x941 _ _ _ _ _ refl h h l

pub virama : (c : ℕ) → c ≡ 0x94D → 0 ≡ width_of c
unfolding past table
virama c e = within 0x94D _ _ _ _ _ refl (omega arith) (omega arith) (omega arith)

pub thai_signs : (c : ℕ) → 0xE34 ≤ c → c ≤ 0xE3A → 0 ≡ width_of c
unfolding past table
thai_signs c h l = within 0xE34 _ _ _ _ _ refl h h l

pub thai_tones : (c : ℕ) → 0xE47 ≤ c → c ≤ 0xE4E → 0 ≡ width_of c
unfolding past table
thai_tones c h l = within 0xE47 _ _ _ _ _ refl h h l

pub joiner : (c : ℕ) → c ≡ 0x200D → 0 ≡ width_of c
unfolding past table
joiner c e = within 0x200D _ _ _ _ _ refl (omega arith) (omega arith) (omega arith)

pub hiragana : (c : ℕ) → 0x3041 ≤ c → c ≤ 0x3096 → 2 ≡ width_of c
unfolding past table
hiragana c h l = within 0x3041 _ _ _ _ _ refl h h l

pub katakana : (c : ℕ) → 0x309B ≤ c → c ≤ 0x30FF → 2 ≡ width_of c
unfolding past table
katakana c h l = within 0x309B _ _ _ _ _ refl h h l

pub hangul : (c : ℕ) → 0xAC00 ≤ c → c ≤ 0xD7A3 → 2 ≡ width_of c
unfolding past table
hangul c h l = within 0xAC00 _ _ _ _ _ refl h h l

pub emoji_3f8 : (c : ℕ) → 0x1F3F8 ≤ c → c ≤ 0x1F43E → 2 ≡ width_of c
unfolding past table
emoji_3f8 c h l = within 0x1F3F8 _ _ _ _ _ refl h h l

pub emoji_442 : (c : ℕ) → 0x1F442 ≤ c → c ≤ 0x1F4FC → 2 ≡ width_of c
unfolding past table
emoji_442 c h l = within 0x1F442 _ _ _ _ _ refl h h l

pub emoji_4ff : (c : ℕ) → 0x1F4FF ≤ c → c ≤ 0x1F53D → 2 ≡ width_of c
unfolding past table
emoji_4ff c h l = within 0x1F4FF _ _ _ _ _ refl h h l

pub emoji_5fb : (c : ℕ) → 0x1F5FB ≤ c → c ≤ 0x1F64F → 2 ≡ width_of c
unfolding past table
emoji_5fb c h l = within 0x1F5FB _ _ _ _ _ refl h h l

pub emoji_680 : (c : ℕ) → 0x1F680 ≤ c → c ≤ 0x1F6C5 → 2 ≡ width_of c
unfolding past table
emoji_680 c h l = within 0x1F680 _ _ _ _ _ refl h h l

-- Well-formed texts, character by character from the front, at a place, and over bytes below 0x80.
use Rattle.std.proofs.Common.{}
use mathlib.Core.Path.{◌≡◌, refl, ◌∙◌}
use mathlib.Core.Bool.{true, false}
use mathlib.Core.List.{List, [], ◌∷◌}
use Prim.Native.Nat.{ℕ, suc, ◌+◌, ◌-◌, ◌≤◌, ◌<◌}
use native.Mathlib.Omega.{arith}
use lib.ListN.{length, get_or, drop, length-drop}
use lib.Seq.{drop-drop}
use lib.Dec.{ltb}
use borrow.Author.Tests.{ltb-true, lt-ltb}
use Rattle.lists.specs.Runs.{every}
use Rattle.lists.proofs.Runs.{every_more, every_end}
use Rattle.lists.proofs.Walk.{each_nil, each_step}
use Rattle.lists.proofs.Views.{drop_here, drop_none}
use Rattle.text.specs.Rfc3629.{front, nothing, decode}
use Rattle.text.proofs.Decoder.{sound}
use Rattle.text.proofs.Forms.{ascii}
use Rattle.text.proofs.Places.{good_front}
use Rattle.text.specs.Cited.Places.{Ascii, read_as, good}
use Rattle.salvage.specs.Lines.{octets_behind, fronts, is_character, is_utf8}
use Rattle.salvage.proofs.Runs.{run_same}

characters_step : (xs : List ℕ) → 0 < length xs → fronts xs ≡ decode xs ∷ fronts (drop (suc (octets_behind (decode xs))) xs)
unfolding fronts
characters_step xs h = each_step _ _ xs h

pub formed_nil : is_utf8 [] ≡ true
unfolding is_utf8 fronts every
formed_nil = rw (each_nil _ decode)

-- after a character
pub formed_behind : (xs : List ℕ) (c n : ℕ) → decode xs ≡ front c n → is_utf8 xs ≡ is_utf8 (drop n xs)
unfolding is_utf8
formed_behind xs c n e =
    let d = sound xs c n e in
    let k : suc (n - 1) ≡ n = omega (arith, d.some) in
    rw (characters_step xs (omega (arith, d.some, d.within)), e, every_more is_character (front c n) (fronts (drop (suc (n - 1)) xs)) refl, k)

pub ill_formed : (xs : List ℕ) → 0 < length xs → decode xs ≡ nothing → is_utf8 xs ≡ false
unfolding is_utf8
ill_formed xs h e = rw (characters_step xs h, e, every_end is_character nothing (fronts (drop 1 xs)) refl)

module _ (s : List ℕ) where
  pub formed_past : (i : ℕ) → length s ≤ i → is_utf8 (drop i s) ≡ true
  formed_past i h = rw (drop_none 0 s i h) formed_nil

  pub formed_on : (i c n : ℕ) → decode (drop i s) ≡ front c n → is_utf8 (drop i s) ≡ is_utf8 (drop (i + n) s)
  formed_on i c n e = formed_behind (drop i s) c n e ∙ rw (drop-drop n i s)

  pub formed_ascii : (from to : ℕ) → Ascii s from to → is_utf8 (drop from s) ≡ is_utf8 (drop to s)
  formed_ascii from to a =
      run_same (λ i. is_utf8 (drop i s)) (λ b. ltb b 0x80) s from to
      (λ i h e. formed_on i (get_or s i 0) 1 (rw (drop_here 0 s i h) (ascii (get_or s i 0) (drop (i + 1) s) (ltb-true _ _ e))))
      (record { on = a.on; within = a.within; pass = λ i h l. lt-ltb _ _ (a.small i h l) })

  -- from the answer of decode_at
  pub read_on : (i code next : ℕ) → i ≤ length s → read_as i (decode (drop i s)) ≡ good code next → (i < next) × (next ≤ length s) × (is_utf8 (drop i s) ≡ is_utf8 (drop next s))
  read_on i code next h e =
      let f = good_front i (decode (drop i s)) code next e in
      let d = sound (drop i s) code f.0 f.1 in
      let l = length-drop i s in
      (omega (arith, f.2, d.some), omega (arith, f.2, d.within), formed_on i code f.0 f.1 ∙ rw f.2)

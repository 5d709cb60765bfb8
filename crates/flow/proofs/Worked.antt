-- Texts that do not carry words, and bytes that do not stand between two: what `Carry`, `Spells` and `Between` refuse.
use Rattle.std.proofs.Common.{None}
use mathlib.Core.Path.{◌≡◌, sym, ap, ◌∙◌}
use mathlib.Core.Bool.{Bool, true, false, cond, true≢false}
use mathlib.Core.List.{List, [], ◌∷◌, ◌++◌, append-nil}
use mathlib.Core.Logic.{◌⊎◌, inl, inr}
use Prim.Native.Nat.{ℕ, suc, ◌+◌, ◌/◌, ◌%◌}
use native.Mathlib.Omega.{arith}
use lib.Dec.{ltb}
use lib.ListN.{length, length-append}
use Rattle.widths.specs.WhiteSpace.{white_space}
use Rattle.lists.specs.Runs.{every, joined}
use Rattle.lists.specs.Theorems.All.{All}
use Rattle.text.specs.Rfc3629.{encode}
use Rattle.text.specs.Theorems.Blanks.{space_code}
use Rattle.records.specs.Word.{Word}
use Rattle.flow.specs.Theorems.ReadBack.{spelt, Between, Spells, Carry}

abbrev word : List ℕ → Word
word text = record { blanks = []; text = text; width = 0; before = None; after = 0; new_line = false; ends_punct = false; sentence_start = false }

-- ---- between two words

-- nothing
nothing_between : (glue : Bool) (indent : List ℕ) → Between glue indent [] → ⊥
nothing_between glue indent (inl g) = omega (arith, g.some)
nothing_between glue indent (inr e) = let n = ap length e in omega arith

-- a letter
letter_first : (c : ℕ) (rest : List ℕ) → encode c ++ rest ≡ 120 ∷ [] → c ≡ 120
unfolding encode
letter_first c rest e = go (ltb c 0x80) (ltb c 0x800) (ltb c 0x10000) e
  where
    go : (t u v : Bool) → cond t (c ∷ []) (cond u ((0xC0 + c / 64) ∷ (0x80 + c % 64) ∷ []) (cond v ((0xE0 + c / 4096) ∷ (0x80 + c / 64 % 64) ∷ (0x80 + c % 64) ∷ []) ((0xF0 + c / 262144) ∷ (0x80 + c / 4096 % 64) ∷ (0x80 + c / 64 % 64) ∷ (0x80 + c % 64) ∷ []))) ++ rest ≡ 120 ∷ [] → c ≡ 120
    go true u v h = cc
    go false true v h = absurd (let z : 0xC0 + c / 64 ≡ 120 = cc in omega arith)
    go false false true h = absurd (let z : 0xE0 + c / 4096 ≡ 120 = cc in omega arith)
    go false false false h = absurd (let z : 0xF0 + c / 262144 ≡ 120 = cc in omega arith)

no_blank : (codes : List ℕ) → 120 ∷ [] ≡ joined encode codes → every space_code codes ≡ true → ⊥
unfolding joined every white_space
no_blank [] o b = let n = ap length o in omega arith
no_blank (c ∷ codes) o b = true≢false (let k = letter_first c (joined encode codes) (sym o) in sym b ∙ ap (λ (x : ℕ). every space_code (x ∷ codes)) k)

a_letter_between : (glue : Bool) (indent : List ℕ) → Between glue indent (120 ∷ []) → ⊥
a_letter_between glue indent (inl g) = no_blank g.codes g.blanks.octets g.blanks.blank
a_letter_between glue indent (inr e) = let z : ◌≡◌ {A = ℕ} 120 32 = cc in omega arith

-- ---- texts

-- another word than the one asked for, and another indent
another_word : (glue : Bool) → Spells glue [] [] (word (97 ∷ []) ∷ []) (98 ∷ []) → ⊥
unfolding spelt
another_word glue s = go s.front s.between s.indented s.is
  where
    go : (front : List ℕ) (between : List (List ℕ)) → (front ≡ []) ⊎ (front ≡ []) → 98 ∷ [] ≡ spelt (front ∷ between) (word (97 ∷ []) ∷ []) → ⊥
    go front between (inl e) i = let j : ◌≡◌ {A = List ℕ} (98 ∷ []) (97 ∷ []) = i ∙ ap (λ (f : List ℕ). f ++ 97 ∷ []) e in let z : ◌≡◌ {A = ℕ} 98 97 = cc in omega arith
    go front between (inr e) i = let j : ◌≡◌ {A = List ℕ} (98 ∷ []) (97 ∷ []) = i ∙ ap (λ (f : List ℕ). f ++ 97 ∷ []) e in let z : ◌≡◌ {A = ℕ} 98 97 = cc in omega arith

another_indent : (glue : Bool) → Spells glue (62 ∷ []) (62 ∷ []) (word (97 ∷ []) ∷ []) (97 ∷ []) → ⊥
unfolding spelt
another_indent glue s = go s.front s.between s.indented s.is
  where
    go : (front : List ℕ) (between : List (List ℕ)) → (front ≡ 62 ∷ []) ⊎ (front ≡ 62 ∷ []) → 97 ∷ [] ≡ spelt (front ∷ between) (word (97 ∷ []) ∷ []) → ⊥
    go front between (inl e) i = let n = ap length (i ∙ ap (λ (f : List ℕ). f ++ 97 ∷ []) e) in omega arith
    go front between (inr e) i = let n = ap length (i ∙ ap (λ (f : List ℕ). f ++ 97 ∷ []) e) in omega arith

-- two words with nothing between them
run_together : (glue : Bool) → Spells glue [] [] (word (97 ∷ []) ∷ word (98 ∷ []) ∷ []) (97 ∷ 98 ∷ []) → ⊥
unfolding spelt
run_together glue s = go s.front s.between s.one_less s.each s.is
  where
    none : (b : List ℕ) → length b ≡ 0 → Between glue [] b → ⊥
    none [] h k = nothing_between glue [] k
    none (x ∷ b) h k = omega arith

    go : (front : List ℕ) (between : List (List ℕ)) → 2 ≡ suc (length between) → All (Between glue []) between → 97 ∷ 98 ∷ [] ≡ spelt (front ∷ between) (word (97 ∷ []) ∷ word (98 ∷ []) ∷ []) → ⊥
    go front [] h a i = omega arith
    go front (b ∷ bs) h a i = none b (let n = ap length i in let k = length-append front (97 ∷ b ++ 98 ∷ []) in let l = length-append b (98 ∷ []) in omega arith) a.0

-- words that are in no text
none_carried : (glue : Bool) (first indent : List ℕ) (w : Word) (ws : List Word) → Carry glue first indent (w ∷ ws) [] → ⊥
none_carried glue first indent w ws e = let n = ap length e in omega arith

-- a word too many after those of the only text
one_left : (glue : Bool) → Carry glue [] [] (word (97 ∷ []) ∷ word (98 ∷ []) ∷ []) ((97 ∷ []) ∷ []) → ⊥
unfolding spelt
one_left glue c = go c.0 c.1 c.2 c.3 c.4
  where
    long : (s : Spells glue [] [] (word (97 ∷ []) ∷ word (98 ∷ []) ∷ []) (97 ∷ [])) → ⊥
    long s = two s.front s.between s.one_less s.is
      where
        two : (front : List ℕ) (between : List (List ℕ)) → 2 ≡ suc (length between) → 97 ∷ [] ≡ spelt (front ∷ between) (word (97 ∷ []) ∷ word (98 ∷ []) ∷ []) → ⊥
        two front [] h i = omega arith
        two front (b ∷ bs) h i = let n = ap length i in let k = length-append front (97 ∷ b ++ 98 ∷ []) in let l = length-append b (98 ∷ []) in omega arith

    go : (here later : List Word) → word (97 ∷ []) ∷ word (98 ∷ []) ∷ [] ≡ here ++ later → Spells glue [] [] here (97 ∷ []) → later ≡ [] → ⊥
    go here later e s l =
        let k : here ≡ word (97 ∷ []) ∷ word (98 ∷ []) ∷ [] = sym (append-nil here) ∙ ap (λ (x : List Word). here ++ x) (sym l) ∙ sym e in
        long (rw k at s)

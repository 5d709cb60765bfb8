-- Code and N can be read back from the number of every call. Of measuring, writing, the index, reasons, mail and the checker it is said in the
-- `proofs/Values` of their crates, for any limits; here of mending, restoring and reading mail. All by `reads_back`: N has no more than 32 bits.
use mathlib.Core.Path.{◌≡◌, refl, ap}
use mathlib.Core.Bool.{Bool, true, false, cond}
use mathlib.Core.List.{List, [], ◌∷◌, ◌++◌, map}
use Prim.Native.Nat.{ℕ, suc, ◌+◌, ◌*◌, ◌/◌, ◌%◌, ◌^◌, ◌≤◌, ◌<◌}
use native.Mathlib.Omega.{arith}
use lib.Dec.{ltb, leb, eqb}
use lib.ListN.{length, replicate, length-append, length-replicate}
use borrow.Author.Tests.{ltb-false}
use Rattle.lists.specs.Runs.{while, behind, joined}
use Rattle.lists.specs.Coded.{numbered}
use Rattle.lists.specs.Theorems.All.{All}
use Rattle.lists.proofs.Parts.{joined_nil, joined_cons, while_behind}
use Rattle.text.specs.Rfc3629.{encode}
use Rattle.text.proofs.Decoder.{some_octets}
use Rattle.lines.specs.Lines.{Line, lines_of}
use Rattle.lines.proofs.Extents.{lines_extents, lines_some}
use Rattle.walk.proofs.Bound.{Shorter, lines_shorter}
use Rattle.formatter.specs.Format.{most_told}
use Rattle.formatter.proofs.Values.{reads_back}
use Rattle.salvage.specs.Lines.{is_utf8, whole_lines as mendingLines}
use Rattle.salvage.specs.Mending.{mended_line, mended, Change, high_bytes, line_changes, changes_from, changes, done, long, full, room, mend, mend_coded}
use Rattle.salvage.specs.Restoring.{belonging, restored, restore, done as given, long as longCopy, stray, room as roomBack, restore_coded}
use Rattle.salvage.proofs.Counts.{high_few}
use Rattle.salvage.proofs.MendedLines.{lines_joined}
use Rattle.salvage.proofs.Back.{Small, restored_length, belonging_few}
use Rattle.unflow.specs.Flowed.{space, is_mark, cr_lf, quote_mark, quote_depth, stuffing, unstuffed, content_of}
use Rattle.unflow.specs.Unflow.{goes_on_in, FlowedParagraph, begun_with, longer, paragraphs_from, paragraphs, as_line, mail_lines, unflowed, unflow, done as read, long as longText, room as roomRead, unflow_coded}
use Rattle.unflow.proofs.Texts.{stuffing_most}

-- ---- mending: a byte becomes four octets at most

octets_few : (xs : List ℕ) → length (joined encode xs) ≤ 4 * length xs
octets_few [] = rw joined_nil (omega arith)
octets_few (x ∷ xs) = let r = octets_few xs in let s = some_octets x in rw (joined_cons, length-append) (omega (arith, r, s.1))

lines_mended : (ls : List (List ℕ)) → length (joined mended_line ls) ≤ 4 * length (joined (λ (l : List ℕ). l) ls)
unfolding mended_line
lines_mended [] = rw (joined_nil mended_line, joined_nil (λ (l : List ℕ). l)) (omega arith)
lines_mended (l ∷ ls) =
    let r = lines_mended ls in
    let h = one (is_utf8 l) in
    rw (joined_cons mended_line l ls, joined_cons (λ (k : List ℕ). k) l ls, length-append, length-append) (omega (arith, r, h))
  where
    one : (b : Bool) → length (cond b l (joined encode l)) ≤ 4 * length l
    one true = omega arith
    one false = octets_few l

lines_changed : (at : ℕ) (ls : List (List ℕ)) → length (changes_from at ls) ≤ length (joined (λ (l : List ℕ). l) ls)
unfolding changes_from line_changes
lines_changed at [] = omega arith
lines_changed at (l ∷ ls) =
    let r = lines_changed (at + length l) ls in
    let h = one (is_utf8 l) in
    rw (joined_cons (λ (k : List ℕ). k) l ls, length-append, length-append) (omega (arith, r, h))
  where
    one : (b : Bool) → length {A = Change} (cond b [] (high_bytes at l)) ≤ length l
    one true = omega arith
    one false = high_few at l

module _ (notes : List ℕ) where
  mended_few : length (mended notes) ≤ 4 * length notes
  unfolding mended
  mended_few = rw (lines_joined notes) at (lines_mended (mendingLines notes))

  changes_few : length (changes notes) ≤ length notes
  unfolding changes
  changes_few = rw (lines_joined notes) at (lines_changed 0 (mendingLines notes))

  mend_value : (bytes entries : ℕ) → (mend_coded (mend notes bytes entries)).value ≤ most_told
  unfolding mend
  mend_value bytes entries = go (ltb 65536 (length notes)) refl (ltb entries (length (changes notes))) (ltb bytes (length (mended notes)))
    where
      go : (a : Bool) → ltb 65536 (length notes) ≡ a → (b c : Bool) → (mend_coded (cond a long (cond b (full (length (changes notes))) (cond c (room (length (mended notes))) (done (mended notes) (changes notes)))))).value ≤ most_told
      go true e b c = omega arith
      go false e true c = let h = ltb-false 65536 (length notes) e in omega (arith, h, changes_few)
      go false e false true = let h = ltb-false 65536 (length notes) e in omega (arith, h, mended_few)
      go false e false false = let h = ltb-false 65536 (length notes) e in omega (arith, h, mended_few)

  pub mending_tells_code_and_value : (bytes entries : ℕ) → (numbered (mend_coded (mend notes bytes entries)) / 2 ^ 32 ≡ (mend_coded (mend notes bytes entries)).code) × (numbered (mend_coded (mend notes bytes entries)) % 2 ^ 32 ≡ (mend_coded (mend notes bytes entries)).value)
  mending_tells_code_and_value bytes entries = reads_back (mend_coded (mend notes bytes entries)) (mend_value bytes entries)

-- ---- restoring: no more bytes than the copy has; the list's entries are bytes

module _ (copy : List ℕ) (list : List Change) (small : Small list) (bytes : ℕ) where
  restore_value : (restore_coded (restore copy list bytes)).value ≤ most_told
  unfolding restore
  restore_value = go (ltb 131072 (length copy)) refl (ltb (belonging 0 copy list) (length list)) refl (ltb bytes (length (restored 0 copy list)))
    where
      fewer : length list ≤ belonging 0 copy list → length (restored 0 copy list) ≤ length copy
      fewer h = let f = belonging_few 0 copy list small in let r = restored_length 0 copy list small (omega (arith, h, f.0)) in omega (arith, r)

      go : (a : Bool) → ltb 131072 (length copy) ≡ a → (b : Bool) → ltb (belonging 0 copy list) (length list) ≡ b → (c : Bool)
          → (restore_coded (cond a longCopy (cond b (stray (belonging 0 copy list)) (cond c (roomBack (length (restored 0 copy list))) (given (restored 0 copy list)))))).value ≤ most_told
      go true e b f c = omega arith
      go false e true f c = let h = ltb-false 131072 (length copy) e in let k = belonging_few 0 copy list small in omega (arith, h, k.1)
      go false e false f true = let h = ltb-false 131072 (length copy) e in let k = fewer (ltb-false (belonging 0 copy list) (length list) f) in omega (arith, h, k)
      go false e false f false = let h = ltb-false 131072 (length copy) e in let k = fewer (ltb-false (belonging 0 copy list) (length list) f) in omega (arith, h, k)

  pub restoring_tells_code_and_value : (numbered (restore_coded (restore copy list bytes)) / 2 ^ 32 ≡ (restore_coded (restore copy list bytes)).code) × (numbered (restore_coded (restore copy list bytes)) % 2 ^ 32 ≡ (restore_coded (restore copy list bytes)).value)
  restoring_tells_code_and_value = reads_back (restore_coded (restore copy list bytes)) restore_value

-- ---- reading mail: a line has its bytes, and three more for stuffing and the line end

-- a paragraph as a line
as_few : (p : FlowedParagraph) → length (as_line p) ≤ p.depth + length p.content + 3
unfolding as_line
as_few p =
    let a = length-append (replicate p.depth quote_mark) (stuffing p.content ++ (p.content ++ cr_lf)) in
    let b = length-append (stuffing p.content) (p.content ++ cr_lf) in
    let c = length-append p.content cr_lf in
    let d = length-replicate {A = ℕ} p.depth quote_mark in
    omega (arith, a, b, c, d, stuffing_most p.content)

unstuffed_few : (xs : List ℕ) → length (unstuffed xs) ≤ length xs
unfolding unstuffed
unstuffed_few [] = omega arith
unstuffed_few (x ∷ xs) = go (eqb x space)
  where
    go : (t : Bool) → length (cond t xs (x ∷ xs)) ≤ suc (length xs)
    go true = omega arith
    go false = omega arith

line_parts : (line : List ℕ) → quote_depth line + length (content_of line) ≤ length line
unfolding quote_depth content_of
line_parts line =
    let a = length-append (while is_mark line) (behind is_mark line) in
    let b = ap length (while_behind is_mark line) in
    omega (arith, a, b, unstuffed_few (behind is_mark line))

-- so many bytes for each line
allowed : List (List ℕ) → ℕ
allowed [] = 0
allowed (l ∷ ls) = length l + 3 + allowed ls

from_few : (p : FlowedParagraph) (line : List ℕ) (ls : List (List ℕ)) → length (joined as_line (paragraphs_from p line ls)) ≤ p.depth + length p.content + 3 + allowed ls
unfolding paragraphs_from allowed
from_few p line [] = rw (joined_cons as_line p [], joined_nil as_line, length-append) (omega (arith, as_few p))
from_few p line (next ∷ ls) = go (goes_on_in line next) (from_few (longer next p) next ls) (from_few (begun_with next) next ls)
  where
    go : (t : Bool)
        → length (joined as_line (paragraphs_from (longer next p) next ls)) ≤ p.depth + length (p.content ++ content_of next) + 3 + allowed ls
        → length (joined as_line (paragraphs_from (begun_with next) next ls)) ≤ quote_depth next + length (content_of next) + 3 + allowed ls
        → length (joined as_line (elim t as (λ x. List FlowedParagraph) [ true ↦ paragraphs_from (longer next p) next ls | false ↦ p ∷ paragraphs_from (begun_with next) next ls ])) ≤ p.depth + length p.content + 3 + (length next + 3 + allowed ls)
    go true h k = let a = length-append p.content (content_of next) in omega (arith, h, a, line_parts next)
    go false h k = rw (joined_cons as_line p (paragraphs_from (begun_with next) next ls), length-append) (omega (arith, k, as_few p, line_parts next))

paragraphs_few : (ls : List (List ℕ)) → length (joined as_line (paragraphs ls)) ≤ allowed ls
unfolding paragraphs allowed
paragraphs_few [] = rw (joined_nil as_line) (omega arith)
paragraphs_few (l ∷ ls) = omega (arith, from_few (begun_with l) l ls, line_parts l)

allowed_few : (ls : List Line) → All (λ (l : Line). 0 < length l.raw) ls → All Shorter ls → allowed (map (λ (l : Line). l.text) ls) ≤ 4 * length (joined (λ (l : Line). l.raw) ls)
unfolding allowed
allowed_few [] s t = omega arith
allowed_few (l ∷ ls) s t =
    let r = allowed_few ls s.1 t.1 in
    let a = s.0 in
    let b = t.0 in
    rw (joined_cons (λ (k : Line). k.raw) l ls, length-append) (omega (arith, r, a, b))

unflowed_few : (text : List ℕ) → length (unflowed text) ≤ 4 * length text
unfolding unflowed mail_lines
unflowed_few text =
    let a = paragraphs_few (map (λ (l : Line). l.text) (lines_of text)) in
    let b = allowed_few (lines_of text) (lines_some text) (lines_shorter text) in
    omega (arith, a, b, ap length (lines_extents text))

module _ (text : List ℕ) (bytes : ℕ) where
  unflow_value : (unflow_coded (unflow text bytes)).value ≤ most_told
  unfolding unflow
  unflow_value = go (ltb 65536 (length text)) refl (leb (length (unflowed text)) bytes)
    where
      go : (a : Bool) → ltb 65536 (length text) ≡ a → (b : Bool) → (unflow_coded (cond a longText (cond b (read (unflowed text)) (roomRead (length (unflowed text)))))).value ≤ most_told
      go true e b = omega arith
      go false e true = let h = ltb-false 65536 (length text) e in omega (arith, h, unflowed_few text)
      go false e false = let h = ltb-false 65536 (length text) e in omega (arith, h, unflowed_few text)

  pub reading_tells_code_and_value : (numbered (unflow_coded (unflow text bytes)) / 2 ^ 32 ≡ (unflow_coded (unflow text bytes)).code) × (numbered (unflow_coded (unflow text bytes)) % 2 ^ 32 ≡ (unflow_coded (unflow text bytes)).value)
  reading_tells_code_and_value = reads_back (unflow_coded (unflow text bytes)) unflow_value

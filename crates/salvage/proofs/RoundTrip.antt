-- The way back from a mended copy and its list, and what mending and restoring mean when they are done.
use mathlib.Core.Path.{◌≡◌, refl, sym, ap, ◌∙◌}
use mathlib.Core.Bool.{Bool, true, false, cond}
use mathlib.Core.List.{List, [], ◌∷◌, ◌++◌, map, append_assoc}
use Prim.Native.Nat.{ℕ, suc, ◌+◌, ◌-◌, ◌≤◌, ◌<◌}
use native.Mathlib.Omega.{arith}
use native.Mathlib.Nat.{suc-add}
use lib.Dec.{ltb}
use lib.ListN.{length, take, drop, length-append, take-append-drop, drop_of_length-le, length-map}
use lib.Seq.{drop-drop, take_at, drop-append-le, length-take-le}
use borrow.Author.Tests.{ltb-false, le-leb}
use Rattle.lists.specs.Runs.{joined}
use Rattle.lists.specs.Theorems.All.{All}
use Rattle.lists.proofs.Runs.{begins_append, begins_front}
use Rattle.lists.proofs.Parts.{joined_nil, joined_cons}
use Rattle.text.specs.Rfc3629.{encode}
use Rattle.salvage.specs.Lines.{whole_lines, is_utf8}
use Rattle.salvage.specs.Mending.{Change, mended_line, mended, high_bytes, line_changes, changes_from, changes, done, long, full, room, mend, over, places_after, bytes_after}
use Rattle.salvage.specs.Restoring.{done as given, long as longCopy, stray, room as roomBack, listed, belongs, belonging, restored, restore, expanded}
use Rattle.salvage.proofs.Counts.{encode_low, encode_high, high_nil, high_low, high_high, low_or_high, left_as_found, changed, formed_or_not}
use Rattle.salvage.proofs.Answers.{mend_done, restore_done}
use Rattle.salvage.proofs.Back.{Small, belonging_nil, belonging_on, belonging_few, whole_first, belongs_so, entry_within, restored_nil, restored_cons}
use Rattle.salvage.proofs.MendedLines.{Bytes, bytes_front, bytes_back, lines_joined, lines_formed}

-- ---- lists whose entries stand at a place or after it: the first tells

abbrev After : ℕ → List Change → Type 0
After n [] = Unit {0}
After n (e ∷ es) = n ≤ e.place

after_weaken : (m n : ℕ) (es : List Change) → m ≤ n → After n es → After m es
after_weaken m n [] h a = tt
after_weaken m n (e ∷ es) h a = omega arith

after_high : (at n : ℕ) (bs : List ℕ) (es : List Change) → at + length bs ≤ n → After n es → After at (high_bytes at bs ++ es)
after_high at n [] es h a = rw (high_nil at) (after_weaken at n es (omega arith) a)
after_high at n (b ∷ bs) es h a =
    let r = after_high (at + 1) n bs es (omega arith) a in
    low_or_high b
    (λ l. rw (high_low at b bs l) (after_weaken at (at + 1) (high_bytes (at + 1) bs ++ es) (omega arith) r))
    (λ l. rw (high_high at b bs l) (omega arith))

after_lines : (at : ℕ) (lines : List (List ℕ)) → After at (changes_from at lines)
unfolding changes_from
after_lines at [] = tt
after_lines at (line ∷ lines) =
    let r = after_lines (at + length line) lines in
    formed_or_not line
    (λ w. rw ((left_as_found line w).1 at) (after_weaken at (at + length line) (changes_from (at + length line) lines) (omega arith) r))
    (λ w. rw ((changed line w).1 at) (after_high at (at + length line) line (changes_from (at + length line) lines) (omega arith) r))

-- ---- the way back, piece by piece: from the old place at on, the copy and the list give the text, and the whole list belongs

record Backs (at : ℕ) (copy : List ℕ) (list : List Change) (text : List ℕ) : Type 0 where
  is : restored at copy list ≡ text
  all : belonging at copy list ≡ length list

backs_none : (at : ℕ) → Backs at [] [] []
backs_none at = record { is = restored_nil at []; all = belonging_nil at [] }

-- the same entry belongs, one byte further on
belongs_on : (at x : ℕ) (copy : List ℕ) (e : Change) → e.place - at ≡ suc (e.place - (at + 1)) → at + 1 ≤ e.place → belongs at (x ∷ copy) e ≡ belongs (at + 1) copy e
unfolding belongs
belongs_on at x copy e g a = rw (g, le-leb at e.place (omega arith), le-leb (at + 1) e.place a)

-- a byte as it is
backs_byte : (at x : ℕ) (copy : List ℕ) (list : List Change) (text : List ℕ) → After (at + 1) list → Backs (at + 1) copy list text → Backs at (x ∷ copy) list (x ∷ text)
backs_byte at x copy [] text a b =
    record { is = restored_nil at (x ∷ copy) ∙ ap (λ (l : List ℕ). x ∷ l) (sym (restored_nil (at + 1) copy) ∙ b.is); all = belonging_nil at (x ∷ copy) }
backs_byte at x copy (e ∷ es) text a b =
    let g : e.place - at ≡ suc (e.place - (at + 1)) = omega arith in
    let w = whole_first (at + 1) copy e es b.all in
    record {
      is = restored_cons at (x ∷ copy) e es ∙ rw (g, suc-add (e.place - (at + 1)) 2) (ap (λ (l : List ℕ). x ∷ l) (sym (restored_cons (at + 1) copy e es) ∙ b.is));
      all = belonging_on at (x ∷ copy) e es (belongs_on at x copy e g a ∙ w.0) ∙ ap suc (rw (g, suc-add (e.place - (at + 1)) 2) w.1);
    }

change_belongs : (at b : ℕ) (copy : List ℕ) → 0x80 ≤ b → belongs at (encode b ++ copy) (record { place = at; byte = b }) ≡ true
unfolding belongs
change_belongs at b copy h = let g : at - at ≡ 0 = omega arith in rw (g, le-leb at at (omega arith), le-leb 0x80 b h) (begins_append (encode b) copy)

-- a byte that was changed
backs_change : (at b : ℕ) (copy : List ℕ) (list : List Change) (text : List ℕ) → 0x80 ≤ b → b < 256 → Backs (at + 1) copy list text
    → Backs at (encode b ++ copy) (record { place = at; byte = b } ∷ list) (b ∷ text)
backs_change at b copy list text h k r =
    let g : at - at ≡ 0 = omega arith in
    let d : drop (at - at + 2) (encode b ++ copy) ≡ copy = rw (g, encode_high b h k) in
    record {
      is = restored_cons at (encode b ++ copy) (record { place = at; byte = b }) list ∙ rw (d, g) (ap (λ (l : List ℕ). b ∷ l) r.is);
      all = belonging_on at (encode b ++ copy) (record { place = at; byte = b }) list (change_belongs at b copy h) ∙ ap suc (rw d r.all);
    }

backs_text : (at : ℕ) (bs copy : List ℕ) (list : List Change) (text : List ℕ) → After (at + length bs) list → Backs (at + length bs) copy list text → Backs at (bs ++ copy) list (bs ++ text)
backs_text at [] copy list text a r = let e : at + 0 ≡ at = omega arith in rw e at r
backs_text at (b ∷ bs) copy list text a r =
    let e : at + suc (length bs) ≡ at + 1 + length bs = omega arith in
    backs_byte at b (bs ++ copy) list (bs ++ text) (after_weaken (at + 1) (at + suc (length bs)) list (omega arith) a)
    (backs_text (at + 1) bs copy list text (rw e at a) (rw e at r))

backs_changed : (at : ℕ) (bs copy : List ℕ) (list : List Change) (text : List ℕ) → Bytes bs → After (at + length bs) list → Backs (at + length bs) copy list text
    → Backs at (joined encode bs ++ copy) (high_bytes at bs ++ list) (bs ++ text)
backs_changed at [] copy list text o a r = let e : at + 0 ≡ at = omega arith in rw (joined_nil encode, high_nil at) (rw e at r)
backs_changed at (b ∷ bs) copy list text o a r =
    let e : at + suc (length bs) ≡ at + 1 + length bs = omega arith in
    let i = backs_changed (at + 1) bs copy list text (λ j. o (suc j)) (rw e at a) (rw e at r) in
    low_or_high b
    (λ l. rw (joined_cons encode b bs, encode_low b l, high_low at b bs l)
    (backs_byte at b (joined encode bs ++ copy) (high_bytes (at + 1) bs ++ list) (bs ++ text) (after_high (at + 1) (at + suc (length bs)) bs list (omega arith) a) i))
    (λ l. rw (joined_cons encode b bs, high_high at b bs l, append_assoc (encode b) (joined encode bs) copy)
    (backs_change at b (joined encode bs ++ copy) (high_bytes (at + 1) bs ++ list) (bs ++ text) l (o 0) i))

backs_lines : (at : ℕ) (lines : List (List ℕ)) → Bytes (joined (λ l. l) lines) → Backs at (joined mended_line lines) (changes_from at lines) (joined (λ l. l) lines)
unfolding changes_from
backs_lines at [] o = rw (joined_nil mended_line, joined_nil (λ (l : List ℕ). l)) (backs_none at)
backs_lines at (line ∷ lines) o =
    let o' = rw (joined_cons (λ (l : List ℕ). l) line lines) at o in
    let r = backs_lines (at + length line) lines (bytes_back line (joined (λ l. l) lines) o') in
    let a = after_lines (at + length line) lines in
    rw (joined_cons mended_line line lines, joined_cons (λ (l : List ℕ). l) line lines)
    (formed_or_not line
    (λ w. let f = left_as_found line w in rw (f.0, f.1 at) (backs_text at line (joined mended_line lines) (changes_from (at + length line) lines) (joined (λ l. l) lines) a r))
    (λ w. let f = changed line w in
    rw (f.0, f.1 at) (backs_changed at line (joined mended_line lines) (changes_from (at + length line) lines) (joined (λ l. l) lines) (bytes_front line (joined (λ l. l) lines) o') a r)))

notes_back : (notes : List ℕ) → Bytes notes → Backs 0 (mended notes) (changes notes) notes
unfolding mended changes
notes_back notes o = rw (lines_joined notes) at (backs_lines 0 (whole_lines notes) (rw (lines_joined notes) o))

-- ---- lengths

lengths_changed : (at : ℕ) (bs : List ℕ) → Bytes bs → (length (joined encode bs) ≡ length bs + length (high_bytes at bs)) × (length (high_bytes at bs) ≤ length bs)
lengths_changed at [] o = rw (joined_nil encode, high_nil at) (omega arith, omega arith)
lengths_changed at (b ∷ bs) o =
    let r = lengths_changed (at + 1) bs (λ i. o (suc i)) in
    let l = length-append (encode b) (joined encode bs) in
    low_or_high b
    (λ h. let e = ap length (encode_low b h) in rw (joined_cons encode b bs, high_low at b bs h) (omega (arith, r.0), omega (arith, r.1)))
    (λ h. let e = ap length (encode_high b h (o 0)) in rw (joined_cons encode b bs, high_high at b bs h) (omega (arith, r.0), omega (arith, r.1)))

lengths_lines : (at : ℕ) (lines : List (List ℕ)) → Bytes (joined (λ l. l) lines)
    → (length (joined mended_line lines) ≡ length (joined (λ l. l) lines) + length (changes_from at lines)) × (length (changes_from at lines) ≤ length (joined (λ l. l) lines))
unfolding changes_from
lengths_lines at [] o = rw (joined_nil mended_line, joined_nil (λ (l : List ℕ). l)) (omega arith, omega arith)
lengths_lines at (line ∷ lines) o =
    let o' = rw (joined_cons (λ (l : List ℕ). l) line lines) at o in
    let r = lengths_lines (at + length line) lines (bytes_back line (joined (λ l. l) lines) o') in
    let c = lengths_changed at line (bytes_front line (joined (λ l. l) lines) o') in
    let p = length-append (mended_line line) (joined mended_line lines) in
    let q = length-append line (joined (λ l. l) lines) in
    let s = length-append (line_changes at line) (changes_from (at + length line) lines) in
    let m : (length (mended_line line) ≡ length line + length (line_changes at line)) × (length (line_changes at line) ≤ length line) =
    formed_or_not line (λ w. let f = left_as_found line w in rw (f.0, f.1 at) (omega arith, omega arith)) (λ w. let f = changed line w in rw (f.0, f.1 at) c) in
    rw (joined_cons mended_line line lines, joined_cons (λ (l : List ℕ). l) line lines) (omega (arith, r.0, m.0), omega (arith, r.1, m.1))

pub mended_length : (notes : List ℕ) → Bytes notes → (length (mended notes) ≡ length notes + length (changes notes)) × (length (changes notes) ≤ length notes)
unfolding mended changes
mended_length notes o = rw (lines_joined notes) at (lengths_lines 0 (whole_lines notes) (rw (lines_joined notes) o))

-- ---- when mending is done

pub record Done (notes copy : List ℕ) (list : List Change) : Type 0 where
  pub limit : length notes ≤ 65536
  pub copy_is : copy ≡ mended notes
  pub list_is : list ≡ changes notes

pub mend_means : (notes : List ℕ) (space entries : ℕ) (copy : List ℕ) (list : List Change) → mend notes space entries ≡ done copy list → Done notes copy list
unfolding mend
mend_means notes space entries copy list e = pick (ltb 65536 (length notes)) (ltb entries (length (changes notes))) (ltb space (length (mended notes))) refl e
  where
    pick : (t u v : Bool) → ltb 65536 (length notes) ≡ t
        → cond t long (cond u (full (length (changes notes))) (cond v (room (length (mended notes))) (done (mended notes) (changes notes)))) ≡ done copy list → Done notes copy list
    pick true u v a q = absurd (let z : ◌≡◌ {A = ℕ} 0 1 = cc in omega arith)
    pick false true v a q = absurd (let z : ◌≡◌ {A = ℕ} 0 1 = cc in omega arith)
    pick false false true a q = absurd (let z : ◌≡◌ {A = ℕ} 0 1 = cc in omega arith)
    pick false false false a q = record { limit = ltb-false _ _ a; copy_is = cc; list_is = cc }

pub back_exactly : (notes : List ℕ) → Bytes notes → (space : ℕ) → length notes ≤ 65536 → length notes ≤ space → restore (mended notes) (changes notes) space ≡ given notes
back_exactly notes o space h k =
    let b = notes_back notes o in
    let l = mended_length notes o in
    restore_done (mended notes) (changes notes) space (omega (arith, l.0, l.1)) (omega (arith, b.all)) (rw b.is k) ∙ ap given b.is

-- ---- mending again

again_lines : (at : ℕ) (lines : List (List ℕ)) → All (λ line. is_utf8 line ≡ true) lines → (joined mended_line lines ≡ joined (λ l. l) lines) × (changes_from at lines ≡ [])
unfolding changes_from
again_lines at [] a = (joined_nil mended_line ∙ sym (joined_nil (λ (l : List ℕ). l)), refl)
again_lines at (line ∷ lines) a =
    let f = left_as_found line a.0 in
    let r = again_lines (at + length line) lines a.1 in
    (joined_cons mended_line line lines ∙ rw (f.0, r.0) (sym (joined_cons (λ (l : List ℕ). l) line lines)), rw (f.1 at) r.1)

formed_again : (xs : List ℕ) → All (λ line. is_utf8 line ≡ true) (whole_lines xs) → (mended xs ≡ xs) × (changes xs ≡ [])
unfolding mended changes
formed_again xs a = let r = again_lines 0 (whole_lines xs) a in (r.0 ∙ lines_joined xs, r.1)

pub again_same : (notes : List ℕ) → Bytes notes → (space entries : ℕ) → length (mended notes) ≤ 65536 → length (mended notes) ≤ space → mend (mended notes) space entries ≡ done (mended notes) []
again_same notes o space entries h k =
    let a = formed_again (mended notes) (lines_formed notes o) in
    mend_done (mended notes) space entries h (rw a.1 (omega arith)) (rw a.0 k) ∙ rw (a.0, a.1)

-- ---- when restoring is done

pub record Restored (copy : List ℕ) (list : List Change) (notes : List ℕ) : Type 0 where
  pub notes_are : notes ≡ restored 0 copy list
  pub all : length list ≤ belonging 0 copy list

pub restore_means : (copy : List ℕ) (list : List Change) (space : ℕ) (notes : List ℕ) → restore copy list space ≡ given notes → Restored copy list notes
unfolding restore
restore_means copy list space notes e = pick (ltb 131072 (length copy)) (ltb (belonging 0 copy list) (length list)) (ltb space (length (restored 0 copy list))) refl e
  where
    pick : (t u v : Bool) → ltb (belonging 0 copy list) (length list) ≡ u
        → cond t longCopy (cond u (stray (belonging 0 copy list)) (cond v (roomBack (length (restored 0 copy list))) (given (restored 0 copy list)))) ≡ given notes → Restored copy list notes
    pick true u v a q = absurd (let z : ◌≡◌ {A = ℕ} 0 1 = cc in omega arith)
    pick false true v a q = absurd (let z : ◌≡◌ {A = ℕ} 0 1 = cc in omega arith)
    pick false false true a q = absurd (let z : ◌≡◌ {A = ℕ} 0 1 = cc in omega arith)
    pick false false false a q = record { notes_are = cc; all = ltb-false _ _ a }

-- the copy comes back from what any accepted list gave
expand_back : (at : ℕ) (copy : List ℕ) (es : List Change) → Small es → belonging at copy es ≡ length es → expanded at (restored at copy es) es ≡ copy
unfolding expanded
expand_back at copy [] s h = restored_nil at copy
expand_back at copy (e ∷ es) s h =
    let w = whole_first at copy e es h in
    let b = belongs_so at copy e w.0 in
    let n = entry_within at copy e (s 0) b in
    let g = e.place - at in
    let r = restored (e.place + 1) (drop (g + 2) copy) es in
    let t : length (take g copy) ≡ g = length-take-le g copy (omega arith) in
    let t' : length (take g copy ++ e.byte ∷ []) ≡ g + 1 = length-append (take g copy) (e.byte ∷ []) ∙ omega arith in
    let i = expand_back (e.place + 1) (drop (g + 2) copy) es (λ j. s (suc j)) w.1 in
    let d : drop (g + 1) (take g copy ++ e.byte ∷ r) ≡ r =
    ap (drop (g + 1)) (sym (append_assoc (take g copy) (e.byte ∷ []) r)) ∙ drop-append-le (g + 1) (take g copy ++ e.byte ∷ []) r (omega arith) ∙ ap (λ (l : List ℕ). l ++ r) (drop_of_length-le (take g copy ++ e.byte ∷ []) {i = g + 1} (omega arith)) in
    let f = begins_front (encode e.byte) (drop g copy) b.octets in
    let l = ap length (encode_high e.byte b.high (s 0)) in
    let x : drop (length (encode e.byte)) (drop g copy) ≡ drop (g + 2) copy = rw l (drop-drop 2 g copy) in
    rw (restored_cons at copy e es, take_at (take g copy) (e.byte ∷ r) g t, d, i, ← x, ← f) (take-append-drop g copy)

pub copy_again : (copy : List ℕ) (list : List Change) → Small list → length list ≤ belonging 0 copy list → expanded 0 (restored 0 copy list) list ≡ copy
copy_again copy list s h = let f = belonging_few 0 copy list s in let e : belonging 0 copy list ≡ length list = omega (arith, f.0) in expand_back 0 copy list s e

-- ---- the list in its two slices

listed_again : (list : List Change) → listed (map (λ c. c.place) list) (map (λ c. c.byte) list) ≡ list
unfolding listed
listed_again [] = refl
listed_again (c ∷ cs) = ap (λ (l : List Change). c ∷ l) (listed_again cs)

front_again : {A : Type 0} (f : A → ℕ) (list : List A) (old : List ℕ) → take (length list) (over (map f list) old) ≡ map f list
front_again f list old = take_at (map f list) (drop (length (map f list)) old) (length list) (length-map list f)

pub slices_hold : (copy : List ℕ) (list : List Change) (places bytes : List ℕ)
    → listed (take (length list) (places_after (done copy list) places)) (take (length list) (bytes_after (done copy list) bytes)) ≡ list
unfolding places_after bytes_after
slices_hold copy list places bytes = rw (front_again (λ (c : Change). c.place) list places, front_again (λ (c : Change). c.byte) list bytes) (listed_again list)

-- The number that a reply tells and the reason that it leaves are those of the answer, and the number fits.
use Rattle.std.proofs.Common.{Result, Ok, Err}
use mathlib.Core.Path.{◌≡◌, refl, ap}
use mathlib.Core.Bool.{Bool, true, false, cond}
use mathlib.Core.List.{List}
use Prim.Native.Nat.{ℕ, ◌/◌, ◌%◌, ◌^◌, ◌≤◌, ◌<◌}
use native.Mathlib.Omega.{arith}
use borrow.Author.Tests.{ltb-false}
use lib.Dec.{ltb}
use lib.ListN.{length, get_or}
use Rattle.options.specs.Opts.{Opts, meant}
use Rattle.options.specs.OptionBlock.{read_block}
use Rattle.options.specs.declared.Options.{Options}
use Rattle.options.specs.declared.Fault.{Fault}
use Rattle.endings.specs.declared.Ending.{Ending}
use Rattle.endings.specs.declared.Ending.TheVariants.{Paragraph}
use Rattle.lists.specs.Coded.{numbered}
use Rattle.formatter.specs.Format.{Limits, Finding, found, stopped, damage_in, with_text, with_block, finding, most_told}
use Rattle.formatter.specs.declared.Refusal.TheVariants.{Long, Work}
use Rattle.formatter.specs.Work.{lending}
use Rattle.formatter.proofs.Values.{Sound, found_value, refusal_most, reads_back}
use Rattle.formatter.proofs.Work.{the_room_asked_for_suffices}
use Rattle.explain.specs.Reasons.{line_endings}
use Rattle.explain.specs.Explain.{Explanation, because, refused, no_line, look_up, look_up_in, after_measuring, explaining, explain_coded, reason_after}
use Rattle.explain.specs.Cited.Seeking.{told, explained_coded, told_reason}
use Rattle.explain.proofs.Counting.{lines_are_few}

pub told_coded : (x : Explanation) → explained_coded (told x) ≡ explain_coded x
told_coded (because e) = refl
told_coded (refused r) = refl
told_coded (no_line lines) = refl

pub told_reason_law : (x : Explanation) (reason : List ℕ) → told_reason (told x) reason ≡ reason_after x reason
unfolding reason_after
told_reason_law (because e) reason = refl
told_reason_law (refused r) reason = refl
told_reason_law (no_line lines) reason = refl

-- ---- what the answer tells

look_value : (line : ℕ) (es : List Ending) → length es ≤ most_told → (explain_coded (look_up line es)).value ≤ most_told
look_value line es h = go (ltb line (length es))
  where
    go : (b : Bool) → (explain_coded (cond b (because (get_or es line Paragraph)) (no_line (length es)))).value ≤ most_told
    go true = omega arith
    go false = h

module _ (l : Limits) (sound : Sound l) (block notes : List ℕ) (line : ℕ) where
  -- where there is a digest, the notes are within the limit
  done_short : (digest : List ℕ) (o : Opts) (b : Bool) → ltb l.bytes (length notes) ≡ b → elim b as (λ t. Finding) [ true ↦ stopped Long | false ↦ with_text l.words o notes (damage_in o.keep notes) ] ≡ found digest → length notes ≤ l.bytes
  done_short digest o true h k = absurd (let z : ◌≡◌ {A = ℕ} 0 1 = cc in omega arith)
  done_short digest o false h k = ltb-false l.bytes (length notes) h

  done_value : (digest : List ℕ) (b : Result Options Fault) → with_block l block notes b ≡ found digest → (explain_coded (look_up_in line block notes b)).value ≤ most_told
  done_value digest (Err fault) e = absurd (let z : ◌≡◌ {A = ℕ} 0 1 = cc in omega arith)
  done_value digest (Ok o) e =
      let s = done_short digest (meant block o) (ltb l.bytes (length notes)) refl e in
      look_value line (line_endings (meant block o) notes) (let f = lines_are_few (meant block o) notes in omega (arith, f, s, sound.short))

  pub explained_value : (explain_coded (explaining l block notes line)).value ≤ most_told
  unfolding explaining finding
  explained_value = go (finding l block notes) refl
    where
      go : (f : Finding) → finding l block notes ≡ f → (explain_coded (after_measuring (look_up_in line block notes (read_block block)) f)).value ≤ most_told
      go (found digest) e = done_value digest (read_block block) e
      go (stopped r) e = found_value l sound block notes r e

code_most : (x : Explanation) → (explain_coded x).code ≤ 12
code_most (because e) = omega arith
code_most (refused r) = refusal_most r
code_most (no_line n) = omega arith

pub told_fits : (l : Limits) → Sound l → (block notes : List ℕ) (line : ℕ) → numbered (explained_coded (told (explaining l block notes line))) < 2 ^ 64
unfolding numbered
told_fits l sound block notes line =
    let c = code_most (explaining l block notes line) in
    let v = explained_value l sound block notes line in
    rw told_coded (omega (arith, c, v))

-- Code and value can be read back from the number, whatever the limits, the block, the notes and the line.
pub explaining_tells_code_and_value : (l : Limits) → Sound l → (block notes : List ℕ) (line : ℕ)
    → (numbered (explain_coded (explaining l block notes line)) / 2 ^ 32 ≡ (explain_coded (explaining l block notes line)).code) × (numbered (explain_coded (explaining l block notes line)) % 2 ^ 32 ≡ (explain_coded (explaining l block notes line)).value)
explaining_tells_code_and_value l sound block notes line = reads_back (explain_coded (explaining l block notes line)) (explained_value l sound block notes line)

-- ---- lent room

-- what is refused for want of room is found so
module _ (l : Limits) (block notes : List ℕ) (line n : ℕ) where
  never_so : (b : Result Options Fault) → look_up_in line block notes b ≡ refused (Work n) → ⊥
  never_so (Err fault) e = let z : ◌≡◌ {A = ℕ} 0 1 = cc in omega arith
  never_so (Ok o) e = go (ltb line (length (line_endings (meant block o) notes))) e
    where
      go : (b : Bool) → cond b (because (get_or (line_endings (meant block o) notes) line Paragraph)) (no_line (length (line_endings (meant block o) notes))) ≡ refused (Work n) → ⊥
      go true k = let z : ◌≡◌ {A = ℕ} 0 1 = cc in omega arith
      go false k = let z : ◌≡◌ {A = ℕ} 0 1 = cc in omega arith

  found_so : explaining l block notes line ≡ refused (Work n) → finding l block notes ≡ stopped (Work n)
  unfolding explaining
  found_so e = go (finding l block notes) e
    where
      go : (f : Finding) → after_measuring (look_up_in line block notes (read_block block)) f ≡ refused (Work n) → f ≡ stopped (Work n)
      go (found digest) k = absurd (never_so (read_block block) k)
      go (stopped r) k = let q : r ≡ Work n = cc in ap stopped q

-- With the room that the call asks for it is not refused so again, whatever the line.
pub the_room_asked_for_suffices_to_explain : (block notes : List ℕ) (line other lends needed more : ℕ) → explaining (lending lends) block notes line ≡ refused (Work needed) → needed ≤ more
    → (n : ℕ) → explaining (lending more) block notes other ≡ refused (Work n) → ⊥
the_room_asked_for_suffices_to_explain block notes line other lends needed more e h n f =
    the_room_asked_for_suffices block notes lends needed more (found_so (lending lends) block notes line needed e) h n (found_so (lending more) block notes other n f)

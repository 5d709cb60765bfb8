-- The answer: what is told of the line at the end of the notes, and before any piece is looked at; and that its number fits.
use Rattle.std.proofs.Common.{Option, Some, None, Result, Ok, Err}
use mathlib.Core.Path.{◌≡◌, refl, sym, ap, ◌∙◌}
use mathlib.Core.Bool.{Bool, true, false, cond}
use mathlib.Core.List.{List}
use Prim.Native.Nat.{ℕ, ◌-◌, ◌≤◌, ◌<◌, max}
use native.Mathlib.Omega.{arith}
use borrow.Author.Tests.{ltb-false, le-ltb, lt-ltb}
use lib.Dec.{ltb}
use lib.ListN.{length, get_or}
use Rattle.options.specs.Opts.{Opts, meant}
use Rattle.options.specs.OptionBlock.{read_block}
use Rattle.options.specs.declared.Options.{Options}
use Rattle.options.specs.declared.Fault.{Fault}
use Rattle.pieces.specs.Pieces.{pieces}
use Rattle.endings.specs.declared.Ending.{Ending}
use Rattle.endings.specs.declared.Ending.TheVariants.{Paragraph}
use Rattle.paragraphs.specs.Cited.Steps.{room_for}
use Rattle.walk.specs.Digest.{long_paragraph, digest}
use Rattle.walk.specs.Work.{work_for}
use Rattle.walk.proofs.Loop.{all_pieces}
use Rattle.formatter.specs.Format.{Limits, limited, Finding, found, stopped, with_words, with_block, finding}
use Rattle.formatter.specs.Work.{lending}
use Rattle.formatter.specs.Cited.Call.{Admits}
use Rattle.formatter.specs.declared.Refusal.{Refusal}
use Rattle.formatter.specs.declared.Refusal.TheVariants.{Words, Work}
use Rattle.walk.specs.declared.notes.Notes.{Notes}
use Rattle.walk.specs.declared.Stopped.{Stopped}
use Rattle.formatter.proofs.Lent.{fits, over}
use Rattle.explain.specs.declared.Asked.{Asked}
use Rattle.explain.specs.declared.Asked.TheVariants.{Told, Behind}
use Rattle.explain.specs.declared.Short.{Short}
use Rattle.explain.specs.declared.Unexplained.{Unexplained}
use Rattle.explain.specs.Reasons.{line_endings}
use Rattle.explain.specs.Explain.{because, no_line, look_up, look_up_in, after_measuring, explaining}
use Rattle.explain.specs.Cited.Asking.{passed}
use Rattle.explain.specs.Cited.Seeking.{begin, long_behind, SoughtIs, Coursed, lines_ahead, asking, told, left_of}
use Rattle.explain.proofs.Seeking.{all_endings, seeking_stopped}
use Rattle.explain.specs.declared.Unexplained.TheVariants.{Refused}

-- ---- at the end of the notes

-- after all lines the one asked for was among them, or there are so many
all_passed : (es : List Ending) (line : ℕ) → (asking line (passed es (Behind line)) ≡ look_up line es) × (lines_ahead (passed es (Behind line)) ≤ line)
unfolding passed
all_passed es line = go (ltb line (length es)) refl
  where
    go : (t : Bool) → ltb line (length es) ≡ t
        → (asking line (cond t (Told (get_or es line Paragraph)) (Behind (line - length es))) ≡ cond t (because (get_or es line Paragraph)) (no_line (length es)))
        × (lines_ahead (cond t (Told (get_or es line Paragraph)) (Behind (line - length es))) ≤ line)
    go true t = (refl, omega arith)
    go false t = let h = ltb-false line (length es) t in (ap no_line (omega arith), omega arith)

module _ (most : ℕ) (o : Opts) (notes : List ℕ) (line : ℕ) where
  all_long : long_behind most o notes (begin line) ≡ long_paragraph most o 0 (pieces o notes)
  all_long = ap (long_paragraph most o 0) (all_pieces o notes)

  pub stopped_of : {stopped : Stopped} → SoughtIs most o notes (begin line) (Err stopped) → long_paragraph most o 0 (pieces o notes) ≡ Some stopped.at
  stopped_of s = sym all_long ∙ s

  -- with a limit on words
  pub stopped_told : (bytes : ℕ) {stopped : Stopped} → SoughtIs most o notes (begin line) (Err stopped) → Err (Refused (Words stopped.at)) ≡ told (left_of (limited bytes most) o notes line)
  stopped_told bytes s = rw (stopped_of s)

  module _ (a : Asked) (s : SoughtIs most o notes (begin line) (Ok a)) where
    pub all_of : (long_paragraph most o 0 (pieces o notes) ≡ None) × (a ≡ passed (line_endings o notes) (Behind line))
    all_of = (sym all_long ∙ s.0, s.1 ∙ ap (λ (es : List Ending). passed es (Behind line)) (all_endings o notes))

    pub all_ahead : lines_ahead a ≤ line
    all_ahead = rw all_of.1 (all_passed (line_endings o notes) line).1

    all_asked : {x : Result Ending Unexplained} → x ≡ told (asking line a) → x ≡ told (look_up line (line_endings o notes))
    all_asked h = h ∙ ap told (ap (asking line) all_of.1 ∙ (all_passed (line_endings o notes) line).0)

    pub all_told : (bytes : ℕ) {x : Result Ending Unexplained} → x ≡ told (asking line a) → x ≡ told (left_of (limited bytes most) o notes line)
    all_told bytes h = all_asked h ∙ ap (λ (f : Option ℕ). told (after_measuring (look_up line (line_endings o notes)) (with_words o notes f))) (sym all_of.0)

-- where room is lent: it does not reach, and what the notes need is told; or it does
module _ (lends : ℕ) (o : Opts) (notes : List ℕ) (line : ℕ) where
  abbrev room_is : ℕ
  room_is = room_for o.quick lends

  pub short_told : {short : Short} {n : ℕ} → Coursed room_is o notes (begin line) (Err short) → n ≡ max lends (work_for o notes) → Err (Refused (Work n)) ≡ told (left_of (lending lends) o notes line)
  short_told {short} {n} c k =
      let s = c room_is (omega arith) in
      let h : lends < work_for o notes = over o lends notes (stopped_of room_is o notes line (seeking_stopped room_is o notes s.0 s.1 s.1.many)) in
      let m : n ≡ work_for o notes = omega (arith, h, k) in
      ap (λ (k : ℕ). Err (Refused (Work k))) m ∙ ap (λ (b : Bool). told (after_measuring (look_up line (line_endings o notes)) (elim b as (λ t. Finding) [ true ↦ stopped (Work (work_for o notes)) | false ↦ found (digest o notes) ]))) (sym (lt-ltb lends (work_for o notes) h))

  module _ (a : Asked) (c : Coursed room_is o notes (begin line) (Ok a)) where
    sought : SoughtIs room_is o notes (begin line) (Ok a)
    sought = c room_is (omega arith)

    pub lent_ahead : lines_ahead a ≤ line
    lent_ahead = all_ahead room_is o notes line a sought

    pub lent_told : {x : Result Ending Unexplained} → x ≡ told (asking line a) → x ≡ told (left_of (lending lends) o notes line)
    lent_told h =
        let f = fits o lends notes (all_of room_is o notes line a sought).0 in
        all_asked room_is o notes line a sought h
        ∙ ap (λ (b : Bool). told (after_measuring (look_up line (line_endings o notes)) (elim b as (λ t. Finding) [ true ↦ stopped (Work (work_for o notes)) | false ↦ found (digest o notes) ]))) (sym (le-ltb lends (work_for o notes) f))

-- ---- before any piece is looked at

module _ (l : Limits) (block notes : List ℕ) (line : ℕ) where
  pub refused_told : {r : Refusal} → Admits l block notes (Err r) → Err (Refused r) ≡ told (explaining l block notes line)
  unfolding explaining finding
  refused_told f = ap (λ (b : Finding). told (after_measuring (look_up_in line block notes (read_block block)) b)) (sym f.whole_is)

  pub passed_told : (n : Notes) {x : Result Ending Unexplained} → Admits l block notes (Ok n) → x ≡ told (left_of l (meant n.block.now n.options) n.bytes.now line) → x ≡ told (explaining l block notes line)
  unfolding explaining finding
  passed_told n {x} f h =
      let o = meant block n.options in
      let k : x ≡ told (left_of l o notes line) = rw (f.0.0, f.0.1) at h in
      let accepted : read_block block ≡ Ok n.options = ap read_block (sym f.0.0) ∙ n.admitted.accepted in
      k
      ∙ ap (λ (b : Finding). told (after_measuring (look_up line (line_endings o notes)) b)) (sym f.1)
      ∙ ap (λ (b : Result Options Fault). told (after_measuring (look_up_in line block notes b) (with_block l block notes (read_block block)))) (sym accepted)

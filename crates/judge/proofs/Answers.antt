-- What the call answers, by what the digest has come to after the last piece, or by what is told before.
use Rattle.std.proofs.Common.{Option, Result, Ok, Err}
use mathlib.Core.Path.{◌≡◌, refl, sym, ap, ◌∙◌}
use mathlib.Core.Bool.{Bool, true, false, cond}
use mathlib.Core.List.{List}
use Prim.Native.Nat.{ℕ, ◌<◌, max}
use native.Mathlib.Omega.{arith}
use lib.Dec.{ltb}
use lib.ListN.{length, drop}
use borrow.Author.Tests.{le-ltb, lt-ltb, ltb-true, ltb-false}
use Rattle.lists.proofs.Views.{drop_here, drop_none}
use Rattle.options.specs.Opts.{Opts, meant}
use Rattle.options.specs.OptionBlock.{read_block}
use Rattle.options.specs.declared.Options.{Options}
use Rattle.options.specs.declared.Fault.{Fault as BlockFault}
use Rattle.pieces.specs.Pieces.{pieces}
use Rattle.paragraphs.specs.Cited.Steps.{room_for}
use Rattle.walk.specs.Digest.{digest as digestOf}
use Rattle.walk.specs.Work.{work_for}
use Rattle.walk.specs.declared.Stopped.{Stopped}
use Rattle.walk.specs.declared.notes.Notes.{Notes}
use Rattle.formatter.specs.Format.{Limits, limited, Finding, found, stopped, with_words, with_block, finding}
use Rattle.formatter.specs.Work.{most_lent, lending}
use Rattle.formatter.specs.Cited.Call.{Admits}
use Rattle.formatter.specs.declared.Refusal.{Refusal}
use Rattle.formatter.specs.declared.Refusal.TheVariants.{Work}
use Rattle.formatter.proofs.Lent.{fits, over}
use Rattle.checker.specs.Matching.{Match, on, and_then, match_pieces, verdict_of, verdict}
use Rattle.checker.specs.Cited.Places.{matched, MatchedIn}
use Rattle.checker.specs.declared.Spot.{Spot}
use Rattle.checker.specs.declared.Fault.{Fault}
use Rattle.judge.specs.Checking.{with_verdict, digest_within, after_notes, verdict_under, checking}
use Rattle.judge.specs.Cited.Judging.{Walked, begun, told_of, judged_by, left_of}
use Rattle.judge.specs.declared.Unaccepted.{Unaccepted}
use Rattle.judge.specs.declared.Unaccepted.TheVariants.{Refused, Line}

-- ---- where matching begins, and what is told of where it ends

module _ (bytes : ℕ) where
  pub begun_in : (digest : List ℕ) {m : Result Spot Fault} → m ≡ begun bytes (length digest) → MatchedIn digest m
  begun_in digest e = rw e (go (ltb bytes (length digest)))
    where
      go : (b : Bool) → MatchedIn digest (cond b (Err (record { line = 0 })) (Ok (record { at = 0; line = 0 })))
      go true = omega arith
      go false = record { within = omega arith; line = omega arith }

-- nothing may be left of the digest
told_verdict : (digest : List ℕ) (m : Result Spot Fault) → told_of (length digest) m ≡ with_verdict (verdict_of (matched digest m))
told_verdict digest (Err f) = refl
told_verdict digest (Ok p) = go (ltb p.at (length digest)) refl
  where
    go : (b : Bool) → ltb p.at (length digest) ≡ b → cond (ltb p.at (length digest)) (Err (Line p.line)) (Ok tt) ≡ with_verdict (verdict_of (on (drop p.at digest) p.line))
    go true e = rw (e, drop_here 0 digest p.at (ltb-true p.at (length digest) e))
    go false e = rw (e, drop_none 0 digest p.at (ltb-false p.at (length digest) e))

-- ---- from what the pieces came to

module _ (bytes most : ℕ) (o : Opts) (notes digest : List ℕ) (first : Result Spot Fault) {m : Result Spot Fault} (w : Walked most o notes digest first (Ok m)) (b : first ≡ begun bytes (length digest)) where
  through_judged : judged_by bytes (length digest) m ≡ digest_within bytes (length digest) (verdict o notes digest)
  unfolding verdict
  through_judged = go (ltb bytes (length digest)) refl
    where
      go : (t : Bool) → ltb bytes (length digest) ≡ t → judged_by bytes (length digest) m ≡ digest_within bytes (length digest) (verdict o notes digest)
      go true t = rw t
      go false t =
          let k : first ≡ Ok (record { at = 0; line = 0 }) = b ∙ rw t in
          let v : matched digest m ≡ match_pieces o (pieces o notes) digest 0 = w.1.is ∙ ap (λ (x : Result Spot Fault). and_then (matched digest x) (match_pieces o (pieces o notes))) k in
          rw t (told_verdict digest m ∙ ap (λ (x : Match). with_verdict (verdict_of x)) v)

  pub through_answer : {a : Result (Unit {0}) Unaccepted} → a ≡ judged_by bytes (length digest) m → a ≡ left_of (limited bytes most) o notes digest
  through_answer q = q ∙ through_judged ∙ ap (λ (f : Option ℕ). after_notes (digest_within bytes (length digest) (verdict o notes digest)) (with_words o notes f)) (sym w.0)

-- where room is lent, for so many words: it does not reach, and what the notes need is told; or it does
module _ (lends : ℕ) (o : Opts) (notes digest : List ℕ) (first : Result Spot Fault) (most : ℕ) (is : most ≡ room_for o.quick lends) where
  pub short_answer : {s : Stopped} {n : ℕ} → Walked most o notes digest first (Err s) → n ≡ max lends (work_for o notes) → Err (Refused (Work n)) ≡ left_of (lending lends) o notes digest
  short_answer {s} {n} w k =
      let h : lends < work_for o notes = over o lends notes (rw is at w) in
      let m : n ≡ work_for o notes = omega (arith, h, k) in
      ap (λ (k : ℕ). Err (Refused (Work k))) m ∙ ap (λ (b : Bool). after_notes (digest_within most_lent (length digest) (verdict o notes digest)) (elim b as (λ t. Finding) [ true ↦ stopped (Work (work_for o notes)) | false ↦ found (digestOf o notes) ])) (sym (lt-ltb lends (work_for o notes) h))

  pub lent_answer : {m : Result Spot Fault} → Walked most o notes digest first (Ok m) → first ≡ begun most_lent (length digest) → {a : Result (Unit {0}) Unaccepted} → a ≡ judged_by most_lent (length digest) m → a ≡ left_of (lending lends) o notes digest
  lent_answer w b q =
      let f = fits o lends notes (rw is at w.0) in
      q ∙ through_judged most_lent most o notes digest first w b
      ∙ ap (λ (t : Bool). after_notes (digest_within most_lent (length digest) (verdict o notes digest)) (elim t as (λ x. Finding) [ true ↦ stopped (Work (work_for o notes)) | false ↦ found (digestOf o notes) ])) (sym (le-ltb lends (work_for o notes) f))

-- ---- what is told before

module _ (l : Limits) (block notes : List ℕ) where
  pub checking_left : (digest : List ℕ) (n : Notes) → Admits l block notes (Ok n) → checking l block notes digest ≡ left_of l (meant n.block.now n.options) n.bytes.now digest
  unfolding checking finding
  checking_left digest n s =
      let e : read_block block ≡ Ok n.options = ap read_block (sym s.0.0) ∙ n.admitted.accepted in
      rw (s.0.0, s.0.1) (
      ap (λ (b : Result Options BlockFault). after_notes (digest_within l.bytes (length digest) (verdict_under block notes digest b)) (with_block l block notes (read_block block))) e
      ∙ ap (after_notes (digest_within l.bytes (length digest) (verdict (meant block n.options) notes digest))) s.1)

  pub refused_answer : (digest : List ℕ) {r : Refusal} → Admits l block notes (Err r) → Err (Refused r) ≡ checking l block notes digest
  unfolding checking finding
  refused_answer digest s = ap (after_notes (digest_within l.bytes (length digest) (verdict_under block notes digest (read_block block)))) (sym s.whole_is)

-- What an answer tells is small: places of the notes and the block are, and a digest that is matched has no more lines than bytes. So code and
-- value can be read back from the number.
use Rattle.std.proofs.Common.{Result, Ok, Err}
use mathlib.Core.Path.{◌≡◌, refl, ap}
use mathlib.Core.Bool.{Bool, true, false, cond}
use mathlib.Core.List.{List, [], ◌∷◌}
use Prim.Native.Nat.{ℕ, zero, suc, ◌/◌, ◌%◌, ◌^◌, ◌≤◌, ◌<◌}
use native.Mathlib.Omega.{arith}
use lib.Dec.{eqb, ltb}
use lib.ListN.{length}
use borrow.Author.Tests.{ltb-false}
use Rattle.options.specs.Opts.{meant}
use Rattle.options.specs.OptionBlock.{read_block}
use Rattle.options.specs.declared.Options.{Options}
use Rattle.options.specs.declared.Fault.{Fault}
use Rattle.lists.specs.Coded.{numbered}
use Rattle.formatter.specs.Format.{Limits, Finding, found, stopped, finding, most_told}
use Rattle.formatter.specs.declared.Refusal.TheVariants.{Work}
use Rattle.formatter.specs.Work.{lending}
use Rattle.formatter.proofs.Values.{Sound, found_value, refusal_most, reads_back}
use Rattle.formatter.proofs.Work.{the_room_asked_for_suffices}
use Rattle.checker.specs.Acceptable.{Acceptable}
use Rattle.checker.specs.Named.{feeds, Named}
use Rattle.checker.specs.Matching.{Verdict, accepted, at, verdict}
use Rattle.checker.proofs.Theorems.{the_line_told_is_the_line_named}
use Rattle.judge.specs.Answers.{check_coded}
use Rattle.judge.specs.Checking.{with_verdict, digest_within, after_notes, verdict_under, checking}
use Rattle.judge.specs.declared.Unaccepted.{Unaccepted}
use Rattle.judge.specs.declared.Unaccepted.TheVariants.{Refused, LongDigest, Line}

-- ---- the line named

few_feeds : (xs : List ℕ) → feeds xs ≤ length xs
unfolding feeds
few_feeds [] = omega arith
few_feeds (x ∷ xs) = go (eqb x 10) (few_feeds xs)
  where
    go : (b : Bool) → feeds xs ≤ length xs → elim b as (λ t. ℕ) [ true ↦ suc (feeds xs) | false ↦ feeds xs ] ≤ length (x ∷ xs)
    go true h = omega (arith, h)
    go false h = omega (arith, h)

-- every line before it is there and ended
named_few : (Good : List ℕ → Type 0) (digest : List ℕ) (n : ℕ) → Named Good digest n → n ≤ length digest
named_few Good digest zero h = omega arith
named_few Good digest (suc n) h = let e = (h.before n (omega arith)).ended in let f = few_feeds digest in omega (arith, e, f)

verdict_few : (block notes digest : List ℕ) (b : Result Options Fault) → (check_coded (with_verdict (verdict_under block notes digest b))).value ≤ length digest
verdict_few block notes digest (Err f) = omega arith
verdict_few block notes digest (Ok o) = go (verdict (meant block o) notes digest) refl
  where
    go : (v : Verdict) → verdict (meant block o) notes digest ≡ v → (check_coded (with_verdict v)).value ≤ length digest
    go accepted e = omega arith
    go (at n) e = named_few (Acceptable (meant block o) notes) digest n (the_line_told_is_the_line_named (meant block o) notes digest n e)

module _ (l : Limits) (sound : Sound l) (block notes digest : List ℕ) where
  digest_small : (b : Result Options Fault) → (check_coded (digest_within l.bytes (length digest) (verdict_under block notes digest b))).value ≤ most_told
  digest_small b = go (ltb l.bytes (length digest)) refl
    where
      go : (t : Bool) → ltb l.bytes (length digest) ≡ t → (check_coded (cond t (Err LongDigest) (with_verdict (verdict_under block notes digest b)))).value ≤ most_told
      go true e = omega arith
      go false e = let f = verdict_few block notes digest b in omega (arith, f, ltb-false l.bytes (length digest) e, sound.short)

  -- ---- the answer

  pub checking_small : (check_coded (checking l block notes digest)).value ≤ most_told
  unfolding checking
  checking_small = go (finding l block notes) refl
    where
      go : (f : Finding) → finding l block notes ≡ f → (check_coded (after_notes (digest_within l.bytes (length digest) (verdict_under block notes digest (read_block block))) f)).value ≤ most_told
      go (found d) e = digest_small (read_block block)
      go (stopped r) e = found_value l sound block notes r e

code_most : (a : Result (Unit {0}) Unaccepted) → (check_coded a).code ≤ 12
code_most (Ok tt) = omega arith
code_most (Err (Refused r)) = refusal_most r
code_most (Err LongDigest) = omega arith
code_most (Err (Line line)) = omega arith

pub number_fits : (l : Limits) → Sound l → (block notes digest : List ℕ) → numbered (check_coded (checking l block notes digest)) < 2 ^ 64
unfolding numbered
number_fits l sound block notes digest = let s = checking_small l sound block notes digest in let m = code_most (checking l block notes digest) in omega (arith, s, m)

-- Code and value can be read back from the number, whatever the limits, the block, the notes and the digest.
pub checking_tells_code_and_value : (l : Limits) → Sound l → (block notes digest : List ℕ)
    → (numbered (check_coded (checking l block notes digest)) / 2 ^ 32 ≡ (check_coded (checking l block notes digest)).code) × (numbered (check_coded (checking l block notes digest)) % 2 ^ 32 ≡ (check_coded (checking l block notes digest)).value)
checking_tells_code_and_value l sound block notes digest = reads_back (check_coded (checking l block notes digest)) (checking_small l sound block notes digest)

-- ---- lent room

-- what is refused for want of room is found so
module _ (l : Limits) (block notes digest : List ℕ) (n : ℕ) where
  never_so : (b : Bool) (v : Verdict) → cond b (Err LongDigest) (with_verdict v) ≡ Err (Refused (Work n)) → ⊥
  never_so true v e = cc
  never_so false accepted e = cc
  never_so false (at line) e = cc

  found_so : checking l block notes digest ≡ Err (Refused (Work n)) → finding l block notes ≡ stopped (Work n)
  unfolding checking
  found_so e = go (finding l block notes) e
    where
      go : (f : Finding) → after_notes (digest_within l.bytes (length digest) (verdict_under block notes digest (read_block block))) f ≡ Err (Refused (Work n)) → f ≡ stopped (Work n)
      go (found d) k = absurd (never_so (ltb l.bytes (length digest)) (verdict_under block notes digest (read_block block)) k)
      go (stopped r) k = let q : r ≡ Work n = cc in ap stopped q

-- With the room that the call asks for it is not refused so again, whatever the digest.
pub the_room_asked_for_suffices_to_check : (block notes digest other : List ℕ) (lends needed more : ℕ) → checking (lending lends) block notes digest ≡ Err (Refused (Work needed)) → needed ≤ more
    → (n : ℕ) → checking (lending more) block notes other ≡ Err (Refused (Work n)) → ⊥
the_room_asked_for_suffices_to_check block notes digest other lends needed more e h n f =
    the_room_asked_for_suffices block notes lends needed more (found_so (lending lends) block notes digest needed e) h n (found_so (lending more) block notes other n f)

-- What RULES 18 claims of the call, about all blocks, notes and digests: from what it claims of the checker (checker/proofs/Theorems).
use Rattle.std.proofs.Common.{Result, Ok, Err}
use mathlib.Core.Path.{◌≡◌, refl, sym, ap, ◌∙◌}
use mathlib.Core.Bool.{Bool, true, false, cond}
use mathlib.Core.List.{List}
use Prim.Native.Nat.{ℕ, ◌≤◌, ◌<◌}
use native.Mathlib.Omega.{arith}
use lib.Dec.{ltb}
use lib.ListN.{length}
use borrow.Author.Tests.{le-ltb, lt-ltb, ltb-false}
use Rattle.options.specs.Opts.{Opts, meant}
use Rattle.options.specs.OptionBlock.{read_block}
use Rattle.options.specs.declared.Options.{Options}
use Rattle.options.specs.declared.Fault.{Fault}
use Rattle.formatter.specs.Answers.{refused}
use Rattle.formatter.specs.Format.{Limits, Finding, found, stopped, with_block, finding, measuring}
use Rattle.formatter.specs.declared.Refusal.{Refusal}
use Rattle.formatter.proofs.Together.{what_is_refused_is_measured_so}
use Rattle.checker.specs.Acceptable.{Acceptable}
use Rattle.checker.specs.Named.{Named}
use Rattle.checker.specs.Matching.{Verdict, accepted, at, verdict}
use Rattle.checker.proofs.Theorems.{what_is_accepted_is_acceptable, what_is_acceptable_is_accepted, the_line_told_is_the_line_named, the_line_named_is_the_line_told}
use Rattle.judge.specs.Answers.{check_coded}
use Rattle.judge.specs.Checking.{with_verdict, digest_within, after_notes, verdict_under, checking}
use Rattle.judge.specs.Theorems.Looked.{Looked}
use Rattle.judge.specs.declared.Unaccepted.{Unaccepted}
use Rattle.judge.specs.declared.Unaccepted.TheVariants.{Refused, LongDigest, Line}

module _ (l : Limits) (block notes digest : List ℕ) where
  -- ---- what is told where none of 1 to 4 is due

  done_then : (then : Result (Unit {0}) Unaccepted) {f : Finding} {bytes : List ℕ} → f ≡ found bytes → after_notes then f ≡ then
  done_then then e = ap (after_notes then) e

  -- and the other way round, where the notes are not refused
  then_done : (then : Result (Unit {0}) Unaccepted) (f : Finding) {r : Result (Unit {0}) Unaccepted} → after_notes then f ≡ r → ((q : Refusal) → r ≡ Err (Refused q) → ⊥) → (bytes : List ℕ) × (f ≡ found bytes)
  then_done then (found d) e n = (d, refl)
  then_done then (stopped q) e n = absurd (n q (sym e))

  -- a digest that is judged is within the limit
  judged_short : (v : Verdict) {r : Result (Unit {0}) Unaccepted} → digest_within l.bytes (length digest) v ≡ r → ((check_coded r).code ≡ 9 → ⊥) → (length digest ≤ l.bytes) × (with_verdict v ≡ r)
  judged_short v {r} e n = go (ltb l.bytes (length digest)) refl e
    where
      go : (t : Bool) → ltb l.bytes (length digest) ≡ t → cond t (Err LongDigest) (with_verdict v) ≡ r → (length digest ≤ l.bytes) × (with_verdict v ≡ r)
      go true t k = absurd (n (sym (ap (λ (j : Result (Unit {0}) Unaccepted). (check_coded j).code) k)))
      go false t k = (ltb-false l.bytes (length digest) t, k)

  short_judged : (v : Verdict) → length digest ≤ l.bytes → digest_within l.bytes (length digest) v ≡ with_verdict v
  short_judged v h = rw (le-ltb l.bytes (length digest) h)

  accepted_only : (v : Verdict) → with_verdict v ≡ Ok tt → v ≡ accepted
  accepted_only accepted e = refl
  accepted_only (at n) e = absurd (cc)

  line_only : (v : Verdict) (n : ℕ) → with_verdict v ≡ Err (Line n) → v ≡ at n
  line_only accepted n e = absurd (cc)
  line_only (at m) n e = let q : m ≡ n = cc in ap at q

  -- under the options that the block means
  looked : (Holds : Opts → Type 0) (v : Verdict) → ((o : Opts) → verdict o notes digest ≡ v → Holds o) → (d : List ℕ) → finding l block notes ≡ found d → length digest ≤ l.bytes → verdict_under block notes digest (read_block block) ≡ v → Looked l block notes digest Holds
  unfolding finding
  looked Holds v f d passed short e = go (read_block block) refl passed e
    where
      go : (b : Result Options Fault) → read_block block ≡ b → with_block l block notes b ≡ found d → verdict_under block notes digest b ≡ v → Looked l block notes digest Holds
      go (Err f) q p k = absurd (cc)
      go (Ok o) q p k = record { options = o; accepted = q; bytes = d; passed = passed; short = short; holds = f (meant block o) k }

  judged_as : (Holds : Opts → Type 0) (v : Verdict) → ((o : Opts) → Holds o → verdict o notes digest ≡ v) → Looked l block notes digest Holds → checking l block notes digest ≡ with_verdict v
  unfolding checking
  judged_as Holds v f k =
      done_then _ k.passed
      ∙ short_judged (verdict_under block notes digest (read_block block)) k.short
      ∙ ap (λ (b : Result Options Fault). with_verdict (verdict_under block notes digest b)) k.accepted
      ∙ ap with_verdict (f (meant block k.options) k.holds)

  -- ---- the theorems

  -- The call accepts exactly the acceptable digests of notes that are not refused, within the limit.
  pub what_the_call_accepts_is_acceptable : checking l block notes digest ≡ Ok tt → Looked l block notes digest (λ o. Acceptable o notes digest)
  unfolding checking
  what_the_call_accepts_is_acceptable e =
      let then = digest_within l.bytes (length digest) (verdict_under block notes digest (read_block block)) in
      let p = then_done then (finding l block notes) e (λ q z. cc) in
      let s = judged_short (verdict_under block notes digest (read_block block)) (sym (done_then then p.1) ∙ e) (λ z. omega (arith, z)) in
      looked (λ o. Acceptable o notes digest) accepted (λ o v. what_is_accepted_is_acceptable o notes digest v) p.0 p.1 s.0 (accepted_only _ s.1)

  pub what_is_acceptable_the_call_accepts : Looked l block notes digest (λ o. Acceptable o notes digest) → checking l block notes digest ≡ Ok tt
  what_is_acceptable_the_call_accepts = judged_as (λ o. Acceptable o notes digest) accepted (λ o a. what_is_acceptable_is_accepted o notes digest a)

  -- Of every other such digest it tells the first line that cannot be continued to an acceptable one, whatever may follow; and no other.
  pub the_line_that_the_call_tells_is_named : (n : ℕ) → checking l block notes digest ≡ Err (Line n) → Looked l block notes digest (λ o. Named (Acceptable o notes) digest n)
  unfolding checking
  the_line_that_the_call_tells_is_named n e =
      let then = digest_within l.bytes (length digest) (verdict_under block notes digest (read_block block)) in
      let p = then_done then (finding l block notes) e (λ q z. cc) in
      let s = judged_short (verdict_under block notes digest (read_block block)) (sym (done_then then p.1) ∙ e) (λ z. omega (arith, z)) in
      looked (λ o. Named (Acceptable o notes) digest n) (at n) (λ o v. the_line_told_is_the_line_named o notes digest n v) p.0 p.1 s.0 (line_only _ n s.1)

  pub the_line_that_is_named_the_call_tells : (n : ℕ) → Looked l block notes digest (λ o. Named (Acceptable o notes) digest n) → checking l block notes digest ≡ Err (Line n)
  the_line_that_is_named_the_call_tells n = judged_as (λ o. Named (Acceptable o notes) digest n) (at n) (λ o a. the_line_named_is_the_line_told o notes digest n a)

  -- 1 to 4 (or 12) come first: notes that measuring refuses are refused as by measuring, whatever the digest.
  pub refused_notes_are_refused_as_by_measuring : (r : Refusal) → finding l block notes ≡ stopped r → (checking l block notes digest ≡ Err (Refused r)) × (measuring l block notes ≡ refused r)
  unfolding checking
  refused_notes_are_refused_as_by_measuring r e =
      (ap (after_notes (digest_within l.bytes (length digest) (verdict_under block notes digest (read_block block)))) e, what_is_refused_is_measured_so l block notes r e)

  -- 9 comes next: for other notes, whatever the digest holds.
  pub a_longer_digest_is_refused : {bytes : List ℕ} → finding l block notes ≡ found bytes → l.bytes < length digest → checking l block notes digest ≡ Err LongDigest
  unfolding checking
  a_longer_digest_is_refused p h = done_then _ p ∙ rw (lt-ltb l.bytes (length digest) h)

-- The answers, case by case: what each refusal and what was sent leave after.
use Rattle.walk.specs.Cited.Course.{Admitted}
use Rattle.std.proofs.Common.{Option, Some, None, Ok, Err, Result}
use mathlib.Core.Path.{◌≡◌, refl, sym, ap, subst, ◌∙◌}
use mathlib.Core.Bool.{Bool, true, false, false≢true}
use mathlib.Core.List.{List}
use Prim.Native.Nat.{ℕ, ◌^◌, ◌≤◌, ◌<◌, max, min}
use native.Mathlib.Omega.{arith}
use lib.Dec.{leb, ltb}
use lib.ListN.{length, replicate}
use borrow.Author.Tests.{lt-ltb, le-ltb, le-leb, lt-leb, leb-true, leb-false}
use Rattle.options.specs.Opts.{Opts, meant}
use Rattle.options.specs.OptionBlock.{read_block}
use Rattle.options.specs.declared.Options.{Options}
use Rattle.options.specs.declared.Fault.{Fault}
use Rattle.lines.specs.Cited.Places.{most_large}
use Rattle.pieces.specs.Pieces.{pieces}
use Rattle.output.proofs.Sink.{written_fits, wrote_length}
use Rattle.paragraphs.specs.Cited.Steps.{room_for}
use Rattle.walk.specs.Digest.{most_words, long_paragraph}
use Rattle.walk.specs.Work.{work_for}
use Rattle.walk.proofs.Loop.{all_long}
use Rattle.walk.proofs.Lent.{enough}
use Rattle.walk.proofs.Unique.{nowhere_else}
use Rattle.lists.specs.Coded.{numbered, result_coded}
use Rattle.formatter.specs.Answers.{Answer, done, refused, room, refusal_coded, output_after}
use Rattle.formatter.specs.Format.{Limits, own_room, Finding, stopped, damage_in, within, with_work, with_text, with_notes, with_block, answering, most_told, measuring}
use Rattle.formatter.specs.Work.{lending}
use Rattle.formatter.specs.Cited.Call.{told, unwritten_coded, Refuses, Admits}
use Rattle.formatter.specs.declared.Unwritten.{Unwritten}
use Rattle.formatter.specs.declared.Refusal.{Refusal}
use Rattle.formatter.specs.declared.Refusal.TheVariants.{Options as Faulty, Long, Text as Damaged, Words as Many, Work}
use Rattle.walk.specs.declared.Stopped.{Stopped}
use Rattle.walk.specs.declared.notes.Notes.{Notes}
use Rattle.formatter.proofs.Unique.{same_refusal, later}
use Rattle.formatter.proofs.Replies.{passed_of, refusal_measured}
use Rattle.formatter.proofs.Values.{Sound, measured_fits}
use Rattle.formatter.proofs.Work.{lending_sound}
use Rattle.flow.specs.Flow.{mailed, flowed, dashes_in}
use Rattle.flow.specs.Answers.{unfit, sent_in, sent_notes, sent_block, flow, counted_by, dashes_of}
use Rattle.flow.specs.Cited.Sending.{refused_as, refused_for, switched, Ready, Finished, Sends, left_of, if_done, left_dashes}
use Rattle.flow.specs.declared.Sent.{Sent}
use Rattle.formatter.specs.declared.Unwritten.TheVariants.{Refused as Declined, Room}

-- ---- from what the pieces came to

module _ (room_is : ℕ) (full : room_is ≡ most_words) (o : Opts) (notes out out' : List ℕ) (r : Result Sent Stopped) (f : Finished room_is o notes out out' r) (short : length notes ≤ most_large) where
  all_of : {s : Sent} → r ≡ Ok s → Finished most_words o notes out out' (Ok s)
  all_of e = rw (full, e) at f

  stopped_of : {s : Stopped} → r ≡ Err s → Finished most_words o notes out out' (Err s)
  stopped_of e = rw (full, e) at f

  -- too many words: all zero
  pub words_answer : {stopped : Stopped} {clear : List ℕ} → r ≡ Err stopped → clear ≡ replicate (length out') 0
      → Sends (left_of own_room o notes (length out)) (left_dashes own_room o notes (length out)) out (Err (Declined (Many stopped.at))) clear
  unfolding output_after numbered
  words_answer e z =
      let s = stopped_of e in
      rw s.0 (record { is = refl; output = z ∙ ap (λ (n : ℕ). replicate n 0) s.1; counts = refl; small = omega (arith, s.2, short) })

  -- all of it fits
  pub done_answer : {s : Sent} → r ≡ Ok s → s.written ≤ length out' → Sends (left_of own_room o notes (length out)) (left_dashes own_room o notes (length out)) out (Ok s) out'
  unfolding output_after numbered
  done_answer {s} e h =
      let w = all_of e in
      let l = wrote_length w.1 in
      let c : s.written ≡ length (flowed o notes) = omega (arith, w.1.count) in
      let fits : length (flowed o notes) ≤ length out = omega arith in
      rw (w.0, le-leb (length (flowed o notes)) (length out) fits)
      (record { is = ap Ok c; output = w.1.bytes ∙ written_fits 0 out (flowed o notes) (omega arith); counts = w.2; small = omega (arith, w.3, short) })

  -- it does not: all zero
  pub room_answer : {s : Sent} {clear : List ℕ} → r ≡ Ok s → length out' < s.written → clear ≡ replicate (length out') 0
      → Sends (left_of own_room o notes (length out)) (left_dashes own_room o notes (length out)) out (Err (Room s.written)) clear
  unfolding output_after numbered
  room_answer {s} e h z =
      let w = all_of e in
      let l = wrote_length w.1 in
      let c : s.written ≡ length (flowed o notes) = omega (arith, w.1.count) in
      let over : length out < length (flowed o notes) = omega arith in
      rw (w.0, lt-leb (length (flowed o notes)) (length out) over)
      (record { is = ap (λ (n : ℕ). Err (Room n)) c; output = z ∙ ap (λ (m : ℕ). replicate m 0) l; counts = refl; small = omega (arith, w.3, short) })

-- ---- what is told before

-- what becomes of what is to be sent
abbrev sending : Limits → Opts → List ℕ → ℕ → List ℕ → Answer
sending l o notes space d = sent_in l.words space (flowed o notes)

module _ (l : Limits) (sound : Sound l) (block notes : List ℕ) where
  -- an answer that counts no line `--`, and leaves the output as it is
  abbrev Told : ℕ → Answer → Type 0
  Told space a = (flow l block notes space ≡ a) × (dashes_of l block notes space ≡ 0)

  told_sends : (out : List ℕ) (a : Answer) (r : Unwritten) → Told (length out) a → Err r ≡ told a → output_after a out ≡ out → numbered (unwritten_coded r) < 2 ^ 64
      → Sends (flow l block notes (length out)) (dashes_of l block notes (length out)) out (Err r) out
  told_sends out a r t e u n = rw (t.0, t.1) (record { is = e; output = sym u; counts = refl; small = n })

  -- a block that the writer does not take
  unfit_told : (space : ℕ) → refused_for block ≡ true → Told space (refused (Faulty (length block)))
  unfolding flow dashes_of refused_for
  unfit_told space h = go (read_block block) h
    where
      go : (b : Result Options Fault) → refused_as block b ≡ true → (sent_block l space block notes b ≡ refused (Faulty (length block))) × (counted_by (sent_block l space block notes b) block notes b ≡ 0)
      go (Err fault) e = absurd (false≢true e)
      go (Ok o) e = pick (unfit block) e
        where
          pick : (t : Bool) → t ≡ true
              → (elim t as (λ x. Answer) [ true ↦ refused (Faulty (length block)) | false ↦ sent_notes l space (mailed (meant block o)) notes ] ≡ refused (Faulty (length block)))
              × (counted_by (elim t as (λ x. Answer) [ true ↦ refused (Faulty (length block)) | false ↦ sent_notes l space (mailed (meant block o)) notes ]) block notes (Ok o) ≡ 0)
          pick true k = (refl, refl)
          pick false k = absurd (false≢true k)

  pub unfit_answer : (out : List ℕ) → refused_for block ≡ true → length block < 2 ^ 63
      → Sends (flow l block notes (length out)) (dashes_of l block notes (length out)) out (Err (Declined (Faulty (length block)))) out
  unfolding output_after numbered
  unfit_answer out h n = told_sends out (refused (Faulty (length block))) (Declined (Faulty (length block))) (unfit_told (length out) h) refl refl (omega (arith, n))

  -- what is said of a finding that is refused
  abbrev Refused_so : ℕ → Refusal → Options → Finding → Type 0
  Refused_so space r o f =
      (answering (sending l (mailed (meant block o)) notes space) f ≡ refused r) × (counted_by (answering (sending l (mailed (meant block o)) notes space) f) block notes (Ok o) ≡ 0)

  -- refusals of the writing call: they do not depend on what would become of the digest
  module _ (fit : refused_for block ≡ false) where
    refused_told : (space : ℕ) (r : Refusal) → with_block l block notes (read_block block) ≡ stopped r → (refusal_coded r).code ≤ 3 → Told space (refused r)
    unfolding flow dashes_of mailed refused_for meant
    refused_told space r whole early = go (read_block block) fit whole
      where
        damaged : (o : Options) (f : Option ℕ) → with_text l.words (meant block o) notes f ≡ stopped r → Refused_so space r o (with_text l.words (mailed (meant block o)) notes f)
        damaged o (Some place) w = (ap refused (same_refusal w), refl)
        damaged o None w = absurd (let k = later l.words (meant block o) notes w in omega (arith, k, early))

        size : (o : Options) (t : Bool) → elim t as (λ x. Finding) [ true ↦ stopped Long | false ↦ with_text l.words (meant block o) notes (damage_in o.keep notes) ] ≡ stopped r
            → Refused_so space r o (elim t as (λ x. Finding) [ true ↦ stopped Long | false ↦ with_text l.words (mailed (meant block o)) notes (damage_in o.keep notes) ])
        size o true w = (ap refused (same_refusal w), refl)
        size o false w = damaged o (damage_in o.keep notes) w

        go : (b : Result Options Fault) → refused_as block b ≡ false → with_block l block notes b ≡ stopped r → (sent_block l space block notes b ≡ refused r) × (counted_by (sent_block l space block notes b) block notes b ≡ 0)
        go (Err fault) e w = (ap refused (same_refusal w), refl)
        go (Ok o) e w = pick (unfit block) e (size o (ltb l.bytes (length notes)) w)
          where
            pick : (t : Bool) → t ≡ false → (sent_notes l space (mailed (meant block o)) notes ≡ refused r) × (counted_by (sent_notes l space (mailed (meant block o)) notes) block notes (Ok o) ≡ 0)
                → (elim t as (λ x. Answer) [ true ↦ refused (Faulty (length block)) | false ↦ sent_notes l space (mailed (meant block o)) notes ] ≡ refused r)
                × (counted_by (elim t as (λ x. Answer) [ true ↦ refused (Faulty (length block)) | false ↦ sent_notes l space (mailed (meant block o)) notes ]) block notes (Ok o) ≡ 0)
            pick true k s = absurd (false≢true (sym k))
            pick false k s = s

    pub refused_answer : {r : Result Notes Refusal} {q : Refusal} (out : List ℕ) → Admits l block notes r → r ≡ Err q → Sends (flow l block notes (length out)) (dashes_of l block notes (length out)) out (Err (Declined q)) out
    unfolding output_after
    refused_answer {r} {q} out s e =
        let f : Refuses 3 (with_block l block notes (read_block block)) q = rw e at s in
        let n : Err (Declined q) ≡ told (measuring l block notes) = refusal_measured l block notes f in
        told_sends out (refused q) (Declined q) (refused_told (length out) q f.whole_is f.early) refl (f.untouched out)
        (subst (λ (a : Result ℕ Unwritten). numbered (result_coded unwritten_coded a) < 2 ^ 64) (sym n) (measured_fits l sound block notes))

    -- and where none is due, what becomes of the pieces
    module _ {r : Result Notes Refusal} {n : Notes} (s : Admits l block notes r) (e : r ≡ Ok n) where
      abbrev o : Options
      o = n.options

      passed : Admits l block notes (Ok n)
      passed = passed_of l block notes r s e

      admitted : Admitted block notes n.options
      admitted = rw (passed.0.0, passed.0.1) at n.admitted

      pub passed_ready : Ready block notes (switched n.options)
      passed_ready = record { read = n.options; admitted = admitted; is = refl }

      undamaged : damage_in o.keep notes ≡ None
      unfolding meant
      undamaged = go (damage_in o.keep notes) refl
        where
          go : (f : Option ℕ) → damage_in o.keep notes ≡ f → f ≡ None
          go None d = refl
          go (Some place) d =
              let w : with_block l block notes (read_block block) ≡ stopped (Damaged place) = rw (admitted.accepted, with_notes, le-ltb l.bytes (length notes) passed.2, d) in
              absurd (let k = later l.words (meant block o) notes (sym passed.1 ∙ w) in omega (arith, k))

      flow_left : (space : ℕ) → flow l block notes space ≡ left_of l (meant block (switched o)) notes space
      unfolding flow mailed meant refused_for
      flow_left space =
          ap (sent_block l space block notes) admitted.accepted
          ∙ ap (λ (t : Bool). elim t as (λ x. Answer) [ true ↦ refused (Faulty (length block)) | false ↦ sent_notes l space m notes ]) fits
          ∙ ap (λ (t : Bool). answering (sending l m notes space) (elim t as (λ x. Finding) [ true ↦ stopped Long | false ↦ with_text l.words m notes (damage_in o.keep notes) ])) (le-ltb l.bytes (length notes) passed.2)
          ∙ ap (λ (f : Option ℕ). answering (sending l m notes space) (with_text l.words m notes f)) undamaged
        where
          m : Opts
          m = mailed (meant block o)

          fits : unfit block ≡ false
          fits = rw admitted.accepted at fit

      dashes_left : (space : ℕ) → dashes_of l block notes space ≡ left_dashes l (meant block (switched o)) notes space
      unfolding dashes_of mailed meant
      dashes_left space = rw (flow_left space, admitted.accepted) (go (left_of l (meant block (switched o)) notes space))
        where
          go : (a : Answer) → counted_by a block notes (Ok o) ≡ if_done a (dashes_in (meant block (switched o)) (pieces (meant block (switched o)) notes))
          go (done bytes) = refl
          go (refused r) = refl
          go (room needed) = refl

      pub passed_answer : (out out' : List ℕ) {q : Result Sent Unwritten} → Sends (left_of l (meant block (switched o)) notes (length out)) (left_dashes l (meant block (switched o)) notes (length out)) out q out'
          → Sends (flow l block notes (length out)) (dashes_of l block notes (length out)) out q out'
      passed_answer out out' a = rw (flow_left (length out), dashes_left (length out)) a

-- ---- where working room is lent

module _ (lends : ℕ) (o : Opts) (notes out : List ℕ) where
  -- code 12 is due exactly where less is lent than is needed
  pub work_answer : (needed : ℕ) → length notes ≤ most_large → needed ≡ max lends (work_for o notes) → lends < needed
      → Sends (left_of (lending lends) o notes (length out)) (left_dashes (lending lends) o notes (length out)) out (Err (Declined (Work needed))) out
  unfolding output_after numbered
  work_answer needed short e h =
      let n : needed ≡ work_for o notes = omega arith in
      let m = (lending_sound lends).modest o notes short in
      rw (within, with_work, lt-ltb lends (work_for o notes) (omega (arith, n))) (record { is = ap (λ (k : ℕ). Err (Declined (Work k))) n; output = refl; counts = refl; small = omega (arith, n, m) })

  module _ {room_is : ℕ} (quick : o.quick ≡ true) (is : room_is ≡ room_for true lends) (fits : work_for o notes ≤ lends) (out' : List ℕ) (r : Result Sent Stopped) (f : Finished room_is o notes out out' r) (short : length notes ≤ most_large) where
    -- the work does not stop
    pub never_stopped : {A : Type 0} {stopped : Stopped} → r ≡ Err stopped → A
    never_stopped {A} {stopped} e =
        let g : Finished room_is o notes out out' (Err stopped) = rw e at f in
        let k : long_paragraph (room_for true lends) o 0 (pieces o notes) ≡ Some stopped.at = rw is at g.0 in
        let n : long_paragraph (room_for true lends) o 0 (pieces o notes) ≡ None =
        ap (λ (q : Bool). long_paragraph (room_for q lends) o 0 (pieces o notes)) (sym quick) ∙ (sym (all_long (room_for o.quick lends) o notes) ∙ enough o lends notes fits) in
        nowhere_else n k

    all_sent : {s : Sent} → r ≡ Ok s → Finished room_is o notes out out' (Ok s)
    all_sent e = rw e at f

    pub untold_answer : {s : Sent} {clear : List ℕ} → r ≡ Ok s → most_told < s.written → clear ≡ replicate (length out') 0
        → Sends (sent_in (lending lends).words (length out) (flowed o notes)) (if_done (sent_in (lending lends).words (length out) (flowed o notes)) (dashes_in o (pieces o notes))) out (Err (Room most_told)) clear
    unfolding output_after numbered
    untold_answer {s} e h z =
        let w = all_sent e in
        let c : s.written ≡ length (flowed o notes) = omega (arith, w.1.count) in
        rw (lt-leb (length (flowed o notes)) most_told (omega (arith, c))) (record { is = refl; output = z ∙ ap (λ (m : ℕ). replicate m 0) (wrote_length w.1); counts = refl; small = omega arith })

    pub done_sent : {s : Sent} → r ≡ Ok s → s.written ≤ most_told → s.written ≤ length out'
        → Sends (sent_in (lending lends).words (length out) (flowed o notes)) (if_done (sent_in (lending lends).words (length out) (flowed o notes)) (dashes_in o (pieces o notes))) out (Ok s) out'
    unfolding output_after numbered
    done_sent {s} e h b =
        let w = all_sent e in
        let l = wrote_length w.1 in
        let c : s.written ≡ length (flowed o notes) = omega (arith, w.1.count) in
        rw (le-leb (length (flowed o notes)) most_told (omega (arith, c)), le-leb (length (flowed o notes)) (length out) (omega (arith, c, l)))
        (record { is = ap Ok c; output = w.1.bytes ∙ written_fits 0 out (flowed o notes) (omega (arith, c, l)); counts = w.2; small = omega (arith, h) })

    pub room_sent : {s : Sent} {clear : List ℕ} → r ≡ Ok s → s.written ≤ most_told → length out' < s.written → clear ≡ replicate (length out') 0
        → Sends (sent_in (lending lends).words (length out) (flowed o notes)) (if_done (sent_in (lending lends).words (length out) (flowed o notes)) (dashes_in o (pieces o notes))) out (Err (Room s.written)) clear
    unfolding output_after numbered
    room_sent {s} e h b z =
        let w = all_sent e in
        let l = wrote_length w.1 in
        let c : s.written ≡ length (flowed o notes) = omega (arith, w.1.count) in
        rw (le-leb (length (flowed o notes)) most_told (omega (arith, c)), lt-leb (length (flowed o notes)) (length out) (omega (arith, c, l)))
        (record { is = ap (λ (n : ℕ). Err (Room n)) c; output = z ∙ ap (λ (m : ℕ). replicate m 0) l; counts = refl; small = omega (arith, h) })

    -- what is told where it does not fit: as many bytes as are needed, or the most that can be told
    pub short_sent : {s : Sent} {clear : List ℕ} {n : ℕ} → r ≡ Ok s → min (length out') most_told < s.written → n ≡ min s.written most_told → clear ≡ replicate (length out') 0
        → Sends (sent_in (lending lends).words (length out) (flowed o notes)) (if_done (sent_in (lending lends).words (length out) (flowed o notes)) (dashes_in o (pieces o notes))) out (Err (Room n)) clear
    short_sent {s} {clear} {n} e h m z = pick (leb s.written most_told) refl
      where
        pick : (t : Bool) → leb s.written most_told ≡ t
            → Sends (sent_in (lending lends).words (length out) (flowed o notes)) (if_done (sent_in (lending lends).words (length out) (flowed o notes)) (dashes_in o (pieces o notes))) out (Err (Room n)) clear
        pick true q =
            let k = leb-true s.written most_told q in
            let a : n ≡ s.written = omega arith in
            rw a (room_sent e k (omega arith) z)
        pick false q =
            let k = leb-false s.written most_told q in
            let a : n ≡ most_told = omega arith in
            rw a (untold_answer e (omega arith) z)

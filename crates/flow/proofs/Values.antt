-- What the writer's answer tells has no more than 32 bits, so code and value can be read back from its number.
use Rattle.std.proofs.Common.{Ok, Err, Result}
use mathlib.Core.Path.{◌≡◌, refl, sym, ap, ◌∙◌}
use mathlib.Core.Bool.{Bool, true, false, cond, ◌||◌}
use mathlib.Core.List.{List}
use Prim.Native.Nat.{ℕ, ◌/◌, ◌%◌, ◌^◌, ◌≤◌, ◌<◌}
use native.Mathlib.Omega.{arith}
use lib.Dec.{leb}
use lib.ListN.{length}
use borrow.Author.Tests.{leb-true}
use Rattle.options.specs.Opts.{Opts, meant}
use Rattle.options.specs.OptionBlock.{read_block}
use Rattle.options.specs.declared.Options.{Options}
use Rattle.options.specs.declared.Fault.{Fault}
use Rattle.options.proofs.Accepted.{accepted}
use Rattle.pieces.specs.Pieces.{pieces}
use Rattle.walk.specs.Digest.{most_words}
use Rattle.lists.specs.Coded.{numbered}
use Rattle.formatter.specs.Answers.{Answer, done, refused, room, answer_coded}
use Rattle.formatter.specs.Format.{Words, up_to, lent, Limits, Finding, found, stopped, with_notes, answering, most_told}
use Rattle.formatter.specs.declared.Refusal.TheVariants.{Options as Faulty, Work}
use Rattle.formatter.specs.Work.{lending}
use Rattle.walk.specs.Work.{work_for}
use Rattle.formatter.proofs.Work.{asked_notes}
use Rattle.formatter.proofs.Answers.{Enough}
use Rattle.formatter.proofs.Faults.{fault_small, accepted_small}
use Rattle.formatter.proofs.Values.{Modest, Sound, long_fewer, notes_value, reads_back}
use Rattle.flow.specs.Flow.{mailed, flowed}
use Rattle.flow.specs.Answers.{unfit, sent_in, sent_notes, sent_block, flow}
use Rattle.flow.proofs.Bound.{flowed_most}

module _ (l : Limits) (sound : Sound l) (block notes : List ℕ) (space : ℕ) where
  room_value : (t : List ℕ) (b : Bool) → length t ≤ most_told → (answer_coded (cond b (done t) (room (length t)))).value ≤ most_told
  room_value t true h = h
  room_value t false h = h

  told_value : (t : List ℕ) (b : Bool) → leb (length t) most_told ≡ b → (answer_coded (cond b (cond (leb (length t) space) (done t) (room (length t))) (room most_told))).value ≤ most_told
  told_value t true e = room_value t (leb (length t) space) (leb-true (length t) most_told e)
  told_value t false e = omega arith

  sent_value : (o : Opts) → 1 ≤ o.tab → o.tab ≤ 100 → (o.split ≡ true → (o.crown || o.tagged) ≡ false) → length notes ≤ l.bytes
      → (w : Words) → Modest w l.bytes → Enough w o notes → (answer_coded (sent_in w space (flowed o notes))).value ≤ most_told
  sent_value o least most cleared short (up_to more) m e =
      let f = flowed_most o notes least most (omega (arith, short, sound.short)) cleared (long_fewer more most_words o 0 (pieces o notes) m e) in
      room_value (flowed o notes) (leb (length (flowed o notes)) space) (omega (arith, f, short, sound.short))
  sent_value o least most cleared short (lent lends need) m e = told_value (flowed o notes) (leb (length (flowed o notes)) most_told) refl

  pub flow_value : (answer_coded (flow l block notes space)).value ≤ most_told
  unfolding flow mailed meant
  flow_value = go (read_block block) refl
    where
      fit : (o : Options) → read_block block ≡ Ok o → (b : Bool) → (answer_coded (elim b as (λ t. Answer) [ true ↦ refused (Faulty (length block)) | false ↦ sent_notes l space (mailed (meant block o)) notes ])).value ≤ most_told
      fit o e true = omega (arith, accepted_small block o e)
      fit o e false =
          let k = accepted block o e in
          notes_value l sound (mailed (meant block o)) notes (λ d. sent_in l.words space (flowed (mailed (meant block o)) notes))
          (λ short enough. sent_value (mailed (meant block o)) k.tab_least k.tab_most k.split_clears short l.words sound.modest enough)

      go : (b : Result Options Fault) → read_block block ≡ b → (answer_coded (sent_block l space block notes b)).value ≤ most_told
      go (Err fault) e = omega (arith, fault_small block fault.at e)
      go (Ok o) e = fit o e (unfit block)

-- Code and value can be read back from the number, whatever the limits, the block, the notes and the room.
pub flow_tells_code_and_value : (l : Limits) → Sound l → (block notes : List ℕ) (space : ℕ)
    → (numbered (answer_coded (flow l block notes space)) / 2 ^ 32 ≡ (answer_coded (flow l block notes space)).code) × (numbered (answer_coded (flow l block notes space)) % 2 ^ 32 ≡ (answer_coded (flow l block notes space)).value)
flow_tells_code_and_value l sound block notes space = reads_back (answer_coded (flow l block notes space)) (flow_value l sound block notes space)

-- ---- where working room is lent

-- What is sent asks for none, so the writer too is refused so exactly when less is lent than is needed: 7 numbers for each word of the longest
-- paragraph. With the room that was told it is not refused so again.
asked_sent : (lends space : ℕ) (o : Opts) (notes : List ℕ) (n : ℕ) → sent_notes (lending lends) space o notes ≡ refused (Work n) → (n ≡ work_for o notes) × (lends < n)
asked_sent lends space o notes n e = asked_notes work_for notes lends o n (go (with_notes (lending lends) o notes) e)
  where
    never : (a b : Bool) → cond a (cond b (done (flowed o notes)) (room (length (flowed o notes)))) (room most_told) ≡ refused (Work n) → ⊥
    never true true k = let z : ◌≡◌ {A = ℕ} 0 1 = cc in omega arith
    never true false k = let z : ◌≡◌ {A = ℕ} 0 1 = cc in omega arith
    never false b k = let z : ◌≡◌ {A = ℕ} 0 1 = cc in omega arith

    go : (f : Finding) → answering (λ d. sent_in (lending lends).words space (flowed o notes)) f ≡ refused (Work n) → f ≡ stopped (Work n)
    go (found d) k = absurd (never (leb (length (flowed o notes)) most_told) (leb (length (flowed o notes)) space) k)
    go (stopped r) k = let q : r ≡ Work n = cc in ap stopped q

module _ (block notes : List ℕ) where
  asked_block : (lends space : ℕ) (b : Result Options Fault) (n : ℕ) → sent_block (lending lends) space block notes b ≡ refused (Work n) → (needed : ℕ) (more other : ℕ) → sent_block (lending more) other block notes b ≡ refused (Work needed) → (n ≡ needed) × (more < needed)
  asked_block lends space (Err fault) n e needed more other f = absurd (let z : ◌≡◌ {A = ℕ} 0 1 = cc in omega arith)
  asked_block lends space (Ok o) n e needed more other f = go (unfit block) e f
    where
      m : Opts
      m = mailed (meant block o)

      go : (b : Bool) → elim b as (λ t. Answer) [ true ↦ refused (Faulty (length block)) | false ↦ sent_notes (lending lends) space m notes ] ≡ refused (Work n)
          → elim b as (λ t. Answer) [ true ↦ refused (Faulty (length block)) | false ↦ sent_notes (lending more) other m notes ] ≡ refused (Work needed) → (n ≡ needed) × (more < needed)
      go true j k = absurd (let z : ◌≡◌ {A = ℕ} 0 1 = cc in omega arith)
      go false j k =
          let a = asked_sent lends space m notes n j in
          let b = asked_sent more other m notes needed k in
          (a.0 ∙ sym b.0, b.1)

  pub the_room_asked_for_suffices_to_send : (lends space needed more other : ℕ) → flow (lending lends) block notes space ≡ refused (Work needed) → needed ≤ more → (n : ℕ) → flow (lending more) block notes other ≡ refused (Work n) → ⊥
  unfolding flow
  the_room_asked_for_suffices_to_send lends space needed more other e h n f = let a = asked_block lends space (read_block block) needed e n more other f in omega (arith, a.0, a.1, h)

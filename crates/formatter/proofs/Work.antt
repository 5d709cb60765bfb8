-- Lent working room: N of code 12 can be told; a call is refused so exactly when less is lent than is needed; and with the room that was told
-- it is not refused so again.
use Rattle.std.proofs.Common.{Option, Some, None, Result, Ok, Err}
use mathlib.Core.Path.{◌≡◌, refl, sym, ap}
use mathlib.Core.Bool.{Bool, true, false, cond}
use mathlib.Core.List.{List}
use Prim.Native.Nat.{ℕ, ◌+◌, ◌*◌, ◌≤◌, ◌<◌}
use native.Mathlib.Omega.{arith}
use lib.Dec.{leb, ltb}
use lib.ListN.{length}
use borrow.Author.Tests.{ltb-true}
use Rattle.options.specs.Opts.{Opts, meant}
use Rattle.options.specs.OptionBlock.{read_block}
use Rattle.options.specs.declared.Fault.{Fault}
use Rattle.options.specs.declared.Options.{Options}
use Rattle.walk.specs.Digest.{digest}
use Rattle.walk.specs.Work.{work_for}
use Rattle.walk.proofs.Work.{work_most}
use Rattle.formatter.specs.Answers.{Answer, done, refused, room}
use Rattle.formatter.specs.declared.Refusal.TheVariants.{Options as Faulty, Long, Work}
use Rattle.formatter.specs.Format.{lent, Limits, Finding, found, stopped, with_text, damage_in, with_notes, finding, answering, most_told, is_told, measured, measuring, in_room, writing}
use Rattle.formatter.specs.Work.{most_lent, lending}
use Rattle.formatter.proofs.Values.{Sound}

-- N can be told.
pub lending_sound : (lends : ℕ) → Sound (lending lends)
lending_sound lends = record { short = omega arith; modest = λ o notes h. let w = work_most o notes in omega (arith, w, h) }

-- room is lent for notes and options that need so much
abbrev pub lent_for : (Opts → List ℕ → ℕ) → ℕ → Limits
lent_for need lends = record { bytes = most_lent; words = lent lends need }

-- A call is refused for working room exactly when less is lent than is needed, and N is what is needed ..
module _ (need : Opts → List ℕ → ℕ) (notes : List ℕ) (lends : ℕ) (o : Opts) where
  work_asked : (b : Bool) (n : ℕ) → ltb lends (need o notes) ≡ b → elim b as (λ t. Finding) [ true ↦ stopped (Work (need o notes)) | false ↦ found (digest o notes) ] ≡ stopped (Work n)
      → (n ≡ need o notes) × (lends < n)
  work_asked true n t e = let z : need o notes ≡ n = cc in (sym z, rw (← z) (ltb-true lends (need o notes) t))
  work_asked false n t e = absurd (let z : ◌≡◌ {A = ℕ} 0 1 = cc in omega arith)

  asked_text : (f : Option ℕ) (n : ℕ) → with_text (lent lends need) o notes f ≡ stopped (Work n) → (n ≡ need o notes) × (lends < n)
  asked_text (Some place) n e = absurd (let z : ◌≡◌ {A = ℕ} 0 1 = cc in omega arith)
  asked_text None n e = work_asked (ltb lends (need o notes)) n refl e

  pub asked_notes : (n : ℕ) → with_notes (lent_for need lends) o notes ≡ stopped (Work n) → (n ≡ need o notes) × (lends < n)
  asked_notes n e = go (ltb most_lent (length notes)) e
    where
      go : (b : Bool) → elim b as (λ t. Finding) [ true ↦ stopped Long | false ↦ with_text (lent lends need) o notes (damage_in o.keep notes) ] ≡ stopped (Work n) → (n ≡ need o notes) × (lends < n)
      go true k = absurd (let z : ◌≡◌ {A = ℕ} 0 1 = cc in omega arith)
      go false k = asked_text (damage_in o.keep notes) n k

module _ (block notes : List ℕ) where
  module _ (need : Opts → List ℕ → ℕ) where
    pub asked_is_needed : (lends needed : ℕ) (o : Options) → read_block block ≡ Ok o → finding (lent_for need lends) block notes ≡ stopped (Work needed) → (needed ≡ need (meant block o) notes) × (lends < needed)
    unfolding finding
    asked_is_needed lends needed o b e = asked_notes need notes lends (meant block o) needed (rw b at e)

    -- .. so a host that lends N is not refused so again ..
    pub asked_suffices : (lends needed more : ℕ) → finding (lent_for need lends) block notes ≡ stopped (Work needed) → needed ≤ more → (n : ℕ) → finding (lent_for need more) block notes ≡ stopped (Work n) → ⊥
    unfolding finding
    asked_suffices lends needed more e h n f = go (read_block block) refl
      where
        go : (b : Result Options Fault) → read_block block ≡ b → ⊥
        go (Err fault) q = let z : stopped (Faulty fault.at) ≡ stopped (Work needed) = rw q at e in let c : ◌≡◌ {A = ℕ} 0 1 = cc in omega arith
        go (Ok o) q =
            let a = asked_is_needed lends needed o q e in
            let b = asked_is_needed more n o q f in
            omega (arith, a.0, b.0, b.1, h)

  pub the_room_asked_for_is_the_room_needed : (lends needed : ℕ) (o : Options) → read_block block ≡ Ok o → finding (lending lends) block notes ≡ stopped (Work needed)
      → (needed ≡ work_for (meant block o) notes) × (lends < needed)
  the_room_asked_for_is_the_room_needed = asked_is_needed work_for

  pub the_room_asked_for_suffices : (lends needed more : ℕ) → finding (lending lends) block notes ≡ stopped (Work needed) → needed ≤ more → (n : ℕ) → finding (lending more) block notes ≡ stopped (Work n) → ⊥
  the_room_asked_for_suffices = asked_suffices work_for

  -- .. and N is never more than 8 numbers for each byte of the notes and one.
  pub no_more_is_asked_for : (lends needed : ℕ) → finding (lending lends) block notes ≡ stopped (Work needed) → needed ≤ 8 * (length notes + 1)
  unfolding finding
  no_more_is_asked_for lends needed e = go (read_block block) refl
    where
      go : (b : Result Options Fault) → read_block block ≡ b → needed ≤ 8 * (length notes + 1)
      go (Err fault) q = absurd (let z : stopped (Faulty fault.at) ≡ stopped (Work needed) = rw q at e in let c : ◌≡◌ {A = ℕ} 0 1 = cc in omega arith)
      go (Ok o) q = let a = the_room_asked_for_is_the_room_needed lends needed o q e in let m = work_most (meant block o) notes in omega (arith, a.0, m)

  -- So of measuring and of writing, which ask for room where it is found to lack.
  measured_found : (lends n : ℕ) → measuring (lending lends) block notes ≡ refused (Work n) → finding (lending lends) block notes ≡ stopped (Work n)
  unfolding measuring
  measured_found lends n e = go (finding (lending lends) block notes) e
    where
      told : (d : List ℕ) (b : Bool) → cond b (done d) (room most_told) ≡ refused (Work n) → ⊥
      told d true k = let z : ◌≡◌ {A = ℕ} 0 1 = cc in omega arith
      told d false k = let z : ◌≡◌ {A = ℕ} 0 1 = cc in omega arith

      go : (f : Finding) → answering (measured (lending lends).words) f ≡ refused (Work n) → f ≡ stopped (Work n)
      go (found d) k = absurd (told d (is_told (lending lends).words (length d)) k)
      go (stopped r) k = let z : r ≡ Work n = cc in ap stopped z

  written_measured : (space : ℕ) (a : Answer) (n : ℕ) → in_room space a ≡ refused (Work n) → a ≡ refused (Work n)
  written_measured space (done d) n e = absurd (go (leb (length d) space) e)
    where
      go : (b : Bool) → cond b (done d) (room (length d)) ≡ refused (Work n) → ⊥
      go true k = let z : ◌≡◌ {A = ℕ} 0 1 = cc in omega arith
      go false k = let z : ◌≡◌ {A = ℕ} 0 1 = cc in omega arith
  written_measured space (refused r) n e = e
  written_measured space (room needed) n e = e

  pub the_room_asked_for_suffices_to_measure : (lends needed more : ℕ) → measuring (lending lends) block notes ≡ refused (Work needed) → needed ≤ more → (n : ℕ) → measuring (lending more) block notes ≡ refused (Work n) → ⊥
  the_room_asked_for_suffices_to_measure lends needed more e h n f = the_room_asked_for_suffices lends needed more (measured_found lends needed e) h n (measured_found more n f)

  -- what measuring asks for suffices to write, and the other way round
  pub the_room_asked_for_suffices_to_write : (lends needed more space : ℕ) → measuring (lending lends) block notes ≡ refused (Work needed) → needed ≤ more → (n : ℕ) → writing (lending more) block notes space ≡ refused (Work n) → ⊥
  unfolding writing
  the_room_asked_for_suffices_to_write lends needed more space e h n f =
      the_room_asked_for_suffices_to_measure lends needed more e h n (written_measured space (measuring (lending more) block notes) n f)

  pub writing_asks_for_what_measuring_asks_for : (lends needed space : ℕ) → writing (lending lends) block notes space ≡ refused (Work needed) → measuring (lending lends) block notes ≡ refused (Work needed)
  unfolding writing
  writing_asks_for_what_measuring_asks_for lends needed space e = written_measured space (measuring (lending lends) block notes) needed e

  pub no_more_is_asked_for_to_measure : (lends needed : ℕ) → measuring (lending lends) block notes ≡ refused (Work needed) → needed ≤ 8 * (length notes + 1)
  no_more_is_asked_for_to_measure lends needed e = no_more_is_asked_for lends needed (measured_found lends needed e)

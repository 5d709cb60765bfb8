-- What measuring says that is done has found, and when it says so; and a call that is done.
use Rattle.std.proofs.Common.{Option, Some, None, Ok}
use mathlib.Core.Path.{◌≡◌, refl, ap, ◌∙◌}
use mathlib.Core.Bool.{Bool, true, false, cond}
use mathlib.Core.List.{List}
use Prim.Native.Nat.{ℕ, ◌≤◌}
use native.Mathlib.Omega.{arith}
use lib.Dec.{ltb}
use lib.ListN.{length}
use borrow.Author.Tests.{le-ltb, ltb-false}
use Rattle.options.specs.Opts.{Opts, meant}
use Rattle.options.specs.OptionBlock.{read_block}
use Rattle.options.specs.declared.Options.{Options}
use Rattle.pieces.specs.Pieces.{pieces}
use Rattle.formatter.specs.Answers.{Answer, done, room, answer_coded}
use Rattle.formatter.specs.declared.Refusal.TheVariants.{Long, Work}
use Rattle.walk.specs.Digest.{digest, long_paragraph}
use Rattle.formatter.specs.Format.{Words, up_to, lent, Limits, limited, Finding, found, stopped, with_words, with_work, within, with_text, damage_in, with_notes, finding, answering, answer, most_told, is_told, measured, measuring, writing}
use Rattle.formatter.proofs.Together.{together_they_do_what_the_old_call_did, what_is_found_is_measured, in_room_done}

-- no paragraph has too many words; or so much room is lent as is needed
abbrev pub Enough : Words → Opts → List ℕ → Type 0
Enough (up_to most) o notes = long_paragraph most o 0 (pieces o notes) ≡ None
Enough (lent lends need) o notes = need o notes ≤ lends

-- nothing is refused as damaged, no paragraph is too long, and the bytes are the digest
pub record Done (l : Limits) (o : Opts) (notes bytes : List ℕ) : Type 0 where
  pub sound : damage_in o.keep notes ≡ None
  pub enough : Enough l.words o notes
  pub bytes_are : bytes ≡ digest o notes

module _ (l : Limits) (o : Opts) (notes bytes : List ℕ) where
  notes_done : with_notes l o notes ≡ found bytes → Done l o notes bytes
  notes_done e = size (ltb l.bytes (length notes)) e
    where
      count : (f : Option ℕ) → with_words o notes f ≡ found bytes → (f ≡ None) × (bytes ≡ digest o notes)
      count (Some place) h = (cc, cc)
      count None h = (refl, cc)

      lends : (b : Bool) (needed : ℕ) → elim b as (λ t. Finding) [ true ↦ stopped (Work needed) | false ↦ found (digest o notes) ] ≡ found bytes → (b ≡ false) × (bytes ≡ digest o notes)
      lends true needed h = (cc, cc)
      lends false needed h = (refl, cc)

      enough : (w : Words) → within w o notes ≡ found bytes → Enough w o notes × (bytes ≡ digest o notes)
      enough (up_to most) h = count (long_paragraph most o 0 (pieces o notes)) h
      enough (lent n need) h = let k = lends (ltb n (need o notes)) (need o notes) h in (ltb-false n (need o notes) k.0, k.1)

      damaged : (f : Option ℕ) → damage_in o.keep notes ≡ f → with_text l.words o notes f ≡ found bytes → Done l o notes bytes
      damaged (Some place) d h = absurd (let z : ◌≡◌ {A = ℕ} 0 1 = cc in omega arith)
      damaged None d h = let k = enough l.words h in record { sound = d; enough = k.0; bytes_are = k.1 }

      size : (b : Bool) → elim b as (λ t. Finding) [ true ↦ stopped Long | false ↦ with_text l.words o notes (damage_in o.keep notes) ] ≡ found bytes → Done l o notes bytes
      size true h = absurd (let z : ◌≡◌ {A = ℕ} 0 1 = cc in omega arith)
      size false h = damaged (damage_in o.keep notes) refl h

-- what is told as done is the digest that was found
told_done : (w : Words) (bytes : List ℕ) (f : Finding) → answering (measured w) f ≡ done bytes → f ≡ found bytes
told_done w bytes (found d) h = go (is_told w (length d)) h
  where
    go : (b : Bool) → cond b (done d) (room most_told) ≡ done bytes → found d ≡ found bytes
    go true k = let e : d ≡ bytes = cc in ap found e
    go false k = absurd (let z = ap (λ (a : Answer). (answer_coded a).code) k in omega (arith, z))
told_done w bytes (stopped r) h = absurd (let z : ◌≡◌ {A = ℕ} 0 1 = cc in omega arith)

module _ (l : Limits) (block notes : List ℕ) (o : Options) (bytes : List ℕ) (accepts : read_block block ≡ Ok o) where
  pub found_done : finding l block notes ≡ found bytes → Done l (meant block o) notes bytes
  unfolding finding
  found_done e = notes_done l (meant block o) notes bytes (rw accepts at e)

  pub measured_done : measuring l block notes ≡ done bytes → Done l (meant block o) notes bytes
  unfolding measuring
  measured_done e = found_done (told_done l.words bytes (finding l block notes) e)

  -- notes are found as done if they are within the limits, nothing is refused as damaged, and no paragraph is too long ..
  enough_within : (w : Words) → Enough w (meant block o) notes → within w (meant block o) notes ≡ found (digest (meant block o) notes)
  enough_within (up_to most) h = rw h
  enough_within (lent lends need) h = rw (within, with_work, le-ltb lends (need (meant block o) notes) h)

  pub done_found : length notes ≤ l.bytes → Done l (meant block o) notes bytes → finding l block notes ≡ found bytes
  unfolding finding
  done_found n d = rw (accepts, with_notes, le-ltb l.bytes (length notes) n, d.sound, enough_within l.words d.enough, ← d.bytes_are)

  -- .. and measured so if their length can be told
  pub done_measured : length notes ≤ l.bytes → Done l (meant block o) notes bytes → is_told l.words (length bytes) ≡ true → measuring l block notes ≡ done bytes
  done_measured n d t = what_is_found_is_measured l block notes bytes (done_found n d) ∙ rw t

-- a call that is done has written what was measured, and it fits
pub written_measured : (l : Limits) (block notes : List ℕ) (space : ℕ) (bytes : List ℕ) → writing l block notes space ≡ done bytes → (measuring l block notes ≡ done bytes) × (length bytes ≤ space)
unfolding writing
written_measured l block notes space bytes e = in_room_done space (measuring l block notes) bytes e

pub answer_measured : (bytes most : ℕ) (block notes : List ℕ) (space : ℕ) (digest : List ℕ) → answer (limited bytes most) block notes space ≡ done digest
    → (measuring (limited bytes most) block notes ≡ done digest) × (length digest ≤ space)
answer_measured bytes most block notes space digest e = written_measured (limited bytes most) block notes space digest (together_they_do_what_the_old_call_did bytes most block notes space ∙ e)

-- A paragraph of each kind, from the place that its lines reach.
use Rattle.std.proofs.Common.{Option, Some, None, is_some}
use mathlib.Core.Path.{◌≡◌, refl, sym, ap, ◌∙◌, fun_ext}
use mathlib.Core.Bool.{Bool, true, false, cond, not, ◌&&◌, ◌||◌}
use mathlib.Core.List.{List, []}
use Prim.Native.Nat.{ℕ, ◌+◌, ◌≤◌}
use native.Mathlib.Omega.{arith}
use lib.Dec.{ltb}
use lib.ListN.{length, take, drop}
use Rattle.options.specs.Opts.{Opts, text_of, meant}
use Rattle.options.specs.declared.Part.{Part}
use Rattle.options.specs.declared.Options.{Options}
use Rattle.lines.specs.Lines.{Line, first_line, lines_of}
use Rattle.lines.specs.Cited.Places.{most_large, Usable}
use Rattle.lines.specs.declared.Shape.{Shape}
use Rattle.lines.specs.declared.Class.TheVariants.{Formatted}
use Rattle.lines.proofs.Shapes.{known}
use Rattle.pieces.specs.Pieces.{Second, alone, joins, continues, agrees, not_at_start, follow, follow_second, second_of, further}
use Rattle.pieces.specs.Cited.Places.{taken, margin_at, spaces_at, later_at, later_start, indent_at, start_at, paragraph_with, reach, second_place, second_at, passes_rule, LineIs, Shaped, Joined, joining}
use Rattle.pieces.specs.declared.Classed.{Classed}
use Rattle.pieces.specs.declared.Paragraph.{Paragraph}
use Rattle.pieces.specs.declared.Second.{Second as SecondAt}
use Rattle.pieces.specs.declared.Rule.TheVariants.{Mail, Like}
use Rattle.pieces.proofs.Following.{taken_none, taken_more}
use Rattle.pieces.proofs.Reach.{further_is}
use Rattle.pieces.specs.declared.Margin.{Margin}

-- the code's rules are those of the definition
pub mail_rule : (block : List ℕ) (o : Options) → passes_rule Mail o.prefix ≡ continues (meant block o)
unfolding passes_rule continues meant
mail_rule block o = fun_ext (λ s. ap (λ (t : Bool). ltb 0 s.indent_end && t) (pick o.prefix s))
  where
    pick : (p : Option Part) (s : Shape) → not (is_some p) || ltb 0 s.prefix_place ≡ not_at_start (text_of block p) s
    pick None s = refl
    pick (Some part) s = refl

pub like_rule : (a : Shape) (p : Option Part) → passes_rule (Like a) p ≡ agrees a
unfolding passes_rule
like_rule a p = fun_ext (λ s. refl)

-- a line's shape lies in the notes
pub line_shaped : (o : Opts) (notes : List ℕ) (at : ℕ) (line : Classed) (s : Shape) → LineIs o notes at line → line.class ≡ Formatted s → 1 ≤ o.tab → o.tab ≤ 100 → length notes ≤ most_large → Shaped notes at s
line_shaped o notes at line s h e lo hi short =
    let k = known o (first_line (drop at notes)).text s lo hi (sym h.class ∙ e) in
    let n = h.end in
    record { indent = omega (arith, k.indent, h.before, h.within); columns = omega (arith, k.columns, h.before, h.within) }

pub joined_line : (block notes : List ℕ) (o : Options) (at : ℕ) (line : Classed) {s : Shape} → LineIs (meant block o) notes at line → line.class ≡ Formatted s → Usable block o → length notes ≤ most_large
    → Joined notes at line.next s
unfolding meant
joined_line block notes o at line {s} l e u short =
    record { within = l.within; shaped = line_shaped (meant block o) notes at line s l e u.least u.most short; first = l.first; count = l.next }

-- the count of further lines, kind by kind
module _ (o : Opts) (s : Shape) (ls : List Line) where
  kinds : Bool → Bool → Bool → ℕ
  kinds split mail two = cond split 0 (cond mail (follow o (continues o) ls) (cond two (follow_second o ls (second_of o s ls)) (follow o (agrees s) ls)))

  further_split : (mail : Bool) → o.split ≡ true → further o mail s ls ≡ 0
  unfolding kinds
  further_split mail e = further_is o mail s ls ∙ ap (λ (t : Bool). kinds t mail (o.crown || o.tagged)) e

  module _ (whole : o.split ≡ false) where
    further_mail : further o true s ls ≡ follow o (continues o) ls
    unfolding kinds
    further_mail = further_is o true s ls ∙ ap (λ (t : Bool). kinds t true (o.crown || o.tagged)) whole

    further_two : (two : Bool) → (o.crown || o.tagged) ≡ two → further o false s ls ≡ cond two (follow_second o ls (second_of o s ls)) (follow o (agrees s) ls)
    unfolding kinds
    further_two two e = further_is o false s ls ∙ ap (λ (t : Bool). kinds t false (o.crown || o.tagged)) whole ∙ ap (λ (t : Bool). kinds false false t) e

indent_two : (o : Opts) (at next : ℕ) (s : Shape) (ls : List Line) (two : Bool) → (o.crown || o.tagged) ≡ two
    → indent_at o false at next s ls ≡ cond two (later_at o at next s (second_of o s ls)) (margin_at at 0 s)
unfolding indent_at
indent_two o at next s ls two e = pick (o.crown || o.tagged) ∙ ap (λ (t : Bool). cond t (later_at o at next s (second_of o s ls)) (margin_at at 0 s)) e
  where
    pick : (t : Bool) → elim t as (λ x. Margin) [ true ↦ later_at o at next s (second_of o s ls) | false ↦ margin_at at 0 s ] ≡ cond t (later_at o at next s (second_of o s ls)) (margin_at at 0 s)
    pick true = refl
    pick false = refl

start_two : (o : Opts) (s : Shape) (ls : List Line) (two : Bool) → (o.crown || o.tagged) ≡ two → start_at o false s ls ≡ cond two (later_start s (second_of o s ls)) s.indent_end
unfolding start_at
start_two o s ls two e = pick (o.crown || o.tagged) ∙ ap (λ (t : Bool). cond t (later_start s (second_of o s ls)) s.indent_end) e
  where
    pick : (t : Bool) → elim t as (λ x. ℕ) [ true ↦ later_start s (second_of o s ls) | false ↦ s.indent_end ] ≡ cond t (later_start s (second_of o s ls)) s.indent_end
    pick true = refl
    pick false = refl

module _ (o : Opts) (notes : List ℕ) (at next : ℕ) (s : Shape) where
  -- how far the lines reach, kind by kind
  mail_reach : (t : Bool) → o.split ≡ t → cond t next (reach o (continues o) notes next) ≡ next + taken (take (further o true s (lines_of (drop next notes))) (lines_of (drop next notes)))
  unfolding further reach
  mail_reach true e = rw (further_split o s (lines_of (drop next notes)) true e, taken_none) (omega arith)
  mail_reach false e = rw (further_mail o s (lines_of (drop next notes)) e)

  pub mail_is : (r : ℕ) → r ≡ cond o.split next (reach o (continues o) notes next)
      → ◌≡◌ {A = Paragraph} (record { next = r; mail = true; first = spaces_at at 0; indent = spaces_at at 2; start = s.indent_end; later = s.indent_end })
      (paragraph_with o true at next s (lines_of (drop next notes)))
  unfolding paragraph_with indent_at start_at
  mail_is r e = ap (λ (n : ℕ). record { next = n; mail = true; first = spaces_at at 0; indent = spaces_at at 2; start = s.indent_end; later = s.indent_end }) (e ∙ mail_reach o.split refl)

  module _ (bare : (o.crown || o.tagged) ≡ false) where
    plain_reach : (t : Bool) → o.split ≡ t → cond t next (reach o (agrees s) notes next) ≡ next + taken (take (further o false s (lines_of (drop next notes))) (lines_of (drop next notes)))
    unfolding reach
    plain_reach true e = rw (further_split o s (lines_of (drop next notes)) false e, taken_none) (omega arith)
    plain_reach false e = rw (further_two o s (lines_of (drop next notes)) e false bare)

    plain_indent : margin_at at 0 s ≡ indent_at o false at next s (lines_of (drop next notes))
    plain_indent = sym (indent_two o at next s (lines_of (drop next notes)) false bare)

    plain_start : s.indent_end ≡ start_at o false s (lines_of (drop next notes))
    plain_start = sym (start_two o s (lines_of (drop next notes)) false bare)

    pub plain_is : (r : ℕ) → r ≡ cond o.split next (reach o (agrees s) notes next)
        → ◌≡◌ {A = Paragraph} (record { next = r; mail = false; first = margin_at at 0 s; indent = margin_at at 0 s; start = s.indent_end; later = s.indent_end })
        (paragraph_with o false at next s (lines_of (drop next notes)))
    unfolding paragraph_with
    plain_is r e = rw (← plain_reach o.split refl, ← plain_indent, ← plain_start, ← e)

  module _ (hangs : (o.crown || o.tagged) ≡ true) (whole : o.split ≡ false) where
    hang_further : further o false s (lines_of (drop next notes)) ≡ follow_second o (lines_of (drop next notes)) (second_of o s (lines_of (drop next notes)))
    hang_further = further_two o s (lines_of (drop next notes)) whole true hangs

    hang_indent : indent_at o false at next s (lines_of (drop next notes)) ≡ later_at o at next s (second_of o s (lines_of (drop next notes)))
    hang_indent = indent_two o at next s (lines_of (drop next notes)) true hangs

    hang_start : start_at o false s (lines_of (drop next notes)) ≡ later_start s (second_of o s (lines_of (drop next notes)))
    hang_start = start_two o s (lines_of (drop next notes)) true hangs

    alone_is : (x : Second) (place : ℕ) → None ≡ second_place place x → x ≡ alone
    alone_is alone place e = refl
    alone_is (joins text t) place e = absurd (let z : ◌≡◌ {A = ℕ} 0 1 = cc in omega arith)

    pub hang_alone : (more : ℕ) → more ≡ cond o.tagged 4 0 → None ≡ second_at o s notes next
        → ◌≡◌ {A = Paragraph} (record { next = next; mail = false; first = margin_at at 0 s; indent = margin_at at more s; start = s.indent_end; later = s.indent_end })
        (paragraph_with o false at next s (lines_of (drop next notes)))
    unfolding paragraph_with second_at
    hang_alone more m e =
        let a : second_of o s (lines_of (drop next notes)) ≡ alone = alone_is _ _ e in
        let n : next + taken [] ≡ next = rw taken_none (omega arith) in
        rw (hang_further, hang_indent, hang_start, a, n, ← m)

    hang_count : (behind : ℕ) (text : List ℕ) (u : Shape) → second_of o s (lines_of (drop next notes)) ≡ joins text u → Joined notes next behind u
        → reach o (agrees u) notes behind ≡ next + taken (take (further o false s (lines_of (drop next notes))) (lines_of (drop next notes)))
    unfolding reach
    hang_count behind text u h j = let c = j.count in rw (hang_further, h, j.first, taken_more) (omega arith)

    pub hang_joins : (behind r : ℕ) (t : Shape) → joining behind t ≡ second_at o s notes next → Joined notes next behind t → r ≡ reach o (agrees t) notes behind
        → ◌≡◌ {A = Paragraph} (record { next = r; mail = false; first = margin_at at 0 s; indent = margin_at next 0 t; start = s.indent_end; later = t.indent_end })
        (paragraph_with o false at next s (lines_of (drop next notes)))
    unfolding paragraph_with second_at
    hang_joins behind r t e j q = go (second_of o s (lines_of (drop next notes))) refl e
      where
        go : (x : Second) → second_of o s (lines_of (drop next notes)) ≡ x → joining behind t ≡ second_place (next + length (first_line (drop next notes)).raw) x
            → ◌≡◌ {A = Paragraph} (record { next = r; mail = false; first = margin_at at 0 s; indent = margin_at next 0 t; start = s.indent_end; later = t.indent_end })
            (paragraph_with o false at next s (lines_of (drop next notes)))
        go alone h p = absurd (let z : ◌≡◌ {A = ℕ} 0 1 = cc in omega arith)
        go (joins text u) h p =
            let seconds : ◌≡◌ {A = SecondAt} (record { next = behind; shape = t }) (record { next = next + length (first_line (drop next notes)).raw; shape = u }) = cc in
            let ut : u ≡ t = ap (λ (x : SecondAt). x.shape) (sym seconds) in
            let i : indent_at o false at next s (lines_of (drop next notes)) ≡ margin_at next 0 t = hang_indent ∙ ap (later_at o at next s) h ∙ ap (margin_at next 0) ut in
            let b : start_at o false s (lines_of (drop next notes)) ≡ t.indent_end = hang_start ∙ ap (later_start s) h ∙ ap (λ (x : Shape). x.indent_end) ut in
            let n = q ∙ hang_count behind text t (h ∙ ap (joins text) ut) j in
            rw (← n, i, b)

-- the same of the code's options
module _ (block notes : List ℕ) (o : Options) (at next : ℕ) (s : Shape) where
  pub mail_from : (r : ℕ) → r ≡ cond o.split next (reach (meant block o) (passes_rule Mail o.prefix) notes next)
      → ◌≡◌ {A = Paragraph} (record { next = r; mail = true; first = spaces_at at 0; indent = spaces_at at 2; start = s.indent_end; later = s.indent_end })
      (paragraph_with (meant block o) true at next s (lines_of (drop next notes)))
  unfolding meant
  mail_from r e = mail_is (meant block o) notes at next s r (e ∙ ap (λ (f : Shape → Bool). cond o.split next (reach (meant block o) f notes next)) (mail_rule block o))

  pub plain_from : (o.crown || o.tagged) ≡ false → (r : ℕ) → r ≡ cond o.split next (reach (meant block o) (passes_rule (Like s) o.prefix) notes next)
      → ◌≡◌ {A = Paragraph} (record { next = r; mail = false; first = margin_at at 0 s; indent = margin_at at 0 s; start = s.indent_end; later = s.indent_end })
      (paragraph_with (meant block o) false at next s (lines_of (drop next notes)))
  unfolding meant
  plain_from bare r e = plain_is (meant block o) notes at next s bare r (e ∙ ap (λ (f : Shape → Bool). cond o.split next (reach (meant block o) f notes next)) (like_rule s o.prefix))

  module _ (hangs : (o.crown || o.tagged) ≡ true) (whole : o.split ≡ false) where
    pub alone_from : (more : ℕ) → more ≡ cond o.tagged 4 0 → None ≡ second_at (meant block o) s notes next
        → ◌≡◌ {A = Paragraph} (record { next = next; mail = false; first = margin_at at 0 s; indent = margin_at at more s; start = s.indent_end; later = s.indent_end })
        (paragraph_with (meant block o) false at next s (lines_of (drop next notes)))
    unfolding meant
    alone_from = hang_alone (meant block o) notes at next s hangs whole

    pub joins_from : (behind r : ℕ) (t : Shape) → joining behind t ≡ second_at (meant block o) s notes next → Joined notes next behind t
        → r ≡ reach (meant block o) (passes_rule (Like t) o.prefix) notes behind
        → ◌≡◌ {A = Paragraph} (record { next = r; mail = false; first = margin_at at 0 s; indent = margin_at next 0 t; start = s.indent_end; later = t.indent_end })
        (paragraph_with (meant block o) false at next s (lines_of (drop next notes)))
    unfolding meant
    joins_from behind r t e j q =
        hang_joins (meant block o) notes at next s hangs whole behind r t e j (q ∙ ap (λ (f : Shape → Bool). reach (meant block o) f notes behind) (like_rule t o.prefix))

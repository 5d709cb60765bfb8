-- Paragraphs written line by line, with one of them open or none.
use mathlib.Core.Path.{◌≡◌, refl, ◌∙◌}
use mathlib.Core.Bool.{Bool, true, false, not, ◌&&◌, and-eq-true_iff}
use mathlib.Core.List.{List, [], ◌∷◌, ◌++◌, append_assoc, append-nil}
use Prim.Native.Nat.{ℕ}
use lib.Dec.{eqb}
use lib.ListN.{replicate}
use borrow.Author.Tests.{eqb-true}
use Rattle.lists.specs.Runs.{joined}
use Rattle.lists.proofs.Parts.{joined_nil, joined_cons}
use Rattle.unflow.specs.Flowed.{quote_mark, cr_lf, quote_depth, stuffing, content_of, is_separator, ends_in_space, is_soft}
use Rattle.unflow.specs.Unflow.{goes_on_in, FlowedParagraph, begun_with, longer, paragraphs_from, paragraphs, as_line}
use Rattle.unflow.specs.Cited.Steps.{joins, end_of, start_of, placed, placed_from}
use Rattle.unflow.proofs.Lines.{stuffing_soft, ends_append, ends_some, soft_ends}

-- a line goes on in the paragraph that the line before it left open
joins_goes : (line next : List ℕ) → joins (is_soft line) (quote_depth line) next ≡ goes_on_in line next
unfolding joins goes_on_in
joins_goes line next = refl

end_both : (soft : Bool) → end_of (not soft) ++ end_of soft ≡ cr_lf
unfolding end_of
end_both true = refl
end_both false = refl

-- a paragraph so far, with the line that it ends in: a soft one leaves its text ending in a space
record Sound (p : FlowedParagraph) (line : List ℕ) : Type 0 where
  depth : p.depth ≡ quote_depth line
  ends : is_soft line ≡ true → ends_in_space p.content ≡ true

begun_sound : (line : List ℕ) → Sound (begun_with line) line
begun_sound line = record { depth = refl; ends = soft_ends line }

longer_sound : (p : FlowedParagraph) (line next : List ℕ) → Sound p line → quote_depth line ≡ quote_depth next → Sound (longer next p) next
longer_sound p line next s e =
    record {
      depth = s.depth ∙ e;
      ends = λ h. let k = soft_ends next h in ends_append p.content (content_of next) (ends_some (content_of next) k) ∙ k;
    }

record Goes (line next : List ℕ) : Type 0 where
  soft : is_soft line ≡ true
  depth : quote_depth line ≡ quote_depth next

goes : (line next : List ℕ) → goes_on_in line next ≡ true → Goes line next
unfolding goes_on_in
goes line next h =
    let a = ((and-eq-true_iff (is_soft line && eqb (quote_depth line) (quote_depth next)) (not (is_separator next))).0 h).0 in
    let b = (and-eq-true_iff (is_soft line) (eqb (quote_depth line) (quote_depth next))).0 a in
    record { soft = b.0; depth = eqb-true (quote_depth line) (quote_depth next) b.1 }

-- what is written of the next line
placed_on : (line next : List ℕ) → goes_on_in line next ≡ true → placed (is_soft line) (quote_depth line) next ≡ content_of next ++ end_of (not (is_soft next))
unfolding placed start_of
placed_on line next h = rw (joins_goes line next, h)

placed_apart : (line next : List ℕ) → goes_on_in line next ≡ false
    → placed (is_soft line) (quote_depth line) next
    ≡ (end_of (is_soft line) ++ (replicate (quote_depth next) quote_mark ++ stuffing (content_of next))) ++ (content_of next ++ end_of (not (is_soft next)))
unfolding placed start_of
placed_apart line next h = rw (joins_goes line next, h)

end_soft : (soft : Bool) → soft ≡ true → end_of (not soft) ≡ []
unfolding end_of
end_soft soft h = rw h

on_joined : (m s p c t u : List ℕ) → m ++ (s ++ ((p ++ c) ++ (t ++ u))) ≡ m ++ (s ++ (p ++ ([] ++ ((c ++ t) ++ u))))
on_joined m s p c t u = rw (append_assoc p c (t ++ u), append_assoc c t u)

apart_joined : (m s p a b n r c t u : List ℕ) → (m ++ (s ++ (p ++ (a ++ b)))) ++ (n ++ (r ++ (c ++ (t ++ u)))) ≡ m ++ (s ++ (p ++ (a ++ (((b ++ (n ++ r)) ++ (c ++ t)) ++ u))))
apart_joined m s p a b n r c t u = simp append_assoc

-- the paragraphs after a line, as the lines write them
written_from : (p : FlowedParagraph) (line : List ℕ) (lines : List (List ℕ)) → Sound p line
    → joined as_line (paragraphs_from p line lines)
    ≡ replicate p.depth quote_mark ++ (stuffing p.content ++ (p.content ++ (end_of (not (is_soft line)) ++ placed_from (is_soft line) (quote_depth line) lines)))
unfolding paragraphs_from placed_from as_line
written_from p line [] s = rw (joined_cons as_line p [], joined_nil as_line, end_both (is_soft line)) (append-nil (as_line p))
written_from p line (next ∷ lines) s = go (goes_on_in line next) refl (written_from (longer next p) next lines) (written_from (begun_with next) next lines)
  where
    t : List ℕ
    t = end_of (not (is_soft next))

    u : List ℕ
    u = placed_from (is_soft next) (quote_depth next) lines

    c : List ℕ
    c = content_of next

    m : List ℕ
    m = replicate p.depth quote_mark

    n : List ℕ
    n = replicate (quote_depth next) quote_mark

    go : (b : Bool) → goes_on_in line next ≡ b
        → (Sound (longer next p) next → joined as_line (paragraphs_from (longer next p) next lines) ≡ m ++ (stuffing (p.content ++ c) ++ ((p.content ++ c) ++ (t ++ u))))
        → (Sound (begun_with next) next → joined as_line (paragraphs_from (begun_with next) next lines) ≡ n ++ (stuffing c ++ (c ++ (t ++ u))))
        → joined as_line (elim b as (λ x. List FlowedParagraph) [ true ↦ paragraphs_from (longer next p) next lines | false ↦ p ∷ paragraphs_from (begun_with next) next lines ])
        ≡ m ++ (stuffing p.content ++ (p.content ++ (end_of (not (is_soft line)) ++ (placed (is_soft line) (quote_depth line) next ++ u))))
    go true e on off =
        let g = goes line next e in
        on (longer_sound p line next s g.depth)
        ∙ rw (placed_on line next e, end_soft (is_soft line) g.soft, stuffing_soft p.content c (s.ends g.soft))
        (on_joined m (stuffing p.content) p.content c t u)
    go false e on off =
        rw (joined_cons as_line p (paragraphs_from (begun_with next) next lines), off (begun_sound next), placed_apart line next e, ← end_both (is_soft line))
        (apart_joined m (stuffing p.content) p.content (end_of (not (is_soft line))) (end_of (is_soft line)) n (stuffing c) c t u)

first_joined : (n s c t u : List ℕ) → n ++ (s ++ (c ++ (t ++ u))) ≡ (([] ++ (n ++ s)) ++ (c ++ t)) ++ u
first_joined n s c t u = simp append_assoc

-- all of them: at first no paragraph is open
pub written_lines : (lines : List (List ℕ)) → joined as_line (paragraphs lines) ≡ placed_from false 0 lines
unfolding paragraphs placed_from placed start_of end_of joins
written_lines [] = joined_nil as_line
written_lines (line ∷ lines) = written_from (begun_with line) line lines (begun_sound line)
    ∙ first_joined (replicate (quote_depth line) quote_mark) (stuffing (content_of line)) (content_of line) (end_of (not (is_soft line))) (placed_from (is_soft line) (quote_depth line) lines)

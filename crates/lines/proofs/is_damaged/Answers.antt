-- `lines::is_damaged` meets its contract: a sound line has no damaged character, and else one is looked for.
use Rattle.std.proofs.Common.{◌≡◌, Bool, not, List, ℕ, Option, Some, None, is_some, sym, ap, ◌∙◌}
use Rattle.lists.specs.Runs.{every}
use Rattle.text.specs.Characters.{glyphs, is_good, damage}
use Rattle.text.proofs.Damage.{damage_none, damage_some}
use Rattle.lines.proofs.is_damaged.Goals as goal

told : (glue : Bool) (line : List ℕ) (d : Option ℕ) → damage line ≡ d → is_some d ≡ not (every is_good (glyphs glue line))
told glue line None e = sym (ap not (damage_none glue line e))
told glue line (Some at) e = sym (ap not (damage_some glue line at e).0)

pub returns-then-sound : goal.returns-then-sound
returns-then-sound c = λ glue. sym (ap not (damage_none glue _ (c.requires c.if-sound.true)))

pub returns : goal.returns
returns c = λ glue. c.is_some.ensures ∙ told glue _ _ (sym c.first_damage.ensures)

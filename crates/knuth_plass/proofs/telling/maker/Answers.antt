-- `knuth_plass::telling::maker` meets its contract. One law for each way through it.
use mathlib.Core.Path.{◌∙◌}
use native.Mathlib.Omega.{arith}
use Rattle.knuth_plass.specs.Cited.Table.{table_in, active_in}
use Rattle.knuth_plass.proofs.Makers.{kept_is, makes_last, makes_chosen, makes_nothing, makes_forced}
use Rattle.knuth_plass.proofs.telling.maker.Goals as goal

pub returns-then-r : goal.returns-then-r
returns-then-r c =
    λ notes active done. makes_last c.args.r.now.goals.setting c.args.r.now.turn c.args.st (table_in c.args.breaks.now) (active_in c.args.breaks.now) c.args.s c.args.r.now.turns c.requires notes active done c.if-s-lt-NOTHING.true c.if-r.true

pub chosen-requires : goal.chosen-requires
chosen-requires c =
    kept_is c.args.r.now.goals.setting c.args.r.now.turn c.args.st (table_in c.args.breaks.now) (active_in c.args.breaks.now) c.args.s c.args.r.now.turns c.requires

pub returns-else-r : goal.returns-else-r
returns-else-r c =
    λ notes active done. c.chosen.ensures ∙ makes_chosen c.args.r.now.goals.setting c.args.r.now.turn c.args.st (table_in c.args.breaks.now) (active_in c.args.breaks.now) c.args.s c.args.r.now.turns c.requires notes active done c.if-s-lt-NOTHING.true c.if-r.false

pub returns-then-s-gt0 : goal.returns-then-s-gt0
returns-then-s-gt0 c =
    λ notes active done. makes_nothing c.args.r.now.goals.setting c.args.r.now.turn c.args.st (table_in c.args.breaks.now) (active_in c.args.breaks.now) c.args.s c.args.r.now.turns c.requires notes active done c.if-s-lt-NOTHING.false c.if-s-gt0.true

pub returns-else-s-gt0 : goal.returns-else-s-gt0
returns-else-s-gt0 c =
    λ notes active done. makes_forced c.args.r.now.goals.setting c.args.r.now.turn c.args.st (table_in c.args.breaks.now) (active_in c.args.breaks.now) c.args.s c.args.r.now.turns c.requires notes active done _ c.if-s-lt-NOTHING.false (omega (arith, c.if-s-gt0.false)) c.forced.ensures

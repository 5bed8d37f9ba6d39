use Rattle.std.proofs.Common.{ap, map, refl}
use Rattle.fc_lattice.specs.View.{demand_of}
use Rattle.fc_model.specs.Grammar.{ADemand}
use Rattle.fc_read_parts.proofs.Stars.{many_start, star_more}
use Rattle.fc_read_items.proofs.demands.+demands.Goals as goal

pub read_demands-each-init : goal.read_demands-each-init
read_demands-each-init t c = many_start ADemand _ _ (ap (map demand_of) c.new-all.ensures)

pub read_demands-each-preserved : goal.read_demands-each-preserved
read_demands-each-preserved t c =
    star_more ADemand _ demand_of _ _ _ _ _ _ _ c.each.invariant (c.if-closes.ensures.open refl) c.in_ok-read_demand.ensures.read c.in_ok-read_demand.ensures.shorter c.in_ok-push.ensures.ok

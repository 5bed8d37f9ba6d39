use Rattle.std.proofs.Common.{length, map, ◌*◌, ◌+◌}
use Rattle.fc_lattice.specs.View.{demand_of}
use Rattle.fc_model.specs.Grammar.{ADemand}
use Rattle.fc_read_parts.proofs.Stars.{Star, many_at}
use Rattle.fc_read_parts.specs.Seen.{ahead}
use Rattle.fc_read_items.proofs.demands.+demands.Given as goal

abbrev pub decreases-read_demand : goal.decreases-read_demand
decreases-read_demand l = 2 * length (ahead l.tokens.now)

abbrev pub decreases-read_demand_form : goal.decreases-read_demand_form
decreases-read_demand_form l = 2 * length (ahead l.tokens.now)

abbrev pub decreases-read_demands : goal.decreases-read_demands
decreases-read_demands l = 2 * length (ahead l.tokens.now) + 1

abbrev pub invariant-read_demands-each : goal.invariant-read_demands-each
invariant-read_demands-each l = Star ADemand (many_at ADemand (ahead l.fn.tokens)) (ahead l.fn.tokens) (map demand_of l.all) (ahead l.tokens)

abbrev pub decreases-read_demands-each : goal.decreases-read_demands-each
decreases-read_demands-each l = length (ahead l.tokens)

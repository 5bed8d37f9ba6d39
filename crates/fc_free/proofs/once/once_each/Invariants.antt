use Rattle.std.proofs.Common.{◌≡◌, drop, map, []}
use Rattle.fc_free.specs.Keys.{named}
use Rattle.fc_free.proofs.Gathered.{gathered}
use Rattle.fc_free.proofs.once.once_each.Given as goal

-- the keys are of the names so far, and those that are still to come behind them make the whole
abbrev pub invariant-loop-name : goal.invariant-loop-name
invariant-loop-name l = (l.all ≡ map named l.seen.keys) × (gathered l.all (map (λ n. n.now) (drop l.name-index l.names)) ≡ gathered [] (map (λ n. n.now) l.names))

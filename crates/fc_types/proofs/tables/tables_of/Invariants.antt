use Rattle.std.proofs.Common.{take}
use Rattle.fc_types.specs.Built.{AreTables}
use Rattle.fc_types.proofs.tables.tables_of.Given as goal

-- the modules so far
abbrev pub invariant-loop-m : goal.invariant-loop-m
invariant-loop-m l = AreTables (take l.m-index l.modules) l.tables

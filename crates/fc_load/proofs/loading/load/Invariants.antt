use Rattle.std.proofs.Common.{◌≡◌, ◌≤◌, IfSome, length, map, take}
use Rattle.std.specs.List.{All}
use Rattle.fc_syntax.specs.View.{module_of}
use Rattle.fc_model.specs.Formed.{IsFormed}
use Rattle.fc_load.specs.Amounts.{amount_of}
use Rattle.fc_load.specs.Loading.{IsWithinReadLimits}
use Rattle.fc_load.proofs.SoFar.{IsSoFar}
use Rattle.fc_load.proofs.loading.load.Given as goal

abbrev pub invariant-loop-name : goal.invariant-loop-name
invariant-loop-name g l = record {
  held : g.F.Files.held l.files ≡ g.F.Files.held l.initial.files;
  writes : g.F.Files.write_faults l.files ≡ g.F.Files.write_faults l.initial.files;
  reads : g.F.Files.read_faults l.initial.files ≤ g.F.Files.read_faults l.files;
  so_far : IfSome (g.F.Files.held l.initial.files) (λ m. IsSoFar m (amount_of l.read) (take l.name-index (map (λ s. s.now) l.names)) (map module_of l.modules.items));
  count : length (map module_of l.modules.items) ≡ l.name-index;
  formed : All IsFormed (map module_of l.modules.items);
  limits : All IsWithinReadLimits (map module_of l.modules.items);
}

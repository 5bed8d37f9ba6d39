-- Fair imports tell the right sides of the program.
use Rattle.std.proofs.Common.{List, [], ◌∷◌}
use Rattle.fc_syntax.specs.Demands.{Sig}
use Rattle.fc_syntax.specs.Tree.{Word}
use Rattle.fc_model.specs.Kinding.{Modules}
use Rattle.fc_model.specs.Nameless.{NDecl, NData, NNew, NFamily, NAxiom, NDef, NWrap, NModule, NModuleOf}
use Rattle.fc_model.specs.Stepping.{Program}
use Rattle.fc_kept_meaning.specs.FairImports.{AreFairDeclarations, FairImportsTellTruth, IsFair, TellDeclarations, TellsTruth}

module _ (ms : Modules) (P : Program) where
  declarations_told : (m : Word) (ds : List NDecl) (ss : List Sig) → AreFairDeclarations ms P m ds ss → TellDeclarations P m ds
  declarations_told m [] ss fair = tt
  declarations_told m (NDef w t e ∷ ds) [] fair = absurd fair
  declarations_told m (NDef w t e ∷ ds) (s ∷ ss) fair = (fair.0, declarations_told m ds ss fair.2)
  declarations_told m (NWrap w t e ∷ ds) [] fair = absurd fair
  declarations_told m (NWrap w t e ∷ ds) (s ∷ ss) fair = (fair.0, declarations_told m ds ss fair.2)
  declarations_told m (NData w ps cs ∷ ds) ss fair = declarations_told m ds ss fair
  declarations_told m (NNew w ps t con ∷ ds) ss fair = declarations_told m ds ss fair
  declarations_told m (NFamily w ps k ∷ ds) ss fair = declarations_told m ds ss fair
  declarations_told m (NAxiom w ps t u ∷ ds) ss fair = declarations_told m ds ss fair

  module_told : (x : NModule) (ss : List Sig) → IsFair ms P x ss → TellsTruth P x
  module_told (NModuleOf m imports exports hidden ds) ss fair = declarations_told m ds ss fair

pub fair_imports_tell_truth : FairImportsTellTruth
fair_imports_tell_truth ms P [] fair = tt
fair_imports_tell_truth ms P (x ∷ xs) fair = (module_told ms P x.told_module x.signatures fair.0, fair_imports_tell_truth ms P xs fair.1)

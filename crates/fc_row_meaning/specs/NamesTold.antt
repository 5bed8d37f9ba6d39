-- What surroundings know of top-level names holds in programs.
use Rattle.std.specs.Prelude.{◌≡◌, All, List, ◌∷◌}
use Rattle.fc_model.specs.Headers.{ndecls_in}
use Rattle.fc_model.specs.Kinding.{decls_at}
use Rattle.fc_model.specs.Nameless.{NModule}
use Rattle.fc_model.specs.Stepping.{Program}
use Rattle.fc_meaning.specs.Laws.{SortedProgram}
use Rattle.fc_meaning.proofs.WrittenExpressions.{AreDeclsWritten}
use Rattle.fc_reaching.specs.Numbering.{word_of}
use Rattle.fc_kept_meaning.specs.FairImports.{TellTruth}
use Rattle.fc_kept_meaning.specs.MeaningKept.{HoldsModule, MetIn, with_module}
use Rattle.fc_row_meaning.specs.LocalsTold.{AreNamesTold}
use Rattle.fc_row_meaning.specs.SharedRights.{RightsShare}

-- All that surroundings say of names outside of all binders holds in a program that holds the module and of which its imports tell the right sides, and in the
-- program with another module in its place, where the right sides of both share values and constructors with trivial arguments.
abbrev pub NamesAreTold : Type 0
NamesAreTold = (xs : List NModule) (m k : NModule) (P : Program) → word_of m ≡ word_of k → RightsShare (ndecls_in m) (ndecls_in k) → All (λ x. AreDeclsWritten (ndecls_in x)) (m ∷ xs)
    → SortedProgram P → HoldsModule P m → TellTruth P xs → AreNamesTold (MetIn P (with_module k P)) (decls_at (m ∷ xs))

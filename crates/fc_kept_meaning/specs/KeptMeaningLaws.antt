-- Typing tells of both sides of a rewrite what erasure needs of them.
use Rattle.std.specs.Prelude.{Bool, List, []}
use Rattle.fc_syntax.specs.declared.ty.Name.{Name}
use Rattle.fc_model.specs.Headers.{ndecls_in}
use Rattle.fc_model.specs.Kinding.{Modules}
use Rattle.fc_model.specs.Nameless.{NExpr, NModule, NTy}
use Rattle.fc_model.specs.Programs.{Mentions}
use Rattle.fc_model.specs.Stepping.{Program}
use Rattle.fc_model.specs.Terms.{IsSorted, Term}
use Rattle.fc_model.specs.Typing.{Context}
use Rattle.fc_model.specs.TypingRules.{HasType}
use Rattle.fc_meaning.specs.Laws.{SortedProgram}
use Rattle.fc_meaning.proofs.HeldDeclarations.{AreHeld}
use Rattle.fc_meaning.proofs.ScopesFit.{Fits}
use Rattle.fc_meaning.proofs.WrittenExpressions.{AreDeclsWritten, IsWritten}
use Rattle.fc_counted.specs.CountingLaws.{SeesSame}
use Rattle.fc_counted.specs.Places.{sorts_in}
use Rattle.fc_row_places.specs.KnowingRows.{NKnowingRow}
use Rattle.fc_row_places.specs.NamelessChanges.{NChange}
use Rattle.fc_row_places.specs.NamelessFacts.{NFact, NKnownBy}
use Rattle.fc_row_places.specs.NamelessPlaces.{NPlace, place_at, scope_at}
use Rattle.fc_kept_meaning.specs.FairImports.{TellTruth}
use Rattle.fc_kept_meaning.specs.MeaningKept.{HoldsModule, LintsAmong, MayBeAsked, MetIn, ModuleRewritten, OthersKeepOut, with_module}
use Rattle.fc_kept_meaning.specs.OnePlace.{AtOnePlace}
use Rattle.fc_kept_meaning.specs.PlaceRows.{PlaceRow}

-- a context fits a place, with the sorts of the binders there
abbrev pub FitsAt : NPlace → Context → Type 0
FitsAt c k = Fits k (scope_at c) (sorts_in (place_at c))

-- A rewrite at one place between expressions that have types, of which the first is written as literals and alternatives are to be, among modules that
-- hold, is a change of one part, in which the sorts of what is bound, given and put in are those that the rewrite needs.
abbrev pub RewritesAreTyped : Type 0
RewritesAreTyped = (known : Name → NFact → Bool) (ms : Modules) → AreHeld ms → (c : NPlace) (e d : NExpr) → AtOnePlace (PlaceRow (NKnownBy known)) c e d → IsWritten e
    → (k : Context) (t u : NTy) → HasType ms k e t → HasType ms k d u → FitsAt c k → NChange (NKnowingRow (NKnownBy known)) c e d

-- One part of one right side is rewritten, where of names is known what holds of them in a program and with the new module in it: if the module lints, its imports
-- tell the right sides of the program, which holds it, and the new module lints too, each closed sorted term over what the module offers and over the names of other
-- modules sees the same observations.
abbrev pub RewritesKeepMeaning : Type 0
RewritesKeepMeaning = (xs : List NModule) (m n : NModule) (P : Program) → ModuleRewritten (PlaceRow (MetIn P (with_module n P))) xs m n → LintsAmong xs m → LintsAmong xs n
    → AreDeclsWritten (ndecls_in m) → AreDeclsWritten (ndecls_in n) → SortedProgram P → TellTruth P xs → HoldsModule P m → OthersKeepOut P m
    → (t : Term) → IsSorted [] t → Mentions (MayBeAsked m) t → SeesSame P (with_module n P) t

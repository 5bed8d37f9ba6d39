-- A rewrite of a module keeps what every program shows that holds the module.
use Rattle.std.specs.Prelude.{◌≡◌, Bool, true, if◌then◌else◌, List, [], ◌∷◌, Some}
use Rattle.fc_syntax.specs.Tree.{Word}
use Rattle.fc_syntax.specs.declared.ty.Name.{Name}
use Rattle.fc_model.specs.Headers.{ndecls_in}
use Rattle.fc_model.specs.Kinding.{decls_at, same_word}
use Rattle.fc_model.specs.Nameless.{NExpr, NDecl, NDef, NWrap, NModule, NModuleOf, NTy}
use Rattle.fc_model.specs.Programs.{Mentions, right_side}
use Rattle.fc_model.specs.Stepping.{Program}
use Rattle.fc_model.specs.Terms.{Global, Term, IsSorted}
use Rattle.fc_meaning.specs.Laws.{SortedProgram}
use Rattle.fc_meaning.proofs.HeldDeclarations.{AreHeld}
use Rattle.fc_meaning.proofs.WrittenExpressions.{AreDeclsWritten}
use Rattle.fc_counted.specs.Closings.{Closing}
use Rattle.fc_counted.specs.CountingLaws.{SeesSame}
use Rattle.fc_term_rows.specs.FactsMet.{Meets}
use Rattle.fc_reaching.specs.Numbering.{word_of}
use Rattle.fc_outlines.specs.RightSides.{Righted}
use Rattle.fc_rows.specs.Dropping.{is_kept, is_offered}
use Rattle.fc_rows.specs.Rewriting.{without_definitions}
use Rattle.fc_row_places.specs.NamelessChanges.{NPartRelation, NChange}
use Rattle.fc_row_places.specs.NamelessFacts.{NKnown, erased_fact}
use Rattle.fc_row_places.specs.NamelessPlaces.{NOutside}
use Rattle.fc_kept_meaning.specs.FairImports.{TellTruth}
use Rattle.fc_kept_meaning.specs.OnePlace.{AtOnePlace}

-- the words that others may use: exports and hidden names
abbrev pub IsOffered : NModule → Word → Type 0
IsOffered m w = is_offered m w ≡ true

-- a name is one of the module
abbrev pub IsOwn : NModule → Name → Type 0
IsOwn m n = same_word n.module (Some (word_of m)) ≡ true

-- the program with the module's definitions in place of all of its names
abbrev pub with_module : NModule → Program → Program
with_module m P n = if same_word n.module (Some (word_of m)) then right_side (ndecls_in m) n.text else P n

-- the program has exactly the module's definitions among the module's names
abbrev pub HoldsModule : Program → NModule → Type 0
HoldsModule P m = (n : Name) → IsOwn m n → P n ≡ right_side (ndecls_in m) n.text

-- a name that may be asked for: of another module, or one that the module offers
abbrev pub MayBeAsked : NModule → Name → Type 0
MayBeAsked m n = IsOwn m n → IsOffered m n.text

-- the other definitions mention no name of the module but those that it offers
abbrev pub OthersKeepOut : Program → NModule → Type 0
OthersKeepOut P m = (n : Name) (t : Term) → (IsOwn m n → ⊥) → P n ≡ Some t → Mentions (MayBeAsked m) t

-- whatever the module and its imports declare holds against them
abbrev pub LintsAmong : List NModule → NModule → Type 0
LintsAmong xs m = AreHeld (decls_at (m ∷ xs))

-- THE LAW

-- Where a module lints, its imports tell the right sides of a program that holds it, and what the rewrite makes of it lints too, that shows the
-- same in its place: each closed sorted term over what the module offers and over the names of other modules sees the same observations.
abbrev pub KeepsMeaning : (List NModule → NModule → NModule → Type 0) → Type 0
KeepsMeaning Row = (xs : List NModule) (m n : NModule) → Row xs m n → LintsAmong xs m → LintsAmong xs n → AreDeclsWritten (ndecls_in m) → AreDeclsWritten (ndecls_in n)
    → (P : Program) → SortedProgram P → TellTruth P xs → HoldsModule P m → OthersKeepOut P m
    → (t : Term) → IsSorted [] t → Mentions (MayBeAsked m) t → SeesSame P (with_module n P) t

-- NAMES

-- what holds of a name in both of two programs, whatever is put in
abbrev pub MetIn : Program → Program → NKnown
MetIn P Q = λ n f. ((p : Closing) → Meets P p (Global n) (erased_fact f)) × ((p : Closing) → Meets Q p (Global n) (erased_fact f))

-- DEFINITIONS WHOSE RIGHT SIDES DIFFER IN PARTS

-- each right side is as it was, or differs in parts related by R
pub data DeclarationsChange (R : NPartRelation) : List NDecl → List NDecl → Type 0 where
  no_changed_declarations : DeclarationsChange R [] []
  same_declaration : {d : NDecl} {ds es : List NDecl} → DeclarationsChange R ds es → DeclarationsChange R (d ∷ ds) (d ∷ es)
  changed_def : {w : Word} {t : NTy} {e f : NExpr} {ds es : List NDecl} → NChange R NOutside e f → DeclarationsChange R ds es → DeclarationsChange R (NDef w t e ∷ ds) (NDef w t f ∷ es)
  changed_wrap : {w : Word} {t : NTy} {e f : NExpr} {ds es : List NDecl} → NChange R NOutside e f → DeclarationsChange R ds es → DeclarationsChange R (NWrap w t e ∷ ds) (NWrap w t f ∷ es)

-- A REWRITE AT ONE PLACE OF ONE RIGHT SIDE

-- one right side is rewritten at one place
abbrev pub DeclarationsRewritten : NPartRelation → List NDecl → List NDecl → Type 0
DeclarationsRewritten R ds es = Righted (AtOnePlace R NOutside) ds es

pub data ModuleRewritten (R : NPartRelation) : List NModule → NModule → NModule → Type 0 where
  rewritten_in_module : {xs : List NModule} {m : Word} {imports exports hidden : List Word} {ds es : List NDecl} → DeclarationsRewritten R ds es
      → ModuleRewritten R xs (NModuleOf m imports exports hidden ds) (NModuleOf m imports exports hidden es)

-- DEFINITIONS THAT ARE TAKEN AWAY

-- definitions go that nothing reaches from what the module offers
pub record IsDead (m : NModule) (keep : Word → Bool) : Type 0 where
  pub offered : (w : Word) → IsOffered m w → keep w ≡ true
  pub closed : (w : Word) (t : Term) → keep w ≡ true → right_side (ndecls_in m) w ≡ Some t → Mentions (λ n. is_kept keep (word_of m) n ≡ true) t

-- they are taken away
pub data DeadTaken : List NModule → NModule → NModule → Type 0 where
  takes_dead : {xs : List NModule} {m : Word} {imports exports hidden : List Word} {ds : List NDecl} (keep : Word → Bool) → IsDead (NModuleOf m imports exports hidden ds) keep
      → DeadTaken xs (NModuleOf m imports exports hidden ds) (NModuleOf m imports exports hidden (without_definitions keep ds))

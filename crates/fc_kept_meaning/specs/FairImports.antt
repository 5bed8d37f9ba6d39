-- Imports whose interfaces tell the truth of a program.
use Rattle.std.specs.Prelude.{◌≡◌, Bool, true, false, List, [], ◌∷◌, map, Some}
use Rattle.fc_syntax.specs.Demands.{Sig}
use Rattle.fc_syntax.specs.Tree.{Word}
use Rattle.fc_syntax.specs.declared.ty.Name.{Name}
use Rattle.fc_model.specs.Erasure.{erased, no_scope}
use Rattle.fc_model.specs.Kinding.{Modules}
use Rattle.fc_model.specs.Nameless.{NDecl, NData, NNew, NFamily, NAxiom, NDef, NWrap, NModule, NModuleOf}
use Rattle.fc_model.specs.Nameless.{NExpr, NLocal, NVar, NLit, NApp, NLam, NLet, NCase, NCast, NCon, NPrim, NFail, NJoin, NJump}
use Rattle.fc_model.specs.Stepping.{Program}
use Rattle.fc_kept_meaning.specs.SignatureTruth.{IsTrueSignature}

-- a word of a module as a name
abbrev pub named_in : Word → Word → Name
named_in m w = record { «module» = Some m; text = w }

-- RIGHT SIDES THAT ARE TOLD

-- in place of a right side that is not told stands a failure
abbrev pub is_told : NExpr → Bool
is_told (NFail t) = false
is_told (NLocal i) = true
is_told (NVar n) = true
is_told (NLit n) = true
is_told (NApp f a) = true
is_told (NLam b e) = true
is_told (NLet r bs e) = true
is_told (NCase e xt rt alts) = true
is_told (NCast e g) = true
is_told (NCon n args) = true
is_told (NPrim op es) = true
is_told (NJoin r t js e) = true
is_told (NJump i args) = true

-- a right side that is told is that of the program
abbrev pub IsToldTruly : Program → Word → Word → NExpr → Type 0
IsToldTruly P m w e = is_told e ≡ true → P (named_in m w) ≡ Some (erased no_scope e)

abbrev pub TellDeclarations : Program → Word → List NDecl → Type 0
TellDeclarations P m [] = Unit {0}
TellDeclarations P m (NDef w t e ∷ ds) = IsToldTruly P m w e × TellDeclarations P m ds
TellDeclarations P m (NWrap w t e ∷ ds) = IsToldTruly P m w e × TellDeclarations P m ds
TellDeclarations P m (NData w ps cs ∷ ds) = TellDeclarations P m ds
TellDeclarations P m (NNew w ps t con ∷ ds) = TellDeclarations P m ds
TellDeclarations P m (NFamily w ps k ∷ ds) = TellDeclarations P m ds
TellDeclarations P m (NAxiom w ps t u ∷ ds) = TellDeclarations P m ds

abbrev pub TellsTruth : Program → NModule → Type 0
TellsTruth P (NModuleOf m imports exports hidden ds) = TellDeclarations P m ds

-- all right sides that imports tell are those of the program
abbrev pub TellTruth : Program → List NModule → Type 0
TellTruth P [] = Unit {0}
TellTruth P (x ∷ xs) = TellsTruth P x × TellTruth P xs

-- FAIR IMPORTS

-- the nameless form of an interface: a module as it is told, with a signature for each definition
pub record NInterface : Type 0 where
  pub told_module : NModule
  pub signatures : List Sig

abbrev pub told_modules : List NInterface → List NModule
told_modules xs = map (λ x. x.told_module) xs

-- a right side that is told is that of the program, and a signature is true in it
abbrev pub AreFairDeclarations : Modules → Program → Word → List NDecl → List Sig → Type 0
AreFairDeclarations ms P m [] ss = Unit {0}
AreFairDeclarations ms P m (NDef w t e ∷ ds) (s ∷ ss) = IsToldTruly P m w e × IsTrueSignature ms P (named_in m w) s × AreFairDeclarations ms P m ds ss
AreFairDeclarations ms P m (NWrap w t e ∷ ds) (s ∷ ss) = IsToldTruly P m w e × IsTrueSignature ms P (named_in m w) s × AreFairDeclarations ms P m ds ss
AreFairDeclarations ms P m (NDef w t e ∷ ds) [] = ⊥
AreFairDeclarations ms P m (NWrap w t e ∷ ds) [] = ⊥
AreFairDeclarations ms P m (NData w ps cs ∷ ds) ss = AreFairDeclarations ms P m ds ss
AreFairDeclarations ms P m (NNew w ps t con ∷ ds) ss = AreFairDeclarations ms P m ds ss
AreFairDeclarations ms P m (NFamily w ps k ∷ ds) ss = AreFairDeclarations ms P m ds ss
AreFairDeclarations ms P m (NAxiom w ps t u ∷ ds) ss = AreFairDeclarations ms P m ds ss

-- what an interface tells is so
abbrev pub IsFair : Modules → Program → NModule → List Sig → Type 0
IsFair ms P (NModuleOf m imports exports hidden ds) ss = AreFairDeclarations ms P m ds ss

-- what all interfaces tell is so
abbrev pub AreFair : Modules → Program → List NInterface → Type 0
AreFair ms P [] = Unit {0}
AreFair ms P (x ∷ xs) = IsFair ms P x.told_module x.signatures × AreFair ms P xs

-- fair imports tell the right sides of the program
abbrev pub FairImportsTellTruth : Type 0
FairImportsTellTruth = (ms : Modules) (P : Program) (xs : List NInterface) → AreFair ms P xs → TellTruth P (told_modules xs)

-- What rows make of small expressions: applications, lets, casts, failures and joins; and rows at places of a module.
use Rattle.std.specs.Prelude.{◌≡◌, pos, Bool, true, false, not, List, [], ◌∷◌, Some, None, codes}
use Rattle.std.specs.Str.{bytes_eq}
use Rattle.fc_syntax.specs.declared.ty.Role.TheVariants.{R}
use Rattle.fc_syntax.specs.Tree.{Word, KStar}
use Rattle.fc_log.specs.declared.log.Row.TheVariants as row
use Rattle.fc_model.specs.Nameless.{NTVar, NTInt, NTFun, NTForall, NGVar, NGSym, NGTrans, NBValue, NBType, NBCo, NDef, NWrap, NModule, NModuleOf, NATerm, NAType, NACo, NoNArgs, MoreNArgs}
use Rattle.fc_model.specs.Nameless.{NLocal, NLit, NApp, NLam, NCase, NCast, NCon, NFail, NJump, NoNAlts}
use Rattle.fc_row_examples.specs.ExampleTerms.{age, as_tree, call, case_of, declared, holding, join_of, jump, lambda, leaf, let_both, let_rec, made_at, made_by, named, node, on_default, on_leaf, on_node}
use Rattle.fc_row_examples.specs.ExampleTerms.{same, small, tree, two}
use Rattle.fc_rows.specs.Rewriting.{rewritten, without_definitions}
use Rattle.fc_rows.specs.Shrinking.{let_of}
use Rattle.fc_rows.specs.Telling.{reached_by_imports, told_declarations}

-- BETA

-- a term gets a let, a type and a coercion are put in
abbrev pub AppliedToATerm : Type 0
AppliedToATerm = made_by row.Beta (call (lambda (node (NLocal 0) (NLocal 0))) (call (NLocal 1) (NLocal 2)))
    ≡ Some (let_of tree (call (NLocal 1) (NLocal 2)) (node (NLocal 0) (NLocal 0)))

abbrev pub AppliedToAType : Type 0
AppliedToAType = made_by row.Beta (NApp (NLam (NBType KStar) (NFail (NTFun (NTVar 0) (NTVar 1)))) (NAType tree)) ≡ Some (NFail (NTFun tree (NTVar 0)))

abbrev pub AppliedToACoercion : Type 0
AppliedToACoercion = made_by row.Beta (NApp (NLam (NBCo R age tree) (NCast (NLocal 0) (NGTrans (NGVar 0) (NGVar 1)))) (NACo as_tree))
    ≡ Some (NCast (NLocal 0) (NGTrans as_tree (NGVar 0)))

abbrev pub AppliedToAnotherSort : Type 0
AppliedToAnotherSort = made_by row.Beta (NApp (lambda (NLocal 0)) (NAType tree)) ≡ None

abbrev pub NoLambdaApplied : Type 0
NoLambdaApplied = made_by row.Beta (call (NLocal 0) leaf) ≡ None

-- the body has no type
abbrev pub LambdaWithoutAType : Type 0
LambdaWithoutAType = made_by row.Beta (call (lambda (NLocal 1)) leaf) ≡ None

-- LETS

abbrev pub LetNotUsed : Type 0
LetNotUsed = made_by row.LetDead (let_of tree (call (NLocal 0) leaf) (NLocal 1)) ≡ Some (NLocal 0)

-- a group whose right sides use each other
abbrev pub GroupNotUsed : Type 0
GroupNotUsed = made_by row.LetDead (let_both (NLocal 0) (NLocal 1) (call (NLocal 2) leaf)) ≡ Some (call (NLocal 0) leaf)

abbrev pub LetUsed : Type 0
LetUsed = made_by row.LetDead (let_of tree leaf (node (NLocal 1) (NLocal 0))) ≡ None

-- one of a group is used
abbrev pub GroupUsed : Type 0
GroupUsed = made_by row.LetDead (let_both leaf leaf (NLocal 1)) ≡ None

abbrev pub LetOfAVariable : Type 0
LetOfAVariable = made_by row.LetAtom (let_of tree (NLocal 0) (node (NLocal 0) (NLocal 1))) ≡ Some (node (NLocal 0) (NLocal 0))

-- a cast of a variable at a type
abbrev pub LetOfACast : Type 0
LetOfACast = made_by row.LetAtom (let_of tree (NCast (NApp (NLocal 0) (NAType age)) as_tree) (lambda (NLocal 1))) ≡ Some (lambda (NCast (NApp (NLocal 1) (NAType age)) as_tree))

abbrev pub LetOfAConstructor : Type 0
LetOfAConstructor = made_by row.LetAtom (let_of tree leaf (NLocal 0)) ≡ None

abbrev pub LetOfACall : Type 0
LetOfACall = made_by row.LetAtom (let_of tree (call (NLocal 0) (NLocal 1)) (NLocal 0)) ≡ None

abbrev pub RecursiveLetOfAVariable : Type 0
RecursiveLetOfAVariable = made_by row.LetAtom (let_rec (NLocal 1) (NLocal 0)) ≡ None

-- past a binder what is put in goes past it
abbrev pub UsedOnce : Type 0
UsedOnce = made_by row.LetOnce (let_of tree (call (NLocal 1) (NLocal 0)) (let_of tree leaf (call (NLocal 3) (NLocal 1))))
    ≡ Some (let_of tree leaf (call (NLocal 2) (call (NLocal 2) (NLocal 1))))

abbrev pub UsedInATypeLambda : Type 0
UsedInATypeLambda = made_by row.LetOnce (let_of tree (NFail (NTVar 0)) (NLam (NBType KStar) (NLocal 0))) ≡ Some (NLam (NBType KStar) (NFail (NTVar 1)))

-- as a field below a cast
abbrev pub UsedBelowACast : Type 0
UsedBelowACast = made_by row.LetOnce (let_of age (call (NLocal 0) leaf) (node (NCast (NLocal 0) as_tree) leaf)) ≡ Some (node (NCast (call (NLocal 0) leaf) as_tree) leaf)

abbrev pub UsedInAJoinPoint : Type 0
UsedInAJoinPoint = made_by row.LetOnce (let_of tree leaf (join_of false [] (NLocal 0) (jump NoNArgs))) ≡ Some (join_of false [] leaf (jump NoNArgs))

abbrev pub NeverUsed : Type 0
NeverUsed = made_by row.LetOnce (let_of tree leaf (NLocal 1)) ≡ None

abbrev pub UsedTwice : Type 0
UsedTwice = made_by row.LetOnce (let_of tree leaf (call (call (NLocal 1) (NLocal 0)) (NLocal 0))) ≡ None

abbrev pub UsedInALambda : Type 0
UsedInALambda = made_by row.LetOnce (let_of tree leaf (lambda (NLocal 1))) ≡ None

abbrev pub UsedInACoercionLambda : Type 0
UsedInACoercionLambda = made_by row.LetOnce (let_of tree leaf (NLam (NBCo R age tree) (NLocal 0))) ≡ None

abbrev pub UsedInARecursiveJoinPoint : Type 0
UsedInARecursiveJoinPoint = made_by row.LetOnce (let_of tree leaf (join_of true [] (NLocal 0) (jump NoNArgs))) ≡ None

abbrev pub UsedAsAField : Type 0
UsedAsAField = made_by row.LetOnce (let_of tree leaf (node (NLocal 0) leaf)) ≡ None

abbrev pub UnliftedUsedOnce : Type 0
UnliftedUsedOnce = made_by row.LetOnce (let_of NTInt (NLit (pos 1)) (call (NLocal 1) (NLocal 0))) ≡ None

abbrev pub RecursiveUsedOnce : Type 0
RecursiveUsedOnce = made_by row.LetOnce (let_rec leaf (call (NLocal 1) (NLocal 0))) ≡ None

-- CASTS AND FAILURES

abbrev pub FailureApplied : Type 0
FailureApplied = made_by row.FailAbsorb (call (NFail (NTFun tree age)) leaf) ≡ Some (NFail age)

abbrev pub FailureAtAType : Type 0
FailureAtAType = made_by row.FailAbsorb (NApp (NFail (NTForall KStar (NTFun (NTVar 0) (NTVar 1)))) (NAType tree)) ≡ Some (NFail (NTFun tree (NTVar 0)))

abbrev pub FailureLookedAt : Type 0
FailureLookedAt = made_by row.FailAbsorb (NCase (NFail tree) tree age NoNAlts) ≡ Some (NFail age)

abbrev pub FailureCast : Type 0
FailureCast = made_by row.FailAbsorb (NCast (NFail age) as_tree) ≡ Some (NFail tree)

abbrev pub FailureAsAnArgument : Type 0
FailureAsAnArgument = made_by row.FailAbsorb (call (NLocal 0) (NFail tree)) ≡ None

-- the whole has no type
abbrev pub FailureOfNoFunction : Type 0
FailureOfNoFunction = made_by row.FailAbsorb (call (NFail tree) leaf) ≡ None

abbrev pub EqualEnds : Type 0
EqualEnds = made_by row.CastRefl (NCast (NLocal 0) (NGTrans as_tree (NGSym as_tree))) ≡ Some (NLocal 0)

abbrev pub DifferentEnds : Type 0
DifferentEnds = made_by row.CastRefl (NCast (NLocal 0) as_tree) ≡ None

abbrev pub CastTwice : Type 0
CastTwice = made_by row.CastCast (NCast (NCast (NLocal 0) as_tree) (NGSym as_tree)) ≡ Some (NCast (NLocal 0) (NGTrans as_tree (NGSym as_tree)))

abbrev pub CastAlone : Type 0
CastAlone = made_by row.CastCast (NCast (NLocal 0) as_tree) ≡ None

-- JOINS

abbrev pub NoJump : Type 0
NoJump = made_by row.JoinDead (join_of false [] leaf (NLocal 0)) ≡ Some (NLocal 0)

-- only the right side jumps
abbrev pub NoJumpFromTheBody : Type 0
NoJumpFromTheBody = made_by row.JoinDead (join_of true [] (jump NoNArgs) (NLocal 0)) ≡ Some (NLocal 0)

abbrev pub JumpFromTheBody : Type 0
JumpFromTheBody = made_by row.JoinDead (join_of false [] leaf (case_of (NLocal 0) (on_default (jump NoNArgs) NoNAlts))) ≡ None

-- the arguments get lets in their order
abbrev pub JumpOnce : Type 0
JumpOnce = made_by row.JoinOnce
    (join_of false (NBValue tree ∷ NBValue tree ∷ []) (node (NLocal 1) (node (NLocal 0) (NLocal 2))) (case_of (NLocal 0) (on_node (jump (two (NLocal 0) (NLocal 3))) NoNAlts)))
    ≡ Some (case_of (NLocal 0) (on_node (let_of tree (NLocal 0) (let_of tree (NLocal 4) (node (NLocal 1) (node (NLocal 0) (NLocal 5))))) NoNAlts))

-- types are put in, also into the types of the lets
abbrev pub JumpAtAType : Type 0
JumpAtAType = made_by row.JoinOnce
    (join_of false (NBType KStar ∷ NBValue (NTVar 0) ∷ []) (NCase (NLocal 0) (NTVar 0) tree NoNAlts) (jump (MoreNArgs (NAType age) (MoreNArgs (NATerm (NLocal 0)) NoNArgs))))
    ≡ Some (let_of age (NLocal 0) (NCase (NLocal 0) age tree NoNAlts))

-- below a let in an alternative, which a case looks at
abbrev pub JumpBelowALet : Type 0
JumpBelowALet = made_by row.JoinOnce
    (join_of false [] leaf (case_of (case_of (NLocal 0) (on_default (NLocal 0) NoNAlts)) (on_default (let_of tree leaf (jump NoNArgs)) NoNAlts)))
    ≡ Some (case_of (case_of (NLocal 0) (on_default (NLocal 0) NoNAlts)) (on_default (let_of tree leaf leaf) NoNAlts))

-- from the right side of another join point, which may run more than once
abbrev pub JumpFromARecursiveJoinPoint : Type 0
JumpFromARecursiveJoinPoint = made_by row.JoinOnce (join_of false [] leaf (join_of true [] (NJump 1 NoNArgs) (jump NoNArgs))) ≡ Some (join_of true [] leaf (jump NoNArgs))

abbrev pub JumpAsAWholeAlternative : Type 0
JumpAsAWholeAlternative = made_by row.JoinOnce
    (join_of false [] leaf (case_of (case_of (NLocal 0) (on_default (NLocal 0) NoNAlts)) (on_default (jump NoNArgs) NoNAlts)))
    ≡ None

-- that case looks at a join
abbrev pub JumpBehindAJoin : Type 0
JumpBehindAJoin = made_by row.JoinOnce
    (join_of false [] leaf (case_of (join_of false [] leaf (jump NoNArgs)) (on_default (jump NoNArgs) NoNAlts)))
    ≡ None

abbrev pub JumpTwice : Type 0
JumpTwice = made_by row.JoinOnce (join_of false [] leaf (case_of (NLocal 0) (on_leaf (jump NoNArgs) (on_node (jump NoNArgs) NoNAlts)))) ≡ None

abbrev pub NoJumpAtAll : Type 0
NoJumpAtAll = made_by row.JoinOnce (join_of false [] leaf (NLocal 0)) ≡ None

abbrev pub RecursiveJumpOnce : Type 0
RecursiveJumpOnce = made_by row.JoinOnce (join_of true [] leaf (jump NoNArgs)) ≡ None

abbrev pub JumpWithFewerArguments : Type 0
JumpWithFewerArguments = made_by row.JoinOnce (join_of false (NBValue tree ∷ []) (NLocal 0) (jump NoNArgs)) ≡ None

abbrev pub JumpWithMoreArguments : Type 0
JumpWithMoreArguments = made_by row.JoinOnce (join_of false [] leaf (jump (MoreNArgs (NATerm leaf) NoNArgs))) ≡ None

-- COMMUTING

-- what is applied is a group; the argument goes past it
abbrev pub LetApplied : Type 0
LetApplied = made_by row.AppOfLet (call (let_both leaf leaf (NLocal 2)) (NLocal 1)) ≡ Some (let_both leaf leaf (call (NLocal 2) (NLocal 3)))

abbrev pub LetAtAType : Type 0
LetAtAType = made_by row.AppOfLet (NApp (let_of tree leaf (NLocal 1)) (NAType tree)) ≡ Some (let_of tree leaf (NApp (NLocal 1) (NAType tree)))

abbrev pub LetAsAnArgument : Type 0
LetAsAnArgument = made_by row.AppOfLet (call (NLocal 0) (let_of tree leaf (NLocal 0))) ≡ None

-- the case binder stays, and what stands around goes past the let
abbrev pub LetLookedAt : Type 0
LetLookedAt = made_by row.CaseOfLet (case_of (let_of tree leaf (NLocal 0)) (on_default (node (NLocal 0) (NLocal 1)) NoNAlts))
    ≡ Some (let_of tree leaf (case_of (NLocal 0) (on_default (node (NLocal 0) (NLocal 2)) NoNAlts)))

abbrev pub LetInAnAlternative : Type 0
LetInAnAlternative = made_by row.CaseOfLet (case_of (NLocal 0) (on_default (let_of tree leaf (NLocal 0)) NoNAlts)) ≡ None

abbrev pub LetCast : Type 0
LetCast = made_by row.CastOfLet (NCast (let_rec leaf (NLocal 1)) as_tree) ≡ Some (let_rec leaf (NCast (NLocal 1) as_tree))

abbrev pub CastInALet : Type 0
CastInALet = made_by row.CastOfLet (let_of tree (NCast (NLocal 0) as_tree) (NLocal 0)) ≡ None

-- a value behind two lets
abbrev pub LetOfAValueBehindLets : Type 0
LetOfAValueBehindLets = made_by row.LetOfLet (let_of tree (let_rec (NLocal 0) (let_of tree leaf (node (NLocal 0) (NLocal 1)))) (node (NLocal 0) (NLocal 1)))
    ≡ Some (let_rec (NLocal 0) (let_of tree (let_of tree leaf (node (NLocal 0) (NLocal 1))) (node (NLocal 0) (NLocal 2))))

abbrev pub LetOfACallBehindALet : Type 0
LetOfACallBehindALet = made_by row.LetOfLet (let_of tree (let_of tree leaf (call (NLocal 1) (NLocal 0))) (NLocal 0)) ≡ None

abbrev pub RecursiveLetOfALet : Type 0
RecursiveLetOfALet = made_by row.LetOfLet (let_rec (let_of tree leaf (node (NLocal 0) (NLocal 0))) (NLocal 0)) ≡ None

-- the first field that is not trivial
abbrev pub FieldNamed : Type 0
FieldNamed = made_by row.NameField (let_of tree (node (NLocal 0) (call (NLocal 0) leaf)) (node (NLocal 0) (NLocal 1)))
    ≡ Some (let_of tree (call (NLocal 0) leaf) (let_of tree (node (NLocal 1) (NLocal 0)) (node (NLocal 0) (NLocal 2))))

-- its type is the declared one at the types that stand before it
abbrev pub FieldOfABoundType : Type 0
FieldOfABoundType = made_by row.NameField (let_of tree (NCon (named (codes "Any")) (MoreNArgs (NAType age) (MoreNArgs (NATerm (call (NLocal 0) leaf)) NoNArgs))) (NLocal 0))
    ≡ Some (let_of age (call (NLocal 0) leaf) (let_of tree (NCon (named (codes "Any")) (MoreNArgs (NAType age) (MoreNArgs (NATerm (NLocal 0)) NoNArgs))) (NLocal 0)))

abbrev pub FieldsAreTrivial : Type 0
FieldsAreTrivial = made_by row.NameField (let_of tree (node (NLocal 0) (NCast (NLocal 1) as_tree)) (NLocal 0)) ≡ None

abbrev pub RecursiveField : Type 0
RecursiveField = made_by row.NameField (let_rec (node (NLocal 0) leaf) (NLocal 0)) ≡ None

abbrev pub FieldOfNoLet : Type 0
FieldOfNoLet = made_by row.NameField (node leaf leaf) ≡ None

-- MODULES

abbrev pub RowInADefinition : Type 0
RowInADefinition = rewritten [] row.CastCast (codes "whole") (1 ∷ 1 ∷ []) (holding (lambda (NCast (NCast (NLocal 0) as_tree) (NGSym as_tree))))
    ≡ Some (holding (lambda (NCast (NLocal 0) (NGTrans as_tree (NGSym as_tree)))))

-- the type of a definition is its part 0
abbrev pub RowInAType : Type 0
RowInAType = rewritten [] row.CastCast (codes "whole") (0 ∷ []) (holding (NCast (NCast small as_tree) as_tree)) ≡ None

abbrev pub RowInNoDefinition : Type 0
RowInNoDefinition = rewritten [] row.CastCast (codes "other") (1 ∷ []) (holding (NCast (NCast small as_tree) as_tree)) ≡ None

-- a part that is no expression
abbrev pub RowAtABinder : Type 0
RowAtABinder = rewritten [] row.CastCast (codes "whole") (1 ∷ 0 ∷ []) (holding (lambda (NLocal 0))) ≡ None

-- the right side of a bind is its part 1, and its type is part 0
abbrev pub RowInARightSide : Type 0
RowInARightSide = made_at row.CastCast (0 ∷ 1 ∷ []) (let_of tree (NCast (NCast small as_tree) (NGSym as_tree)) (NLocal 0)) ≡ Some (let_of tree (NCast small (NGTrans as_tree (NGSym as_tree))) (NLocal 0))

abbrev pub RowInTheTypeOfABind : Type 0
RowInTheTypeOfABind = made_at row.CastCast (0 ∷ 0 ∷ []) (let_of tree (NCast (NCast small as_tree) (NGSym as_tree)) (NLocal 0)) ≡ None

abbrev pub all_but_whole : Word → Bool
all_but_whole w = not (bytes_eq w (codes "whole"))

abbrev pub DefinitionDropped : Type 0
DefinitionDropped = without_definitions all_but_whole (NDef (codes "whole") tree (call same small) ∷ declared) ≡ declared

-- WHAT IMPORTS TELL

-- a right side that is not told is a failure, and its definition no wrapper
abbrev pub UntoldFails : Type 0
UntoldFails = told_declarations (true ∷ false ∷ []) (NDef (codes "small") tree leaf ∷ NWrap (codes "same") (NTFun tree tree) (lambda (NLocal 0)) ∷ [])
    ≡ NDef (codes "small") tree leaf ∷ NDef (codes "same") (NTFun tree tree) (NFail (NTFun tree tree)) ∷ []

abbrev pub importing : Word → List Word → NModule
importing m imports = NModuleOf m imports [] [] []

-- through another module, but not what only a third one imports
abbrev pub ReachedThroughOthers : Type 0
ReachedThroughOthers = reached_by_imports (importing (codes "D") (codes "C" ∷ []))
    (importing (codes "E") (codes "B" ∷ []) ∷ importing (codes "C") (codes "A" ∷ []) ∷ importing (codes "B") [] ∷ importing (codes "A") [] ∷ [])
    ≡ importing (codes "C") (codes "A" ∷ []) ∷ importing (codes "A") [] ∷ []

-- What rows make of small cases.
use Rattle.std.specs.Prelude.{◌≡◌, pos, [], ◌∷◌, Some, None, codes}
use Rattle.fc_syntax.specs.declared.expr.Head.TheVariants as head
use Rattle.fc_syntax.specs.declared.ty.Role.TheVariants.{R}
use Rattle.fc_syntax.specs.Tree.{KStar}
use Rattle.fc_log.specs.declared.log.Row.TheVariants as row
use Rattle.fc_model.specs.Nameless.{NTVar, NTCon, NTInt, NTFun, NGVar, NBValue, NBType, NBCo, NATerm, NAType, NACo, NBranch}
use Rattle.fc_model.specs.Nameless.{NExpr, NLocal, NLit, NLam, NCase, NCast, NCon, NFail, NArgs, NoNArgs, MoreNArgs, NAlts, NoNAlts, MoreNAlts}
use Rattle.fc_row_examples.specs.ExampleTerms.{age, as_tree, call, case_of, lambda, leaf, let_rec, made_at, made_by, named, node, on_default, on_leaf, on_literal, on_node, same, small, tree}
use Rattle.fc_rows.specs.Shrinking.{let_of}

abbrev pub one : NExpr → NArgs
one a = MoreNArgs (NATerm a) NoNArgs

-- what looks at a number, and at a function
abbrev pub number_case : NExpr → NAlts → NExpr
number_case e alts = NCase e NTInt tree alts

abbrev pub function_case : NExpr → NAlts → NExpr
function_case e alts = NCase e (NTFun tree tree) tree alts

-- KNOWN CONSTRUCTORS

-- the fields get lets in their order
abbrev pub FieldsInOrder : Type 0
FieldsInOrder = made_by row.CaseKnown
    (case_of (node (call (NLocal 0) (NLocal 1)) (call (NLocal 1) (NLocal 0))) (on_node (call (NLocal 1) (call (NLocal 0) (NLocal 3))) NoNAlts))
    ≡ Some (let_of tree (call (NLocal 0) (NLocal 1)) (let_of tree (call (NLocal 2) (NLocal 1)) (call (NLocal 1) (call (NLocal 0) (NLocal 2)))))

-- and the case binder one behind them, where it occurs
abbrev pub BinderBehindFields : Type 0
BinderBehindFields = made_by row.CaseKnown (case_of (node (call (NLocal 0) (NLocal 1)) (NLocal 1)) (on_node (call (NLocal 2) (NLocal 1)) NoNAlts))
    ≡ Some (let_of tree (call (NLocal 0) (NLocal 1)) (let_of tree (NLocal 2) (let_of tree (node (NLocal 1) (NLocal 0)) (call (NLocal 0) (NLocal 2)))))

-- the type that a constructor binds is put in
abbrev pub BoundTypePutIn : Type 0
BoundTypePutIn = made_by row.CaseKnown
    (NCase (NCon (named (codes "Any")) (MoreNArgs (NAType tree) (one (NLocal 0)))) (NTCon (named (codes "Any"))) tree
    (MoreNAlts (NBranch (head.Con (named (codes "Any"))) (NBType KStar ∷ NBValue (NTVar 0) ∷ []) (call (NLam (NBValue (NTVar 0)) (NLocal 3)) (NLocal 0))) NoNAlts))
    ≡ Some (let_of tree (NLocal 0) (call (lambda (NLocal 2)) (NLocal 0)))

-- and the coercion that it binds
abbrev pub BoundCoercionPutIn : Type 0
BoundCoercionPutIn = made_by row.CaseKnown
    (NCase (NCon (named (codes "Aged")) (MoreNArgs (NACo as_tree) NoNArgs)) (NTCon (named (codes "Proof"))) tree
    (MoreNAlts (NBranch (head.Con (named (codes "Aged"))) (NBCo R age tree ∷ []) (NCast (NLocal 1) (NGVar 0))) NoNAlts))
    ≡ Some (NCast (NLocal 0) as_tree)

abbrev pub ConstructorAtDefault : Type 0
ConstructorAtDefault = made_by row.CaseKnown (case_of leaf (on_default (node (NLocal 0) (NLocal 1)) (on_node (NLocal 0) NoNAlts)))
    ≡ Some (let_of tree leaf (node (NLocal 0) (NLocal 1)))

abbrev pub NoAlternative : Type 0
NoAlternative = made_by row.CaseKnown (case_of leaf (on_node (NLocal 0) NoNAlts)) ≡ None

abbrev pub FewerFields : Type 0
FewerFields = made_by row.CaseKnown (case_of (NCon (named (codes "Node")) (one (NLocal 0))) (on_node (NLocal 0) NoNAlts)) ≡ None

abbrev pub MoreFields : Type 0
MoreFields = made_by row.CaseKnown (case_of (node (NLocal 0) (NLocal 1)) (MoreNAlts (NBranch (head.Con (named (codes "Node"))) (NBValue tree ∷ []) leaf) NoNAlts)) ≡ None

abbrev pub FieldOfAnotherSort : Type 0
FieldOfAnotherSort = made_by row.CaseKnown
    (case_of (NCon (named (codes "Any")) (MoreNArgs (NAType tree) (one (NLocal 0)))) (MoreNAlts (NBranch (head.Con (named (codes "Any"))) (NBValue tree ∷ NBType KStar ∷ []) leaf) NoNAlts))
    ≡ None

abbrev pub LookedAtACall : Type 0
LookedAtACall = made_by row.CaseKnown (case_of (call same leaf) (on_default (NLocal 0) NoNAlts)) ≡ None

-- KNOWN LITERALS

abbrev pub LiteralWithItsAlternative : Type 0
LiteralWithItsAlternative = made_by row.CaseKnown (number_case (NLit (pos 1)) (on_default leaf (on_literal (pos 1) (call (NLocal 1) (NLocal 0)) NoNAlts)))
    ≡ Some (let_of NTInt (NLit (pos 1)) (call (NLocal 1) (NLocal 0)))

abbrev pub LiteralAtDefault : Type 0
LiteralAtDefault = made_by row.CaseKnown (number_case (NLit (pos 2)) (on_default leaf (on_literal (pos 1) (call (NLocal 1) (NLocal 0)) NoNAlts)))
    ≡ Some (let_of NTInt (NLit (pos 2)) leaf)

abbrev pub LiteralWithoutAlternative : Type 0
LiteralWithoutAlternative = made_by row.CaseKnown (number_case (NLit (pos 2)) (on_literal (pos 1) leaf NoNAlts)) ≡ None

-- KNOWN VARIABLES

abbrev pub KnownByALet : Type 0
KnownByALet = made_at row.CaseKnown (1 ∷ []) (let_of tree (node (NLocal 0) (NLocal 1)) (case_of (NLocal 0) (on_node (call (NLocal 1) (node (NLocal 0) (NLocal 2))) NoNAlts)))
    ≡ Some (let_of tree (node (NLocal 0) (NLocal 1)) (call (NLocal 1) (node (NLocal 2) (NLocal 0))))

-- a right side of a recursive let stands inside of it
abbrev pub KnownByARecursiveLet : Type 0
KnownByARecursiveLet = made_at row.CaseKnown (1 ∷ []) (let_rec (node (NLocal 0) (NLocal 1)) (case_of (NLocal 0) (on_node (call (NLocal 1) (NLocal 0)) NoNAlts)))
    ≡ Some (let_rec (node (NLocal 0) (NLocal 1)) (call (NLocal 0) (NLocal 1)))

abbrev pub KnownByADefinition : Type 0
KnownByADefinition = made_by row.CaseKnown (case_of small (on_leaf (NLocal 0) NoNAlts)) ≡ Some small

abbrev pub KnownAtDefault : Type 0
KnownAtDefault = made_by row.CaseKnown (case_of small (on_default (node (NLocal 0) (NLocal 1)) NoNAlts)) ≡ Some (node small (NLocal 0))

-- in an alternative the fields of what a case around it looks at are known, and so are those of its case binder
abbrev pub KnownInAnAlternative : Type 0
KnownInAnAlternative = made_at row.CaseKnown (3 ∷ 2 ∷ []) (case_of (NLocal 0) (on_node (case_of (NLocal 3) (on_node (call (NLocal 1) (NLocal 2)) NoNAlts)) NoNAlts))
    ≡ Some (case_of (NLocal 0) (on_node (call (NLocal 1) (NLocal 3)) NoNAlts))

abbrev pub KnownCaseBinder : Type 0
KnownCaseBinder = made_at row.CaseKnown (3 ∷ 2 ∷ []) (case_of (NLocal 0) (on_node (case_of (NLocal 2) (on_node (call (NLocal 1) (NLocal 2)) NoNAlts)) NoNAlts))
    ≡ Some (case_of (NLocal 0) (on_node (call (NLocal 1) (NLocal 2)) NoNAlts))

abbrev pub KnownLiteral : Type 0
KnownLiteral = made_at row.CaseKnown (3 ∷ 0 ∷ []) (number_case (NLocal 0) (on_literal (pos 1) (number_case (NLocal 1) (on_literal (pos 1) (call (NLocal 3) (NLocal 0)) NoNAlts)) NoNAlts))
    ≡ Some (number_case (NLocal 0) (on_literal (pos 1) (call (NLocal 2) (NLocal 1)) NoNAlts))

abbrev pub KnownLiteralAtDefault : Type 0
KnownLiteralAtDefault = made_at row.CaseKnown (3 ∷ 0 ∷ [])
    (number_case (NLocal 0) (on_literal (pos 1) (number_case (NLocal 1) (on_default (call (NLocal 3) (NLocal 0)) (on_literal (pos 2) leaf NoNAlts))) NoNAlts))
    ≡ Some (number_case (NLocal 0) (on_literal (pos 1) (call (NLocal 2) (NLocal 1)) NoNAlts))

abbrev pub UnknownVariable : Type 0
UnknownVariable = made_by row.CaseKnown (case_of (NLocal 0) (on_default leaf NoNAlts)) ≡ None

-- the variable of the let behind a lambda is known, and the lambda's own, which hides it, is not
abbrev pub KnownBehindALambda : Type 0
KnownBehindALambda = made_at row.CaseKnown (1 ∷ 1 ∷ []) (let_of tree leaf (lambda (case_of (NLocal 1) (on_leaf small NoNAlts)))) ≡ Some (let_of tree leaf (lambda small))

abbrev pub HiddenByALambda : Type 0
HiddenByALambda = made_at row.CaseKnown (1 ∷ 1 ∷ []) (let_of tree leaf (lambda (case_of (NLocal 0) (on_leaf small NoNAlts)))) ≡ None

-- what has a field that is not trivial, a lambda, and what is cast are no known constructors
abbrev pub KnownWithACall : Type 0
KnownWithACall = made_at row.CaseKnown (1 ∷ []) (let_of tree (node (call same leaf) (NLocal 1)) (case_of (NLocal 0) (on_default leaf NoNAlts))) ≡ None

abbrev pub KnownAsALambda : Type 0
KnownAsALambda = made_by row.CaseKnown (function_case same (on_default leaf NoNAlts)) ≡ None

abbrev pub KnownBelowACast : Type 0
KnownBelowACast = made_by row.CaseKnown (case_of (NCast small as_tree) (on_default leaf NoNAlts)) ≡ None

abbrev pub KnownWithoutAlternative : Type 0
KnownWithoutAlternative = made_by row.CaseKnown (case_of small (on_node leaf NoNAlts)) ≡ None

-- the innermost fact counts: in a default it is known of what a let binds only what it is not
abbrev pub KnownInADefault : Type 0
KnownInADefault = made_at row.CaseKnown (1 ∷ 3 ∷ 0 ∷ []) (let_of tree leaf (case_of (NLocal 0) (on_default (case_of (NLocal 1) (on_leaf leaf NoNAlts)) NoNAlts))) ≡ None

-- EVALUATED

abbrev pub EvaluatedDefinition : Type 0
EvaluatedDefinition = made_by row.CaseEvaluated (function_case same (on_default (call (NLocal 0) (NLocal 1)) NoNAlts)) ≡ Some (call same (NLocal 0))

abbrev pub EvaluatedConstructor : Type 0
EvaluatedConstructor = made_at row.CaseEvaluated (1 ∷ []) (let_of tree leaf (case_of (NLocal 0) (on_default (node (NLocal 0) (NLocal 1)) NoNAlts)))
    ≡ Some (let_of tree leaf (node (NLocal 0) (NLocal 0)))

abbrev pub EvaluatedInADefault : Type 0
EvaluatedInADefault = made_at row.CaseEvaluated (3 ∷ 0 ∷ []) (case_of (NLocal 0) (on_default (case_of (NLocal 1) (on_default (NLocal 0) NoNAlts)) (on_leaf leaf NoNAlts)))
    ≡ Some (case_of (NLocal 0) (on_default (NLocal 1) (on_leaf leaf NoNAlts)))

abbrev pub EvaluatedLiteral : Type 0
EvaluatedLiteral = made_by row.CaseEvaluated (number_case (NLit (pos 1)) (on_default (call (NLocal 1) (NLocal 0)) NoNAlts)) ≡ Some (call (NLocal 0) (NLit (pos 1)))

-- a variable of a number is an atom
abbrev pub EvaluatedNumber : Type 0
EvaluatedNumber = made_at row.CaseEvaluated (1 ∷ []) (NLam (NBValue NTInt) (number_case (NLocal 0) (on_default (call (NLocal 2) (NLocal 0)) NoNAlts)))
    ≡ Some (NLam (NBValue NTInt) (call (NLocal 1) (NLocal 0)))

abbrev pub EvaluatedLambda : Type 0
EvaluatedLambda = made_by row.CaseEvaluated (function_case (lambda (NLocal 0)) (on_default (call (NLocal 0) (NLocal 1)) NoNAlts))
    ≡ Some (let_of (NTFun tree tree) (lambda (NLocal 0)) (call (NLocal 0) (NLocal 1)))

-- a lambda over a type around one over a coercion
abbrev pub EvaluatedCoercionLambda : Type 0
EvaluatedCoercionLambda = made_by row.CaseEvaluated (case_of (NLam (NBType KStar) (NLam (NBCo R age tree) (NLocal 0))) (on_default (NLocal 0) NoNAlts))
    ≡ Some (let_of tree (NLam (NBType KStar) (NLam (NBCo R age tree) (NLocal 0))) (NLocal 0))

-- a constructor that is cast is a value, and no constructor
abbrev pub EvaluatedCast : Type 0
EvaluatedCast = made_by row.CaseEvaluated (case_of (NCast leaf as_tree) (on_default (NLocal 0) NoNAlts)) ≡ Some (let_of tree (NCast leaf as_tree) (NLocal 0))

abbrev pub VariableOfATree : Type 0
VariableOfATree = made_at row.CaseEvaluated (1 ∷ []) (lambda (case_of (NLocal 0) (on_default leaf NoNAlts))) ≡ None

-- a let of what is no value
abbrev pub LetIsNotEvaluated : Type 0
LetIsNotEvaluated = made_at row.CaseEvaluated (1 ∷ []) (let_of tree (call same leaf) (case_of (NLocal 0) (on_default leaf NoNAlts))) ≡ None

abbrev pub ConstructorItself : Type 0
ConstructorItself = made_by row.CaseEvaluated (case_of leaf (on_default (NLocal 0) NoNAlts)) ≡ None

abbrev pub CallIsNoValue : Type 0
CallIsNoValue = made_by row.CaseEvaluated (case_of (call same leaf) (on_default (NLocal 0) NoNAlts)) ≡ None

-- a lambda over a type around what is no value
abbrev pub TypeLambdaIsNoValue : Type 0
TypeLambdaIsNoValue = made_by row.CaseEvaluated (case_of (NLam (NBType KStar) (NFail tree)) (on_default (NLocal 0) NoNAlts)) ≡ None

abbrev pub EvaluatedWithMoreAlternatives : Type 0
EvaluatedWithMoreAlternatives = made_by row.CaseEvaluated (case_of small (on_default leaf (on_leaf leaf NoNAlts))) ≡ None

abbrev pub EvaluatedWithoutDefault : Type 0
EvaluatedWithoutDefault = made_by row.CaseEvaluated (case_of small (on_leaf leaf NoNAlts)) ≡ None

-- MERGED CASES

abbrev pub InnerCaseMerged : Type 0
InnerCaseMerged = made_by row.CaseMerge (case_of (call same (NLocal 0)) (on_default (case_of (NLocal 0) (on_node (node (node (NLocal 0) (NLocal 2)) (node (NLocal 3) (NLocal 4))) NoNAlts)) NoNAlts))
    ≡ Some (case_of (call same (NLocal 0)) (on_node (node (node (NLocal 0) (NLocal 2)) (node (NLocal 2) (NLocal 3))) NoNAlts))

abbrev pub InnerCaseOfAnother : Type 0
InnerCaseOfAnother = made_by row.CaseMerge (case_of small (on_default (case_of (NLocal 1) (on_leaf leaf NoNAlts)) NoNAlts)) ≡ None

abbrev pub InnerCaseBesideAnAlternative : Type 0
InnerCaseBesideAnAlternative = made_by row.CaseMerge (case_of small (on_default (case_of (NLocal 0) (on_leaf leaf NoNAlts)) (on_leaf leaf NoNAlts))) ≡ None

abbrev pub InnerCaseInNoDefault : Type 0
InnerCaseInNoDefault = made_by row.CaseMerge (case_of small (on_leaf (case_of (NLocal 0) (on_leaf leaf NoNAlts)) NoNAlts)) ≡ None

-- DEAD ALTERNATIVES

-- in the default of a case that lists the leaf, an alternative of the leaf is dead
abbrev pub AlternativeDead : Type 0
AlternativeDead = made_at row.AltDead (3 ∷ 0 ∷ 3 ∷ []) (case_of (NLocal 0) (on_default (case_of (NLocal 1) (on_leaf leaf (on_node (NLocal 0) NoNAlts))) (on_leaf small NoNAlts)))
    ≡ Some (case_of (NLocal 0) (on_default (case_of (NLocal 1) (on_node (NLocal 0) NoNAlts)) (on_leaf small NoNAlts)))

-- a later one, of the case binder
abbrev pub LiteralDead : Type 0
LiteralDead = made_at row.AltDead (3 ∷ 0 ∷ 4 ∷ [])
    (number_case (NLocal 0) (on_default (number_case (NLocal 0) (on_default leaf (on_literal (pos 1) small NoNAlts))) (on_literal (pos 1) small NoNAlts)))
    ≡ Some (number_case (NLocal 0) (on_default (number_case (NLocal 0) (on_default leaf NoNAlts)) (on_literal (pos 1) small NoNAlts)))

-- of a definition, of which the default hides what it is
abbrev pub AlternativeOfADefinition : Type 0
AlternativeOfADefinition = made_at row.AltDead (3 ∷ 0 ∷ 3 ∷ [])
    (case_of small (on_default (case_of small (on_leaf leaf (on_node (NLocal 0) NoNAlts))) (on_leaf leaf NoNAlts)))
    ≡ Some (case_of small (on_default (case_of small (on_node (NLocal 0) NoNAlts)) (on_leaf leaf NoNAlts)))

abbrev pub AlternativeOfAnotherHead : Type 0
AlternativeOfAnotherHead = made_at row.AltDead (3 ∷ 0 ∷ 4 ∷ []) (case_of (NLocal 0) (on_default (case_of (NLocal 1) (on_leaf leaf (on_node (NLocal 0) NoNAlts))) (on_leaf small NoNAlts))) ≡ None

abbrev pub DefaultIsNotDead : Type 0
DefaultIsNotDead = made_at row.AltDead (3 ∷ 0 ∷ 3 ∷ []) (case_of (NLocal 0) (on_default (case_of (NLocal 1) (on_default leaf NoNAlts)) (on_leaf small NoNAlts))) ≡ None

abbrev pub AlternativeOfAnother : Type 0
AlternativeOfAnother = made_at row.AltDead (3 ∷ 0 ∷ 3 ∷ []) (case_of (NLocal 0) (on_default (case_of (NLocal 2) (on_leaf leaf NoNAlts)) (on_leaf small NoNAlts))) ≡ None

-- a known constructor leaves no alternative dead; the case is taken as a whole
abbrev pub AlternativeOfAKnown : Type 0
AlternativeOfAKnown = made_at row.AltDead (4 ∷ []) (case_of small (on_leaf leaf (on_node leaf NoNAlts))) ≡ None

-- the place of the case itself
abbrev pub PlaceOfTheCase : Type 0
PlaceOfTheCase = made_at row.AltDead (3 ∷ 0 ∷ []) (case_of (NLocal 0) (on_default (case_of (NLocal 1) (on_leaf leaf NoNAlts)) (on_leaf small NoNAlts))) ≡ None

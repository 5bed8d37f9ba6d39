-- Cases of rows.
use Rattle.std.specs.Prelude.{[], ◌∷◌}
use Rattle.fc_syntax.specs.declared.expr.PrimOp.TheVariants as op
use Rattle.fc_syntax.specs.declared.ty.Role.TheVariants.{R}
use Rattle.fc_syntax.specs.Tree.{KStar}
use Rattle.fc_log.specs.declared.log.Row.TheVariants as row
use Rattle.fc_model.specs.Nameless.{NTVar, NTInt, NTFun, NTForall, NGRefl, NGSym, NGAx, NoNCos}
use Rattle.fc_model.specs.Nameless.{NBValue, NBType, NLocal, NLam, NCase, NCast, NCon, NFail, NJump}
use Rattle.fc_model.specs.Nameless.{NoNBinds, NoNAlts}
use Rattle.fc_rows.specs.Shrinking.{let_of}
use Rattle.fc_row_cases.specs.CaseTerms.{makes, makes_nothing, call, at, by, none, given, bind, let_all, prim, otherwise, on_constructor}
use Rattle.fc_row_cases.specs.CaseTerms.{join_of}
use Rattle.fc_row_cases.specs.CaseNames.{type_Fn, type_Int, def_cid, def_idf, def_tid, def_two, name_CoFn, name_I_hash, name_MkPair}
use Rattle.fc_row_cases.specs.CaseModules.{with_int_idf_f, with_int_f, with_int_f_2, with_int_two_f, with_int_idf_f_2, with_int_pair_idf_f, with_int_two_idf_f, with_int_f_5, with_int_pair_f, with_int_f_6, with_int_fn_tid_f, with_int_cid_f}
use Rattle.fc_row_cases.specs.CaseModules.{with_f_5}

-- let-dead: example 2
abbrev pub LetDeadExample2 : Type 0
LetDeadExample2 = makes [] row.LetDead (1 ∷ 1 ∷ []) with_int_f_2
    (NLam (NBValue type_Int) (let_all (bind type_Int (NLocal 0) (bind type_Int (NLocal 1) NoNBinds)) (NLocal 2)))
    (NLam (NBValue type_Int) (NLocal 0))

-- let-dead: example 3
abbrev pub LetDeadExample3 : Type 0
LetDeadExample3 = makes_nothing [] row.LetDead (1 ∷ 1 ∷ []) with_int_f_2 (NLam (NBValue type_Int) (let_all (bind type_Int (NLocal 0) (bind type_Int (NLocal 1) NoNBinds)) (NLocal 0)))

-- let-dead: body binds the word again
abbrev pub LetDeadBodyBindsTheWordAgain : Type 0
LetDeadBodyBindsTheWordAgain = makes [] row.LetDead (1 ∷ 1 ∷ []) with_int_idf_f_2
    (NLam (NBValue type_Int) (let_of type_Int (call def_idf (NLocal 0)) (NLam (NBValue type_Int) (NLocal 0))))
    (NLam (NBValue type_Int) (NLam (NBValue type_Int) (NLocal 0)))

-- let-dead: used in an alternative
abbrev pub LetDeadUsedInAnAlternative : Type 0
LetDeadUsedInAnAlternative = makes_nothing [] row.LetDead (1 ∷ 1 ∷ []) with_int_idf_f (NLam (NBValue type_Int) (let_of type_Int (call def_idf (NLocal 0)) (NCase (NLocal 1) type_Int type_Int (otherwise (NLocal 0) (on_constructor name_I_hash (NBValue NTInt ∷ []) (NLocal 2) NoNAlts)))))

-- let-dead: distances fall by one
abbrev pub LetDeadDistancesFallByOne : Type 0
LetDeadDistancesFallByOne = makes [] row.LetDead (1 ∷ 1 ∷ []) with_int_pair_idf_f
    (NLam (NBValue type_Int) (let_of type_Int (call def_idf (NLocal 0)) (NLam (NBValue type_Int) (NCon name_MkPair (given (NLocal 2) (given (NLocal 0) none))))))
    (NLam (NBValue type_Int) (NLam (NBValue type_Int) (NCon name_MkPair (given (NLocal 1) (given (NLocal 0) none)))))

-- let-dead: in an argument
abbrev pub LetDeadInAnArgument : Type 0
LetDeadInAnArgument = makes [] row.LetDead (1 ∷ 1 ∷ 1 ∷ []) with_int_idf_f
    (NLam (NBValue type_Int) (call def_idf (let_of type_Int (call def_idf (NLocal 0)) (NLocal 1))))
    (NLam (NBValue type_Int) (call def_idf (NLocal 0)))

-- let-dead: hides an outer word
abbrev pub LetDeadHidesAnOuterWord : Type 0
LetDeadHidesAnOuterWord = makes [] row.LetDead (1 ∷ 1 ∷ []) with_int_two_idf_f
    (NLam (NBValue type_Int) (let_of type_Int (call def_idf (NLocal 0)) def_two))
    (NLam (NBValue type_Int) def_two)

-- let-dead: letrec whose last is used
abbrev pub LetDeadLetrecWhoseLastIsUsed : Type 0
LetDeadLetrecWhoseLastIsUsed = makes_nothing [] row.LetDead (1 ∷ 1 ∷ []) with_int_f_2 (NLam (NBValue type_Int) (let_all (bind type_Int (NLocal 3) (bind type_Int (NLocal 3) (bind type_Int (NLocal 3) NoNBinds))) (NLocal 0)))

-- let-dead: letrec whose words the body binds again
abbrev pub LetDeadLetrecWhoseWordsTheBodyBindsAgain : Type 0
LetDeadLetrecWhoseWordsTheBodyBindsAgain = makes [] row.LetDead (1 ∷ 1 ∷ []) with_int_f_5
    (NLam (NBValue type_Int) (let_all (bind type_Int (NLocal 0) (bind type_Int (NLocal 1) NoNBinds)) (NLam (NBValue type_Int) (NLam (NBValue type_Int) (NLocal 1)))))
    (NLam (NBValue type_Int) (NLam (NBValue type_Int) (NLam (NBValue type_Int) (NLocal 1))))

-- let-atom: example 2
abbrev pub LetAtomExample2 : Type 0
LetAtomExample2 = makes [] row.LetAtom (1 ∷ 1 ∷ []) with_int_pair_f
    (NLam (NBValue type_Int) (let_of type_Int (NLocal 0) (NCon name_MkPair (given (NLocal 0) (given (NLocal 0) none)))))
    (NLam (NBValue type_Int) (NCon name_MkPair (given (NLocal 0) (given (NLocal 0) none))))

-- let-atom: example 3
abbrev pub LetAtomExample3 : Type 0
LetAtomExample3 = makes_nothing [] row.LetAtom (1 ∷ 1 ∷ []) with_int_idf_f (NLam (NBValue type_Int) (let_of type_Int (call def_idf (NLocal 0)) (NLocal 0)))

-- let-atom: variable under a binder of its word
abbrev pub LetAtomVariableUnderABinderOfItsWord : Type 0
LetAtomVariableUnderABinderOfItsWord = makes [] row.LetAtom (1 ∷ 1 ∷ []) with_int_f
    (NLam (NBValue type_Int) (let_of type_Int (NLocal 0) (NLam (NBValue type_Int) (NLocal 1))))
    (NLam (NBValue type_Int) (NLam (NBValue type_Int) (NLocal 1)))

-- let-atom: binder of the variable's own word
abbrev pub LetAtomBinderOfTheVariableSOwnWord : Type 0
LetAtomBinderOfTheVariableSOwnWord = makes [] row.LetAtom (1 ∷ 1 ∷ []) with_int_idf_f
    (NLam (NBValue type_Int) (let_of type_Int (NLocal 0) (call def_idf (NLocal 0))))
    (NLam (NBValue type_Int) (call def_idf (NLocal 0)))

-- let-atom: unlifted variable in operands
abbrev pub LetAtomUnliftedVariableInOperands : Type 0
LetAtomUnliftedVariableInOperands = makes [] row.LetAtom (1 ∷ 1 ∷ []) with_int_f_6
    (NLam (NBValue NTInt) (let_of NTInt (NLocal 0) (NCase (prim op.Plus (NLocal 0) (NLocal 0)) NTInt type_Int (otherwise (NCon name_I_hash (given (NLocal 0) none)) NoNAlts))))
    (NLam (NBValue NTInt) (NCase (prim op.Plus (NLocal 0) (NLocal 0)) NTInt type_Int (otherwise (NCon name_I_hash (given (NLocal 0) none)) NoNAlts)))

-- let-atom: cast of a variable applied to a type
abbrev pub LetAtomCastOfAVariableAppliedToAType : Type 0
LetAtomCastOfAVariableAppliedToAType = makes [] row.LetAtom (1 ∷ 1 ∷ []) with_int_fn_tid_f
    (NLam (NBValue type_Int) (let_of type_Fn (NCast (at def_tid type_Int) (NGSym (NGAx name_CoFn NoNCos))) (call (NCast (NLocal 0) (NGAx name_CoFn NoNCos)) (NLocal 1))))
    (NLam (NBValue type_Int) (call (NCast (NCast (at def_tid type_Int) (NGSym (NGAx name_CoFn NoNCos))) (NGAx name_CoFn NoNCos)) (NLocal 0)))

-- let-atom: application to a coercion is not trivial
abbrev pub LetAtomApplicationToACoercionIsNotTrivial : Type 0
LetAtomApplicationToACoercionIsNotTrivial = makes_nothing [] row.LetAtom (1 ∷ 1 ∷ []) with_int_cid_f (NLam (NBValue type_Int) (let_of (NTFun type_Int type_Int) (by def_cid (NGRefl R type_Int)) (call (NLocal 0) (NLocal 1))))

-- let-atom: fail is not trivial
abbrev pub LetAtomFailIsNotTrivial : Type 0
LetAtomFailIsNotTrivial = makes_nothing [] row.LetAtom (1 ∷ 1 ∷ []) with_int_f_2 (NLam (NBValue type_Int) (let_of type_Int (NFail type_Int) (NLocal 0)))

-- let-atom: lambda is not trivial
abbrev pub LetAtomLambdaIsNotTrivial : Type 0
LetAtomLambdaIsNotTrivial = makes_nothing [] row.LetAtom (1 ∷ 1 ∷ []) with_int_f_2 (NLam (NBValue type_Int) (let_of (NTFun type_Int type_Int) (NLam (NBValue type_Int) (NLocal 0)) (call (NLocal 0) (NLocal 1))))

-- let-atom: type under a binder of its word
abbrev pub LetAtomTypeUnderABinderOfItsWord : Type 0
LetAtomTypeUnderABinderOfItsWord = makes [] row.LetAtom (1 ∷ 1 ∷ 1 ∷ []) with_f_5
    (NLam (NBType KStar) (NLam (NBValue (NTForall KStar (NTVar 1))) (let_of (NTVar 0) (at (NLocal 0) (NTVar 0)) (NLam (NBType KStar) (NLam (NBValue (NTVar 0)) (NLocal 1))))))
    (NLam (NBType KStar) (NLam (NBValue (NTForall KStar (NTVar 1))) (NLam (NBType KStar) (NLam (NBValue (NTVar 0)) (at (NLocal 1) (NTVar 1))))))

-- let-atom: no occurrence
abbrev pub LetAtomNoOccurrence : Type 0
LetAtomNoOccurrence = makes [] row.LetAtom (1 ∷ 1 ∷ []) with_int_two_f
    (NLam (NBValue type_Int) (let_of type_Int (NLocal 0) def_two))
    (NLam (NBValue type_Int) def_two)

-- let-atom: in a letrec that binds the variable's word
abbrev pub LetAtomInALetrecThatBindsTheVariableSWord : Type 0
LetAtomInALetrecThatBindsTheVariableSWord = makes [] row.LetAtom (1 ∷ 1 ∷ []) with_int_f_2
    (NLam (NBValue type_Int) (let_of type_Int (NLocal 0) (let_all (bind type_Int (NLocal 2) (bind type_Int (NLocal 1) NoNBinds)) (NLocal 0))))
    (NLam (NBValue type_Int) (let_all (bind type_Int (NLocal 2) (bind type_Int (NLocal 1) NoNBinds)) (NLocal 0)))

-- let-atom: under an alternative's binder of its word
abbrev pub LetAtomUnderAnAlternativeSBinderOfItsWord : Type 0
LetAtomUnderAnAlternativeSBinderOfItsWord = makes [] row.LetAtom (1 ∷ 1 ∷ []) with_int_two_f
    (NLam (NBValue type_Int) (let_of type_Int (NLocal 0) (NCase def_two type_Int type_Int (otherwise (NLocal 1) NoNAlts))))
    (NLam (NBValue type_Int) (NCase def_two type_Int type_Int (otherwise (NLocal 1) NoNAlts)))

-- let-atom: top-level name under a join point of its word
abbrev pub LetAtomTopLevelNameUnderAJoinPointOfItsWord : Type 0
LetAtomTopLevelNameUnderAJoinPointOfItsWord = makes [] row.LetAtom (1 ∷ 1 ∷ []) with_int_two_f
    (NLam (NBValue type_Int) (let_of type_Int def_two (join_of type_Int [] (NLocal 1) (NCase (NLocal 0) type_Int type_Int (otherwise (NJump 0 none) NoNAlts)))))
    (NLam (NBValue type_Int) (join_of type_Int [] (NLocal 0) (NCase def_two type_Int type_Int (otherwise (NJump 0 none) NoNAlts))))

abbrev pub LetCases : Type 0
LetCases = LetDeadExample2 × LetDeadExample3 × LetDeadBodyBindsTheWordAgain × LetDeadUsedInAnAlternative × LetDeadDistancesFallByOne × LetDeadInAnArgument × LetDeadHidesAnOuterWord × LetDeadLetrecWhoseLastIsUsed × LetDeadLetrecWhoseWordsTheBodyBindsAgain × LetAtomExample2 × LetAtomExample3 × LetAtomVariableUnderABinderOfItsWord × LetAtomBinderOfTheVariableSOwnWord × LetAtomUnliftedVariableInOperands × LetAtomCastOfAVariableAppliedToAType × LetAtomApplicationToACoercionIsNotTrivial × LetAtomFailIsNotTrivial × LetAtomLambdaIsNotTrivial × LetAtomTypeUnderABinderOfItsWord × LetAtomNoOccurrence × LetAtomInALetrecThatBindsTheVariableSWord × LetAtomUnderAnAlternativeSBinderOfItsWord × LetAtomTopLevelNameUnderAJoinPointOfItsWord

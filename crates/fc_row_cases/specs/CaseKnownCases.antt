-- Cases of rows.
use Rattle.std.specs.Prelude.{pos, negsuc, [], ◌∷◌}
use Rattle.fc_syntax.specs.declared.ty.Role.TheVariants.{N, R}
use Rattle.fc_syntax.specs.Tree.{KStar}
use Rattle.fc_log.specs.declared.log.Row.TheVariants as row
use Rattle.fc_model.specs.Nameless.{NTVar, NTInt, NTApp, NTFun, NTForall, NTCoForall, NGVar, NGRefl, NGSym, NGSub}
use Rattle.fc_model.specs.Nameless.{NBValue, NBType, NBCo, NLocal, NLit, NLam, NCase, NCast, NCon, NFail, NJump}
use Rattle.fc_model.specs.Nameless.{NoNBinds, NoNAlts}
use Rattle.fc_rows.specs.Shrinking.{let_of}
use Rattle.fc_row_cases.specs.CaseTerms.{makes, makes_nothing, call, none, given, given_type, given_coercion, bind, let_all, otherwise, on_literal}
use Rattle.fc_row_cases.specs.CaseTerms.{on_constructor, join_of}
use Rattle.fc_row_cases.specs.CaseNames.{type_Base_Int, type_Base_Pair, type_Bool, type_Box, type_Eq, type_Ex, type_ExC, type_Int, type_List, type_Pair, def_Base_cpair, def_Base_one}
use Rattle.fc_row_cases.specs.CaseNames.{def_Base_pair, def_Base_two, def_big, def_idf, def_pair, def_thk, def_two, name_Base_I_hash, name_Base_MkPair, name_Cons, name_False, name_I_hash}
use Rattle.fc_row_cases.specs.CaseNames.{name_MkBox, name_MkExC, name_MkPair, name_Pack, name_Refl, name_True}
use Rattle.fc_row_cases.specs.CaseModules.{with_int_f, with_int_f_2, with_int_two_f, told_int_pair_bx_two_pair_cpair_one_idf_rec_wrec_use_far_untold_fun1, with_f_4, with_int_two_idf_f, with_int_bool_f, with_int_pair_two_pair_f, with_int_pair_two_big_f, with_int_ex_idf_f, with_int_pair_f_2, with_int_ex_idf_f_2}
use Rattle.fc_row_cases.specs.CaseModules.{with_int_bool_two_f, with_int_pair_two_f, with_int_list_f, with_int_ex_f, with_int_ex_f_2, with_int_eq_f_2, with_int_two_f_4, with_int_pair_idf_f_3, with_int_two_idf_thk_f, with_int_box_f_2, with_exc_f}

-- case-known: example 3
abbrev pub CaseKnownExample3 : Type 0
CaseKnownExample3 = makes [] row.CaseKnown (1 ∷ 1 ∷ []) with_int_bool_f
    (NLam (NBValue type_Int) (NCase (NCon name_True none) type_Bool type_Bool (otherwise (NLocal 0) (on_constructor name_False [] (NCon name_True none) NoNAlts))))
    (NLam (NBValue type_Int) (let_of type_Bool (NCon name_True none) (NLocal 0)))

-- case-known: example 4
abbrev pub CaseKnownExample4 : Type 0
CaseKnownExample4 = makes_nothing [] row.CaseKnown (1 ∷ 1 ∷ []) with_int_bool_f (NLam (NBValue type_Int) (NCase (NCon name_True none) type_Bool type_Bool (on_constructor name_False [] (NCon name_True none) NoNAlts)))

-- case-known: example 5
abbrev pub CaseKnownExample5 : Type 0
CaseKnownExample5 = makes [] row.CaseKnown (1 ∷ 1 ∷ []) with_int_f_2
    (NLam (NBValue type_Int) (NCase (NLit (pos 3)) NTInt type_Int (otherwise (NCon name_I_hash (given (NLocal 0) none)) NoNAlts)))
    (NLam (NBValue type_Int) (let_of NTInt (NLit (pos 3)) (NCon name_I_hash (given (NLocal 0) none))))

-- case-known: example 7
abbrev pub CaseKnownExample7 : Type 0
CaseKnownExample7 = makes [] row.CaseKnown (1 ∷ 1 ∷ []) with_int_pair_two_pair_f
    (NLam (NBValue type_Int) (NCase def_pair type_Pair type_Int (on_constructor name_MkPair (NBValue type_Int ∷ NBValue type_Int ∷ []) (NLocal 1) NoNAlts)))
    (NLam (NBValue type_Int) def_two)

-- case-known: example 8
abbrev pub CaseKnownExample8 : Type 0
CaseKnownExample8 = makes_nothing [] row.CaseKnown (1 ∷ 1 ∷ []) with_int_pair_two_big_f (NLam (NBValue type_Int) (NCase def_big type_Pair type_Int (on_constructor name_MkPair (NBValue type_Int ∷ NBValue type_Int ∷ []) (NLocal 1) NoNAlts)))

-- case-known: example 12
abbrev pub CaseKnownExample12 : Type 0
CaseKnownExample12 = makes [] row.CaseKnown (1 ∷ 1 ∷ []) with_int_ex_idf_f
    (NLam (NBValue type_Int) (NCase (NCon name_Pack (given_type type_Int (given (NLocal 0) (given def_idf none)))) type_Ex type_Int (on_constructor name_Pack (NBType KStar ∷ NBValue (NTVar 0) ∷ NBValue (NTFun (NTVar 0) type_Int) ∷ []) (call (NLocal 0) (NLocal 1)) NoNAlts)))
    (NLam (NBValue type_Int) (let_of type_Int (NLocal 0) (let_of (NTFun type_Int type_Int) def_idf (call (NLocal 0) (NLocal 1)))))

-- case-known: fields whose words the binders take
abbrev pub CaseKnownFieldsWhoseWordsTheBindersTake : Type 0
CaseKnownFieldsWhoseWordsTheBindersTake = makes [] row.CaseKnown (1 ∷ 1 ∷ 1 ∷ []) with_int_pair_f_2
    (NLam (NBValue type_Int) (NLam (NBValue type_Int) (NCase (NCon name_MkPair (given (NLocal 1) (given (NLocal 0) none))) type_Pair type_Pair (on_constructor name_MkPair (NBValue type_Int ∷ NBValue type_Int ∷ []) (NCon name_MkPair (given (NLocal 0) (given (NLocal 1) none))) NoNAlts))))
    (NLam (NBValue type_Int) (NLam (NBValue type_Int) (let_of type_Int (NLocal 1) (let_of type_Int (NLocal 1) (NCon name_MkPair (given (NLocal 0) (given (NLocal 1) none)))))))

-- case-known: case binder used, existential
abbrev pub CaseKnownCaseBinderUsedExistential : Type 0
CaseKnownCaseBinderUsedExistential = makes [] row.CaseKnown (1 ∷ 1 ∷ []) with_int_ex_idf_f_2
    (NLam (NBValue type_Int) (NCase (NCon name_Pack (given_type type_Int (given (NLocal 0) (given def_idf none)))) type_Ex type_Ex (on_constructor name_Pack (NBType KStar ∷ NBValue (NTVar 0) ∷ NBValue (NTFun (NTVar 0) type_Int) ∷ []) (NLocal 2) NoNAlts)))
    (NLam (NBValue type_Int) (let_of type_Int (NLocal 0) (let_of (NTFun type_Int type_Int) def_idf (let_of type_Ex (NCon name_Pack (given_type type_Int (given (NLocal 1) (given (NLocal 0) none)))) (NLocal 0)))))

-- case-known: alternative before the default
abbrev pub CaseKnownAlternativeBeforeTheDefault : Type 0
CaseKnownAlternativeBeforeTheDefault = makes [] row.CaseKnown (1 ∷ 1 ∷ []) with_int_bool_two_f
    (NLam (NBValue type_Int) (NCase (NCon name_True none) type_Bool type_Int (otherwise (NLocal 1) (on_constructor name_True [] def_two NoNAlts))))
    (NLam (NBValue type_Int) def_two)

-- case-known: negative literal
abbrev pub CaseKnownNegativeLiteral : Type 0
CaseKnownNegativeLiteral = makes [] row.CaseKnown (1 ∷ 1 ∷ []) with_int_f_2
    (NLam (NBValue type_Int) (NCase (NLit (negsuc 2)) NTInt type_Int (otherwise (NLocal 1) (on_literal (negsuc 2) (NCon name_I_hash (given (NLocal 0) none)) NoNAlts))))
    (NLam (NBValue type_Int) (let_of NTInt (NLit (negsuc 2)) (NCon name_I_hash (given (NLocal 0) none))))

-- case-known: around a jump
abbrev pub CaseKnownAroundAJump : Type 0
CaseKnownAroundAJump = makes [] row.CaseKnown (1 ∷ 1 ∷ 2 ∷ []) with_int_f_2
    (NLam (NBValue type_Int) (join_of type_Int (NBValue type_Int ∷ []) (NLocal 0) (NCase (NCon name_I_hash (given (NLit (pos 3)) none)) type_Int type_Int (on_constructor name_I_hash (NBValue NTInt ∷ []) (NJump 0 (given (NLocal 1) none)) NoNAlts))))
    (NLam (NBValue type_Int) (join_of type_Int (NBValue type_Int ∷ []) (NLocal 0) (let_of NTInt (NLit (pos 3)) (let_of type_Int (NCon name_I_hash (given (NLocal 0) none)) (NJump 0 (given (NLocal 0) none))))))

-- case-known: known argument hidden by an inner let
abbrev pub CaseKnownKnownArgumentHiddenByAnInnerLet : Type 0
CaseKnownKnownArgumentHiddenByAnInnerLet = makes [] row.CaseKnown (1 ∷ 1 ∷ 1 ∷ 1 ∷ []) with_int_pair_two_f
    (NLam (NBValue type_Int) (let_of type_Pair (NCon name_MkPair (given (NLocal 0) (given def_two none))) (let_of type_Int def_two (NCase (NLocal 1) type_Pair type_Int (on_constructor name_MkPair (NBValue type_Int ∷ NBValue type_Int ∷ []) (NLocal 1) NoNAlts)))))
    (NLam (NBValue type_Int) (let_of type_Pair (NCon name_MkPair (given (NLocal 0) (given def_two none))) (let_of type_Int def_two (NLocal 2))))

-- case-known: known top-level argument hidden by an inner let
abbrev pub CaseKnownKnownTopLevelArgumentHiddenByAnInnerLet : Type 0
CaseKnownKnownTopLevelArgumentHiddenByAnInnerLet = makes [] row.CaseKnown (1 ∷ 1 ∷ 1 ∷ 1 ∷ []) with_int_pair_two_f
    (NLam (NBValue type_Int) (let_of type_Pair (NCon name_MkPair (given (NLocal 0) (given def_two none))) (let_of type_Int (NLocal 1) (NCase (NLocal 1) type_Pair type_Int (on_constructor name_MkPair (NBValue type_Int ∷ NBValue type_Int ∷ []) (NLocal 0) NoNAlts)))))
    (NLam (NBValue type_Int) (let_of type_Pair (NCon name_MkPair (given (NLocal 0) (given def_two none))) (let_of type_Int (NLocal 1) def_two)))

-- case-known: top-level con hidden by a local word
abbrev pub CaseKnownTopLevelConHiddenByALocalWord : Type 0
CaseKnownTopLevelConHiddenByALocalWord = makes_nothing [] row.CaseKnown (1 ∷ 1 ∷ 1 ∷ []) with_int_pair_two_pair_f (NLam (NBValue type_Int) (let_of type_Pair (NFail type_Pair) (NCase (NLocal 0) type_Pair type_Int (on_constructor name_MkPair (NBValue type_Int ∷ NBValue type_Int ∷ []) (NLocal 1) NoNAlts))))

-- case-known: top-level con under a local of its argument's word
abbrev pub CaseKnownTopLevelConUnderALocalOfItsArgumentSWord : Type 0
CaseKnownTopLevelConUnderALocalOfItsArgumentSWord = makes [] row.CaseKnown (1 ∷ 1 ∷ 1 ∷ []) with_int_pair_two_pair_f
    (NLam (NBValue type_Int) (let_of type_Int (NLocal 0) (NCase def_pair type_Pair type_Int (on_constructor name_MkPair (NBValue type_Int ∷ NBValue type_Int ∷ []) (NLocal 1) NoNAlts))))
    (NLam (NBValue type_Int) (let_of type_Int (NLocal 0) def_two))

-- case-known: in a right side of the letrec itself
abbrev pub CaseKnownInARightSideOfTheLetrecItself : Type 0
CaseKnownInARightSideOfTheLetrecItself = makes [] row.CaseKnown (1 ∷ 1 ∷ 1 ∷ 1 ∷ []) with_int_list_f
    (NLam (NBValue type_Int) (let_all (bind (NTApp type_List type_Int) (NCon name_Cons (given_type type_Int (given (NLocal 2) (given (NLocal 1) none)))) (bind type_Int (NCase (NLocal 1) (NTApp type_List type_Int) type_Int (on_constructor name_Cons (NBValue type_Int ∷ NBValue (NTApp type_List type_Int) ∷ []) (NLocal 1) NoNAlts)) NoNBinds)) (NLocal 0)))
    (NLam (NBValue type_Int) (let_all (bind (NTApp type_List type_Int) (NCon name_Cons (given_type type_Int (given (NLocal 2) (given (NLocal 1) none)))) (bind type_Int (NLocal 2) NoNBinds)) (NLocal 0)))

-- case-known: existential and fields of an outer alternative
abbrev pub CaseKnownExistentialAndFieldsOfAnOuterAlternative : Type 0
CaseKnownExistentialAndFieldsOfAnOuterAlternative = makes [] row.CaseKnown (1 ∷ 1 ∷ 3 ∷ 3 ∷ []) with_int_ex_f
    (NLam (NBValue type_Ex) (NCase (NLocal 0) type_Ex type_Int (on_constructor name_Pack (NBType KStar ∷ NBValue (NTVar 0) ∷ NBValue (NTFun (NTVar 0) type_Int) ∷ []) (NCase (NLocal 3) type_Ex type_Int (on_constructor name_Pack (NBType KStar ∷ NBValue (NTVar 0) ∷ NBValue (NTFun (NTVar 0) type_Int) ∷ []) (call (NLocal 0) (NLocal 1)) NoNAlts)) NoNAlts)))
    (NLam (NBValue type_Ex) (NCase (NLocal 0) type_Ex type_Int (on_constructor name_Pack (NBType KStar ∷ NBValue (NTVar 0) ∷ NBValue (NTFun (NTVar 0) type_Int) ∷ []) (call (NLocal 0) (NLocal 1)) NoNAlts)))

-- case-known: known type hidden by an inner type lambda
abbrev pub CaseKnownKnownTypeHiddenByAnInnerTypeLambda : Type 0
CaseKnownKnownTypeHiddenByAnInnerTypeLambda = makes [] row.CaseKnown (1 ∷ 1 ∷ 3 ∷ 3 ∷ 1 ∷ []) with_int_ex_f_2
    (NLam (NBValue type_Ex) (NCase (NLocal 0) type_Ex (NTForall KStar type_Int) (on_constructor name_Pack (NBType KStar ∷ NBValue (NTVar 0) ∷ NBValue (NTFun (NTVar 0) type_Int) ∷ []) (NLam (NBType KStar) (NCase (NLocal 3) type_Ex type_Int (on_constructor name_Pack (NBType KStar ∷ NBValue (NTVar 0) ∷ NBValue (NTFun (NTVar 0) type_Int) ∷ []) (call (NCast (NLocal 0) (NGRefl R (NTFun (NTVar 0) type_Int))) (NLocal 1)) NoNAlts))) NoNAlts)))
    (NLam (NBValue type_Ex) (NCase (NLocal 0) type_Ex (NTForall KStar type_Int) (on_constructor name_Pack (NBType KStar ∷ NBValue (NTVar 0) ∷ NBValue (NTFun (NTVar 0) type_Int) ∷ []) (NLam (NBType KStar) (call (NCast (NLocal 0) (NGRefl R (NTFun (NTVar 1) type_Int))) (NLocal 1))) NoNAlts)))

-- case-known: known coercion hidden by an inner coercion lambda
abbrev pub CaseKnownKnownCoercionHiddenByAnInnerCoercionLambda : Type 0
CaseKnownKnownCoercionHiddenByAnInnerCoercionLambda = makes [] row.CaseKnown (1 ∷ 1 ∷ 3 ∷ 2 ∷ 1 ∷ []) with_int_eq_f_2
    (NLam (NBValue (NTApp type_Eq type_Int)) (NCase (NLocal 0) (NTApp type_Eq type_Int) (NTCoForall R type_Int type_Int type_Int) (on_constructor name_Refl (NBCo N type_Int type_Int ∷ NBValue type_Int ∷ []) (NLam (NBCo R type_Int type_Int) (NCase (NLocal 1) (NTApp type_Eq type_Int) type_Int (on_constructor name_Refl (NBCo N type_Int type_Int ∷ NBValue type_Int ∷ []) (NCast (NLocal 0) (NGSub (NGVar 0))) NoNAlts))) NoNAlts)))
    (NLam (NBValue (NTApp type_Eq type_Int)) (NCase (NLocal 0) (NTApp type_Eq type_Int) (NTCoForall R type_Int type_Int type_Int) (on_constructor name_Refl (NBCo N type_Int type_Int ∷ NBValue type_Int ∷ []) (NLam (NBCo R type_Int type_Int) (NCast (NLocal 0) (NGSub (NGVar 1)))) NoNAlts)))

-- case-known: literal of an outer alternative and a default
abbrev pub CaseKnownLiteralOfAnOuterAlternativeAndADefault : Type 0
CaseKnownLiteralOfAnOuterAlternativeAndADefault = makes [] row.CaseKnown (1 ∷ 1 ∷ 1 ∷ 4 ∷ 0 ∷ []) with_int_two_f_4
    (NLam (NBValue NTInt) (NLam (NBValue type_Int) (NCase (NLocal 1) NTInt type_Int (otherwise (NLocal 1) (on_literal (pos 3) (NCase (NLocal 0) NTInt type_Int (otherwise (NCon name_I_hash (given (NLocal 0) none)) (on_literal (pos 4) def_two NoNAlts))) NoNAlts)))))
    (NLam (NBValue NTInt) (NLam (NBValue type_Int) (NCase (NLocal 1) NTInt type_Int (otherwise (NLocal 1) (on_literal (pos 3) (NCon name_I_hash (given (NLocal 0) none)) NoNAlts)))))

-- case-known: let of a literal is no value
abbrev pub CaseKnownLetOfALiteralIsNoValue : Type 0
CaseKnownLetOfALiteralIsNoValue = makes_nothing [] row.CaseKnown (1 ∷ 1 ∷ 1 ∷ []) with_int_two_f (NLam (NBValue type_Int) (let_of NTInt (NLit (pos 3)) (NCase (NLocal 0) NTInt type_Int (otherwise (NLocal 2) (on_literal (pos 3) def_two NoNAlts)))))

-- case-known: let of a con with an argument that is not trivial
abbrev pub CaseKnownLetOfAConWithAnArgumentThatIsNotTrivial : Type 0
CaseKnownLetOfAConWithAnArgumentThatIsNotTrivial = makes_nothing [] row.CaseKnown (1 ∷ 1 ∷ 1 ∷ []) with_int_pair_idf_f_3 (NLam (NBValue type_Int) (let_of type_Pair (NCon name_MkPair (given (call def_idf (NLocal 0)) (given (NLocal 0) none))) (NCase (NLocal 0) type_Pair type_Int (on_constructor name_MkPair (NBValue type_Int ∷ NBValue type_Int ∷ []) (NLocal 1) NoNAlts))))

-- case-known: top-level name that an outer case takes apart
abbrev pub CaseKnownTopLevelNameThatAnOuterCaseTakesApart : Type 0
CaseKnownTopLevelNameThatAnOuterCaseTakesApart = makes [] row.CaseKnown (1 ∷ 1 ∷ 3 ∷ 1 ∷ []) with_int_two_idf_thk_f
    (NLam (NBValue type_Int) (NCase def_thk type_Int type_Int (on_constructor name_I_hash (NBValue NTInt ∷ []) (NCase def_thk type_Int type_Int (on_constructor name_I_hash (NBValue NTInt ∷ []) (NCon name_I_hash (given (NLocal 0) none)) NoNAlts)) NoNAlts)))
    (NLam (NBValue type_Int) (NCase def_thk type_Int type_Int (on_constructor name_I_hash (NBValue NTInt ∷ []) (NCon name_I_hash (given (NLocal 0) none)) NoNAlts)))

-- case-known: default of an outer case
abbrev pub CaseKnownDefaultOfAnOuterCase : Type 0
CaseKnownDefaultOfAnOuterCase = makes_nothing [] row.CaseKnown (1 ∷ 1 ∷ 3 ∷ 0 ∷ []) with_int_two_f (NLam (NBValue type_Int) (NCase (NLocal 0) type_Int type_Int (otherwise (NCase (NLocal 1) type_Int type_Int (on_constructor name_I_hash (NBValue NTInt ∷ []) (NCon name_I_hash (given (NLocal 0) none)) NoNAlts)) (on_constructor name_I_hash (NBValue NTInt ∷ []) def_two NoNAlts))))

-- case-known: universal types are no parts
abbrev pub CaseKnownUniversalTypesAreNoParts : Type 0
CaseKnownUniversalTypesAreNoParts = makes [] row.CaseKnown (1 ∷ 1 ∷ 1 ∷ []) with_int_box_f_2
    (NLam (NBValue type_Int) (let_of (NTApp type_Box type_Int) (NCon name_MkBox (given_type type_Int (given (NLocal 0) none))) (NCase (NLocal 0) (NTApp type_Box type_Int) type_Int (on_constructor name_MkBox (NBValue type_Int ∷ []) (NLocal 0) NoNAlts))))
    (NLam (NBValue type_Int) (let_of (NTApp type_Box type_Int) (NCon name_MkBox (given_type type_Int (given (NLocal 0) none))) (NLocal 1)))

-- case-known: under a lambda in the alternative
abbrev pub CaseKnownUnderALambdaInTheAlternative : Type 0
CaseKnownUnderALambdaInTheAlternative = makes [] row.CaseKnown (1 ∷ 1 ∷ 3 ∷ 1 ∷ 1 ∷ []) with_int_f
    (NLam (NBValue type_Int) (NCase (NLocal 0) type_Int (NTFun type_Int type_Int) (on_constructor name_I_hash (NBValue NTInt ∷ []) (NLam (NBValue type_Int) (NCase (NLocal 3) type_Int type_Int (on_constructor name_I_hash (NBValue NTInt ∷ []) (NCon name_I_hash (given (NLocal 0) none)) NoNAlts))) NoNAlts)))
    (NLam (NBValue type_Int) (NCase (NLocal 0) type_Int (NTFun type_Int type_Int) (on_constructor name_I_hash (NBValue NTInt ∷ []) (NLam (NBValue type_Int) (NCon name_I_hash (given (NLocal 1) none))) NoNAlts)))

-- case-known: scrutinee hidden by a lambda in the alternative
abbrev pub CaseKnownScrutineeHiddenByALambdaInTheAlternative : Type 0
CaseKnownScrutineeHiddenByALambdaInTheAlternative = makes_nothing [] row.CaseKnown (1 ∷ 1 ∷ 3 ∷ 1 ∷ 1 ∷ []) with_int_f (NLam (NBValue type_Int) (NCase (NLocal 0) type_Int (NTFun type_Int type_Int) (on_constructor name_I_hash (NBValue NTInt ∷ []) (NLam (NBValue type_Int) (NCase (NLocal 0) type_Int type_Int (on_constructor name_I_hash (NBValue NTInt ∷ []) (NCon name_I_hash (given (NLocal 0) none)) NoNAlts))) NoNAlts)))

-- case-known: in the scrutinee of the case itself
abbrev pub CaseKnownInTheScrutineeOfTheCaseItself : Type 0
CaseKnownInTheScrutineeOfTheCaseItself = makes_nothing [] row.CaseKnown (1 ∷ 1 ∷ 0 ∷ []) with_int_f_2 (NLam (NBValue type_Int) (NCase (NCase (NLocal 0) type_Int type_Int (on_constructor name_I_hash (NBValue NTInt ∷ []) (NCon name_I_hash (given (NLocal 0) none)) NoNAlts)) type_Int type_Int (on_constructor name_I_hash (NBValue NTInt ∷ []) (NLocal 1) NoNAlts)))

-- case-known: application as scrutinee
abbrev pub CaseKnownApplicationAsScrutinee : Type 0
CaseKnownApplicationAsScrutinee = makes_nothing [] row.CaseKnown (1 ∷ 1 ∷ []) with_int_two_idf_f (NLam (NBValue type_Int) (NCase (call def_idf def_two) type_Int type_Int (on_constructor name_I_hash (NBValue NTInt ∷ []) (NCon name_I_hash (given (NLocal 0) none)) NoNAlts)))

-- case-known: known argument hidden by a join point
abbrev pub CaseKnownKnownArgumentHiddenByAJoinPoint : Type 0
CaseKnownKnownArgumentHiddenByAJoinPoint = makes [] row.CaseKnown (1 ∷ 1 ∷ 1 ∷ 2 ∷ 0 ∷ []) with_int_pair_two_f
    (NLam (NBValue type_Int) (let_of type_Pair (NCon name_MkPair (given (NLocal 0) (given def_two none))) (join_of type_Int [] def_two (NCase (NCase (NLocal 0) type_Pair type_Int (on_constructor name_MkPair (NBValue type_Int ∷ NBValue type_Int ∷ []) (NLocal 1) NoNAlts)) type_Int type_Int (otherwise (NJump 0 none) NoNAlts)))))
    (NLam (NBValue type_Int) (let_of type_Pair (NCon name_MkPair (given (NLocal 0) (given def_two none))) (join_of type_Int [] def_two (NCase (NLocal 1) type_Int type_Int (otherwise (NJump 0 none) NoNAlts)))))

-- case-known: known coercion field mentions a hidden type
abbrev pub CaseKnownKnownCoercionFieldMentionsAHiddenType : Type 0
CaseKnownKnownCoercionFieldMentionsAHiddenType = makes [] row.CaseKnown (1 ∷ 1 ∷ 1 ∷ 1 ∷ 1 ∷ []) with_exc_f
    (NLam (NBType KStar) (NLam (NBValue (NTVar 0)) (let_of (NTApp type_ExC (NTVar 0)) (NCon name_MkExC (given_type (NTVar 0) (given_type (NTVar 0) (given_coercion (NGRefl R (NTVar 0)) (given (NLocal 0) none))))) (NLam (NBType KStar) (NCase (NLocal 0) (NTApp type_ExC (NTVar 1)) (NTVar 1) (on_constructor name_MkExC (NBType KStar ∷ NBCo R (NTVar 2) (NTVar 0) ∷ NBValue (NTVar 0) ∷ []) (NCast (NLocal 0) (NGSym (NGVar 0))) NoNAlts))))))
    (NLam (NBType KStar) (NLam (NBValue (NTVar 0)) (let_of (NTApp type_ExC (NTVar 0)) (NCon name_MkExC (given_type (NTVar 0) (given_type (NTVar 0) (given_coercion (NGRefl R (NTVar 0)) (given (NLocal 0) none))))) (NLam (NBType KStar) (NCast (NLocal 1) (NGSym (NGRefl R (NTVar 1))))))))

-- case-known: inner fact of the case binder alone
abbrev pub CaseKnownInnerFactOfTheCaseBinderAlone : Type 0
CaseKnownInnerFactOfTheCaseBinderAlone = makes [] row.CaseKnown (1 ∷ 1 ∷ 3 ∷ 1 ∷ 3 ∷ 0 ∷ []) with_int_f_2
    (NLam (NBValue type_Int) (NCase (NLocal 0) type_Int type_Int (on_constructor name_I_hash (NBValue NTInt ∷ []) (NCase (NLocal 2) type_Int type_Int (otherwise (NCase (NLocal 2) type_Int type_Int (on_constructor name_I_hash (NBValue NTInt ∷ []) (NCon name_I_hash (given (NLocal 0) none)) NoNAlts)) NoNAlts)) NoNAlts)))
    (NLam (NBValue type_Int) (NCase (NLocal 0) type_Int type_Int (on_constructor name_I_hash (NBValue NTInt ∷ []) (NCase (NLocal 2) type_Int type_Int (otherwise (NCon name_I_hash (given (NLocal 1) none)) NoNAlts)) NoNAlts)))

-- case-known: import, con under a local of its argument's word
abbrev pub CaseKnownImportConUnderALocalOfItsArgumentSWord : Type 0
CaseKnownImportConUnderALocalOfItsArgumentSWord = makes (told_int_pair_bx_two_pair_cpair_one_idf_rec_wrec_use_far_untold_fun1 ∷ []) row.CaseKnown (1 ∷ 1 ∷ 1 ∷ []) with_f_4
    (NLam (NBValue type_Base_Int) (let_of type_Base_Int (NLocal 0) (NCase def_Base_pair type_Base_Pair type_Base_Int (on_constructor name_Base_MkPair (NBValue type_Base_Int ∷ NBValue type_Base_Int ∷ []) (NLocal 1) NoNAlts))))
    (NLam (NBValue type_Base_Int) (let_of type_Base_Int (NLocal 0) def_Base_two))

-- case-known: import, con that is not known
abbrev pub CaseKnownImportConThatIsNotKnown : Type 0
CaseKnownImportConThatIsNotKnown = makes_nothing (told_int_pair_bx_two_pair_cpair_one_idf_rec_wrec_use_far_untold_fun1 ∷ []) row.CaseKnown (1 ∷ 1 ∷ []) with_f_4 (NLam (NBValue type_Base_Int) (NCase def_Base_cpair type_Base_Pair type_Base_Int (on_constructor name_Base_MkPair (NBValue type_Base_Int ∷ NBValue type_Base_Int ∷ []) (NLocal 1) NoNAlts)))

-- case-known: import, name that an outer case takes apart
abbrev pub CaseKnownImportNameThatAnOuterCaseTakesApart : Type 0
CaseKnownImportNameThatAnOuterCaseTakesApart = makes (told_int_pair_bx_two_pair_cpair_one_idf_rec_wrec_use_far_untold_fun1 ∷ []) row.CaseKnown (1 ∷ 1 ∷ 3 ∷ 1 ∷ []) with_f_4
    (NLam (NBValue type_Base_Int) (NCase def_Base_one type_Base_Int type_Base_Int (on_constructor name_Base_I_hash (NBValue NTInt ∷ []) (NCase def_Base_one type_Base_Int type_Base_Int (on_constructor name_Base_I_hash (NBValue NTInt ∷ []) (NCon name_Base_I_hash (given (NLocal 0) none)) NoNAlts)) NoNAlts)))
    (NLam (NBValue type_Base_Int) (NCase def_Base_one type_Base_Int type_Base_Int (on_constructor name_Base_I_hash (NBValue NTInt ∷ []) (NCon name_Base_I_hash (given (NLocal 0) none)) NoNAlts)))

abbrev pub CaseKnownCases : Type 0
CaseKnownCases = CaseKnownExample3 × CaseKnownExample4 × CaseKnownExample5 × CaseKnownExample7 × CaseKnownExample8 × CaseKnownExample12 × CaseKnownFieldsWhoseWordsTheBindersTake × CaseKnownCaseBinderUsedExistential × CaseKnownAlternativeBeforeTheDefault × CaseKnownNegativeLiteral × CaseKnownAroundAJump × CaseKnownKnownArgumentHiddenByAnInnerLet × CaseKnownKnownTopLevelArgumentHiddenByAnInnerLet × CaseKnownTopLevelConHiddenByALocalWord × CaseKnownTopLevelConUnderALocalOfItsArgumentSWord × CaseKnownInARightSideOfTheLetrecItself × CaseKnownExistentialAndFieldsOfAnOuterAlternative × CaseKnownKnownTypeHiddenByAnInnerTypeLambda × CaseKnownKnownCoercionHiddenByAnInnerCoercionLambda × CaseKnownLiteralOfAnOuterAlternativeAndADefault × CaseKnownLetOfALiteralIsNoValue × CaseKnownLetOfAConWithAnArgumentThatIsNotTrivial × CaseKnownTopLevelNameThatAnOuterCaseTakesApart × CaseKnownDefaultOfAnOuterCase × CaseKnownUniversalTypesAreNoParts × CaseKnownUnderALambdaInTheAlternative × CaseKnownScrutineeHiddenByALambdaInTheAlternative × CaseKnownInTheScrutineeOfTheCaseItself × CaseKnownApplicationAsScrutinee × CaseKnownKnownArgumentHiddenByAJoinPoint × CaseKnownKnownCoercionFieldMentionsAHiddenType × CaseKnownInnerFactOfTheCaseBinderAlone × CaseKnownImportConUnderALocalOfItsArgumentSWord × CaseKnownImportConThatIsNotKnown × CaseKnownImportNameThatAnOuterCaseTakesApart

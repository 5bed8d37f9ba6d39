-- Cases of rows.
use Rattle.std.specs.Prelude.{pos, [], ◌∷◌}
use Rattle.fc_syntax.specs.declared.ty.Role.TheVariants.{R}
use Rattle.fc_syntax.specs.Tree.{KStar}
use Rattle.fc_log.specs.declared.log.Row.TheVariants as row
use Rattle.fc_model.specs.Nameless.{NTVar, NTApp, NTFun, NTForall, NGRefl, NGSym, NGAx, NoNCos}
use Rattle.fc_model.specs.Nameless.{NBValue, NBType, NLocal, NLit, NLam, NCase, NCast, NCon, NJump}
use Rattle.fc_model.specs.Nameless.{NoNBinds, NoNAlts}
use Rattle.fc_rows.specs.Shrinking.{let_of}
use Rattle.fc_row_cases.specs.CaseTerms.{makes, makes_nothing, call, at, by, none, given, given_type, bind, let_all, otherwise, on_constructor}
use Rattle.fc_row_cases.specs.CaseTerms.{join_of}
use Rattle.fc_row_cases.specs.CaseNames.{type_Age, type_Base_Int, type_Base_Pair, type_Box, type_Int, type_List, type_P2, type_Pair, type_Poly, type_U, def_Base_idf, def_cid}
use Rattle.fc_row_cases.specs.CaseNames.{def_fst, def_idf, def_thk, def_tid, def_two, name_Base_MkPair, name_CoAge, name_I_hash, name_MkBox, name_MkP2, name_MkPair, name_MkPoly}
use Rattle.fc_row_cases.specs.CaseNames.{name_MkU, name_Nil}
use Rattle.fc_row_cases.specs.CaseModules.{with_int_idf_f, with_int_age_f, with_int_f_2, told_int_pair_bx_two_pair_cpair_one_idf_rec_wrec_use_far_untold_fun1, with_int_pair_idf_f, with_int_pair_idf_f_2, with_int_idf_cid_f, with_int_fst_f, with_int_age_idf_f, with_int_pair_two_idf_thk_f, with_int_box_f_3, with_int_u_idf_f}
use Rattle.fc_row_cases.specs.CaseModules.{with_int_list_poly_tid_f, with_int_box_two_p2_f, with_f_7}

-- app-of-let: example 1
abbrev pub AppOfLetExample1 : Type 0
AppOfLetExample1 = makes [] row.AppOfLet (1 ∷ 1 ∷ []) with_int_idf_f
    (NLam (NBValue type_Int) (call (let_of type_Int (call def_idf (NLocal 0)) def_idf) (NLocal 0)))
    (NLam (NBValue type_Int) (let_of type_Int (call def_idf (NLocal 0)) (call def_idf (NLocal 1))))

-- app-of-let: argument of the let's word
abbrev pub AppOfLetArgumentOfTheLetSWord : Type 0
AppOfLetArgumentOfTheLetSWord = makes [] row.AppOfLet (1 ∷ 1 ∷ []) with_int_idf_f
    (NLam (NBValue type_Int) (call (let_of type_Int (call def_idf (NLocal 0)) (NLam (NBValue type_Int) (NLocal 1))) (NLocal 0)))
    (NLam (NBValue type_Int) (let_of type_Int (call def_idf (NLocal 0)) (call (NLam (NBValue type_Int) (NLocal 1)) (NLocal 1))))

-- app-of-let: coercion argument
abbrev pub AppOfLetCoercionArgument : Type 0
AppOfLetCoercionArgument = makes [] row.AppOfLet (1 ∷ 1 ∷ []) with_int_idf_cid_f
    (NLam (NBValue type_Int) (by (let_of type_Int (call def_idf (NLocal 0)) def_cid) (NGRefl R type_Int)))
    (NLam (NBValue type_Int) (let_of type_Int (call def_idf (NLocal 0)) (by def_cid (NGRefl R type_Int))))

-- app-of-let: two lets
abbrev pub AppOfLetTwoLets : Type 0
AppOfLetTwoLets = makes [] row.AppOfLet (1 ∷ 1 ∷ []) with_int_idf_f
    (NLam (NBValue type_Int) (call (let_of type_Int (NLocal 0) (let_of type_Int (NLocal 0) def_idf)) (NLocal 0)))
    (NLam (NBValue type_Int) (let_of type_Int (NLocal 0) (call (let_of type_Int (NLocal 0) def_idf) (NLocal 1))))

-- app-of-let: cast between
abbrev pub AppOfLetCastBetween : Type 0
AppOfLetCastBetween = makes_nothing [] row.AppOfLet (1 ∷ 1 ∷ []) with_int_idf_f (NLam (NBValue type_Int) (call (NCast (let_of type_Int (NLocal 0) def_idf) (NGRefl R (NTFun type_Int type_Int))) (NLocal 0)))

-- app-of-let: let as argument
abbrev pub AppOfLetLetAsArgument : Type 0
AppOfLetLetAsArgument = makes_nothing [] row.AppOfLet (1 ∷ 1 ∷ []) with_int_idf_f (NLam (NBValue type_Int) (call def_idf (let_of type_Int (NLocal 0) (NLocal 0))))

-- app-of-let: inner application of a spine
abbrev pub AppOfLetInnerApplicationOfASpine : Type 0
AppOfLetInnerApplicationOfASpine = makes [] row.AppOfLet (1 ∷ 1 ∷ 1 ∷ 0 ∷ []) with_int_fst_f
    (NLam (NBValue type_Int) (NLam (NBValue type_Int) (call (call (let_of type_Int (NLocal 1) def_fst) (NLocal 0)) (NLocal 1))))
    (NLam (NBValue type_Int) (NLam (NBValue type_Int) (call (let_of type_Int (NLocal 1) (call def_fst (NLocal 1))) (NLocal 1))))

-- case-of-let: example 1
abbrev pub CaseOfLetExample1 : Type 0
CaseOfLetExample1 = makes [] row.CaseOfLet (1 ∷ 1 ∷ []) with_int_idf_f
    (NLam (NBValue type_Int) (NCase (let_of type_Int (call def_idf (NLocal 0)) (NLocal 0)) type_Int type_Int (otherwise (NLocal 1) NoNAlts)))
    (NLam (NBValue type_Int) (let_of type_Int (call def_idf (NLocal 0)) (NCase (NLocal 0) type_Int type_Int (otherwise (NLocal 2) NoNAlts))))

-- case-of-let: around jumps
abbrev pub CaseOfLetAroundJumps : Type 0
CaseOfLetAroundJumps = makes [] row.CaseOfLet (1 ∷ 1 ∷ 2 ∷ []) with_int_idf_f
    (NLam (NBValue type_Int) (join_of type_Int (NBValue type_Int ∷ []) (NLocal 0) (NCase (let_of type_Int (call def_idf (NLocal 0)) (NLocal 0)) type_Int type_Int (otherwise (NJump 0 (given (NLocal 1) none)) NoNAlts))))
    (NLam (NBValue type_Int) (join_of type_Int (NBValue type_Int ∷ []) (NLocal 0) (let_of type_Int (call def_idf (NLocal 0)) (NCase (NLocal 0) type_Int type_Int (otherwise (NJump 0 (given (NLocal 2) none)) NoNAlts)))))

-- case-of-let: scrutinee under a cast
abbrev pub CaseOfLetScrutineeUnderACast : Type 0
CaseOfLetScrutineeUnderACast = makes_nothing [] row.CaseOfLet (1 ∷ 1 ∷ []) with_int_f_2 (NLam (NBValue type_Int) (NCase (NCast (let_of type_Int (NLocal 0) (NLocal 0)) (NGRefl R type_Int)) type_Int type_Int (otherwise (NLocal 0) NoNAlts)))

-- let-of-let: example 2
abbrev pub LetOfLetExample2 : Type 0
LetOfLetExample2 = makes_nothing [] row.LetOfLet (1 ∷ 1 ∷ []) with_int_idf_f (NLam (NBValue type_Int) (let_of type_Int (let_of type_Int (call def_idf (NLocal 0)) (NLocal 0)) (NLocal 0)))

-- let-of-let: example 3
abbrev pub LetOfLetExample3 : Type 0
LetOfLetExample3 = makes [] row.LetOfLet (1 ∷ 1 ∷ []) with_int_f_2
    (NLam (NBValue type_Int) (let_of type_Int (let_of type_Int (NLocal 0) (let_of type_Int (NLocal 0) (NCon name_I_hash (given (NLit (pos 1)) none)))) (NLocal 0)))
    (NLam (NBValue type_Int) (let_of type_Int (NLocal 0) (let_of type_Int (let_of type_Int (NLocal 0) (NCon name_I_hash (given (NLit (pos 1)) none))) (NLocal 0))))

-- let-of-let: type lambda over no value
abbrev pub LetOfLetTypeLambdaOverNoValue : Type 0
LetOfLetTypeLambdaOverNoValue = makes_nothing [] row.LetOfLet (1 ∷ 1 ∷ []) with_int_idf_f (NLam (NBValue type_Int) (let_of (NTForall KStar type_Int) (let_of type_Int (call def_idf (NLocal 0)) (NLam (NBType KStar) (NLocal 0))) (at (NLocal 0) type_Int)))

-- let-of-let: cast of a con
abbrev pub LetOfLetCastOfACon : Type 0
LetOfLetCastOfACon = makes [] row.LetOfLet (1 ∷ 1 ∷ []) with_int_age_idf_f
    (NLam (NBValue type_Int) (let_of type_Age (let_of type_Int (call def_idf (NLocal 0)) (NCast (NCon name_I_hash (given (NLit (pos 3)) none)) (NGSym (NGAx name_CoAge NoNCos)))) (NLocal 0)))
    (NLam (NBValue type_Int) (let_of type_Int (call def_idf (NLocal 0)) (let_of type_Age (NCast (NCon name_I_hash (given (NLit (pos 3)) none)) (NGSym (NGAx name_CoAge NoNCos))) (NLocal 0))))

-- let-of-let: three lets over no value
abbrev pub LetOfLetThreeLetsOverNoValue : Type 0
LetOfLetThreeLetsOverNoValue = makes_nothing [] row.LetOfLet (1 ∷ 1 ∷ []) with_int_f_2 (NLam (NBValue type_Int) (let_of type_Int (let_of type_Int (NLocal 0) (let_of type_Int (NLocal 0) (NLocal 0))) (NLocal 0)))

-- let-of-let: cast of a let of a value
abbrev pub LetOfLetCastOfALetOfAValue : Type 0
LetOfLetCastOfALetOfAValue = makes_nothing [] row.LetOfLet (1 ∷ 1 ∷ []) with_int_age_f (NLam (NBValue type_Int) (let_of type_Age (let_of type_Int (NLocal 0) (NCast (let_of type_Int (NLocal 0) (NCon name_I_hash (given (NLit (pos 1)) none))) (NGSym (NGAx name_CoAge NoNCos)))) (NLocal 0)))

-- let-of-let: inner let of a word that is jumped to outside
abbrev pub LetOfLetInnerLetOfAWordThatIsJumpedToOutside : Type 0
LetOfLetInnerLetOfAWordThatIsJumpedToOutside = makes [] row.LetOfLet (1 ∷ 1 ∷ 2 ∷ []) with_int_pair_two_idf_thk_f
    (NLam (NBValue type_Int) (join_of type_Int (NBValue type_Int ∷ []) (NLocal 0) (let_of type_Pair (let_of type_Int def_thk (NCon name_MkPair (given (NLocal 0) (given (NLocal 0) none)))) (NCase (NLocal 0) type_Pair type_Int (on_constructor name_MkPair (NBValue type_Int ∷ NBValue type_Int ∷ []) (NJump 0 (given (NLocal 1) none)) NoNAlts)))))
    (NLam (NBValue type_Int) (join_of type_Int (NBValue type_Int ∷ []) (NLocal 0) (let_of type_Int def_thk (let_of type_Pair (NCon name_MkPair (given (NLocal 0) (given (NLocal 0) none))) (NCase (NLocal 0) type_Pair type_Int (on_constructor name_MkPair (NBValue type_Int ∷ NBValue type_Int ∷ []) (NJump 0 (given (NLocal 1) none)) NoNAlts))))))

-- let-of-let: right side is a lambda over a lambda
abbrev pub LetOfLetRightSideIsALambdaOverALambda : Type 0
LetOfLetRightSideIsALambdaOverALambda = makes_nothing [] row.LetOfLet (1 ∷ 1 ∷ []) with_int_f_2 (NLam (NBValue type_Int) (let_of (NTFun type_Int (NTFun type_Int type_Int)) (NLam (NBValue type_Int) (NLam (NBValue type_Int) (NLocal 0))) (call (call (NLocal 0) (NLocal 1)) (NLocal 1))))

-- cast-of-let: example 1
abbrev pub CastOfLetExample1 : Type 0
CastOfLetExample1 = makes [] row.CastOfLet (1 ∷ 1 ∷ []) with_int_age_idf_f
    (NLam (NBValue type_Int) (NCast (let_of type_Int (call def_idf (NLocal 0)) (NLocal 0)) (NGSym (NGAx name_CoAge NoNCos))))
    (NLam (NBValue type_Int) (let_of type_Int (call def_idf (NLocal 0)) (NCast (NLocal 0) (NGSym (NGAx name_CoAge NoNCos)))))

-- cast-of-let: letrec
abbrev pub CastOfLetLetrec : Type 0
CastOfLetLetrec = makes [] row.CastOfLet (1 ∷ 1 ∷ []) with_int_age_f
    (NLam (NBValue type_Int) (NCast (let_all (bind type_Int (NLocal 0) NoNBinds) (NLocal 0)) (NGSym (NGAx name_CoAge NoNCos))))
    (NLam (NBValue type_Int) (let_all (bind type_Int (NLocal 0) NoNBinds) (NCast (NLocal 0) (NGSym (NGAx name_CoAge NoNCos)))))

-- name-field: example 1
abbrev pub NameFieldExample1 : Type 0
NameFieldExample1 = makes [] row.NameField (1 ∷ 1 ∷ []) with_int_pair_idf_f_2
    (NLam (NBValue type_Int) (let_of type_Pair (NCon name_MkPair (given (NLocal 0) (given (call def_idf (NLocal 0)) none))) (NLocal 0)))
    (NLam (NBValue type_Int) (let_of type_Int (call def_idf (NLocal 0)) (let_of type_Pair (NCon name_MkPair (given (NLocal 1) (given (NLocal 0) none))) (NLocal 0))))

-- name-field: field of the parameter's type
abbrev pub NameFieldFieldOfTheParameterSType : Type 0
NameFieldFieldOfTheParameterSType = makes [] row.NameField (1 ∷ 1 ∷ []) with_int_box_f_3
    (NLam (NBValue type_Int) (let_of (NTApp type_Box (NTApp type_Box type_Int)) (NCon name_MkBox (given_type (NTApp type_Box type_Int) (given (NCon name_MkBox (given_type type_Int (given (NLocal 0) none))) none))) (NLocal 0)))
    (NLam (NBValue type_Int) (let_of (NTApp type_Box type_Int) (NCon name_MkBox (given_type type_Int (given (NLocal 0) none))) (let_of (NTApp type_Box (NTApp type_Box type_Int)) (NCon name_MkBox (given_type (NTApp type_Box type_Int) (given (NLocal 0) none))) (NLocal 0))))

-- name-field: after an unlifted field
abbrev pub NameFieldAfterAnUnliftedField : Type 0
NameFieldAfterAnUnliftedField = makes [] row.NameField (1 ∷ 1 ∷ []) with_int_u_idf_f
    (NLam (NBValue type_Int) (let_of (NTApp type_U type_Int) (NCon name_MkU (given_type type_Int (given (NLit (pos 3)) (given (call def_idf (NLocal 0)) none)))) (NLocal 0)))
    (NLam (NBValue type_Int) (let_of type_Int (call def_idf (NLocal 0)) (let_of (NTApp type_U type_Int) (NCon name_MkU (given_type type_Int (given (NLit (pos 3)) (given (NLocal 0) none)))) (NLocal 0))))

-- name-field: trivial ones passed over
abbrev pub NameFieldTrivialOnesPassedOver : Type 0
NameFieldTrivialOnesPassedOver = makes [] row.NameField (1 ∷ 1 ∷ []) with_int_list_poly_tid_f
    (NLam (NBValue (NTForall KStar (NTFun (NTVar 0) type_Int))) (let_of (NTApp type_Poly type_Int) (NCon name_MkPoly (given_type type_Int (given (NCast (NLocal 0) (NGRefl R (NTForall KStar (NTFun (NTVar 0) type_Int)))) (given (NCon name_Nil (given_type type_Int none)) (given (at def_tid type_Int) none))))) (NLocal 0)))
    (NLam (NBValue (NTForall KStar (NTFun (NTVar 0) type_Int))) (let_of (NTApp type_List type_Int) (NCon name_Nil (given_type type_Int none)) (let_of (NTApp type_Poly type_Int) (NCon name_MkPoly (given_type type_Int (given (NCast (NLocal 1) (NGRefl R (NTForall KStar (NTFun (NTVar 0) type_Int)))) (given (NLocal 0) (given (at def_tid type_Int) none))))) (NLocal 0))))

-- name-field: con that is no right side
abbrev pub NameFieldConThatIsNoRightSide : Type 0
NameFieldConThatIsNoRightSide = makes_nothing [] row.NameField (1 ∷ 1 ∷ []) with_int_pair_idf_f_2 (NLam (NBValue type_Int) (NCon name_MkPair (given (NLocal 0) (given (call def_idf (NLocal 0)) none))))

-- name-field: the other arguments move under a binder
abbrev pub NameFieldTheOtherArgumentsMoveUnderABinder : Type 0
NameFieldTheOtherArgumentsMoveUnderABinder = makes [] row.NameField (1 ∷ 1 ∷ 1 ∷ []) with_int_pair_idf_f
    (NLam (NBValue type_Int) (NLam (NBValue type_Int) (let_of type_Pair (NCon name_MkPair (given (call def_idf (NLocal 0)) (given (NLocal 0) none))) (let_of type_Int (NLocal 2) (NLocal 1)))))
    (NLam (NBValue type_Int) (NLam (NBValue type_Int) (let_of type_Int (call def_idf (NLocal 0)) (let_of type_Pair (NCon name_MkPair (given (NLocal 0) (given (NLocal 1) none))) (let_of type_Int (NLocal 3) (NLocal 1))))))

-- name-field: second field, parameters of the words of the types put in
abbrev pub NameFieldSecondFieldParametersOfTheWordsOfTheTypesPutIn : Type 0
NameFieldSecondFieldParametersOfTheWordsOfTheTypesPutIn = makes [] row.NameField (1 ∷ 1 ∷ 1 ∷ 1 ∷ 1 ∷ []) with_int_box_two_p2_f
    (NLam (NBType KStar) (NLam (NBType KStar) (NLam (NBValue (NTVar 1)) (NLam (NBValue (NTVar 0)) (let_of (NTApp (NTApp type_P2 (NTVar 0)) (NTApp type_Box (NTVar 1))) (NCon name_MkP2 (given_type (NTVar 0) (given_type (NTApp type_Box (NTVar 1)) (given (NLocal 0) (given (NCon name_MkBox (given_type (NTVar 1) (given (NLocal 1) none))) none))))) def_two)))))
    (NLam (NBType KStar) (NLam (NBType KStar) (NLam (NBValue (NTVar 1)) (NLam (NBValue (NTVar 0)) (let_of (NTApp type_Box (NTVar 1)) (NCon name_MkBox (given_type (NTVar 1) (given (NLocal 1) none))) (let_of (NTApp (NTApp type_P2 (NTVar 0)) (NTApp type_Box (NTVar 1))) (NCon name_MkP2 (given_type (NTVar 0) (given_type (NTApp type_Box (NTVar 1)) (given (NLocal 1) (given (NLocal 0) none))))) def_two))))))

-- name-field: type where a term should stand
abbrev pub NameFieldTypeWhereATermShouldStand : Type 0
NameFieldTypeWhereATermShouldStand = makes_nothing [] row.NameField (1 ∷ 1 ∷ []) with_int_pair_idf_f_2 (NLam (NBValue type_Int) (let_of type_Pair (NCon name_MkPair (given_type type_Int (given (call def_idf (NLocal 0)) none))) (NLocal 0)))

-- name-field: import, dotted data type
abbrev pub NameFieldImportDottedDataType : Type 0
NameFieldImportDottedDataType = makes (told_int_pair_bx_two_pair_cpair_one_idf_rec_wrec_use_far_untold_fun1 ∷ []) row.NameField (1 ∷ 1 ∷ []) with_f_7
    (NLam (NBValue type_Base_Int) (let_of type_Base_Pair (NCon name_Base_MkPair (given (NLocal 0) (given (call def_Base_idf (NLocal 0)) none))) (NLocal 0)))
    (NLam (NBValue type_Base_Int) (let_of type_Base_Int (call def_Base_idf (NLocal 0)) (let_of type_Base_Pair (NCon name_Base_MkPair (given (NLocal 1) (given (NLocal 0) none))) (NLocal 0))))

abbrev pub CommutingCases : Type 0
CommutingCases = AppOfLetExample1 × AppOfLetArgumentOfTheLetSWord × AppOfLetCoercionArgument × AppOfLetTwoLets × AppOfLetCastBetween × AppOfLetLetAsArgument × AppOfLetInnerApplicationOfASpine × CaseOfLetExample1 × CaseOfLetAroundJumps × CaseOfLetScrutineeUnderACast × LetOfLetExample2 × LetOfLetExample3 × LetOfLetTypeLambdaOverNoValue × LetOfLetCastOfACon × LetOfLetThreeLetsOverNoValue × LetOfLetCastOfALetOfAValue × LetOfLetInnerLetOfAWordThatIsJumpedToOutside × LetOfLetRightSideIsALambdaOverALambda × CastOfLetExample1 × CastOfLetLetrec × NameFieldExample1 × NameFieldFieldOfTheParameterSType × NameFieldAfterAnUnliftedField × NameFieldTrivialOnesPassedOver × NameFieldConThatIsNoRightSide × NameFieldTheOtherArgumentsMoveUnderABinder × NameFieldSecondFieldParametersOfTheWordsOfTheTypesPutIn × NameFieldTypeWhereATermShouldStand × NameFieldImportDottedDataType

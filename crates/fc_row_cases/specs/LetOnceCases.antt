-- Cases of rows.
use Rattle.std.specs.Prelude.{[], ◌∷◌}
use Rattle.fc_syntax.specs.declared.ty.Role.TheVariants.{N, R}
use Rattle.fc_syntax.specs.Tree.{KStar}
use Rattle.fc_log.specs.declared.log.Row.TheVariants as row
use Rattle.fc_model.specs.Nameless.{NTVar, NTApp, NTFun, NTForall, NGVar, NGSym, NGAx, NoNCos}
use Rattle.fc_model.specs.Nameless.{NBValue, NBType, NBCo, NLocal, NLam, NCase, NCast, NCon, NFail, NJump}
use Rattle.fc_model.specs.Nameless.{NoNBinds, NoNJoins, NoNAlts}
use Rattle.fc_rows.specs.Shrinking.{let_of}
use Rattle.fc_row_cases.specs.CaseTerms.{makes, makes_nothing, call, at, none, given, given_type, bind, let_all, otherwise, on_constructor, point}
use Rattle.fc_row_cases.specs.CaseTerms.{join_of, join_all}
use Rattle.fc_row_cases.specs.CaseNames.{type_Age, type_Bool, type_Eq, type_Int, def_fst, def_idf, def_two, name_CoAge, name_MkBox, name_MkPair, name_Refl}
use Rattle.fc_row_cases.specs.CaseModules.{with_int_idf_f, with_int_f_2, with_int_two_f, with_int_idf_f_2, with_int_two_idf_f, with_int_pair_idf_f_2, with_int_idf_f_3, with_int_box_age_idf_f, with_int_eq_age_f, with_int_idf_f_4, with_int_bool_box_f, with_int_idf_fst_f}
use Rattle.fc_row_cases.specs.CaseModules.{with_int_two_f_3}

-- let-once: example 1
abbrev pub LetOnceExample1 : Type 0
LetOnceExample1 = makes [] row.LetOnce (1 ∷ 1 ∷ []) with_int_idf_f
    (NLam (NBValue type_Int) (let_of type_Int (call def_idf (NLocal 0)) (call def_idf (NLocal 0))))
    (NLam (NBValue type_Int) (call def_idf (call def_idf (NLocal 0))))

-- let-once: example 2
abbrev pub LetOnceExample2 : Type 0
LetOnceExample2 = makes_nothing [] row.LetOnce (1 ∷ 1 ∷ []) with_int_idf_f_2 (NLam (NBValue type_Int) (let_of type_Int (call def_idf (NLocal 0)) (NLam (NBValue type_Int) (NLocal 1))))

-- let-once: example 3
abbrev pub LetOnceExample3 : Type 0
LetOnceExample3 = makes_nothing [] row.LetOnce (1 ∷ 1 ∷ []) with_int_pair_idf_f_2 (NLam (NBValue type_Int) (let_of type_Int (call def_idf (NLocal 0)) (NCon name_MkPair (given (NLocal 0) (given (NLocal 1) none)))))

-- let-once: example 4
abbrev pub LetOnceExample4 : Type 0
LetOnceExample4 = makes [] row.LetOnce (1 ∷ 1 ∷ []) with_int_idf_f_3
    (NLam (NBValue type_Int) (let_of type_Int (call def_idf (NLocal 0)) (NLam (NBType KStar) (NLocal 0))))
    (NLam (NBValue type_Int) (NLam (NBType KStar) (call def_idf (NLocal 0))))

-- let-once: example 5
abbrev pub LetOnceExample5 : Type 0
LetOnceExample5 = makes [] row.LetOnce (1 ∷ 1 ∷ []) with_int_box_age_idf_f
    (NLam (NBValue type_Int) (let_of type_Int (call def_idf (NLocal 0)) (NCon name_MkBox (given_type type_Age (given (NCast (NLocal 0) (NGSym (NGAx name_CoAge NoNCos))) none)))))
    (NLam (NBValue type_Int) (NCon name_MkBox (given_type type_Age (given (NCast (call def_idf (NLocal 0)) (NGSym (NGAx name_CoAge NoNCos))) none))))

-- let-once: example 6
abbrev pub LetOnceExample6 : Type 0
LetOnceExample6 = makes_nothing [] row.LetOnce (1 ∷ 1 ∷ []) with_int_idf_f (NLam (NBValue type_Int) (let_of type_Int (call def_idf (NLocal 0)) (join_all type_Int (point [] (NLocal 0) NoNJoins) (NJump 0 none))))

-- let-once: example 9
abbrev pub LetOnceExample9 : Type 0
LetOnceExample9 = makes [] row.LetOnce (1 ∷ 1 ∷ []) with_int_idf_f
    (NLam (NBValue type_Int) (let_of type_Int (call def_idf (NLocal 0)) (call def_idf (call (NLam (NBValue type_Int) (NLocal 0)) (NLocal 0)))))
    (NLam (NBValue type_Int) (call def_idf (call (NLam (NBValue type_Int) (NLocal 0)) (call def_idf (NLocal 0)))))

-- let-once: in a letrec right side
abbrev pub LetOnceInALetrecRightSide : Type 0
LetOnceInALetrecRightSide = makes [] row.LetOnce (1 ∷ 1 ∷ []) with_int_idf_f
    (NLam (NBValue type_Int) (let_of type_Int (call def_idf (NLocal 0)) (let_all (bind type_Int (call def_idf (NLocal 1)) NoNBinds) (NLocal 0))))
    (NLam (NBValue type_Int) (let_all (bind type_Int (call def_idf (call def_idf (NLocal 1))) NoNBinds) (NLocal 0)))

-- let-once: argument of a jump
abbrev pub LetOnceArgumentOfAJump : Type 0
LetOnceArgumentOfAJump = makes [] row.LetOnce (1 ∷ 1 ∷ 2 ∷ []) with_int_idf_f
    (NLam (NBValue type_Int) (join_of type_Int (NBValue type_Int ∷ []) (NLocal 0) (let_of type_Int (call def_idf (NLocal 0)) (NJump 0 (given (NLocal 0) none)))))
    (NLam (NBValue type_Int) (join_of type_Int (NBValue type_Int ∷ []) (NLocal 0) (NJump 0 (given (call def_idf (NLocal 0)) none))))

-- let-once: coercion under an alternative's binder of its word
abbrev pub LetOnceCoercionUnderAnAlternativeSBinderOfItsWord : Type 0
LetOnceCoercionUnderAnAlternativeSBinderOfItsWord = makes [] row.LetOnce (1 ∷ 1 ∷ 1 ∷ 1 ∷ []) with_int_eq_age_f
    (NLam (NBCo R type_Int type_Age) (NLam (NBValue type_Int) (NLam (NBValue (NTApp type_Eq type_Int)) (let_of type_Age (call (NFail (NTFun type_Age type_Age)) (NCast (NLocal 1) (NGVar 0))) (NCase (NLocal 1) (NTApp type_Eq type_Int) type_Age (on_constructor name_Refl (NBCo N type_Int type_Int ∷ NBValue type_Int ∷ []) (NLocal 2) NoNAlts))))))
    (NLam (NBCo R type_Int type_Age) (NLam (NBValue type_Int) (NLam (NBValue (NTApp type_Eq type_Int)) (NCase (NLocal 0) (NTApp type_Eq type_Int) type_Age (on_constructor name_Refl (NBCo N type_Int type_Int ∷ NBValue type_Int ∷ []) (call (NFail (NTFun type_Age type_Age)) (NCast (NLocal 3) (NGVar 1))) NoNAlts)))))

-- let-once: right side with a join point of a word in use
abbrev pub LetOnceRightSideWithAJoinPointOfAWordInUse : Type 0
LetOnceRightSideWithAJoinPointOfAWordInUse = makes [] row.LetOnce (1 ∷ 1 ∷ []) with_int_two_f
    (NLam (NBValue type_Int) (let_of type_Int (join_of type_Int [] (NLocal 0) (NJump 0 none)) (join_of type_Int [] def_two (NCase (NLocal 0) type_Int type_Int (otherwise (NJump 0 none) NoNAlts)))))
    (NLam (NBValue type_Int) (join_of type_Int [] def_two (NCase (join_of type_Int [] (NLocal 0) (NJump 0 none)) type_Int type_Int (otherwise (NJump 0 none) NoNAlts))))

-- let-once: inside a coercion lambda
abbrev pub LetOnceInsideACoercionLambda : Type 0
LetOnceInsideACoercionLambda = makes_nothing [] row.LetOnce (1 ∷ 1 ∷ []) with_int_idf_f_4 (NLam (NBValue type_Int) (let_of type_Int (call def_idf (NLocal 0)) (NLam (NBCo R type_Int type_Int) (NLocal 0))))

-- let-once: body of a joinrec
abbrev pub LetOnceBodyOfAJoinrec : Type 0
LetOnceBodyOfAJoinrec = makes [] row.LetOnce (1 ∷ 1 ∷ []) with_int_idf_f
    (NLam (NBValue type_Int) (let_of type_Int (call def_idf (NLocal 0)) (join_all type_Int (point (NBValue type_Int ∷ []) (NJump 0 (given (NLocal 0) none)) NoNJoins) (NJump 0 (given (NLocal 0) none)))))
    (NLam (NBValue type_Int) (join_all type_Int (point (NBValue type_Int ∷ []) (NJump 0 (given (NLocal 0) none)) NoNJoins) (NJump 0 (given (call def_idf (NLocal 0)) none))))

-- let-once: no occurrence
abbrev pub LetOnceNoOccurrence : Type 0
LetOnceNoOccurrence = makes_nothing [] row.LetOnce (1 ∷ 1 ∷ []) with_int_idf_f (NLam (NBValue type_Int) (let_of type_Int (call def_idf (NLocal 0)) (NLocal 1)))

-- let-once: letrec
abbrev pub LetOnceLetrec : Type 0
LetOnceLetrec = makes_nothing [] row.LetOnce (1 ∷ 1 ∷ []) with_int_idf_f (NLam (NBValue type_Int) (let_all (bind type_Int (call def_idf (NLocal 1)) NoNBinds) (call def_idf (NLocal 0))))

-- let-once: applied to a type as an argument of con
abbrev pub LetOnceAppliedToATypeAsAnArgumentOfCon : Type 0
LetOnceAppliedToATypeAsAnArgumentOfCon = makes [] row.LetOnce (1 ∷ 1 ∷ []) with_int_bool_box_f
    (NLam (NBValue type_Int) (let_of (NTForall KStar type_Int) (call (NFail (NTFun type_Int (NTForall KStar type_Int))) (NLocal 0)) (NCon name_MkBox (given_type type_Int (given (at (NLocal 0) type_Bool) none)))))
    (NLam (NBValue type_Int) (NCon name_MkBox (given_type type_Int (given (at (call (NFail (NTFun type_Int (NTForall KStar type_Int))) (NLocal 0)) type_Bool) none))))

-- let-once: inside an argument of con
abbrev pub LetOnceInsideAnArgumentOfCon : Type 0
LetOnceInsideAnArgumentOfCon = makes [] row.LetOnce (1 ∷ 1 ∷ []) with_int_pair_idf_f_2
    (NLam (NBValue type_Int) (let_of type_Int (call def_idf (NLocal 0)) (NCon name_MkPair (given (call def_idf (NLocal 0)) (given (NLocal 1) none)))))
    (NLam (NBValue type_Int) (NCon name_MkPair (given (call def_idf (call def_idf (NLocal 0))) (given (NLocal 0) none))))

-- let-once: lambda as right side
abbrev pub LetOnceLambdaAsRightSide : Type 0
LetOnceLambdaAsRightSide = makes [] row.LetOnce (1 ∷ 1 ∷ []) with_int_f_2
    (NLam (NBValue type_Int) (let_of (NTFun type_Int type_Int) (NLam (NBValue type_Int) (NLocal 0)) (call (NLocal 0) (NLocal 1))))
    (NLam (NBValue type_Int) (call (NLam (NBValue type_Int) (NLocal 0)) (NLocal 0)))

-- let-once: twice in one application
abbrev pub LetOnceTwiceInOneApplication : Type 0
LetOnceTwiceInOneApplication = makes_nothing [] row.LetOnce (1 ∷ 1 ∷ []) with_int_idf_fst_f (NLam (NBValue type_Int) (let_of type_Int (call def_idf (NLocal 0)) (call (call def_fst (NLocal 0)) (NLocal 0))))

-- let-once: variable under a join point of its word
abbrev pub LetOnceVariableUnderAJoinPointOfItsWord : Type 0
LetOnceVariableUnderAJoinPointOfItsWord = makes [] row.LetOnce (1 ∷ 1 ∷ []) with_int_two_idf_f
    (NLam (NBValue type_Int) (let_of type_Int (call def_idf (NLocal 0)) (join_of type_Int [] def_two (NCase (NLocal 0) type_Int type_Int (otherwise (NJump 0 none) NoNAlts)))))
    (NLam (NBValue type_Int) (join_of type_Int [] def_two (NCase (call def_idf (NLocal 0)) type_Int type_Int (otherwise (NJump 0 none) NoNAlts))))

-- let-once: types under a join parameter of their word
abbrev pub LetOnceTypesUnderAJoinParameterOfTheirWord : Type 0
LetOnceTypesUnderAJoinParameterOfTheirWord = makes [] row.LetOnce (1 ∷ 1 ∷ 1 ∷ []) with_int_two_f_3
    (NLam (NBType KStar) (NLam (NBValue (NTVar 0)) (let_of (NTVar 0) (call (NFail (NTFun (NTVar 0) (NTVar 0))) (NLocal 0)) (join_of (NTVar 0) (NBType KStar ∷ NBValue (NTVar 0) ∷ []) (NLocal 1) (NJump 0 (given_type type_Int (given def_two none)))))))
    (NLam (NBType KStar) (NLam (NBValue (NTVar 0)) (join_of (NTVar 0) (NBType KStar ∷ NBValue (NTVar 0) ∷ []) (call (NFail (NTFun (NTVar 1) (NTVar 1))) (NLocal 1)) (NJump 0 (given_type type_Int (given def_two none))))))

abbrev pub LetOnceCases : Type 0
LetOnceCases = LetOnceExample1 × LetOnceExample2 × LetOnceExample3 × LetOnceExample4 × LetOnceExample5 × LetOnceExample6 × LetOnceExample9 × LetOnceInALetrecRightSide × LetOnceArgumentOfAJump × LetOnceCoercionUnderAnAlternativeSBinderOfItsWord × LetOnceRightSideWithAJoinPointOfAWordInUse × LetOnceInsideACoercionLambda × LetOnceBodyOfAJoinrec × LetOnceNoOccurrence × LetOnceLetrec × LetOnceAppliedToATypeAsAnArgumentOfCon × LetOnceInsideAnArgumentOfCon × LetOnceLambdaAsRightSide × LetOnceTwiceInOneApplication × LetOnceVariableUnderAJoinPointOfItsWord × LetOnceTypesUnderAJoinParameterOfTheirWord

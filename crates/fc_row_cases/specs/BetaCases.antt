-- Cases of rows.
use Rattle.std.specs.Prelude.{pos, [], ◌∷◌}
use Rattle.fc_syntax.specs.declared.ty.Role.TheVariants.{N, R}
use Rattle.fc_syntax.specs.Tree.{KStar}
use Rattle.fc_log.specs.declared.log.Row.TheVariants as row
use Rattle.fc_model.specs.Nameless.{NTVar, NTInt, NTApp, NTFun, NTForall, NGVar, NGRefl, NGSym, NGAll, NGAx, NoNCos}
use Rattle.fc_model.specs.Nameless.{NBValue, NBType, NBCo, NLocal, NLit, NLam, NCase, NCast, NCon, NFail}
use Rattle.fc_model.specs.Nameless.{NoNBinds, NoNAlts}
use Rattle.fc_rows.specs.Shrinking.{let_of}
use Rattle.fc_row_cases.specs.CaseTerms.{makes, makes_nothing, call, at, by, none, given, given_type, given_coercion, bind, let_all, otherwise}
use Rattle.fc_row_cases.specs.CaseTerms.{on_constructor}
use Rattle.fc_row_cases.specs.CaseNames.{type_Age, type_Base_Int, type_Box, type_Int, def_idf, def_two, name_CoAge, name_I_hash, name_MkBox, name_Refl}
use Rattle.fc_row_cases.specs.CaseModules.{with_int_idf_f, with_int_age_f, with_int_f, with_int_age_f_2, with_int_box_f, with_f, with_int_eq_f, with_int_f_2, with_int_two_f, with_int_two_f_2, with_f_2, with_f_3}
use Rattle.fc_row_cases.specs.CaseModules.{told_int_pair_bx_two_pair_cpair_one_idf_rec_wrec_use_far_untold_fun1, with_f_4, with_int_f_4}

-- beta: example 1
abbrev pub BetaExample1 : Type 0
BetaExample1 = makes [] row.Beta (1 ∷ 1 ∷ []) with_int_idf_f
    (NLam (NBValue type_Int) (call (NLam (NBValue type_Int) (NLocal 0)) (call def_idf (NLocal 0))))
    (NLam (NBValue type_Int) (let_of type_Int (call def_idf (NLocal 0)) (NLocal 0)))

-- beta: example 3
abbrev pub BetaExample3 : Type 0
BetaExample3 = makes [] row.Beta (1 ∷ 1 ∷ []) with_int_age_f
    (NLam (NBValue type_Int) (by (NLam (NBCo R type_Int type_Age) (NCast (NLocal 0) (NGVar 0))) (NGSym (NGAx name_CoAge NoNCos))))
    (NLam (NBValue type_Int) (NCast (NLocal 0) (NGSym (NGAx name_CoAge NoNCos))))

-- beta: example 4
abbrev pub BetaExample4 : Type 0
BetaExample4 = makes_nothing [] row.Beta (1 ∷ 1 ∷ []) with_int_idf_f (NLam (NBValue type_Int) (call def_idf (NLocal 0)))

-- beta: binder of the argument's word in the body
abbrev pub BetaBinderOfTheArgumentSWordInTheBody : Type 0
BetaBinderOfTheArgumentSWordInTheBody = makes [] row.Beta (1 ∷ 1 ∷ []) with_int_f
    (NLam (NBValue type_Int) (call (NLam (NBValue type_Int) (NLam (NBValue type_Int) (NLocal 1))) (NLocal 0)))
    (NLam (NBValue type_Int) (let_of type_Int (NLocal 0) (NLam (NBValue type_Int) (NLocal 1))))

-- beta: coercion argument under a binder of its word
abbrev pub BetaCoercionArgumentUnderABinderOfItsWord : Type 0
BetaCoercionArgumentUnderABinderOfItsWord = makes [] row.Beta (1 ∷ 1 ∷ 1 ∷ []) with_int_age_f_2
    (NLam (NBCo R type_Int type_Age) (NLam (NBValue type_Int) (by (NLam (NBCo R type_Int type_Age) (NLam (NBCo R type_Int type_Int) (NCast (NLocal 0) (NGVar 1)))) (NGVar 0))))
    (NLam (NBCo R type_Int type_Age) (NLam (NBValue type_Int) (NLam (NBCo R type_Int type_Int) (NCast (NLocal 0) (NGVar 1)))))

-- beta: type put into every written type
abbrev pub BetaTypePutIntoEveryWrittenType : Type 0
BetaTypePutIntoEveryWrittenType = makes [] row.Beta (1 ∷ 1 ∷ []) with_int_box_f
    (NLam (NBValue type_Int) (at (NLam (NBType KStar) (let_of (NTApp type_Box (NTVar 0)) (NFail (NTApp type_Box (NTVar 0))) (NCase (NLocal 0) (NTApp type_Box (NTVar 0)) (NTApp type_Box (NTVar 0)) (on_constructor name_MkBox (NBValue (NTVar 0) ∷ []) (NCon name_MkBox (given_type (NTVar 0) (given (NCast (NLocal 0) (NGRefl R (NTVar 0))) none))) NoNAlts)))) type_Int))
    (NLam (NBValue type_Int) (let_of (NTApp type_Box type_Int) (NFail (NTApp type_Box type_Int)) (NCase (NLocal 0) (NTApp type_Box type_Int) (NTApp type_Box type_Int) (on_constructor name_MkBox (NBValue type_Int ∷ []) (NCon name_MkBox (given_type type_Int (given (NCast (NLocal 0) (NGRefl R type_Int)) none))) NoNAlts))))

-- beta: type put under a forall of its word
abbrev pub BetaTypePutUnderAForallOfItsWord : Type 0
BetaTypePutUnderAForallOfItsWord = makes [] row.Beta (1 ∷ 1 ∷ []) with_f
    (NLam (NBType KStar) (at (NLam (NBType KStar) (NFail (NTForall KStar (NTFun (NTVar 1) (NTVar 0))))) (NTVar 0)))
    (NLam (NBType KStar) (NFail (NTForall KStar (NTFun (NTVar 1) (NTVar 0)))))

-- beta: coercion put into arguments of con and app
abbrev pub BetaCoercionPutIntoArgumentsOfConAndApp : Type 0
BetaCoercionPutIntoArgumentsOfConAndApp = makes [] row.Beta (1 ∷ 1 ∷ []) with_int_eq_f
    (NLam (NBValue type_Int) (by (NLam (NBCo N type_Int type_Int) (NCon name_Refl (given_type type_Int (given_coercion (NGVar 0) (given (by (NLam (NBCo N type_Int type_Int) (NLocal 0)) (NGSym (NGVar 0))) none))))) (NGRefl N type_Int)))
    (NLam (NBValue type_Int) (NCon name_Refl (given_type type_Int (given_coercion (NGRefl N type_Int) (given (by (NLam (NBCo N type_Int type_Int) (NLocal 0)) (NGSym (NGRefl N type_Int))) none)))))

-- beta: in an argument
abbrev pub BetaInAnArgument : Type 0
BetaInAnArgument = makes [] row.Beta (1 ∷ 1 ∷ 1 ∷ []) with_int_idf_f
    (NLam (NBValue type_Int) (call def_idf (call (NLam (NBValue type_Int) (NLocal 0)) (NLocal 0))))
    (NLam (NBValue type_Int) (call def_idf (let_of type_Int (NLocal 0) (NLocal 0))))

-- beta: in an alternative, words shadowed
abbrev pub BetaInAnAlternativeWordsShadowed : Type 0
BetaInAnAlternativeWordsShadowed = makes [] row.Beta (1 ∷ 1 ∷ 3 ∷ 1 ∷ []) with_int_idf_f
    (NLam (NBValue type_Int) (NCase (NLocal 0) type_Int type_Int (on_constructor name_I_hash (NBValue NTInt ∷ []) (call (NLam (NBValue type_Int) (call def_idf (NLocal 0))) (NLocal 1)) NoNAlts)))
    (NLam (NBValue type_Int) (NCase (NLocal 0) type_Int type_Int (on_constructor name_I_hash (NBValue NTInt ∷ []) (let_of type_Int (NLocal 1) (call def_idf (NLocal 0))) NoNAlts)))

-- beta: in a scrutinee
abbrev pub BetaInAScrutinee : Type 0
BetaInAScrutinee = makes [] row.Beta (1 ∷ 1 ∷ 0 ∷ []) with_int_f_2
    (NLam (NBValue type_Int) (NCase (call (NLam (NBValue type_Int) (NLocal 0)) (NLocal 0)) type_Int type_Int (otherwise (NLocal 0) NoNAlts)))
    (NLam (NBValue type_Int) (NCase (let_of type_Int (NLocal 0) (NLocal 0)) type_Int type_Int (otherwise (NLocal 0) NoNAlts)))

-- beta: in a letrec right side
abbrev pub BetaInALetrecRightSide : Type 0
BetaInALetrecRightSide = makes [] row.Beta (1 ∷ 1 ∷ 1 ∷ 1 ∷ []) with_int_f_2
    (NLam (NBValue type_Int) (let_all (bind type_Int (NLocal 0) (bind type_Int (call (NLam (NBValue type_Int) (NLocal 2)) (NLocal 0)) NoNBinds)) (NLocal 1)))
    (NLam (NBValue type_Int) (let_all (bind type_Int (NLocal 0) (bind type_Int (let_of type_Int (NLocal 0) (NLocal 2)) NoNBinds)) (NLocal 1)))

-- beta: outer application of a spine
abbrev pub BetaOuterApplicationOfASpine : Type 0
BetaOuterApplicationOfASpine = makes_nothing [] row.Beta (1 ∷ 1 ∷ []) with_int_two_f (NLam (NBValue type_Int) (call (call (NLam (NBValue type_Int) (NLam (NBValue type_Int) (NLocal 1))) (NLocal 0)) def_two))

-- beta: unlifted literal
abbrev pub BetaUnliftedLiteral : Type 0
BetaUnliftedLiteral = makes [] row.Beta (1 ∷ 1 ∷ []) with_int_f_2
    (NLam (NBValue type_Int) (call (NLam (NBValue NTInt) (NCon name_I_hash (given (NLocal 0) none))) (NLit (pos 3))))
    (NLam (NBValue type_Int) (let_of NTInt (NLit (pos 3)) (NCon name_I_hash (given (NLocal 0) none))))

-- beta: head is a cast
abbrev pub BetaHeadIsACast : Type 0
BetaHeadIsACast = makes_nothing [] row.Beta (1 ∷ 1 ∷ []) with_int_f_2 (NLam (NBValue type_Int) (call (NCast (NLam (NBValue type_Int) (NLocal 0)) (NGRefl R (NTFun type_Int type_Int))) (NLocal 0)))

-- beta: binder and argument of two sorts
abbrev pub BetaBinderAndArgumentOfTwoSorts : Type 0
BetaBinderAndArgumentOfTwoSorts = makes_nothing [] row.Beta (1 ∷ 1 ∷ []) with_int_f_2 (NLam (NBValue type_Int) (at (NLam (NBValue type_Int) (NLocal 0)) type_Int))

-- beta: whole right side
abbrev pub BetaWholeRightSide : Type 0
BetaWholeRightSide = makes [] row.Beta (1 ∷ []) with_int_two_f_2
    (call (NLam (NBValue type_Int) (NLocal 0)) def_two)
    (let_of type_Int def_two (NLocal 0))

-- beta: at a variable
abbrev pub BetaAtAVariable : Type 0
BetaAtAVariable = makes_nothing [] row.Beta (1 ∷ 1 ∷ 0 ∷ []) with_int_idf_f (NLam (NBValue type_Int) (call def_idf (NLocal 0)))

-- beta: type put under an allco of its word
abbrev pub BetaTypePutUnderAnAllcoOfItsWord : Type 0
BetaTypePutUnderAnAllcoOfItsWord = makes [] row.Beta (1 ∷ 1 ∷ []) with_f_2
    (NLam (NBType KStar) (at (NLam (NBType KStar) (NCast (NFail (NTForall KStar (NTVar 1))) (NGAll KStar (NGRefl R (NTVar 1))))) (NTVar 0)))
    (NLam (NBType KStar) (NCast (NFail (NTForall KStar (NTVar 1))) (NGAll KStar (NGRefl R (NTVar 1)))))

-- beta: type in a coercion argument under a type lambda of its word
abbrev pub BetaTypeInACoercionArgumentUnderATypeLambdaOfItsWord : Type 0
BetaTypeInACoercionArgumentUnderATypeLambdaOfItsWord = makes [] row.Beta (1 ∷ 1 ∷ 1 ∷ []) with_f_3
    (NLam (NBType KStar) (NLam (NBValue (NTVar 0)) (by (NLam (NBCo R (NTVar 0) (NTVar 0)) (NLam (NBType KStar) (NCast (NLocal 0) (NGVar 0)))) (NGRefl R (NTVar 0)))))
    (NLam (NBType KStar) (NLam (NBValue (NTVar 0)) (NLam (NBType KStar) (NCast (NLocal 0) (NGRefl R (NTVar 1))))))

-- beta: import, type of an import's head
abbrev pub BetaImportTypeOfAnImportSHead : Type 0
BetaImportTypeOfAnImportSHead = makes (told_int_pair_bx_two_pair_cpair_one_idf_rec_wrec_use_far_untold_fun1 ∷ []) row.Beta (1 ∷ 1 ∷ []) with_f_4
    (NLam (NBValue type_Base_Int) (call (NLam (NBValue type_Base_Int) (NLocal 0)) (NLocal 0)))
    (NLam (NBValue type_Base_Int) (let_of type_Base_Int (NLocal 0) (NLocal 0)))

-- beta: no application
abbrev pub BetaNoApplication : Type 0
BetaNoApplication = makes_nothing [] row.Beta (1 ∷ 0 ∷ 0 ∷ []) with_int_f_4 (NCon name_I_hash (given (NLit (pos 1)) none))

abbrev pub BetaCases : Type 0
BetaCases = BetaExample1 × BetaExample3 × BetaExample4 × BetaBinderOfTheArgumentSWordInTheBody × BetaCoercionArgumentUnderABinderOfItsWord × BetaTypePutIntoEveryWrittenType × BetaTypePutUnderAForallOfItsWord × BetaCoercionPutIntoArgumentsOfConAndApp × BetaInAnArgument × BetaInAnAlternativeWordsShadowed × BetaInAScrutinee × BetaInALetrecRightSide × BetaOuterApplicationOfASpine × BetaUnliftedLiteral × BetaHeadIsACast × BetaBinderAndArgumentOfTwoSorts × BetaWholeRightSide × BetaAtAVariable × BetaTypePutUnderAnAllcoOfItsWord × BetaTypeInACoercionArgumentUnderATypeLambdaOfItsWord × BetaImportTypeOfAnImportSHead × BetaNoApplication

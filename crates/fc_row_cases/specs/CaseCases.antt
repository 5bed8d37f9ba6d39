-- Cases of rows.
use Rattle.std.specs.Prelude.{pos, [], ◌∷◌}
use Rattle.fc_syntax.specs.declared.ty.Role.TheVariants.{R}
use Rattle.fc_log.specs.declared.log.Row.TheVariants as row
use Rattle.fc_model.specs.Nameless.{NTInt, NTFun, NGRefl}
use Rattle.fc_model.specs.Nameless.{NBValue, NLocal, NLam, NCase, NCast, NCon, NFail, NJump}
use Rattle.fc_model.specs.Nameless.{NoNAlts}
use Rattle.fc_rows.specs.Shrinking.{let_of}
use Rattle.fc_row_cases.specs.CaseTerms.{makes, makes_nothing, call, none, given, otherwise, on_literal, on_constructor, join_of}
use Rattle.fc_row_cases.specs.CaseNames.{type_Bool, type_Int, type_Pair, def_idf, def_lit, def_thk, def_two, name_False, name_I_hash, name_MkPair, name_True}
use Rattle.fc_row_cases.specs.CaseModules.{with_int_idf_f, with_int_two_f, with_int_idf_f_2, with_int_two_idf_f, with_int_pair_idf_f_2, with_int_two_idf_thk_f, with_int_bool_two_f_2, with_int_two_lit_idf_thk_f, with_int_bool_two_lit_f, with_int_bool_two_lit_f_2}

-- case-merge: both binders used
abbrev pub CaseMergeBothBindersUsed : Type 0
CaseMergeBothBindersUsed = makes [] row.CaseMerge (1 ∷ 1 ∷ []) with_int_pair_idf_f_2
    (NLam (NBValue type_Int) (NCase (call def_idf (NLocal 0)) type_Int type_Pair (otherwise (NCase (NLocal 0) type_Int type_Pair (on_constructor name_I_hash (NBValue NTInt ∷ []) (NCon name_MkPair (given (NLocal 2) (given (NLocal 1) none))) NoNAlts)) NoNAlts)))
    (NLam (NBValue type_Int) (NCase (call def_idf (NLocal 0)) type_Int type_Pair (on_constructor name_I_hash (NBValue NTInt ∷ []) (NCon name_MkPair (given (NLocal 1) (given (NLocal 1) none))) NoNAlts)))

-- case-merge: put under a binder of its word
abbrev pub CaseMergePutUnderABinderOfItsWord : Type 0
CaseMergePutUnderABinderOfItsWord = makes [] row.CaseMerge (1 ∷ 1 ∷ []) with_int_idf_f_2
    (NLam (NBValue type_Int) (NCase (call def_idf (NLocal 0)) type_Int (NTFun type_Int type_Int) (otherwise (NCase (NLocal 0) type_Int (NTFun type_Int type_Int) (otherwise (NLam (NBValue type_Int) (NLocal 1)) NoNAlts)) NoNAlts)))
    (NLam (NBValue type_Int) (NCase (call def_idf (NLocal 0)) type_Int (NTFun type_Int type_Int) (otherwise (NLam (NBValue type_Int) (NLocal 1)) NoNAlts)))

-- case-merge: another alternative outside
abbrev pub CaseMergeAnotherAlternativeOutside : Type 0
CaseMergeAnotherAlternativeOutside = makes_nothing [] row.CaseMerge (1 ∷ 1 ∷ []) with_int_two_f (NLam (NBValue type_Int) (NCase (NLocal 0) type_Int type_Int (otherwise (NCase (NLocal 0) type_Int type_Int (on_constructor name_I_hash (NBValue NTInt ∷ []) (NLocal 1) NoNAlts)) (on_constructor name_I_hash (NBValue NTInt ∷ []) def_two NoNAlts))))

-- case-merge: let between
abbrev pub CaseMergeLetBetween : Type 0
CaseMergeLetBetween = makes_nothing [] row.CaseMerge (1 ∷ 1 ∷ []) with_int_two_idf_f (NLam (NBValue type_Int) (NCase (call def_idf (NLocal 0)) type_Int type_Int (otherwise (let_of type_Int def_two (NCase (NLocal 1) type_Int type_Int (otherwise (NLocal 1) NoNAlts))) NoNAlts)))

-- case-merge: inner scrutinee under a cast
abbrev pub CaseMergeInnerScrutineeUnderACast : Type 0
CaseMergeInnerScrutineeUnderACast = makes_nothing [] row.CaseMerge (1 ∷ 1 ∷ []) with_int_idf_f (NLam (NBValue type_Int) (NCase (call def_idf (NLocal 0)) type_Int type_Int (otherwise (NCase (NCast (NLocal 0) (NGRefl R type_Int)) type_Int type_Int (otherwise (NLocal 0) NoNAlts)) NoNAlts)))

-- case-merge: no inner alternative
abbrev pub CaseMergeNoInnerAlternative : Type 0
CaseMergeNoInnerAlternative = makes [] row.CaseMerge (1 ∷ 1 ∷ []) with_int_idf_f
    (NLam (NBValue type_Int) (NCase (call def_idf (NLocal 0)) type_Int type_Int (otherwise (NCase (NLocal 0) type_Int type_Int NoNAlts) NoNAlts)))
    (NLam (NBValue type_Int) (NCase (call def_idf (NLocal 0)) type_Int type_Int NoNAlts))

-- case-merge: around jumps
abbrev pub CaseMergeAroundJumps : Type 0
CaseMergeAroundJumps = makes [] row.CaseMerge (1 ∷ 1 ∷ 2 ∷ []) with_int_idf_f
    (NLam (NBValue type_Int) (join_of type_Int (NBValue type_Int ∷ []) (NLocal 0) (NCase (call def_idf (NLocal 0)) type_Int type_Int (otherwise (NCase (NLocal 0) type_Int type_Int (otherwise (NJump 0 (given (NLocal 0) none)) (on_constructor name_I_hash (NBValue NTInt ∷ []) (NJump 0 (given (NLocal 2) none)) NoNAlts))) NoNAlts))))
    (NLam (NBValue type_Int) (join_of type_Int (NBValue type_Int ∷ []) (NLocal 0) (NCase (call def_idf (NLocal 0)) type_Int type_Int (otherwise (NJump 0 (given (NLocal 0) none)) (on_constructor name_I_hash (NBValue NTInt ∷ []) (NJump 0 (given (NLocal 1) none)) NoNAlts)))))

-- alt-dead: example 3
abbrev pub AltDeadExample3 : Type 0
AltDeadExample3 = makes_nothing [] row.AltDead (1 ∷ 1 ∷ 3 ∷ 0 ∷ 3 ∷ []) with_int_bool_two_f_2 (NLam (NBValue type_Bool) (NCase (NLocal 0) type_Bool type_Int (otherwise (NCase (NLocal 0) type_Bool type_Int (otherwise def_two NoNAlts)) (on_constructor name_True [] def_two NoNAlts))))

-- alt-dead: literal
abbrev pub AltDeadLiteral : Type 0
AltDeadLiteral = makes [] row.AltDead (1 ∷ 1 ∷ 3 ∷ 0 ∷ 4 ∷ []) with_int_two_lit_idf_thk_f
    (NLam (NBValue NTInt) (NCase (NLocal 0) NTInt type_Int (otherwise (NCase (NLocal 1) NTInt type_Int (otherwise def_two (on_literal (pos 0) def_thk (on_literal (pos 1) def_lit NoNAlts)))) (on_literal (pos 0) def_two NoNAlts))))
    (NLam (NBValue NTInt) (NCase (NLocal 0) NTInt type_Int (otherwise (NCase (NLocal 1) NTInt type_Int (otherwise def_two (on_literal (pos 1) def_lit NoNAlts))) (on_literal (pos 0) def_two NoNAlts))))

-- alt-dead: literal that is not listed
abbrev pub AltDeadLiteralThatIsNotListed : Type 0
AltDeadLiteralThatIsNotListed = makes_nothing [] row.AltDead (1 ∷ 1 ∷ 3 ∷ 0 ∷ 5 ∷ []) with_int_two_lit_idf_thk_f (NLam (NBValue NTInt) (NCase (NLocal 0) NTInt type_Int (otherwise (NCase (NLocal 1) NTInt type_Int (otherwise def_two (on_literal (pos 0) def_thk (on_literal (pos 1) def_lit NoNAlts)))) (on_literal (pos 0) def_two NoNAlts))))

-- alt-dead: inner default hides the outer
abbrev pub AltDeadInnerDefaultHidesTheOuter : Type 0
AltDeadInnerDefaultHidesTheOuter = makes_nothing [] row.AltDead (1 ∷ 1 ∷ 3 ∷ 0 ∷ 3 ∷ 0 ∷ 4 ∷ []) with_int_bool_two_lit_f (NLam (NBValue type_Bool) (NCase (NLocal 0) type_Bool type_Int (otherwise (NCase (NLocal 1) type_Bool type_Int (otherwise (NCase (NLocal 2) type_Bool type_Int (on_constructor name_False [] def_two (on_constructor name_True [] def_lit NoNAlts))) NoNAlts)) (on_constructor name_True [] def_two NoNAlts))))

-- alt-dead: hidden by a lambda
abbrev pub AltDeadHiddenByALambda : Type 0
AltDeadHiddenByALambda = makes_nothing [] row.AltDead (1 ∷ 1 ∷ 3 ∷ 0 ∷ 1 ∷ 4 ∷ []) with_int_bool_two_lit_f_2 (NLam (NBValue type_Bool) (NCase (NLocal 0) type_Bool (NTFun type_Bool type_Int) (otherwise (NLam (NBValue type_Bool) (NCase (NLocal 0) type_Bool type_Int (on_constructor name_False [] def_two (on_constructor name_True [] def_lit NoNAlts)))) (on_constructor name_True [] (NFail (NTFun type_Bool type_Int)) NoNAlts))))

-- alt-dead: scrutinee under a cast
abbrev pub AltDeadScrutineeUnderACast : Type 0
AltDeadScrutineeUnderACast = makes_nothing [] row.AltDead (1 ∷ 1 ∷ 3 ∷ 0 ∷ 3 ∷ []) with_int_bool_two_lit_f (NLam (NBValue type_Bool) (NCase (NLocal 0) type_Bool type_Int (otherwise (NCase (NCast (NLocal 0) (NGRefl R type_Bool)) type_Bool type_Int (on_constructor name_True [] def_lit NoNAlts)) (on_constructor name_True [] def_two NoNAlts))))

-- alt-dead: top-level scrutinee
abbrev pub AltDeadTopLevelScrutinee : Type 0
AltDeadTopLevelScrutinee = makes [] row.AltDead (1 ∷ 1 ∷ 3 ∷ 0 ∷ 3 ∷ []) with_int_two_idf_thk_f
    (NLam (NBValue type_Int) (NCase def_thk type_Int type_Int (otherwise (NCase def_thk type_Int type_Int (on_constructor name_I_hash (NBValue NTInt ∷ []) def_two NoNAlts)) (on_constructor name_I_hash (NBValue NTInt ∷ []) (NLocal 2) NoNAlts))))
    (NLam (NBValue type_Int) (NCase def_thk type_Int type_Int (otherwise (NCase def_thk type_Int type_Int NoNAlts) (on_constructor name_I_hash (NBValue NTInt ∷ []) (NLocal 2) NoNAlts))))

-- alt-dead: inside a listed alternative
abbrev pub AltDeadInsideAListedAlternative : Type 0
AltDeadInsideAListedAlternative = makes_nothing [] row.AltDead (1 ∷ 1 ∷ 4 ∷ 0 ∷ 3 ∷ []) with_int_bool_two_lit_f (NLam (NBValue type_Bool) (NCase (NLocal 0) type_Bool type_Int (otherwise def_two (on_constructor name_True [] (NCase (NLocal 1) type_Bool type_Int (on_constructor name_True [] def_lit NoNAlts)) NoNAlts))))

abbrev pub CaseCases : Type 0
CaseCases = CaseMergeBothBindersUsed × CaseMergePutUnderABinderOfItsWord × CaseMergeAnotherAlternativeOutside × CaseMergeLetBetween × CaseMergeInnerScrutineeUnderACast × CaseMergeNoInnerAlternative × CaseMergeAroundJumps × AltDeadExample3 × AltDeadLiteral × AltDeadLiteralThatIsNotListed × AltDeadInnerDefaultHidesTheOuter × AltDeadHiddenByALambda × AltDeadScrutineeUnderACast × AltDeadTopLevelScrutinee × AltDeadInsideAListedAlternative

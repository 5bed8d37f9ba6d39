-- Cases of rows.
use Rattle.std.specs.Prelude.{pos, [], ◌∷◌}
use Rattle.fc_syntax.specs.Tree.{KStar}
use Rattle.fc_log.specs.declared.log.Row.TheVariants as row
use Rattle.fc_model.specs.Nameless.{NTVar, NTInt, NTFun, NTForall, NGSym, NGAx, NoNCos}
use Rattle.fc_model.specs.Nameless.{NBValue, NBType, NLocal, NLit, NLam, NCase, NCast, NCon, NFail, NJump}
use Rattle.fc_model.specs.Nameless.{NoNBinds, NoNAlts}
use Rattle.fc_rows.specs.Shrinking.{let_of}
use Rattle.fc_row_cases.specs.CaseTerms.{makes, makes_nothing, call, at, none, given, bind, let_all, otherwise, on_constructor}
use Rattle.fc_row_cases.specs.CaseTerms.{join_of}
use Rattle.fc_row_cases.specs.CaseNames.{type_Age, type_Int, type_Pair, def_idf, def_pair, def_rec, def_thk, def_two, name_CoAge, name_I_hash, name_MkPair}
use Rattle.fc_row_cases.specs.CaseModules.{with_int_idf_f, with_int_age_f, with_int_f, with_int_f_2, with_int_two_f, with_int_f_6, with_int_pair_idf_f_2, with_int_pair_two_pair_f, with_int_two_idf_thk_f, with_int_rec_f}

-- case-evaluated: example 3
abbrev pub CaseEvaluatedExample3 : Type 0
CaseEvaluatedExample3 = makes_nothing [] row.CaseEvaluated (1 ∷ 1 ∷ []) with_int_f_2 (NLam (NBValue type_Int) (NCase (NLocal 0) type_Int type_Int (otherwise (NLocal 0) NoNAlts)))

-- case-evaluated: example 4
abbrev pub CaseEvaluatedExample4 : Type 0
CaseEvaluatedExample4 = makes [] row.CaseEvaluated (1 ∷ 1 ∷ []) with_int_f_2
    (NLam (NBValue type_Int) (NCase (NLit (pos 3)) NTInt type_Int (otherwise (NCon name_I_hash (given (NLocal 0) none)) NoNAlts)))
    (NLam (NBValue type_Int) (NCon name_I_hash (given (NLit (pos 3)) none)))

-- case-evaluated: example 5
abbrev pub CaseEvaluatedExample5 : Type 0
CaseEvaluatedExample5 = makes [] row.CaseEvaluated (1 ∷ 1 ∷ []) with_int_f_2
    (NLam (NBValue type_Int) (NCase (NLam (NBValue type_Int) (NLocal 0)) (NTFun type_Int type_Int) type_Int (otherwise (call (NLocal 0) (NLocal 1)) NoNAlts)))
    (NLam (NBValue type_Int) (let_of (NTFun type_Int type_Int) (NLam (NBValue type_Int) (NLocal 0)) (call (NLocal 0) (NLocal 1))))

-- case-evaluated: example 6
abbrev pub CaseEvaluatedExample6 : Type 0
CaseEvaluatedExample6 = makes_nothing [] row.CaseEvaluated (1 ∷ 1 ∷ []) with_int_f_2 (NLam (NBValue type_Int) (NCase (NLam (NBType KStar) (NFail (NTVar 0))) (NTForall KStar (NTVar 0)) type_Int (otherwise (NLocal 1) NoNAlts)))

-- case-evaluated: example 7
abbrev pub CaseEvaluatedExample7 : Type 0
CaseEvaluatedExample7 = makes_nothing [] row.CaseEvaluated (1 ∷ 1 ∷ []) with_int_f_2 (NLam (NBValue type_Int) (NCase (NCon name_I_hash (given (NLit (pos 1)) none)) type_Int type_Int (otherwise (NLocal 1) NoNAlts)))

-- case-evaluated: example 8
abbrev pub CaseEvaluatedExample8 : Type 0
CaseEvaluatedExample8 = makes [] row.CaseEvaluated (1 ∷ 1 ∷ []) with_int_two_f
    (NLam (NBValue type_Int) (NCase def_two type_Int type_Int (otherwise (NLocal 0) NoNAlts)))
    (NLam (NBValue type_Int) def_two)

-- case-evaluated: unlifted variable
abbrev pub CaseEvaluatedUnliftedVariable : Type 0
CaseEvaluatedUnliftedVariable = makes [] row.CaseEvaluated (1 ∷ 1 ∷ []) with_int_f_6
    (NLam (NBValue NTInt) (NCase (NLocal 0) NTInt type_Int (otherwise (NCon name_I_hash (given (NLocal 0) none)) NoNAlts)))
    (NLam (NBValue NTInt) (NCon name_I_hash (given (NLocal 0) none)))

-- case-evaluated: top-level lambda
abbrev pub CaseEvaluatedTopLevelLambda : Type 0
CaseEvaluatedTopLevelLambda = makes [] row.CaseEvaluated (1 ∷ 1 ∷ []) with_int_idf_f
    (NLam (NBValue type_Int) (NCase def_idf (NTFun type_Int type_Int) type_Int (otherwise (call (NLocal 0) (NLocal 1)) NoNAlts)))
    (NLam (NBValue type_Int) (call def_idf (NLocal 0)))

-- case-evaluated: recursive definition
abbrev pub CaseEvaluatedRecursiveDefinition : Type 0
CaseEvaluatedRecursiveDefinition = makes [] row.CaseEvaluated (1 ∷ 1 ∷ []) with_int_rec_f
    (NLam (NBValue type_Int) (NCase def_rec (NTFun type_Int type_Int) type_Int (otherwise (call (NLocal 0) (NLocal 1)) NoNAlts)))
    (NLam (NBValue type_Int) (call def_rec (NLocal 0)))

-- case-evaluated: top-level application
abbrev pub CaseEvaluatedTopLevelApplication : Type 0
CaseEvaluatedTopLevelApplication = makes_nothing [] row.CaseEvaluated (1 ∷ 1 ∷ []) with_int_two_idf_thk_f (NLam (NBValue type_Int) (NCase def_thk type_Int type_Int (otherwise (NLocal 0) NoNAlts)))

-- case-evaluated: type lambda over a value
abbrev pub CaseEvaluatedTypeLambdaOverAValue : Type 0
CaseEvaluatedTypeLambdaOverAValue = makes [] row.CaseEvaluated (1 ∷ 1 ∷ []) with_int_f_2
    (NLam (NBValue type_Int) (NCase (NLam (NBType KStar) (NLam (NBValue (NTVar 0)) (NLocal 0))) (NTForall KStar (NTFun (NTVar 0) (NTVar 0))) type_Int (otherwise (call (at (NLocal 0) type_Int) (NLocal 1)) NoNAlts)))
    (NLam (NBValue type_Int) (let_of (NTForall KStar (NTFun (NTVar 0) (NTVar 0))) (NLam (NBType KStar) (NLam (NBValue (NTVar 0)) (NLocal 0))) (call (at (NLocal 0) type_Int) (NLocal 1))))

-- case-evaluated: cast of a variable
abbrev pub CaseEvaluatedCastOfAVariable : Type 0
CaseEvaluatedCastOfAVariable = makes_nothing [] row.CaseEvaluated (1 ∷ 1 ∷ []) with_int_age_f (NLam (NBValue type_Int) (NCase (NCast (NLocal 0) (NGSym (NGAx name_CoAge NoNCos))) type_Age type_Age (otherwise (NLocal 0) NoNAlts)))

-- case-evaluated: default and another alternative
abbrev pub CaseEvaluatedDefaultAndAnotherAlternative : Type 0
CaseEvaluatedDefaultAndAnotherAlternative = makes_nothing [] row.CaseEvaluated (1 ∷ 1 ∷ 3 ∷ 1 ∷ []) with_int_two_f (NLam (NBValue type_Int) (NCase (NLocal 0) type_Int type_Int (on_constructor name_I_hash (NBValue NTInt ∷ []) (NCase (NLocal 2) type_Int type_Int (otherwise (NLocal 0) (on_constructor name_I_hash (NBValue NTInt ∷ []) def_two NoNAlts))) NoNAlts)))

-- case-evaluated: no alternative
abbrev pub CaseEvaluatedNoAlternative : Type 0
CaseEvaluatedNoAlternative = makes_nothing [] row.CaseEvaluated (1 ∷ 1 ∷ 3 ∷ 0 ∷ []) with_int_f_2 (NLam (NBValue type_Int) (NCase (NLocal 0) type_Int type_Int (otherwise (NCase (NLocal 0) type_Int type_Int NoNAlts) NoNAlts)))

-- case-evaluated: let of a con that is not known
abbrev pub CaseEvaluatedLetOfAConThatIsNotKnown : Type 0
CaseEvaluatedLetOfAConThatIsNotKnown = makes [] row.CaseEvaluated (1 ∷ 1 ∷ 1 ∷ []) with_int_pair_idf_f_2
    (NLam (NBValue type_Int) (let_of type_Pair (NCon name_MkPair (given (call def_idf (NLocal 0)) (given (NLocal 0) none))) (NCase (NLocal 0) type_Pair type_Pair (otherwise (NLocal 0) NoNAlts))))
    (NLam (NBValue type_Int) (let_of type_Pair (NCon name_MkPair (given (call def_idf (NLocal 0)) (given (NLocal 0) none))) (NLocal 0)))

-- case-evaluated: letrec of a lambda, in its own right side
abbrev pub CaseEvaluatedLetrecOfALambdaInItsOwnRightSide : Type 0
CaseEvaluatedLetrecOfALambdaInItsOwnRightSide = makes [] row.CaseEvaluated (1 ∷ 1 ∷ 0 ∷ 1 ∷ 1 ∷ []) with_int_f
    (NLam (NBValue type_Int) (let_all (bind (NTFun type_Int type_Int) (NLam (NBValue type_Int) (NCase (NLocal 1) (NTFun type_Int type_Int) type_Int (otherwise (call (NLocal 0) (NLocal 1)) NoNAlts))) NoNBinds) (NLocal 0)))
    (NLam (NBValue type_Int) (let_all (bind (NTFun type_Int type_Int) (NLam (NBValue type_Int) (call (NLocal 1) (NLocal 0))) NoNBinds) (NLocal 0)))

-- case-evaluated: evaluated word hidden by an alternative
abbrev pub CaseEvaluatedEvaluatedWordHiddenByAnAlternative : Type 0
CaseEvaluatedEvaluatedWordHiddenByAnAlternative = makes [] row.CaseEvaluated (1 ∷ 1 ∷ 3 ∷ 0 ∷ 3 ∷ 1 ∷ []) with_int_two_f
    (NLam (NBValue type_Int) (NCase (NLocal 0) type_Int type_Int (otherwise (NCase def_two type_Int type_Int (on_constructor name_I_hash (NBValue NTInt ∷ []) (NCase (NLocal 3) type_Int type_Int (otherwise (NCon name_I_hash (given (NLocal 1) none)) NoNAlts)) NoNAlts)) NoNAlts)))
    (NLam (NBValue type_Int) (NCase (NLocal 0) type_Int type_Int (otherwise (NCase def_two type_Int type_Int (on_constructor name_I_hash (NBValue NTInt ∷ []) (NCon name_I_hash (given (NLocal 0) none)) NoNAlts)) NoNAlts)))

-- case-evaluated: scrutinee hidden by a let
abbrev pub CaseEvaluatedScrutineeHiddenByALet : Type 0
CaseEvaluatedScrutineeHiddenByALet = makes_nothing [] row.CaseEvaluated (1 ∷ 1 ∷ 3 ∷ 0 ∷ 1 ∷ []) with_int_two_idf_thk_f (NLam (NBValue type_Int) (NCase (NLocal 0) type_Int type_Int (otherwise (let_of type_Int def_thk (NCase (NLocal 0) type_Int type_Int (otherwise (NLocal 0) NoNAlts))) NoNAlts)))

-- case-evaluated: value of a join point
abbrev pub CaseEvaluatedValueOfAJoinPoint : Type 0
CaseEvaluatedValueOfAJoinPoint = makes_nothing [] row.CaseEvaluated (1 ∷ 1 ∷ 1 ∷ 1 ∷ []) with_int_two_f (NLam (NBValue type_Int) (join_of type_Int (NBValue type_Int ∷ []) (NCase (NLocal 0) type_Int type_Int (otherwise (NLocal 0) NoNAlts)) (NJump 0 (given def_two none))))

-- case-evaluated: field of an alternative
abbrev pub CaseEvaluatedFieldOfAnAlternative : Type 0
CaseEvaluatedFieldOfAnAlternative = makes_nothing [] row.CaseEvaluated (1 ∷ 1 ∷ 3 ∷ 2 ∷ []) with_int_pair_two_pair_f (NLam (NBValue type_Int) (NCase def_pair type_Pair type_Int (on_constructor name_MkPair (NBValue type_Int ∷ NBValue type_Int ∷ []) (NCase (NLocal 1) type_Int type_Int (otherwise (NLocal 0) NoNAlts)) NoNAlts)))

abbrev pub CaseEvaluatedCases : Type 0
CaseEvaluatedCases = CaseEvaluatedExample3 × CaseEvaluatedExample4 × CaseEvaluatedExample5 × CaseEvaluatedExample6 × CaseEvaluatedExample7 × CaseEvaluatedExample8 × CaseEvaluatedUnliftedVariable × CaseEvaluatedTopLevelLambda × CaseEvaluatedRecursiveDefinition × CaseEvaluatedTopLevelApplication × CaseEvaluatedTypeLambdaOverAValue × CaseEvaluatedCastOfAVariable × CaseEvaluatedDefaultAndAnotherAlternative × CaseEvaluatedNoAlternative × CaseEvaluatedLetOfAConThatIsNotKnown × CaseEvaluatedLetrecOfALambdaInItsOwnRightSide × CaseEvaluatedEvaluatedWordHiddenByAnAlternative × CaseEvaluatedScrutineeHiddenByALet × CaseEvaluatedValueOfAJoinPoint × CaseEvaluatedFieldOfAnAlternative

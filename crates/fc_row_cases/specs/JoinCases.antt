-- Cases of rows.
use Rattle.std.specs.Prelude.{pos, [], ◌∷◌}
use Rattle.fc_syntax.specs.Tree.{KStar}
use Rattle.fc_log.specs.declared.log.Row.TheVariants as row
use Rattle.fc_model.specs.Nameless.{NTVar, NTInt, NTFun}
use Rattle.fc_model.specs.Nameless.{NBValue, NBType, NLocal, NLit, NLam, NCase, NCon, NFail, NJump}
use Rattle.fc_model.specs.Nameless.{NoNJoins, NoNAlts}
use Rattle.fc_rows.specs.Shrinking.{let_of}
use Rattle.fc_row_cases.specs.CaseTerms.{makes, makes_nothing, call, none, given, given_type, otherwise, on_literal, on_constructor, point, join_of, join_all}
use Rattle.fc_row_cases.specs.CaseNames.{type_Ex, type_Int, type_Pair, def_idf, def_two, name_I_hash, name_MkPair, name_Pack}
use Rattle.fc_row_cases.specs.CaseModules.{with_int_f_2, with_int_two_f, with_int_two_idf_f, with_int_pair_f_2, with_int_ex_two_f}

-- join-dead: example 2
abbrev pub JoinDeadExample2 : Type 0
JoinDeadExample2 = makes_nothing [] row.JoinDead (1 ∷ 1 ∷ []) with_int_f_2 (NLam (NBValue type_Int) (join_of type_Int [] (NLocal 0) (NJump 0 none)))

-- join-dead: example 3
abbrev pub JoinDeadExample3 : Type 0
JoinDeadExample3 = makes [] row.JoinDead (1 ∷ 1 ∷ []) with_int_two_f
    (NLam (NBValue type_Int) (join_all type_Int (point [] (NJump 0 none) NoNJoins) def_two))
    (NLam (NBValue type_Int) def_two)

-- join-dead: inner join of its word
abbrev pub JoinDeadInnerJoinOfItsWord : Type 0
JoinDeadInnerJoinOfItsWord = makes [] row.JoinDead (1 ∷ 1 ∷ []) with_int_two_f
    (NLam (NBValue type_Int) (join_of type_Int [] (NLocal 0) (join_of type_Int [] def_two (NJump 0 none))))
    (NLam (NBValue type_Int) (join_of type_Int [] def_two (NJump 0 none)))

-- join-dead: jump from an inner join point
abbrev pub JoinDeadJumpFromAnInnerJoinPoint : Type 0
JoinDeadJumpFromAnInnerJoinPoint = makes_nothing [] row.JoinDead (1 ∷ 1 ∷ []) with_int_two_f (NLam (NBValue type_Int) (join_of type_Int [] (NLocal 0) (join_of type_Int [] (NJump 0 none) def_two)))

-- join-dead: jump in a right side of the group alone
abbrev pub JoinDeadJumpInARightSideOfTheGroupAlone : Type 0
JoinDeadJumpInARightSideOfTheGroupAlone = makes [] row.JoinDead (1 ∷ 1 ∷ 2 ∷ []) with_int_f_2
    (NLam (NBValue type_Int) (join_of type_Int [] (NLocal 0) (join_all type_Int (point [] (NJump 1 none) (point [] (NJump 2 none) NoNJoins)) (NJump 2 none))))
    (NLam (NBValue type_Int) (join_of type_Int [] (NLocal 0) (NJump 0 none)))

-- join-once: example 2
abbrev pub JoinOnceExample2 : Type 0
JoinOnceExample2 = makes_nothing [] row.JoinOnce (1 ∷ 1 ∷ []) with_int_two_f (NLam (NBValue type_Int) (join_all type_Int (point [] def_two NoNJoins) (NJump 0 none)))

-- join-once: example 3
abbrev pub JoinOnceExample3 : Type 0
JoinOnceExample3 = makes_nothing [] row.JoinOnce (1 ∷ 1 ∷ []) with_int_two_f (NLam (NBValue type_Int) (join_of type_Int [] def_two (NCase (NLocal 0) type_Int type_Int (otherwise (NJump 0 none) (on_constructor name_I_hash (NBValue NTInt ∷ []) (NJump 0 none) NoNAlts)))))

-- join-once: the whole body
abbrev pub JoinOnceTheWholeBody : Type 0
JoinOnceTheWholeBody = makes [] row.JoinOnce (1 ∷ 1 ∷ []) with_int_f_2
    (NLam (NBValue type_Int) (join_of type_Int [] (NLocal 0) (NJump 0 none)))
    (NLam (NBValue type_Int) (NLocal 0))

-- join-once: under a binder of a free word
abbrev pub JoinOnceUnderABinderOfAFreeWord : Type 0
JoinOnceUnderABinderOfAFreeWord = makes [] row.JoinOnce (1 ∷ 1 ∷ []) with_int_two_idf_f
    (NLam (NBValue type_Int) (join_of type_Int (NBValue type_Int ∷ []) (call def_idf (NLocal 1)) (let_of type_Int def_two (NJump 0 (given (NLocal 0) none)))))
    (NLam (NBValue type_Int) (let_of type_Int def_two (let_of type_Int (NLocal 0) (call def_idf (NLocal 2)))))

-- join-once: in another join point
abbrev pub JoinOnceInAnotherJoinPoint : Type 0
JoinOnceInAnotherJoinPoint = makes [] row.JoinOnce (1 ∷ 1 ∷ []) with_int_f_2
    (NLam (NBValue type_Int) (join_of type_Int [] (NLocal 0) (join_of type_Int [] (NJump 0 none) (NCase (NLocal 0) type_Int type_Int (otherwise (NJump 0 none) (on_constructor name_I_hash (NBValue NTInt ∷ []) (NJump 0 none) NoNAlts))))))
    (NLam (NBValue type_Int) (join_of type_Int [] (NLocal 0) (NCase (NLocal 0) type_Int type_Int (otherwise (NJump 0 none) (on_constructor name_I_hash (NBValue NTInt ∷ []) (NJump 0 none) NoNAlts)))))

-- join-once: arguments whose words the parameters take
abbrev pub JoinOnceArgumentsWhoseWordsTheParametersTake : Type 0
JoinOnceArgumentsWhoseWordsTheParametersTake = makes [] row.JoinOnce (1 ∷ 1 ∷ 1 ∷ []) with_int_pair_f_2
    (NLam (NBValue type_Int) (NLam (NBValue type_Int) (join_of type_Pair (NBValue type_Int ∷ NBValue type_Int ∷ []) (NCon name_MkPair (given (NLocal 1) (given (NLocal 0) none))) (NJump 0 (given (NLocal 1) (given (NLocal 0) none))))))
    (NLam (NBValue type_Int) (NLam (NBValue type_Int) (let_of type_Int (NLocal 1) (let_of type_Int (NLocal 1) (NCon name_MkPair (given (NLocal 1) (given (NLocal 0) none)))))))

-- join-once: in a recursive join point
abbrev pub JoinOnceInARecursiveJoinPoint : Type 0
JoinOnceInARecursiveJoinPoint = makes [] row.JoinOnce (1 ∷ 1 ∷ []) with_int_f_2
    (NLam (NBValue type_Int) (join_of type_Int [] (NLocal 0) (join_all type_Int (point (NBValue NTInt ∷ []) (NCase (NLocal 0) NTInt type_Int (otherwise (NJump 0 (given (NLocal 1) none)) (on_literal (pos 0) (NJump 1 none) NoNAlts))) NoNJoins) (NJump 0 (given (NLit (pos 3)) none)))))
    (NLam (NBValue type_Int) (join_all type_Int (point (NBValue NTInt ∷ []) (NCase (NLocal 0) NTInt type_Int (otherwise (NJump 0 (given (NLocal 1) none)) (on_literal (pos 0) (NLocal 2) NoNAlts))) NoNJoins) (NJump 0 (given (NLit (pos 3)) none))))

-- join-once: no jump
abbrev pub JoinOnceNoJump : Type 0
JoinOnceNoJump = makes_nothing [] row.JoinOnce (1 ∷ 1 ∷ []) with_int_two_f (NLam (NBValue type_Int) (join_of type_Int [] (NLocal 0) def_two))

-- join-once: case of a variable inside such an alternative
abbrev pub JoinOnceCaseOfAVariableInsideSuchAnAlternative : Type 0
JoinOnceCaseOfAVariableInsideSuchAnAlternative = makes [] row.JoinOnce (1 ∷ 1 ∷ []) with_int_two_f
    (NLam (NBValue type_Int) (join_of type_Int [] def_two (NCase (NCase (NLocal 0) type_Int type_Int (otherwise (NLocal 1) NoNAlts)) type_Int type_Int (otherwise (NCase (NLocal 1) type_Int type_Int (otherwise (NJump 0 none) NoNAlts)) NoNAlts))))
    (NLam (NBValue type_Int) (NCase (NCase (NLocal 0) type_Int type_Int (otherwise (NLocal 1) NoNAlts)) type_Int type_Int (otherwise (NCase (NLocal 1) type_Int type_Int (otherwise def_two NoNAlts)) NoNAlts)))

-- join-once: jump under a type binder of a word it mentions
abbrev pub JoinOnceJumpUnderATypeBinderOfAWordItMentions : Type 0
JoinOnceJumpUnderATypeBinderOfAWordItMentions = makes [] row.JoinOnce (1 ∷ 1 ∷ 1 ∷ 1 ∷ []) with_int_ex_two_f
    (NLam (NBType KStar) (NLam (NBValue (NTVar 0)) (NLam (NBValue type_Ex) (join_of type_Int [] (NCase (NFail (NTVar 0)) (NTVar 0) type_Int (otherwise def_two NoNAlts)) (NCase (NLocal 0) type_Ex type_Int (on_constructor name_Pack (NBType KStar ∷ NBValue (NTVar 0) ∷ NBValue (NTFun (NTVar 0) type_Int) ∷ []) (NJump 0 none) NoNAlts))))))
    (NLam (NBType KStar) (NLam (NBValue (NTVar 0)) (NLam (NBValue type_Ex) (NCase (NLocal 0) type_Ex type_Int (on_constructor name_Pack (NBType KStar ∷ NBValue (NTVar 0) ∷ NBValue (NTFun (NTVar 0) type_Int) ∷ []) (NCase (NFail (NTVar 1)) (NTVar 1) type_Int (otherwise def_two NoNAlts)) NoNAlts)))))

-- join-once: parameters and arguments of two sorts
abbrev pub JoinOnceParametersAndArgumentsOfTwoSorts : Type 0
JoinOnceParametersAndArgumentsOfTwoSorts = makes_nothing [] row.JoinOnce (1 ∷ 1 ∷ []) with_int_f_2 (NLam (NBValue type_Int) (join_of type_Int (NBValue type_Int ∷ []) (NLocal 0) (NJump 0 (given_type type_Int none))))

-- join-once: jump under a variable of a word it jumps to
abbrev pub JoinOnceJumpUnderAVariableOfAWordItJumpsTo : Type 0
JoinOnceJumpUnderAVariableOfAWordItJumpsTo = makes [] row.JoinOnce (1 ∷ 1 ∷ 2 ∷ []) with_int_two_f
    (NLam (NBValue type_Int) (join_of type_Int [] def_two (join_of type_Int [] (NJump 0 none) (let_of type_Int (NLocal 0) (NCase (NLocal 0) type_Int type_Int (otherwise (NJump 0 none) NoNAlts))))))
    (NLam (NBValue type_Int) (join_of type_Int [] def_two (let_of type_Int (NLocal 0) (NCase (NLocal 0) type_Int type_Int (otherwise (NJump 0 none) NoNAlts)))))

-- join-once: jump in its own group's outer join
abbrev pub JoinOnceJumpInItsOwnGroupSOuterJoin : Type 0
JoinOnceJumpInItsOwnGroupSOuterJoin = makes [] row.JoinOnce (1 ∷ 1 ∷ 2 ∷ []) with_int_f_2
    (NLam (NBValue type_Int) (join_of type_Int [] (NLocal 0) (join_of type_Int [] (NJump 0 none) (NJump 0 none))))
    (NLam (NBValue type_Int) (join_of type_Int [] (NLocal 0) (NJump 0 none)))

abbrev pub JoinCases : Type 0
JoinCases = JoinDeadExample2 × JoinDeadExample3 × JoinDeadInnerJoinOfItsWord × JoinDeadJumpFromAnInnerJoinPoint × JoinDeadJumpInARightSideOfTheGroupAlone × JoinOnceExample2 × JoinOnceExample3 × JoinOnceTheWholeBody × JoinOnceUnderABinderOfAFreeWord × JoinOnceInAnotherJoinPoint × JoinOnceArgumentsWhoseWordsTheParametersTake × JoinOnceInARecursiveJoinPoint × JoinOnceNoJump × JoinOnceCaseOfAVariableInsideSuchAnAlternative × JoinOnceJumpUnderATypeBinderOfAWordItMentions × JoinOnceParametersAndArgumentsOfTwoSorts × JoinOnceJumpUnderAVariableOfAWordItJumpsTo × JoinOnceJumpInItsOwnGroupSOuterJoin

-- Cases of rows.
use Rattle.std.specs.Prelude.{[], ◌∷◌}
use Rattle.fc_syntax.specs.declared.ty.Role.TheVariants.{R}
use Rattle.fc_syntax.specs.Tree.{KStar}
use Rattle.fc_log.specs.declared.log.Row.TheVariants as row
use Rattle.fc_model.specs.Nameless.{NTVar, NTApp, NTFun, NTForall, NGVar, NGRefl, NGSym, NGTrans, NGSub, NGAx, NoNCos, MoreNCos}
use Rattle.fc_model.specs.Nameless.{NBValue, NBType, NBCo, NLocal, NLam, NCase, NCast, NFail}
use Rattle.fc_model.specs.Nameless.{NoNAlts}
use Rattle.fc_rows.specs.Shrinking.{let_of}
use Rattle.fc_row_cases.specs.CaseTerms.{makes, makes_nothing, at, otherwise}
use Rattle.fc_row_cases.specs.CaseNames.{type_Age, type_Bool, type_Box, type_Int, type_W, name_CoAge, name_CoW, name_FI}
use Rattle.fc_row_cases.specs.CaseModules.{with_int_age_f, with_int_f_2, with_int_bool_box_f_2, with_int_w_f, with_int_f_7, with_int_f_8, with_int_age_f_3, with_int_f_9, with_int_age_f_4, with_f_6, with_int_bool_f_fi_f, with_int_w_f_2}
use Rattle.fc_row_cases.specs.CaseModules.{with_int_bool_f_2}

-- fail-absorb: example 2
abbrev pub FailAbsorbExample2 : Type 0
FailAbsorbExample2 = makes [] row.FailAbsorb (1 ∷ 1 ∷ []) with_int_f_2
    (NLam (NBValue type_Int) (at (NFail (NTForall KStar (NTVar 0))) type_Int))
    (NLam (NBValue type_Int) (NFail type_Int))

-- fail-absorb: example 3
abbrev pub FailAbsorbExample3 : Type 0
FailAbsorbExample3 = makes [] row.FailAbsorb (1 ∷ 1 ∷ []) with_int_f_2
    (NLam (NBValue type_Int) (NCase (NFail type_Int) type_Int type_Int (otherwise (NLocal 1) NoNAlts)))
    (NLam (NBValue type_Int) (NFail type_Int))

-- fail-absorb: example 4
abbrev pub FailAbsorbExample4 : Type 0
FailAbsorbExample4 = makes [] row.FailAbsorb (1 ∷ 1 ∷ []) with_int_age_f
    (NLam (NBValue type_Int) (NCast (NFail type_Int) (NGSym (NGAx name_CoAge NoNCos))))
    (NLam (NBValue type_Int) (NFail type_Age))

-- fail-absorb: type put in
abbrev pub FailAbsorbTypePutIn : Type 0
FailAbsorbTypePutIn = makes [] row.FailAbsorb (1 ∷ 1 ∷ []) with_int_bool_box_f_2
    (NLam (NBValue type_Int) (at (NFail (NTForall KStar (NTApp type_Box (NTVar 0)))) type_Bool))
    (NLam (NBValue type_Int) (NFail (NTApp type_Box type_Bool)))

-- fail-absorb: cast by an axiom with a parameter
abbrev pub FailAbsorbCastByAnAxiomWithAParameter : Type 0
FailAbsorbCastByAnAxiomWithAParameter = makes [] row.FailAbsorb (1 ∷ 1 ∷ []) with_int_w_f
    (NLam (NBValue type_Int) (NCast (NFail (NTApp type_W type_Int)) (NGAx name_CoW (MoreNCos (NGRefl R type_Int) NoNCos))))
    (NLam (NBValue type_Int) (NFail type_Int))

-- fail-absorb: right side
abbrev pub FailAbsorbRightSide : Type 0
FailAbsorbRightSide = makes_nothing [] row.FailAbsorb (1 ∷ 1 ∷ []) with_int_f_2 (NLam (NBValue type_Int) (let_of type_Int (NFail type_Int) (NLocal 1)))

-- fail-absorb: right end mentions a hidden type
abbrev pub FailAbsorbRightEndMentionsAHiddenType : Type 0
FailAbsorbRightEndMentionsAHiddenType = makes [] row.FailAbsorb (1 ∷ 1 ∷ 1 ∷ 1 ∷ []) with_int_f_7
    (NLam (NBType KStar) (NLam (NBCo R type_Int (NTVar 0)) (NLam (NBType KStar) (NCast (NFail type_Int) (NGVar 0)))))
    (NLam (NBType KStar) (NLam (NBCo R type_Int (NTVar 0)) (NLam (NBType KStar) (NFail (NTVar 1)))))

-- fail-absorb: cast without ends
abbrev pub FailAbsorbCastWithoutEnds : Type 0
FailAbsorbCastWithoutEnds = makes_nothing [] row.FailAbsorb (1 ∷ 1 ∷ 1 ∷ 1 ∷ 1 ∷ []) with_int_f_8 (NLam (NBType KStar) (NLam (NBCo R (NTFun type_Int (NTVar 0)) type_Int) (NLam (NBValue type_Int) (NLam (NBType KStar) (NCast (NFail type_Int) (NGTrans (NGSym (NGSym (NGSym (NGVar 0)))) (NGRefl R (NTFun type_Int type_Int))))))))

-- cast-refl: example 1
abbrev pub CastReflExample1 : Type 0
CastReflExample1 = makes [] row.CastRefl (1 ∷ 1 ∷ []) with_int_f_2
    (NLam (NBValue type_Int) (NCast (NLocal 0) (NGRefl R type_Int)))
    (NLam (NBValue type_Int) (NLocal 0))

-- cast-refl: example 2
abbrev pub CastReflExample2 : Type 0
CastReflExample2 = makes [] row.CastRefl (1 ∷ 1 ∷ []) with_int_age_f_3
    (NLam (NBValue type_Int) (NCast (NLocal 0) (NGTrans (NGSym (NGAx name_CoAge NoNCos)) (NGAx name_CoAge NoNCos))))
    (NLam (NBValue type_Int) (NLocal 0))

-- cast-refl: example 3
abbrev pub CastReflExample3 : Type 0
CastReflExample3 = makes_nothing [] row.CastRefl (1 ∷ 1 ∷ []) with_int_age_f (NLam (NBValue type_Int) (NCast (NLocal 0) (NGSym (NGAx name_CoAge NoNCos))))

-- cast-refl: coercion variable of equal ends
abbrev pub CastReflCoercionVariableOfEqualEnds : Type 0
CastReflCoercionVariableOfEqualEnds = makes [] row.CastRefl (1 ∷ 1 ∷ 1 ∷ []) with_int_f_9
    (NLam (NBCo R type_Int type_Int) (NLam (NBValue type_Int) (NCast (NLocal 0) (NGVar 0))))
    (NLam (NBCo R type_Int type_Int) (NLam (NBValue type_Int) (NLocal 0)))

-- cast-refl: coercion variable of two ends
abbrev pub CastReflCoercionVariableOfTwoEnds : Type 0
CastReflCoercionVariableOfTwoEnds = makes_nothing [] row.CastRefl (1 ∷ 1 ∷ 1 ∷ []) with_int_age_f_4 (NLam (NBCo R type_Int type_Age) (NLam (NBValue type_Int) (NCast (NLocal 0) (NGVar 0))))

-- cast-refl: foralls up to bound names
abbrev pub CastReflForallsUpToBoundNames : Type 0
CastReflForallsUpToBoundNames = makes [] row.CastRefl (1 ∷ 1 ∷ []) with_f_6
    (NLam (NBValue (NTForall KStar (NTVar 0))) (NCast (NLocal 0) (NGRefl R (NTForall KStar (NTVar 0)))))
    (NLam (NBValue (NTForall KStar (NTVar 0))) (NLocal 0))

-- cast-refl: family equation
abbrev pub CastReflFamilyEquation : Type 0
CastReflFamilyEquation = makes_nothing [] row.CastRefl (1 ∷ 1 ∷ []) with_int_bool_f_fi_f (NLam (NBValue type_Bool) (NCast (NLocal 0) (NGSub (NGSym (NGAx name_FI NoNCos)))))

-- cast-refl: newtype with a parameter
abbrev pub CastReflNewtypeWithAParameter : Type 0
CastReflNewtypeWithAParameter = makes_nothing [] row.CastRefl (1 ∷ 1 ∷ []) with_int_w_f_2 (NLam (NBValue type_Int) (NCast (NLocal 0) (NGSym (NGAx name_CoW (MoreNCos (NGRefl R type_Int) NoNCos)))))

-- cast-refl: no ends
abbrev pub CastReflNoEnds : Type 0
CastReflNoEnds = makes_nothing [] row.CastRefl (1 ∷ 1 ∷ []) with_int_bool_f_2 (NLam (NBValue type_Int) (NCast (NLocal 0) (NGTrans (NGRefl R type_Int) (NGRefl R type_Bool))))

-- cast-cast: example 1
abbrev pub CastCastExample1 : Type 0
CastCastExample1 = makes [] row.CastCast (1 ∷ 1 ∷ []) with_int_age_f_3
    (NLam (NBValue type_Int) (NCast (NCast (NLocal 0) (NGSym (NGAx name_CoAge NoNCos))) (NGAx name_CoAge NoNCos)))
    (NLam (NBValue type_Int) (NCast (NLocal 0) (NGTrans (NGSym (NGAx name_CoAge NoNCos)) (NGAx name_CoAge NoNCos))))

-- cast-cast: inner of three
abbrev pub CastCastInnerOfThree : Type 0
CastCastInnerOfThree = makes [] row.CastCast (1 ∷ 1 ∷ 0 ∷ []) with_int_age_f
    (NLam (NBValue type_Int) (NCast (NCast (NCast (NLocal 0) (NGSym (NGAx name_CoAge NoNCos))) (NGAx name_CoAge NoNCos)) (NGSym (NGAx name_CoAge NoNCos))))
    (NLam (NBValue type_Int) (NCast (NCast (NLocal 0) (NGTrans (NGSym (NGAx name_CoAge NoNCos)) (NGAx name_CoAge NoNCos))) (NGSym (NGAx name_CoAge NoNCos))))

-- cast-cast: in a scrutinee
abbrev pub CastCastInAScrutinee : Type 0
CastCastInAScrutinee = makes [] row.CastCast (1 ∷ 1 ∷ 0 ∷ []) with_int_age_f_3
    (NLam (NBValue type_Int) (NCase (NCast (NCast (NLocal 0) (NGSym (NGAx name_CoAge NoNCos))) (NGAx name_CoAge NoNCos)) type_Int type_Int (otherwise (NLocal 0) NoNAlts)))
    (NLam (NBValue type_Int) (NCase (NCast (NLocal 0) (NGTrans (NGSym (NGAx name_CoAge NoNCos)) (NGAx name_CoAge NoNCos))) type_Int type_Int (otherwise (NLocal 0) NoNAlts)))

abbrev pub CastCases : Type 0
CastCases = FailAbsorbExample2 × FailAbsorbExample3 × FailAbsorbExample4 × FailAbsorbTypePutIn × FailAbsorbCastByAnAxiomWithAParameter × FailAbsorbRightSide × FailAbsorbRightEndMentionsAHiddenType × FailAbsorbCastWithoutEnds × CastReflExample1 × CastReflExample2 × CastReflExample3 × CastReflCoercionVariableOfEqualEnds × CastReflCoercionVariableOfTwoEnds × CastReflForallsUpToBoundNames × CastReflFamilyEquation × CastReflNewtypeWithAParameter × CastReflNoEnds × CastCastExample1 × CastCastInnerOfThree × CastCastInAScrutinee

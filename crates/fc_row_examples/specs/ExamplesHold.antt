-- What the examples say, row by row.
use Rattle.fc_row_examples.specs.CaseExamples.{AlternativeDead, AlternativeOfADefinition, AlternativeOfAKnown, AlternativeOfAnother, AlternativeOfAnotherHead, BinderBehindFields}
use Rattle.fc_row_examples.specs.CaseExamples.{BoundCoercionPutIn, BoundTypePutIn, CallIsNoValue, ConstructorAtDefault, ConstructorItself, DefaultIsNotDead, EvaluatedCast}
use Rattle.fc_row_examples.specs.CaseExamples.{EvaluatedCoercionLambda, EvaluatedConstructor, EvaluatedDefinition, EvaluatedInADefault, EvaluatedLambda, EvaluatedLiteral, EvaluatedNumber}
use Rattle.fc_row_examples.specs.CaseExamples.{EvaluatedWithMoreAlternatives, EvaluatedWithoutDefault, FewerFields, FieldOfAnotherSort, FieldsInOrder, InnerCaseBesideAnAlternative}
use Rattle.fc_row_examples.specs.CaseExamples.{InnerCaseInNoDefault, InnerCaseMerged, InnerCaseOfAnother, KnownAsALambda, KnownAtDefault, KnownBelowACast, KnownByADefinition, KnownByALet}
use Rattle.fc_row_examples.specs.CaseExamples.{HiddenByALambda, KnownBehindALambda, KnownByARecursiveLet, KnownCaseBinder, KnownInADefault, KnownInAnAlternative, KnownLiteral, KnownLiteralAtDefault, KnownWithACall}
use Rattle.fc_row_examples.specs.CaseExamples.{KnownWithoutAlternative, LetIsNotEvaluated, LiteralAtDefault, LiteralDead, LiteralWithItsAlternative, LiteralWithoutAlternative}
use Rattle.fc_row_examples.specs.CaseExamples.{LookedAtACall, MoreFields, NoAlternative, PlaceOfTheCase, TypeLambdaIsNoValue, UnknownVariable, VariableOfATree}
use Rattle.fc_row_examples.specs.Examples.{AppliedToACoercion, AppliedToATerm, AppliedToAType, AppliedToAnotherSort, CastAlone, CastInALet, CastTwice, DefinitionDropped, DifferentEnds}
use Rattle.fc_row_examples.specs.Examples.{EqualEnds, FailureApplied, FailureAsAnArgument, FailureAtAType, FailureCast, FailureLookedAt, FailureOfNoFunction, FieldNamed, FieldOfABoundType}
use Rattle.fc_row_examples.specs.Examples.{FieldOfNoLet, FieldsAreTrivial, GroupNotUsed, GroupUsed, JumpAsAWholeAlternative, JumpAtAType, JumpBehindAJoin, JumpBelowALet}
use Rattle.fc_row_examples.specs.Examples.{JumpFromARecursiveJoinPoint, JumpFromTheBody, JumpOnce, JumpTwice, JumpWithFewerArguments, JumpWithMoreArguments, LambdaWithoutAType, LetApplied}
use Rattle.fc_row_examples.specs.Examples.{LetAsAnArgument, LetAtAType, LetCast, LetInAnAlternative, LetLookedAt, LetNotUsed, LetOfACall, LetOfACallBehindALet, LetOfACast}
use Rattle.fc_row_examples.specs.Examples.{LetOfAConstructor, LetOfAValueBehindLets, LetOfAVariable, LetUsed, NeverUsed, NoJump, NoJumpAtAll, NoJumpFromTheBody, NoLambdaApplied}
use Rattle.fc_row_examples.specs.Examples.{RecursiveField, RecursiveJumpOnce, RecursiveLetOfALet, RecursiveLetOfAVariable, RecursiveUsedOnce, RowAtABinder, RowInADefinition, RowInARightSide, RowInTheTypeOfABind, RowInAType}
use Rattle.fc_row_examples.specs.Examples.{RowInNoDefinition, UnliftedUsedOnce, UsedAsAField, UsedBelowACast, UsedInACoercionLambda, UsedInAJoinPoint, UsedInALambda}
use Rattle.fc_row_examples.specs.Examples.{ReachedThroughOthers, UntoldFails, UsedInARecursiveJoinPoint, UsedInATypeLambda, UsedOnce, UsedTwice}

abbrev pub BetaExamples : Type 0
BetaExamples = AppliedToATerm × AppliedToAType × AppliedToACoercion × AppliedToAnotherSort × NoLambdaApplied × LambdaWithoutAType

abbrev pub LetDeadExamples : Type 0
LetDeadExamples = LetNotUsed × GroupNotUsed × LetUsed × GroupUsed

abbrev pub LetAtomExamples : Type 0
LetAtomExamples = LetOfAVariable × LetOfACast × LetOfAConstructor × LetOfACall × RecursiveLetOfAVariable

abbrev pub LetOnceExamples : Type 0
LetOnceExamples = UsedOnce × UsedInATypeLambda × UsedBelowACast × UsedInAJoinPoint × NeverUsed × UsedTwice × UsedInALambda × UsedInACoercionLambda × UsedInARecursiveJoinPoint
    × UsedAsAField × UnliftedUsedOnce × RecursiveUsedOnce

abbrev pub CaseKnownExamples : Type 0
CaseKnownExamples = FieldsInOrder × BinderBehindFields × BoundTypePutIn × BoundCoercionPutIn × ConstructorAtDefault × NoAlternative × FewerFields × MoreFields × FieldOfAnotherSort
    × LookedAtACall × LiteralWithItsAlternative × LiteralAtDefault × LiteralWithoutAlternative × KnownByALet × KnownByARecursiveLet × KnownByADefinition × KnownAtDefault
    × KnownInAnAlternative × KnownCaseBinder × KnownLiteral × KnownLiteralAtDefault × UnknownVariable × KnownBehindALambda × HiddenByALambda × KnownWithACall × KnownAsALambda × KnownBelowACast
    × KnownWithoutAlternative × KnownInADefault

abbrev pub CaseEvaluatedExamples : Type 0
CaseEvaluatedExamples = EvaluatedDefinition × EvaluatedConstructor × EvaluatedInADefault × EvaluatedLiteral × EvaluatedNumber × EvaluatedLambda × EvaluatedCoercionLambda × EvaluatedCast
    × VariableOfATree × LetIsNotEvaluated × ConstructorItself × CallIsNoValue × TypeLambdaIsNoValue × EvaluatedWithMoreAlternatives × EvaluatedWithoutDefault

abbrev pub CaseMergeExamples : Type 0
CaseMergeExamples = InnerCaseMerged × InnerCaseOfAnother × InnerCaseBesideAnAlternative × InnerCaseInNoDefault

abbrev pub AltDeadExamples : Type 0
AltDeadExamples = AlternativeDead × LiteralDead × AlternativeOfADefinition × AlternativeOfAnotherHead × DefaultIsNotDead × AlternativeOfAnother × AlternativeOfAKnown × PlaceOfTheCase

abbrev pub FailAbsorbExamples : Type 0
FailAbsorbExamples = FailureApplied × FailureAtAType × FailureLookedAt × FailureCast × FailureAsAnArgument × FailureOfNoFunction

abbrev pub CastReflExamples : Type 0
CastReflExamples = EqualEnds × DifferentEnds

abbrev pub CastCastExamples : Type 0
CastCastExamples = CastTwice × CastAlone

abbrev pub JoinDeadExamples : Type 0
JoinDeadExamples = NoJump × NoJumpFromTheBody × JumpFromTheBody

abbrev pub JoinOnceExamples : Type 0
JoinOnceExamples = JumpOnce × JumpAtAType × JumpBelowALet × JumpFromARecursiveJoinPoint × JumpAsAWholeAlternative × JumpBehindAJoin × JumpTwice × NoJumpAtAll × RecursiveJumpOnce
    × JumpWithFewerArguments × JumpWithMoreArguments

abbrev pub DefDeadExamples : Type 0
DefDeadExamples = DefinitionDropped

abbrev pub AppOfLetExamples : Type 0
AppOfLetExamples = LetApplied × LetAtAType × LetAsAnArgument

abbrev pub CaseOfLetExamples : Type 0
CaseOfLetExamples = LetLookedAt × LetInAnAlternative

abbrev pub CastOfLetExamples : Type 0
CastOfLetExamples = LetCast × CastInALet

abbrev pub LetOfLetExamples : Type 0
LetOfLetExamples = LetOfAValueBehindLets × LetOfACallBehindALet × RecursiveLetOfALet

abbrev pub NameFieldExamples : Type 0
NameFieldExamples = FieldNamed × FieldOfABoundType × FieldsAreTrivial × RecursiveField × FieldOfNoLet

abbrev pub PlaceExamples : Type 0
PlaceExamples = RowInADefinition × RowInAType × RowInNoDefinition × RowAtABinder × RowInARightSide × RowInTheTypeOfABind

abbrev pub ImportExamples : Type 0
ImportExamples = UntoldFails × ReachedThroughOthers

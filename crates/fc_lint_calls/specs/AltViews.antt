-- What stands before an alternative.
use Rattle.fc_model.specs.Typing as words
use Rattle.fc_lint_calls.specs.declared.alternatives.Before.{Before}
use Rattle.fc_lint_calls.specs.declared.alternatives.Before.TheVariants.{Start, AfterDefault, AfterLit, AfterCon}

abbrev pub before_of : Before → words.Before
before_of Start = words.Start
before_of AfterDefault = words.AfterDefault
before_of (AfterLit n) = words.AfterLit n
before_of (AfterCon i) = words.AfterCon i

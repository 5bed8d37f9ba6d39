-- Heads that are sought, and alternatives by what they bind and answer.
use Rattle.std.specs.Prelude.{ℕ, List}
use Rattle.fc_syntax.specs.declared.expr.Alt.{Alt}
use Rattle.fc_syntax.specs.declared.expr.Head.{Head}
use Rattle.fc_syntax.specs.declared.expr.Head.TheVariants as head
use Rattle.fc_syntax.specs.declared.ty.Ref.{Ref}
use Rattle.fc_model.specs.Nameless.{NBinder, NExpr}
use Rattle.fc_model.specs.NamelessView.{nbinders_of, nexpr_of}
use Rattle.fc_case_known.specs.declared.alternatives.Sought.{Sought}
use Rattle.fc_case_known.specs.declared.alternatives.Sought.TheVariants.{Rest, Number, Named}

-- the head that is sought
abbrev pub head_of : Sought → Head
head_of Rest = head.Default
head_of (Number n) = head.Lit n
head_of (Named n) = head.Con n.now

-- the binders and the body of an alternative
abbrev pub branch_of : Alt ℕ Ref → List NBinder × NExpr
branch_of a = (nbinders_of a.binders, nexpr_of a.body)

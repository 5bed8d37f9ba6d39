-- Arguments, operands and join points of src, one by one.
use Rattle.std.specs.Prelude.{ℕ, List, ◌++◌, Result, Ok, Err}
use Rattle.fc_syntax.specs.declared.expr.Arg as A
use Rattle.fc_syntax.specs.declared.expr.Expr as E
use Rattle.fc_syntax.specs.declared.ty.Ref.{Ref}
use Rattle.fc_model.specs.Calling.{Given, GivenTerm}
use Rattle.fc_model.specs.Faulting.{F, and_then, under}
use Rattle.fc_model.specs.Kinding.{Modules}
use Rattle.fc_model.specs.NamelessView.{nargs_of, nexpr_of, nexprs_of}
use Rattle.fc_model.specs.Typing.{Context, args_given, is_atom, operands_given, type_or_fault}

-- arguments of src from part i on
unfoldable pub args_from : Modules → Context → ℕ → List (A.Arg ℕ Ref) → Result (List Given) F
args_from ms c i args = args_given ms c i (nargs_of args)

-- the operand that is part i
unfoldable pub operand_given : Modules → Context → ℕ → E.Expr ℕ Ref → Result Given F
operand_given ms c i e = and_then (under i (type_or_fault ms c (nexpr_of e))) (λ t. Ok (GivenTerm t (is_atom (nexpr_of e))))

-- operands of src from part i on
unfoldable pub operands_from : Modules → Context → ℕ → List (E.Expr ℕ Ref) → Result (List Given) F
operands_from ms c i es = operands_given ms c i (nexprs_of es)

-- what is given, before what is given later
unfoldable pub with_givens : List Given → Result (List Given) F → Result (List Given) F
with_givens gs (Ok more) = Ok (gs ++ more)
with_givens gs (Err f) = Err f

-- The parts of an expression, where it is of a form.
use Rattle.std.specs.Prelude.{Bool, false, [], Option, Some, None}
use Rattle.fc_syntax.specs.declared.expr.Head.TheVariants as head
use Rattle.fc_syntax.specs.declared.ty.Name.{Name}
use Rattle.fc_model.specs.Nameless.{NTy, NCo, NArg, NArgs, NBinder, NBinds, NJoins, NAlts, NoNBinds, MoreNBinds, NoNAlts, MoreNAlts, NBound, NBranch}
use Rattle.fc_model.specs.Nameless.{NExpr, NApp, NLam, NLet, NCase, NCast, NCon, NJoin}
use Rattle.fc_model.specs.NamelessView.{nalts_of, narg_of, nargs_of, nbinder_of, nbinds_of, nco_of, nexpr_of, njoins_of, nty_of}
use Rattle.fc_forms.specs.declared.forms.Application.{Application}
use Rattle.fc_forms.specs.declared.forms.Binding.{Binding}
use Rattle.fc_forms.specs.declared.forms.Lambda.{Lambda}
use Rattle.fc_forms.specs.declared.forms.SingleBinding.{SingleBinding}
use Rattle.fc_forms.specs.declared.forms.Case.{Case}
use Rattle.fc_forms.specs.declared.forms.Cast.{Cast}
use Rattle.fc_forms.specs.declared.forms.Construction.{Construction}
use Rattle.fc_forms.specs.declared.forms.Joining.{Joining}

-- WHAT AN EXPRESSION IS MADE OF

-- what is applied, and to what
abbrev pub application_parts : NExpr → Option (NExpr × NArg)
application_parts (NApp f a) = Some (f, a)
application_parts e = None

-- the binder and the body of a lambda
abbrev pub lambda_parts : NExpr → Option (NBinder × NExpr)
lambda_parts (NLam b e) = Some (b, e)
lambda_parts e = None

-- whether a let is recursive, its bindings and its body
abbrev pub binding_parts : NExpr → Option (Bool × NBinds × NExpr)
binding_parts (NLet r bs b) = Some (r, bs, b)
binding_parts e = None

-- the type, the right side and the body of a let of one binding that is not recursive
abbrev pub single_binding_parts : NExpr → Option (NTy × NExpr × NExpr)
single_binding_parts (NLet false (MoreNBinds (NBound t e) NoNBinds) b) = Some (t, e, b)
single_binding_parts e = None

-- what a case looks at, the types of its binder and of its answer, and its alternatives
abbrev pub case_parts : NExpr → Option (NExpr × NTy × NTy × NAlts)
case_parts (NCase e t u alts) = Some (e, t, u, alts)
case_parts e = None

-- what is cast, and by which coercion
abbrev pub cast_parts : NExpr → Option (NExpr × NCo)
cast_parts (NCast e g) = Some (e, g)
cast_parts e = None

-- the name of a constructor, and its arguments
abbrev pub construction_parts : NExpr → Option (Name × NArgs)
construction_parts (NCon n args) = Some (n, args)
construction_parts e = None

-- whether join points are recursive, the type of the answer, the join points and the body
abbrev pub joining_parts : NExpr → Option (Bool × NTy × NJoins × NExpr)
joining_parts (NJoin r t js b) = Some (r, t, js, b)
joining_parts e = None

-- what the only alternative answers, where it is a default
abbrev pub default_body : NAlts → Option NExpr
default_body (MoreNAlts (NBranch head.Default [] b) NoNAlts) = Some b
default_body alts = None

-- THE PARTS THAT CODE ANSWERS

abbrev pub application_of : Application → NExpr × NArg
application_of a = (nexpr_of a.head.now, narg_of a.argument.now)

abbrev pub lambda_of : Lambda → NBinder × NExpr
lambda_of l = (nbinder_of l.binder.now, nexpr_of l.body.now)

abbrev pub binding_of : Binding → Bool × NBinds × NExpr
binding_of b = (b.recursive, nbinds_of b.bindings.now, nexpr_of b.body.now)

abbrev pub single_binding_of : SingleBinding → NTy × NExpr × NExpr
single_binding_of b = (nty_of b.binding.now.ty, nexpr_of b.binding.now.rhs, nexpr_of b.body.now)

abbrev pub case_of : Case → NExpr × NTy × NTy × NAlts
case_of c = (nexpr_of c.scrutinee.now, nty_of c.ty.now, nty_of c.answer.now, nalts_of c.alternatives.now)

abbrev pub cast_of : Cast → NExpr × NCo
cast_of c = (nexpr_of c.inner.now, nco_of c.coercion.now)

abbrev pub construction_of : Construction → Name × NArgs
construction_of k = (k.name.now, nargs_of k.arguments.now)

abbrev pub joining_of : Joining → Bool × NTy × NJoins × NExpr
joining_of j = (j.recursive, nty_of j.answer.now, njoins_of j.points.now, nexpr_of j.body.now)

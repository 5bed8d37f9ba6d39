-- Arguments and operands, one after the other.
use Rattle.std.proofs.Common.{◌≡◌, refl, ap, ℕ, ◌+◌, ◌<◌, Bool, List, [], ◌∷◌, ◌++◌, drop, get_or, length, Result, Ok, Err}
use Rattle.fc_syntax.specs.declared.expr.Arg as R
use Rattle.fc_syntax.specs.declared.expr.Expr as E
use Rattle.fc_syntax.specs.declared.ty.Ref.{Ref}
use Rattle.fc_model.specs.Calling.{Given, GivenTerm}
use Rattle.fc_model.specs.Faulting.{F, and_then, under}
use Rattle.fc_model.specs.Kinding.{Modules}
use Rattle.fc_model.specs.Nameless.{NTy}
use Rattle.fc_model.specs.NamelessView.{narg_of, nexpr_of, nexprs_of}
use Rattle.fc_model.specs.Typing.{Context, argument_given, is_atom, operands_given, then_given, type_or_fault}
use Rattle.fc_model.proofs.Lists.{drop_item}
use Rattle.fc_lint_expr.specs.Lists.{args_from, operand_given, operands_from, with_givens}

one_more : {X : Type 0} (xs : List X) (x : X) (ys : List X) → xs ++ x ∷ ys ≡ (xs ++ x ∷ []) ++ ys
one_more [] x ys = refl
one_more (y ∷ xs) x ys = ap (λ r. y ∷ r) (one_more xs x ys)

append_none : {X : Type 0} (xs : List X) → xs ++ [] ≡ xs
append_none [] = refl
append_none (x ∷ xs) = ap (λ r. x ∷ r) (append_none xs)

-- nothing is given yet, and nothing is left
pub with_none : (r : Result (List Given) F) → with_givens [] r ≡ r
unfolding with_givens
with_none (Ok gs) = refl
with_none (Err f) = refl

with_end : (items : List Given) → with_givens items (Ok []) ≡ Ok items
unfolding with_givens
with_end items = ap (λ x. Ok x) (append_none items)

-- what is given next stands behind what was given
with_more : (items : List Given) (g : Given) (r : Result (List Given) F) → with_givens items (then_given g r) ≡ with_givens (items ++ g ∷ []) r
unfolding with_givens
with_more items g (Ok gs) = ap (λ x. Ok x) (one_more items g gs)
with_more items g (Err f) = refl

with_then : (items : List Given) (h : Result Given F) (r : Result (List Given) F) → with_givens items (and_then h (λ g. then_given g r)) ≡ and_then h (λ g. with_givens (items ++ g ∷ []) r)
unfolding with_givens
with_then items (Ok g) r = with_more items g r
with_then items (Err f) r = refl

module _ (ms : Modules) (c : Context) (items : List Given) (i : ℕ) where
  pub args_end : with_givens items (args_from ms c i []) ≡ Ok items
  unfolding args_from
  args_end = with_end items

  pub operands_end : with_givens items (operands_from ms c i []) ≡ Ok items
  unfolding operands_from
  operands_end = with_end items

  pub args_step : (args : List (R.Arg ℕ Ref)) (k : ℕ) (a : R.Arg ℕ Ref) → k < length args → a ≡ get_or args k a
      → with_givens items (args_from ms c i (drop k args)) ≡ and_then (under i (argument_given ms c (narg_of a))) (λ g. with_givens (items ++ g ∷ []) (args_from ms c (i + 1) (drop (k + 1) args)))
  unfolding args_from
  args_step args k a low is = rw (drop_item args k a low is) (with_then items _ _)

  operand_then : (r : Result NTy F) (atom : Bool) (more : Result (List Given) F)
      → and_then r (λ t. then_given (GivenTerm t atom) more) ≡ and_then (and_then {Y = Given} r (λ t. Ok (GivenTerm t atom))) (λ g. then_given g more)
  operand_then (Ok t) atom more = refl
  operand_then (Err f) atom more = refl

  pub operands_step : (es : List (E.Expr ℕ Ref)) (k : ℕ) (e : E.Expr ℕ Ref) → k < length es → e ≡ get_or es k e
      → with_givens items (operands_from ms c i (drop k es)) ≡ and_then (operand_given ms c i e) (λ g. with_givens (items ++ g ∷ []) (operands_from ms c (i + 1) (drop (k + 1) es)))
  unfolding operands_from operand_given
  operands_step es k e low is = rw (drop_item es k e low is, operand_then (under i (type_or_fault ms c (nexpr_of e))) (is_atom (nexpr_of e)) (operands_given ms c (i + 1) (nexprs_of (drop (k + 1) es)))) (with_then items _ _)

-- A head with the binders of its alternative, for a scrutinee.
use Rattle.std.proofs.Common.{◌≡◌, ℤ, true, false, List, [], Some}
use Rattle.fc_syntax.specs.declared.ty.Name.{Name}
use Rattle.fc_syntax.specs.declared.expr.Head.{Head}
use Rattle.fc_syntax.specs.declared.expr.Head.TheVariants as head
use Rattle.fc_syntax.specs.Tree.{Kind}
use Rattle.fc_model.specs.Calling.{Constructor, binders_fit, constructor, is_data_of, is_int}
use Rattle.fc_model.specs.Kinding.{Modules, HasKind}
use Rattle.fc_model.specs.Nameless.{NTy, NBinder, NExpr}
use Rattle.fc_model.specs.Typing.{without_joins}
use Rattle.fc_model.specs.TypingRules.{BindersAreKinded, HasType}
use Rattle.fc_row_types.specs.TypesKept.{Holds}
use Rattle.fc_rows.specs.Surroundings.{Surroundings, in_alternative}

-- a default and a literal bind nothing, and a constructor binds what it declares at the types of the scrutinee
pub data HeadFits (ms : Modules) (ks : List Kind) (s : NTy) : Head → List NBinder → Type 0 where
  default_fits : HeadFits ms ks s head.Default []
  literal_fits : {n : ℤ} → is_int s ≡ true → HeadFits ms ks s (head.Lit n) []
  constructor_fits : {n : Name} {bs : List NBinder} (k : Constructor) → BindersAreKinded ms false ks bs → constructor ms n ≡ Some k → is_data_of s n k ≡ true
      → binders_fit n k s bs ≡ true → HeadFits ms ks s (head.Con n) bs

-- what surroundings say holds in an alternative
abbrev pub AlternativesHold : Modules → Type 0
AlternativesHold ms = (s : Surroundings) → Holds ms s → (e : NExpr) (t : NTy) (k : Kind) → HasType ms (without_joins s.context) e t → HasKind ms s.context.kinds t k
    → (hs : List Head) (h : Head) (bs : List NBinder) → HeadFits ms s.context.kinds t h bs → Holds ms (in_alternative e t hs h bs s)

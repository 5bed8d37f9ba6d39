-- The first field that is not trivial, argument by argument.
use Rattle.std.proofs.Common.{◌≡◌, ℕ, ◌+◌, ◌<◌, Bool, true, false, if◌then◌else◌, List, Option, Some, None, refl, sym, ap, ◌∙◌, drop, get_or, length}
use Rattle.fc_syntax.specs.declared.expr.Arg.{Arg}
use Rattle.fc_syntax.specs.declared.ty.Ref.{Ref}
use Rattle.fc_syntax.specs.declared.ty.Role.{Role}
use Rattle.fc_model.proofs.Lists.{drop_item}
use Rattle.fc_model.specs.Calling.{coercion_asked, from_some, function_ends}
use Rattle.fc_model.specs.Nameless.{NTy, NExpr, NArg, NATerm, NAType, NACo, NArgs, MoreNArgs}
use Rattle.fc_model.specs.NamelessView.{narg_of, nargs_of}
use Rattle.fc_model.specs.Typing.{behind_coercion, second_of}
use Rattle.fc_rows.specs.Commuting.{first_field}
use Rattle.fc_rows.specs.Shrinking.{is_trivial}
use Rattle.fc_type_reading.specs.Readings.{type_applied}
use Rattle.fc_commute_types.specs.Fields.{field_in}

-- ONE ARGUMENT BEFORE OTHERS

module _ (t : NTy) (rest : NArgs) where
  behind : (trivial : Bool) (a : NExpr) (o : Option (NTy × NTy)) → None ≡ (if trivial then None else Some a)
      → from_some (λ p. if trivial then first_field p.1 rest else Some (p.0, a)) o ≡ from_some (λ u. first_field u rest) (second_of o)
  behind true a None none = refl
  behind true a (Some p) none = refl
  behind false a o none = cc

  behind_proof : (o : Option (Role × NTy × NTy × NTy)) → from_some (λ p. first_field p.3 rest) o ≡ from_some (λ u. first_field u rest) (behind_coercion o)
  behind_proof None = refl
  behind_proof (Some p) = refl

  -- it is not the field
  found_behind : (a : NArg) → None ≡ field_in a → first_field t (MoreNArgs a rest) ≡ from_some (λ u. first_field u rest) (type_applied t a)
  found_behind (NATerm a) none = behind (is_trivial a) a (function_ends t) none
  found_behind (NAType u) none = refl
  found_behind (NACo g) none = behind_proof (coercion_asked t)

-- the argument that is reached is not the field, and those behind it are left
pub field_behind : (whole : Option (NTy × NExpr)) (t : NTy) (args : List (Arg ℕ Ref)) (i : ℕ) (a : Arg ℕ Ref) (o : Option NTy) → i < length args → a ≡ get_or args i a → whole ≡ first_field t (nargs_of (drop i args))
    → None ≡ field_in (narg_of a) → o ≡ type_applied t (narg_of a) → whole ≡ from_some (λ u. first_field u (nargs_of (drop (i + 1) args))) o
field_behind whole t args i a o within is so_far none next =
    let rest = nargs_of (drop (i + 1) args) in
    so_far ∙ ap (λ xs. first_field t (nargs_of xs)) (drop_item args i a within is) ∙ found_behind t rest (narg_of a) none ∙ ap (from_some (λ u. first_field u rest)) (sym next)

-- The parts of two types by their spines, and the part of a number.
use Rattle.std.proofs.Common.{◌≡◌, ℕ, Bool, false, not, List, Some, None, Ok, refl, sym, ap, ◌∙◌}
use Rattle.std.specs.List.{slice_get}
use Rattle.fc_syntax.specs.declared.fault.FaultKind.TheVariants.{KindsDiffer, NotInjective}
use Rattle.fc_syntax.specs.declared.ty.Role.{Role}
use Rattle.fc_syntax.specs.declared.ty.Role.TheVariants.{P}
use Rattle.fc_syntax.specs.Tree.{Kind}
use Rattle.fc_model.specs.Calling.{coercion_asked, function_ends, type_arguments, type_head}
use Rattle.fc_model.specs.Coercing.{Ends, Equality, Function, NoShape, have_one_kind, nth_ends, part_ends, part_of_one_kind, parts_of, shape_of}
use Rattle.fc_model.specs.Faulting.{at_distance, need}
use Rattle.fc_model.specs.Kinding.{Modules, same_role}
use Rattle.fc_model.specs.Nameless.{NTy, NTVar, NTCon, NTInt, NTApp, NTFun, NTForall, NTCoForall}
use Rattle.fc_type_scope.specs.EndViews.{shown_all_ends_at, shown_ends_at}
use Rattle.fc_type_scope.specs.declared.ends.Ends as code
use Rattle.fc_type_table.specs.Scopes.{shown_at}
use Rattle.fc_type_table.specs.declared.node.Node.{Node}
use Rattle.fc_coercion_forms.specs.Parts.{spine_parts, spine_shape}
use Rattle.fc_coercion_forms.proofs.Groups.{got-shown}
use Rattle.fc_coercion_forms.proofs.Shapes.{shape_by_spine}

-- ---- by spines

-- a head at arguments is no function, and takes no coercion
no_function : (ms : Modules) (r : Role) (h : NTy) (ts : List NTy) (a b : NTy) → parts_of ms r (spine_shape h ts) (Function a b) ≡ parts_of ms r (spine_shape h ts) NoShape
no_function ms r (NTVar i) ts a b = refl
no_function ms r (NTCon n) ts a b = refl
no_function ms r NTInt ts a b = refl
no_function ms r (NTApp t u) ts a b = refl
no_function ms r (NTFun t u) ts a b = refl
no_function ms r (NTForall k t) ts a b = refl
no_function ms r (NTCoForall o t u v) ts a b = refl

no_equality : (ms : Modules) (r : Role) (h : NTy) (ts : List NTy) (o : Role) (a b d : NTy)
    → parts_of ms r (spine_shape h ts) (Equality o a b d) ≡ parts_of ms r (spine_shape h ts) NoShape
no_equality ms r (NTVar i) ts o a b d = refl
no_equality ms r (NTCon n) ts o a b d = refl
no_equality ms r NTInt ts o a b d = refl
no_equality ms r (NTApp t u) ts o a b d = refl
no_equality ms r (NTFun t u) ts o a b d = refl
no_equality ms r (NTForall k t) ts o a b d = refl
no_equality ms r (NTCoForall q t u v) ts o a b d = refl

second : (ms : Modules) (r : Role) (h : NTy) (ts : List NTy) (u : NTy)
    → parts_of ms r (spine_shape h ts) (shape_of u) ≡ parts_of ms r (spine_shape h ts) (spine_shape (type_head u) (type_arguments u))
second ms r h ts (NTVar i) = refl
second ms r h ts (NTCon n) = refl
second ms r h ts NTInt = refl
second ms r h ts (NTApp t u) = ap (parts_of ms r (spine_shape h ts)) (shape_by_spine (NTApp t u) refl refl)
second ms r h ts (NTFun t u) = no_function ms r h ts t u
second ms r h ts (NTForall k t) = refl
second ms r h ts (NTCoForall o t u v) = no_equality ms r h ts o t u v

pub parts_by_spines : (ms : Modules) (r : Role) (t u h k : NTy) (ts us : List NTy) → None ≡ function_ends t → None ≡ coercion_asked t → h ≡ type_head t → ts ≡ type_arguments t
    → k ≡ type_head u → us ≡ type_arguments u
    → spine_parts ms r h ts k us ≡ parts_of ms r (shape_of t) (shape_of u)
parts_by_spines ms r t u h k ts us f c head arguments head_too arguments_too =
    ap (λ x. spine_parts ms r x ts k us) head ∙ ap (λ xs. spine_parts ms r (type_head t) xs k us) arguments
    ∙ ap (λ x. spine_parts ms r (type_head t) (type_arguments t) x us) head_too ∙ ap (spine_parts ms r (type_head t) (type_arguments t) (type_head u)) arguments_too
    ∙ sym (second ms r (type_head t) (type_arguments t) u) ∙ ap (λ s. parts_of ms r s (shape_of u)) (sym (shape_by_spine t (sym f) (sym c)))

-- ---- of a number

pub part-as : (ms : Modules) (ks : List Kind) (i : ℕ) (e : Ends) (es : List Ends) → same_role e.role P ≡ false → Some es ≡ parts_of ms e.role (shape_of e.left) (shape_of e.right)
    → part_ends ms ks i e ≡ part_of_one_kind ms ks (at_distance es i)
part-as ms ks i e es h found =
    ap (λ b. need (not b) NotInjective (nth_ends ms ks i (parts_of ms e.role (shape_of e.left) (shape_of e.right)))) h ∙ ap (nth_ends ms ks i) (sym found)

pub kind-as : (ms : Modules) (ks : List Kind) (ns : List Node) (es : List code.Ends) (i : ℕ) (e : code.Ends) (b : Bool) → Some e ≡ slice_get es i
    → have_one_kind ms ks (shown_at ns ks e.left.0) (shown_at ns ks e.right.0) ≡ b
    → part_of_one_kind ms ks (at_distance (shown_all_ends_at ns ks es) i) ≡ need b KindsDiffer (Ok (shown_ends_at ns ks e))
kind-as ms ks ns es i e b h j = ap (part_of_one_kind ms ks) (got-shown ns ks es i e h) ∙ ap (λ x. need x KindsDiffer (Ok (shown_ends_at ns ks e))) j

-- The shape of a type by its head and its arguments.
use Rattle.std.proofs.Common.{◌≡◌, List, [], ◌∷◌, ◌++◌, None, refl, ap, ◌∙◌}
use Rattle.fc_model.specs.Calling.{coercion_asked, function_ends, type_arguments, type_head}
use Rattle.fc_model.specs.Coercing.{applied_shape, shape_of}
use Rattle.fc_model.specs.Nameless.{NTy, NTVar, NTCon, NTInt, NTApp, NTFun, NTForall, NTCoForall}
use Rattle.fc_coercion_forms.specs.Parts.{spine_shape}

-- one argument more
one_argument : (t u : NTy) (ts : List NTy) → applied_shape (spine_shape t ts) u ≡ spine_shape t (ts ++ u ∷ [])
one_argument (NTVar i) u ts = refl
one_argument (NTCon n) u ts = refl
one_argument NTInt u ts = refl
one_argument (NTApp s t) u ts = refl
one_argument (NTFun s t) u ts = refl
one_argument (NTForall k t) u ts = refl
one_argument (NTCoForall r s t v) u ts = refl

-- what is neither a function nor takes a coercion has the shape of its head at its arguments; so has what is applied to an argument
applied_shapes : (t u : NTy) → shape_of (NTApp t u) ≡ spine_shape (type_head t) (type_arguments t ++ u ∷ [])
applied_shapes (NTVar i) u = refl
applied_shapes (NTCon n) u = refl
applied_shapes NTInt u = refl
applied_shapes (NTApp s t) u = ap (λ x. applied_shape x u) (applied_shapes s t) ∙ one_argument (type_head s) u (type_arguments s ++ t ∷ [])
applied_shapes (NTFun s t) u = refl
applied_shapes (NTForall k t) u = refl
applied_shapes (NTCoForall r s t v) u = refl

pub shape_by_spine : (t : NTy) → function_ends t ≡ None → coercion_asked t ≡ None → shape_of t ≡ spine_shape (type_head t) (type_arguments t)
shape_by_spine (NTVar i) f c = refl
shape_by_spine (NTCon n) f c = refl
shape_by_spine NTInt f c = refl
shape_by_spine (NTApp t u) f c = applied_shapes t u
shape_by_spine (NTFun t u) f c = cc
shape_by_spine (NTForall k t) f c = refl
shape_by_spine (NTCoForall r t u v) f c = cc

-- Other variables, and types, in place of the variables of a formed type keep it formed; the parts of a formed type are formed.
use Rattle.std.proofs.Common.{ℕ, zero, suc, ◌+◌, List, [], ◌∷◌, ◌++◌, IfSome}
use Rattle.fc_syntax.specs.declared.ty.Role.{Role}
use Rattle.fc_model.specs.Calling.{application_ends, applied_to_variables, at_type, coercion_asked, function_ends, over_binder, over_binders, type_arguments}
use Rattle.fc_model.specs.Coercing.{applied_to, forall_parts}
use Rattle.fc_model.specs.Nameless.{NTy, NTVar, NTCon, NTInt, NTApp, NTFun, NTForall, NTCoForall, NBinder, NBValue, NBType, NBCo}
use Rattle.fc_model.specs.Substituting.{instantiated, renamed_type, substituted_type, type_before, type_for_innermost, types_before, types_below}
use Rattle.fc_formed.specs.FormedTrees.{IsFormedTy, AreFormedTys, IsFormedBinder, AreFormedBinders}

-- VARIABLES IN PLACE OF VARIABLES

pub type_renamed : (r : ℕ → ℕ) (t : NTy) → IsFormedTy t → IsFormedTy (renamed_type r t)
type_renamed r (NTVar i) w = tt
type_renamed r (NTCon n) w = w
type_renamed r NTInt w = tt
type_renamed r (NTApp t u) w = (type_renamed r t w.0, type_renamed r u w.1)
type_renamed r (NTFun t u) w = (type_renamed r t w.0, type_renamed r u w.1)
type_renamed r (NTForall k t) w = type_renamed _ t w
type_renamed r (NTCoForall o t u v) w = (w.0, type_renamed r t w.1, type_renamed r u w.2, type_renamed r v w.3)

-- TYPES IN PLACE OF VARIABLES

-- types that are put in
abbrev pub AreImagesFormed : (ℕ → NTy) → Type 0
AreImagesFormed s = (i : ℕ) → IsFormedTy (s i)

pub images_below : (s : ℕ → NTy) → AreImagesFormed s → AreImagesFormed (types_below s)
images_below s g zero = tt
images_below s g (suc i) = type_renamed suc (s i) (g i)

pub type_put : (s : ℕ → NTy) → AreImagesFormed s → (t : NTy) → IsFormedTy t → IsFormedTy (substituted_type s t)
type_put s g (NTVar i) w = g i
type_put s g (NTCon n) w = w
type_put s g NTInt w = tt
type_put s g (NTApp t u) w = (type_put s g t w.0, type_put s g u w.1)
type_put s g (NTFun t u) w = (type_put s g t w.0, type_put s g u w.1)
type_put s g (NTForall k t) w = type_put (types_below s) (images_below s g) t w
type_put s g (NTCoForall o t u v) w = (w.0, type_put s g t w.1, type_put s g u w.2, type_put s g v w.3)

pub images_before : (t : NTy) (s : ℕ → NTy) → IsFormedTy t → AreImagesFormed s → AreImagesFormed (type_before t s)
images_before t s w g zero = w
images_before t s w g (suc i) = g i

pub images_before_all : (ts : List NTy) (s : ℕ → NTy) → AreFormedTys ts → AreImagesFormed s → AreImagesFormed (types_before ts s)
images_before_all [] s w g = g
images_before_all (t ∷ ts) s w g = images_before_all ts (type_before t s) w.1 (images_before t s w.0 g)

pub image_alone : (u : NTy) → IsFormedTy u → AreImagesFormed (type_for_innermost u)
image_alone u w zero = w
image_alone u w (suc i) = tt

pub type_instantiated : (u t : NTy) → IsFormedTy u → IsFormedTy t → IsFormedTy (instantiated u t)
type_instantiated u t v w = type_put (type_for_innermost u) (image_alone u v) t w

-- PARTS

-- both types of a pair, and what stands behind a coercion that is asked
abbrev pub ArePairFormed : NTy × NTy → Type 0
ArePairFormed p = IsFormedTy p.0 × IsFormedTy p.1

abbrev pub IsBehindFormed : Role × NTy × NTy × NTy → Type 0
IsBehindFormed p = IsFormedTy p.3

pub function_ends_formed : (t : NTy) → IsFormedTy t → IfSome (function_ends t) ArePairFormed
function_ends_formed (NTFun t u) w = w
function_ends_formed t w = tt

pub application_ends_formed : (t : NTy) → IsFormedTy t → IfSome (application_ends t) ArePairFormed
application_ends_formed (NTApp t u) w = w
application_ends_formed t w = tt

pub forall_parts_formed : (t : NTy) → IsFormedTy t → IfSome (forall_parts t) (λ p. IsFormedTy p.1)
forall_parts_formed (NTForall k t) w = w
forall_parts_formed t w = tt

pub at_type_formed : (t u : NTy) → IsFormedTy t → IsFormedTy u → IfSome (at_type t u) IsFormedTy
at_type_formed (NTForall k t) u w v = type_instantiated u t v w
at_type_formed t u w v = tt

pub coercion_asked_formed : (t : NTy) → IsFormedTy t → IfSome (coercion_asked t) IsBehindFormed
coercion_asked_formed (NTCoForall r t u v) w = w.3
coercion_asked_formed t w = tt

pub types_appended : (ts us : List NTy) → AreFormedTys ts → AreFormedTys us → AreFormedTys (ts ++ us)
types_appended [] us w v = v
types_appended (t ∷ ts) us w v = (w.0, types_appended ts us w.1 v)

pub type_arguments_formed : (t : NTy) → IsFormedTy t → AreFormedTys (type_arguments t)
type_arguments_formed (NTApp t u) w = types_appended (type_arguments t) (u ∷ []) (type_arguments_formed t w.0) (w.1, tt)
type_arguments_formed (NTVar i) w = tt
type_arguments_formed (NTCon n) w = tt
type_arguments_formed NTInt w = tt
type_arguments_formed (NTFun t u) w = tt
type_arguments_formed (NTForall k t) w = tt
type_arguments_formed (NTCoForall r t u v) w = tt

-- WHAT TYPES ARE MADE OF

pub applied_formed : (t : NTy) (ts : List NTy) → IsFormedTy t → AreFormedTys ts → IsFormedTy (applied_to t ts)
applied_formed t [] w v = w
applied_formed t (u ∷ us) w v = applied_formed (NTApp t u) us (w, v.0) v.1

pub applied_to_variables_formed : (t : NTy) (m d : ℕ) → IsFormedTy t → IsFormedTy (applied_to_variables t m d)
applied_to_variables_formed t zero d w = w
applied_to_variables_formed t (suc m) d w = applied_to_variables_formed (NTApp t (NTVar (m + d))) m d (w, tt)

pub over_binder_formed : (b : NBinder) (t : NTy) → IsFormedBinder b → IsFormedTy t → IsFormedTy (over_binder b t)
over_binder_formed (NBValue s) t w v = (w, v)
over_binder_formed (NBType k) t w v = v
over_binder_formed (NBCo r s u) t w v = (w.0, w.1, w.2, v)

pub over_binders_formed : (bs : List NBinder) (t : NTy) → AreFormedBinders bs → IsFormedTy t → IsFormedTy (over_binders bs t)
over_binders_formed [] t w v = v
over_binders_formed (b ∷ bs) t w v = over_binder_formed b (over_binders bs t) w.0 (over_binders_formed bs t w.1 v)

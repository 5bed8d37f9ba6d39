-- Modules that declare the same types tell the same kinds, and the same of what is asked of kinds.
use Rattle.std.proofs.Common.{◌≡◌, ℕ, suc, ◌&&◌, List, [], ◌∷◌, refl}
use Rattle.fc_syntax.specs.Tree.{Kind}
use Rattle.fc_model.specs.Coercing.{Ends, are_kinded, are_of_kinds, have_one_kind, have_one_value_kind, is_of_kind, is_value_type}
use Rattle.fc_model.specs.Kinding.{Modules, head_kind_or_fault, kind_or_fault}
use Rattle.fc_model.specs.Nameless.{NTy, NTVar, NTCon, NTInt, NTApp, NTFun, NTForall, NTCoForall}
use Rattle.fc_outlines.specs.Headers.{DeclareAlike}
use Rattle.fc_outlines.proofs.Alike.{kinds_alike}

module _ (ms ns : Modules) (alike : DeclareAlike ms ns) where
  -- KINDS

  head_kind_told : (ks : List Kind) (args : ℕ) (t : NTy) → head_kind_or_fault ms ks args t ≡ head_kind_or_fault ns ks args t
  head_kind_told ks args (NTVar i) = refl
  head_kind_told ks args (NTCon n) = kinds_alike ms ns alike n args
  head_kind_told ks args NTInt = refl
  head_kind_told ks args (NTApp t u) = rw (head_kind_told ks (suc args) t, head_kind_told ks 0 u) refl
  head_kind_told ks args (NTFun t u) = rw (head_kind_told ks 0 t, head_kind_told ks 0 u) refl
  head_kind_told ks args (NTForall k t) = rw (head_kind_told (k ∷ ks) 0 t) refl
  head_kind_told ks args (NTCoForall r t u v) = rw (head_kind_told ks 0 t, head_kind_told ks 0 u, head_kind_told ks 0 v) refl

  pub kind_told : (ks : List Kind) (t : NTy) → kind_or_fault ms ks t ≡ kind_or_fault ns ks t
  kind_told ks t = head_kind_told ks 0 t

  -- WHAT IS ASKED OF KINDS

  pub one_kind_told : (ks : List Kind) (t u : NTy) → have_one_kind ms ks t u ≡ have_one_kind ns ks t u
  one_kind_told ks t u = rw (kind_told ks t, kind_told ks u) refl

  pub one_value_kind_told : (ks : List Kind) (t u : NTy) → have_one_value_kind ms ks t u ≡ have_one_value_kind ns ks t u
  one_value_kind_told ks t u = rw (kind_told ks t, kind_told ks u) refl

  pub of_kind_told : (ks : List Kind) (k : Kind) (t u : NTy) → (is_of_kind ms ks k t && is_of_kind ms ks k u) ≡ (is_of_kind ns ks k t && is_of_kind ns ks k u)
  of_kind_told ks k t u = rw (kind_told ks t, kind_told ks u) refl

  pub value_type_told : (ks : List Kind) (t : NTy) → is_value_type ms ks t ≡ is_value_type ns ks t
  value_type_told ks t = rw (kind_told ks t) refl

  pub kinded_told : (ks : List Kind) (t u : NTy) → are_kinded ms ks t u ≡ are_kinded ns ks t u
  kinded_told ks t u = rw (kind_told ks t, kind_told ks u) refl

  pub of_kinds_told : (ks js : List Kind) (es : List Ends) → are_of_kinds ms ks js es ≡ are_of_kinds ns ks js es
  of_kinds_told ks [] es = refl
  of_kinds_told ks (j ∷ js) [] = refl
  of_kinds_told ks (j ∷ js) (e ∷ es) = rw (of_kind_told ks j e.left e.right, of_kinds_told ks js es) refl

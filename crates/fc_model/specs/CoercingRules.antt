-- What a coercion proves by cases: one constructor for each rule.
use Rattle.std.specs.Prelude.{◌≡◌, ℕ, true, false, List, [], ◌∷◌, map, Some, Ok}
use Rattle.fc_syntax.specs.declared.ty.Name.{Name}
use Rattle.fc_syntax.specs.declared.ty.Role.{Role}
use Rattle.fc_syntax.specs.declared.ty.Role.TheVariants.{N, R, P}
use Rattle.fc_syntax.specs.Tree.{Kind, KStar}
use Rattle.fc_model.specs.Coercing.{Axiom, Ends, applied_to, at_parameters, axiom_named, ends, lefts, parts_of, rights, shape_of, shifted_ends}
use Rattle.fc_model.specs.Faulting.{at_distance}
use Rattle.fc_model.specs.Kinding.{Modules, HasKind, is_family_applied, is_lifted, is_value_kind, same_role}
use Rattle.fc_model.specs.Nameless.{NTy, NTCon, NTApp, NTFun, NTForall, NTCoForall}
use Rattle.fc_model.specs.Nameless.{NCo, NGVar, NGRefl, NGSym, NGTrans, NGTc, NGCapp, NGFun, NGAll, NGCoAll, NGInst, NGNth, NGLeft, NGRight, NGSub, NGAx, NGUniv, NCos, NoNCos, MoreNCos}
use Rattle.fc_model.specs.Needs.{later_roles, name_roles, next_role, role_within}
use Rattle.fc_model.specs.Substituting.{instantiated}

-- in what stands at role r, each is at the role of its parameter; beyond the parameters at N
pub data AreAtRoles (r : Role) : List Role → List Ends → Type 0 where
  no_role : {rs : List Role} → AreAtRoles r rs []
  one_role : {rs : List Role} {s t : NTy} {es : List Ends} → AreAtRoles r (later_roles rs) es → AreAtRoles r rs (ends (role_within r (next_role rs)) s t ∷ es)

-- both ends of each are of the kind of its parameter
pub data AreOfKinds (ms : Modules) (ks : List Kind) : List Kind → List Ends → Type 0 where
  no_kind : AreOfKinds ms ks [] []
  one_kind : {j : Kind} {js : List Kind} {e : Ends} {es : List Ends} → HasKind ms ks e.left j → HasKind ms ks e.right j → AreOfKinds ms ks js es → AreOfKinds ms ks (j ∷ js) (e ∷ es)

mutual
  -- a coercion proves at a role that two types are equal
  pub data Proves (ms : Modules) : List Kind → List Ends → NCo → Role → NTy → NTy → Type 0 where
    proves_variable : {ks : List Kind} {cs : List Ends} {i : ℕ} {r : Role} {s t : NTy} → at_distance cs i ≡ Ok (ends r s t) → Proves ms ks cs (NGVar i) r s t
    proves_refl : {ks : List Kind} {cs : List Ends} {r : Role} {t : NTy} (k : Kind) → HasKind ms ks t k → Proves ms ks cs (NGRefl r t) r t t
    proves_sym : {ks : List Kind} {cs : List Ends} {g : NCo} {r : Role} {s t : NTy} → Proves ms ks cs g r s t → Proves ms ks cs (NGSym g) r t s
    proves_trans : {ks : List Kind} {cs : List Ends} {g h : NCo} {r : Role} {s t u : NTy} → Proves ms ks cs g r s t → Proves ms ks cs h r t u → Proves ms ks cs (NGTrans g h) r s u
    proves_declared : {ks : List Kind} {cs : List Ends} {r : Role} {n : Name} {gs : NCos} (es : List Ends) (j k : Kind) → ProveAll ms ks cs gs es
        → AreAtRoles r (name_roles ms n) es → HasKind ms ks (applied_to (NTCon n) (lefts es)) j → HasKind ms ks (applied_to (NTCon n) (rights es)) k
        → Proves ms ks cs (NGTc r n gs) r (applied_to (NTCon n) (lefts es)) (applied_to (NTCon n) (rights es))
    proves_application : {ks : List Kind} {cs : List Ends} {g h : NCo} {r : Role} {s t u v : NTy} (j k : Kind) → Proves ms ks cs g r s t → Proves ms ks cs h N u v
        → same_role r P ≡ false → HasKind ms ks (NTApp s u) j → HasKind ms ks (NTApp t v) k → Proves ms ks cs (NGCapp g h) r (NTApp s u) (NTApp t v)
    proves_function : {ks : List Kind} {cs : List Ends} {g h : NCo} {r : Role} {s t u v : NTy} (j k : Kind) → Proves ms ks cs g r s t → Proves ms ks cs h r u v
        → same_role r P ≡ false → HasKind ms ks s j → HasKind ms ks t j → is_value_kind j ≡ true → HasKind ms ks u k → HasKind ms ks v k → is_value_kind k ≡ true
        → Proves ms ks cs (NGFun g h) r (NTFun s u) (NTFun t v)
    proves_forall : {ks : List Kind} {cs : List Ends} {k : Kind} {g : NCo} {r : Role} {s t : NTy} → Proves ms (k ∷ ks) (map shifted_ends cs) g r s t → is_lifted k ≡ true
        → HasKind ms (k ∷ ks) s KStar → HasKind ms (k ∷ ks) t KStar → Proves ms ks cs (NGAll k g) r (NTForall k s) (NTForall k t)
    proves_coforall : {ks : List Kind} {cs : List Ends} {f g h : NCo} {r o : Role} {s t u v w x : NTy} (i j k l : Kind) → Proves ms ks cs f (role_within r o) s t
        → Proves ms ks cs g (role_within r o) u v → Proves ms ks cs h (role_within r R) w x → HasKind ms ks s i → HasKind ms ks u i → HasKind ms ks w k → is_value_kind k ≡ true
        → HasKind ms ks t j → HasKind ms ks v j → HasKind ms ks x l → is_value_kind l ≡ true → Proves ms ks cs (NGCoAll r o f g h) r (NTCoForall o s u w) (NTCoForall o t v x)
    proves_instance : {ks : List Kind} {cs : List Ends} {g h : NCo} {r : Role} {k : Kind} {s t u v : NTy} → Proves ms ks cs g r (NTForall k s) (NTForall k t)
        → Proves ms ks cs h N u v → HasKind ms ks u k → HasKind ms ks v k → Proves ms ks cs (NGInst g h) r (instantiated u s) (instantiated v t)
    proves_part : {ks : List Kind} {cs : List Ends} {i : ℕ} {g : NCo} {r o : Role} {s t u v : NTy} (es : List Ends) (k : Kind) → Proves ms ks cs g r s t → same_role r P ≡ false
        → parts_of ms r (shape_of s) (shape_of t) ≡ Some es → at_distance es i ≡ Ok (ends o u v) → HasKind ms ks u k → HasKind ms ks v k → Proves ms ks cs (NGNth i g) o u v
    proves_left : {ks : List Kind} {cs : List Ends} {g : NCo} {s t u v : NTy} (k : Kind) → Proves ms ks cs g N (NTApp s u) (NTApp t v)
        → is_family_applied ms 0 (NTApp s u) ≡ false → is_family_applied ms 0 (NTApp t v) ≡ false → HasKind ms ks s k → HasKind ms ks t k → Proves ms ks cs (NGLeft g) N s t
    proves_right : {ks : List Kind} {cs : List Ends} {g : NCo} {s t u v : NTy} (k : Kind) → Proves ms ks cs g N (NTApp s u) (NTApp t v)
        → is_family_applied ms 0 (NTApp s u) ≡ false → is_family_applied ms 0 (NTApp t v) ≡ false → HasKind ms ks u k → HasKind ms ks v k → Proves ms ks cs (NGRight g) N u v
    proves_sub : {ks : List Kind} {cs : List Ends} {g : NCo} {s t : NTy} → Proves ms ks cs g N s t → Proves ms ks cs (NGSub g) R s t
    proves_axiom : {ks : List Kind} {cs : List Ends} {n : Name} {gs : NCos} (a : Axiom) (es : List Ends) → axiom_named ms n ≡ Some a → ProveAll ms ks cs gs es
        → AreAtRoles a.ends.role a.roles es → AreOfKinds ms ks a.params es
        → Proves ms ks cs (NGAx n gs) a.ends.role (at_parameters (lefts es) a.ends.left) (at_parameters (rights es) a.ends.right)
    proves_universally : {ks : List Kind} {cs : List Ends} {t u : NTy} (k : Kind) → HasKind ms ks t k → HasKind ms ks u k → Proves ms ks cs (NGUniv t u) P t u

  pub data ProveAll (ms : Modules) : List Kind → List Ends → NCos → List Ends → Type 0 where
    no_coercions : {ks : List Kind} {cs : List Ends} → ProveAll ms ks cs NoNCos []
    one_coercion : {ks : List Kind} {cs : List Ends} {g : NCo} {rest : NCos} {e : Ends} {es : List Ends} → Proves ms ks cs g e.role e.left e.right → ProveAll ms ks cs rest es
        → ProveAll ms ks cs (MoreNCos g rest) (e ∷ es)

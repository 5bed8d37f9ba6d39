-- What takes arguments does so just where the relation by cases says.
use Rattle.std.proofs.Common.{◌≡◌, ℕ, Bool, true, ◌&&◌, nat_eq, List, [], ◌∷◌, length, Option, Some, None, Ok, refl, ap, ◌∙◌, subst}
use Rattle.std.proofs.lemmas.Bool.{and_parts}
use Rattle.fc_syntax.specs.declared.ty.Role.{Role}
use Rattle.fc_syntax.specs.declared.fault.FaultKind.{FaultKind}
use Rattle.fc_syntax.specs.Tree.{Kind}
use Rattle.fc_model.specs.Calling.{Given, GivenTerm, GivenType, GivenCoercion, Met, Takes, takes_nothing, takes_term, takes_type, takes_coercion}
use Rattle.fc_model.specs.Calling.{and_coercion, and_kind, and_term, applied, atom_fits, called, is_asked, judged_met, met}
use Rattle.fc_model.specs.Kinding.{same_kind, same_role, same_type}
use Rattle.fc_model.specs.Nameless.{NTy, NTFun, NTForall, NTCoForall}
use Rattle.fc_model.specs.Substituting.{instantiated}
use Rattle.fc_model.proofs.Parts.{answer, err_ok, need_inv, ok_ok}
use Rattle.fc_model.proofs.Sameness.{nat_eq_eq, nat_eq_refl, same_kind_eq, same_kind_refl, same_role_eq, same_role_refl, same_type_eq, same_type_refl}

-- what takes nothing stays as it is
pub takes_none : {t w : NTy} → Takes t [] w → t ≡ w
takes_none takes_nothing = refl

-- a coercion is what is asked just where its role and its ends are those that are asked
asked_is : (o r : Role) (s t u a b : NTy) → is_asked (o, s, t, u) r a b ≡ true → GivenCoercion o s t ≡ GivenCoercion r a b
asked_is o r s t u a b h =
    let p = and_parts (same_role o r) (same_type s a && same_type t b) h in
    let q = and_parts (same_type s a) (same_type t b) p.1 in
    ap (λ x. GivenCoercion x s t) (same_role_eq o r p.0) ∙ ap (λ x. GivenCoercion r x t) (same_type_eq s a q.0) ∙ ap (λ x. GivenCoercion r a x) (same_type_eq t b q.1)

is_asked_itself : (o : Role) (s t u : NTy) → is_asked (o, s, t, u) o s t ≡ true
is_asked_itself o s t u = rw (same_role_refl o, same_type_refl s, same_type_refl t) refl

-- ONE ARGUMENT

-- a head that is applied takes its argument
pub applied_takes : (t : NTy) (g : Given) (w : NTy) → applied t g ≡ Ok w → Takes t (g ∷ []) w
applied_takes (NTFun s r) (GivenTerm u atom) w h =
    let p = need_inv (same_type s u) _ _ w h in
    let q = need_inv (atom_fits s atom) _ _ w p.1 in
    subst (λ x. Takes (NTFun s r) (GivenTerm x atom ∷ []) w) (same_type_eq s u p.0) (takes_term q.0 (subst (λ x. Takes r [] x) (ok_ok q.1) takes_nothing))
applied_takes (NTForall j r) (GivenType u k) w h =
    let p = need_inv (same_kind j k) _ _ w h in
    subst (λ x. Takes (NTForall j r) (GivenType u x ∷ []) w) (same_kind_eq j k p.0) (takes_type (subst (λ x. Takes (instantiated u r) [] x) (ok_ok p.1) takes_nothing))
applied_takes (NTCoForall o s u v) (GivenCoercion r a b) w h =
    let p = need_inv (is_asked (o, s, u, v) r a b) _ _ w h in
    subst (λ x. Takes (NTCoForall o s u v) (x ∷ []) w) (asked_is o r s u v a b p.0) (takes_coercion (subst (λ x. Takes v [] x) (ok_ok p.1) takes_nothing))
applied_takes t (GivenTerm u atom) w h = err_ok h
applied_takes t (GivenType u k) w h = err_ok h
applied_takes t (GivenCoercion r a b) w h = err_ok h

-- a head that takes an argument is applied to it
pub taken_applies : {t w : NTy} {g : Given} → Takes t (g ∷ []) w → applied t g ≡ Ok w
taken_applies (takes_term {s = s} fits rest) = rw (same_type_refl s, fits) (ap answer (takes_none rest))
taken_applies (takes_type {k = k} rest) = rw (same_kind_refl k) (ap answer (takes_none rest))
taken_applies (takes_coercion {o = o} {a = a} {b = b} {r = r} rest) = rw (is_asked_itself o a b r) (ap answer (takes_none rest))

-- ARGUMENTS AT ONCE

-- how arguments that are all right meet what is asked
abbrev all_met : NTy → Met
all_met w = record { kinds = true; types = true; atoms = true; whole = w }

taken_is_met : {t w : NTy} {gs : List Given} → Takes t gs w → met t gs ≡ Some (all_met w)
taken_is_met takes_nothing = refl
taken_is_met (takes_term {s = s} fits rest) = rw (taken_is_met rest, same_type_refl s, fits) refl
taken_is_met (takes_type {k = k} rest) = rw (taken_is_met rest, same_kind_refl k) refl
taken_is_met (takes_coercion {o = o} {a = a} {b = b} {r = r} rest) = rw (taken_is_met rest, is_asked_itself o a b r) refl

-- what is behind a term met what was asked
and_term_inv : (s t : NTy) (atom : Bool) (o : Option Met) (m : Met) → and_term s t atom o ≡ Some m
    → (n : Met) × (o ≡ Some n) × (n.kinds ≡ m.kinds) × ((same_type s t && n.types) ≡ m.types) × ((atom_fits s atom && n.atoms) ≡ m.atoms) × (n.whole ≡ m.whole)
and_term_inv s t atom (Some n) m h = (n, refl, cc, cc, cc, cc)
and_term_inv s t atom None m h = absurd cc

and_kind_inv : (j k : Kind) (o : Option Met) (m : Met) → and_kind (Some j) k o ≡ Some m
    → (n : Met) × (o ≡ Some n) × ((same_kind j k && n.kinds) ≡ m.kinds) × (n.types ≡ m.types) × (n.atoms ≡ m.atoms) × (n.whole ≡ m.whole)
and_kind_inv j k (Some n) m h = (n, refl, cc, cc, cc, cc)
and_kind_inv j k None m h = absurd cc

and_coercion_inv : (same : Bool) (o : Option Met) (m : Met) → and_coercion same o ≡ Some m
    → (n : Met) × (o ≡ Some n) × (n.kinds ≡ m.kinds) × ((same && n.types) ≡ m.types) × (n.atoms ≡ m.atoms) × (n.whole ≡ m.whole)
and_coercion_inv same (Some n) m h = (n, refl, cc, cc, cc, cc)
and_coercion_inv same None m h = absurd cc

-- arguments that are all right are taken
met_takes : (gs : List Given) (t : NTy) (m : Met) → met t gs ≡ Some m → m.kinds ≡ true → m.types ≡ true → m.atoms ≡ true → Takes t gs m.whole
met_takes [] t m h kinds types atoms = let e : t ≡ m.whole = cc in subst (λ x. Takes t [] x) e takes_nothing
met_takes (GivenTerm u atom ∷ gs) (NTFun s r) m h kinds types atoms =
    let p = and_term_inv s u atom (met r gs) m h in
    let q = and_parts (same_type s u) p.0.types (p.3 ∙ types) in
    let v = and_parts (atom_fits s atom) p.0.atoms (p.4 ∙ atoms) in
    let rest = met_takes gs r p.0 p.1 (p.2 ∙ kinds) q.1 v.1 in
    subst (λ x. Takes (NTFun s r) (GivenTerm x atom ∷ gs) m.whole) (same_type_eq s u q.0) (takes_term v.0 (subst (λ x. Takes r gs x) p.5 rest))
met_takes (GivenType u k ∷ gs) (NTForall j r) m h kinds types atoms =
    let p = and_kind_inv j k (met (instantiated u r) gs) m h in
    let q = and_parts (same_kind j k) p.0.kinds (p.2 ∙ kinds) in
    let rest = met_takes gs (instantiated u r) p.0 p.1 q.1 (p.3 ∙ types) (p.4 ∙ atoms) in
    subst (λ x. Takes (NTForall j r) (GivenType u x ∷ gs) m.whole) (same_kind_eq j k q.0) (takes_type (subst (λ x. Takes (instantiated u r) gs x) p.5 rest))
met_takes (GivenCoercion r a b ∷ gs) (NTCoForall o s u v) m h kinds types atoms =
    let p = and_coercion_inv (is_asked (o, s, u, v) r a b) (met v gs) m h in
    let q = and_parts (is_asked (o, s, u, v) r a b) p.0.types (p.3 ∙ types) in
    let rest = met_takes gs v p.0 p.1 (p.2 ∙ kinds) q.1 (p.4 ∙ atoms) in
    subst (λ x. Takes (NTCoForall o s u v) (x ∷ gs) m.whole) (asked_is o r s u v a b q.0) (takes_coercion (subst (λ x. Takes v gs x) p.5 rest))
met_takes (GivenTerm u atom ∷ gs) t m h kinds types atoms = absurd cc
met_takes (GivenType u k ∷ gs) t m h kinds types atoms = absurd cc
met_takes (GivenCoercion r a b ∷ gs) t m h kinds types atoms = absurd cc

judged_takes : (arity : FaultKind) (t : NTy) (gs : List Given) (o : Option Met) (w : NTy) → met t gs ≡ o → judged_met arity o ≡ Ok w → Takes t gs w
judged_takes arity t gs (Some m) w e h =
    let p = need_inv m.kinds _ _ w h in
    let q = need_inv m.types _ _ w p.1 in
    let v = need_inv m.atoms _ _ w q.1 in
    subst (λ x. Takes t gs x) (ok_ok v.1) (met_takes gs t m e p.0 q.0 v.0)
judged_takes arity t gs None w e h = err_ok h

-- what is called with that many arguments takes them
pub called_takes : (arity : FaultKind) (n : ℕ) (t : NTy) (gs : List Given) (w : NTy) → called arity n t gs ≡ Ok w → (length gs ≡ n) × Takes t gs w
called_takes arity n t gs w h =
    let p = need_inv (nat_eq (length gs) n) arity (judged_met arity (met t gs)) w h in
    (nat_eq_eq (length gs) n p.0, judged_takes arity t gs (met t gs) w refl p.1)

-- what takes that many arguments is called with them
pub taken_is_called : (arity : FaultKind) (n : ℕ) {t w : NTy} {gs : List Given} → length gs ≡ n → Takes t gs w → called arity n t gs ≡ Ok w
taken_is_called arity n l h = rw (l, nat_eq_refl n, taken_is_met h) refl

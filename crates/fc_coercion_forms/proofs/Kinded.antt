-- What a coercion relates, if both ends have kinds, seen from before its ends were made.
use Rattle.std.proofs.Common.{◌≡◌, ℕ, true, List, length, Result, Ok, Err, refl, sym, ap, subst, ◌∙◌}
use Rattle.fc_syntax.specs.declared.fault.FaultKind.TheVariants.{RoleWrong}
use Rattle.fc_syntax.specs.declared.ty.Name.{Name}
use Rattle.fc_syntax.specs.declared.ty.Role.{Role}
use Rattle.fc_syntax.specs.Tree.{Kind, KStar}
use Rattle.fc_model.specs.Coercing.{Ends, applied_to, are_at_roles, constructed_ends, declared_ends, ends, lefts, rights}
use Rattle.fc_model.specs.Faulting.{F, need}
use Rattle.fc_model.specs.Kinding.{Modules, name_kind}
use Rattle.fc_model.specs.Nameless.{NTCon}
use Rattle.fc_model.specs.Needs.{name_roles}
use Rattle.fc_model.specs.Says.{Refuses, Says}
use Rattle.fc_model.specs.declared.flaw.Flawed.{Flawed}
use Rattle.fc_model.specs.declared.flaw.Flawed.TheVariants.{Memory, Flaw as OfFlaw}
use Rattle.fc_type_scope.specs.declared.ends.Ends as code
use Rattle.fc_coercion_forms.specs.Kinded.{kinded_or_fault, takes_or_fault}

kinded_before : (view : code.Ends → Ends) (r : Result code.Ends Flawed) (new old : Modules) (ks : List Kind) (e d : Ends)
    → Says view r (kinded_or_fault new ks e) → new ≡ old → e ≡ d → Says view r (kinded_or_fault old ks d)
kinded_before view r new old ks e d h ms es = subst (λ x. Says view r (kinded_or_fault old ks x)) es (subst (λ x. Says view r (kinded_or_fault x ks e)) ms h)

takes_all : (ms : Modules) (ks : List Kind) (r : Result Kind F) (e : Ends) → takes_or_fault r ≡ Ok KStar → declared_ends ms ks r e ≡ kinded_or_fault ms ks e
takes_all ms ks (Ok k) e h = refl
takes_all ms ks (Err f) e h = cc

takes_none : (ms : Modules) (ks : List Kind) (r : Result Kind F) (e : Ends) (f : Flawed) → Refuses f (takes_or_fault r) → Refuses f (declared_ends ms ks r e)
takes_none ms ks (Ok k) e Memory h = tt
takes_none ms ks (Ok k) e (OfFlaw f) h = cc
takes_none ms ks (Err g) e Memory h = tt
takes_none ms ks (Err g) e (OfFlaw f) h = cc

abbrev at_name : Role → Name → List Ends → Ends
at_name r n es = ends r (applied_to (NTCon n) (lefts es)) (applied_to (NTCon n) (rights es))

by_roles : (ms : Modules) (ks : List Kind) (r : Role) (n : Name) (es : List Ends) (m : ℕ) → are_at_roles r (name_roles ms n) es ≡ true → length es ≡ m
    → constructed_ends ms ks r n es ≡ declared_ends ms ks (name_kind ms n m) (at_name r n es)
by_roles ms ks r n es m roles len =
    ap (λ b. need b RoleWrong (declared_ends ms ks (name_kind ms n (length es)) (at_name r n es))) roles ∙ ap (λ l. declared_ends ms ks (name_kind ms n l) (at_name r n es)) len

-- a declared type at what coercions relate that are at their roles, where the name takes so many arguments or not
pub constructed_says : (view : code.Ends → Ends) (x : Result code.Ends Flawed) (new old : Modules) (ks : List Kind) (r : Role) (n : Name) (es : List Ends) (m : ℕ) (e : Ends)
    → Says view x (kinded_or_fault new ks e) → new ≡ old → e ≡ at_name r n es → are_at_roles r (name_roles old n) es ≡ true → length es ≡ m
    → takes_or_fault (name_kind old n m) ≡ Ok KStar → Says view x (constructed_ends old ks r n es)
constructed_says view x new old ks r n es m e h ms is roles len takes =
    subst (λ y. Says view x y) (sym (by_roles old ks r n es m roles len ∙ takes_all old ks (name_kind old n m) (at_name r n es) takes))
    (kinded_before view x new old ks e (at_name r n es) h ms is)

pub constructed_refused : (f : Flawed) (ms : Modules) (ks : List Kind) (r : Role) (n : Name) (es : List Ends) (m : ℕ)
    → are_at_roles r (name_roles ms n) es ≡ true → length es ≡ m → Refuses f (takes_or_fault (name_kind ms n m))
    → Refuses f (constructed_ends ms ks r n es)
constructed_refused f ms ks r n es m roles len h = subst (λ y. Refuses f y) (sym (by_roles ms ks r n es m roles len)) (takes_none ms ks (name_kind ms n m) (at_name r n es) f h)

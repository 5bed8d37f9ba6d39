-- Coercions that fit the parameters of an axiom, judged in a table that grew.
use Rattle.std.proofs.Common.{◌≡◌, List, Result, subst}
use Rattle.fc_syntax.specs.Tree.{Kind}
use Rattle.fc_syntax.specs.declared.ty.Role.{Role}
use Rattle.fc_model.specs.Coercing.{Ends}
use Rattle.fc_model.specs.Kinding.{Modules}
use Rattle.fc_model.specs.Says.{Says}
use Rattle.fc_model.specs.declared.flaw.Flawed.{Flawed}
use Rattle.fc_coercion_forms.specs.Axioms.{parameters_fit}

pub fits_before : (r : Result Role Flawed) (ms ns : Modules) (ks is js : List Kind) (at : Role) (rs qs : List Role) (es ds : List Ends) → ns ≡ ms → js ≡ is → qs ≡ rs → ds ≡ es
    → Says (λ (q : Role). q) r (parameters_fit ns ks js at qs ds) → Says (λ (q : Role). q) r (parameters_fit ms ks is at rs es)
fits_before r ms ns ks is js at rs qs es ds modules kinds roles ends h =
    subst (λ (x : Modules). Says (λ (q : Role). q) r (parameters_fit x ks is at rs es)) modules
    (subst (λ xs. Says (λ (q : Role). q) r (parameters_fit ns ks xs at rs es)) kinds
    (subst (λ xs. Says (λ (q : Role). q) r (parameters_fit ns ks js at xs es)) roles
    (subst (λ xs. Says (λ (q : Role). q) r (parameters_fit ns ks js at qs xs)) ends h)))

-- The kinds of parameters, from the last one on.
use Rattle.std.proofs.Common.{◌≡◌, ℕ, suc, ◌-◌, ◌<◌, ◌≤◌, List, [], ◌∷◌, length, get_or, drop, drop-cons, ap, ◌∙◌, arith}
use Rattle.std.proofs.Math.Seq.{drop-length}
use Rattle.fc_syntax.specs.View.{kind_of}
use Rattle.fc_syntax.specs.declared.module.Param.{Param}
use Rattle.fc_syntax.specs.declared.module.Plain.{Plain}
use Rattle.fc_model.specs.Kinding.{param_kinds}
use Rattle.fc_model.specs.NamelessView.{nparams_of, nplains_of}

before : {X : Type 0} (xs : List X) (count : ℕ) (x : X) → count ≤ length xs → 0 < count → drop (count - 1) xs ≡ get_or xs (count - 1) x ∷ drop count xs
before xs count x h g =
    let e : suc (count - 1) ≡ count = omega arith in
    drop-cons xs (count - 1) x (omega arith) ∙ ap (λ n. get_or xs (count - 1) x ∷ drop n xs) e

pub params_before : (ps : List Param) (count : ℕ) (p : Param) → count ≤ length ps → 0 < count
    → param_kinds (nparams_of (drop (count - 1) ps)) ≡ kind_of (get_or ps (count - 1) p).kind ∷ param_kinds (nparams_of (drop count ps))
params_before ps count p h g = ap (λ x. param_kinds (nparams_of x)) (before ps count p h g)

pub plains_before : (ps : List Plain) (count : ℕ) (p : Plain) → count ≤ length ps → 0 < count → nplains_of (drop (count - 1) ps) ≡ kind_of (get_or ps (count - 1) p).kind ∷ nplains_of (drop count ps)
plains_before ps count p h g = ap nplains_of (before ps count p h g)

pub params_done : (ps : List Param) → param_kinds (nparams_of (drop (length ps) ps)) ≡ []
params_done ps = ap (λ x. param_kinds (nparams_of x)) (drop-length ps)

pub plains_done : (ps : List Plain) → nplains_of (drop (length ps) ps) ≡ []
plains_done ps = ap nplains_of (drop-length ps)

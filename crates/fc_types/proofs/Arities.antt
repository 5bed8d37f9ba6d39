-- How many binders a constructor has.
use Rattle.std.proofs.Common.{◌≡◌, ℕ, suc, ◌+◌, List, [], ◌∷◌, ◌++◌, length, map, refl, ap, arith, length-append}
use Rattle.std.proofs.lemmas.List.{length-map}
use Rattle.fc_syntax.specs.declared.expr.Binder.{Binder}
use Rattle.fc_syntax.specs.declared.module.Param.{Param}
use Rattle.fc_syntax.specs.declared.ty.Ty.{Ty}
use Rattle.fc_model.specs.Kinding.{param_kinds}
use Rattle.fc_model.specs.Nameless.{NBType, NBValue}
use Rattle.fc_model.specs.NamelessView.{nbinders_of, nparams_of, ntys_of}

params_count : (ps : List Param) → length (param_kinds (nparams_of ps)) ≡ length ps
params_count [] = refl
params_count (p ∷ ps) = ap suc (params_count ps)

binders_count : (bs : List (Binder ℕ)) → length (nbinders_of bs) ≡ length bs
binders_count [] = refl
binders_count (b ∷ bs) = ap suc (binders_count bs)

types_count : (ts : List (Ty ℕ)) → length (ntys_of ts) ≡ length ts
types_count [] = refl
types_count (t ∷ ts) = ap suc (types_count ts)

pub arity_is : (ps : List Param) (bs : List (Binder ℕ)) (fields : List (Ty ℕ))
    → length (map NBType (param_kinds (nparams_of ps)) ++ (nbinders_of bs ++ map NBValue (ntys_of fields))) ≡ (length ps + length bs) + length fields
arity_is ps bs fields =
    omega (
      arith,
      length-append (map NBType (param_kinds (nparams_of ps))) (nbinders_of bs ++ map NBValue (ntys_of fields)),
      length-append (nbinders_of bs) (map NBValue (ntys_of fields)),
      length-map (param_kinds (nparams_of ps)) NBType,
      length-map (ntys_of fields) NBValue,
      params_count ps,
      binders_count bs,
      types_count fields,
    )

-- The right side that is looked up stands at its place.
use Rattle.std.proofs.Common.{◌≡◌, refl, sym, ap, ◌∙◌, ℕ, zero, suc, List, [], ◌∷◌, Option, Some, slice_get}
use Rattle.std.proofs.lemmas.Option.{slice_get-map}
use Rattle.std.specs.Option.{option_and_then, option_map}
use Rattle.fc_syntax.specs.declared.module.Decl.{Decl}
use Rattle.fc_syntax.specs.declared.module.Module.{Module}
use Rattle.fc_syntax.specs.declared.ty.Ref.{Ref}
use Rattle.fc_model.specs.Nameless.{NExpr}
use Rattle.fc_model.specs.NamelessView.{ndecl_of, ndecls_of, nmodule_of, nmodules_of}
use Rattle.fc_definition_places.specs.Places.{place_of, right_at, right_of, right_within}
use Rattle.fc_definition_places.specs.declared.keys.DefinitionPlace.{DefinitionPlace}

seen_decl : (ds : List (Decl ℕ Ref)) (i : ℕ) → slice_get (ndecls_of ds) i ≡ option_map ndecl_of (slice_get ds i)
seen_decl [] i = refl
seen_decl (d ∷ ds) zero = refl
seen_decl (d ∷ ds) (suc i) = seen_decl ds i

pub right_there : (ms : List (Module ℕ Ref)) (p : DefinitionPlace) (m : Module ℕ Ref) (d : Decl ℕ Ref) (r : Option NExpr) → Some m ≡ slice_get ms p.module → Some d ≡ slice_get m.decls p.decl
    → r ≡ right_of (ndecl_of d) → r ≡ right_at (nmodules_of ms) (place_of p)
right_there ms p m d r module_is decl_is e =
    e ∙ ap (λ o. option_and_then right_of (option_map ndecl_of o)) decl_is ∙ ap (option_and_then right_of) (sym (seen_decl m.decls p.decl))
    ∙ ap (λ o. option_and_then (right_within p.decl) (option_map nmodule_of o)) module_is ∙ ap (option_and_then (right_within p.decl)) (sym (slice_get-map nmodule_of ms p.module))

use Rattle.std.proofs.Common.{◌≡◌, ◌∙◌, [], ap, refl, subst, sym}
use Rattle.fc_syntax.specs.declared.ty.Role.{Role}
use Rattle.fc_syntax.specs.declared.ty.Role.TheVariants.{N, R}
use Rattle.fc_model.specs.Kinding.{param_kinds}
use Rattle.fc_model.specs.NamelessView.{ndecl_of, nparams_of, nplains_of}
use Rattle.fc_model.specs.Needs.{param_roles}
use Rattle.fc_model.specs.Says.{Says}
use Rattle.fc_types.specs.TableViews.{axiom_of}
use Rattle.fc_coercion_forms.specs.Axioms.{fits_or_fault}
use Rattle.fc_type_scope.proofs.Proven.{shown_all_ends-grows}
use Rattle.fc_type_scope.specs.EndViews.{shown_all_ends_at}
use Rattle.fc_type_scope.specs.Scopes.{scope_in}
use Rattle.fc_type_table.specs.InScope.{own_kinds}
use Rattle.fc_type_table.specs.TypeTables.{modules_in, nodes_of}
use Rattle.fc_coercion.proofs.AxiomFits.{fits_before}
use Rattle.fc_coercion.proofs.axioms.fit_declared.Goals as goal

pub returns-in_ok-kinds-in-NewType-clause-says : goal.returns-in_ok-kinds-in-NewType-clause-says
returns-in_ok-kinds-in-NewType-clause-says c m =
    let ks = scope_in c.args.scope.now in
    let old = c.args.types.now in
    let new = c.param_kinds.new.types in
    let group = c.args.group.now in
    let es = shown_all_ends_at (nodes_of old) ks group in
    let ps = c.in-NewType.params in
    let grows = c.in_ok-kinds-in-NewType.ensures.grows in
    let kinds : own_kinds c.as_slice-in-NewType.result.now ≡ param_kinds (nparams_of ps) =
    ap own_kinds c.as_slice-in-NewType.ensures ∙ c.in_ok-kinds-in-NewType.ensures.kinds ∙ ap (λ qs. param_kinds (nparams_of qs)) c.as_slice.ensures in
    let roles : param_roles (nparams_of c.as_slice-params.result.now) ≡ param_roles (nparams_of ps) = ap (λ qs. param_roles (nparams_of qs)) c.as_slice-params.ensures in
    subst (λ d. Says (λ (q : Role). q) c.fit.result (fits_or_fault (modules_in old) ks (axiom_of m (ndecl_of d)) es)) (sym c.in-NewType.is)
    (fits_before c.fit.result (modules_in old) (modules_in new) ks (param_kinds (nparams_of ps)) (own_kinds c.as_slice-in-NewType.result.now) R (param_roles (nparams_of ps))
    (param_roles (nparams_of c.as_slice-params.result.now)) es (shown_all_ends_at (nodes_of new) ks group) grows.modules kinds roles (shown_all_ends-grows (nodes_of old) (nodes_of new) ks group grows.nodes c.requires) c.fit.ensures)

pub returns-in_ok-kinds-in-Axiom-clause-says : goal.returns-in_ok-kinds-in-Axiom-clause-says
returns-in_ok-kinds-in-Axiom-clause-says c m =
    let ks = scope_in c.args.scope.now in
    let old = c.args.types.now in
    let new = c.plain_kinds.new.types in
    let group = c.args.group.now in
    let es = shown_all_ends_at (nodes_of old) ks group in
    let ps = c.in-Axiom.params in
    let grows = c.in_ok-kinds-in-Axiom.ensures.grows in
    let kinds : own_kinds c.as_slice-in-Axiom-2.result.now ≡ nplains_of ps =
    ap own_kinds c.as_slice-in-Axiom-2.ensures ∙ c.in_ok-kinds-in-Axiom.ensures.kinds ∙ ap nplains_of c.as_slice-in-Axiom.ensures in
    subst (λ d. Says (λ (q : Role). q) c.fit-in-Axiom.result (fits_or_fault (modules_in old) ks (axiom_of m (ndecl_of d)) es)) (sym c.in-Axiom.is)
    (fits_before c.fit-in-Axiom.result (modules_in old) (modules_in new) ks (nplains_of ps) (own_kinds c.as_slice-in-Axiom-2.result.now) N [] [] es (shown_all_ends_at (nodes_of new) ks group)
    grows.modules kinds refl (shown_all_ends-grows (nodes_of old) (nodes_of new) ks group grows.nodes c.requires) c.fit-in-Axiom.ensures)

use Rattle.std.proofs.Common.{◌≡◌, ◌∙◌, refl, sym, ap, subst, arith, rules, ◌∷◌}
use Rattle.std.proofs.Math.ListN.{drop_of_length-le}
use Rattle.fc_syntax.proofs.View.{view_rules}
use Rattle.fc_syntax.specs.View.{kind_of}
use Rattle.fc_model.specs.Nameless.{NGAll, NGAx, NGCapp, NGCoAll, NGFun, NGInst, NGLeft, NGNth, NGRefl, NGRight, NGSub, NGSym, NGTc, NGTrans, NGUniv, NGVar}
use Rattle.fc_model.specs.NamelessView.{nco_of, ncos_of, nty_of}
use Rattle.fc_lint_context.proofs.Contexts.{scope_is}
use Rattle.fc_lint_context.proofs.Faults.{fails}
use Rattle.fc_lint_context.proofs.Growing.{stays, stays_on, still}
use Rattle.fc_type_scope.proofs.Proven.{AreEndsAt-none, AreEndsAt-push, shown_all_ends-none, shown_all_ends-push, shown_ends-grows}
use Rattle.fc_type_scope.specs.EndViews.{AreEndsAt, shown_ends}
use Rattle.fc_type_scope.specs.Scopes.{scope_in}
use Rattle.fc_type_scope.specs.declared.ends.Ends.{Ends}
use Rattle.fc_type_table.specs.InScope.{numbered_of}
use Rattle.fc_type_table.proofs.KindsInScope.{AreNumbered-one}
use Rattle.fc_type_table.proofs.Numbers.{Grows-further, Grows-refl}
use Rattle.fc_coercion.proofs.Beside.{all_step, both_fail, both_prove, with_end, with_none}
use Rattle.fc_coercion.proofs.Growing.{applied_among, coforall_among, grows_on}
use Rattle.fc_coercion.proofs.coercions.+coercions.Goals as goal

pub both_ends-returns-in_err-second-clause-says : goal.both_ends-returns-in_err-second-clause-says
both_ends-returns-in_err-second-clause-says t c =
    rw (c.in_ok-first.ensures.says, ← still _ _ _ c.in_ok-first.ensures.grows c.requires.context) (fails _ _ _ _ _ c.in_err-second.ensures.says (search rules))

pub both_ends-returns-clause-says : goal.both_ends-returns-clause-says
both_ends-returns-clause-says t c =
    rw (c.in_ok-first.ensures.says, ← still _ _ _ c.in_ok-first.ensures.grows c.requires.context, c.in_ok-second.ensures.says, shown_ends-grows _ _ _ _ c.in_ok-second.ensures.grows.nodes c.in_ok-first.ensures.valid)

pub ends_behind-ends_of_part-requires : goal.ends_behind-ends_of_part-requires
ends_behind-ends_of_part-requires t c =
    let read = c.in_ok-read_kind.ensures in
    let kept = stays _ _ _ read.grows c.requires.context in
    let past = ap (λ js. kind_of c.args.kind.now ∷ js) (sym (scope_is c.args.context.now.scope)) in
    let inner = c.behind_type-inner.ensures in
    let numbered = AreNumbered-one _ _ (numbered_of c.args.context.now.scope.kinds.now) (record { is_kind = read.valid; shows = read.view }) kept.valid.scope in
    (omega arith, record { valid = inner.valid _ _ past numbered kept.valid; modules = kept.modules ∙ sym inner.declared })

pub ends_behind-returns-in_err-body-clause-says : goal.ends_behind-returns-in_err-body-clause-says
ends_behind-returns-in_err-body-clause-says t c =
    let read = c.in_ok-read_kind.ensures in
    let kept = stays _ _ _ read.grows c.requires.context in
    let past = ap (λ js. kind_of c.args.kind.now ∷ js) (sym (scope_is c.args.context.now.scope)) in
    let inner = c.behind_type-inner.ensures in
    let scope = inner.scope ∙ past in
    let said = rw (inner.declared, scope, inner.view _ _ past kept.valid, still _ _ _ read.grows c.requires.context) at c.in_err-body.ensures.says in
    fails _ _ _ _ _ said (search rules)

pub ends_behind-quantified-requires-clause-inner : goal.ends_behind-quantified-requires-clause-inner
ends_behind-quantified-requires-clause-inner t c =
    c.behind_type-inner.ensures.scope ∙ ap (λ js. kind_of c.args.kind.now ∷ js) (sym (scope_is c.args.context.now.scope))

pub ends_behind-quantified-requires-clause-ends_in : goal.ends_behind-quantified-requires-clause-ends_in
ends_behind-quantified-requires-clause-ends_in t c =
    let scope = c.behind_type-inner.ensures.scope ∙ ap (λ js. kind_of c.args.kind.now ∷ js) (sym (scope_is c.args.context.now.scope)) in
    rw (← scope) c.in_ok-body.ensures.valid

pub ends_behind-returns-clause-says : goal.ends_behind-returns-clause-says
ends_behind-returns-clause-says t c =
    let read = c.in_ok-read_kind.ensures in
    let kept = stays _ _ _ read.grows c.requires.context in
    let past = ap (λ js. kind_of c.args.kind.now ∷ js) (sym (scope_is c.args.context.now.scope)) in
    let inner = c.behind_type-inner.ensures in
    let scope = inner.scope ∙ past in
    let said = rw (inner.declared, inner.view _ _ past kept.valid, still _ _ _ read.grows c.requires.context) at c.in_ok-body.ensures.says in
    let proved = rw scope at said in
    rw (proved, ← c.requires.context.modules, ← read.grows.modules, ← c.in_ok-body.ensures.grows.modules) c.quantified.ensures.says

pub ends_behind-returns-clause-context : goal.ends_behind-returns-clause-context
ends_behind-returns-clause-context t c =
    let grown = Grows-further _ _ _ c.in_ok-read_kind.ensures.grows c.in_ok-body.ensures.grows in
    stays_on _ _ _ _ (grows_on _ _ _ _ grown c.quantified.ensures.grows) c.requires.context

pub ends_of-returns-in_err-e-in-Sym-clause-says : goal.ends_of-returns-in_err-e-in-Sym-clause-says
ends_of-returns-in_err-e-in-Sym-clause-says t c =
    let here : nco_of c.args.g.now ≡ NGSym (nco_of c.deref.result.now) = search (rules, view_rules) in
    rw here (fails _ _ _ _ _ c.in_err-e-in-Sym.ensures.says (search rules))

pub ends_of-returns-in_ok-e-in-Sym-clause-says : goal.ends_of-returns-in_ok-e-in-Sym-clause-says
ends_of-returns-in_ok-e-in-Sym-clause-says t c =
    let here : nco_of c.args.g.now ≡ NGSym (nco_of c.deref.result.now) = search (rules, view_rules) in
    rw (here, c.in_ok-e-in-Sym.ensures.says)

pub ends_of-returns-in_err-e-in-Nth-clause-says : goal.ends_of-returns-in_err-e-in-Nth-clause-says
ends_of-returns-in_err-e-in-Nth-clause-says t c =
    let here : nco_of c.args.g.now ≡ NGNth c.in-Nth.number (nco_of c.deref-in-Nth.result.now) = search (rules, view_rules) in
    rw here (fails _ _ _ _ _ c.in_err-e-in-Nth.ensures.says (search rules))

pub ends_of-returns-in_ok-e-in-Nth-clause-says : goal.ends_of-returns-in_ok-e-in-Nth-clause-says
ends_of-returns-in_ok-e-in-Nth-clause-says t c =
    let here : nco_of c.args.g.now ≡ NGNth c.in-Nth.number (nco_of c.deref-in-Nth.result.now) = search (rules, view_rules) in
    rw (here, c.in_ok-e-in-Nth.ensures.says, ← c.in_ok-e-in-Nth.ensures.context.modules) c.part.ensures.says

pub ends_of-returns-in_err-e-in-Left-clause-says : goal.ends_of-returns-in_err-e-in-Left-clause-says
ends_of-returns-in_err-e-in-Left-clause-says t c =
    let here : nco_of c.args.g.now ≡ NGLeft (nco_of c.deref-in-Left.result.now) = search (rules, view_rules) in
    rw here (fails _ _ _ _ _ c.in_err-e-in-Left.ensures.says (search rules))

pub ends_of-returns-in_ok-e-in-Left-clause-says : goal.ends_of-returns-in_ok-e-in-Left-clause-says
ends_of-returns-in_ok-e-in-Left-clause-says t c =
    let here : nco_of c.args.g.now ≡ NGLeft (nco_of c.deref-in-Left.result.now) = search (rules, view_rules) in
    rw (here, c.in_ok-e-in-Left.ensures.says, ← c.in_ok-e-in-Left.ensures.context.modules) c.heads.ensures.says

pub ends_of-returns-in_err-e-in-Right-clause-says : goal.ends_of-returns-in_err-e-in-Right-clause-says
ends_of-returns-in_err-e-in-Right-clause-says t c =
    let here : nco_of c.args.g.now ≡ NGRight (nco_of c.deref-in-Right.result.now) = search (rules, view_rules) in
    rw here (fails _ _ _ _ _ c.in_err-e-in-Right.ensures.says (search rules))

pub ends_of-returns-in_ok-e-in-Right-clause-says : goal.ends_of-returns-in_ok-e-in-Right-clause-says
ends_of-returns-in_ok-e-in-Right-clause-says t c =
    let here : nco_of c.args.g.now ≡ NGRight (nco_of c.deref-in-Right.result.now) = search (rules, view_rules) in
    rw (here, c.in_ok-e-in-Right.ensures.says, ← c.in_ok-e-in-Right.ensures.context.modules) c.arguments.ensures.says

pub ends_of-returns-in_err-e-in-Sub-clause-says : goal.ends_of-returns-in_err-e-in-Sub-clause-says
ends_of-returns-in_err-e-in-Sub-clause-says t c =
    let here : nco_of c.args.g.now ≡ NGSub (nco_of c.deref-in-Sub.result.now) = search (rules, view_rules) in
    rw here (fails _ _ _ _ _ c.in_err-e-in-Sub.ensures.says (search rules))

pub ends_of-returns-in_ok-e-in-Sub-clause-says : goal.ends_of-returns-in_ok-e-in-Sub-clause-says
ends_of-returns-in_ok-e-in-Sub-clause-says t c =
    let here : nco_of c.args.g.now ≡ NGSub (nco_of c.deref-in-Sub.result.now) = search (rules, view_rules) in
    rw (here, c.in_ok-e-in-Sub.ensures.says) c.represented.ensures.says

pub ends_of-returns-in_err-e-in-Trans-clause-says : goal.ends_of-returns-in_err-e-in-Trans-clause-says
ends_of-returns-in_err-e-in-Trans-clause-says t c =
    let here : nco_of c.args.g.now ≡ NGTrans (nco_of c.deref-in-Trans.result.now) (nco_of c.deref-in-Trans-2.result.now) = search (rules, view_rules) in
    rw here (both_fail _ _ _ _ _ _ c.in_err-e-in-Trans.ensures.says (search rules))

pub ends_of-returns-in_ok-e-in-Trans-clause-says : goal.ends_of-returns-in_ok-e-in-Trans-clause-says
ends_of-returns-in_ok-e-in-Trans-clause-says t c =
    let here : nco_of c.args.g.now ≡ NGTrans (nco_of c.deref-in-Trans.result.now) (nco_of c.deref-in-Trans-2.result.now) = search (rules, view_rules) in
    rw here (both_prove _ _ _ _ _ _ _ c.in_ok-e-in-Trans.ensures.says c.joined.ensures.says)

pub ends_of-returns-in_err-e-in-Capp-clause-says : goal.ends_of-returns-in_err-e-in-Capp-clause-says
ends_of-returns-in_err-e-in-Capp-clause-says t c =
    let here : nco_of c.args.g.now ≡ NGCapp (nco_of c.deref-in-Capp.result.now) (nco_of c.deref-in-Capp-2.result.now) = search (rules, view_rules) in
    rw here (both_fail _ _ _ _ _ _ c.in_err-e-in-Capp.ensures.says (search rules))

pub ends_of-returns-in_ok-e-in-Capp-clause-says : goal.ends_of-returns-in_ok-e-in-Capp-clause-says
ends_of-returns-in_ok-e-in-Capp-clause-says t c =
    let here : nco_of c.args.g.now ≡ NGCapp (nco_of c.deref-in-Capp.result.now) (nco_of c.deref-in-Capp-2.result.now) = search (rules, view_rules) in
    let ks = scope_in c.args.context.now.scope in
    let shows = λ (e : Ends). shown_ends c.both_ends-in-Capp.new.types ks e in
    let took = applied_among _ _ _ _ ks c.in_ok-e-in-Capp.ensures.context.modules (shows c.in_ok-e-in-Capp.e) (shows c.in_ok-e-in-Capp.d) c.applied.ensures.says in
    rw here (both_prove _ _ _ _ _ _ _ c.in_ok-e-in-Capp.ensures.says took)

pub ends_of-returns-in_ok-e-in-Capp-clause-context : goal.ends_of-returns-in_ok-e-in-Capp-clause-context
ends_of-returns-in_ok-e-in-Capp-clause-context t c =
    stays_on _ _ _ _ c.applied.ensures.grows c.in_ok-e-in-Capp.ensures.context

pub ends_of-returns-in_err-e-in-FunCo-clause-says : goal.ends_of-returns-in_err-e-in-FunCo-clause-says
ends_of-returns-in_err-e-in-FunCo-clause-says t c =
    let here : nco_of c.args.g.now ≡ NGFun (nco_of c.deref-in-FunCo.result.now) (nco_of c.deref-in-FunCo-2.result.now) = search (rules, view_rules) in
    rw here (both_fail _ _ _ _ _ _ c.in_err-e-in-FunCo.ensures.says (search rules))

pub ends_of-returns-in_ok-e-in-FunCo-clause-says : goal.ends_of-returns-in_ok-e-in-FunCo-clause-says
ends_of-returns-in_ok-e-in-FunCo-clause-says t c =
    let here : nco_of c.args.g.now ≡ NGFun (nco_of c.deref-in-FunCo.result.now) (nco_of c.deref-in-FunCo-2.result.now) = search (rules, view_rules) in
    rw here (both_prove _ _ _ _ _ _ _ c.in_ok-e-in-FunCo.ensures.says (rw c.in_ok-e-in-FunCo.ensures.context.modules at c.function.ensures.says))

pub ends_of-returns-in_ok-e-in-FunCo-clause-context : goal.ends_of-returns-in_ok-e-in-FunCo-clause-context
ends_of-returns-in_ok-e-in-FunCo-clause-context t c =
    stays_on _ _ _ _ c.function.ensures.grows c.in_ok-e-in-FunCo.ensures.context

pub ends_of-returns-in_err-e-in-Inst-clause-says : goal.ends_of-returns-in_err-e-in-Inst-clause-says
ends_of-returns-in_err-e-in-Inst-clause-says t c =
    let here : nco_of c.args.g.now ≡ NGInst (nco_of c.deref-in-Inst.result.now) (nco_of c.deref-in-Inst-2.result.now) = search (rules, view_rules) in
    rw here (both_fail _ _ _ _ _ _ c.in_err-e-in-Inst.ensures.says (search rules))

pub ends_of-returns-in_ok-e-in-Inst-clause-says : goal.ends_of-returns-in_ok-e-in-Inst-clause-says
ends_of-returns-in_ok-e-in-Inst-clause-says t c =
    let here : nco_of c.args.g.now ≡ NGInst (nco_of c.deref-in-Inst.result.now) (nco_of c.deref-in-Inst-2.result.now) = search (rules, view_rules) in
    rw here (both_prove _ _ _ _ _ _ _ c.in_ok-e-in-Inst.ensures.says (rw c.in_ok-e-in-Inst.ensures.context.modules at c.instance.ensures.says))

pub ends_of-returns-in_ok-e-in-Inst-clause-context : goal.ends_of-returns-in_ok-e-in-Inst-clause-context
ends_of-returns-in_ok-e-in-Inst-clause-context t c =
    stays_on _ _ _ _ c.instance.ensures.grows c.in_ok-e-in-Inst.ensures.context

pub ends_of-returns-in_err-group-in-Tc-clause-says : goal.ends_of-returns-in_err-group-in-Tc-clause-says
ends_of-returns-in_err-group-in-Tc-clause-says t c =
    let here : nco_of c.args.g.now ≡ NGTc c.in-Tc.role c.in-Tc.name (ncos_of c.as_slice.result.now) = search (rules, view_rules) in
    rw here (fails _ _ _ _ _ c.in_err-group-in-Tc.ensures.says (search rules))

pub ends_of-returns-in_ok-group-in-Tc-clause-says : goal.ends_of-returns-in_ok-group-in-Tc-clause-says
ends_of-returns-in_ok-group-in-Tc-clause-says t c =
    let here : nco_of c.args.g.now ≡ NGTc c.in-Tc.role c.in-Tc.name (ncos_of c.as_slice.result.now) = search (rules, view_rules) in
    rw (here, c.in_ok-group-in-Tc.ensures.says, ← c.as_slice-in-Tc.ensures) c.constructed.ensures.says

pub ends_of-returns-in_ok-group-in-Tc-clause-context : goal.ends_of-returns-in_ok-group-in-Tc-clause-context
ends_of-returns-in_ok-group-in-Tc-clause-context t c =
    stays_on _ _ _ _ c.constructed.ensures.grows c.in_ok-group-in-Tc.ensures.context

pub ends_of-returns-in_err-group-in-Ax-clause-says : goal.ends_of-returns-in_err-group-in-Ax-clause-says
ends_of-returns-in_err-group-in-Ax-clause-says t c =
    let here : nco_of c.args.g.now ≡ NGAx c.in-Ax.name (ncos_of c.as_slice-in-Ax.result.now) = search (rules, view_rules) in
    rw here (fails _ _ _ _ _ c.in_err-group-in-Ax.ensures.says (search rules))

pub ends_of-returns-in_ok-group-in-Ax-clause-says : goal.ends_of-returns-in_ok-group-in-Ax-clause-says
ends_of-returns-in_ok-group-in-Ax-clause-says t c =
    let here : nco_of c.args.g.now ≡ NGAx c.in-Ax.name (ncos_of c.as_slice-in-Ax.result.now) = search (rules, view_rules) in
    rw (here, c.in_ok-group-in-Ax.ensures.says, ← c.as_slice-in-Ax-2.ensures) c.axiom_at.ensures.says

pub ends_of-returns-in_ok-group-in-Ax-clause-context : goal.ends_of-returns-in_ok-group-in-Ax-clause-context
ends_of-returns-in_ok-group-in-Ax-clause-context t c =
    stays_on _ _ _ _ c.axiom_at.ensures.grows c.in_ok-group-in-Ax.ensures.context

pub ends_of-returns-in-Var-clause-says : goal.ends_of-returns-in-Var-clause-says
ends_of-returns-in-Var-clause-says t c =
    let here : nco_of c.args.g.now ≡ NGVar c.in-Var.distance = search (rules, view_rules) in
    rw here (c.coercion.ensures.says _)

pub ends_of-returns-in-Refl-clause-says : goal.ends_of-returns-in-Refl-clause-says
ends_of-returns-in-Refl-clause-says t c =
    let here : nco_of c.args.g.now ≡ NGRefl c.in-Refl.role (nty_of c.in-Refl.t) = search (rules, view_rules) in
    rw here c.reflexive.ensures.says

pub ends_of-returns-in-Univ-clause-says : goal.ends_of-returns-in-Univ-clause-says
ends_of-returns-in-Univ-clause-says t c =
    let here : nco_of c.args.g.now ≡ NGUniv (nty_of c.in-Univ.t) (nty_of c.in-Univ.u) = search (rules, view_rules) in
    rw here c.universal.ensures.says

pub ends_of-returns-in-AllCo-clause-says : goal.ends_of-returns-in-AllCo-clause-says
ends_of-returns-in-AllCo-clause-says t c =
    let here : nco_of c.args.g.now ≡ NGAll (kind_of c.in-AllCo.kind) (nco_of c.deref-in-AllCo.result.now) = search (rules, view_rules) in
    rw here c.ends_behind.ensures.says

pub ends_of-returns-in_err-e-in-CoAllCo-clause-says : goal.ends_of-returns-in_err-e-in-CoAllCo-clause-says
ends_of-returns-in_err-e-in-CoAllCo-clause-says t c =
    let here : nco_of c.args.g.now ≡ NGCoAll c.in-CoAllCo.role c.in-CoAllCo.inner (nco_of c.deref-in-CoAllCo.result.now) (nco_of c.deref-in-CoAllCo-2.result.now) (nco_of c.in-CoAllCo.h.value) = search (rules, view_rules) in
    rw here (both_fail _ _ _ _ _ _ c.in_err-e-in-CoAllCo.ensures.says (search rules))

pub ends_of-returns-in_err-b-in-CoAllCo-clause-says : goal.ends_of-returns-in_err-b-in-CoAllCo-clause-says
ends_of-returns-in_err-b-in-CoAllCo-clause-says t c =
    let here : nco_of c.args.g.now ≡ NGCoAll c.in-CoAllCo.role c.in-CoAllCo.inner (nco_of c.deref-in-CoAllCo.result.now) (nco_of c.deref-in-CoAllCo-2.result.now) (nco_of c.deref-in-CoAllCo-3.result.now) = search (rules, view_rules) in
    let said = rw (still _ _ _ c.in_ok-e-in-CoAllCo.ensures.grows c.requires.context) at c.in_err-b-in-CoAllCo.ensures.says in
    rw here (both_prove _ _ _ _ _ _ _ c.in_ok-e-in-CoAllCo.ensures.says (fails _ _ _ _ _ said (search rules)))

pub ends_of-returns-in_ok-b-in-CoAllCo-clause-says : goal.ends_of-returns-in_ok-b-in-CoAllCo-clause-says
ends_of-returns-in_ok-b-in-CoAllCo-clause-says t c =
    let here : nco_of c.args.g.now ≡ NGCoAll c.in-CoAllCo.role c.in-CoAllCo.inner (nco_of c.deref-in-CoAllCo.result.now) (nco_of c.deref-in-CoAllCo-2.result.now) (nco_of c.deref-in-CoAllCo-3.result.now) = search (rules, view_rules) in
    let both = c.in_ok-e-in-CoAllCo.ensures in
    let body = c.in_ok-b-in-CoAllCo.ensures in
    let said = rw (still _ _ _ c.in_ok-e-in-CoAllCo.ensures.grows c.requires.context) at body.says in
    let grown = shown_ends-grows _ _ _ c.in_ok-e-in-CoAllCo.e body.grows.nodes both.valid.0 in
    let ks = scope_in c.args.context.now.scope in
    let shown_body = shown_ends c.ends_of_part-in-CoAllCo.new.types ks c.in_ok-b-in-CoAllCo.b in
    let took = coforall_among _ _ _ _ ks body.context.modules c.in-CoAllCo.role c.in-CoAllCo.inner _ _ _ _ shown_body grown (shown_ends-grows _ _ _ _ body.grows.nodes both.valid.1) c.taking.ensures.says in
    rw here (both_prove _ _ _ _ _ _ _ both.says (rw said took))

pub ends_of-returns-in_ok-b-in-CoAllCo-clause-grows : goal.ends_of-returns-in_ok-b-in-CoAllCo-clause-grows
ends_of-returns-in_ok-b-in-CoAllCo-clause-grows t c =
    grows_on _ _ _ _ (Grows-further _ _ _ c.in_ok-e-in-CoAllCo.ensures.grows c.in_ok-b-in-CoAllCo.ensures.grows) c.taking.ensures.grows

pub ends_of-returns-in_ok-b-in-CoAllCo-clause-context : goal.ends_of-returns-in_ok-b-in-CoAllCo-clause-context
ends_of-returns-in_ok-b-in-CoAllCo-clause-context t c =
    stays_on _ _ _ _ c.taking.ensures.grows c.in_ok-b-in-CoAllCo.ensures.context

pub each_ends-loop-g-init : goal.each_ends-loop-g-init
each_ends-loop-g-init t c =
    record {
      grows = Grows-refl _;
      context = c.requires.context;
      are_proven = subst (AreEndsAt _ _) (sym c.new-group.ensures) (AreEndsAt-none _ _);
      so_far = rw (c.new-group.ensures, shown_all_ends-none, with_none);
    }

pub each_ends-returns-in_err-ends-clause-says : goal.each_ends-returns-in_err-ends-clause-says
each_ends-returns-in_err-ends-clause-says t c =
    let l = c.loop-g in
    rw (l.invariant.so_far, all_step _ _ _ _ _ _ _ _ c.loop-g-test.true c.g-item.is, ← still _ _ _ l.invariant.grows c.requires.context) (fails _ _ _ _ _ c.in_err-ends.ensures.says (search rules))

pub each_ends-loop-g-preserved : goal.each_ends-loop-g-preserved
each_ends-loop-g-preserved t c =
    let l = c.loop-g in
    let h = c.in_ok-ends.ensures in
    let judged = rw (still _ _ _ l.invariant.grows c.requires.context) at h.says in
    let pushed = shown_all_ends-push _ _ _ l.group c.push.new.self c.in_ok-ends.ends _ h.grows.nodes l.invariant.are_proven refl c.in_ok-push.ensures.ok in
    record {
      grows = Grows-further _ _ _ l.invariant.grows h.grows;
      context = h.context;
      are_proven = AreEndsAt-push _ _ _ l.group c.push.new.self c.in_ok-ends.ends h.grows.nodes l.invariant.are_proven h.valid c.in_ok-push.ensures.ok;
      so_far = rw (l.invariant.so_far, all_step _ _ _ _ _ _ _ _ c.loop-g-test.true c.g-item.is, judged, c.in_ok-part.ensures.next, pushed);
    }

pub each_ends-returns-clause-says : goal.each_ends-returns-clause-says
each_ends-returns-clause-says t c =
    rw (c.loop-g.invariant.so_far, drop_of_length-le _ c.loop-g-test.false, with_end)

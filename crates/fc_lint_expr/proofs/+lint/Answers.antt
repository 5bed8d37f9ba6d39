use Rattle.fc_lint_expr.proofs.+lint.Goals as goal
use Rattle.fc_lint_expr.proofs.+lint.Goals.{lets::bind_fits-else-not-recursive, lets::bind_fits-then-not-recursive}
use Rattle.fc_lint_calls.proofs.Asked.{need-holds, paid-holds}
use Rattle.fc_lint_calls.proofs.Givens.{AreGivenAt-none, AreGivenAt-push, givens-none, givens-push}
use Rattle.fc_lint_calls.specs.AltViews.{before_of}
use Rattle.fc_lint_calls.specs.GivenViews.{AreGivenAt}
use Rattle.fc_lint_context.proofs.Contexts.{context_kinds}
use Rattle.fc_lint_context.proofs.Reached.{AreJoinsAt-grows, shown_joins-grows}
use Rattle.fc_lint_context.specs.ContextViews.{context_in, modules_of_context}
use Rattle.fc_lint_context.specs.JoinViews.{AreJoinsAt}
use Rattle.fc_lint_expr.proofs.Lambdas.{entered_on, over_body}
use Rattle.fc_lint_expr.proofs.Lengths.{rhs_smaller}
use Rattle.fc_lint_context.proofs.Faults.{fails, flaw_refuses, part_refuses, refused, refuses_then}
use Rattle.fc_lint_context.proofs.Growing.{stays, stays_on, still}
use Rattle.fc_lint_expr.proofs.Steps.{jump_none, jump_some, left, need_fails, paid_fails}
use Rattle.fc_lint_expr.proofs.Turns.{args_end, args_step, operands_end, operands_step, with_none}
use Rattle.fc_lint_expr.specs.Lists.{args_from, operand_given, operands_from}
use Rattle.fc_model.proofs.Lists.{drop_item}
use Rattle.fc_model.specs.Nameless.{NACo, NAType, NApp, NCase, NCast, NCon, NFail, NJoin, NJump, NLam, NLet, NLit, NLocal, NPrim, NVar}
use Rattle.fc_model.specs.NamelessView.{nalts_of, narg_of, nargs_of, nbinder_of, nbinders_of, nbinds_of, nco_of, nexpr_of, nexprs_of, njoins_of, nty_of}
use Rattle.fc_model.specs.Typing as words
use Rattle.fc_model.specs.Typing.{without_joins}
use Rattle.fc_syntax.proofs.View.{view_rules}
use Rattle.fc_syntax.specs.declared.expr.Alt as A
use Rattle.fc_syntax.specs.declared.expr.JoinBind as J
use Rattle.fc_syntax.specs.declared.fault.FaultKind.TheVariants.{AltType, JumpNotTail, Unbound}
use Rattle.fc_syntax.specs.declared.ty.Ref.{Ref}
use Rattle.fc_type_scope.proofs.Growing.{IsType-grows, shown-grows}
use Rattle.fc_type_scope.proofs.Numbers.{AreTypesAt-grows, shown_all-grows}
use Rattle.fc_type_scope.proofs.OneMore.{entered_grows}
use Rattle.fc_type_scope.specs.Scopes.{scope_in}
use Rattle.fc_type_table.proofs.BinderKinds.{kinds_past-one}
use Rattle.fc_type_table.proofs.Numbers.{Grows-further, Grows-refl, shown_at-grows}
use Rattle.fc_type_table.specs.TypeTables.{nodes_of}
use Rattle.std.proofs.Common.{Err, Ok, ap, arith, rules, subst, sym, ℕ, ◌∙◌, ◌≡◌}
use Rattle.std.proofs.Math.ListN.{drop_of_length-le}
use Rattle.std.specs.Prelude.{not, ◌&&◌}

pub arguments::argument-returns-in_err-read-in-OfType-clause-says : goal.arguments::argument-returns-in_err-read-in-OfType-clause-says
arguments::argument-returns-in_err-read-in-OfType-clause-says t c =
    let here : narg_of c.args.arg.now ≡ NAType (nty_of c.in-OfType.t) = search (rules, view_rules) in
    rw here (fails _ _ _ _ _ c.in_err-read-in-OfType.ensures.says (search rules))

pub arguments::argument-returns-in_ok-read-in-OfType-clause-says : goal.arguments::argument-returns-in_ok-read-in-OfType-clause-says
arguments::argument-returns-in_ok-read-in-OfType-clause-says t c =
    let here : narg_of c.args.arg.now ≡ NAType (nty_of c.in-OfType.t) = search (rules, view_rules) in
    rw (here, c.in_ok-read-in-OfType.ensures.says, c.in_ok-read-in-OfType.ensures.view)

pub arguments::argument-returns-in_err-ends-in-OfCo-clause-says : goal.arguments::argument-returns-in_err-ends-in-OfCo-clause-says
arguments::argument-returns-in_err-ends-in-OfCo-clause-says t c =
    let here : narg_of c.args.arg.now ≡ NACo (nco_of c.in-OfCo.g) = search (rules, view_rules) in
    rw (here, context_kinds) (fails _ _ _ _ _ c.in_err-ends-in-OfCo.ensures.says (search rules))

pub arguments::argument-returns-in_ok-ends-in-OfCo-clause-says : goal.arguments::argument-returns-in_ok-ends-in-OfCo-clause-says
arguments::argument-returns-in_ok-ends-in-OfCo-clause-says t c =
    let here : narg_of c.args.arg.now ≡ NACo (nco_of c.in-OfCo.g) = search (rules, view_rules) in
    rw (here, context_kinds, c.in_ok-ends-in-OfCo.ensures.says)

pub arguments::arguments-loop-arg-init : goal.arguments::arguments-loop-arg-init
arguments::arguments-loop-arg-init t c =
    record {
      grows = Grows-refl _;
      context = c.requires.context;
      are_given = subst (AreGivenAt _ _) (sym c.new-given.ensures) (AreGivenAt-none _ _);
      so_far = rw (c.new-given.ensures, givens-none, with_none);
    }

pub arguments::arguments-returns-in_err-next-clause-says : goal.arguments::arguments-returns-in_err-next-clause-says
arguments::arguments-returns-in_err-next-clause-says t c =
    let l = c.loop-arg in
    rw (l.invariant.so_far, args_step _ _ _ _ _ _ _ c.loop-arg-test.true c.arg-item.is, ← still _ _ _ l.invariant.grows c.requires.context) (fails _ _ _ _ _ c.in_err-next.ensures.says (search rules))

pub arguments::arguments-loop-arg-preserved : goal.arguments::arguments-loop-arg-preserved
arguments::arguments-loop-arg-preserved t c =
    let l = c.loop-arg in
    let e = c.in_ok-next.ensures in
    let judged = rw (still _ _ _ l.invariant.grows c.requires.context) at e.says in
    let pushed = givens-push _ _ _ l.given c.push.new.self c.in_ok-next.next e.grows.nodes l.invariant.are_given c.in_ok-push.ensures.ok in
    record {
      grows = Grows-further _ _ _ l.invariant.grows e.grows;
      context = e.context;
      are_given = AreGivenAt-push _ _ _ l.given c.push.new.self c.in_ok-next.next e.grows.nodes l.invariant.are_given e.valid c.in_ok-push.ensures.ok;
      so_far = rw (l.invariant.so_far, args_step _ _ _ _ _ _ _ c.loop-arg-test.true c.arg-item.is, judged, c.in_ok-part.ensures.next, pushed);
    }

pub arguments::arguments-returns-clause-says : goal.arguments::arguments-returns-clause-says
arguments::arguments-returns-clause-says t c =
    rw (c.loop-arg.invariant.so_far, drop_of_length-le _ c.loop-arg-test.false, args_end)

pub arguments::operands-loop-operand-init : goal.arguments::operands-loop-operand-init
arguments::operands-loop-operand-init t c =
    record {
      grows = Grows-refl _;
      context = c.requires.context;
      are_given = subst (AreGivenAt _ _) (sym c.new-given.ensures) (AreGivenAt-none _ _);
      so_far = rw (c.new-given.ensures, givens-none, with_none);
    }

pub arguments::operands-returns-in_err-next-clause-says : goal.arguments::operands-returns-in_err-next-clause-says
arguments::operands-returns-in_err-next-clause-says t c =
    let l = c.loop-operand in
    rw (l.invariant.so_far, operands_step _ _ _ _ _ _ _ c.loop-operand-test.true c.operand-item.is, ← still _ _ _ l.invariant.grows c.requires.context) (fails _ _ _ _ _ c.in_err-next.ensures.says (search rules))

pub arguments::operands-loop-operand-preserved : goal.arguments::operands-loop-operand-preserved
arguments::operands-loop-operand-preserved t c =
    let l = c.loop-operand in
    let e = c.in_ok-next.ensures in
    let judged = rw (still _ _ _ l.invariant.grows c.requires.context) at e.says in
    let pushed = givens-push _ _ _ l.given c.push.new.self c.in_ok-next.next e.grows.nodes l.invariant.are_given c.in_ok-push.ensures.ok in
    record {
      grows = Grows-further _ _ _ l.invariant.grows e.grows;
      context = e.context;
      are_given = AreGivenAt-push _ _ _ l.given c.push.new.self c.in_ok-next.next e.grows.nodes l.invariant.are_given e.valid c.in_ok-push.ensures.ok;
      so_far = rw (l.invariant.so_far, operands_step _ _ _ _ _ _ _ c.loop-operand-test.true c.operand-item.is, judged, c.in_ok-part.ensures.next, pushed);
    }

pub arguments::operands-returns-clause-says : goal.arguments::operands-returns-clause-says
arguments::operands-returns-clause-says t c =
    rw (c.loop-operand.invariant.so_far, drop_of_length-le _ c.loop-operand-test.false, operands_end)

pub arguments::operand_of_part-returns-in-Ok-clause-says : goal.arguments::operand_of_part-returns-in-Ok-clause-says
unfolding operand_given
arguments::operand_of_part-returns-in-Ok-clause-says t c =
    rw (c.is_atom.ensures, c.in-Ok.ensures.says)

pub arguments::operand_of_part-returns-in-Err-clause-says : goal.arguments::operand_of_part-returns-in-Err-clause-says
unfolding operand_given
arguments::operand_of_part-returns-in-Err-clause-says t c =
    refuses_then _ _ _ (part_refuses _ _ _ _ c.deeper.ensures c.in-Err.ensures.says)

pub binding::type_behind-returns-clause-context : goal.binding::type_behind-returns-clause-context
binding::type_behind-returns-clause-context t c =
    stays_on _ _ _ _ c.type_of_part.ensures.grows c.requires.context

pub binding::type_behind-returns-clause-entered_in : goal.binding::type_behind-returns-clause-entered_in
binding::type_behind-returns-clause-entered_in t c =
    entered_on _ _ _ _ _ _ c.type_of_part.ensures.grows c.requires.entered_in

pub binding::type_of_body-returns-in_err-body_fits-clause-says : goal.binding::type_of_body-returns-in_err-body_fits-clause-says
binding::type_of_body-returns-in_err-body_fits-clause-says t c =
    let behind = c.behind_binders-inner.ensures in
    let typed = rw (behind.declared, behind.view _ _ c.requires.entered_in c.requires.context.valid) at c.in_ok-ty.ensures.says in
    let past = behind.scope _ _ c.requires.entered_in in
    let asked = c.in_ok-pays.ensures in
    let fits = rw (c.in_ok-ty.ensures.grows.modules, c.requires.context.modules) at c.in_err-body_fits.ensures _ (past ∙ kinds_past-one _ _) in
    rw (typed, context_kinds, paid-holds) (need_fails _ _ _ _ _ _ fits (search rules))

pub binding::type_of_body-returns-clause-says : goal.binding::type_of_body-returns-clause-says
binding::type_of_body-returns-clause-says t c =
    let behind = c.behind_binders-inner.ensures in
    let typed = rw (behind.declared, behind.view _ _ c.requires.entered_in c.requires.context.valid) at c.in_ok-ty.ensures.says in
    let past = behind.scope _ _ c.requires.entered_in in
    let asked = c.in_ok-pays.ensures in
    let fits = rw (c.in_ok-ty.ensures.grows.modules, c.requires.context.modules) at c.in_ok-body_fits.ensures _ (past ∙ kinds_past-one _ _) in
    rw (typed, context_kinds, paid-holds, need-holds, past)

pub binding::type_of_body-returns-clause-context : goal.binding::type_of_body-returns-clause-context
binding::type_of_body-returns-clause-context t c =
    stays _ _ _ c.in_ok-ty.ensures.grows c.requires.context

pub binding::type_of_body-returns-clause-entered_in : goal.binding::type_of_body-returns-clause-entered_in
binding::type_of_body-returns-clause-entered_in t c =
    entered_grows _ _ _ _ _ c.in_ok-ty.ensures.grows.nodes c.requires.entered_in

pub binding::type_below-returns-clause-says : goal.binding::type_below-returns-clause-says
binding::type_below-returns-clause-says t c =
    let inner = c.without_joins-inner.ensures in
    rw (inner.declared, inner.view (nodes_of c.args.types.now), inner.scope) at c.type_of_body.ensures.says

pub binding::type_below-returns-clause-context : goal.binding::type_below-returns-clause-context
binding::type_below-returns-clause-context t c =
    stays_on _ _ _ _ c.type_of_body.ensures.grows c.requires.context

pub binding::type_of_lambda-returns-in_err-behind-clause-says : goal.binding::type_of_lambda-returns-in_err-behind-clause-says
binding::type_of_lambda-returns-in_err-behind-clause-says t c =
    fails _ _ _ _ _ c.in_err-behind.ensures.says (search rules)

pub binding::type_of_lambda-returns-in_err-ty-clause-says : goal.binding::type_of_lambda-returns-in_err-ty-clause-says
binding::type_of_lambda-returns-in_err-ty-clause-says t c =
    let ctx = c.args.context.now in
    let over = over_body (modules_of_context ctx) (context_in c.judged_binder.new.types ctx).kinds (nbinder_of c.args.binder.now) c.in_ok-behind.behind.owed in
    rw (c.in_ok-behind.ensures.says, ← still _ _ _ c.in_ok-behind.ensures.grows c.requires.context, over) (fails _ _ _ _ _ c.in_err-ty.ensures.says (search rules))

pub binding::type_of_lambda-returns-clause-says : goal.binding::type_of_lambda-returns-clause-says
binding::type_of_lambda-returns-clause-says t c =
    let ctx = c.args.context.now in
    let over = over_body (modules_of_context ctx) (context_in c.judged_binder.new.types ctx).kinds (nbinder_of c.args.binder.now) c.in_ok-behind.behind.owed in
    rw (c.in_ok-behind.ensures.says, ← still _ _ _ c.in_ok-behind.ensures.grows c.requires.context, over, c.in_ok-ty.ensures.says, c.in_ok-function_over_one.ensures.view)

pub binding::type_of_lambda-returns-clause-context : goal.binding::type_of_lambda-returns-clause-context
binding::type_of_lambda-returns-clause-context t c =
    stays _ _ _ c.in_ok-function_over_one.ensures.grows c.in_ok-ty.ensures.context

pub cases::alternative_fits-returns-in_err-behind-clause-says : goal.cases::alternative_fits-returns-in_err-behind-clause-says
cases::alternative_fits-returns-in_err-behind-clause-says t c =
    rw (← c.as_slice-binders.ensures) (fails _ _ _ _ _ c.in_err-behind.ensures.says (search rules))

pub cases::alternative_fits-type_behind-requires : goal.cases::alternative_fits-type_behind-requires
cases::alternative_fits-type_behind-requires t c =
    (omega (arith, c.decreases, A.size_is-Alt ℕ Ref c.args.alternative.now), (c.in_ok-behind.ensures.context, c.in_ok-behind.ensures.entered))

pub cases::alternative_fits-returns-in_err-body-clause-says : goal.cases::alternative_fits-returns-in_err-body-clause-says
cases::alternative_fits-returns-in_err-body-clause-says t c =
    rw (← c.as_slice-binders.ensures, c.in_ok-behind.ensures.says, ← c.in_ok-part.ensures.part, ← still _ _ _ c.in_ok-behind.ensures.grows c.requires.context)
    (fails _ _ _ _ _ c.in_err-body.ensures.says (search rules))

pub cases::alternative_fits-head_goes-requires-clause-scrutinee_in : goal.cases::alternative_fits-head_goes-requires-clause-scrutinee_in
cases::alternative_fits-head_goes-requires-clause-scrutinee_in t c =
    IsType-grows _ _ _ _ (Grows-further _ _ _ c.in_ok-behind.ensures.grows c.in_ok-body.ensures.grows) c.requires.scrutinee_in

pub cases::alternative_fits-head_goes-requires-clause-entered : goal.cases::alternative_fits-head_goes-requires-clause-entered
cases::alternative_fits-head_goes-requires-clause-entered t c =
    entered_grows _ _ _ _ _ c.in_ok-body.ensures.grows.nodes c.in_ok-behind.ensures.entered

pub cases::alternative_fits-returns-in_err-next-clause-says : goal.cases::alternative_fits-returns-in_err-next-clause-says
cases::alternative_fits-returns-in_err-next-clause-says t c =
    rw (← c.as_slice-binders.ensures, c.in_ok-behind.ensures.says, ← c.in_ok-part.ensures.part, ← still _ _ _ c.in_ok-behind.ensures.grows c.requires.context, c.in_ok-body.ensures.says, ← shown-grows _ _ _ _ (Grows-further _ _ _ c.in_ok-behind.ensures.grows c.in_ok-body.ensures.grows) c.requires.scrutinee_in)
    (fails _ _ _ _ _ c.in_err-next.ensures.says (search rules))

pub cases::alternative_fits-returns-in_err-leaves_as-clause-says : goal.cases::alternative_fits-returns-in_err-leaves_as-clause-says
cases::alternative_fits-returns-in_err-leaves_as-clause-says t c =
    let g2 = Grows-further _ _ _ c.in_ok-behind.ensures.grows c.in_ok-body.ensures.grows in
    let bs = nbinders_of c.as_slice-binders.result.now in
    let far = Grows-further _ _ _ g2 c.in_ok-next.ensures.grows in
    let leaves = left (before_of c.in_ok-next.next) _ _ c.head_goes.new.types bs (scope_in c.args.context.now.scope) c.in_ok-body.body c.args.wanted.answer AltType (Err c.in_err-leaves_as.field-0.0) far c.in_ok-next.ensures.grows c.in_ok-body.ensures.valid c.requires.answer_in c.in_err-leaves_as.ensures in
    rw (← c.as_slice-binders.ensures, c.in_ok-behind.ensures.says, ← c.in_ok-part.ensures.part, ← still _ _ _ c.in_ok-behind.ensures.grows c.requires.context, c.in_ok-body.ensures.says, ← shown-grows _ _ _ _ g2 c.requires.scrutinee_in, c.in_ok-next.ensures.says)
    (refused _ _ _ _ leaves (search rules))

pub cases::alternative_fits-returns-clause-says : goal.cases::alternative_fits-returns-clause-says
cases::alternative_fits-returns-clause-says t c =
    let g2 = Grows-further _ _ _ c.in_ok-behind.ensures.grows c.in_ok-body.ensures.grows in
    let bs = nbinders_of c.as_slice-binders.result.now in
    let far = Grows-further _ _ _ g2 c.in_ok-next.ensures.grows in
    let leaves = left (before_of c.in_ok-next.next) _ _ c.head_goes.new.types bs (scope_in c.args.context.now.scope) c.in_ok-body.body c.args.wanted.answer AltType (Ok (tt {0})) far c.in_ok-next.ensures.grows c.in_ok-body.ensures.valid c.requires.answer_in c.in_ok-leaves_as.ensures in
    rw (← c.as_slice-binders.ensures, c.in_ok-behind.ensures.says, ← c.in_ok-part.ensures.part, ← still _ _ _ c.in_ok-behind.ensures.grows c.requires.context, c.in_ok-body.ensures.says, ← shown-grows _ _ _ _ g2 c.requires.scrutinee_in, c.in_ok-next.ensures.says) leaves

pub cases::alternative_fits-leaves_as-requires-clause-outer_in : goal.cases::alternative_fits-leaves_as-requires-clause-outer_in
cases::alternative_fits-leaves_as-requires-clause-outer_in t c =
    IsType-grows _ _ _ _ (Grows-further _ _ _ (Grows-further _ _ _ c.in_ok-behind.ensures.grows c.in_ok-body.ensures.grows) c.in_ok-next.ensures.grows) c.requires.answer_in

pub cases::alternative_fits-returns-clause-grows : goal.cases::alternative_fits-returns-clause-grows
cases::alternative_fits-returns-clause-grows t c =
    Grows-further _ _ _ (Grows-further _ _ _ c.in_ok-behind.ensures.grows c.in_ok-body.ensures.grows) c.in_ok-next.ensures.grows

pub cases::alternatives_fit-returns-clause-context : goal.cases::alternatives_fit-returns-clause-context
cases::alternatives_fit-returns-clause-context t c =
    stays_on _ _ _ _ c.each_alternative_fits.ensures.grows c.requires.context

pub cases::each_alternative_fits-returns-in_err-before-clause-says : goal.cases::each_alternative_fits-returns-in_err-before-clause-says
cases::each_alternative_fits-returns-in_err-before-clause-says t c =
    let l = c.loop-alternative in
    let g = l.invariant.grows in
    rw (l.invariant.so_far, drop_item _ _ _ c.loop-alternative-test.true c.alternative-item.is, ← still _ _ _ g c.requires.context, ← shown-grows _ _ _ _ g c.requires.scrutinee_in, ← shown-grows _ _ _ _ g c.requires.answer_in)
    (fails _ _ _ _ _ c.in_err-before.ensures.says (search rules))

pub cases::each_alternative_fits-loop-alternative-preserved : goal.cases::each_alternative_fits-loop-alternative-preserved
cases::each_alternative_fits-loop-alternative-preserved t c =
    let l = c.loop-alternative in
    let g = l.invariant.grows in
    let e = c.in_ok-before.ensures in
    let judged = rw (still _ _ _ g c.requires.context, shown-grows _ _ _ _ g c.requires.scrutinee_in, shown-grows _ _ _ _ g c.requires.answer_in) at e.says in
    record {
      grows = Grows-further _ _ _ g e.grows;
      context = e.context;
      scrutinee = IsType-grows _ _ _ _ e.grows l.invariant.scrutinee;
      answer = IsType-grows _ _ _ _ e.grows l.invariant.answer;
      so_far = rw (l.invariant.so_far, drop_item _ _ _ c.loop-alternative-test.true c.alternative-item.is, judged, c.in_ok-part.ensures.next);
    }

pub cases::type_of_case-returns-in_err-binder-clause-says : goal.cases::type_of_case-returns-in_err-binder-clause-says
cases::type_of_case-returns-in_err-binder-clause-says t c =
    fails _ _ _ _ _ c.in_err-binder.ensures.says (search rules)

pub cases::type_of_case-returns-in_err-answer-clause-says : goal.cases::type_of_case-returns-in_err-answer-clause-says
cases::type_of_case-returns-in_err-answer-clause-says t c =
    rw (c.in_ok-binder.ensures.says, ← still _ _ _ c.in_ok-binder.ensures.grows c.requires.context) (fails _ _ _ _ _ c.in_err-answer.ensures.says (search rules))

pub cases::type_of_case-alternatives_fit-requires : goal.cases::type_of_case-alternatives_fit-requires
cases::type_of_case-alternatives_fit-requires t c =
    let g = c.in_ok-answer.ensures.grows in
    let far = Grows-further _ _ _ c.in_ok-binder.ensures.grows g in
    let of_in = IsType-grows _ _ _ _ g c.in_ok-binder.ensures.valid in
    (omega (arith, c.decreases), (c.in_ok-answer.ensures.context, (of_in, (IsType-grows _ _ _ _ far c.requires.scrutinee_in, c.in_ok-answer.ensures.valid))))

pub cases::type_of_case-returns-in_err-alternatives_fit-clause-says : goal.cases::type_of_case-returns-in_err-alternatives_fit-clause-says
cases::type_of_case-returns-in_err-alternatives_fit-clause-says t c =
    let g = c.in_ok-answer.ensures.grows in
    let far = Grows-further _ _ _ c.in_ok-binder.ensures.grows g in
    let of_is = shown-grows _ _ _ _ g c.in_ok-binder.ensures.valid ∙ c.in_ok-binder.ensures.view in
    rw (
      c.in_ok-binder.ensures.says,
      ← still _ _ _ c.in_ok-binder.ensures.grows c.requires.context,
      c.in_ok-answer.ensures.says,
      ← still _ _ _ g c.in_ok-binder.ensures.context,
      ← of_is,
      ← shown-grows _ _ _ _ far c.requires.scrutinee_in,
      ← c.in_ok-answer.ensures.view,
    )
    (fails _ _ _ _ _ c.in_err-alternatives_fit.ensures.says (search rules))

pub cases::type_of_case-returns-clause-says : goal.cases::type_of_case-returns-clause-says
cases::type_of_case-returns-clause-says t c =
    let g = c.in_ok-answer.ensures.grows in
    let far = Grows-further _ _ _ c.in_ok-binder.ensures.grows g in
    let of_is = shown-grows _ _ _ _ g c.in_ok-binder.ensures.valid ∙ c.in_ok-binder.ensures.view in
    let h = c.in_ok-alternatives_fit.ensures.grows in
    let last = rw (shown-grows _ _ _ _ h (IsType-grows _ _ _ _ g c.in_ok-binder.ensures.valid), shown-grows _ _ _ _ h (IsType-grows _ _ _ _ far c.requires.scrutinee_in), shown-grows _ _ _ _ h c.in_ok-answer.ensures.valid, c.is_value_kind-is_value.ensures) at c.case_type.ensures.says in
    rw (
      c.in_ok-binder.ensures.says,
      ← still _ _ _ c.in_ok-binder.ensures.grows c.requires.context,
      c.in_ok-answer.ensures.says,
      ← still _ _ _ g c.in_ok-binder.ensures.context,
      ← of_is,
      ← shown-grows _ _ _ _ far c.requires.scrutinee_in,
      ← c.in_ok-answer.ensures.view,
      c.in_ok-alternatives_fit.ensures.says,
    ) last

pub expressions::judge-returns-in-Var-Local-clause-says : goal.expressions::judge-returns-in-Var-Local-clause-says
expressions::judge-returns-in-Var-Local-clause-says t c =
    let here : nexpr_of c.args.e.now ≡ NLocal c.in-Var-Local.distance = search (rules, view_rules) in
    rw here (c.local.ensures.says _)

pub expressions::judge-returns-in-Var-Top-clause-says : goal.expressions::judge-returns-in-Var-Top-clause-says
expressions::judge-returns-in-Var-Top-clause-says t c =
    let here : nexpr_of c.args.e.now ≡ NVar c.in-Var-Top.name = search (rules, view_rules) in
    rw here (c.definition_type.ensures.says _ c.requires.context.valid)

pub expressions::judge-returns-in_ok-int_hash-in-Lit-clause-says : goal.expressions::judge-returns-in_ok-int_hash-in-Lit-clause-says
expressions::judge-returns-in_ok-int_hash-in-Lit-clause-says t c =
    let here : nexpr_of c.args.e.now ≡ NLit c.in-Lit.field-0 = search (rules, view_rules) in
    rw (here, c.in_ok-int_hash-in-Lit.ensures.view)

pub expressions::judge-returns-in_ok-int_hash-in-Lit-clause-context : goal.expressions::judge-returns-in_ok-int_hash-in-Lit-clause-context
expressions::judge-returns-in_ok-int_hash-in-Lit-clause-context t c =
    stays _ _ _ c.in_ok-int_hash-in-Lit.ensures.grows c.requires.context

pub expressions::judge-returns-in-Lam-clause-says : goal.expressions::judge-returns-in-Lam-clause-says
expressions::judge-returns-in-Lam-clause-says t c =
    let here : nexpr_of c.args.e.now ≡ NLam (nbinder_of c.deref-in-Lam-2.result.now) (nexpr_of c.deref-in-Lam.result.now) = search (rules, view_rules) in
    rw here c.type_of_lambda.ensures.says

pub expressions::judge-returns-in-Let-clause-says : goal.expressions::judge-returns-in-Let-clause-says
expressions::judge-returns-in-Let-clause-says t c =
    let here : nexpr_of c.args.e.now ≡ NLet c.in-Let.recursive (nbinds_of c.as_slice.result.now) (nexpr_of c.deref-in-Let.result.now) = search (rules, view_rules) in
    rw here c.type_of_let.ensures.says

pub expressions::judge-returns-in-Con-clause-says : goal.expressions::judge-returns-in-Con-clause-says
expressions::judge-returns-in-Con-clause-says t c =
    let here : nexpr_of c.args.e.now ≡ NCon c.in-Con.name (nargs_of c.as_slice-in-Con.result.now) = search (rules, view_rules) in
    rw here c.type_of_constructor.ensures.says

pub expressions::judge-returns-in-Prim-clause-says : goal.expressions::judge-returns-in-Prim-clause-says
expressions::judge-returns-in-Prim-clause-says t c =
    let here : nexpr_of c.args.e.now ≡ NPrim c.in-Prim.op (nexprs_of c.as_slice-in-Prim.result.now) = search (rules, view_rules) in
    rw here c.type_of_primitive.ensures.says

pub expressions::judge-returns-in-Fail-clause-says : goal.expressions::judge-returns-in-Fail-clause-says
expressions::judge-returns-in-Fail-clause-says t c =
    let here : nexpr_of c.args.e.now ≡ NFail (nty_of c.in-Fail.t) = search (rules, view_rules) in
    rw here c.type_of_fail.ensures.says

pub expressions::judge-returns-in-Join-clause-says : goal.expressions::judge-returns-in-Join-clause-says
expressions::judge-returns-in-Join-clause-says t c =
    let here : nexpr_of c.args.e.now ≡ NJoin c.in-Join.recursive (nty_of c.in-Join.t) (njoins_of c.as_slice-in-Join.result.now) (nexpr_of c.deref-in-Join.result.now) = search (rules, view_rules) in
    rw here c.type_of_join.ensures.says

pub expressions::judge-returns-in-Jump-clause-says : goal.expressions::judge-returns-in-Jump-clause-says
expressions::judge-returns-in-Jump-clause-says t c =
    let here : nexpr_of c.args.e.now ≡ NJump c.in-Jump.distance (nargs_of c.as_slice-in-Jump.result.now) = search (rules, view_rules) in
    rw here c.type_of_jump.ensures.says

pub expressions::judge-returns-in_err-t-in-App-clause-says : goal.expressions::judge-returns-in_err-t-in-App-clause-says
expressions::judge-returns-in_err-t-in-App-clause-says t c =
    let here : nexpr_of c.args.e.now ≡ NApp (nexpr_of c.deref.result.now) (narg_of c.in-App.arg.value) = search (rules, view_rules) in
    rw here (fails _ _ _ _ _ c.in_err-t-in-App.ensures.says (search rules))

pub expressions::judge-returns-in_ok-t-in-App-clause-says : goal.expressions::judge-returns-in_ok-t-in-App-clause-says
expressions::judge-returns-in_ok-t-in-App-clause-says t c =
    let here : nexpr_of c.args.e.now ≡ NApp (nexpr_of c.deref.result.now) (narg_of c.deref-in-App.result.now) = search (rules, view_rules) in
    rw (here, c.in_ok-t-in-App.ensures.says, ← still _ _ _ c.in_ok-t-in-App.ensures.grows c.requires.context) c.type_of_applied.ensures.says

pub expressions::judge-returns-in_err-found-in-Cast-clause-says : goal.expressions::judge-returns-in_err-found-in-Cast-clause-says
expressions::judge-returns-in_err-found-in-Cast-clause-says t c =
    let here : nexpr_of c.args.e.now ≡ NCast (nexpr_of c.deref-in-Cast.result.now) (nco_of c.in-Cast.g) = search (rules, view_rules) in
    rw here (fails _ _ _ _ _ c.in_err-found-in-Cast.ensures.says (search rules))

pub expressions::judge-returns-in_ok-found-in-Cast-clause-says : goal.expressions::judge-returns-in_ok-found-in-Cast-clause-says
expressions::judge-returns-in_ok-found-in-Cast-clause-says t c =
    let here : nexpr_of c.args.e.now ≡ NCast (nexpr_of c.deref-in-Cast.result.now) (nco_of c.in-Cast.g) = search (rules, view_rules) in
    rw (here, c.in_ok-found-in-Cast.ensures.says, ← still _ _ _ c.in_ok-found-in-Cast.ensures.grows c.requires.context) c.type_of_cast.ensures.says

pub expressions::judge-returns-in_err-found-in-Case-clause-says : goal.expressions::judge-returns-in_err-found-in-Case-clause-says
expressions::judge-returns-in_err-found-in-Case-clause-says t c =
    let here : nexpr_of c.args.e.now ≡ NCase (nexpr_of c.deref-in-Case.result.now) (nty_of c.in-Case.of) (nty_of c.in-Case.answer) (nalts_of c.in-Case.alternatives) = search (rules, view_rules) in
    rw here (fails _ _ _ _ _ c.in_err-found-in-Case.ensures.says (search rules))

pub expressions::judge-returns-in_ok-found-in-Case-clause-says : goal.expressions::judge-returns-in_ok-found-in-Case-clause-says
expressions::judge-returns-in_ok-found-in-Case-clause-says t c =
    let here : nexpr_of c.args.e.now ≡ NCase (nexpr_of c.deref-in-Case.result.now) (nty_of c.in-Case.of) (nty_of c.in-Case.answer) (nalts_of c.as_slice-alternatives.result.now) = search (rules, view_rules) in
    rw (here, c.in_ok-found-in-Case.ensures.says, ← still _ _ _ c.in_ok-found-in-Case.ensures.grows c.requires.context) c.type_of_case.ensures.says

pub expressions::type_apart-returns-clause-says : goal.expressions::type_apart-returns-clause-says
expressions::type_apart-returns-clause-says t c =
    let inner = c.without_joins-inner.ensures in
    rw (← inner.declared, ← inner.view (nodes_of c.args.types.now), ← inner.scope) c.judge.ensures.says

pub expressions::type_apart-returns-clause-context : goal.expressions::type_apart-returns-clause-context
expressions::type_apart-returns-clause-context t c =
    stays_on _ _ _ _ c.judge.ensures.grows c.requires.context

pub expressions::type_of_constructor-returns-in_err-given-clause-says : goal.expressions::type_of_constructor-returns-in_err-given-clause-says
unfolding args_from
expressions::type_of_constructor-returns-in_err-given-clause-says t c =
    fails _ _ _ _ _ c.in_err-given.ensures.says (search rules)

pub expressions::type_of_constructor-returns-in-None-clause-says : goal.expressions::type_of_constructor-returns-in-None-clause-says
unfolding args_from
expressions::type_of_constructor-returns-in-None-clause-says t c =
    rw (c.in_ok-given.ensures.says, ← c.in-None.ensures.view _ c.requires.context.valid) (flaw_refuses _ Unbound _ c.flaw_here.ensures)

pub expressions::type_of_constructor-returns-clause-says : goal.expressions::type_of_constructor-returns-clause-says
unfolding args_from
expressions::type_of_constructor-returns-clause-says t c =
    let found = c.in-Some.ensures in
    rw (c.in_ok-given.ensures.says, ← found.view _ c.requires.context.valid, ← c.in_ok-count-in-Some.ensures, ← found.ty _ c.in_ok-given.ensures.context.valid, ← c.as_slice.ensures) c.called.ensures.says

pub expressions::type_of_constructor-returns-clause-context : goal.expressions::type_of_constructor-returns-clause-context
expressions::type_of_constructor-returns-clause-context t c =
    stays_on _ _ _ _ c.called.ensures.grows c.in_ok-given.ensures.context

pub expressions::type_of_jump-returns-in_err-given-clause-says : goal.expressions::type_of_jump-returns-in_err-given-clause-says
unfolding args_from
expressions::type_of_jump-returns-in_err-given-clause-says t c =
    fails _ _ _ _ _ c.in_err-given.ensures.says (search rules)

pub expressions::type_of_jump-returns-in-None-clause-says : goal.expressions::type_of_jump-returns-in-None-clause-says
unfolding args_from
expressions::type_of_jump-returns-in-None-clause-says t c =
    rw (c.in_ok-given.ensures.says, jump_none _ _ (c.in-None.ensures.view _)) (flaw_refuses _ JumpNotTail _ c.flaw_here.ensures)

pub expressions::type_of_jump-returns-in_err-called-in-Some-clause-says : goal.expressions::type_of_jump-returns-in_err-called-in-Some-clause-says
unfolding args_from
expressions::type_of_jump-returns-in_err-called-in-Some-clause-says t c =
    let g = c.in_ok-given.ensures in
    let to = c.in-Some.ensures.view (nodes_of c.arguments.new.types) in
    rw (g.says, ← still _ _ _ g.grows c.requires.context, jump_some _ _ to, ← c.as_slice.ensures) (fails _ _ _ _ _ c.in_err-called-in-Some.ensures.says (search rules))

pub expressions::type_of_jump-returns-clause-says : goal.expressions::type_of_jump-returns-clause-says
unfolding args_from
expressions::type_of_jump-returns-clause-says t c =
    let g = c.in_ok-given.ensures in
    let to = c.in-Some.ensures.view (nodes_of c.arguments.new.types) in
    let called = c.in_ok-called-in-Some.ensures in
    rw (g.says, ← still _ _ _ g.grows c.requires.context, jump_some _ _ to, ← c.as_slice.ensures, called.says, shown_at-grows _ _ _ _ called.grows.nodes (c.in-Some.ensures.valid _ g.context.valid).answer)

pub expressions::type_of_jump-returns-clause-context : goal.expressions::type_of_jump-returns-clause-context
expressions::type_of_jump-returns-clause-context t c =
    stays _ _ _ c.in_ok-called-in-Some.ensures.grows c.in_ok-given.ensures.context

pub expressions::type_of_primitive-returns-in_err-given-clause-says : goal.expressions::type_of_primitive-returns-in_err-given-clause-says
unfolding operands_from
expressions::type_of_primitive-returns-in_err-given-clause-says t c =
    fails _ _ _ _ _ c.in_err-given.ensures.says (search rules)

pub expressions::type_of_primitive-returns-clause-says : goal.expressions::type_of_primitive-returns-clause-says
unfolding operands_from
expressions::type_of_primitive-returns-clause-says t c =
    rw (c.in_ok-given.ensures.says, ← c.as_slice.ensures) c.operated.ensures.says

pub expressions::type_of_primitive-returns-clause-context : goal.expressions::type_of_primitive-returns-clause-context
expressions::type_of_primitive-returns-clause-context t c =
    stays_on _ _ _ _ c.operated.ensures.grows c.in_ok-given.ensures.context

pub expressions::type_of_applied-returns-in_err-given-clause-says : goal.expressions::type_of_applied-returns-in_err-given-clause-says
expressions::type_of_applied-returns-in_err-given-clause-says t c =
    fails _ _ _ _ _ c.in_err-given.ensures.says (search rules)

pub expressions::type_of_applied-returns-clause-says : goal.expressions::type_of_applied-returns-clause-says
expressions::type_of_applied-returns-clause-says t c =
    rw (c.in_ok-given.ensures.says, ← shown-grows _ _ _ _ c.in_ok-given.ensures.grows c.requires.head_in) c.applied.ensures.says

pub expressions::type_of_applied-returns-clause-context : goal.expressions::type_of_applied-returns-clause-context
expressions::type_of_applied-returns-clause-context t c =
    stays_on _ _ _ _ c.applied.ensures.grows c.in_ok-given.ensures.context

pub joins::each_join_fits-returns-in_err-join_part_fits-clause-says : goal.joins::each_join_fits-returns-in_err-join_part_fits-clause-says
joins::each_join_fits-returns-in_err-join_part_fits-clause-says t c =
    let l = c.loop-bind in
    let g = l.invariant.grows in
    rw (l.invariant.so_far, drop_item _ _ _ c.loop-bind-test.true c.bind-item.is, ← still _ _ _ g c.requires.context, ← shown-grows _ _ _ _ g c.requires.answer_in)
    (fails _ _ _ _ _ c.in_err-join_part_fits.ensures.says (search rules))

pub joins::each_join_fits-loop-bind-preserved : goal.joins::each_join_fits-loop-bind-preserved
joins::each_join_fits-loop-bind-preserved t c =
    let l = c.loop-bind in
    let g = l.invariant.grows in
    let e = c.in_ok-join_part_fits.ensures in
    let judged = rw (still _ _ _ g c.requires.context, shown-grows _ _ _ _ g c.requires.answer_in) at e.says in
    record {
      grows = Grows-further _ _ _ g e.grows;
      context = e.context;
      answer = IsType-grows _ _ _ _ e.grows l.invariant.answer;
      so_far = rw (l.invariant.so_far, drop_item _ _ _ c.loop-bind-test.true c.bind-item.is, judged, c.in_ok-part.ensures.next);
    }

pub joins::join_fits-returns-in_err-behind-clause-says : goal.joins::join_fits-returns-in_err-behind-clause-says
joins::join_fits-returns-in_err-behind-clause-says t c =
    rw (← c.as_slice-params.ensures) (fails _ _ _ _ _ c.in_err-behind.ensures.says (search rules))

pub joins::join_fits-type_behind-requires : goal.joins::join_fits-type_behind-requires
joins::join_fits-type_behind-requires t c =
    (omega (arith, c.decreases, J.size_is-JoinBind ℕ Ref c.args.bind.now), (c.in_ok-behind.ensures.context, c.in_ok-behind.ensures.entered))

pub joins::join_fits-returns-in_err-ty-clause-says : goal.joins::join_fits-returns-in_err-ty-clause-says
joins::join_fits-returns-in_err-ty-clause-says t c =
    rw (← c.as_slice-params.ensures, c.in_ok-behind.ensures.says, ← c.in_ok-part.ensures.part, ← still _ _ _ c.in_ok-behind.ensures.grows c.requires.context) (fails _ _ _ _ _ c.in_err-ty.ensures.says (search rules))

pub joins::join_fits-returns-in_err-pays-clause-says : goal.joins::join_fits-returns-in_err-pays-clause-says
joins::join_fits-returns-in_err-pays-clause-says t c =
    rw (← c.as_slice-params.ensures, c.in_ok-behind.ensures.says, ← c.in_ok-part.ensures.part, ← still _ _ _ c.in_ok-behind.ensures.grows c.requires.context, c.in_ok-ty.ensures.says) (paid_fails _ _ _ _ _ c.in_err-pays.ensures (search rules))

pub joins::join_fits-returns-clause-says : goal.joins::join_fits-returns-clause-says
joins::join_fits-returns-clause-says t c =
    let g = Grows-further _ _ _ c.in_ok-behind.ensures.grows c.in_ok-ty.ensures.grows in
    let paid = c.in_ok-pays.ensures in
    rw (← c.as_slice-params.ensures, c.in_ok-behind.ensures.says, ← c.in_ok-part.ensures.part, ← still _ _ _ c.in_ok-behind.ensures.grows c.requires.context, c.in_ok-ty.ensures.says, paid-holds)
    (left _ _ _ _ _ _ _ _ _ _ g (Grows-refl _) c.in_ok-ty.ensures.valid c.requires.answer_in c.leaves_as.ensures)

pub joins::joins_fit-returns-then-recursive-clause-context : goal.joins::joins_fit-returns-then-recursive-clause-context
joins::joins_fit-returns-then-recursive-clause-context t c =
    stays_on _ _ _ _ c.each_join_fits.ensures.grows c.requires.context

pub joins::type_behind_joins-returns-clause-context : goal.joins::type_behind_joins-returns-clause-context
joins::type_behind_joins-returns-clause-context t c =
    stays_on _ _ _ _ c.type_of_part.ensures.grows c.requires.context

pub joins::type_of_join-returns-in_err-read-clause-says : goal.joins::type_of_join-returns-in_err-read-clause-says
joins::type_of_join-returns-in_err-read-clause-says t c =
    fails _ _ _ _ _ c.in_err-read.ensures.says (search rules)

pub joins::type_of_join-joins_fit-requires : goal.joins::type_of_join-joins_fit-requires
joins::type_of_join-joins_fit-requires t c =
    let g = c.in_ok-points.ensures.grows in
    let a_in = IsType-grows _ _ _ _ g c.in_ok-read.ensures.valid in
    let a_is = shown-grows _ _ _ _ g c.in_ok-read.ensures.valid in
    let points_in = subst (AreJoinsAt _ _) (sym c.as_slice-group.ensures) c.in_ok-points.ensures.valid in
    (omega (arith, c.decreases), (stays _ _ _ g c.in_ok-read.ensures.context, (a_in, (points_in, rw (c.as_slice-group.ensures, c.in_ok-points.ensures.all, a_is)))))

pub joins::type_of_join-returns-in_err-part-clause-says : goal.joins::type_of_join-returns-in_err-part-clause-says
joins::type_of_join-returns-in_err-part-clause-says t c =
    let g = c.in_ok-points.ensures.grows in
    let far = Grows-further _ _ _ c.in_ok-read.ensures.grows g in
    let a_is = shown-grows _ _ _ _ g c.in_ok-read.ensures.valid ∙ c.in_ok-read.ensures.view in
    rw (c.in_ok-read.ensures.says, ← still _ _ _ far c.requires.context, ← a_is) (fails _ _ _ _ _ c.in_err-part.ensures.says (search rules))

pub joins::type_of_join-type_behind_joins-requires : goal.joins::type_of_join-type_behind_joins-requires
joins::type_of_join-type_behind_joins-requires t c =
    let g = c.in_ok-points.ensures.grows in
    let a_in = IsType-grows _ _ _ _ g c.in_ok-read.ensures.valid in
    let a_is = shown-grows _ _ _ _ g c.in_ok-read.ensures.valid in
    let points_in = subst (AreJoinsAt _ _) (sym c.as_slice-group.ensures) c.in_ok-points.ensures.valid in
    let h = c.in_ok-part.ensures.grows in
    let points = shown_joins-grows _ _ _ _ h.nodes points_in in
    (omega (arith, c.decreases), (c.in_ok-part.ensures.context, (IsType-grows _ _ _ _ h a_in, (AreJoinsAt-grows _ _ _ _ h.nodes points_in, rw (points, c.as_slice-group.ensures, c.in_ok-points.ensures.all, shown-grows _ _ _ _ h a_in, a_is)))))

pub joins::type_of_join-returns-in_err-found-clause-says : goal.joins::type_of_join-returns-in_err-found-clause-says
joins::type_of_join-returns-in_err-found-clause-says t c =
    let g = c.in_ok-points.ensures.grows in
    let far = Grows-further _ _ _ c.in_ok-read.ensures.grows g in
    let a_is = shown-grows _ _ _ _ g c.in_ok-read.ensures.valid ∙ c.in_ok-read.ensures.view in
    let h = c.in_ok-part.ensures.grows in
    let a_in = IsType-grows _ _ _ _ g c.in_ok-read.ensures.valid in
    rw (c.in_ok-read.ensures.says, ← still _ _ _ far c.requires.context, ← a_is, c.in_ok-part.ensures.says, ← still _ _ _ h (stays _ _ _ far c.requires.context), ← shown-grows _ _ _ _ h a_in) (fails _ _ _ _ _ c.in_err-found.ensures.says (search rules))

pub joins::type_of_join-returns-clause-says : goal.joins::type_of_join-returns-clause-says
joins::type_of_join-returns-clause-says t c =
    let g = c.in_ok-points.ensures.grows in
    let far = Grows-further _ _ _ c.in_ok-read.ensures.grows g in
    let a_is = shown-grows _ _ _ _ g c.in_ok-read.ensures.valid ∙ c.in_ok-read.ensures.view in
    let h = c.in_ok-part.ensures.grows in
    let a_in = IsType-grows _ _ _ _ g c.in_ok-read.ensures.valid in
    let last = rw (shown-grows _ _ _ _ c.in_ok-found.ensures.grows (IsType-grows _ _ _ _ h a_in), c.is_value_kind-is_value.ensures) at c.join_type.ensures.says in
    rw (c.in_ok-read.ensures.says, ← still _ _ _ far c.requires.context, ← a_is, c.in_ok-part.ensures.says, ← still _ _ _ h (stays _ _ _ far c.requires.context), ← shown-grows _ _ _ _ h a_in, c.in_ok-found.ensures.says) last

pub lets::bind_fits-returns-in_err-read-clause-says : goal.lets::bind_fits-returns-in_err-read-clause-says
lets::bind_fits-returns-in_err-read-clause-says t c =
    fails _ _ _ _ _ c.in_err-read.ensures.says (search rules)

pub lets::bind_fits-type_of_part-requires : goal.lets::bind_fits-type_of_part-requires
lets::bind_fits-type_of_part-requires t c =
    (omega (arith, rhs_smaller c.args.bind.now), c.in_ok-read.ensures.context)

pub lets::bind_fits-returns-in_err-right-clause-says : goal.lets::bind_fits-returns-in_err-right-clause-says
lets::bind_fits-returns-in_err-right-clause-says t c =
    rw (c.in_ok-read.ensures.says, ← still _ _ _ c.in_ok-read.ensures.grows c.requires.context) (fails _ _ _ _ _ c.in_err-right.ensures.says (search rules))

pub lets::bind_fits-returns-clause-says : goal.lets::bind_fits-returns-clause-says
lets::bind_fits-returns-clause-says t c =
    let r = c.args.recursive in
    let e = nexpr_of c.args.bind.now.rhs in
    let is = shown-grows _ _ _ _ c.in_ok-right.ensures.grows c.in_ok-read.ensures.valid ∙ c.in_ok-read.ensures.view in
    let atomic : c.if-not-recursive.atom ≡ (not r && words.is_atom e) =
    elim c.if-not-recursive.branch [
      | lets::bind_fits-then-not-recursive w ↦ w.atom-is ∙ w.is_atom-atom.ensures ∙ ap (λ b. not b && words.is_atom e) (sym w.if-not-recursive.true)
      | lets::bind_fits-else-not-recursive w ↦ w.atom-is ∙ ap (λ b. not b) w.if-not-recursive.false ∙ ap (λ b. not b && words.is_atom e) (sym w.if-not-recursive.false)
    ] in
    let took = rw (is, atomic, c.is_value_kind-is_value.ensures) at c.bind_takes.ensures in
    rw (c.in_ok-read.ensures.says, ← still _ _ _ c.in_ok-read.ensures.grows c.requires.context, c.in_ok-right.ensures.says) took

pub lets::binds_fit-returns-then-recursive-clause-context : goal.lets::binds_fit-returns-then-recursive-clause-context
lets::binds_fit-returns-then-recursive-clause-context t c =
    stays_on _ _ _ _ c.each_bind_fits.ensures.grows c.requires.context

pub lets::binds_fit-returns-else-recursive-clause-context : goal.lets::binds_fit-returns-else-recursive-clause-context
lets::binds_fit-returns-else-recursive-clause-context t c =
    stays_on _ _ _ _ c.each_bind_fits-else-recursive.ensures.grows c.requires.context

pub lets::each_bind_fits-returns-in_err-bind_part_fits-clause-says : goal.lets::each_bind_fits-returns-in_err-bind_part_fits-clause-says
lets::each_bind_fits-returns-in_err-bind_part_fits-clause-says t c =
    let l = c.loop-bind in
    rw (l.invariant.so_far, drop_item _ _ _ c.loop-bind-test.true c.bind-item.is, ← still _ _ _ l.invariant.grows c.requires.context)
    (fails _ _ _ _ _ c.in_err-bind_part_fits.ensures.says (search rules))

pub lets::each_bind_fits-loop-bind-preserved : goal.lets::each_bind_fits-loop-bind-preserved
lets::each_bind_fits-loop-bind-preserved t c =
    let l = c.loop-bind in
    let e = c.in_ok-bind_part_fits.ensures in
    let judged = rw (still _ _ _ l.invariant.grows c.requires.context) at e.says in
    record {
      grows = Grows-further _ _ _ l.invariant.grows e.grows;
      context = e.context;
      so_far = rw (l.invariant.so_far, drop_item _ _ _ c.loop-bind-test.true c.bind-item.is, judged, c.in_ok-part.ensures.next);
    }

pub lets::type_behind_binds-returns-clause-context : goal.lets::type_behind_binds-returns-clause-context
lets::type_behind_binds-returns-clause-context t c =
    stays_on _ _ _ _ c.type_of_part.ensures.grows c.requires.context

pub lets::type_of_let-binds_fit-requires : goal.lets::type_of_let-binds_fit-requires
lets::type_of_let-binds_fit-requires t c =
    let ids = c.in_ok-ids.ensures in
    (omega arith, (stays _ _ _ ids.grows c.requires.context, (rw c.as_slice-group.ensures ids.valid, rw c.as_slice-group.ensures ids.all)))

pub lets::type_of_let-returns-in_err-part-clause-says : goal.lets::type_of_let-returns-in_err-part-clause-says
lets::type_of_let-returns-in_err-part-clause-says t c =
    rw (← still _ _ _ c.in_ok-ids.ensures.grows c.requires.context) (fails _ _ _ _ _ c.in_err-part.ensures.says (search rules))

pub lets::type_of_let-type_behind_binds-requires : goal.lets::type_of_let-type_behind_binds-requires
lets::type_of_let-type_behind_binds-requires t c =
    let ids = c.in_ok-ids.ensures in
    let h = c.in_ok-part.ensures.grows.nodes in
    (omega arith, (c.in_ok-part.ensures.context, (rw c.as_slice-group.ensures (AreTypesAt-grows _ _ _ _ h ids.valid), rw c.as_slice-group.ensures (shown_all-grows _ _ _ _ h ids.valid ∙ ids.all))))

pub lets::type_of_let-returns-clause-says : goal.lets::type_of_let-returns-clause-says
lets::type_of_let-returns-clause-says t c =
    let ids = c.in_ok-ids.ensures in
    rw (← still _ _ _ ids.grows c.requires.context, c.in_ok-part.ensures.says, ← still _ _ _ c.in_ok-part.ensures.grows (stays _ _ _ ids.grows c.requires.context)) c.type_behind_binds.ensures.says

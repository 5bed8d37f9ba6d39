use Rattle.std.proofs.Common.{◌≡◌, true, false, ◌∙◌, ◌-◌, None, length, arith, sym, ap, refl, subst, if◌then◌else◌}
use Rattle.std.specs.Option.{option_map}
use Rattle.std.proofs.lemmas.Option.{slice_get_read}
use Rattle.std.proofs.lemmas.Result.{IfOk-weaker}
use Rattle.fc_model.specs.NamelessView.{nalts_of, nbinders_of, nbinds_of, nexpr_of, njoins_of, nty_of}
use Rattle.fc_model.specs.Typing.{with_binders, with_binds, with_joins, with_value}
use Rattle.fc_type_scope.specs.Behind.{IsEntered}
use Rattle.fc_type_scope.specs.Scopes.{AreTypesAt, scope_in, shown_all_at}
use Rattle.fc_type_scope.proofs.Growing.{IsType-grows, shown-grows}
use Rattle.fc_type_table.specs.TypeTables.{nodes_of}
use Rattle.fc_type_table.proofs.Numbers.{Grows-further, Grows-refl}
use Rattle.fc_lint_context.specs.ContextViews.{context_in}
use Rattle.fc_lint_context.specs.JoinViews.{AreJoinsAt, join_points, shown_joins_at}
use Rattle.fc_lint_context.specs.LocalViews.{bind_types}
use Rattle.fc_lint_context.proofs.Growing.{stays}
use Rattle.fc_parts.specs.PartsAt.{at_place, at_place_of_alt, at_place_of_bind, at_place_of_join, of_alt, of_term}
use Rattle.fc_parts.proofs.PartRules.{alt_there, arg_there, bind_there, binds_counted, expr_there, join_there, joins_counted}
use Rattle.fc_rows.specs.Surroundings.{behind_joins, Unknown, apart, at_join_sides, at_right_sides, behind_value, listed_heads}
use Rattle.fc_row_types.proofs.ChangesKept.{binders_context}
use Rattle.fc_row_at_place.specs.Rows.{answer}
use Rattle.fc_row_at_place.specs.Sites.{decls_of, modules_at, row_for, surroundings_at}
use Rattle.fc_row_at_place.proofs.RowsTold.{row_told}
use Rattle.fc_row_at_place.proofs.Frames.{behind, site_grows, site_scope}
use Rattle.fc_forms.specs.Forms.{joining_of}
use Rattle.fc_jump_once.specs.Within.{jump_once_within}
use Rattle.fc_syntax.specs.View.{expr_of}
use Rattle.fc_row_at_place.proofs.Joined.{none_taken, one_jump, several}
use Rattle.fc_row_at_place.proofs.Within.{in_join_body, in_join_side, in_let_body, in_right_side, not_below}
use Rattle.fc_row_at_place.proofs.+places.Goals as goal

pub alternatives::row_behind_branch-enter-requires : goal.alternatives::row_behind_branch-enter-requires
alternatives::row_behind_branch-enter-requires t c = site_scope c.args.types.now c.read.new.types c.args.site.now c.in_ok-ty.ensures.grows c.requires.site

pub alternatives::row_behind_branch-row_past_branch-requires : goal.alternatives::row_behind_branch-row_past_branch-requires
alternatives::row_behind_branch-row_past_branch-requires t c =
    let first = c.args.types.now in
    let mid = c.read.new.types in
    let last = c.enter.new.types in
    let ks = scope_in c.args.site.now.context.now.scope in
    let id = c.in_ok-ty.ty in (
      omega arith,
      (
        site_grows first last c.args.site.now (Grows-further first mid last c.in_ok-ty.ensures.grows c.in_ok-entered.ensures.grows) c.requires.site,
        (
          c.requires.own,
          (
            IsType-grows mid last ks id c.in_ok-entered.ensures.grows c.in_ok-ty.ensures.valid,
            (
              shown-grows mid last ks id c.in_ok-entered.ensures.grows c.in_ok-ty.ensures.valid ∙ c.in_ok-ty.ensures.view,
              subst (λ bs. IsEntered (nodes_of last) ks (nbinders_of bs) c.in_ok-entered.entered) c.as_slice.ensures c.in_ok-entered.ensures.entered,
            ),
          ),
        ),
      ),
    )

pub alternatives::row_in_case-returns-in_ok-own-in-Some-clause-answer : goal.alternatives::row_in_case-returns-in_ok-own-in-Some-clause-answer
alternatives::row_in_case-returns-in_ok-own-in-Some-clause-answer t c =
    let found = c.in-Some.ensures.lookup in
    let there = slice_get_read c.args.alternatives.now (length c.args.alternatives.now) (c.args.number - 3) c.in-Some.alternative.now refl found.3.0 found.1 in
    let asked = at_place_of_alt (row_for c.args.site.now) c.args.rest.now (nexpr_of c.args.scrutinee.now) (nty_of c.args.ty.now) (listed_heads (nalts_of c.args.alternatives.now)) (surroundings_at c.args.site.now) in
    IfOk-weaker c.row_in_branch.result _ _ (λ o h.
    h
    ∙ sym (alt_there (c.args.number - 3) asked c.args.alternatives.now c.in-Some.alternative.now there)
    ∙ sym (ap (λ b. if b then None else of_alt (c.args.number - 3) asked (nalts_of c.args.alternatives.now)) (not_below c.args.number 3 (omega (arith, c.if-number-lt-FIRST_ALTERNATIVE.false))))) c.row_in_branch.ensures.answer

pub alternatives::row_past_branch-row_at-requires : goal.alternatives::row_past_branch-row_at-requires
alternatives::row_past_branch-row_at-requires t c =
    let types = c.args.types.now in
    let x = c.args.site.now in
    let ns = nodes_of types in
    let bs = nbinders_of c.args.branch.now.alternative.now.binders in
    let at = c.requires.site in
    let outer = c.behind_value-outer in
    let inner = c.behind_binders-context in
    let entered = subst (λ ks. IsEntered ns ks bs c.args.entered.now) (sym outer.ensures.scope) c.requires.entered_in in
    let valid = outer.ensures.valid ns at.over.valid c.requires.ty_in in (
      omega arith,
      behind x _ refl refl (inner.ensures.declared ∙ outer.ensures.declared) _ refl types types at (Grows-refl types) (λ k. with_binders bs (with_value (nty_of c.args.branch.now.ty.now) k))
          (inner.ensures.valid ns bs entered valid)
          (inner.ensures.view ns bs entered valid ∙ ap (with_binders bs) (outer.ensures.view ns ∙ ap (λ u. with_value u (context_in types x.context.now)) c.requires.ty))
          (c.requires.own, at.counts)
          (binders_context bs (behind_value (nty_of c.args.branch.now.ty.now) Unknown (surroundings_at x))),
    )

pub binders::row_behind_binders-row_past_binders-requires : goal.binders::row_behind_binders-row_past_binders-requires
binders::row_behind_binders-row_past_binders-requires t c =
    (omega arith, (site_grows c.args.types.now c.enter.new.types c.args.site.now c.in_ok-entered.ensures.grows c.requires, c.in_ok-entered.ensures.entered))

pub binders::row_past_binders-row_at-requires : goal.binders::row_past_binders-row_at-requires
binders::row_past_binders-row_at-requires t c =
    let types = c.args.types.now in
    let x = c.args.site.now in
    let ns = nodes_of types in
    let bs = nbinders_of c.args.binders.now in
    let at = c.requires.site in
    let inner = c.behind_binders-context in (
      omega arith,
      behind x _ refl refl inner.ensures.declared _ refl types types at (Grows-refl types) (with_binders bs)
          (inner.ensures.valid ns bs c.requires.entered_in at.over.valid)
          (inner.ensures.view ns bs c.requires.entered_in at.over.valid)
          (c.in_ok-own.ensures, at.counts)
          (binders_context bs (surroundings_at x)),
    )

pub groups::row_behind_bindings-row_at-requires : goal.groups::row_behind_bindings-row_at-requires
groups::row_behind_bindings-row_at-requires t c =
    let first = c.args.types.now in
    let last = c.types_of_binds.new.types in
    let x = c.args.site.now in
    let ks = scope_in x.context.now.scope in
    let bs = nbinds_of c.args.bindings.now in
    let grows = c.in_ok-ids.ensures.grows in
    let here = sym c.as_slice.ensures in
    let inner = c.behind_binds-context in (
      omega arith,
      behind x _ refl refl inner.ensures.declared _ refl first last c.requires grows (with_binds bs)
          (inner.ensures.valid (nodes_of last) (stays first last x.context.now grows c.requires.over).valid (subst (λ ids. AreTypesAt (nodes_of last) ks ids) here c.in_ok-ids.ensures.valid))
          (inner.ensures.view (nodes_of last) bs (subst (λ ids. shown_all_at (nodes_of last) ks ids ≡ bind_types bs) here c.in_ok-ids.ensures.all))
          c.requires.counts
          refl,
    )

pub groups::row_behind_points-join_points-requires-clause-scope : goal.groups::row_behind_points-join_points-requires-clause-scope
groups::row_behind_points-join_points-requires-clause-scope t c = site_scope c.args.types.now c.read.new.types c.args.site.now c.in_ok-answer.ensures.grows c.requires

pub groups::row_behind_points-row_at-requires : goal.groups::row_behind_points-row_at-requires
groups::row_behind_points-row_at-requires t c =
    let first = c.args.types.now in
    let mid = c.read.new.types in
    let last = c.join_points.new.types in
    let x = c.args.site.now in
    let ks = scope_in x.context.now.scope in
    let js = njoins_of c.args.points.now in
    let ty = nty_of c.args.ty.now in
    let grows = Grows-further first mid last c.in_ok-answer.ensures.grows c.in_ok-joins.ensures.grows in
    let here = sym c.as_slice.ensures in
    let inner = c.behind_joins-context in (
      omega arith,
      behind x _ refl refl inner.ensures.declared _ refl first last c.requires grows (with_joins ty js)
          (inner.ensures.valid (nodes_of last) (stays first last x.context.now grows c.requires.over).valid (subst (λ ps. AreJoinsAt (nodes_of last) ks ps) here c.in_ok-joins.ensures.valid))
          (inner.ensures.view (nodes_of last) ty js
          (subst (λ ps. shown_joins_at (nodes_of last) ks ps ≡ join_points ty js) here (c.in_ok-joins.ensures.all ∙ ap (λ u. join_points u js) c.in_ok-answer.ensures.view)))
          c.requires.counts
          refl,
    )

pub groups::row_in_join-returns-then-number-points-clause-answer : goal.groups::row_in_join-returns-then-number-points-clause-answer
groups::row_in_join-returns-then-number-points-clause-answer t c = IfOk-weaker c.row_behind_points.result _ _ (λ o h.
    h
    ∙ sym (in_join_body (row_for c.args.site.now) c.args.number c.args.rest.now (surroundings_at c.args.site.now) c.args.recursive (nty_of c.args.ty.now) (njoins_of c.args.points.now) (nexpr_of c.args.body.now)
    (omega (arith, c.if-number-lt-FIRST_JOIN.false)) (c.if-number-points.true ∙ sym (joins_counted c.args.points.now)))) c.row_behind_points.ensures.answer

pub groups::row_in_join-returns-in-Some-clause-answer : goal.groups::row_in_join-returns-in-Some-clause-answer
groups::row_in_join-returns-in-Some-clause-answer t c =
    let found = c.in-Some.ensures.lookup in
    let there = slice_get_read c.args.points.now (length c.args.points.now) (c.args.number - 1) c.in-Some.point.now refl found.3.0 found.1 in
    let sides = at_join_sides c.args.recursive (nty_of c.args.ty.now) (njoins_of c.args.points.now) (surroundings_at c.args.site.now) in
    IfOk-weaker c.row_at_join_side.result _ _ (λ o h.
    h
    ∙ sym (join_there (c.args.number - 1) (at_place_of_join (row_for c.args.site.now) c.args.rest.now sides) c.args.points.now c.in-Some.point.now there)
    ∙ sym (in_join_side (row_for c.args.site.now) c.args.number c.args.rest.now (surroundings_at c.args.site.now) c.args.recursive (nty_of c.args.ty.now) (njoins_of c.args.points.now) (nexpr_of c.args.body.now)
    (omega (arith, c.if-number-lt-FIRST_JOIN.false)) (omega (arith, found.3.0, joins_counted c.args.points.now)))) c.row_at_join_side.ensures.answer

pub groups::row_in_let-returns-then-number-bindings-clause-answer : goal.groups::row_in_let-returns-then-number-bindings-clause-answer
groups::row_in_let-returns-then-number-bindings-clause-answer t c = IfOk-weaker c.row_behind_bindings.result _ _ (λ o h.
    h
    ∙ sym (in_let_body (row_for c.args.site.now) c.args.number c.args.rest.now (surroundings_at c.args.site.now) c.args.recursive (nbinds_of c.args.bindings.now) (nexpr_of c.args.body.now)
    (c.if-number-bindings.true ∙ sym (binds_counted c.args.bindings.now)))) c.row_behind_bindings.ensures.answer

pub groups::row_in_let-returns-in-Some-clause-answer : goal.groups::row_in_let-returns-in-Some-clause-answer
groups::row_in_let-returns-in-Some-clause-answer t c =
    let found = c.in-Some.ensures.lookup in
    let there = slice_get_read c.args.bindings.now (length c.args.bindings.now) c.args.number c.in-Some.binding.now refl found.3.0 found.1 in
    let sides = at_right_sides c.args.recursive (nbinds_of c.args.bindings.now) (surroundings_at c.args.site.now) in
    IfOk-weaker c.row_at_right_side.result _ _ (λ o h.
    h
    ∙ sym (bind_there c.args.number (at_place_of_bind (row_for c.args.site.now) c.args.rest.now sides) c.args.bindings.now c.in-Some.binding.now there)
    ∙ sym (in_right_side (row_for c.args.site.now) c.args.number c.args.rest.now (surroundings_at c.args.site.now) c.args.recursive (nbinds_of c.args.bindings.now) (nexpr_of c.args.body.now)
    (omega (arith, found.3.0, binds_counted c.args.bindings.now)))) c.row_at_right_side.ensures.answer

pub groups::row_of_member-row_of_binding-requires : goal.groups::row_of_member-row_of_binding-requires
groups::row_of_member-row_of_binding-requires t c =
    let first = c.args.types.now in
    let last = c.types_of_binds.new.types in
    let x = c.args.site.now in
    let ks = scope_in x.context.now.scope in
    let bs = nbinds_of c.args.bindings.now in
    let grows = c.in_ok-ids.ensures.grows in
    let here = sym c.as_slice.ensures in
    let inner = c.behind_binds-context in (
      omega arith,
      behind x _ refl refl inner.ensures.declared _ refl first last c.requires grows (with_binds bs)
          (inner.ensures.valid (nodes_of last) (stays first last x.context.now grows c.requires.over).valid (subst (λ ids. AreTypesAt (nodes_of last) ks ids) here c.in_ok-ids.ensures.valid))
          (inner.ensures.view (nodes_of last) bs (subst (λ ids. shown_all_at (nodes_of last) ks ids ≡ bind_types bs) here c.in_ok-ids.ensures.all))
          c.requires.counts
          refl,
    )

pub groups::row_of_recursive_point-join_points-requires-clause-scope : goal.groups::row_of_recursive_point-join_points-requires-clause-scope
groups::row_of_recursive_point-join_points-requires-clause-scope t c = site_scope c.args.types.now c.read.new.types c.args.site.now c.in_ok-answer.ensures.grows c.requires

pub groups::row_of_recursive_point-row_of_point-requires : goal.groups::row_of_recursive_point-row_of_point-requires
groups::row_of_recursive_point-row_of_point-requires t c =
    let first = c.args.types.now in
    let mid = c.read.new.types in
    let last = c.join_points.new.types in
    let x = c.args.site.now in
    let ks = scope_in x.context.now.scope in
    let js = njoins_of c.args.points.now in
    let ty = nty_of c.args.ty.now in
    let grows = Grows-further first mid last c.in_ok-answer.ensures.grows c.in_ok-joins.ensures.grows in
    let here = sym c.as_slice.ensures in
    let inner = c.behind_joins-context in (
      omega arith,
      behind x _ refl refl inner.ensures.declared _ refl first last c.requires grows (with_joins ty js)
          (inner.ensures.valid (nodes_of last) (stays first last x.context.now grows c.requires.over).valid (subst (λ ps. AreJoinsAt (nodes_of last) ks ps) here c.in_ok-joins.ensures.valid))
          (inner.ensures.view (nodes_of last) ty js
          (subst (λ ps. shown_joins_at (nodes_of last) ks ps ≡ join_points ty js) here (c.in_ok-joins.ensures.all ∙ ap (λ u. join_points u js) c.in_ok-answer.ensures.view)))
          c.requires.counts
          refl,
    )

-- the types that are read are those of modules with the same headers
pub joins::answer_here-returns-in-Row : goal.joins::answer_here-returns-in-Row
joins::answer_here-returns-in-Row t c =
    let x = c.args.site.now in
    let s = surroundings_at x in
    let e = nexpr_of c.args.e.now in
    let same =
    row_told (modules_at x) (decls_of x.asked.now) c.requires.headers c.in-Row.row c.in-Row.alternative s e ∙ ap (λ q. answer (decls_of x.asked.now) q s e) (sym c.in-Row.is) in
    record { answer = IfOk-weaker c.row_alone.result _ _ (λ o h. h ∙ same) c.row_alone.ensures.answer; grows = c.row_alone.ensures.grows }

pub joins::join_once-returns-then-joining-ne1-clause-answer : goal.joins::join_once-returns-then-joining-ne1-clause-answer
joins::join_once-returns-then-joining-ne1-clause-answer t c =
    let joining = c.in-Some.joining in
    several (surroundings_at c.args.site.now) (nexpr_of c.args.e.now) (joining_of joining) c.in-Some.ensures (λ one. c.if-joining-ne1.true (sym (joins_counted joining.points.now) ∙ one))

pub joins::join_once-returns-clause-answer : goal.joins::join_once-returns-clause-answer
joins::join_once-returns-clause-answer t c =
    let joining = c.in-Some.joining in
    let once = sym c.in_ok-has_one_jump.ensures ∙ c.if-not-branch.false in
    IfOk-weaker c.joined_once.result _ _ (λ o h.
    h
    ∙ one_jump (surroundings_at c.args.site.now) (nexpr_of c.args.e.now) (joining_of joining) c.in-Some.ensures c.if-joining.false (joins_counted joining.points.now ∙ c.if-joining-ne1.false) once)
    c.joined_once.ensures.answer

pub joins::joined_once-returns-clause-answer : goal.joins::joined_once-returns-clause-answer
joins::joined_once-returns-clause-answer t c =
    let joining = c.args.joining.now in
    let ty = nty_of joining.answer.now in
    let points = njoins_of joining.points.now in
    let s = surroundings_at c.args.site.now in
    let place = c.in-Some.place.items in
    none_taken ty points (expr_of joining.body.now) s place (sym c.in_ok-place.ensures ∙ ap (option_map (λ p. p.items)) c.in-Some.is)
    (subst (λ p. at_place jump_once_within p (behind_joins false ty points s) (nexpr_of joining.body.now) ≡ None) c.as_slice.ensures.value (sym c.in_ok-found.ensures.answer ∙ ap (option_map nexpr_of) c.in-None.is))

pub places::row_among_arguments-returns-in-Some-clause-answer : goal.places::row_among_arguments-returns-in-Some-clause-answer
places::row_among_arguments-returns-in-Some-clause-answer t c =
    let found = c.in-Some.ensures.lookup in
    let there = slice_get_read c.args.arguments.now (length c.args.arguments.now) c.args.number c.in-Some.argument.now refl found.3.0 found.1 in
    IfOk-weaker c.row_in_argument.result _ _ (λ o h.
    h ∙ sym (arg_there c.args.number (of_term (at_place (row_for c.args.site.now) c.args.rest.now (apart (surroundings_at c.args.site.now)))) c.args.arguments.now c.in-Some.argument.now there)) c.row_in_argument.ensures.answer

pub places::row_among_operands-returns-in-Some-clause-answer : goal.places::row_among_operands-returns-in-Some-clause-answer
places::row_among_operands-returns-in-Some-clause-answer t c =
    let found = c.in-Some.ensures.lookup in
    let there = slice_get_read c.args.operands.now (length c.args.operands.now) c.args.number c.in-Some.operand.now refl found.3.0 found.1 in
    IfOk-weaker c.row_apart.result _ _ (λ o h.
    h ∙ sym (expr_there c.args.number (at_place (row_for c.args.site.now) c.args.rest.now (apart (surroundings_at c.args.site.now))) c.args.operands.now c.in-Some.operand.now there)) c.row_apart.ensures.answer

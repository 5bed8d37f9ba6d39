use Rattle.std.proofs.Common.{rules, arith, ◌≡◌, ◌+◌, ◌-◌, ◌∙◌, subst, sym}
use Rattle.fc_syntax.specs.View.{expr_of}
use Rattle.fc_model.specs.NamelessView.{nexpr_of, nmodules_of}
use Rattle.fc_model.specs.Worded.{bare_expr}
use Rattle.fc_result_limits.proofs.Bare.{expr_same}
use Rattle.fc_limits_at_places.specs.Fitting.{nexpr_size}
use Rattle.fc_simplify.specs.Phase.{Continues}
use Rattle.fc_simplify.specs.Taking.{IsNext}
use Rattle.fc_simplify.proofs.First.{first_there, not_nowhere_at, taken_at}
use Rattle.fc_simplify.proofs.taking.take_next.Goals as goal

pub next_step-requires-clause-number : goal.next_step-requires-clause-number
next_step-requires-clause-number c = first_there c.args.number c.args.modules.now c.requires.first

pub put_in_first-requires : goal.put_in_first-requires
put_in_first-requires c = first_there c.args.number c.args.modules.now c.requires.first

-- a place at which nothing stands is found by no search
pub returns-in_default-put_in_first-clause-continues : goal.returns-in_default-put_in_first-clause-continues
returns-in_default-put_in_first-clause-continues c =
    let next : IsNext c.args.spare c.args.number c.in-Some.found c.in-Some.step (nmodules_of c.args.modules.now) = search rules in
    let place : c.as_slice.result.now ≡ c.in-Some.found.place.items = search rules in
    absurd (not_nowhere_at c.args.spare c.args.number c.in-Some.found c.in-Some.step (expr_of c.in_ok-run.run'.new) c.as_slice.result.now c.args.modules.now place next c.in_default-put_in_first.ensures.nowhere)

pub returns-in_default-put_in_first-clause-keeps : goal.returns-in_default-put_in_first-clause-keeps
returns-in_default-put_in_first-clause-keeps c =
    let next : IsNext c.args.spare c.args.number c.in-Some.found c.in-Some.step (nmodules_of c.args.modules.now) = search rules in
    let place : c.as_slice.result.now ≡ c.in-Some.found.place.items = search rules in
    absurd (not_nowhere_at c.args.spare c.args.number c.in-Some.found c.in-Some.step (expr_of c.in_ok-run.run'.new) c.as_slice.result.now c.args.modules.now place next c.in_default-put_in_first.ensures.nowhere)

pub returns-in_default-put_in_first-clause-unchanged : goal.returns-in_default-put_in_first-clause-unchanged
returns-in_default-put_in_first-clause-unchanged c = λ none.
    let next : IsNext c.args.spare c.args.number c.in-Some.found c.in-Some.step (nmodules_of c.args.modules.now) = search rules in
    let place : c.as_slice.result.now ≡ c.in-Some.found.place.items = search rules in
    absurd (not_nowhere_at c.args.spare c.args.number c.in-Some.found c.in-Some.step (expr_of c.in_ok-run.run'.new) c.as_slice.result.now c.args.modules.now place next c.in_default-put_in_first.ensures.nowhere)

pub returns-in_default-put_in_first-clause-settled : goal.returns-in_default-put_in_first-clause-settled
returns-in_default-put_in_first-clause-settled c = λ whole none.
    let next : IsNext c.args.spare c.args.number c.in-Some.found c.in-Some.step (nmodules_of c.args.modules.now) = search rules in
    let place : c.as_slice.result.now ≡ c.in-Some.found.place.items = search rules in
    absurd (not_nowhere_at c.args.spare c.args.number c.in-Some.found c.in-Some.step (expr_of c.in_ok-run.run'.new) c.as_slice.result.now c.args.modules.now place next c.in_default-put_in_first.ensures.nowhere)

-- what was put is right
pub returns-in_err-was-clause-continues : goal.returns-in_err-was-clause-continues
returns-in_err-was-clause-continues c =
    let next : IsNext c.args.spare c.args.number c.in-Some.found c.in-Some.step (nmodules_of c.args.modules.now) = search rules in
    let place : c.as_slice.result.now ≡ c.in-Some.found.place.items = search rules in
    let step = taken_at c.args.spare c.args.number c.in-Some.found c.in-Some.step (expr_of c.in_ok-run.run'.new) (expr_of c.in-Ok.old) c.in_ok-run.run'.count c.as_slice.result.now c.args.modules.now c.put_in_first.new.modules place c.requires.first c.requires.spare next c.in_ok-run.ensures c.in-Ok.ensures.put in
    subst (Continues (nmodules_of c.args.modules.now) (nmodules_of c.put_in_first.new.modules) c.args.log.now) (sym c.in_ok-put_lines.ensures.ok) (step.continues c.args.log.now)

pub returns-in_err-was-clause-keeps : goal.returns-in_err-was-clause-keeps
returns-in_err-was-clause-keeps c =
    let next : IsNext c.args.spare c.args.number c.in-Some.found c.in-Some.step (nmodules_of c.args.modules.now) = search rules in
    let place : c.as_slice.result.now ≡ c.in-Some.found.place.items = search rules in
    let step = taken_at c.args.spare c.args.number c.in-Some.found c.in-Some.step (expr_of c.in_ok-run.run'.new) (expr_of c.in-Ok.old) c.in_ok-run.run'.count c.as_slice.result.now c.args.modules.now c.put_in_first.new.modules place c.requires.first c.requires.spare next c.in_ok-run.ensures c.in-Ok.ensures.put in
    step.keeps

pub returns-in_err-spare-clause-continues : goal.returns-in_err-spare-clause-continues
returns-in_err-spare-clause-continues c =
    let next : IsNext c.args.spare c.args.number c.in-Some.found c.in-Some.step (nmodules_of c.args.modules.now) = search rules in
    let place : c.as_slice.result.now ≡ c.in-Some.found.place.items = search rules in
    let step = taken_at c.args.spare c.args.number c.in-Some.found c.in-Some.step (expr_of c.in_ok-run.run'.new) (expr_of c.in-Ok.old) c.in_ok-run.run'.count c.as_slice.result.now c.args.modules.now c.put_in_first.new.modules place c.requires.first c.requires.spare next c.in_ok-run.ensures c.in-Ok.ensures.put in
    subst (Continues (nmodules_of c.args.modules.now) (nmodules_of c.put_in_first.new.modules) c.args.log.now) (sym c.in_ok-put_lines.ensures.ok) (step.continues c.args.log.now)

pub returns-in_err-spare-clause-keeps : goal.returns-in_err-spare-clause-keeps
returns-in_err-spare-clause-keeps c =
    let next : IsNext c.args.spare c.args.number c.in-Some.found c.in-Some.step (nmodules_of c.args.modules.now) = search rules in
    let place : c.as_slice.result.now ≡ c.in-Some.found.place.items = search rules in
    let step = taken_at c.args.spare c.args.number c.in-Some.found c.in-Some.step (expr_of c.in_ok-run.run'.new) (expr_of c.in-Ok.old) c.in_ok-run.run'.count c.as_slice.result.now c.args.modules.now c.put_in_first.new.modules place c.requires.first c.requires.spare next c.in_ok-run.ensures c.in-Ok.ensures.put in
    step.keeps

pub returns-clause-continues : goal.returns-clause-continues
returns-clause-continues c =
    let next : IsNext c.args.spare c.args.number c.in-Some.found c.in-Some.step (nmodules_of c.args.modules.now) = search rules in
    let place : c.as_slice.result.now ≡ c.in-Some.found.place.items = search rules in
    let step = taken_at c.args.spare c.args.number c.in-Some.found c.in-Some.step (expr_of c.in_ok-run.run'.new) (expr_of c.in-Ok.old) c.in_ok-run.run'.count c.as_slice.result.now c.args.modules.now c.put_in_first.new.modules place c.requires.first c.requires.spare next c.in_ok-run.ensures c.in-Ok.ensures.put in
    subst (Continues (nmodules_of c.args.modules.now) (nmodules_of c.put_in_first.new.modules) c.args.log.now) (sym c.in_ok-put_lines.ensures.ok) (step.continues c.args.log.now)

pub returns-clause-keeps : goal.returns-clause-keeps
returns-clause-keeps c =
    let next : IsNext c.args.spare c.args.number c.in-Some.found c.in-Some.step (nmodules_of c.args.modules.now) = search rules in
    let place : c.as_slice.result.now ≡ c.in-Some.found.place.items = search rules in
    let step = taken_at c.args.spare c.args.number c.in-Some.found c.in-Some.step (expr_of c.in_ok-run.run'.new) (expr_of c.in-Ok.old) c.in_ok-run.run'.count c.as_slice.result.now c.args.modules.now c.put_in_first.new.modules place c.requires.first c.requires.spare next c.in_ok-run.ensures c.in-Ok.ensures.put in
    step.keeps

-- sizes are those that were measured
pub overflow_sub-spare : goal.overflow_sub-spare
overflow_sub-spare c =
    let next : IsNext c.args.spare c.args.number c.in-Some.found c.in-Some.step (nmodules_of c.args.modules.now) = search rules in
    let place : c.as_slice.result.now ≡ c.in-Some.found.place.items = search rules in
    let step = taken_at c.args.spare c.args.number c.in-Some.found c.in-Some.step (expr_of c.in_ok-run.run'.new) (expr_of c.in-Ok.old) c.in_ok-run.run'.count c.as_slice.result.now c.args.modules.now c.put_in_first.new.modules place c.requires.first c.requires.spare next c.in_ok-run.ensures c.in-Ok.ensures.put in
    let was : c.in_ok-was.was'.size ≡ nexpr_size (bare_expr (expr_of c.in-Ok.old)) = c.in_ok-was.ensures.size ∙ (expr_same (expr_of c.in-Ok.old)).0 in
    let made : c.in_ok-made.made.size ≡ nexpr_size (nexpr_of c.in_ok-run.run'.new) = c.in_ok-made.ensures.size ∙ (expr_same (expr_of c.in_ok-run.run'.new)).0 in
    let sum : c.in_ok-spare.field-0 ≡ c.args.spare + c.in_ok-was.was'.size = search rules in
    omega (arith, step.left, was, made, sum)

pub returns-clause-spare : goal.returns-clause-spare
returns-clause-spare c =
    let next : IsNext c.args.spare c.args.number c.in-Some.found c.in-Some.step (nmodules_of c.args.modules.now) = search rules in
    let place : c.as_slice.result.now ≡ c.in-Some.found.place.items = search rules in
    let step = taken_at c.args.spare c.args.number c.in-Some.found c.in-Some.step (expr_of c.in_ok-run.run'.new) (expr_of c.in-Ok.old) c.in_ok-run.run'.count c.as_slice.result.now c.args.modules.now c.put_in_first.new.modules place c.requires.first c.requires.spare next c.in_ok-run.ensures c.in-Ok.ensures.put in
    let was : c.in_ok-was.was'.size ≡ nexpr_size (bare_expr (expr_of c.in-Ok.old)) = c.in_ok-was.ensures.size ∙ (expr_same (expr_of c.in-Ok.old)).0 in
    let made : c.in_ok-made.made.size ≡ nexpr_size (nexpr_of c.in_ok-run.run'.new) = c.in_ok-made.ensures.size ∙ (expr_same (expr_of c.in_ok-run.run'.new)).0 in
    let sum : c.in_ok-spare.field-0 ≡ c.args.spare + c.in_ok-was.was'.size = search rules in
    step.spare_then (c.in_ok-spare.field-0 - c.in_ok-made.made.size) (omega (arith, step.left, was, made, sum))

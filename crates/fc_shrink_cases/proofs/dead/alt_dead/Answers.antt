use Rattle.std.proofs.Common.{Some, refl, sym, ap, ◌∙◌, true, false, length}
use Rattle.std.proofs.lemmas.Option.{slice_get_past, slice_get_read}
use Rattle.fc_model.specs.Worded.{bare_expr, bare_ty}
use Rattle.fc_forms.proofs.Parts.{case_form, same_case}
use Rattle.fc_shrink_cases.proofs.Rows.{alt_dead_is, alt_dead_none}
use Rattle.fc_shrink_cases.proofs.dead.alt_dead.Goals as goal

pub returns-in_default-get : goal.returns-in_default-get
returns-in_default-get c s known_is =
    let alts = c.in-Some.case.alternatives.now in
    let none = slice_get_past alts c.args.number c.in_default-get.ensures.lookup.3 in
    sym (alt_dead_none _ _ _ _ alts c.args.number s _ (case_form _ _ c.in-Some.ensures) known_is none)

pub returns-then-not-is_excluded : goal.returns-then-not-is_excluded
returns-then-not-is_excluded c s known_is =
    let alts = c.in-Some.case.alternatives.now in
    let found = c.in-Some-get.ensures.lookup in
    let one = slice_get_read alts (length alts) c.args.number c.in-Some-get.alternative.now refl found.3.0 found.1 in
    let listed = sym c.is_excluded.ensures ∙ c.if-not-is_excluded.true in
    sym (alt_dead_is _ _ _ _ alts c.args.number s _ c.in-Some-get.alternative.now false (case_form _ _ c.in-Some.ensures) known_is one listed)

pub returns : goal.returns
returns c s known_is =
    let alts = c.in-Some.case.alternatives.now in
    let found = c.in-Some-get.ensures.lookup in
    let one = slice_get_read alts (length alts) c.args.number c.in-Some-get.alternative.now refl found.3.0 found.1 in
    let listed = sym c.is_excluded.ensures ∙ c.if-not-is_excluded.false in
    let row = alt_dead_is _ _ _ _ alts c.args.number s _ c.in-Some-get.alternative.now true (case_form _ _ c.in-Some.ensures) known_is one listed in
    ap Some (ap bare_expr c.in_ok-case_of.ensures ∙ same_case (ap bare_expr c.in_ok-scrutinee.ensures) (ap bare_ty c.in_ok-ty.ensures) (ap bare_ty c.in_ok-answer.ensures) c.in_ok-alternatives.ensures)
    ∙ sym row

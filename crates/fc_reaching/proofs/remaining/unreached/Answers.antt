use Rattle.std.proofs.Common.{◌∙◌, ap, map, sym}
use Rattle.std.proofs.lemmas.Result.{IfOk-weaker}
use Rattle.fc_model.specs.NamelessView.{ndecls_of, nmodule_of}
use Rattle.fc_reaching.specs.DefinitionsView.{meant_by, number_by}
use Rattle.fc_reaching.specs.Numbering.{has_mark}
use Rattle.fc_reaching.specs.Remaining.{defines_other}
use Rattle.fc_reaching.proofs.FromRoots.{left_unreached}
use Rattle.fc_reaching.proofs.remaining.unreached.Goals as goal

pub returns : goal.returns
returns c =
    let m = nmodule_of c.args.m.now in
    let number = number_by c.in_ok-definitions.definitions in
    IfOk-weaker c.left_over.result _ _
    (λ left is.
    left_unreached m (meant_by c.in_ok-definitions.definitions) number (ndecls_of c.as_slice.result.now) c.as_slice-2.result.now c.as_slice-3.result.now
    (map (λ w. w.now) c.args.roots.now) c.in_ok-marks.marks.items left.items c.in_ok-definitions.ensures.meant c.in_ok-definitions.ensures.numbers (ap ndecls_of c.as_slice.ensures)
    (c.as_slice-2.ensures ∙ c.in_ok-graph.ensures) (c.as_slice-3.ensures ∙ c.in_ok-numbers.ensures) c.in_ok-marks.ensures
    (is ∙ ap (λ marks. map (defines_other (has_mark number marks)) (ndecls_of c.as_slice-5.result.now)) c.as_slice-4.ensures.value
    ∙ ap (λ ds. map (defines_other (has_mark number c.in_ok-marks.marks.items)) (ndecls_of ds)) (c.as_slice-5.ensures ∙ sym c.as_slice.ensures)))
    c.left_over.ensures

use Rattle.std.proofs.Common.{◌∙◌, ◌+◌, sym}
use Rattle.std.proofs.lemmas.Result.{IfOk-weaker}
use Rattle.fc_model.specs.NamelessView.{nty_of}
use Rattle.fc_model.proofs.Substitutions.{renamed_is_substituted}
use Rattle.fc_case_known.proofs.found.raised.Goals as goal

pub returns : goal.returns
returns c = IfOk-weaker c.substitute_in_type.result _ _ (λ _ h. h ∙ sym (renamed_is_substituted (λ i. i + c.args.by) (nty_of c.args.t.now))) c.substitute_in_type.ensures

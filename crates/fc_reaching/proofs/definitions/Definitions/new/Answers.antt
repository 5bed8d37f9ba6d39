use Rattle.std.proofs.Common.{ap, ◌∙◌}
use Rattle.std.proofs.Math.Path.{fun_ext}
use Rattle.fc_model.specs.NamelessView.{ndecls_of}
use Rattle.fc_reaching.specs.DefinitionsView.{meant_by, number_by}
use Rattle.fc_reaching.specs.Numbering.{number_from, number_meant}
use Rattle.fc_reaching.proofs.definitions.Definitions.new.Goals as goal

pub returns-clause-numbers : goal.returns-clause-numbers
unfolding number_by
returns-clause-numbers c = fun_ext (λ w. c.in_ok-numbers.ensures w ∙ ap (λ ds. number_from 0 (ndecls_of ds) w) c.as_slice.ensures)

pub returns-clause-meant : goal.returns-clause-meant
unfolding meant_by number_by
returns-clause-meant c = ap (number_meant c.args.m.now.name) (fun_ext (λ w. c.in_ok-numbers.ensures w ∙ ap (λ ds. number_from 0 (ndecls_of ds) w) c.as_slice.ensures))

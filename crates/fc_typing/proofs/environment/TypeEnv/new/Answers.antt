use Rattle.std.proofs.Common.{ap, ◌∙◌, refl}
use Rattle.std.proofs.lemmas.Option.{slice_get_read}
use Rattle.fc_model.specs.NamelessView.{nmodule_of, nmodules_of}
use Rattle.fc_typing.proofs.Imported.{view_there}
use Rattle.fc_typing.specs.Environments.{top_among_all}
use Rattle.fc_typing.proofs.environment.TypeEnv.new.Goals as goal

pub returns-clause-top : goal.returns-clause-top
returns-clause-top c m h =
    c.in_ok-own.ensures ∙ ap (top_among_all (nmodules_of c.args.modules.now)) (view_there nmodule_of c.args.modules.now c.args.at c.index-modules-at.result m (slice_get_read c.args.modules.now _ c.args.at c.index-modules-at.result refl c.requires c.index-modules-at.is) h)

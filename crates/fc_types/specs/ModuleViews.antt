-- What the declarations of modules mean.
use Rattle.fc_model.specs.Kinding.{Modules, decls_at}
use Rattle.fc_model.specs.NamelessView.{nmodules_of}
use Rattle.fc_types.specs.declared.declarations.Declarations.{Declarations}

-- what the modules declare
unfoldable pub modules_of : Declarations → Modules
modules_of d = decls_at (nmodules_of d.modules.now)

-- What stands in an environment.
use Rattle.std.specs.Prelude.{List, [], ◌∷◌, map, if◌then◌else◌}
use Rattle.std.specs.Str.{bytes_eq}
use Rattle.fc_syntax.specs.Tree.{Word, Binder}
use Rattle.fc_syntax.specs.View.{binders_of}
use Rattle.fc_model.specs.DeclaredWords.{top_by}
use Rattle.fc_model.specs.Kinding.{Modules}
use Rattle.fc_model.specs.Nameless.{NModule, NModuleOf}
use Rattle.fc_model.specs.Resolution.{Top, no_word, ntop_of, plus_all}
use Rattle.fc_types.specs.ModuleViews.{modules_of}
use Rattle.fc_typing.specs.declared.environment.TypeEnv.{TypeEnv}

-- what is declared
abbrev pub modules_known : TypeEnv → Modules
modules_known e = modules_of e.declared

-- what words mean, local binders aside
abbrev pub top_known : TypeEnv → Top
top_known e = top_by e.own

-- the binders in scope, the outermost first
abbrev pub binders_known : TypeEnv → List Binder
binders_known e = binders_of e.binders.items

abbrev pub module_word : NModule → Word
module_word (NModuleOf m imports exports hidden ds) = m

-- the words that are not this one
abbrev pub words_but : Word → List Word → List Word
words_but own [] = []
words_but own (w ∷ ws) = if bytes_eq w own then words_but own ws else w ∷ words_but own ws

-- what words mean in a module of a set where every other module of the set is imported, and has what is asked of it
abbrev pub top_among_all : List NModule → NModule → Top
top_among_all ms m = record (ntop_of m) { imports = plus_all (words_but (module_word m) (map module_word ms)) no_word }

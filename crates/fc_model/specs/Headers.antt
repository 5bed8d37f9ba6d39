-- The header of what is written.
use Rattle.std.specs.Prelude.{not, ◌&&◌, List, [], ◌∷◌, ◌++◌, map, if◌then◌else◌}
use Rattle.fc_syntax.specs.Tree.{Word, Decl, Module, ModuleOf}
use Rattle.fc_model.specs.Declaring.{declared_words}
use Rattle.fc_model.specs.Mentioning.{mentioned_in}
use Rattle.fc_model.specs.Nameless.{NDecl, NModule, NModuleOf}
use Rattle.fc_model.specs.Resolution.{WordSet, no_word, plus, plus_all}

abbrev pub name_of : Module → Word
name_of (ModuleOf m imports exports hidden ds) = m

abbrev pub imports_of : Module → List Word
imports_of (ModuleOf m imports exports hidden ds) = imports

abbrev pub exports_of : Module → List Word
exports_of (ModuleOf m imports exports hidden ds) = exports

abbrev pub decls_in : Module → List Decl
decls_in (ModuleOf m imports exports hidden ds) = ds

abbrev pub ndecls_in : NModule → List NDecl
ndecls_in (NModuleOf m imports exports hidden ds) = ds

-- the words that are not in the set, each once, in their order
abbrev pub others : WordSet → List Word → List Word
others seen [] = []
others seen (w ∷ ws) = if seen w then others seen ws else w ∷ others (plus w seen) ws

-- the hidden names that are written: the read ones, and then every other declared word that is not exported, in declared order
abbrev pub hidden_of : Module → List Word
hidden_of (ModuleOf m imports exports hidden ds) = hidden ++ others (plus_all hidden (plus_all exports no_word)) (declared_words ds)

-- the module under the written header, alone
abbrev pub written_of : Module → Module
written_of (ModuleOf m imports exports hidden ds) = ModuleOf m imports exports (hidden_of (ModuleOf m imports exports hidden ds)) ds

-- the words of the first set that are not in the second, in their order
abbrev pub words_but : WordSet → WordSet → List Word → List Word
words_but chosen but [] = []
words_but chosen but (w ∷ ws) = if chosen w && not (but w) then w ∷ words_but chosen but ws else words_but chosen but ws

-- the imports that are written, among modules of these names in the order in which they are built: the read ones, and then every other that
-- the module mentions
abbrev pub imports_among : List Word → Module → List Word
imports_among order (ModuleOf m imports exports hidden ds) = imports ++ words_but (plus_all (mentioned_in ds) no_word) (plus_all imports no_word) order

-- the module under the written header, among modules of these names
abbrev pub written_among : List Word → Module → Module
written_among order (ModuleOf m imports exports hidden ds) =
    ModuleOf m (imports_among order (ModuleOf m imports exports hidden ds)) exports (hidden_of (ModuleOf m imports exports hidden ds)) ds

-- the modules of a set as they are written, in the order in which they are built
abbrev pub set_written : List Module → List Module
set_written ms = map (written_among (map name_of ms)) ms

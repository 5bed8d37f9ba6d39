-- A nameless tree is formed as its tree with words is, where the words of binders may be any.
use Rattle.std.specs.Prelude.{◌≡◌, true}
use Rattle.fc_model.specs.Formed.{IsNamelessFormed, module_formed}
use Rattle.fc_model.specs.Worded.{WModule, bare_module}
use Rattle.fc_formed.specs.FormedTrees.{IsFormedModule, bare_words}

abbrev pub FormedWithWords : Type 0
FormedWithWords = (n : WModule) → (module_formed bare_words n ≡ true → IsFormedModule (bare_module n)) × (IsFormedModule (bare_module n) → module_formed bare_words n ≡ true)

-- a nameless module whose binders have words of their form is formed
abbrev pub FormedWithoutWords : Type 0
FormedWithoutWords = (n : WModule) → IsNamelessFormed n → IsFormedModule (bare_module n)

-- What a named type means by itself: where each name that it has is one of a declaration that it may name.
use Rattle.std.specs.Prelude.{◌≡◌, ℕ, true, List, Some, Result}
use Rattle.std.specs.List.{slice_get}
use Rattle.fc_syntax.specs.declared.ty.Name.{Name}
use Rattle.fc_syntax.specs.Tree.{Word, Ty}
use Rattle.fc_model.specs.Faulting.{F}
use Rattle.fc_model.specs.Nameless.{NTy}
use Rattle.fc_model.specs.Resolution.{Top, WordSet, declared_name, index_of, offers_all, resolved_ty}

-- every word
abbrev pub every_word : WordSet
every_word w = true

-- where every word is declared and every module is imported and has what is asked of it
abbrev pub all_named : Word → Top
all_named own = record { own = own; imports = every_word; offers = offers_all; types = every_word; terms = every_word; coercions = every_word }

-- what a type means where these are the words of the type variables in scope, the innermost first
abbrev pub meant : Word → List Word → Ty → Result NTy F
meant own ws t = resolved_ty (all_named own) ws t

-- what a name of a type means
abbrev pub name_meant : Word → Name → Result Name F
name_meant own n = declared_name (all_named own) every_word offers_all.types n.module n.text

-- no word hides another: each is found where it stands
pub record AreSeen (words : List Word) : Type 0 where
  pub found : (i : ℕ) (w : Word) → slice_get words i ≡ Some w → index_of words w ≡ Some i

-- Definitions that nothing needs go from a module.
use Rattle.std.specs.Prelude.{◌≡◌, ◌↔◌, Bool, true, false, ◌||◌, if◌then◌else◌, Some}
use Rattle.std.specs.List.{list_all}
use Rattle.fc_syntax.specs.Tree.{Word}
use Rattle.fc_syntax.specs.declared.ty.Name.{Name}
use Rattle.fc_model.specs.Kinding.{same_word}
use Rattle.fc_model.specs.Nameless.{NModule, NModuleOf}
use Rattle.fc_model.specs.Planning.{is_among}
use Rattle.fc_reaching.specs.Reaching.{ReachesDefinition, decls_in, defined_words}
use Rattle.fc_rows.specs.Rewriting.{without_definitions}

-- a word that others may use: an exported or a hidden one
abbrev pub is_offered : NModule → Word → Bool
is_offered (NModuleOf m imports exports hidden ds) w = is_among exports w || is_among hidden w

-- a definition is needed where others may use it, or one that they may use reaches it
pub data IsNeeded (n : NModule) : Word → Type 0 where
  needed_by_others : (w : Word) → is_offered n w ≡ true → IsNeeded n w
  needed_by_one : (v w : Word) → is_offered n v ≡ true → ReachesDefinition n v w → IsNeeded n w

abbrev pub with_needed : (Word → Bool) → NModule → NModule
with_needed keep (NModuleOf m imports exports hidden ds) = NModuleOf m imports exports hidden (without_definitions keep ds)

-- a name of the own module is of a definition that stays
abbrev pub is_kept : (Word → Bool) → Word → Name → Bool
is_kept keep m n = if same_word n.module (Some m) then keep n.text else true

-- all definitions go that are not needed, and there is one at least
pub record DropsDead (n k : NModule) : Type 0 where
  pub keep : Word → Bool
  pub needed : (w : Word) → (keep w ≡ true) ↔ IsNeeded n w
  pub some : list_all keep (defined_words (decls_in n)) ≡ false
  pub left : k ≡ with_needed keep n

-- Rows keep modules formed, and so do logs, what is told of a module, and its written header.
use Rattle.std.specs.Prelude.{◌≡◌, ℕ, Bool, true, All, List, ◌∷◌, Some}
use Rattle.std.specs.List.{list_all}
use Rattle.fc_syntax.specs.Tokens.{is_module_name}
use Rattle.fc_syntax.specs.Tree.{Word}
use Rattle.fc_log.specs.declared.log.Entry.{Entry}
use Rattle.fc_log.specs.declared.log.Row.{Row}
use Rattle.fc_model.specs.Nameless.{NModule}
use Rattle.fc_headers.specs.NamelessHeaders.{form_written_among}
use Rattle.fc_rows.specs.Replaying.{Replays}
use Rattle.fc_rows.specs.Rewriting.{rewritten}
use Rattle.fc_rows.specs.Telling.{told_module}
use Rattle.fc_formed.specs.FormedTrees.{IsFormedModule}

-- what a row makes of a formed module, at any place, is formed, if its imports are
abbrev pub RowsKeepFormed : Type 0
RowsKeepFormed = (xs : List NModule) (r : Row) (w : Word) (p : List ℕ) (n k : NModule) → All IsFormedModule (n ∷ xs) → rewritten xs r w p n ≡ Some k → IsFormedModule k

-- so is what a log makes of it
abbrev pub ReplaysKeepFormed : Type 0
ReplaysKeepFormed = (xs : List NModule) (es : List Entry) (n k : NModule) → All IsFormedModule (n ∷ xs) → Replays xs es n k → IsFormedModule k

-- and what is told of it
abbrev pub ToldIsFormed : Type 0
ToldIsFormed = (told : List Bool) (n : NModule) → IsFormedModule n → IsFormedModule (told_module told n)

-- and the module under its written header
abbrev pub HeadedIsFormed : Type 0
HeadedIsFormed = (order : List Word) (n : NModule) → list_all is_module_name order ≡ true → IsFormedModule n → IsFormedModule (form_written_among order n)

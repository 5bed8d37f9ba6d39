-- What tokens begin with.
use Rattle.std.specs.Prelude.{◌≡◌, ◌⊎◌, List, Some}
use Rattle.fc_syntax.specs.declared.keyword.Keyword.TheVariants as word
use Rattle.fc_model.specs.Words.{Tok, Key}
use Rattle.fc_read_parts.specs.Reading.{first_tok}

-- the word of a definition comes first
abbrev pub BeginsDefinition : List Tok → Type 0
BeginsDefinition ts = (first_tok ts ≡ Some (Key word.Def)) ⊎ (first_tok ts ≡ Some (Key word.Wrap))

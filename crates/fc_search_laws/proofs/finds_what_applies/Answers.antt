use Rattle.fc_search_laws.proofs.Searched.{always_answers, nothing_else, what_is_found}
use Rattle.fc_search_laws.proofs.finds_what_applies.Goals as goal

pub returns : goal.returns
returns c = record { applies = what_is_found; nothing_else = nothing_else; answers = always_answers }

use Rattle.std.proofs.Common.{rules, tests}
use Rattle.std.proofs.lemmas.Iterator.Search.{all_from_yields_List}
use Rattle.std.proofs.lemmas.Iterator.Splits.{YieldsList-from_slice_split}
use Rattle.fc_syntax.specs.Tokens.{is_dot, is_module_part}
use Rattle.fc_lex.proofs.word.is_module_name.Goals as goal

pub returns : goal.returns
returns c = all_from_yields_List is_module_part _ _ _ c.all.ensures.ran (YieldsList-from_slice_split _ is_dot c.args.word.now c.split.ensures.rest c.split.ensures.done c.split.ensures.closure (λ x b q k. search (rules, tests))) (λ x b q k. search (rules, tests))

use Rattle.std.proofs.Common.{rules, tests}
use Rattle.std.proofs.lemmas.Iterator.Search.{all_from_yields_List}
use Rattle.std.proofs.lemmas.Iterator.Splits.{YieldsList-from_slice_split}
use Rattle.fc_syntax.specs.Tokens.{is_dot}
use Rattle.fc_log.specs.Grammar.{is_part_number}
use Rattle.fc_log.proofs.numbers.is_path.Goals as goal

pub returns : goal.returns
returns c = all_from_yields_List is_part_number _ _ _ c.all.ensures.ran (YieldsList-from_slice_split _ is_dot c.args.word.now c.split.ensures.rest c.split.ensures.done c.split.ensures.closure (λ x b q k. search (rules, tests))) (λ x b q k. search (rules, tests))

use Rattle.std.proofs.Common.{rules, ◌≡◌, ◌∙◌, Some, ap, sym}
use Rattle.std.specs.HashMap.{get_by_text}
use Rattle.fc_model.specs.Resolution.{index_of}
use Rattle.fc_scope.proofs.Ties.{last_there}
use Rattle.fc_scope.proofs.table.Table.distance.Goals as goal

pub overflow_sub-result : goal.overflow_sub-result
overflow_sub-result c =
    let is : get_by_text c.self.inside.last c.args.word.now ≡ Some c.in-Some.last.now = search rules in
    (last_there c.self.inside.words.items c.self.inside.count c.in-Some.last.now (get_by_text c.self.inside.last) c.args.word.now c.self.invariant is).0

pub returns-in-Some : goal.returns-in-Some
returns-in-Some c =
    let is : get_by_text c.self.inside.last c.args.word.now ≡ Some c.in-Some.last.now = search rules in
    sym (last_there c.self.inside.words.items c.self.inside.count c.in-Some.last.now (get_by_text c.self.inside.last) c.args.word.now c.self.invariant is).1
    ∙ ap (λ ws. index_of ws c.args.word.now) c.self.view_is

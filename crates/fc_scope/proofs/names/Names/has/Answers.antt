use Rattle.std.proofs.Common.{rules, ◌≡◌, ◌∙◌, ap, is_some}
use Rattle.fc_scope.proofs.Ties.{found_among}
use Rattle.fc_scope.proofs.names.Names.has.Goals as goal

pub returns : goal.returns
returns c =
    let is : c.is_some.result ≡ is_some c.distance.result = search rules in
    is ∙ ap is_some c.distance.ensures ∙ found_among c.args.self.now c.args.word.now

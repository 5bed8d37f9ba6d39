use Rattle.std.proofs.Common.{sym, ◌∙◌}
use Rattle.fc_model.specs.NamelessView.{nexpr_of}
use Rattle.fc_row_search.specs.Spots.{here_at, modules_of}
use Rattle.fc_row_search.proofs.Unasked.{none_there}
use Rattle.fc_row_search.proofs.rows.typed_row.Goals as goal

pub returns-then-branch-clause-found : goal.returns-then-branch-clause-found
returns-then-branch-clause-found c = c.asked_there.ensures.found (nexpr_of c.args.e.now) c.requires.spot

pub returns-else-branch-clause-found : goal.returns-else-branch-clause-found
returns-else-branch-clause-found c =
    let x = c.args.spot.now in
    sym (none_there (modules_of x.search.now) c.args.row c.args.alternative (here_at x) (nexpr_of c.args.e.now) (sym c.in_ok-may_apply.ensures ∙ c.if-branch.false))

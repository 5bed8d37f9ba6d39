use Rattle.std.proofs.Common.{sym, ap, ◌∙◌}
use Rattle.fc_rows.specs.Surroundings.{known_of, moved_known}
use Rattle.fc_model.specs.NamelessView.{nexpr_of}
use Rattle.fc_subst.specs.Replacements.{renaming_of}
use Rattle.fc_known.specs.Told.{known_there, told}
use Rattle.fc_known.proofs.Moved.{known_moves, moved_twice}
use Rattle.fc_known.proofs.knowing.Fact.past.Goals as goal

pub returns-in_ok-both-in-Bound : goal.returns-in_ok-both-in-Bound
returns-in_ok-both-in-Bound c =
    ap (λ p. moved_known (renaming_of p) (known_of (nexpr_of c.in-Bound.e.now))) c.in_ok-both-in-Bound.ensures
    ∙ sym (moved_twice known_moves c.in-Bound.own c.args.by (known_of (nexpr_of c.in-Bound.e.now)))
    ∙ ap (λ f. moved_known (renaming_of c.args.by) (told f)) (sym c.in-Bound.is)

pub returns-in_ok-both-in-Found : goal.returns-in_ok-both-in-Found
returns-in_ok-both-in-Found c =
    ap (λ p. moved_known (renaming_of p) (known_there c.in-Found.branch)) c.in_ok-both-in-Found.ensures
    ∙ sym (moved_twice known_moves c.in-Found.own c.args.by (known_there c.in-Found.branch))
    ∙ ap (λ f. moved_known (renaming_of c.args.by) (told f)) (sym c.in-Found.is)

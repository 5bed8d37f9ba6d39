use Rattle.fc_named_subst.proofs.entering.+entering.Given as goal

abbrev pub decreases-behind_joins : goal.decreases-behind_joins
decreases-behind_joins l = l.fuel

abbrev pub decreases-behind_names : goal.decreases-behind_names
decreases-behind_names l = l.fuel

use Rattle.fc_subst.proofs.types.+types.Given as goal

abbrev pub decreases-type_at : goal.decreases-type_at
decreases-type_at l = l.fuel

abbrev pub decreases-type_for : goal.decreases-type_for
decreases-type_for l = l.fuel

abbrev pub decreases-shifted_type : goal.decreases-shifted_type
decreases-shifted_type l = l.fuel

abbrev pub decreases-type_with : goal.decreases-type_with
decreases-type_with l = l.fuel

abbrev pub decreases-type_below : goal.decreases-type_below
decreases-type_below l = l.fuel

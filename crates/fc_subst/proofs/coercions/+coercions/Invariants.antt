use Rattle.std.proofs.Common.{◌≡◌, take}
use Rattle.fc_model.specs.NamelessView.{ncos_of}
use Rattle.fc_model.specs.Replacing.{put_in_coercions, whole_coercions}
use Rattle.fc_subst.specs.Replacements.{lifted_of}
use Rattle.fc_subst.proofs.coercions.+coercions.Given as goal

abbrev pub decreases-coercion_at : goal.decreases-coercion_at
decreases-coercion_at l = l.fuel

abbrev pub decreases-coercion_for : goal.decreases-coercion_for
decreases-coercion_for l = l.fuel

abbrev pub decreases-shifted_coercion : goal.decreases-shifted_coercion
decreases-shifted_coercion l = l.fuel

abbrev pub decreases-for_all_with : goal.decreases-for_all_with
decreases-for_all_with l = l.fuel

abbrev pub decreases-coercion_below : goal.decreases-coercion_below
decreases-coercion_below l = l.fuel

abbrev pub decreases-coercion_with : goal.decreases-coercion_with
decreases-coercion_with l = l.fuel

abbrev pub decreases-coercions_with : goal.decreases-coercions_with
decreases-coercions_with l = l.fuel

abbrev pub invariant-coercions_with-loop-x : goal.invariant-coercions_with-loop-x
invariant-coercions_with-loop-x l = ncos_of l.all ≡ put_in_coercions whole_coercions (lifted_of l.by).types (lifted_of l.by).coercions (ncos_of (take l.x-index l.items))

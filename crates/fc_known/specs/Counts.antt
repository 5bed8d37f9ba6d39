-- How many binders stand together.
use Rattle.std.specs.Prelude.{◌+◌, List}
use Rattle.fc_model.specs.Calling.{type_count}
use Rattle.fc_model.specs.Nameless.{NBinder}
use Rattle.fc_rows.specs.Surroundings.{coercion_count, value_count}
use Rattle.fc_subst.specs.declared.shift.Shift.{Shift}

-- binders, by their spaces
abbrev pub counts : List NBinder → Shift
counts bs = record { types = type_count bs; coercions = coercion_count bs; values = value_count bs; joins = 0 }

abbrev pub together : Shift → Shift → Shift
together p q = record { types = p.types + q.types; coercions = p.coercions + q.coercions; values = p.values + q.values; joins = p.joins + q.joins }

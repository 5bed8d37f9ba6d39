-- The arguments of the constructor that an alternative is for.
use Rattle.std.specs.Prelude.{◌-◌}
use Rattle.fc_model.specs.Calling.{type_arguments, type_count}
use Rattle.fc_model.specs.Nameless.{NBinder, NBValue, NBType, NBCo, NArg, NATerm, NAType, NACo, NArgs, NTVar, NGVar, NLocal}
use Rattle.fc_model.specs.NamelessView.{nbinders_of, nty_of}
use Rattle.fc_rows.specs.Surroundings.{as_arguments, types_as_arguments}
use Rattle.fc_subst.specs.declared.shift.Shift.{Shift}
use Rattle.fc_known.specs.declared.around.Branch.{Branch}

-- how many binders stand behind the first of so many
abbrev pub behind_binder : NBinder → Shift → Shift
behind_binder (NBValue t) p = record { types = p.types; coercions = p.coercions; values = p.values - 1; joins = p.joins }
behind_binder (NBType k) p = record { types = p.types - 1; coercions = p.coercions; values = p.values; joins = p.joins }
behind_binder (NBCo r t u) p = record { types = p.types; coercions = p.coercions - 1; values = p.values; joins = p.joins }

-- a binder as an argument, where so many stand behind it
abbrev pub as_argument : NBinder → Shift → NArg
as_argument (NBValue t) p = NATerm (NLocal p.values)
as_argument (NBType k) p = NAType (NTVar p.types)
as_argument (NBCo r t u) p = NACo (NGVar p.coercions)

-- at the types of the case binder, with the alternative's binders
abbrev pub arguments_there : Branch → NArgs
arguments_there l =
    types_as_arguments (type_count (nbinders_of l.alternative.now.binders)) (type_arguments (nty_of l.ty.now)) (as_arguments (nbinders_of l.alternative.now.binders))

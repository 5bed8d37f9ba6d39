-- Fields that are not trivial.
use Rattle.std.specs.Prelude.{if◌then◌else◌, List, Option, Some, None}
use Rattle.fc_syntax.specs.Tree.{Kind}
use Rattle.fc_model.specs.Nameless.{NTy, NExpr, NArg, NATerm, NAType, NACo}
use Rattle.fc_model.specs.NamelessView.{nexpr_of}
use Rattle.fc_rows.specs.Shrinking.{is_trivial}
use Rattle.fc_type_table.specs.TypeTables.{shown}
use Rattle.fc_type_table.specs.declared.table.TypeTable.{TypeTable}
use Rattle.fc_commute_types.specs.declared.asked.Field.{Field}

-- the term that an argument is, where it is not trivial
abbrev pub field_in : NArg → Option NExpr
field_in (NATerm e) = if is_trivial e then None else Some e
field_in (NAType t) = None
field_in (NACo g) = None

-- the type that is asked of a field, and its term
abbrev pub field_of : TypeTable → List Kind → Field → NTy × NExpr
field_of types ks f = (shown types ks f.ty, nexpr_of f.term.now)

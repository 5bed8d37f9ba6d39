-- Names of types.
use Rattle.std.specs.Prelude.{Option}
use Rattle.std.specs.Option.{option_map}
use Rattle.std.specs.Rc.{rc_str_bytes}
use Rattle.fc_syntax.specs.Tree.{Word}
use Rattle.fc_syntax.specs.declared.ty.Name.{Name}
use Rattle.fc_type_table.specs.declared.node.NameKey.{NameKey}

-- the name of a word, in a module or in none
abbrev pub name_from : Option Word → Word → Name
name_from m w = record { «module» = m; text = w }

-- the name that a key stands for
abbrev pub name_of : NameKey → Name
name_of k = name_from (option_map rc_str_bytes k.module) (rc_str_bytes k.text)

-- The name that a key stands for.
use Rattle.std.specs.Option.{option_map}
use Rattle.fc_syntax.specs.declared.ty.Name.{Name}
use Rattle.fc_free.specs.declared.once.Key.{Key}

abbrev pub named : Key → Name
named k = record { «module» = option_map (λ m. m.now) k.module; text = k.text.now }

-- The parts of two types that are heads at arguments.
use Rattle.std.specs.Prelude.{List, Option, Some, None}
use Rattle.fc_syntax.specs.declared.ty.Name.{Name}
use Rattle.fc_syntax.specs.declared.ty.Role.{Role}
use Rattle.fc_model.specs.Calling.{declared_name}
use Rattle.fc_model.specs.Coercing.{Ends, Named, NoShape, Shape, parts_of}
use Rattle.fc_model.specs.Kinding.{Modules}
use Rattle.fc_model.specs.Nameless.{NTy}

abbrev pub named_shape : Option Name → List NTy → Shape
named_shape (Some n) ts = Named n ts
named_shape None ts = NoShape

-- a head at arguments, where the head is a name
abbrev pub spine_shape : NTy → List NTy → Shape
spine_shape t ts = named_shape (declared_name t) ts

abbrev pub spine_parts : Modules → Role → NTy → List NTy → NTy → List NTy → Option (List Ends)
spine_parts ms r t ts u us = parts_of ms r (spine_shape t ts) (spine_shape u us)

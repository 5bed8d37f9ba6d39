-- What is told of the type of a declaration.
use Rattle.std.specs.Prelude.{◌≡◌, false, List, Option, IfSome}
use Rattle.std.specs.Option.{option_map}
use Rattle.fc_model.specs.Kinding.{decl_kind}
use Rattle.fc_model.specs.Nameless.{NDecl}
use Rattle.fc_model.specs.Typing.{answered}
use Rattle.fc_type_table.specs.Nodes.{IsKindAt, kind_at}
use Rattle.fc_type_table.specs.TreeKinds.{arguments_of}
use Rattle.fc_type_table.specs.declared.node.Judged.{Judged}
use Rattle.fc_type_table.specs.declared.node.Node.{Node}

-- what is told of it is right
pub record Declares (ns : List Node) (d : Option NDecl) (j : Judged) : Type 0 where
  pub lifted : j.lifted ≡ false
  pub needed : j.needed ≡ arguments_of d
  pub is_kind : IfSome j.kind (λ k. IsKindAt ns k.0)
  pub kind : option_map (λ k. kind_at ns k.0) j.kind ≡ answered (decl_kind d (arguments_of d))

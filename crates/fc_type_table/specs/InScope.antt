-- The kinds of the type variables in scope, and what their numbers show.
use Rattle.std.specs.Prelude.{◌≡◌, List, [], ◌∷◌, ◌++◌, map, reverse, All}
use Rattle.fc_syntax.specs.Tree as trees
use Rattle.fc_syntax.specs.View.{kind_of}
use Rattle.fc_type_table.specs.Nodes.{IsKindAt, kind_at}
use Rattle.fc_type_table.specs.declared.node.Node.{Node}
use Rattle.fc_type_table.specs.declared.numbered.NumberedKind.{NumberedKind}
use Rattle.fc_type_table.specs.declared.numbered.NumberedKinds.{NumberedKinds, End, Kind', Group'}

-- the kinds of variables that stand together, in their order
abbrev pub own_kinds : List NumberedKind → List trees.Kind
own_kinds ks = map (λ k. kind_of k.kind.now) ks

-- the kinds of variables that stand together before those around them, the last one the innermost
abbrev pub behind_group : List trees.Kind → List trees.Kind → List trees.Kind
behind_group ks outer = reverse ks ++ outer

-- the variables in scope, the innermost first
abbrev pub numbered_of : NumberedKinds → List NumberedKind
numbered_of End = []
numbered_of (Kind' k p rest) = k ∷ numbered_of rest
numbered_of (Group' ks p rest) = reverse ks.now ++ numbered_of rest

-- their kinds, the innermost first
abbrev pub kinds_of : NumberedKinds → List trees.Kind
kinds_of End = []
kinds_of (Kind' k p rest) = kind_of k.kind.now ∷ kinds_of rest
kinds_of (Group' ks p rest) = behind_group (own_kinds ks.now) (kinds_of rest)

-- the number shows the kind
pub record IsNumbered (ns : List Node) (k : NumberedKind) : Type 0 where
  pub is_kind : IsKindAt ns k.id.0
  pub shows : kind_at ns k.id.0 ≡ kind_of k.kind.now

-- each number shows its kind
pub record AreNumbered (ns : List Node) (ks : List NumberedKind) : Type 0 where
  pub each : All (IsNumbered ns) ks

-- the same of the variables in scope
abbrev pub IsScopeAt : List Node → NumberedKinds → Type 0
IsScopeAt ns ks = AreNumbered ns (numbered_of ks)

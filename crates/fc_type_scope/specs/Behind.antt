-- What stands behind binders: the kinds of their type variables and the types of their values.
use Rattle.std.specs.Prelude.{◌≡◌, ℕ, suc, ◌<◌, List, [], ◌∷◌, ◌++◌, get_or, length, map, reverse}
use Rattle.fc_syntax.specs.Tree.{Kind}
use Rattle.fc_model.specs.Calling.{type_count}
use Rattle.fc_model.specs.Coercing.{Ends}
use Rattle.fc_model.specs.Nameless.{NTy, NBinder, NBValue, NBType, NBCo}
use Rattle.fc_model.specs.Substituting.{raised_type}
use Rattle.fc_model.specs.Typing.{Context, JoinPoint}
use Rattle.fc_type_table.specs.InScope.{AreNumbered, own_kinds}
unfoldable pub use Rattle.fc_type_table.specs.Binders.{binder_kinds, kinds_past}
use Rattle.fc_type_table.specs.Scopes.{IsTypeAt, shown_at}
use Rattle.fc_type_table.specs.declared.node.Node.{Node}
use Rattle.fc_type_table.specs.declared.node.TypeId.{TypeId}
use Rattle.fc_type_scope.specs.EndViews.{AreEndsAt, shown_all_ends_at}
use Rattle.fc_type_scope.specs.Scopes.{AreTypesAt, shown_all_at}
use Rattle.fc_type_scope.specs.declared.entering.Entered as code

-- the types of the values that binders bind, in their order, as they stand behind all of them
unfoldable pub binder_values : List NBinder → List NTy
binder_values [] = []
binder_values (NBValue t ∷ bs) = raised_type (type_count bs) t ∷ binder_values bs
binder_values (NBType k ∷ bs) = binder_values bs
binder_values (NBCo r t u ∷ bs) = binder_values bs

-- the ends of a coercion past so many type variables
abbrev pub raised_ends : ℕ → Ends → Ends
raised_ends m e = record { role = e.role; left = raised_type m e.left; right = raised_type m e.right }

-- what the coercion variables prove that binders bind, in their order, as it stands behind all of them
unfoldable pub binder_coercions : List NBinder → List Ends
binder_coercions [] = []
binder_coercions (NBValue t ∷ bs) = binder_coercions bs
binder_coercions (NBType k ∷ bs) = binder_coercions bs
binder_coercions (NBCo r t u ∷ bs) = record { role = r; left = raised_type (type_count bs) t; right = raised_type (type_count bs) u } ∷ binder_coercions bs

-- what stands at a place past the end
abbrev pub no_id : TypeId
no_id = record { 0 = 0 }

-- how many values binders bind
abbrev pub value_count : List NBinder → ℕ
value_count [] = 0
value_count (NBValue t ∷ bs) = suc (value_count bs)
value_count (NBType k ∷ bs) = value_count bs
value_count (NBCo r t u ∷ bs) = value_count bs

-- if the binder binds a value, the number at this place among others is that of the value's type, where the binder stands
abbrev pub IsValueAt : List Node → List Kind → NBinder → List TypeId → ℕ → Type 0
IsValueAt ns ks (NBValue t) ids i = (i < length ids) × IsTypeAt ns ks (get_or ids i no_id).0 × (shown_at ns ks (get_or ids i no_id).0 ≡ t)
IsValueAt ns ks (NBType k) ids i = Unit {0}
IsValueAt ns ks (NBCo r t u) ids i = Unit {0}

-- these are the kinds of the binders' type variables, the numbers of their values' types and the ends of their coercion variables, where type
-- variables of the kinds ks are in scope before the binders
pub record IsEntered (ns : List Node) (ks : List Kind) (bs : List NBinder) (e : code.Entered) : Type 0 where
  pub kinds : own_kinds e.kinds ≡ binder_kinds bs
  pub numbered : AreNumbered ns e.kinds
  pub valid : AreTypesAt ns (kinds_past bs ks) e.values
  pub view : shown_all_at ns (kinds_past bs ks) e.values ≡ binder_values bs
  pub coercions_valid : AreEndsAt ns (kinds_past bs ks) e.coercions
  pub coercions_view : shown_all_ends_at ns (kinds_past bs ks) e.coercions ≡ binder_coercions bs

-- a join point past so many type variables
abbrev pub raised_join : ℕ → JoinPoint → JoinPoint
raised_join m j = record j { type = raised_type m j.type; result = raised_type m j.result }

-- what stands behind binders: their type variables, past which all is raised, their coercion variables and their values
unfoldable pub context_past : List NBinder → Context → Context
context_past bs c = record {
  kinds = kinds_past bs c.kinds;
  coercions = reverse (binder_coercions bs) ++ map (raised_ends (type_count bs)) c.coercions;
  values = reverse (binder_values bs) ++ map (raised_type (type_count bs)) c.values;
  joins = map (raised_join (type_count bs)) c.joins;
}

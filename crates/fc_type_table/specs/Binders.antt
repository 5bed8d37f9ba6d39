-- Binders that stand together: the kinds of their type variables, where their types stand, and the tree of what takes an argument for one.
use Rattle.std.specs.Prelude.{ℕ, suc, List, [], ◌∷◌, ◌++◌, reverse}
use Rattle.fc_syntax.specs.Tree.{Kind}
use Rattle.fc_model.specs.Nameless.{NBinder, NBValue, NBType, NBCo}
use Rattle.fc_model.specs.Substituting.{IsScopedType}
use Rattle.fc_type_table.specs.Scopes.{leveled}
use Rattle.fc_type_table.specs.TreeKinds.{kind_tree}
use Rattle.fc_type_table.specs.Trees.{Tree, LFun, LForall, LCoForall}

-- the kinds of the type variables that binders bind, in their order
unfoldable pub binder_kinds : List NBinder → List Kind
binder_kinds [] = []
binder_kinds (NBValue t ∷ bs) = binder_kinds bs
binder_kinds (NBType k ∷ bs) = k ∷ binder_kinds bs
binder_kinds (NBCo r t u ∷ bs) = binder_kinds bs

-- the kinds of the type variables in scope behind binders
unfoldable pub kinds_past : List NBinder → List Kind → List Kind
kinds_past bs ks = reverse (binder_kinds bs) ++ ks

-- where n type variables are in scope before the binders, each variable of their types has a binder there or before it
abbrev pub AreScopedBinders : ℕ → List NBinder → Type 0
AreScopedBinders n [] = Unit {0}
AreScopedBinders n (NBValue t ∷ bs) = IsScopedType n t × AreScopedBinders n bs
AreScopedBinders n (NBType k ∷ bs) = AreScopedBinders (suc n) bs
AreScopedBinders n (NBCo r t u ∷ bs) = IsScopedType n t × IsScopedType n u × AreScopedBinders n bs

-- what takes an argument for a binder and is then the tree, where the binder stands under k binders of the type in a context of n variables,
-- all of these kinds
abbrev pub tree_over : ℕ → List Kind → ℕ → NBinder → Tree → Tree
tree_over n ks k (NBValue s) t = LFun (leveled n ks k s) t
tree_over n ks k (NBType j) t = LForall (kind_tree j) t
tree_over n ks k (NBCo r u v) t = LCoForall r (leveled n ks k u) (leveled n ks k v) t

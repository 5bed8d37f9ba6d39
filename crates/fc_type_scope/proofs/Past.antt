-- A type behind more type variables: its number stays, and what it shows is raised past them. And back, where it mentions none of them.
use Rattle.std.proofs.Common.{◌≡◌, ℕ, List, ◌++◌, length, sym, ◌∙◌}
use Rattle.fc_syntax.specs.Tree.{Kind}
use Rattle.fc_model.specs.Nameless.{NTy}
use Rattle.fc_model.specs.Substituting.{raised_type}
use Rattle.fc_type_table.specs.Scopes.{IsTypeAt, shown_at}
use Rattle.fc_type_table.specs.declared.node.Node.{Node}
use Rattle.fc_type_table.proofs.Numbers.{IsTypeAt-more, IsTypeAt-stronger, past-mentions, shown_at-more}
use Rattle.fc_type_scope.proofs.Raising.{raised_apart}

pub IsTypeAt-past : (ns : List Node) (bs ks : List Kind) (id : ℕ) → IsTypeAt ns ks id → IsTypeAt ns (bs ++ ks) id
IsTypeAt-past ns bs ks id t = IsTypeAt-more ns bs ks id t

pub shown_at-past : (ns : List Node) (bs ks : List Kind) (id : ℕ) → IsTypeAt ns ks id → shown_at ns (bs ++ ks) id ≡ raised_type (length bs) (shown_at ns ks id)
shown_at-past ns bs ks id t = shown_at-more ns bs ks id t

-- what is past all of the variables stands before them
pub IsTypeAt-earlier : (ns : List Node) (bs ks : List Kind) (id : ℕ) (t : NTy) → IsTypeAt ns (bs ++ ks) id → shown_at ns (bs ++ ks) id ≡ raised_type (length bs) t → IsTypeAt ns ks id
IsTypeAt-earlier ns bs ks id t v s = IsTypeAt-stronger ns bs ks id (past-mentions ns bs ks id t v s) v

pub shown_at-earlier : (ns : List Node) (bs ks : List Kind) (id : ℕ) (t : NTy) → IsTypeAt ns (bs ++ ks) id → shown_at ns (bs ++ ks) id ≡ raised_type (length bs) t → shown_at ns ks id ≡ t
shown_at-earlier ns bs ks id t v s = raised_apart (length bs) (shown_at ns ks id) t (sym (shown_at-past ns bs ks id (IsTypeAt-earlier ns bs ks id t v s)) ∙ s)

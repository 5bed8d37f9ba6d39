-- What is put in for variables keeps its erasure past binders.
use Rattle.std.proofs.Common.{◌≡◌}
use Rattle.fc_model.specs.Erasure.{Scope, sort_of, below_value, below_unnamed, below_join}
use Rattle.fc_model.specs.Erasure.{erased}
use Rattle.fc_model.specs.Replacing.{Standing}
use Rattle.fc_model.specs.Terms.{Sort, Var}
use Rattle.fc_model.specs.Terms.{shift}
use Rattle.fc_meaning.proofs.WrittenExpressions.{IsWritten}

-- what is put in keeps its erasure past binders
pub record IsKept {V : Type 0} (how : Standing V) (Good : V → Type 0) : Type 0 where
  pub written : (v : V) → Good v → IsWritten (how.expression v)
  pub good_innermost : Good how.innermost
  pub good_type : (v : V) → Good v → Good (how.past_type v)
  pub good_coercion : (v : V) → Good v → Good (how.past_coercion v)
  pub good_value : (v : V) → Good v → Good (how.past_value v)
  pub good_join : (v : V) → Good v → Good (how.past_join v)
  pub unnamed : (c : Scope) (v : V) → Good v → erased (below_unnamed c) (how.expression v) ≡ shift (erased c (how.expression v))
  pub past_type : (c : Scope) (v : V) → Good v → erased c (how.expression (how.past_type v)) ≡ erased c (how.expression v)
  pub past_coercion : (c : Scope) (v : V) → Good v → erased (below_unnamed c) (how.expression (how.past_coercion v)) ≡ shift (erased c (how.expression v))
  pub past_value : (s : Sort) (c : Scope) (v : V) → Good v → erased (below_value s c) (how.expression (how.past_value v)) ≡ shift (erased c (how.expression v))
  pub past_join : (c : Scope) (v : V) → Good v → erased (below_join c) (how.expression (how.past_join v)) ≡ shift (erased c (how.expression v))
  pub innermost : (s : Sort) (c : Scope) → erased (below_value s c) (how.expression how.innermost) ≡ Var 0
  pub sort_unnamed : (c : Scope) (v : V) → sort_of (below_unnamed c) (how.expression v) ≡ sort_of c (how.expression v)
  pub sort_type : (c : Scope) (v : V) → sort_of c (how.expression (how.past_type v)) ≡ sort_of c (how.expression v)
  pub sort_coercion : (c : Scope) (v : V) → sort_of (below_unnamed c) (how.expression (how.past_coercion v)) ≡ sort_of c (how.expression v)
  pub sort_value : (s : Sort) (c : Scope) (v : V) → sort_of (below_value s c) (how.expression (how.past_value v)) ≡ sort_of c (how.expression v)
  pub sort_join : (c : Scope) (v : V) → sort_of (below_join c) (how.expression (how.past_join v)) ≡ sort_of c (how.expression v)
  pub sort_innermost : (s : Sort) (c : Scope) → sort_of (below_value s c) (how.expression how.innermost) ≡ s

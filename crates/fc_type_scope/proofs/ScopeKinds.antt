-- The kinds of type variables with their numbers, one more of them, and in a table that grows.
use Rattle.std.proofs.Common.{◌≡◌, List, [], ◌∷◌, ◌++◌, sym, ap, subst, ◌∙◌}
use Rattle.std.proofs.lemmas.List.{map-append}
use Rattle.fc_syntax.specs.View.{kind_of}
use Rattle.fc_type_table.specs.InScope.{AreNumbered, IsNumbered, IsScopeAt, numbered_of, own_kinds}
use Rattle.fc_type_table.specs.Nodes.{Extends}
use Rattle.fc_type_table.specs.declared.node.Node.{Node}
use Rattle.fc_type_table.specs.declared.numbered.NumberedKind.{NumberedKind}
use Rattle.fc_type_table.specs.declared.numbered.NumberedKinds.{NumberedKinds}
use Rattle.fc_type_table.proofs.KindsInScope.{AreNumbered-grows, AreNumbered-push}
use Rattle.fc_type_table.proofs.Numbers.{number_rules}

-- one more behind the others, while the table grew
pub numbered_push : (old new : List Node) (own pushed : List NumberedKind) (k : NumberedKind) → Extends old new → AreNumbered old own → IsNumbered new k → pushed ≡ own ++ k ∷ [] → AreNumbered new pushed
numbered_push old new own pushed k more hs h e =
    subst (AreNumbered new) (sym e) (AreNumbered-push new own k (AreNumbered-grows old new own more hs) h)

pub kinds_push : (own pushed : List NumberedKind) (k : NumberedKind) → pushed ≡ own ++ k ∷ [] → own_kinds pushed ≡ own_kinds own ++ kind_of k.kind.now ∷ []
kinds_push own pushed k e = ap own_kinds e ∙ map-append (λ (j : NumberedKind). kind_of j.kind.now) own (k ∷ [])

pub scope_grows : (old new : List Node) (ks : NumberedKinds) → Extends old new → IsScopeAt old ks → IsScopeAt new ks
scope_grows old new ks more h = AreNumbered-grows old new (numbered_of ks) more h

pub ruleset push_rules = (numbered_push, kinds_push)

pub ruleset binder_rules = (scope_grows, number_rules)

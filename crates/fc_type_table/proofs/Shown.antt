-- From the trees of numbers to what they show in a context.
use Rattle.std.proofs.Common.{◌≡◌, ℕ, ◌+◌, ◌-◌, ◌<◌, List, [], ◌∷◌, length, Some, Result, Ok, Err, IfOk, refl, sym, ap, subst, ◌∙◌, arith}
use Rattle.fc_syntax.specs.Tree.{Kind}
use Rattle.fc_model.specs.Nameless.{NTy, NTForall, NTVar}
use Rattle.fc_model.specs.Substituting.{IsScopedType}
use Rattle.fc_type_table.specs.Nodes.{Extends, tree_at}
use Rattle.fc_type_table.specs.Scopes.{IsTypeAt, Scoped, indexed, label, leveled, shown_at}
use Rattle.fc_type_table.specs.TreeKinds.{kind_in, kind_tree}
use Rattle.fc_type_table.specs.Trees.{LForall, LFree, Tree, closed_over, opened}
use Rattle.fc_model.specs.Calling.{at_type}
use Rattle.fc_type_table.specs.declared.node.Node.{Node}
use Rattle.fc_type_table.specs.declared.node.TypeId.{TypeId}
use Rattle.fc_type_table.proofs.KindTrees.{IsKind-tree, kind_in-tree}
use Rattle.fc_type_table.proofs.Levels.{indexed-generalized, indexed-instantiated, indexed-leveled}
use Rattle.fc_type_table.proofs.ScopedTrees.{Scoped-closed_over, Scoped-leveled, Scoped-opened}

-- ---- types that are read

at_rest : (n m : ℕ) (t : NTy) → n ≡ m → IsScopedType n t → IsScopedType (m + 0) t
at_rest n m t f h = let e : n ≡ m + 0 = omega arith in subst (λ x. IsScopedType x t) e h

pub read_valid : {E : Type 0} (r : Result TypeId E) (ns : List Node) (ks : List Kind) (n : ℕ) (t : NTy) → n ≡ length ks → IsScopedType n t → IfOk r (λ id. id.0 < length ns) → IfOk r (λ id. tree_at ns id.0 ≡ leveled n ks 0 t)
    → IfOk r (λ id. IsTypeAt ns ks id.0)
read_valid (Ok id) ns ks n t long inside within e = record {
  within = within;
  scoped = subst (Scoped ks []) (sym (e ∙ ap (λ m. leveled m ks 0 t) long)) (Scoped-leveled ks [] 0 refl t (at_rest n (length ks) t long inside));
}
read_valid (Err x) ns ks n t long inside within e = tt

pub read_view : {E : Type 0} (r : Result TypeId E) (ns : List Node) (ks : List Kind) (n : ℕ) (t : NTy) → n ≡ length ks → IsScopedType n t → IfOk r (λ id. tree_at ns id.0 ≡ leveled n ks 0 t) → IfOk r (λ id. shown_at ns ks id.0 ≡ t)
unfolding shown_at
read_view (Ok id) ns ks n t long inside e = ap (indexed (length ks) 0) (e ∙ ap (λ m. leveled m ks 0 t) long) ∙ indexed-leveled (length ks) ks 0 t (at_rest n (length ks) t long inside)
read_view (Err x) ns ks n t long inside e = tt

-- ---- the innermost variable

here : (k : Kind) (ks : List Kind) (l : ℕ) → length ks ≡ l → (length (k ∷ ks) - 1) - l ≡ 0
here k ks l e = omega arith

pub innermost_valid : {E : Type 0} (r : Result TypeId E) (k0 k1 : List Node) (kind l : ℕ) (k : Kind) → tree_at k0 kind ≡ kind_tree k → IfOk r (λ id. id.0 < length k1) → IfOk r (λ id. tree_at k1 id.0 ≡ LFree l (tree_at k0 kind))
    → IfOk r (λ id. (ks : List Kind) → length ks ≡ l → IsTypeAt k1 (k ∷ ks) id.0)
innermost_valid (Ok id) k0 k1 kind l k f within e = λ ks long. record {
  within = within;
  scoped = subst (Scoped (k ∷ ks) []) (sym e) (omega arith, f ∙ sym (ap (label (k ∷ ks)) (here k ks l long)));
}
innermost_valid (Err x) k0 k1 kind l k f within e = tt

pub innermost_view : {E : Type 0} (r : Result TypeId E) (k0 k1 : List Node) (kind l : ℕ) (k : Kind) → IfOk r (λ id. tree_at k1 id.0 ≡ LFree l (tree_at k0 kind))
    → IfOk r (λ id. (ks : List Kind) → length ks ≡ l → shown_at k1 (k ∷ ks) id.0 ≡ NTVar 0)
unfolding shown_at indexed
innermost_view (Ok id) k0 k1 kind l k e = λ ks long. ap (indexed (length (k ∷ ks)) 0) e ∙ ap NTVar (let h = here k ks l long in omega arith)
innermost_view (Err x) k0 k1 kind l k e = tt

-- ---- a type put in for the variable of a `forall`

module _ (old new : List Node) (part kind body by id : ℕ) (at : tree_at old part ≡ LForall (tree_at old kind) (tree_at old body)) (e : tree_at new id ≡ opened 0 (tree_at old by) (tree_at old body)) where
  pub opened_valid : id < length new → (ks : List Kind) → IsTypeAt old ks part → IsTypeAt old ks by → IsTypeAt new ks id
  opened_valid within ks f a =
      let inside : Scoped ks [] (LForall (tree_at old kind) (tree_at old body)) = subst (Scoped ks []) at f.scoped in
      record { within = within; scoped = subst (Scoped ks []) (sym e) (Scoped-opened ks [] (kind_in (tree_at old kind)) 0 refl (tree_at old by) (tree_at old body) a.scoped inside.1) }

  pub opened_view : (ks : List Kind) → IsTypeAt old ks part → IsTypeAt old ks by → Some (shown_at new ks id) ≡ at_type (shown_at old ks part) (shown_at old ks by)
  unfolding shown_at indexed
  opened_view ks f a =
      let inside : Scoped ks [] (LForall (tree_at old kind) (tree_at old body)) = subst (Scoped ks []) at f.scoped in
      ap (λ x. Some (indexed (length ks) 0 x)) e ∙ ap (λ x. Some x) (indexed-instantiated ks (kind_in (tree_at old kind)) (tree_at old by) (tree_at old body) a.scoped inside.1)
      ∙ sym (ap (λ x. at_type (indexed (length ks) 0 x) (indexed (length ks) 0 (tree_at old by))) at)

-- ---- a variable of the context bound by a `forall` over a kind j, while the table grew from k0 to k3

bound_tree : (k0 k1 k2 : List Node) (n : ℕ) (j : Kind) (body kind closed : ℕ) → Extends k0 k1 → Extends k1 k2 → body < length k0 → kind < length k1 → tree_at k1 kind ≡ kind_tree j → tree_at k2 closed ≡ closed_over n 0 (tree_at k1 body)
    → LForall (tree_at k2 kind) (tree_at k2 closed) ≡ LForall (kind_tree j) (closed_over n 0 (tree_at k0 body))
bound_tree k0 k1 k2 n j body kind closed p q body_in kind_in ek ec =
    ap (λ x. LForall x (tree_at k2 closed)) (q.stays kind kind_in ∙ ek) ∙ ap (λ x. LForall (kind_tree j) x) (ec ∙ ap (closed_over n 0) (p.stays body body_in))

bound_scoped : (n : ℕ) (j : Kind) (t : Tree) (ks : List Kind) → length ks ≡ n → Scoped (j ∷ ks) [] t → Scoped ks [] (LForall (kind_tree j) (closed_over n 0 t))
bound_scoped n j t ks long h = (IsKind-tree j, subst (λ x. Scoped ks (x ∷ []) (closed_over n 0 t)) (sym (kind_in-tree j)) (Scoped-closed_over ks [] j n 0 (sym long) refl t h))

pub bound_valid : {E : Type 0} (r : Result TypeId E) (k0 k1 k2 k3 : List Node) (n : ℕ) (j : Kind) (body kind closed : ℕ) → Extends k0 k1 → Extends k1 k2 → body < length k0 → kind < length k1 → tree_at k1 kind ≡ kind_tree j
    → tree_at k2 closed ≡ closed_over n 0 (tree_at k1 body) → IfOk r (λ id. id.0 < length k3) → IfOk r (λ id. tree_at k3 id.0 ≡ LForall (tree_at k2 kind) (tree_at k2 closed))
    → IfOk r (λ id. (ks : List Kind) → length ks ≡ n → IsTypeAt k0 (j ∷ ks) body → IsTypeAt k3 ks id.0)
bound_valid (Ok id) k0 k1 k2 k3 n j body kind closed p q body_in kind_in ek ec within e = λ ks long t. record {
  within = within;
  scoped = subst (Scoped ks []) (sym (e ∙ bound_tree k0 k1 k2 n j body kind closed p q body_in kind_in ek ec)) (bound_scoped n j (tree_at k0 body) ks long t.scoped);
}
bound_valid (Err x) k0 k1 k2 k3 n j body kind closed p q body_in kind_in ek ec within e = tt

pub bound_view : {E : Type 0} (r : Result TypeId E) (k0 k1 k2 k3 : List Node) (n : ℕ) (j : Kind) (body kind closed : ℕ) → Extends k0 k1 → Extends k1 k2 → body < length k0 → kind < length k1 → tree_at k1 kind ≡ kind_tree j
    → tree_at k2 closed ≡ closed_over n 0 (tree_at k1 body) → IfOk r (λ id. tree_at k3 id.0 ≡ LForall (tree_at k2 kind) (tree_at k2 closed))
    → IfOk r (λ id. (ks : List Kind) → length ks ≡ n → IsTypeAt k0 (j ∷ ks) body → shown_at k3 ks id.0 ≡ NTForall j (shown_at k0 (j ∷ ks) body))
unfolding shown_at indexed
bound_view (Ok id) k0 k1 k2 k3 n j body kind closed p q body_in kind_in ek ec e = λ ks long t.
    ap (indexed (length ks) 0) (e ∙ bound_tree k0 k1 k2 n j body kind closed p q body_in kind_in ek ec)
    ∙ ap (λ x. NTForall x (indexed (length ks) 1 (closed_over n 0 (tree_at k0 body)))) (kind_in-tree j) ∙ ap (λ x. NTForall j x) (indexed-generalized ks j n (sym long) (tree_at k0 body) t.scoped)
bound_view (Err x) k0 k1 k2 k3 n j body kind closed p q body_in kind_in ek ec e = tt

-- What a walk has done stays right in a longer table, and where it has nothing to do.
use Rattle.std.proofs.Common.{◌≡◌, ℕ, ◌<◌, ◌≤◌, List, length, Result, Ok, Err, IfOk, OnOk, sym, ap, ◌∙◌, arith}
use Rattle.fc_syntax.specs.declared.ty.Role.{Role}
use Rattle.indexmap.specs.IndexMap.{IndexMap}
use Rattle.fc_type_table.specs.Nodes.{Extends, Measures, tree_at}
use Rattle.fc_type_table.specs.Trees.{LCoForall, Tree, closed_over, opened}
use Rattle.fc_type_table.specs.Walks.{Closed, Opened}
use Rattle.fc_type_table.specs.declared.node.Node.{Node}
use Rattle.fc_type_table.specs.declared.node.Measure.{Measure}
use Rattle.fc_type_table.specs.declared.node.TypeId.{TypeId}
use Rattle.fc_type_table.specs.declared.spot.Spot.{Spot}
use Rattle.fc_type_table.proofs.ScopedTrees.{closed_over-itself, opened-itself}

Opened-extends : {S : Type 0} (old new : List Node) (by : ℕ) (done : IndexMap Spot TypeId S) → Extends old new → by < length old → Opened old by done → Opened new by done
Opened-extends old new by done more by_in seen =
    let at_by : tree_at new by ≡ tree_at old by = more.stays by by_in in
    record {
      from = λ s r h. let k = seen.from s r h in omega arith;
      into = λ s r h. let k = seen.into s r h in omega arith;
      right = λ s r h.
          more.stays r.0 (seen.into s r h) ∙ seen.right s r h
          ∙ sym (ap (λ u. opened s.depth u (tree_at old s.part.0)) at_by) ∙ sym (ap (λ t. opened s.depth (tree_at new by) t) (more.stays s.part.0 (seen.from s r h)));
    }

pub Opened-after : {S T E : Type 0} (r : Result T E) (old new : List Node) (by : ℕ) (done : IndexMap Spot TypeId S) → OnOk r (Extends old new) → by < length old → Opened old by done → OnOk r (Opened new by done)
Opened-after (Ok x) old new by done more by_in seen = Opened-extends old new by done more by_in seen
Opened-after (Err x) old new by done more by_in seen = tt

Closed-extends : {S : Type 0} (old new : List Node) (level : ℕ) (done : IndexMap Spot TypeId S) → Extends old new → Closed old level done → Closed new level done
Closed-extends old new level done more seen = record {
  from = λ s r h. let k = seen.from s r h in omega arith;
  into = λ s r h. let k = seen.into s r h in omega arith;
  right = λ s r h. more.stays r.0 (seen.into s r h) ∙ seen.right s r h ∙ sym (ap (λ t. closed_over level s.depth t) (more.stays s.part.0 (seen.from s r h)));
}

pub Closed-after : {S T E : Type 0} (r : Result T E) (old new : List Node) (level : ℕ) (done : IndexMap Spot TypeId S) → OnOk r (Extends old new) → Closed old level done → OnOk r (Closed new level done)
Closed-after (Ok x) old new level done more seen = Closed-extends old new level done more seen
Closed-after (Err x) old new level done more seen = tt

pub opened-measured : (k : ℕ) (u t : Tree) (m : Measure) → Measures t m → m.loose ≤ k → t ≡ opened k u t
opened-measured k u t m right h = sym (opened-itself k u t (omega arith))

pub closed_over-measured : (l k : ℕ) (t : Tree) (m : Measure) → Measures t m → m.levels ≤ l → t ≡ closed_over l k t
closed_over-measured l k t m right h = sym (closed_over-itself l k t (omega arith))

-- ---- three parts, one after the other

pub Extends-thrice : (k0 k1 k2 k3 : List Node) → Extends k0 k1 → Extends k1 k2 → Extends k2 k3 → Extends k0 k3
Extends-thrice k0 k1 k2 k3 p q s = record { longer = omega arith; stays = λ i h. s.stays i (omega arith) ∙ q.stays i (omega arith) ∙ p.stays i h }

pub Extends-after : {T E : Type 0} (r : Result T E) (k0 k1 k2 k3 k4 : List Node) → Extends k0 k1 → Extends k1 k2 → Extends k2 k3 → OnOk r (Extends k3 k4) → OnOk r (Extends k0 k4)
Extends-after (Ok x) k0 k1 k2 k3 k4 p q s l = record {
  longer = omega arith;
  stays = λ i h. l.stays i (omega arith) ∙ s.stays i (omega arith) ∙ q.stays i (omega arith) ∙ p.stays i h;
}
Extends-after (Err x) k0 k1 k2 k3 k4 p q s l = tt

-- what the walk f makes of a type that takes a coercion, where it went over its parts in turn while the table grew
pub coforall_walked : {E : Type 0} (r : Result TypeId E) (f : List Node → Tree → Tree) (k0 k1 k2 k3 k4 : List Node) (role : Role) (part left right body a b t : ℕ)
    → ((x y z : Tree) → f k0 (LCoForall role x y z) ≡ LCoForall role (f k0 x) (f k0 y) (f k0 z)) → f k1 ≡ f k0 → f k2 ≡ f k0
    → tree_at k0 part ≡ LCoForall role (tree_at k0 left) (tree_at k0 right) (tree_at k0 body) → right < length k0 → body < length k0
    → Extends k0 k1 → Extends k1 k2 → Extends k2 k3 → a < length k1 → b < length k2
    → tree_at k1 a ≡ f k0 (tree_at k0 left) → tree_at k2 b ≡ f k1 (tree_at k1 right) → tree_at k3 t ≡ f k2 (tree_at k2 body)
    → IfOk r (λ id. tree_at k4 id.0 ≡ LCoForall role (tree_at k3 a) (tree_at k3 b) (tree_at k3 t)) → IfOk r (λ id. tree_at k4 id.0 ≡ f k0 (tree_at k0 part))
coforall_walked (Ok id) f k0 k1 k2 k3 k4 role part left right body a b t each same1 same2 at right_in body_in p q s a_in b_in ea eb et e =
    let first : tree_at k3 a ≡ f k0 (tree_at k0 left) = s.stays a (omega arith) ∙ q.stays a a_in ∙ ea in
    let second : tree_at k3 b ≡ f k0 (tree_at k0 right) = s.stays b b_in ∙ eb ∙ ap (λ g. g (tree_at k1 right)) same1 ∙ ap (f k0) (p.stays right right_in) in
    let third : tree_at k3 t ≡ f k0 (tree_at k0 body) = et ∙ ap (λ g. g (tree_at k2 body)) same2 ∙ ap (f k0) (q.stays body (omega arith) ∙ p.stays body body_in) in
    e ∙ ap (λ x. LCoForall role x (tree_at k3 b) (tree_at k3 t)) first ∙ ap (λ x. LCoForall role (f k0 (tree_at k0 left)) x (tree_at k3 t)) second
    ∙ ap (λ x. LCoForall role (f k0 (tree_at k0 left)) (f k0 (tree_at k0 right)) x) third ∙ sym (each (tree_at k0 left) (tree_at k0 right) (tree_at k0 body)) ∙ sym (ap (f k0) at)
coforall_walked (Err x) f k0 k1 k2 k3 k4 role part left right body a b t each same1 same2 at right_in body_in p q s a_in b_in ea eb et e = tt

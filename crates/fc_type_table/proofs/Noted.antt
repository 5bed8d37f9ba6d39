-- What a table notes of types that were put in stays right.
use Rattle.std.proofs.Common.{◌≡◌, ℕ, ◌<◌, ◌⊎◌, List, length, Result, Ok, Err, IfOk, OnOk, OnErr, Some, inl, inr, sym, ap, subst, ◌∙◌, arith, Bool}
use Rattle.indexmap.specs.IndexMap.{IndexMap}
use Rattle.indexmap.specs.IndexSet.{insert_key}
use Rattle.fc_type_table.specs.Instances.{Instances, NamesNoted, instance_noted, name_noted}
use Rattle.fc_type_table.specs.Nodes.{Extends, tree_at}
use Rattle.fc_type_table.specs.Trees.{LCon, opened}
use Rattle.fc_type_table.specs.declared.instance.Instance.{Instance}
use Rattle.fc_type_table.specs.Names.{name_of}
use Rattle.fc_type_table.specs.declared.node.NameKey.{NameKey}
use Rattle.fc_type_table.specs.declared.node.Node.{Node}
use Rattle.fc_type_table.specs.declared.node.TypeId.{TypeId}
use Rattle.fc_type_table.proofs.SameNodes.{Extends-after, node_eq}

pub Instances-extends : {S : Type 0} (old new : List Node) (done : IndexMap Instance TypeId S) → Extends old new → Instances old done → Instances new done
Instances-extends old new done more seen = record {
  body_in = λ i r h. let k = seen.body_in i r h in omega arith;
  by_in = λ i r h. let k = seen.by_in i r h in omega arith;
  into = λ i r h. let k = seen.into i r h in omega arith;
  right = λ i r h.
      more.stays r.0 (seen.into i r h) ∙ seen.right i r h
      ∙ sym (ap (λ u. opened 0 u (tree_at old i.body.0)) (more.stays i.by.0 (seen.by_in i r h))) ∙ sym (ap (λ t. opened 0 (tree_at new i.by.0) t) (more.stays i.body.0 (seen.body_in i r h)));
}

pub Instances-after : {S E : Type 0} (r : Result (ℕ × Bool) E) (ns new : List Node) (n : Node) (done : IndexMap Instance TypeId S) → IfOk r (λ x. new ≡ insert_key node_eq ns n) → OnErr r (new ≡ ns) → Instances ns done → Instances new done
Instances-after (Ok x) ns new n done e same seen = Instances-extends ns new done (Extends-after ns new n e) seen
Instances-after (Err x) ns new n done e same seen = subst (λ k. Instances k done) (sym same) seen

-- an instance is one that was noted before, or the last
pub Instances-note : {S T E : Type 0} (r : Result T E) (ns : List Node) (old new : IndexMap Instance TypeId S) (last : Instance) (answer : TypeId)
    → last.body.0 < length ns → last.by.0 < length ns → answer.0 < length ns → tree_at ns answer.0 ≡ opened 0 (tree_at ns last.by.0) (tree_at ns last.body.0)
    → OnOk r ((i : Instance) (a : TypeId) → instance_noted new i ≡ Some a → ((i ≡ last) × (a ≡ answer)) ⊎ (instance_noted old i ≡ Some a))
    → OnErr r ((i : Instance) (a : TypeId) → instance_noted new i ≡ Some a → instance_noted old i ≡ Some a) → Instances ns old → Instances ns new
Instances-note (Ok x) ns old new last answer body_in by_in into right noted kept seen = record {
  body_in = λ i a h. elim (noted i a h) [
    | inl p ↦ subst (λ (k : Instance). k.body.0 < length ns) (sym p.0) body_in
    | inr p ↦ seen.body_in i a p
  ];
  by_in = λ i a h. elim (noted i a h) [
    | inl p ↦ subst (λ (k : Instance). k.by.0 < length ns) (sym p.0) by_in
    | inr p ↦ seen.by_in i a p
  ];
  into = λ i a h. elim (noted i a h) [
    | inl p ↦ subst (λ (k : TypeId). k.0 < length ns) (sym p.1) into
    | inr p ↦ seen.into i a p
  ];
  right = λ i a h. elim (noted i a h) [
    | inl p ↦ ap (λ (k : TypeId). tree_at ns k.0) p.1 ∙ right ∙ sym (ap (λ (k : Instance). opened 0 (tree_at ns k.by.0) (tree_at ns k.body.0)) p.0)
    | inr p ↦ seen.right i a p
  ];
}
Instances-note (Err x) ns old new last answer body_in by_in into right noted kept seen = record {
  body_in = λ i a h. seen.body_in i a (kept i a h);
  by_in = λ i a h. seen.by_in i a (kept i a h);
  into = λ i a h. seen.into i a (kept i a h);
  right = λ i a h. seen.right i a (kept i a h);
}

-- ---- names

pub NamesNoted-extends : {S : Type 0} (old new : List Node) (done : IndexMap NameKey TypeId S) → Extends old new → NamesNoted old done → NamesNoted new done
NamesNoted-extends old new done more seen = record {
  into = λ k r h. let g = seen.into k r h in omega arith;
  right = λ k r h. more.stays r.0 (seen.into k r h) ∙ seen.right k r h;
}

pub NamesNoted-after : {S E : Type 0} (r : Result (ℕ × Bool) E) (ns new : List Node) (n : Node) (done : IndexMap NameKey TypeId S) → IfOk r (λ x. new ≡ insert_key node_eq ns n) → OnErr r (new ≡ ns) → NamesNoted ns done → NamesNoted new done
NamesNoted-after (Ok x) ns new n done e same seen = NamesNoted-extends ns new done (Extends-after ns new n e) seen
NamesNoted-after (Err x) ns new n done e same seen = subst (λ k. NamesNoted k done) (sym same) seen

-- a name is one that was noted before, or the last
pub NamesNoted-note : {S T E : Type 0} (r : Result T E) (ns : List Node) (old new : IndexMap NameKey TypeId S) (last : NameKey) (answer : TypeId) → answer.0 < length ns → tree_at ns answer.0 ≡ LCon (name_of last)
    → OnOk r ((k : NameKey) (a : TypeId) → name_noted new k ≡ Some a → ((name_of last ≡ name_of k) × (a ≡ answer)) ⊎ (name_noted old k ≡ Some a))
    → OnErr r ((k : NameKey) (a : TypeId) → name_noted new k ≡ Some a → name_noted old k ≡ Some a) → NamesNoted ns old → NamesNoted ns new
NamesNoted-note (Ok x) ns old new last answer into right noted kept seen = record {
  into = λ k a h. elim (noted k a h) [
    | inl p ↦ subst (λ (i : TypeId). i.0 < length ns) (sym p.1) into
    | inr p ↦ seen.into k a p
  ];
  right = λ k a h. elim (noted k a h) [
    | inl p ↦ ap (λ (i : TypeId). tree_at ns i.0) p.1 ∙ right ∙ ap LCon p.0
    | inr p ↦ seen.right k a p
  ];
}
NamesNoted-note (Err x) ns old new last answer into right noted kept seen = record {
  into = λ k a h. seen.into k a (kept k a h);
  right = λ k a h. seen.right k a (kept k a h);
}

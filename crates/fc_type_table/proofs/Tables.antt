-- A table's nodes, and what they show.
use Rattle.std.proofs.Common.{◌≡◌, ℕ, suc, ◌+◌, ◌<◌, ◌≤◌, List, [], ◌∷◌, ◌++◌, length, get_or, take, drop, refl, sym, ap, subst, ◌∙◌, append_assoc, arith, length-append, length-take, drop-cons, slice_get, Option, Some, None, IfSome}
use Rattle.std.proofs.Math.ListN.{get_or-append}
use Rattle.std.proofs.Math.Seq.{get_or-append_seam}
use Rattle.std.proofs.lemmas.List.{take-append-drop}
use Rattle.std.proofs.lemmas.Option.{get_or_from_slice_get}
use Rattle.std.proofs.Math.Decide.{dec_lt}
use Prim.{yes, no}
use Rattle.std.specs.Option.{option_map}
use Rattle.fc_model.specs.Kinding.{Modules}
use Rattle.fc_type_table.specs.Trees.{Tree, LStar}
use Rattle.fc_type_table.specs.TreeKinds.{IsKind, kind_in}
use Rattle.fc_type_table.specs.Nodes.{trees_after, tree_at, piece_over, parts_end, no_node, HasKinds, IsKindAt, IsTable, Extends, Judges, Measures, kind_at}
use Rattle.fc_type_table.specs.declared.node.Judged.{Judged}
use Rattle.fc_type_table.specs.declared.node.Node.{Node}
use Rattle.fc_type_table.specs.declared.node.Piece.{Piece}
use Rattle.fc_type_table.specs.declared.node.TypeId.{TypeId}
use Rattle.fc_type_table.specs.declared.node.Piece.TheVariants.{Star, Hash, Arrow, Bound, Free, Con, IntHash, App, Fun, Forall, CoForall}

-- ---- what a list of nodes shows

length-trees_after : (ns : List Node) (ts : List Tree) → length (trees_after ts ns) ≡ length ts + length ns
unfolding trees_after
length-trees_after [] ts = omega arith
length-trees_after (n ∷ ns) ts = omega (arith, length-trees_after ns (ts ++ piece_over (λ i. get_or ts i LStar) n.piece ∷ []), length-append {A = Tree})

trees_after-append : (ns ms : List Node) (ts : List Tree) → trees_after ts (ns ++ ms) ≡ trees_after (trees_after ts ns) ms
unfolding trees_after
trees_after-append [] ms ts = refl
trees_after-append (n ∷ ns) ms ts = trees_after-append ns ms (ts ++ piece_over (λ i. get_or ts i LStar) n.piece ∷ [])

-- what was shown stays
kept-trees_after : (ns : List Node) (ts : List Tree) (i : ℕ) → i < length ts → get_or (trees_after ts ns) i LStar ≡ get_or ts i LStar
unfolding trees_after
kept-trees_after [] ts i h = refl
kept-trees_after (n ∷ ns) ts i h =
    kept-trees_after ns (ts ++ piece_over (λ i. get_or ts i LStar) n.piece ∷ []) i (omega (arith, length-append {A = Tree}))
    ∙ get_or-append ts (piece_over (λ i. get_or ts i LStar) n.piece ∷ []) LStar i h

-- more nodes leave the trees of those before
tree_at-append : (ns ms : List Node) (i : ℕ) → i < length ns → tree_at (ns ++ ms) i ≡ tree_at ns i
unfolding tree_at
tree_at-append ns ms i h =
    ap (λ ts. get_or ts i LStar) (trees_after-append ns ms [])
    ∙ kept-trees_after ms (trees_after [] ns) i (omega (arith, length-trees_after ns []))

-- the last node shows its tree
tree_at-last : (ns : List Node) (n : Node) → tree_at (ns ++ n ∷ []) (length ns) ≡ piece_over (tree_at ns) n.piece
unfolding tree_at trees_after
tree_at-last ns n =
    let seam = get_or-append_seam (trees_after [] ns) (piece_over (tree_at ns) n.piece) [] LStar in
    let here : length (trees_after [] ns) ≡ length ns = omega (arith, length-trees_after ns []) in
    ap (λ ts. get_or ts (length ns) LStar) (trees_after-append ns (n ∷ []) []) ∙ subst (λ k. get_or (trees_after [] ns ++ piece_over (tree_at ns) n.piece ∷ []) k LStar ≡ piece_over (tree_at ns) n.piece) here seam

-- a piece shows the same where its parts do
pub piece_over-alike : (f g : ℕ → Tree) (p : Piece) → ((i : ℕ) → i < parts_end p → f i ≡ g i) → piece_over f p ≡ piece_over g p
piece_over-alike f g Star h = refl
piece_over-alike f g Hash h = refl
piece_over-alike f g (Arrow a b) h = cc (h a.0 (omega arith), h b.0 (omega arith))
piece_over-alike f g (Bound i k) h = cc (h k.0 (omega arith))
piece_over-alike f g (Free l k) h = cc (h k.0 (omega arith))
piece_over-alike f g (Con c) h = refl
piece_over-alike f g IntHash h = refl
piece_over-alike f g (App t u) h = cc (h t.0 (omega arith), h u.0 (omega arith))
piece_over-alike f g (Fun t u) h = cc (h t.0 (omega arith), h u.0 (omega arith))
piece_over-alike f g (Forall k t) h = cc (h k.0 (omega arith), h t.0 (omega arith))
piece_over-alike f g (CoForall r a b t) h = cc (h a.0 (omega arith), h b.0 (omega arith), h t.0 (omega arith))

pub Extends-append : (ns ms : List Node) → Extends ns (ns ++ ms)
Extends-append ns ms = record { longer = omega (arith, length-append {A = Node}); stays = tree_at-append ns ms }

pub Extends-refl : (ns : List Node) → Extends ns ns
Extends-refl ns = record { longer = omega arith; stays = λ i h. refl }

-- a piece whose parts stand in the table before shows the same in the table after
pub piece_over-extends : (old new : List Node) → Extends old new → (p : Piece) → parts_end p ≤ length old → piece_over (tree_at new) p ≡ piece_over (tree_at old) p
piece_over-extends old new more p fits = piece_over-alike (tree_at new) (tree_at old) p (λ i h. more.stays i (omega arith))

-- ---- kinds that are told, in a longer table

pub IsKindAt-extends : (old new : List Node) (id : ℕ) → Extends old new → IsKindAt old id → IsKindAt new id
IsKindAt-extends old new id more k = record { within = let w = k.within in let l = more.longer in omega arith; is_kind = subst IsKind (sym (more.stays id k.within)) k.is_kind }

pub kind_at-extends : (old new : List Node) (id : ℕ) → Extends old new → id < length old → kind_at new id ≡ kind_at old id
unfolding kind_at
kind_at-extends old new id more h = ap kind_in (more.stays id h)

told_is_kind : (old new : List Node) (o : Option TypeId) → Extends old new → IfSome o (λ k. IsKindAt old k.0) → IfSome o (λ k. IsKindAt new k.0)
told_is_kind old new None more h = tt
told_is_kind old new (Some k) more h = IsKindAt-extends old new k.0 more h

told_kind : (old new : List Node) (o : Option TypeId) → Extends old new → IfSome o (λ k. IsKindAt old k.0) → option_map (λ (k : TypeId). kind_at new k.0) o ≡ option_map (λ (k : TypeId). kind_at old k.0) o
told_kind old new None more h = refl
told_kind old new (Some k) more h = ap (λ x. Some x) (kind_at-extends old new k.0 more h.within)

pub Judges-extends : (ms : Modules) (old new : List Node) (t : Tree) (j : Judged) → Extends old new → Judges ms old t j → Judges ms new t j
Judges-extends ms old new t j more h = record {
  lifted = h.lifted;
  needed = h.needed;
  is_kind = told_is_kind old new j.kind more h.is_kind;
  kind = told_kind old new j.kind more h.is_kind ∙ h.kind;
}

split_at : (ns : List Node) (i : ℕ) → i < length ns → ns ≡ take i ns ++ (get_or ns i no_node ∷ drop (suc i) ns)
split_at ns i h = sym (take-append-drop i ns) ∙ ap (λ xs. take i ns ++ xs) (drop-cons ns i no_node h)

-- each node shows what it is over the whole table
pub tree_at-node : (ms : Modules) (ns : List Node) → IsTable ms ns → (i : ℕ) → i < length ns → tree_at ns i ≡ piece_over (tree_at ns) (get_or ns i no_node).piece
tree_at-node ms ns table i h =
    let n = get_or ns i no_node in
    let before = take i ns in
    let after = drop (suc i) ns in
    let long : length before ≡ i = omega (arith, length-take i ns) in
    let parts : ns ≡ (before ++ n ∷ []) ++ after = split_at ns i h ∙ sym (append_assoc before (n ∷ []) after) in
    let first : tree_at ((before ++ n ∷ []) ++ after) i ≡ tree_at (before ++ n ∷ []) i = tree_at-append (before ++ n ∷ []) after i (omega (arith, length-append before (n ∷ []))) in
    let last : tree_at (before ++ n ∷ []) i ≡ piece_over (tree_at before) n.piece = subst (λ k. tree_at (before ++ n ∷ []) k ≡ piece_over (tree_at before) n.piece) long (tree_at-last before n) in
    let alike : piece_over (tree_at before) n.piece ≡ piece_over (tree_at ns) n.piece =
    piece_over-alike (tree_at before) (tree_at ns) n.piece (λ k below. let near : k < i = omega (arith, table.parts_first i h) in
    sym (tree_at-append before (n ∷ after) k (omega arith)) ∙ sym (ap (λ xs. tree_at xs k) (split_at ns i h))) in
    ap (λ xs. tree_at xs i) parts ∙ first ∙ last ∙ alike

-- a node that is read
module _ (ms : Modules) (ns : List Node) (table : IsTable ms ns) (i : ℕ) (n : Node) (h : i < length ns) (at : slice_get ns i ≡ Some n) where
  there : get_or ns i no_node ≡ n
  there = get_or_from_slice_get ns i n no_node at

  pub read_shown : tree_at ns i ≡ piece_over (tree_at ns) n.piece
  read_shown = tree_at-node ms ns table i h ∙ ap (λ (m : Node). piece_over (tree_at ns) m.piece) there

  pub read_parts : parts_end n.piece ≤ i
  read_parts = subst (λ (m : Node). parts_end m.piece ≤ i) there (table.parts_first i h)

  pub read_measure : Measures (tree_at ns i) n.measure
  read_measure = subst (λ (m : Node). Measures (tree_at ns i) m.measure) there (table.measured i h)

  pub read_judged : Judges ms ns (tree_at ns i) n.judged
  read_judged = subst (λ (m : Node). Judges ms ns (tree_at ns i) m.judged) there (table.judged i h)

  pub read_kinds : HasKinds (piece_over (tree_at ns) n.piece)
  read_kinds = subst HasKinds read_shown (table.kinds i h)

-- ---- one more node

module _ (ms : Modules) (ns : List Node) (n : Node) (table : IsTable ms ns) (fits : parts_end n.piece ≤ length ns) (labels : HasKinds (piece_over (tree_at ns) n.piece))
    (right : Measures (piece_over (tree_at ns) n.piece) n.measure) (told : Judges ms ns (piece_over (tree_at ns) n.piece) n.judged) where
  last_piece : (i : ℕ) → i ≡ length ns → get_or (ns ++ n ∷ []) i no_node ≡ n
  last_piece i e = rw e (rw (get_or-append_seam ns n [] no_node) refl)

  last_tree : (i : ℕ) → i ≡ length ns → tree_at (ns ++ n ∷ []) i ≡ piece_over (tree_at ns) n.piece
  last_tree i e = rw e (tree_at-last ns n)

  parts_first : (i : ℕ) → i < length (ns ++ n ∷ []) → parts_end (get_or (ns ++ n ∷ []) i no_node).piece ≤ i
  parts_first i h =
      elim (dec_lt i (length ns)) [
        | yes g ↦ rw (get_or-append ns (n ∷ []) no_node i g) (table.parts_first i g)
        | no g ↦ let last : i ≡ length ns = omega (arith, length-append ns (n ∷ [])) in rw last (rw (get_or-append_seam ns n [] no_node) fits)
      ]

  kinds : (i : ℕ) → i < length (ns ++ n ∷ []) → HasKinds (tree_at (ns ++ n ∷ []) i)
  kinds i h =
      elim (dec_lt i (length ns)) [
        | yes g ↦ subst HasKinds (sym (tree_at-append ns (n ∷ []) i g)) (table.kinds i g)
        | no g ↦ let last : i ≡ length ns = omega (arith, length-append ns (n ∷ [])) in subst HasKinds (sym (last_tree i last)) labels
      ]

  measured : (i : ℕ) → i < length (ns ++ n ∷ []) → Measures (tree_at (ns ++ n ∷ []) i) (get_or (ns ++ n ∷ []) i no_node).measure
  measured i h =
      elim (dec_lt i (length ns)) [
        | yes g ↦ rw (get_or-append ns (n ∷ []) no_node i g) (rw (tree_at-append ns (n ∷ []) i g) (table.measured i g))
        | no g ↦ let last : i ≡ length ns = omega (arith, length-append ns (n ∷ [])) in rw (last_piece i last) (rw (last_tree i last) right)
      ]

  judged : (i : ℕ) → i < length (ns ++ n ∷ []) → Judges ms (ns ++ n ∷ []) (tree_at (ns ++ n ∷ []) i) (get_or (ns ++ n ∷ []) i no_node).judged
  judged i h =
      let more = ns ++ n ∷ [] in
      elim (dec_lt i (length ns)) [
        | yes g ↦
            subst (λ t. Judges ms more t (get_or more i no_node).judged) (sym (tree_at-append ns (n ∷ []) i g))
            (subst (λ (m : Node). Judges ms more (tree_at ns i) m.judged) (sym (get_or-append ns (n ∷ []) no_node i g))
            (Judges-extends ms ns more (tree_at ns i) (get_or ns i no_node).judged (Extends-append ns (n ∷ [])) (table.judged i g)))
        | no g ↦ let last : i ≡ length ns = omega (arith, length-append ns (n ∷ [])) in
            subst (λ t. Judges ms more t (get_or more i no_node).judged) (sym (last_tree i last))
            (subst (λ (m : Node). Judges ms more (piece_over (tree_at ns) n.piece) m.judged) (sym (last_piece i last))
            (Judges-extends ms ns more (piece_over (tree_at ns) n.piece) n.judged (Extends-append ns (n ∷ [])) told))
      ]

  pub IsTable-push : ((j : ℕ) → j < length ns → tree_at ns j ≡ piece_over (tree_at ns) n.piece → ⊥) → IsTable ms (ns ++ n ∷ [])
  IsTable-push apart = record { parts_first = parts_first; kinds = kinds; measured = measured; judged = judged; once = once }
    where
      once : (i j : ℕ) → i < length (ns ++ n ∷ []) → j < length (ns ++ n ∷ []) → tree_at (ns ++ n ∷ []) i ≡ tree_at (ns ++ n ∷ []) j → i ≡ j
      once i j a b e =
          elim (dec_lt i (length ns)) [
            | yes g ↦ elim (dec_lt j (length ns)) [
              | yes k ↦ table.once i j g k (sym (tree_at-append ns (n ∷ []) i g) ∙ e ∙ tree_at-append ns (n ∷ []) j k)
              | no k ↦ let last : j ≡ length ns = omega (arith, length-append ns (n ∷ [])) in absurd (apart i g (sym (tree_at-append ns (n ∷ []) i g) ∙ e ∙ last_tree j last))
            ]
            | no g ↦ let last : i ≡ length ns = omega (arith, length-append ns (n ∷ [])) in elim (dec_lt j (length ns)) [
              | yes k ↦ absurd (apart j k (sym (tree_at-append ns (n ∷ []) j k) ∙ sym e ∙ last_tree i last))
              | no k ↦ omega (arith, length-append ns (n ∷ []))
            ]
          ]

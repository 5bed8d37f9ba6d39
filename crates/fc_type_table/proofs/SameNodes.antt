-- The test for nodes decides whether two nodes show the same, and the table after a call of `insert_full`.
use Rattle.std.proofs.Common.{◌≡◌, ℕ, ◌<◌, ◌≤◌, Bool, true, false, true≢false, List, [], ◌∷◌, ◌++◌, length, get_or, refl, sym, ap, subst, ◌∙◌, rules, arith, length-append, Result, Ok, Err, IfOk, OnErr, Some, slice_get, if◌then◌else◌, ◌&&◌, nat_eq, Option, None, IfSome}
use Rattle.std.proofs.Math.ListN.{get_or-append}
use Rattle.std.proofs.Math.Seq.{get_or-append_seam}
use Rattle.std.proofs.lemmas.Bool.{and_parts}
use Rattle.std.proofs.lemmas.Bool.Decides.{nat_tests}
use Rattle.std.proofs.lemmas.Map.Keys.{apart_from_distinct}
use Rattle.std.proofs.lemmas.Option.{get_or_from_slice_get}
use Rattle.std.specs.List.{IsDistinct, list_any}
use Rattle.std.specs.Option.{option_eq, option_map}
use Rattle.fc_model.specs.Kinding.{Modules}
use Rattle.indexmap.specs.IndexSet.{insert_key}
use Rattle.fc_type_table.specs.Trees.{Tree}
use Rattle.fc_type_table.specs.TreeKinds.{kind_tree}
use Rattle.fc_type_table.specs.Nodes.{HasKinds, IsKindAt, IsTable, Extends, Judges, Measures, kind_at, parts_end, piece_over, tree_at, no_node}
use Rattle.fc_type_table.proofs.NameKeys.{key_eq-of, key_eq-same}
use Rattle.fc_type_table.proofs.KindTrees.{kind_tree-in}
use Rattle.fc_type_table.proofs.Tables.{IsTable-push, Extends-append, Extends-refl, piece_over-alike, tree_at-node}
use Rattle.fc_type_table.specs.declared.node.Judged.{Judged}
use Rattle.fc_type_table.specs.declared.node.Measure.{Measure}
use Rattle.fc_type_table.specs.declared.node.Node.{Node}
use Rattle.fc_type_table.specs.declared.node.Piece.{Piece}
use Rattle.fc_type_table.specs.declared.node.Piece.TheVariants.{Star, Hash, Arrow, Bound, Free, Con, IntHash, App, Fun, Forall, CoForall}
use Rattle.fc_type_table.specs.declared.node.TypeId.{TypeId}
use Rattle.fc_type_table.specs.contracts.node.PiecePartialEq.TheImpl as of_pieces
use Rattle.fc_type_table.specs.contracts.node.MeasurePartialEq.TheImpl as of_measures
use Rattle.fc_type_table.specs.contracts.node.JudgedPartialEq.TheImpl as of_judged
use Rattle.fc_type_table.specs.contracts.node.NodePartialEq.TheImpl as of_nodes

abbrev pub piece_eq : Piece → Piece → Bool
piece_eq = of_pieces.eq-value.it

abbrev pub measure_eq : Measure → Measure → Bool
measure_eq = of_measures.eq-value.it

abbrev pub judged_eq : Judged → Judged → Bool
judged_eq = of_judged.eq-value.it

abbrev pub node_eq : Node → Node → Bool
node_eq = of_nodes.eq-value.it

piece_eq-itself : (p : Piece) → piece_eq p p ≡ true
piece_eq-itself Star = refl
piece_eq-itself Hash = refl
piece_eq-itself (Arrow a b) = search rules
piece_eq-itself (Bound i k) = search rules
piece_eq-itself (Free i k) = search rules
piece_eq-itself (Con n) = key_eq-of n n refl
piece_eq-itself IntHash = refl
piece_eq-itself (App t u) = search rules
piece_eq-itself (Fun t u) = search rules
piece_eq-itself (Forall k t) = search rules
piece_eq-itself (CoForall r a b t) = search rules

piece_eq-same : (f : ℕ → Tree) (p q : Piece) → piece_eq p q ≡ true → piece_over f p ≡ piece_over f q
piece_eq-same f Star Star e = refl
piece_eq-same f Hash Hash e = refl
piece_eq-same f (Arrow a b) (Arrow c d) e = let h : Arrow a b ≡ Arrow c d = search rules in ap (piece_over f) h
piece_eq-same f (Bound i k) (Bound j l) e = let h : Bound i k ≡ Bound j l = search rules in ap (piece_over f) h
piece_eq-same f (Free i k) (Free j l) e = let h : Free i k ≡ Free j l = search rules in ap (piece_over f) h
piece_eq-same f (Con m) (Con n) e = cc (key_eq-same m n e)
piece_eq-same f IntHash IntHash e = refl
piece_eq-same f (App t u) (App v w) e = let h : App t u ≡ App v w = search rules in ap (piece_over f) h
piece_eq-same f (Fun t u) (Fun v w) e = let h : Fun t u ≡ Fun v w = search rules in ap (piece_over f) h
piece_eq-same f (Forall j t) (Forall k u) e = let h : Forall j t ≡ Forall k u = search rules in ap (piece_over f) h
piece_eq-same f (CoForall r a b t) (CoForall s c d u) e = let h : CoForall r a b t ≡ CoForall s c d u = search rules in ap (piece_over f) h
piece_eq-same f p q e = absurd (true≢false (sym e))

same_id : (t u : TypeId) → t.0 ≡ u.0 → t ≡ u
same_id t u e = ap (λ (n : ℕ). let r : TypeId = record { 0 = n } in r) e

alike : (p q : Piece) → p ≡ q → piece_eq p q ≡ true
alike p q e = ap (λ x. piece_eq p x) (sym e) ∙ piece_eq-itself p

-- two pieces that show the same pass the test, where trees tell the numbers of their parts apart
same_piece : (f : ℕ → Tree) (end : ℕ) (apart : (i j : ℕ) → i < end → j < end → f i ≡ f j → i ≡ j) (p q : Piece) → parts_end p ≤ end → parts_end q ≤ end
    → piece_over f p ≡ piece_over f q → piece_eq p q ≡ true
same_piece f end apart Star Star h g e = refl
same_piece f end apart Hash Hash h g e = refl
same_piece f end apart (Arrow t u) (Arrow v w) h g e = alike (Arrow t u) (Arrow v w) (cc (same_id t v (apart t.0 v.0 (omega arith) (omega arith) (cc)), same_id u w (apart u.0 w.0 (omega arith) (omega arith) (cc))))
same_piece f end apart (Bound i k) (Bound j l) h g e = alike (Bound i k) (Bound j l) (cc (same_id k l (apart k.0 l.0 (omega arith) (omega arith) (cc))))
same_piece f end apart (Free i k) (Free j l) h g e = alike (Free i k) (Free j l) (cc (same_id k l (apart k.0 l.0 (omega arith) (omega arith) (cc))))
same_piece f end apart (Con m) (Con n) h g e = key_eq-of m n (cc)
same_piece f end apart IntHash IntHash h g e = refl
same_piece f end apart (App t u) (App v w) h g e = alike (App t u) (App v w) (cc (same_id t v (apart t.0 v.0 (omega arith) (omega arith) (cc)), same_id u w (apart u.0 w.0 (omega arith) (omega arith) (cc))))
same_piece f end apart (Fun t u) (Fun v w) h g e = alike (Fun t u) (Fun v w) (cc (same_id t v (apart t.0 v.0 (omega arith) (omega arith) (cc)), same_id u w (apart u.0 w.0 (omega arith) (omega arith) (cc))))
same_piece f end apart (Forall t u) (Forall v w) h g e = alike (Forall t u) (Forall v w) (cc (same_id t v (apart t.0 v.0 (omega arith) (omega arith) (cc)), same_id u w (apart u.0 w.0 (omega arith) (omega arith) (cc))))
same_piece f end apart (CoForall r s t u) (CoForall o v w x) h g e =
    alike (CoForall r s t u) (CoForall o v w x) (cc (same_id s v (apart s.0 v.0 (omega arith) (omega arith) (cc)), same_id t w (apart t.0 w.0 (omega arith) (omega arith) (cc)), same_id u x (apart u.0 x.0 (omega arith) (omega arith) (cc))))
same_piece f end apart p q h g e = cc

-- what is right of one tree is the same
same_measures : (t : Tree) (m n : Measure) → Measures t m → Measures t n → measure_eq m n ≡ true
same_measures t m n p q =
    let d : m.depth ≡ n.depth = cc in
    let l : m.loose ≡ n.loose = cc in
    let s : m.levels ≡ n.levels = cc in
    grind (arith, nat_tests)

-- numbers of one kind are the same
same_kind_numbers : (ns : List Node) (apart : (i j : ℕ) → i < length ns → j < length ns → tree_at ns i ≡ tree_at ns j → i ≡ j) (j k : TypeId) → IsKindAt ns j.0 → IsKindAt ns k.0
    → kind_at ns j.0 ≡ kind_at ns k.0 → j ≡ k
unfolding kind_at
same_kind_numbers ns apart j k p q e =
    same_id j k (apart j.0 k.0 p.within q.within (sym (kind_tree-in (tree_at ns j.0) p.is_kind) ∙ ap kind_tree e ∙ kind_tree-in (tree_at ns k.0) q.is_kind))

id_eq : Option TypeId → Option TypeId → Bool
id_eq a b = option_eq (λ x y. nat_eq x.0 y.0) a b

-- what is told of one tree's kind is the same
same_told : (ns : List Node) (apart : (i j : ℕ) → i < length ns → j < length ns → tree_at ns i ≡ tree_at ns j → i ≡ j) (a b : Option TypeId) → IfSome a (λ k. IsKindAt ns k.0) → IfSome b (λ k. IsKindAt ns k.0)
    → option_map (λ (k : TypeId). kind_at ns k.0) a ≡ option_map (λ (k : TypeId). kind_at ns k.0) b → a ≡ b
same_told ns apart None None p q e = refl
same_told ns apart (Some j) (Some k) p q e = ap (λ x. Some x) (same_kind_numbers ns apart j k p q (cc))
same_told ns apart (Some j) None p q e = cc
same_told ns apart None (Some k) p q e = cc

judged_eq-itself : (j : Judged) → judged_eq j j ≡ true
judged_eq-itself j = by j.kind
  where
    by : (k : Option TypeId) → judged_eq (record { lifted = j.lifted; needed = j.needed; kind = k }) (record { lifted = j.lifted; needed = j.needed; kind = k }) ≡ true
    by None = grind (arith, nat_tests)
    by (Some k) = grind (arith, nat_tests)

one_judged : (a b : Bool) (m n : ℕ) (j k : Option TypeId) → a ≡ b → m ≡ n → j ≡ k → (let r : Judged = record { lifted = a; needed = m; kind = j } in r) ≡ (let r : Judged = record { lifted = b; needed = n; kind = k } in r)
one_judged a b m n j k p q r = cc

same_judged : (ms : Modules) (ns : List Node) (apart : (i j : ℕ) → i < length ns → j < length ns → tree_at ns i ≡ tree_at ns j → i ≡ j) (t : Tree) (m n : Judged) → Judges ms ns t m → Judges ms ns t n → judged_eq m n ≡ true
same_judged ms ns apart t m n p q =
    let l : m.lifted ≡ n.lifted = p.lifted ∙ sym q.lifted in
    let d : m.needed ≡ n.needed = p.needed ∙ sym q.needed in
    let k : m.kind ≡ n.kind = same_told ns apart m.kind n.kind p.is_kind q.is_kind (p.kind ∙ sym q.kind) in
    let same : n ≡ m = sym (one_judged m.lifted n.lifted m.needed n.needed m.kind n.kind l d k) in
    ap (λ (x : Judged). judged_eq m x) same ∙ judged_eq-itself m

pub same_node : (ms : Modules) (ns : List Node) (apart : (i j : ℕ) → i < length ns → j < length ns → tree_at ns i ≡ tree_at ns j → i ≡ j) (m n : Node) → parts_end m.piece ≤ length ns → parts_end n.piece ≤ length ns
    → Measures (piece_over (tree_at ns) m.piece) m.measure → Measures (piece_over (tree_at ns) n.piece) n.measure → Judges ms ns (piece_over (tree_at ns) m.piece) m.judged → Judges ms ns (piece_over (tree_at ns) n.piece) n.judged
    → piece_over (tree_at ns) m.piece ≡ piece_over (tree_at ns) n.piece → node_eq m n ≡ true
same_node ms ns apart m n h g a b c d e =
    let pieces : piece_eq m.piece n.piece ≡ true = same_piece (tree_at ns) (length ns) apart m.piece n.piece h g e in
    let kept : measure_eq m.measure n.measure ≡ true = same_measures (piece_over (tree_at ns) m.piece) m.measure n.measure a (subst (λ t. Measures t n.measure) (sym e) b) in
    let told : judged_eq m.judged n.judged ≡ true = same_judged ms ns apart (piece_over (tree_at ns) m.piece) m.judged n.judged c (subst (λ t. Judges ms ns t n.judged) (sym e) d) in
    rw (pieces, kept, told) refl

pub node_eq-same : (f : ℕ → Tree) (m n : Node) → node_eq m n ≡ true → piece_over f m.piece ≡ piece_over f n.piece
node_eq-same f m n e = piece_eq-same f m.piece n.piece (and_parts (piece_eq m.piece n.piece) (measure_eq m.measure n.measure && judged_eq m.judged n.judged) e).0

-- ---- the table after a call of insert_full

-- a node that is put in is right
pub record Fits (ms : Modules) (ns : List Node) (n : Node) : Type 0 where
  pub parts : parts_end n.piece ≤ length ns
  pub labels : HasKinds (piece_over (tree_at ns) n.piece)
  pub measured : Measures (piece_over (tree_at ns) n.piece) n.measure
  pub told : Judges ms ns (piece_over (tree_at ns) n.piece) n.judged

-- a node that none before equals shows what none before shows
new_apart : (ms : Modules) (ns : List Node) (n : Node) → IsTable ms ns → Fits ms ns n → IsDistinct node_eq (ns ++ n ∷ [])
    → (j : ℕ) → j < length ns → tree_at ns j ≡ piece_over (tree_at ns) n.piece → ⊥
new_apart ms ns n table fits distinct j near e =
    let m = get_or ns j no_node in
    let more = ns ++ n ∷ [] in
    let at_j : tree_at ns j ≡ piece_over (tree_at ns) m.piece = tree_at-node ms ns table j near in
    let same : node_eq m n ≡ true = same_node ms ns table.once m n (omega (arith, table.parts_first j near)) fits.parts
    (subst (λ t. Measures t m.measure) at_j (table.measured j near)) fits.measured (subst (λ t. Judges ms ns t m.judged) at_j (table.judged j near)) fits.told (sym at_j ∙ e) in
    let other : node_eq (get_or more j no_node) (get_or more (length ns) no_node) ≡ false =
    apart_from_distinct node_eq more j (length ns) no_node distinct near (omega (arith, length-append ns (n ∷ []))) in
    let here : get_or more j no_node ≡ m = get_or-append ns (n ∷ []) no_node j near in
    let last : get_or more (length ns) no_node ≡ n = get_or-append_seam ns n [] no_node in
    true≢false (sym same ∙ sym (ap (λ x. node_eq x n) here) ∙ sym (ap (λ x. node_eq (get_or more j no_node) x) last) ∙ other)

-- the nodes after a node was put in
IsTable-insert : (ms : Modules) (ns : List Node) (n : Node) → IsTable ms ns → Fits ms ns n → IsDistinct node_eq (insert_key node_eq ns n) → IsTable ms (insert_key node_eq ns n)
IsTable-insert ms ns n table fits = by (list_any (node_eq n) ns)
  where
    by : (b : Bool) → IsDistinct node_eq (if b then ns else ns ++ n ∷ []) → IsTable ms (if b then ns else ns ++ n ∷ [])
    by true d = table
    by false d = IsTable-push ms ns n table fits.parts fits.labels fits.measured fits.told (new_apart ms ns n table fits d)

Extends-insert : (ns : List Node) (n : Node) → Extends ns (insert_key node_eq ns n)
Extends-insert ns n = by (list_any (node_eq n) ns)
  where
    by : (b : Bool) → Extends ns (if b then ns else ns ++ n ∷ [])
    by true = Extends-refl ns
    by false = Extends-append ns (n ∷ [])

pub IsTable-after : {E : Type 0} (r : Result (ℕ × Bool) E) (ms : Modules) (ns new : List Node) (n : Node) → IsTable ms ns → Fits ms ns n
    → IsDistinct node_eq new → IfOk r (λ x. new ≡ insert_key node_eq ns n) → OnErr r (new ≡ ns) → IsTable ms new
IsTable-after (Ok x) ms ns new n table fits distinct e same = subst (IsTable ms) (sym e) (IsTable-insert ms ns n table fits (subst (IsDistinct node_eq) e distinct))
IsTable-after (Err x) ms ns new n table fits distinct e same = subst (IsTable ms) (sym same) table

pub Extends-after : (ns new : List Node) (n : Node) → new ≡ insert_key node_eq ns n → Extends ns new
Extends-after ns new n e = subst (Extends ns) (sym e) (Extends-insert ns n)

-- the number where a node stands shows the node
pub shown_there : (ms : Modules) (ns new : List Node) (n k : Node) (i : ℕ) → IsTable ms new → Extends ns new → parts_end n.piece ≤ length ns → i < length new → slice_get new i ≡ Some k → node_eq n k ≡ true
    → tree_at new i ≡ piece_over (tree_at ns) n.piece
shown_there ms ns new n k i table more fits within at e =
    let there : get_or new i no_node ≡ k = get_or_from_slice_get new i k no_node at in
    tree_at-node ms new table i within ∙ ap (λ (m : Node). piece_over (tree_at new) m.piece) there ∙ sym (node_eq-same (tree_at new) n k e)
    ∙ piece_over-alike (tree_at new) (tree_at ns) n.piece (λ j h. more.stays j (omega arith))

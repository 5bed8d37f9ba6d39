-- Numbers of types: in a table that grows, and in a context that grows.
use Rattle.std.proofs.Common.{◌≡◌, ℕ, suc, ◌+◌, ◌≤◌, Bool, true, false, true≢false, List, [], ◌∷◌, ◌++◌, length, nat_eq, refl, sym, ap, subst, ◌∙◌, arith, eq-eqb}
use borrow.Author.Tests.{eqb-true}
use Rattle.fc_syntax.specs.Tree.{Kind}
use Rattle.fc_model.proofs.Sameness.{same_type_eq, same_type_of}
use Rattle.fc_model.specs.Kinding.{Modules, same_type}
use Rattle.fc_model.specs.Nameless.{NTy}
use Rattle.fc_model.specs.Substituting.{shifted_type}
use Rattle.fc_type_table.specs.Nodes.{Extends, IsKindAt, IsTable, kind_at, tree_at}
use Rattle.fc_type_table.specs.Scopes.{IsTypeAt, Scoped, indexed, shown_at}
use Rattle.fc_type_table.specs.Trees.{level_end}
use Rattle.fc_type_table.specs.TypeTables.{Grows, past}
use Rattle.fc_type_table.specs.declared.node.Node.{Node}
use Rattle.fc_type_table.specs.declared.table.TypeTable.{TypeTable}
use Rattle.fc_type_table.proofs.Levels.{indexed-apart, indexed-more}
use Rattle.fc_type_table.proofs.ScopedTrees.{Scoped-stronger, Scoped-weaker, renamed-mentions}
use Rattle.fc_type_table.proofs.Tables as tables

-- numbers are equal exactly where they show the same
pub same_types : (ms : Modules) (ns : List Node) → IsTable ms ns → (ks : List Kind) (i j : ℕ) → IsTypeAt ns ks i → IsTypeAt ns ks j → nat_eq i j ≡ same_type (shown_at ns ks i) (shown_at ns ks j)
unfolding shown_at
same_types ms ns table ks i j t u = by (nat_eq i j) (same_type (indexed (length ks) 0 (tree_at ns i)) (indexed (length ks) 0 (tree_at ns j))) refl refl
  where
    by : (b c : Bool) → nat_eq i j ≡ b → same_type (indexed (length ks) 0 (tree_at ns i)) (indexed (length ks) 0 (tree_at ns j)) ≡ c → b ≡ c
    by true c e s = sym (same_type_of (ap (λ x. indexed (length ks) 0 (tree_at ns x)) (eqb-true i j e))) ∙ s
    by false false e s = refl
    by false true e s =
        let trees : tree_at ns i ≡ tree_at ns j =
        indexed-apart ks (tree_at ns i) (tree_at ns j) t.scoped u.scoped (same_type_eq (indexed (length ks) 0 (tree_at ns i)) (indexed (length ks) 0 (tree_at ns j)) s) in
        absurd (true≢false (sym (eq-eqb i j (table.once i j t.within u.within trees)) ∙ e))

-- ---- a table that grows

pub IsTypeAt-grows : (old new : List Node) (ks : List Kind) (id : ℕ) → Extends old new → IsTypeAt old ks id → IsTypeAt new ks id
IsTypeAt-grows old new ks id more t = record { within = let w = t.within in let l = more.longer in omega arith; scoped = subst (Scoped ks []) (sym (more.stays id t.within)) t.scoped }

pub shown_at-grows : (old new : List Node) (ks : List Kind) (id : ℕ) → Extends old new → IsTypeAt old ks id → shown_at new ks id ≡ shown_at old ks id
unfolding shown_at
shown_at-grows old new ks id more t = ap (indexed (length ks) 0) (more.stays id t.within)

pub IsKindAt-grows : (old new : List Node) (id : ℕ) → Extends old new → IsKindAt old id → IsKindAt new id
IsKindAt-grows old new id more k = tables.IsKindAt-extends old new id more k

pub kind_at-grows : (old new : List Node) (id : ℕ) → Extends old new → IsKindAt old id → kind_at new id ≡ kind_at old id
kind_at-grows old new id more k = tables.kind_at-extends old new id more k.within

pub Extends-further : (a b c : List Node) → Extends a b → Extends b c → Extends a c
Extends-further a b c p q = record { longer = omega arith; stays = λ i h. q.stays i (omega arith) ∙ p.stays i h }

pub Extends-refl : (a : List Node) → Extends a a
Extends-refl a = tables.Extends-refl a

pub Grows-refl : (a : TypeTable) → Grows a a
Grows-refl a = record { nodes = tables.Extends-refl a.nodes.keys; modules = refl }

pub Grows-further : (a b c : TypeTable) → Grows a b → Grows b c → Grows a c
Grows-further a b c p q = record { nodes = Extends-further a.nodes.keys b.nodes.keys c.nodes.keys p.nodes q.nodes; modules = q.modules ∙ p.modules }

-- ---- a context that grows

pub IsTypeAt-more : (ns : List Node) (bs ks : List Kind) (id : ℕ) → IsTypeAt ns ks id → IsTypeAt ns (bs ++ ks) id
IsTypeAt-more ns bs ks id t = record { within = t.within; scoped = Scoped-weaker bs ks [] (tree_at ns id) t.scoped }

pub shown_at-more : (ns : List Node) (bs ks : List Kind) (id : ℕ) → IsTypeAt ns ks id → shown_at ns (bs ++ ks) id ≡ past (length bs) (shown_at ns ks id)
unfolding shown_at
shown_at-more ns bs ks id t = indexed-more (λ i. i + length bs) bs ks (λ i. refl) (tree_at ns id) t.scoped

pub IsTypeAt-weaker : (ns : List Node) (k : Kind) (ks : List Kind) (id : ℕ) → IsTypeAt ns ks id → IsTypeAt ns (k ∷ ks) id
IsTypeAt-weaker ns k ks id t = record { within = t.within; scoped = Scoped-weaker (k ∷ []) ks [] (tree_at ns id) t.scoped }

pub shown_at-weaker : (ns : List Node) (k : Kind) (ks : List Kind) (id : ℕ) → IsTypeAt ns ks id → shown_at ns (k ∷ ks) id ≡ shifted_type (shown_at ns ks id)
unfolding shown_at
shown_at-weaker ns k ks id t =
    indexed-more (λ i. suc i) (k ∷ []) ks (λ i. let e : suc i ≡ i + length (k ∷ []) = omega arith in e) (tree_at ns id) t.scoped

-- ---- a context that shrinks

pub IsTypeAt-stronger : (ns : List Node) (bs ks : List Kind) (id : ℕ) → level_end (tree_at ns id) ≤ length ks → IsTypeAt ns (bs ++ ks) id → IsTypeAt ns ks id
IsTypeAt-stronger ns bs ks id h t = record { within = t.within; scoped = Scoped-stronger bs ks [] (tree_at ns id) t.scoped h }

pub past-mentions : (ns : List Node) (bs ks : List Kind) (id : ℕ) (t : NTy) → IsTypeAt ns (bs ++ ks) id → shown_at ns (bs ++ ks) id ≡ past (length bs) t → level_end (tree_at ns id) ≤ length ks
unfolding shown_at
past-mentions ns bs ks id t s e = renamed-mentions (λ i. i + length bs) bs ks [] (λ i. refl) 0 refl (tree_at ns id) s.scoped t e

-- what a caller needs whose table or context grows
pub ruleset number_rules = (IsTypeAt-grows, shown_at-grows, IsKindAt-grows, kind_at-grows, Extends-further, Grows-further, Grows-refl, IsTypeAt-weaker, shown_at-weaker)

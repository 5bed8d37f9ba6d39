-- The parts of a known constructor: the binders of its alternative, and the sorts of its fields.
use Rattle.std.proofs.Common.{◌≡◌, ℕ, suc, ◌+◌, List, [], ◌∷◌, length, Some, refl, sym, ap, ◌∙◌, subst, arith}
use Rattle.fc_syntax.specs.declared.expr.Head.{Head}
use Rattle.fc_model.specs.Erasure.{Scope, below_all, below_unnamed, below_value, binder_sorts, erased, erased_alts, erased_head, sort_of_type}
use Rattle.fc_model.specs.Nameless.{NBinder, NBValue, NBType, NBCo, NLocal, NAlts, NoNAlts, MoreNAlts, NBranch}
use Rattle.fc_model.specs.Terms.{Sort, Lifted, Unlifted, Var, Con, enters, head_sorts, ren, sort_at, upr, IsAtom, IsSorted, AreSorted, HasSorts}
use Rattle.fc_rows.specs.Surroundings.{value_count, as_arguments}
use Rattle.fc_meaning.proofs.SortsKept.{Renames, length-head_sorts, sorted_ren}
use Rattle.fc_meaning.proofs.WrittenExpressions.{AreArgsWritten, HasOwnBinders}
use Rattle.fc_counted.specs.Places.{heads_of}
use Rattle.fc_erased.proofs.ErasedBinders.{own_binders}
use Rattle.fc_term_rows.specs.Facts.{Fact, FactCon, FactNumber, FactNoneOf, moved_fact, field_variables}
use Rattle.fc_row_places.specs.NamelessFacts.{heads_among}
use Rattle.fc_row_places.proofs.MovedFacts.{PartsBecome, no_parts_erase, term_part, type_part, coercion_part}
use Rattle.fc_row_places.proofs.MovedParts.{step_past}

-- THE BINDERS OF AN ALTERNATIVE

all_values : (bs : List NBinder) (c : Scope) (i : ℕ) → (below_all bs c).values (value_count bs + i) ≡ length (binder_sorts bs) + c.values i
unfolding upr
all_values [] c i = let e : 0 + i ≡ i = omega arith in let f : c.values i ≡ 0 + c.values i = omega arith in ap c.values e ∙ f
all_values (NBValue t ∷ bs) c i =
    let d = below_value (sort_of_type t) c in
    ap (below_all bs d).values (step_past (value_count bs) i) ∙ all_values bs d (suc i) ∙ sym (step_past (length (binder_sorts bs)) (c.values i))
all_values (NBType k ∷ bs) c i = all_values bs c i
all_values (NBCo r t u ∷ bs) c i = all_values bs (below_unnamed c) i ∙ sym (step_past (length (binder_sorts bs)) (c.values i))

all_sorts : (bs : List NBinder) (c : Scope) (i : ℕ) → (below_all bs c).sorts (value_count bs + i) ≡ c.sorts i
all_sorts [] c i = let e : 0 + i ≡ i = omega arith in ap c.sorts e
all_sorts (NBValue t ∷ bs) c i =
    let d = below_value (sort_of_type t) c in ap (below_all bs d).sorts (step_past (value_count bs) i) ∙ all_sorts bs d (suc i)
all_sorts (NBType k ∷ bs) c i = all_sorts bs c i
all_sorts (NBCo r t u ∷ bs) c i = all_sorts bs (below_unnamed c) i

pub no_more : (n : ℕ) → n ≡ n + 0
no_more n = omega arith

-- the binder just outside of these
pub outside_is : (bs : List NBinder) (o : Sort) (c : Scope) → erased (below_all bs (below_value o c)) (NLocal (value_count bs)) ≡ Var (length (binder_sorts bs))
unfolding upr
outside_is bs o c = ap Var (ap (below_all bs (below_value o c)).values (no_more (value_count bs)) ∙ all_values bs (below_value o c) 0 ∙ sym (no_more (length (binder_sorts bs))))

pub parts_of_binders : (bs : List NBinder) (c : Scope) → PartsBecome (below_all bs c) (as_arguments bs) (binder_sorts bs) (field_variables (binder_sorts bs))
parts_of_binders [] c = no_parts_erase
parts_of_binders (NBValue t ∷ bs) c =
    let d = below_value (sort_of_type t) c in
    term_part (ap (below_all bs d).sorts (no_more (value_count bs)) ∙ all_sorts bs d 0) (outside_is bs (sort_of_type t) c) (parts_of_binders bs d)
parts_of_binders (NBType k ∷ bs) c = type_part (parts_of_binders bs c)
parts_of_binders (NBCo r t u ∷ bs) c = coercion_part (parts_of_binders bs (below_unnamed c))

pub parts_written : (bs : List NBinder) → AreArgsWritten (as_arguments bs)
parts_written [] = tt
parts_written (NBValue t ∷ bs) = (tt, parts_written bs)
parts_written (NBType k ∷ bs) = (tt, parts_written bs)
parts_written (NBCo r t u ∷ bs) = (tt, parts_written bs)

pub heads_are : (s : Scope) (alts : NAlts) → heads_of (erased_alts s alts) ≡ heads_among alts
unfolding heads_of
heads_are s NoNAlts = refl
heads_are s (MoreNAlts (NBranch h bs e) rest) = ap (λ l. erased_head h bs ∷ l) (heads_are s rest)

-- SORTS

-- the fields of a known constructor are sorted
abbrev pub IsFactSorted : List Sort → Fact → Type 0
IsFactSorted g (FactCon n ss ts) = IsSorted g (Con n ss ts)
IsFactSorted g (FactNumber z) = Unit {0}
IsFactSorted g (FactNoneOf hs) = Unit {0}

pub fact_sorted : (q : ℕ → ℕ) (g h : List Sort) → Renames q g h → (x : Fact) → IsFactSorted g x → IsFactSorted h (moved_fact q x)
unfolding ren
fact_sorted q g h r (FactCon n ss ts) w = sorted_ren q g h r (Con n ss ts) w
fact_sorted q g h r (FactNumber z) w = tt
fact_sorted q g h r (FactNoneOf hs) w = tt

pub one_more_sort : (s : Sort) (g : List Sort) → Renames suc g (s ∷ g)
unfolding sort_at
one_more_sort s g n o e = e

pub more_sorts : (ss g : List Sort) → Renames (λ n. length ss + n) g (enters ss g)
unfolding enters sort_at
more_sorts [] g n o e = let k : 0 + n ≡ n = omega arith in ap (sort_at g) k ∙ e
more_sorts (s ∷ ss) g n o e = ap (sort_at (enters ss (s ∷ g))) (step_past (length ss) n) ∙ more_sorts ss (s ∷ g) (suc n) o e

atom_of : (g : List Sort) (s : Sort) (n : ℕ) → sort_at g n ≡ Some s → IsAtom g s (Var n)
atom_of g Lifted n e = tt
atom_of g Unlifted n e = e

pub variables_sorted : (ss g : List Sort) → AreSorted (enters ss g) (field_variables ss) × HasSorts (enters ss g) ss (field_variables ss)
unfolding enters sort_at
variables_sorted [] g = (tt, tt)
variables_sorted (s ∷ ss) g =
    let here : sort_at (enters ss (s ∷ g)) (length ss) ≡ Some s = ap (sort_at (enters ss (s ∷ g))) (no_more (length ss)) ∙ more_sorts ss (s ∷ g) 0 s refl in
    let rest = variables_sorted ss (s ∷ g) in
    (((s, here), rest.0), (atom_of (enters ss (s ∷ g)) s (length ss) here, rest.1))

head_length : (h : Head) (bs : List NBinder) → HasOwnBinders h bs → length (head_sorts (erased_head h bs)) ≡ length (binder_sorts bs)
head_length h bs own = length-head_sorts (erased_head h bs) ∙ own_binders h bs own

pub into_sorts : (h : Head) (bs : List NBinder) (o : Sort) (g : List Sort) → HasOwnBinders h bs → Renames (λ n. length (binder_sorts bs) + suc n) g (enters (head_sorts (erased_head h bs)) (o ∷ g))
unfolding sort_at
into_sorts h bs o g own n s e =
    subst (λ m. sort_at (enters (head_sorts (erased_head h bs)) (o ∷ g)) (m + suc n) ≡ Some s) (head_length h bs own) (more_sorts (head_sorts (erased_head h bs)) (o ∷ g) (suc n) s e)

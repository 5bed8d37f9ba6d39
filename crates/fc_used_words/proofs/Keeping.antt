-- What is said of distances and of the names of a tree, at each of them, and words that are kept in larger sets.
use Rattle.std.proofs.Common.{◌≡◌, ◌<◌, ℕ, zero, suc, Bool, true, false, refl, ap, subst, arith}
use Rattle.fc_syntax.specs.declared.ty.Name.{Name}
use Rattle.fc_syntax.specs.Tree.{Word}
use Rattle.fc_model.specs.Resolution.{Locals, Words}
use Rattle.fc_used_words.specs.Scoped.{Counts, Saying, in_type, in_value, in_join, in_coercion}
use Rattle.fc_used_words.specs.Standing.{AreWithin, Beyond, is_kept}
use Rattle.fc_used_words.proofs.Both.{Follows}

-- by cases on a test
pub by_test : {Y : Type 0} (b : Bool) → (b ≡ true → Y) → (b ≡ false → Y) → Y
by_test true f g = f refl
by_test false f g = g refl

-- DISTANCES

pub beyond_both : (P Q R : ℕ → Type 0) → ((i : ℕ) → P i → Q i → R i) → (many i : ℕ) → Beyond P many i → Beyond Q many i → Beyond R many i
beyond_both P Q R step zero i p q = step i p q
beyond_both P Q R step (suc many) zero p q = tt
beyond_both P Q R step (suc many) (suc i) p q = beyond_both P Q R step many i p q

pub beyond_near : (P : ℕ → Type 0) (many i : ℕ) → i < many → Beyond P many i
beyond_near P zero i h = absurd (omega arith)
beyond_near P (suc many) zero h = tt
beyond_near P (suc many) (suc i) h = beyond_near P many i (omega arith)

-- BELOW THE SAME BINDERS

pub along : (P : Counts → Type 0) {k l : Counts} → k ≡ l → P k → P l
along P e p = subst P e p

abbrev pub Same : Counts → Counts → Type 0
Same k l = k ≡ l

-- steps below the same binders, at each distance
pub record Steps (A B C : Saying) : Type 0 where
  pub type_at : (k i : ℕ) → A.type_at k i → B.type_at k i → C.type_at k i
  pub value_at : (k i : ℕ) → A.value_at k i → B.value_at k i → C.value_at k i
  pub join_at : (k i : ℕ) → A.join_at k i → B.join_at k i → C.join_at k i
  pub coercion_at : (k i : ℕ) → A.coercion_at k i → B.coercion_at k i → C.coercion_at k i
  pub type_name : (n : Name) → A.type_name n → B.type_name n → C.type_name n
  pub axiom_name : (n : Name) → A.axiom_name n → B.axiom_name n → C.axiom_name n
  pub constructor : (n : Name) → A.constructor n → B.constructor n → C.constructor n
  pub definition : (n : Name) → A.definition n → B.definition n → C.definition n

pub below_same : (A B C : Saying) → Steps A B C → Follows A B C Same
below_same A B C f = record {
  type_at = λ k l i r a b. along (λ (c : Counts). C.type_at c.types i) r (f.type_at k.types i a b);
  value_at = λ k l i r a b. along (λ (c : Counts). C.value_at c.values i) r (f.value_at k.values i a b);
  join_at = λ k l i r a b. along (λ (c : Counts). C.join_at c.joins i) r (f.join_at k.joins i a b);
  coercion_at = λ k l i r a b. along (λ (c : Counts). C.coercion_at c.coercions i) r (f.coercion_at k.coercions i a b);
  type_name = f.type_name;
  axiom_name = f.axiom_name;
  constructor = f.constructor;
  definition = f.definition;
  in_type = λ k l r. ap in_type r;
  in_value = λ k l r. ap in_value r;
  in_join = λ k l r. ap in_join r;
  in_coercion = λ k l r. ap in_coercion r;
}

-- words that are kept are kept in larger sets
pub kept_within : (own : Word) (ws more : Words) (s : Locals) → AreWithin ws more → Follows (is_kept own ws s) (is_kept own ws s) (is_kept own more s) Same
kept_within own ws more s h = below_same (is_kept own ws s) (is_kept own ws s) (is_kept own more s) (record {
  type_at = beyond_both _ _ _ (λ i a b w at. h.types w (a w at));
  value_at = beyond_both _ _ _ (λ i a b w at. h.terms w (a w at));
  join_at = beyond_both _ _ _ (λ i a b w at. h.terms w (a w at));
  coercion_at = beyond_both _ _ _ (λ i a b w at. h.coercions w (a w at));
  type_name = λ n a b. a;
  axiom_name = λ n a b. a;
  constructor = λ n a b. a;
  definition = λ n a b own. h.terms n.text (a own);
})

-- Lets for terms, one after the other.
use Rattle.std.proofs.Common.{◌≡◌, ℕ, suc, ◌+◌, ◌<◌, ◌≤◌, List, ◌∷◌, drop, get_or, length, Option, Some, None, refl, sym, ap, ◌∙◌, add-one, arith}
use Rattle.std.proofs.Math.ListN.{drop_of_length-le}
use Rattle.fc_syntax.specs.Tree.{Kind}
use Rattle.fc_model.specs.Calling.{at_type, coercion_asked, from_some, function_ends}
use Rattle.fc_model.specs.Nameless.{NTy, NTVar, NGVar, NExpr, NATerm, NAType, NACo, NArgs, NoNArgs, MoreNArgs}
use Rattle.fc_model.specs.Replacing.{renamed, replaced}
use Rattle.fc_rows.specs.Changing.{made}
use Rattle.fc_rows.specs.Shrinking.{behind_lets, let_of}
use Rattle.fc_rows.specs.Surroundings.{past_values}
use Rattle.fc_subst.proofs.Delayed.{renaming_is_put}
use Rattle.fc_subst.specs.Replacements.{past_all}
use Rattle.fc_type_table.specs.declared.node.Node.{Node}
use Rattle.fc_lets_for_terms.specs.Asking.{asked_all_at, asked_at, asked_terms, lets_around}
use Rattle.fc_lets_for_terms.specs.declared.asking.AskedTerm.{AskedTerm}
use Rattle.fc_lets_for_terms.proofs.InOrder.{drop_at}

-- WHAT IS FOUND AND THEN MADE

made_twice : {X Y Z : Type 0} (f : X → Y) (g : Y → Z) (o : Option X) → made g (made f o) ≡ made (λ x. g (f x)) o
made_twice f g None = refl
made_twice f g (Some x) = refl

-- behind a term, where it is so behind the others
module _ (i : ℕ) (a : NExpr) (rest : NArgs) (b : NExpr) (further_in : (t : NTy) → behind_lets (suc i) t rest b ≡ made (λ ps. lets_around (suc i) ps b) (asked_terms t rest)) where
  behind_a_term : (o : Option (NTy × NTy)) → from_some (λ e. made (let_of e.0 (renamed (past_values i) a)) (behind_lets (suc i) e.1 rest b)) o
      ≡ made (λ ps. lets_around i ps b) (from_some (λ (e : NTy × NTy). made (λ more. (e.0, a) ∷ more) (asked_terms e.1 rest)) o)
  behind_a_term None = refl
  behind_a_term (Some (t, u)) =
      ap (made (let_of t (renamed (past_values i) a))) (further_in u)
      ∙ made_twice (λ ps. lets_around (suc i) ps b) (let_of t (renamed (past_values i) a)) (asked_terms u rest)
      ∙ sym (made_twice (λ more. (t, a) ∷ more) (λ ps. lets_around i ps b) (asked_terms u rest))

-- where something else is found first
made_from : {X Y Z : Type 0} (f : Y → Z) (g : X → Option Z) (h : X → Option Y) (o : Option X) → ((x : X) → g x ≡ made f (h x)) → from_some g o ≡ made f (from_some h o)
made_from f g h None same = refl
made_from f g h (Some x) same = same x

behind_is : (i : ℕ) (t : NTy) (args : NArgs) (b : NExpr) → behind_lets i t args b ≡ made (λ ps. lets_around i ps b) (asked_terms t args)
behind_is i t NoNArgs b = refl
behind_is i t (MoreNArgs (NATerm a) rest) b = behind_a_term i a rest b (λ u. behind_is (suc i) u rest b) (function_ends t)
behind_is i t (MoreNArgs (NAType u) rest) b =
    made_from (λ ps. lets_around i ps b) (λ v. behind_lets i v rest b) (λ v. asked_terms v rest) (at_type t u) (λ v. behind_is i v rest b)
behind_is i t (MoreNArgs (NACo g) rest) b =
    made_from (λ ps. lets_around i ps b) (λ p. behind_lets i p.3 rest b) (λ p. asked_terms p.3 rest) (coercion_asked t) (λ p. behind_is i p.3 rest b)

pub none_behind : (t : NTy) (args : NArgs) (b : NExpr) → None ≡ asked_terms t args → None ≡ behind_lets 0 t args b
none_behind t args b found = sym (behind_is 0 t args b ∙ ap (made (λ ps. lets_around 0 ps b)) (sym found))

pub some_behind : (t : NTy) (args : NArgs) (b e : NExpr) (ps : List (NTy × NExpr)) → Some ps ≡ asked_terms t args → e ≡ lets_around 0 ps b → Some e ≡ behind_lets 0 t args b
some_behind t args b e ps found is = ap Some is ∙ sym (behind_is 0 t args b ∙ ap (made (λ ps. lets_around 0 ps b)) (sym found))

-- AN EXPRESSION PAST VALUES

pub past_is_put : (n : ℕ) (e : NExpr) → replaced (past_all (record { types = 0; coercions = 0; values = n; joins = 0 })) e ≡ renamed (past_values n) e
past_is_put n e = sym (renaming_is_put (past_values n) (past_all (record { types = 0; coercions = 0; values = n; joins = 0 })) (record {
  types = λ i. ap NTVar (let h : i + 0 ≡ i = omega arith in h);
  coercions = λ i. ap NGVar (let h : i + 0 ≡ i = omega arith in h);
  values = λ i. refl;
  joins = λ i. let h : i + 0 ≡ i = omega arith in h;
}) e)

-- ONE LET MORE

module _ (ns : List Node) (ks : List Kind) (found : List AskedTerm) (b : NExpr) where
  pub lets_end : (i : ℕ) → length found ≤ i → lets_around i (asked_all_at ns ks (drop i found)) b ≡ b
  unfolding asked_all_at
  lets_end i far = ap (λ xs. lets_around i (asked_all_at ns ks xs) b) (drop_of_length-le found far)

  pub lets_step : (left i : ℕ) (a : AskedTerm) (inner outer : NExpr) → left ≡ i + 1 → i < length found → a ≡ get_or found i a → inner ≡ lets_around left (asked_all_at ns ks (drop left found)) b
      → outer ≡ let_of (asked_at ns ks a).0 (renamed (past_values i) (asked_at ns ks a).1) inner → outer ≡ lets_around i (asked_all_at ns ks (drop i found)) b
  unfolding asked_all_at
  lets_step left i a inner outer one_more low is so_far more =
      more
      ∙ ap (let_of (asked_at ns ks a).0 (renamed (past_values i) (asked_at ns ks a).1))
      (so_far ∙ ap (λ n. lets_around n (asked_all_at ns ks (drop n found)) b) one_more ∙ ap (λ n. lets_around n (asked_all_at ns ks (drop (i + 1) found)) b) (add-one i))
      ∙ sym (ap (λ xs. lets_around i (asked_all_at ns ks xs) b) (drop_at found i a low is))

-- The least of roles, and notes of roles in a list.
use Rattle.std.proofs.Common.{◌≡◌, ℕ, zero, suc, ◌+◌, refl, sym, ap, ◌∙◌, List, [], ◌∷◌, ◌++◌, get_or, arith}
use Rattle.fc_syntax.specs.declared.ty.Role.{Role}
use Rattle.fc_syntax.specs.declared.ty.Role.TheVariants.{N, R, P}
use Rattle.fc_syntax.specs.Tree.{Kind}
use Rattle.fc_model.specs.Kinding.{Modules}
use Rattle.fc_model.specs.Nameless.{NTy, NTForall, NBinder, NBValue, NBType, NBCo}
use Rattle.fc_model.specs.Needs.{least, need_in, need_in_con}
use Rattle.fc_roles.specs.NeedViews.{distance_behind, need_in_binder}

-- P is the last
pub least_p : (r : Role) → least r P ≡ r
least_p N = refl
least_p R = refl
least_p P = refl

pub p_least : (r : Role) → least P r ≡ r
p_least N = refl
p_least R = refl
p_least P = refl

pub least_least : (q r s : Role) → least (least q r) s ≡ least q (least r s)
least_least N r s = refl
least_least R N s = refl
least_least R R N = refl
least_least R R R = refl
least_least R R P = refl
least_least R P N = refl
least_least R P R = refl
least_least R P P = refl
least_least P N s = refl
least_least P R N = refl
least_least P R R = refl
least_least P R P = refl
least_least P P N = refl
least_least P P R = refl
least_least P P P = refl

-- what a part adds to what is noted is taken from what is still to come
pub a_part_more : (whole now next part rest : Role) → whole ≡ least now (least part rest) → next ≡ least now part → whole ≡ least next rest
a_part_more whole now next part rest so_far noted = so_far ∙ sym (least_least now part rest) ∙ ap (λ r. least r rest) (sym noted)

-- below the binder of a `forall`
pub inside_forall : (ms : Modules) (r : Role) (i binders inside : ℕ) (k : Kind) (t : NTy) → inside ≡ binders + 1 → need_in ms r (i + inside) t ≡ need_in ms r (i + binders) (NTForall k t)
inside_forall ms r i binders inside k t more = let here : i + inside ≡ suc (i + binders) = omega (arith, more) in ap (λ n. need_in ms r n t) here

-- the binders of a constructor one after the other
pub need_behind : (ms : Modules) (i : ℕ) (b : NBinder) (bs : List NBinder) (ts : List NTy) → need_in_con ms i (b ∷ bs) ts ≡ least (need_in_binder ms i b) (need_in_con ms (distance_behind b i) bs ts)
need_behind ms i (NBValue t) bs ts = refl
need_behind ms i (NBType k) bs ts = sym (p_least (need_in_con ms (suc i) bs ts))
need_behind ms i (NBCo r t u) bs ts = refl

pub behind_more : (b : NBinder) (i n : ℕ) → distance_behind b (i + n) ≡ i + distance_behind b n
behind_more (NBValue t) i n = refl
behind_more (NBType k) i n = let h : suc (i + n) ≡ i + suc n = omega arith in h
behind_more (NBCo r t u) i n = refl

-- one more parameter that does not occur
pub pushed_nothing : (rs : List Role) → ((i : ℕ) → get_or rs i P ≡ P) → (i : ℕ) → get_or (rs ++ P ∷ []) i P ≡ P
pushed_nothing [] h zero = refl
pushed_nothing [] h (suc i) = refl
pushed_nothing (r ∷ rs) h zero = h zero
pushed_nothing (r ∷ rs) h (suc i) = pushed_nothing rs (λ j. h (suc j)) i

pub ruleset least_rules = (least_p, p_least, least_least)

pub ruleset binder_rules = (least_p, p_least, least_least, need_behind, behind_more)

pub ruleset note_rules = (least_p, p_least)

pub ruleset variable_rules = (least_p, p_least)

pub ruleset start_rules = (p_least)

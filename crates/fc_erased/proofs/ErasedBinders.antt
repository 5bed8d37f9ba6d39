-- Sorts and numbers of binders when types are gone, and what is put into terms that are made of them.
use Rattle.std.proofs.Common.{◌≡◌, ℕ, suc, List, [], ◌∷◌, length, refl, sym, ap, ap₂}
use Rattle.fc_syntax.specs.declared.expr.Head.{Head}
use Rattle.fc_syntax.specs.declared.expr.Head.TheVariants as head
use Rattle.fc_model.specs.Erasure.{Scope, binder_sorts, lambdas, erased_head}
use Rattle.fc_model.specs.Erasure.{erased_rights, erased_joins}
use Rattle.fc_model.specs.Nameless.{NTy, NBinder, NBValue, NBType, NBCo}
use Rattle.fc_model.specs.Nameless.{NBound, NJoined}
use Rattle.fc_model.specs.Nameless.{NBinds, NoNBinds, MoreNBinds, NJoins, NoNJoins, MoreNJoins}
use Rattle.fc_model.specs.Replacing.{bind_count, join_count}
use Rattle.fc_model.specs.Replacing.{replaced_binders, types_behind}
use Rattle.fc_model.specs.Substituting.{types_below}
use Rattle.fc_model.specs.Terms.{Sort, Unlifted, OfCon, Term, App, Lam, Rec, Terms, Alts, NoAlt, Alt}
use Rattle.fc_model.specs.Terms.{binders, count, sub, sub_terms, up, ups}
use Rattle.fc_meaning.proofs.SortsOfTypes.{AreLifted, lifted_below, sort_of_substituted}
use Rattle.fc_meaning.proofs.WrittenExpressions.{HasOwnBinders}

-- SORTS OF TYPES

pub lifted_behind : (b : NBinder) (s : ℕ → NTy) → AreLifted s → AreLifted (types_behind b s)
lifted_behind (NBValue t) s l = l
lifted_behind (NBType k) s l = lifted_below s l
lifted_behind (NBCo r t u) s l = l

pub binder_sorts_put : (bs : List NBinder) (s : ℕ → NTy) → AreLifted s → binder_sorts (replaced_binders s bs) ≡ binder_sorts bs
binder_sorts_put [] s l = refl
binder_sorts_put (NBValue t ∷ bs) s l = ap₂ ◌∷◌ (sort_of_substituted s l t) (binder_sorts_put bs s l)
binder_sorts_put (NBType k ∷ bs) s l = binder_sorts_put bs (types_below s) (lifted_below s l)
binder_sorts_put (NBCo r t u ∷ bs) s l = ap (λ ss. Unlifted ∷ ss) (binder_sorts_put bs s l)

-- SUBSTITUTED TERMS

pub equal_applications : {s r : Sort} {f g a b : Term} → s ≡ r → f ≡ g → a ≡ b → App s f a ≡ App r g b
equal_applications d e f = λ i. App (d i) (e i) (f i)

pub sub_lambdas : (ss : List Sort) (p : ℕ → Term) (t : Term) → sub p (lambdas ss t) ≡ lambdas ss (sub (ups (length ss) p) t)
unfolding sub ups
sub_lambdas [] p t = refl
sub_lambdas (s ∷ ss) p t = ap (Lam s) (sub_lambdas ss (up p) t)

pub sub_group : (n : ℕ) (p : ℕ → Term) (ts : Terms) (b : Term) → count ts ≡ n → sub p (Rec ts b) ≡ Rec (sub_terms (ups n p) ts) (sub (ups n p) b)
unfolding sub
sub_group n p ts b e = ap (λ m. Rec (sub_terms (ups m p) ts) (sub (ups m p) b)) e

pub rights_count : (c : Scope) (bs : NBinds) → count (erased_rights c bs) ≡ bind_count bs
unfolding count
rights_count c NoNBinds = refl
rights_count c (MoreNBinds (NBound t e) rest) = ap suc (rights_count c rest)

pub joins_count : (c : Scope) (js : NJoins) → count (erased_joins c js) ≡ join_count js
unfolding count
joins_count c NoNJoins = refl
joins_count c (MoreNJoins (NJoined ps e) rest) = ap suc (joins_count c rest)

pub own_binders : (h : Head) (bs : List NBinder) → HasOwnBinders h bs → binders (erased_head h bs) ≡ length (binder_sorts bs)
unfolding binders
own_binders head.Default bs w = sym (ap (λ l. length (binder_sorts l)) w)
own_binders (head.Lit n) bs w = sym (ap (λ l. length (binder_sorts l)) w)
own_binders (head.Con n) bs w = refl

pub same_head : (h : Head) (bs cs : List NBinder) → binder_sorts bs ≡ binder_sorts cs → erased_head h bs ≡ erased_head h cs
same_head head.Default bs cs e = refl
same_head (head.Lit n) bs cs e = refl
same_head (head.Con n) bs cs e = ap (λ ss. OfCon n ss) e

pub own_put : (h : Head) (bs : List NBinder) (s : ℕ → NTy) → HasOwnBinders h bs → HasOwnBinders h (replaced_binders s bs)
own_put head.Default bs s w = ap (replaced_binders s) w
own_put (head.Lit n) bs s w = ap (replaced_binders s) w
own_put (head.Con n) bs s w = tt

-- the bodies of alternatives under their own binders alone
unfoldable pub sub_bodies : (ℕ → Term) → Alts → Alts
unfolding sub ups binders
sub_bodies p NoAlt = NoAlt
sub_bodies p (Alt h b alts) = Alt h (sub (ups (binders h) p) b) (sub_bodies p alts)

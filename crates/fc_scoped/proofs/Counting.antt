-- The binders around a piece are as many as what a judgement of it has in scope, or more, and stay so below each binder.
use Rattle.std.proofs.Common.{◌≡◌, ◌≤◌, ◌<◌, ◌+◌, ℕ, zero, suc, Bool, true, false, if◌then◌else◌, List, [], ◌∷◌, length, map, reverse, Ok, refl, arith}
use Rattle.std.proofs.lemmas.List.{length-map, length-reverse}
use Rattle.fc_syntax.specs.Tree.{Kind}
use Rattle.fc_model.specs.Coercing.{shifted_ends}
use Rattle.fc_model.specs.Faulting.{at_distance}
use Rattle.fc_model.specs.Kinding.{param_kinds}
use Rattle.fc_model.specs.Nameless.{NTy, NBinder, NBValue, NBType, NBCo, NBound, NBinds, NoNBinds, MoreNBinds, NJoined, NJoins, NoNJoins, MoreNJoins, NParam, NParamOf}
use Rattle.fc_model.specs.Substituting.{shifted_type}
use Rattle.fc_model.specs.Typing.{Context, JoinPoint, join_point, kinds_behind, no_context, shifted_join, with_binder, with_binders, with_binds, with_join, with_joins, without_joins}
use Rattle.fc_model.proofs.Parts.{err_ok}
use Rattle.fc_used_words.specs.Scoped.{Counts, in_binder, in_binders, in_group, in_join, in_joins, in_parameters, in_type, nothing_around}

-- DISTANCES

-- what is in scope at a distance is among so many
in_scope : {X : Type 0} (xs : List X) (i : ℕ) (x : X) → at_distance xs i ≡ Ok x → i < length xs
in_scope [] i x h = err_ok h
in_scope (y ∷ xs) zero x h = omega arith
in_scope (y ∷ xs) (suc i) x h = omega (arith, in_scope xs i x h)

-- so a distance to it is below the number of binders, where these are as many or more
pub in_reach : {X : Type 0} (xs : List X) (i many : ℕ) (x : X) → at_distance xs i ≡ Ok x → length xs ≤ many → i < many
in_reach xs i many x h fit = omega (arith, in_scope xs i x h)

-- what is changed item by item is as long
pub map_fits : {X Y : Type 0} (f : X → Y) (xs : List X) (many : ℕ) → length xs ≤ many → length (map f xs) ≤ many
map_fits f xs many fit = omega (arith, length-map xs f)

-- BINDERS AROUND A PIECE

-- kinds are no more than the binders of types
pub record KindsFit (ks : List Kind) (k : Counts) : Type 0 where
  pub types : length ks ≤ k.types

-- in no space a context has more than there are binders
pub record Fits (c : Context) (k : Counts) : Type 0 where
  pub kinds : KindsFit c.kinds k
  pub coercions : length c.coercions ≤ k.coercions
  pub values : length c.values ≤ k.values
  pub joins : length c.joins ≤ k.joins

-- below a binder, binders that stand together, a group and join points, what is in scope still fits
pub kinds_fit_behind : {ks : List Kind} {k : Counts} (b : NBinder) → KindsFit ks k → KindsFit (kinds_behind b ks) (in_binder b k)
kinds_fit_behind (NBValue t) f = record { types = f.types }
kinds_fit_behind (NBType j) f = record { types = omega arith }
kinds_fit_behind (NBCo r t u) f = record { types = f.types }

pub fits_behind : {c : Context} {k : Counts} (b : NBinder) → Fits c k → Fits (with_binder b c) (in_binder b k)
fits_behind (NBValue t) f = record { kinds = kinds_fit_behind (NBValue t) f.kinds; coercions = f.coercions; values = omega arith; joins = f.joins }
fits_behind {c = c} {k = k} (NBType j) f = record {
  kinds = kinds_fit_behind (NBType j) f.kinds;
  coercions = map_fits shifted_ends c.coercions k.coercions f.coercions;
  values = map_fits shifted_type c.values k.values f.values;
  joins = map_fits shifted_join c.joins k.joins f.joins;
}
fits_behind (NBCo r t u) f = record { kinds = kinds_fit_behind (NBCo r t u) f.kinds; coercions = omega arith; values = f.values; joins = f.joins }

pub fits_behind_all : {c : Context} {k : Counts} (bs : List NBinder) → Fits c k → Fits (with_binders bs c) (in_binders bs k)
fits_behind_all [] f = f
fits_behind_all (b ∷ bs) f = fits_behind_all bs (fits_behind b f)

pub fits_in_group : {c : Context} {k : Counts} (bs : NBinds) → Fits c k → Fits (with_binds bs c) (in_group bs k)
fits_in_group NoNBinds f = f
fits_in_group (MoreNBinds (NBound t e) rest) f = fits_in_group rest (fits_behind (NBValue t) f)

fits_in_join : {c : Context} {k : Counts} (j : JoinPoint) → Fits c k → Fits (with_join j c) (in_join k)
fits_in_join j f = record { kinds = record { types = f.kinds.types }; coercions = f.coercions; values = f.values; joins = omega arith }

pub fits_in_joins : {c : Context} {k : Counts} (t : NTy) (js : NJoins) → Fits c k → Fits (with_joins t js c) (in_joins js k)
fits_in_joins t NoNJoins f = f
fits_in_joins {c = c} t (MoreNJoins (NJoined ps e) rest) f = fits_in_joins {c = with_join (join_point t ps) c} t rest (fits_in_join (join_point t ps) f)

-- join points that go out of reach still count
pub fits_alone : {c : Context} {k : Counts} → Fits c k → Fits (without_joins c) k
fits_alone f = record { kinds = f.kinds; coercions = f.coercions; values = f.values; joins = omega arith }

pub fits_either : {c d : Context} {k l : Counts} (b : Bool) → Fits c k → Fits d l → Fits (if b then c else d) (if b then k else l)
fits_either true f g = f
fits_either false f g = g

-- where nothing is around, nothing is in scope
pub nothing_fits : Fits no_context nothing_around
nothing_fits = record { kinds = record { types = omega arith }; coercions = omega arith; values = omega arith; joins = omega arith }

-- PARAMETERS

pub count_of_kinds : (ps : List NParam) → length (param_kinds ps) ≡ length ps
count_of_kinds [] = refl
count_of_kinds (NParamOf k r ∷ ps) = omega (arith, count_of_kinds ps)

parameters_count : {X : Type 0} (ps : List X) (k : Counts) → (in_parameters ps k).types ≡ length ps + k.types
parameters_count [] k = omega arith
parameters_count (p ∷ ps) k = omega (arith, parameters_count ps (in_type k))

-- the kinds of parameters are no more than the parameters
pub parameters_fit : {X : Type 0} (ps : List X) (ks : List Kind) → length ks ≡ length ps → KindsFit (reverse ks) (in_parameters ps nothing_around)
parameters_fit ps ks same = record { types = omega (arith, length-reverse ks, parameters_count ps nothing_around) }

-- A rewrite at one place, between expressions that have types, is a change of parts whose sorts stay.
use Rattle.std.proofs.Common.{◌≡◌, true, false, ◌&&◌, ◌||◌, not, Bool, List, [], ◌∷◌, refl, sym, ap, ◌∙◌, subst}
use Rattle.fc_model.specs.Calling.{Given, GivenTerm, Takes, takes_term, takes_type, takes_coercion, atom_fits, constructor_type, is_unlifted}
use Rattle.fc_model.specs.Coercing.{ends}
use Rattle.fc_model.specs.Erasure.{Scope, erased, below_all, below_binds, below_joins, below_value, binder_sorts, sort_of, sort_of_type}
use Rattle.fc_syntax.specs.Tree.{Kind}
use Rattle.fc_model.specs.Kinding.{Modules}
use Rattle.fc_model.specs.Nameless.{NTy, NExpr, NLocal, NVar, NLit, NApp, NLam, NLet, NCase, NCast, NCon, NPrim, NFail, NJoin, NJump, NATerm, NArgs, NBinds, NoNBinds, MoreNBinds, NBound, NJoins}
use Rattle.fc_model.specs.Nameless.{NAlts, NBinder}
use Rattle.fc_model.specs.Terms.{Sort, Lifted, IsAtom, enters, head_sorts, lifteds}
use Rattle.fc_model.specs.Typing.{Before, Context, is_atom, with_binders, with_binds, with_joins, with_join, with_value, join_point, without_joins}
use Rattle.fc_model.specs.TypingRules.{HasType, typed_local, typed_application, typed_lambda, typed_let, typed_case, typed_cast, typed_con, typed_join, typed_jump, given_term, given_type}
use Rattle.fc_model.specs.TypingRules.{given_coercion, ArgsAreGiven, one_arg, BindsHaveTypes, JoinsHaveType, value_binder, type_binder, coercion_binder, AltsFit, default_alt, literal_alt, con_alt}
use Rattle.fc_model.specs.TypingRules.{BindersAreKinded, one_bind as bind_typed, one_join as join_typed}
use Rattle.fc_model.proofs.Parts.{ok_ok}
use Rattle.fc_model.proofs.TypedIs.{type_is_one}
use Rattle.fc_meaning.proofs.ArgSorts.{sort_is}
use Rattle.fc_meaning.proofs.HeldDeclarations.{AreHeld}
use Rattle.fc_meaning.proofs.Optional.{some_is}
use Rattle.fc_meaning.proofs.ScopesFit.{Fits, agrees, fits_binders, fits_binds, fits_coercion, fits_joins, fits_type, fits_value, fits_values}
use Rattle.fc_meaning.proofs.SortedExpressions.{is_placed, joins_lifted, rights_lifted}
use Rattle.fc_meaning.proofs.SortsOfTypes.{lifted_by_kind, no_atom_is_lifted}
use Rattle.fc_meaning.proofs.WrittenExpressions.{AreAltsWritten, AreArgsWritten, AreBindsWritten, AreJoinsWritten, IsWritten}
use Rattle.fc_counted.specs.Places.{Place, InBody, sorts_in}
use Rattle.fc_row_places.specs.KnowingRows.{NKnowingRow, nknowing_plain, nknowing_case, nknowing_case_of_atom, nknowing_dead_alternative, nknowing_case_of_head, nknowing_case_of_constructor, nknowing_jump, nknowing_fold}
use Rattle.fc_row_places.specs.NamelessChanges.{NPartRelation, NChange, nchange_here, nchange_same, nchange_in_application, nchange_in_lambda, nchange_in_let, nchange_in_group, nchange_in_case}
use Rattle.fc_row_places.specs.NamelessChanges.{nchange_in_cast, nchange_in_constructor, nchange_in_jump, nchange_in_join, nchange_in_joins, NArgChange, narg_same, narg_lifted, NArgsChange}
use Rattle.fc_row_places.specs.NamelessChanges.{nargs_same, nargs_more, nright_same, nright_lifted, NBindsChange, nbinds_same, nbinds_more, NJoinsChange, njoins_same, njoins_more, NAltsChange}
use Rattle.fc_row_places.specs.NamelessChanges.{nalts_same, nalts_more}
use Rattle.fc_row_places.specs.NamelessFacts.{NKnown}
use Rattle.fc_row_places.specs.NamelessPlaces.{NPlace, NBelowAll, NPastGroup, NPastJoins, in_bodies, place_at, scope_at}
use Rattle.fc_row_places.specs.NamelessRows.{single_join, NRow, nrow_erased_alike, nrow_beta, nrow_beta_type, nrow_beta_coercion, nrow_dead_let, nrow_dead_group, nrow_let_put, nrow_application_of_let}
use Rattle.fc_row_places.specs.NamelessRows.{nrow_application_of_group, nrow_case_of_let, nrow_case_of_group, nrow_let_of_let, nrow_let_of_group, nrow_dead_join, nrow_dead_joins, nrow_applied_fail}
use Rattle.fc_row_places.specs.NamelessRows.{nrow_case_of_fail, nrow_merged_case, nrow_named_field}
use Rattle.fc_kept_meaning.specs.KeptMeaningLaws.{FitsAt}
use Rattle.fc_kept_meaning.specs.OnePlace.{AtOnePlace, at_here, at_head, at_argument, at_lambda, at_right, at_body, at_group_right, at_group_body, at_scrutinee, at_alternative, at_cast, at_field}
use Rattle.fc_kept_meaning.specs.OnePlace.{at_jump_argument, at_join_right, at_join_body, at_joins_right, at_joins_body, AtOneArg, first_arg, later_arg, AtOneBind, first_bind, later_bind, AtOneJoin}
use Rattle.fc_kept_meaning.specs.OnePlace.{first_join, later_join, AtOneAlt, first_alt, later_alt}
use Rattle.fc_kept_meaning.specs.PlaceRows.{PlaceRow, place_plain, place_known, place_atom, place_dead_alternative, place_head, place_constructor, place_jump, place_fold, PlainRow, plain_reflexive_cast}
use Rattle.fc_kept_meaning.specs.PlaceRows.{plain_cast_of_cast, plain_shorter_coercion, plain_cast_of_let, plain_beta, plain_beta_type, plain_beta_coercion, plain_dead_let, plain_dead_group}
use Rattle.fc_kept_meaning.specs.PlaceRows.{plain_let_put, plain_application_of_let, plain_application_of_group, plain_case_of_let, plain_case_of_group, plain_let_of_let, plain_let_of_group}
use Rattle.fc_kept_meaning.specs.PlaceRows.{plain_dead_join, plain_dead_joins, plain_applied_fail, plain_case_of_fail, plain_cast_of_fail, plain_merged_case, plain_named_field}

-- WHAT IS NO ATOM

lifted_no_atom : (s : Scope) (e : NExpr) → is_atom e ≡ false → sort_of s e ≡ Lifted
lifted_no_atom s (NLocal i) h = absurd cc
lifted_no_atom s (NVar n) h = refl
lifted_no_atom s (NLit n) h = absurd cc
lifted_no_atom s (NApp f a) h = refl
lifted_no_atom s (NLam b e) h = refl
lifted_no_atom s (NLet r bs e) h = refl
lifted_no_atom s (NCase e xt rt alts) h = refl
lifted_no_atom s (NCast e g) h = refl
lifted_no_atom s (NCon n args) h = refl
lifted_no_atom s (NPrim op es) h = refl
lifted_no_atom s (NFail t) h = refl
lifted_no_atom s (NJoin r t js e) h = refl
lifted_no_atom s (NJump i args) h = refl

pub plain_no_atom : {e d : NExpr} → PlainRow e d → is_atom e ≡ false
plain_no_atom plain_reflexive_cast = refl
plain_no_atom plain_cast_of_cast = refl
plain_no_atom plain_shorter_coercion = refl
plain_no_atom plain_cast_of_let = refl
plain_no_atom plain_beta = refl
plain_no_atom plain_beta_type = refl
plain_no_atom plain_beta_coercion = refl
plain_no_atom plain_dead_let = refl
plain_no_atom plain_dead_group = refl
plain_no_atom plain_let_put = refl
plain_no_atom plain_application_of_let = refl
plain_no_atom plain_application_of_group = refl
plain_no_atom plain_case_of_let = refl
plain_no_atom plain_case_of_group = refl
plain_no_atom plain_let_of_let = refl
plain_no_atom plain_let_of_group = refl
plain_no_atom plain_dead_join = refl
plain_no_atom plain_dead_joins = refl
plain_no_atom plain_applied_fail = refl
plain_no_atom plain_case_of_fail = refl
plain_no_atom plain_cast_of_fail = refl
plain_no_atom plain_merged_case = refl
plain_no_atom (plain_named_field f) = refl

-- CONTEXTS OF BOTH SIDES

same_with_binds : {R : NPartRelation} {p : NPlace} {bs cs : NBinds} → AtOneBind R p bs cs → (c : Context) → with_binds bs c ≡ with_binds cs c
same_with_binds (first_bind w) c = refl
same_with_binds (later_bind {t = t} w) c = same_with_binds w (with_value t c)

same_with_joins : {R : NPartRelation} {p : NPlace} {js ks : NJoins} → AtOneJoin R p js ks → (t : NTy) (c : Context) → with_joins t js c ≡ with_joins t ks c
same_with_joins (first_join w) t c = refl
same_with_joins (later_join {ps = ps} w) t c = same_with_joins w t (with_join (join_point t ps) c)

takes_from : {r s t : NTy} {gs : List Given} → r ≡ s → Takes r gs t → Takes s gs t
takes_from {t = t} {gs = gs} e w = subst (λ x. Takes x gs t) e w

-- SORTS AT PLACES

bodies_sorts : (ss : List Sort) (p : Place) → sorts_in (in_bodies ss p) ≡ enters ss (sorts_in p)
unfolding sorts_in enters
bodies_sorts [] p = refl
bodies_sorts (s ∷ ss) p = bodies_sorts ss (InBody s p)

-- below the parameters of a join point
params_fit : {ms : Modules} {owes : Bool} {ks : List Kind} {ps : List NBinder} → BindersAreKinded ms owes ks ps → (c : NPlace) {k : Context} → FitsAt c k → FitsAt (NBelowAll ps c) (with_binders ps k)
params_fit {ps = ps} kinded c {k = k} fits = subst (Fits (with_binders ps k) (below_all ps (scope_at c))) (sym (bodies_sorts (binder_sorts ps) (place_at c))) (fits_binders kinded fits)

-- in an alternative that binds nothing of its own
alone_fits : {bs : List NBinder} {k : Context} {s : Scope} {g : List Sort} → bs ≡ [] → Fits k s (enters (binder_sorts bs) g) → Fits k s g
unfolding enters
alone_fits {k = k} {s = s} {g = g} e fits = subst (λ xs. Fits k s (enters (binder_sorts xs) g)) e fits

-- in the body and the right sides of a recursive group, and of a group of join points
group_fits : {ms : Modules} (c : NPlace) (cs : NBinds) {k x : Context} (bs : NBinds) → BindsHaveTypes ms x true bs → FitsAt c k → FitsAt (NPastGroup bs cs c) (with_binds bs k)
unfolding sorts_in
group_fits c cs {k = k} bs binds fits =
    let s = below_binds bs (scope_at c) in subst (λ ss. Fits (with_binds bs k) s (enters ss (sorts_in (place_at c)))) (sym (rights_lifted binds s)) (fits_binds bs fits)

joins_fit : {ms : Modules} (c : NPlace) (ks : NJoins) {k x : Context} (t : NTy) (js : NJoins) → JoinsHaveType ms x t js → FitsAt c k → FitsAt (NPastJoins js ks c) (with_joins t js k)
unfolding sorts_in
joins_fit c ks {k = k} t js joins fits =
    let s = below_joins js (scope_at c) in subst (λ ss. Fits (with_joins t js k) s (enters ss (sorts_in (place_at c)))) (sym (joins_lifted joins s)) (fits_joins t js fits)

module _ (ms : Modules) (held : AreHeld ms) where
  -- where one type takes both, and the first is no atom, both are lifted
  first_lifted : (s : Scope) (a : NExpr) (t : NTy) → is_atom a ≡ false → atom_fits t (is_atom a) ≡ true → (sort_of s a ≡ Lifted) × (Lifted ≡ sort_of_type t)
  first_lifted s a t n f = (lifted_no_atom s a n, no_atom_is_lifted t (subst (λ b. atom_fits t b ≡ true) n f))

  second_lifted : {c : Context} {s : Scope} {g : List Sort} {b : NExpr} {t : NTy} → Fits c s g → HasType ms c b t → atom_fits t (is_atom b) ≡ true → Lifted ≡ sort_of_type t → sort_of s b ≡ Lifted
  second_lifted {s = s} fits h f l = sort_is ms held h s (agrees fits) f ∙ sym l

  -- REWRITES

  pub plain_typed : {c : NPlace} {k : Context} {g : List Sort} {e d : NExpr} {t u : NTy} → PlainRow e d → HasType ms k e t → HasType ms k d u → Fits k (scope_at c) g → NRow c e d
  plain_typed plain_reflexive_cast h k fits = nrow_erased_alike refl
  plain_typed plain_cast_of_cast h k fits = nrow_erased_alike refl
  plain_typed plain_shorter_coercion h k fits = nrow_erased_alike refl
  plain_typed (plain_cast_of_let {r = true}) h k fits = nrow_erased_alike refl
  plain_typed (plain_cast_of_let {r = false}) h k fits = nrow_erased_alike refl
  plain_typed {c = c} plain_beta (typed_application _ _ (typed_lambda b e below) (given_term a) (takes_term f more)) k fits = nrow_beta (sort_is ms held a (scope_at c) (agrees (fits_values fits)) f)
  plain_typed plain_beta_type (typed_application _ _ (typed_lambda (type_binder l) e below) (given_type h) (takes_type more)) k fits = nrow_beta_type (lifted_by_kind h l)
  plain_typed plain_beta_coercion h k fits = nrow_beta_coercion
  plain_typed plain_dead_let h k fits = nrow_dead_let
  plain_typed plain_dead_group h k fits = nrow_dead_group
  plain_typed {c = c} plain_let_put (typed_let (bind_typed o kind v right atom rest) body) k fits = nrow_let_put (sort_is ms held right (scope_at c) (agrees (fits_values fits)) atom)
  plain_typed plain_application_of_let h k fits = nrow_application_of_let
  plain_typed plain_application_of_group h k fits = nrow_application_of_group
  plain_typed plain_case_of_let h k fits = nrow_case_of_let
  plain_typed plain_case_of_group h k fits = nrow_case_of_group
  plain_typed plain_let_of_let (typed_let (bind_typed {t = t} o kind v right atom rest) body) k fits = nrow_let_of_let (sym (no_atom_is_lifted t atom))
  plain_typed plain_let_of_group (typed_let (bind_typed {t = t} o kind v right atom rest) body) k fits = nrow_let_of_group (sym (no_atom_is_lifted t atom))
  plain_typed plain_dead_join h k fits = nrow_dead_join
  plain_typed plain_dead_joins h k fits = nrow_dead_joins
  plain_typed plain_applied_fail h k fits = nrow_applied_fail
  plain_typed plain_case_of_fail h k fits = nrow_case_of_fail
  plain_typed plain_cast_of_fail h k fits = nrow_erased_alike refl
  plain_typed plain_merged_case (typed_case i j e o r (default_alt kinded (typed_case i' j' (typed_local p) o' r' alts v') order rest) v) k fits = nrow_merged_case (sym (ap sort_of_type (ok_ok p)))
  plain_typed {c = c} (plain_named_field f) h (typed_let (bind_typed o kind v right atom rest) body) fits = nrow_named_field (sort_is ms held right (scope_at c) (agrees (fits_values fits)) atom) f

  -- PLACES

  -- R: a rewrite, whose left side is no atom; S: the same between expressions that have types
  module _ (R S : NPartRelation) (no_atom : (c : NPlace) (e d : NExpr) → R c e d → is_atom e ≡ false)
      (typed : (c : NPlace) (k : Context) (e d : NExpr) (t u : NTy) → R c e d → IsWritten e → HasType ms k e t → HasType ms k d u → FitsAt c k → S c e d) where
    place_no_atom : {c : NPlace} {e d : NExpr} → AtOnePlace R c e d → is_atom e ≡ false
    place_no_atom {c = c} {e = e} {d = d} (at_here r) = no_atom c e d r
    place_no_atom (at_head w) = refl
    place_no_atom (at_argument w) = refl
    place_no_atom (at_lambda w) = refl
    place_no_atom (at_right w) = refl
    place_no_atom (at_body w) = refl
    place_no_atom (at_group_right w) = refl
    place_no_atom (at_group_body w) = refl
    place_no_atom (at_scrutinee w) = refl
    place_no_atom (at_alternative w) = refl
    place_no_atom (at_cast w) = refl
    place_no_atom (at_field w) = refl
    place_no_atom (at_jump_argument w) = refl
    place_no_atom (at_join_right w) = refl
    place_no_atom (at_join_body w) = refl
    place_no_atom (at_joins_right w) = refl
    place_no_atom (at_joins_body w) = refl

    -- an argument of one type
    arg_typed : {a b : NExpr} → is_atom a ≡ false → {c : NPlace} {k : Context} {s t u x y : NTy} {gs hs : List Given} → HasType ms k b y → FitsAt c k
        → Takes s (GivenTerm x (is_atom a) ∷ gs) t → Takes s (GivenTerm y (is_atom b) ∷ hs) u → NChange S c a b → NArgChange S c (NATerm a) (NATerm b)
    arg_typed {a = a} n {c = c} {x = x} h fits (takes_term f more) (takes_term f' more') w =
        let first = first_lifted (scope_at c) a x n f in
        narg_lifted first.0 (second_lifted fits h f' first.1) w

    mutual
      unfolding enters head_sorts sorts_in lifteds

      pub place_typed : {c : NPlace} {e d : NExpr} → AtOnePlace R c e d → IsWritten e → {k : Context} {t u : NTy} → HasType ms k e t → HasType ms k d u → FitsAt c k → NChange S c e d
      place_typed (at_here r) wr h h' fits = nchange_here (typed _ _ _ _ _ _ r wr h h' fits)
      place_typed (at_head w) wr (typed_application _ _ f a takes) (typed_application _ _ f' a' takes') fits = nchange_in_application (place_typed w wr.0 f f' (fits_values fits)) narg_same
      place_typed (at_argument {f = f} w) wr {k = k} (typed_application s _ h (given_term a) takes) (typed_application r _ h' (given_term b) takes') fits =
          let same = type_is_one ms (without_joins k) f s r h h' in
          nchange_in_application nchange_same (arg_typed (place_no_atom w) b (fits_values fits) takes (takes_from (sym same) takes') (place_typed w wr.1 a b (fits_values fits)))
      place_typed (at_lambda w) wr (typed_lambda (value_binder {t = t} o kind v) e below) (typed_lambda b' d below') fits = nchange_in_lambda (place_typed w wr e d (fits_value (fits_values fits) t))
      place_typed (at_lambda w) wr (typed_lambda (type_binder {k = o} l) e below) (typed_lambda b' d below') fits = nchange_in_lambda (place_typed w wr e d (fits_type (fits_values fits) o))
      place_typed (at_lambda w) wr (typed_lambda (coercion_binder {r = r} {t = t} {u = u} i j x y v) e below) (typed_lambda b' d below') fits =
          nchange_in_lambda (place_typed w wr e d (fits_coercion (fits_values fits) (ends r t u)))
      place_typed (at_right w) wr (typed_let (bind_typed {t = t} o kind v a atom rest) body) (typed_let (bind_typed o' kind' v' b atom' rest') body') fits =
          nchange_in_let (nright_lifted (sym (no_atom_is_lifted t (subst (λ x. atom_fits t (not false && x) ≡ true) (place_no_atom w) atom))) (place_typed w wr.1.0 a b (fits_values fits))) nchange_same
      place_typed (at_body {t = t} {a = a} w) wr (typed_let binds body) (typed_let binds' body') fits =
          nchange_in_let nright_same (place_typed w wr.2 body body' (fits_binds (MoreNBinds (NBound t a) NoNBinds) fits))
      place_typed (at_group_right {c = c} {bs = bs} {cs = cs} w) wr {k = k} (typed_let binds body) (typed_let binds' body') fits =
          nchange_in_group (binds_typed w wr.1 binds (subst (λ x. BindsHaveTypes ms (without_joins x) true cs) (sym (same_with_binds w k)) binds') (fits_values (group_fits c cs bs binds fits))) nchange_same
      place_typed (at_group_body {c = c} {bs = bs} w) wr (typed_let binds body) (typed_let binds' body') fits = nchange_in_group nbinds_same (place_typed w wr.2 body body' (group_fits c bs bs binds fits))
      place_typed (at_scrutinee w) wr (typed_case i j e o r alts v) (typed_case i' j' e' o' r' alts' v') fits = nchange_in_case (place_typed w wr.0 e e' (fits_values fits)) nalts_same
      place_typed (at_alternative {xt = xt} w) wr (typed_case i j e o r alts v) (typed_case i' j' e' o' r' alts' v') fits = nchange_in_case nchange_same (alts_typed w wr.1 alts alts' (fits_value fits xt))
      place_typed (at_cast w) wr (typed_cast e p) (typed_cast d p') fits = nchange_in_cast (place_typed w wr e d (fits_values fits))
      place_typed (at_field {n = n} w) wr (typed_con x gs is args l takes) (typed_con y hs is' brgs l' takes') fits =
          nchange_in_constructor (args_typed w wr args brgs (fits_values fits) takes (takes_from (ap (constructor_type n) (sym (some_is (sym is ∙ is')))) takes'))
      place_typed (at_jump_argument w) wr (typed_jump x gs t is args l takes) (typed_jump y hs u is' brgs l' takes') fits =
          nchange_in_jump (args_typed w wr args brgs (fits_values fits) takes (subst (λ z. Takes z.type hs u) (sym (ok_ok (sym is ∙ is'))) takes'))
      place_typed (at_join_right {c = c} w) wr (typed_join o kind (join_typed kinded a rest) body v) (typed_join o' kind' (join_typed kinded' b rest') body' v') fits =
          nchange_in_join (place_typed w wr.1.0 a b (params_fit kinded c fits)) nchange_same
      place_typed (at_join_body {t = t} {ps = ps} {a = a} w) wr (typed_join o kind joins body v) (typed_join o' kind' joins' body' v') fits =
          nchange_in_join nchange_same (place_typed w wr.2 body body' (fits_joins t (single_join ps a) fits))
      place_typed (at_joins_right {c = c} {t = t} {js = js} {ks = ks} w) wr {k = k} (typed_join o kind joins body v) (typed_join o' kind' joins' body' v') fits =
          nchange_in_joins (joins_typed w wr.1 joins (subst (λ x. JoinsHaveType ms x t ks) (sym (same_with_joins w t k)) joins') (joins_fit c ks t js joins fits)) nchange_same
      place_typed (at_joins_body {c = c} {t = t} {js = js} w) wr (typed_join o kind joins body v) (typed_join o' kind' joins' body' v') fits =
          nchange_in_joins njoins_same (place_typed w wr.2 body body' (joins_fit c js t js joins fits))

      args_typed : {c : NPlace} {args brgs : NArgs} → AtOneArg R c args brgs → AreArgsWritten args → {k : Context} {s t u : NTy} {gs hs : List Given} → ArgsAreGiven ms k args gs
          → ArgsAreGiven ms k brgs hs → FitsAt c k
          → Takes s gs t → Takes s hs u → NArgsChange S c args brgs
      args_typed (first_arg w) wr (one_arg (given_term a) rest) (one_arg (given_term b) rest') fits takes takes' =
          nargs_more (arg_typed (place_no_atom w) b fits takes takes' (place_typed w wr.0 a b fits)) nargs_same
      args_typed (later_arg w) wr (one_arg (given_term a) rest) (one_arg (given_term b) rest') fits (takes_term f more) (takes_term f' more') =
          nargs_more narg_same (args_typed w wr.1 rest rest' fits more more')
      args_typed (later_arg w) wr (one_arg (given_type a) rest) (one_arg (given_type b) rest') fits (takes_type more) (takes_type more') = nargs_more narg_same (args_typed w wr.1 rest rest' fits more more')
      args_typed (later_arg w) wr (one_arg (given_coercion a) rest) (one_arg (given_coercion b) rest') fits (takes_coercion more) (takes_coercion more') =
          nargs_more narg_same (args_typed w wr.1 rest rest' fits more more')

      binds_typed : {c : NPlace} {bs cs : NBinds} → AtOneBind R c bs cs → AreBindsWritten bs → {k : Context} → BindsHaveTypes ms k true bs → BindsHaveTypes ms k true cs → FitsAt c k
          → NBindsChange S c bs cs
      binds_typed (first_bind w) wr (bind_typed o kind v a atom rest) (bind_typed o' kind' v' b atom' rest') fits = nbinds_more (place_typed w wr.0 a b fits) nbinds_same
      binds_typed (later_bind w) wr (bind_typed o kind v a atom rest) (bind_typed o' kind' v' b atom' rest') fits = nbinds_more nchange_same (binds_typed w wr.1 rest rest' fits)

      joins_typed : {c : NPlace} {js ks : NJoins} → AtOneJoin R c js ks → AreJoinsWritten js → {k : Context} {t : NTy} → JoinsHaveType ms k t js → JoinsHaveType ms k t ks → FitsAt c k
          → NJoinsChange S c js ks
      joins_typed {c = c} (first_join w) wr (join_typed kinded a rest) (join_typed kinded' b rest') fits = njoins_more (place_typed w wr.0 a b (params_fit kinded c fits)) njoins_same
      joins_typed (later_join w) wr (join_typed kinded a rest) (join_typed kinded' b rest') fits = njoins_more nchange_same (joins_typed w wr.1 rest rest' fits)

      alts_typed : {xt : NTy} {s : NExpr} {all : NAlts} {c : NPlace} {alts blts : NAlts} → AtOneAlt R xt s all c alts blts → AreAltsWritten alts → {rt : NTy} {k : Context} {p q : Before}
          → AltsFit ms k xt rt p alts → AltsFit ms k xt rt q blts
          → Fits k (below_value (sort_of_type xt) (scope_at c)) (sort_of_type xt ∷ sorts_in (place_at c)) → NAltsChange S xt s s all c alts blts
      alts_typed (first_alt w) wr (default_alt kinded a order rest) (default_alt kinded' b order' rest') fits = nalts_more (place_typed w wr.1 a b (alone_fits wr.0 (fits_binders kinded fits))) nalts_same
      alts_typed (first_alt w) wr (literal_alt kinded a int order rest) (literal_alt kinded' b int' order' rest') fits = nalts_more (place_typed w wr.1 a b (alone_fits wr.0 (fits_binders kinded fits))) nalts_same
      alts_typed (first_alt w) wr (con_alt x kinded a is data_type order fit rest) (con_alt y kinded' b is' data_type' order' fit' rest') fits =
          nalts_more (place_typed w wr.1 a b (fits_binders kinded fits)) nalts_same
      alts_typed (later_alt w) wr (default_alt kinded a order rest) (default_alt kinded' b order' rest') fits = nalts_more nchange_same (alts_typed w wr.2 rest rest' fits)
      alts_typed (later_alt w) wr (literal_alt kinded a int order rest) (literal_alt kinded' b int' order' rest') fits = nalts_more nchange_same (alts_typed w wr.2 rest rest' fits)
      alts_typed (later_alt w) wr (con_alt x kinded a is data_type order fit rest) (con_alt y kinded' b is' data_type' order' fit' rest') fits = nalts_more nchange_same (alts_typed w wr.2 rest rest' fits)

-- REWRITES THAT KNOW THEIR PLACE

pub place_row_no_atom : {G : NKnown} {c : NPlace} {e d : NExpr} → PlaceRow G c e d → is_atom e ≡ false
place_row_no_atom (place_plain r) = plain_no_atom r
place_row_no_atom (place_known v w k ch fits) = refl
place_row_no_atom (place_atom v l) = refl
place_row_no_atom (place_dead_alternative w a n o) = refl
place_row_no_atom (place_head k key e) = refl
place_row_no_atom (place_jump ps a k ok lets) = refl
place_row_no_atom (place_fold a v) = refl
place_row_no_atom (place_constructor parts bs b l w behind ok e inner lets) = refl

atom_fits_any : (t : NTy) (b : Bool) → b ≡ true → atom_fits t b ≡ true
atom_fits_any t b e = go (not (is_unlifted t)) b e
  where
    go : (a b : Bool) → b ≡ true → a || b ≡ true
    go true b e = refl
    go false b e = e

module _ (ms : Modules) (held : AreHeld ms) where
  -- the sort of an atom is that of its type, and it stands at a place of this sort
  atom_stands : {x : Context} {s : Scope} {g : List Sort} (y : NExpr) (t : NTy) → is_atom y ≡ true → HasType ms x y t → Fits x s g → (sort_of s y ≡ sort_of_type t) × IsAtom g (sort_of_type t) (erased s y)
  atom_stands {s = s} {g = g} y t v h fits =
      let same = sort_is ms held h s (agrees fits) (atom_fits_any t (is_atom y) v) in (same, subst (λ o. IsAtom g o (erased s y)) same (is_placed h s g fits))

  pub place_row_typed : {G : NKnown} {c : NPlace} {k : Context} {e d : NExpr} {t u : NTy} → PlaceRow G c e d → HasType ms k e t → HasType ms k d u → FitsAt c k → NKnowingRow G c e d
  place_row_typed (place_plain r) h h' fits = nknowing_plain (plain_typed ms held r h h' fits)
  place_row_typed (place_known {y = y} {xt = xt} v w k ch ok) (typed_case i j e o r alts z) h' fits =
      let atom = atom_stands y xt v e (fits_values fits) in nknowing_case w k ch ok atom.0 atom.1
  place_row_typed {c = c} (place_atom {y = y} {xt = xt} v l) (typed_case i j e o r alts z) h' fits =
      let atom = atom_stands y xt v e (fits_values fits) in
      nknowing_case_of_atom l (atom.0 ∙ l) (subst (λ s. IsAtom (sorts_in (place_at c)) s (erased (scope_at c) y)) l atom.1)
  place_row_typed (place_dead_alternative w a n o) h h' fits = nknowing_dead_alternative w a n o
  place_row_typed (place_head k key e) h h' fits = nknowing_case_of_head k key e
  place_row_typed (place_jump ps a k ok lets) h h' fits = nknowing_jump ps a k ok lets
  place_row_typed (place_fold a v) h h' fits = nknowing_fold a v
  place_row_typed (place_constructor parts bs b l w behind ok e inner lets) h h' fits = nknowing_case_of_constructor parts bs b l w behind ok e inner lets

-- Where the variables and join points of a context stand among the binders of the erased term.
use Rattle.std.proofs.Common.{◌≡◌, ℕ, zero, suc, Bool, List, [], ◌∷◌, map, Some, Ok, refl, sym, ap, ◌∙◌}
use Rattle.fc_syntax.specs.Tree.{Kind}
use Rattle.fc_model.specs.Coercing.{Ends, ends}
use Rattle.fc_model.specs.Erasure.{Scope, below_all, below_binds, below_join, below_joins, below_unnamed, below_value, binder_sorts, no_scope, sort_of_type}
use Rattle.fc_model.specs.Faulting.{at_distance}
use Rattle.fc_model.specs.Kinding.{Modules}
use Rattle.fc_model.specs.Nameless.{NTy, NBinder, NBound, NJoined, NBinds, NoNBinds, MoreNBinds, NJoins, NoNJoins, MoreNJoins}
use Rattle.fc_model.specs.Terms.{Sort, Lifted, Unlifted, enters, sort_at, upr}
use Rattle.fc_model.specs.Typing.{Context, JoinPoint, join_point, no_context, shifted_join, with_binders, with_binds, with_coercion, with_join, with_joins, with_type, with_value, without_joins}
use Rattle.fc_model.specs.Substituting.{shifted_type}
use Rattle.fc_model.specs.TypingRules.{BindersAreKinded, no_binders, one_binder, value_binder, type_binder, coercion_binder}
use Rattle.fc_model.proofs.Parts.{err_ok, ok_ok}
use Rattle.fc_meaning.specs.Laws.{Agrees}
use Rattle.fc_meaning.proofs.SortsOfTypes.{sort_of_renamed}

-- each variable has a binder of the sort of its type among those in scope, and each join point a lifted one
pub record Fits (c : Context) (s : Scope) (g : List Sort) : Type 0 where
  pub values : (i : ℕ) (t : NTy) → at_distance c.values i ≡ Ok t → (s.sorts i ≡ sort_of_type t) × (sort_at g (s.values i) ≡ Some (sort_of_type t))
  pub joins : (i : ℕ) (j : JoinPoint) → at_distance c.joins i ≡ Ok j → sort_at g (s.joins i) ≡ Some Lifted

pub agrees : {c : Context} {s : Scope} {g : List Sort} → Fits c s g → Agrees c s
agrees fits i t p = (fits.values i t p).0

pub fits_closed : Fits no_context no_scope []
fits_closed = record { values = λ i t p. err_ok p; joins = λ i j p. err_ok p }

-- where no join point is in reach
pub fits_values : {c : Context} {s : Scope} {g : List Sort} → Fits c s g → Fits (without_joins c) s g
fits_values fits = record { values = fits.values; joins = λ i j p. err_ok p }

-- BELOW A BINDER

value_below : {c : Context} {s : Scope} {g : List Sort} → Fits c s g → (t : NTy) (i : ℕ) (u : NTy) → at_distance (t ∷ c.values) i ≡ Ok u
    → ((below_value (sort_of_type t) s).sorts i ≡ sort_of_type u) × (sort_at (sort_of_type t ∷ g) (upr s.values i) ≡ Some (sort_of_type u))
unfolding sort_at upr
value_below fits t zero u p = (ap sort_of_type (ok_ok p), ap (λ x. Some (sort_of_type x)) (ok_ok p))
value_below fits t (suc i) u p = fits.values i u p

pub fits_value : {c : Context} {s : Scope} {g : List Sort} → Fits c s g → (t : NTy) → Fits (with_value t c) (below_value (sort_of_type t) s) (sort_of_type t ∷ g)
unfolding sort_at
fits_value fits t = record { values = value_below fits t; joins = fits.joins }

-- what stands at a distance in a list of what is made
made_at : {X Y : Type 0} (f : X → Y) (xs : List X) (i : ℕ) (y : Y) → at_distance (map f xs) i ≡ Ok y → (x : X) × (at_distance xs i ≡ Ok x) × (f x ≡ y)
made_at f [] i y p = err_ok p
made_at f (x ∷ xs) zero y p = (x, refl, ok_ok p)
made_at f (x ∷ xs) (suc i) y p = made_at f xs i y p

-- a binder of a type is gone, and shifted types have the sorts that they had
pub fits_type : {c : Context} {s : Scope} {g : List Sort} → Fits c s g → (k : Kind) → Fits (with_type k c) s g
fits_type {c = c} {s = s} {g = g} fits k = record { values = λ i t p. shifted i t p; joins = λ i j p. (let q = made_at shifted_join c.joins i j p in fits.joins i q.0 q.1) }
  where
    shifted : (i : ℕ) (t : NTy) → at_distance (map shifted_type c.values) i ≡ Ok t → (s.sorts i ≡ sort_of_type t) × (sort_at g (s.values i) ≡ Some (sort_of_type t))
    shifted i t p =
        let q = made_at shifted_type c.values i t p in
        let same = sym (sort_of_renamed suc q.0) ∙ ap sort_of_type q.2 in
        let f = fits.values i q.0 q.1 in
        (f.0 ∙ same, f.1 ∙ ap (λ o. Some o) same)

-- below a binder that nothing names
pub fits_unnamed : {c : Context} {s : Scope} {g : List Sort} → Fits c s g → (o : Sort) → Fits c (below_unnamed s) (o ∷ g)
unfolding sort_at
fits_unnamed fits o = record { values = fits.values; joins = fits.joins }

-- below the binder of a coercion, which is unlifted, and which no variable of a value names
pub fits_coercion : {c : Context} {s : Scope} {g : List Sort} → Fits c s g → (e : Ends) → Fits (with_coercion e c) (below_unnamed s) (Unlifted ∷ g)
unfolding sort_at
fits_coercion fits e = record { values = fits.values; joins = fits.joins }

join_below : {c : Context} {s : Scope} {g : List Sort} → Fits c s g → (x : JoinPoint) (i : ℕ) (j : JoinPoint) → at_distance (x ∷ c.joins) i ≡ Ok j
    → sort_at (Lifted ∷ g) (upr s.joins i) ≡ Some Lifted
unfolding sort_at upr
join_below fits x zero j p = refl
join_below fits x (suc i) j p = fits.joins i j p

pub fits_join : {c : Context} {s : Scope} {g : List Sort} → Fits c s g → (x : JoinPoint) → Fits (with_join x c) (below_join s) (Lifted ∷ g)
unfolding sort_at
fits_join fits x = record { values = fits.values; joins = join_below fits x }

-- BELOW SEVERAL BINDERS

-- below the binders of an alternative, and below the parameters of a join point
pub fits_binders : {ms : Modules} {owes : Bool} {ks : List Kind} {bs : List NBinder} → BindersAreKinded ms owes ks bs → {c : Context} {s : Scope} {g : List Sort} → Fits c s g
    → Fits (with_binders bs c) (below_all bs s) (enters (binder_sorts bs) g)
unfolding enters
fits_binders no_binders fits = fits
fits_binders (one_binder (value_binder {t = t} k h v) rest) fits = fits_binders rest (fits_value fits t)
fits_binders (one_binder (type_binder {k = k} l) rest) fits = fits_binders rest (fits_type fits k)
fits_binders (one_binder (coercion_binder {r = r} {t = t} {u = u} j k h i v) rest) fits = fits_binders rest (fits_coercion fits (ends r t u))

abbrev pub bind_sorts : NBinds → List Sort
bind_sorts NoNBinds = []
bind_sorts (MoreNBinds (NBound t e) rest) = sort_of_type t ∷ bind_sorts rest

pub fits_binds : (bs : NBinds) {c : Context} {s : Scope} {g : List Sort} → Fits c s g → Fits (with_binds bs c) (below_binds bs s) (enters (bind_sorts bs) g)
unfolding enters
fits_binds NoNBinds fits = fits
fits_binds (MoreNBinds (NBound t e) rest) fits = fits_binds rest (fits_value fits t)

abbrev pub join_sorts : NJoins → List Sort
join_sorts NoNJoins = []
join_sorts (MoreNJoins j rest) = Lifted ∷ join_sorts rest

pub fits_joins : (t : NTy) (js : NJoins) {c : Context} {s : Scope} {g : List Sort} → Fits c s g → Fits (with_joins t js c) (below_joins js s) (enters (join_sorts js) g)
unfolding enters
fits_joins t NoNJoins fits = fits
fits_joins t (MoreNJoins (NJoined ps e) rest) fits = fits_joins t rest (fits_join fits (join_point t ps))

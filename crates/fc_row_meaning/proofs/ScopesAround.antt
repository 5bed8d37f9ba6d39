-- The scope at a place fits the context of the surroundings there.
use Rattle.std.specs.Prelude.{List, [], ◌∷◌}
use Rattle.fc_model.specs.Coercing.{ends}
use Rattle.fc_model.specs.Erasure.{Scope, below, below_all, sort_of_type}
use Rattle.fc_model.specs.Kinding.{Modules}
use Rattle.fc_model.specs.Nameless.{NBinder, NBValue, NBType, NBCo}
use Rattle.fc_model.specs.Terms.{Sort}
use Rattle.fc_rows.specs.Surroundings.{Unknown, Surroundings, behind_binder, behind_binders, behind_value}
use Rattle.fc_meaning.proofs.ScopesFit.{Fits, fits_binds, fits_closed, fits_coercion, fits_joins, fits_type, fits_value, fits_values}
use Rattle.fc_row_places.specs.NamelessPlaces.{NPlace, scope_at}
use Rattle.fc_row_places.specs.NamelessRows.{single_bind, single_join}
use Rattle.fc_row_meaning.specs.PlacedRows.{Around, around_all, around_alternative, around_apart, around_below, around_group, around_head, around_join, around_joins, around_let, around_parameters}
use Rattle.fc_row_meaning.specs.PlacedRows.{around_unapplied}

-- past one binder, and past several
fits_behind_one : (b : NBinder) (s : Surroundings) (c : Scope) (g : List Sort) → Fits s.context c g → (h : List Sort) × Fits (behind_binder b s).context (below b c) h
fits_behind_one (NBValue t) s c g f = (sort_of_type t ∷ g, fits_value f t)
fits_behind_one (NBType k) s c g f = (g, fits_type f k)
fits_behind_one (NBCo r t u) s c g f = (_, fits_coercion f (ends r t u))

fits_behind : (bs : List NBinder) (s : Surroundings) (c : Scope) (g : List Sort) → Fits s.context c g → (h : List Sort) × Fits (behind_binders bs s).context (below_all bs c) h
fits_behind [] s c g f = (g, f)
fits_behind (b ∷ bs) s c g f = let one = fits_behind_one b s c g f in fits_behind bs (behind_binder b s) (below b c) one.0 one.1

pub scope_fits : (ms : Modules) (s : Surroundings) (c : NPlace) → Around ms s c → (g : List Sort) × Fits s.context (scope_at c) g
scope_fits ms _ _ around_all = ([], fits_closed)
scope_fits ms _ _ (around_apart {s = s} {c = c} a) = let f = scope_fits ms s c a in (f.0, fits_values f.1)
scope_fits ms _ _ (around_head {s = s} {c = c} a) = let f = scope_fits ms s c a in (f.0, fits_values f.1)
scope_fits ms _ _ (around_unapplied {s = s} {c = c} a) = scope_fits ms s c a
scope_fits ms _ _ (around_below {s = s} {c = c} {b = b} a) = let f = scope_fits ms s c a in fits_behind_one b s (scope_at c) f.0 f.1
scope_fits ms _ _ (around_parameters {s = s} {c = c} {ps = ps} a) = let f = scope_fits ms s c a in fits_behind ps s (scope_at c) f.0 f.1
scope_fits ms _ _ (around_let {s = s} {c = c} {t = t} {a = d} w a) = let f = scope_fits ms s c a in (_, fits_binds (single_bind t d) f.1)
scope_fits ms _ _ (around_group {s = s} {c = c} {bs = bs} w h a) = let f = scope_fits ms s c a in (_, fits_binds bs f.1)
scope_fits ms _ _ (around_join {s = s} {c = c} t {ps = ps} {a = d} w a) = let f = scope_fits ms s c a in (_, fits_joins t (single_join ps d) f.1)
scope_fits ms _ _ (around_joins {s = s} {c = c} t {js = js} n a) = let f = scope_fits ms s c a in (_, fits_joins t js f.1)
scope_fits ms _ _ (around_alternative {s = s} {c = c} {t = t} {bs = bs} w b a) =
    let f = scope_fits ms s c a in fits_behind bs (behind_value t Unknown s) _ _ (fits_value f.1 t)

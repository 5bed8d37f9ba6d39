-- Places of the nameless tree: the binders above them, with what stands on each side of a change, and what they are when types are gone.
use Rattle.std.specs.Prelude.{List, [], ◌∷◌}
use Rattle.fc_syntax.specs.declared.expr.Head.{Head}
use Rattle.fc_model.specs.Erasure.{Scope, no_scope, below, below_all, below_binds, below_joins, below_join, below_value, binder_sorts, erased, erased_alts, erased_head, erased_joins, erased_rights}
use Rattle.fc_model.specs.Erasure.{lambdas, sort_of_type}
use Rattle.fc_model.specs.Nameless.{NTy, NBinder, NBValue, NBType, NBCo, NExpr, NBinds, NJoins, NAlts}
use Rattle.fc_model.specs.Terms.{Sort, Lifted, Unlifted, lifteds, AreSorted, IsSorted}
use Rattle.fc_counted.specs.Places.{Place, Outside, InBody, PastLet, PastGroup, InAlt, heads_of, sorts_in}

-- the binders above a place
pub data NPlace : Type 0 where
  NOutside : NPlace
  NBelow : NBinder → NPlace → NPlace
  -- below the parameters of a join point
  NBelowAll : List NBinder → NPlace → NPlace
  -- in the body of a let of one binder; in the body and the right sides of a recursive one
  NPastLet : NTy → NExpr → NExpr → NPlace → NPlace
  NPastGroup : NBinds → NBinds → NPlace → NPlace
  -- the same of join points
  NPastJoin : List NBinder → NExpr → NExpr → NPlace → NPlace
  NPastJoins : NJoins → NJoins → NPlace → NPlace
  -- the type of the case's binder, the scrutinee, all alternatives, and the head and the binders of the one that was taken
  NInAlt : NTy → NExpr → NExpr → NAlts → Head → List NBinder → NPlace → NPlace

-- the scope at a place, on both sides
abbrev pub scope_at : NPlace → Scope
scope_at NOutside = no_scope
scope_at (NBelow b c) = below b (scope_at c)
scope_at (NBelowAll bs c) = below_all bs (scope_at c)
scope_at (NPastLet t d e c) = below_value (sort_of_type t) (scope_at c)
scope_at (NPastGroup bs cs c) = below_binds bs (scope_at c)
scope_at (NPastJoin ps d e c) = below_join (scope_at c)
scope_at (NPastJoins js ks c) = below_joins js (scope_at c)
scope_at (NInAlt xt s t alts h bs c) = below_all bs (below_value (sort_of_type xt) (scope_at c))

-- below lambdas over binders of these sorts
abbrev pub in_bodies : List Sort → Place → Place
in_bodies [] p = p
in_bodies (s ∷ ss) p = in_bodies ss (InBody s p)

-- the place when types are gone
abbrev pub place_at : NPlace → Place
place_at NOutside = Outside
place_at (NBelow (NBValue t) c) = InBody (sort_of_type t) (place_at c)
place_at (NBelow (NBType k) c) = place_at c
place_at (NBelow (NBCo r t u) c) = InBody Unlifted (place_at c)
place_at (NBelowAll bs c) = in_bodies (binder_sorts bs) (place_at c)
place_at (NPastLet t d e c) = PastLet (sort_of_type t) (erased (scope_at c) d) (erased (scope_at c) e) (place_at c)
place_at (NPastGroup bs cs c) =
    let s = below_binds bs (scope_at c) in PastGroup (lifteds (erased_rights s bs)) (erased_rights s bs) (erased_rights s cs) (place_at c)
place_at (NPastJoin ps d e c) =
    let s = below_all ps (scope_at c) in PastLet Lifted (lambdas (binder_sorts ps) (erased s d)) (lambdas (binder_sorts ps) (erased s e)) (place_at c)
place_at (NPastJoins js ks c) =
    let s = below_joins js (scope_at c) in PastGroup (lifteds (erased_joins s js)) (erased_joins s js) (erased_joins s ks) (place_at c)
place_at (NInAlt xt s t alts h bs c) =
    InAlt (sort_of_type xt) (erased (scope_at c) s) (erased (scope_at c) t) (heads_of (erased_alts (below_value (sort_of_type xt) (scope_at c)) alts)) (erased_head h bs) (place_at c)

-- what lets and groups bind above a place is sorted
abbrev pub IsPlaceSorted : NPlace → Type 0
IsPlaceSorted NOutside = Unit {0}
IsPlaceSorted (NBelow b c) = IsPlaceSorted c
IsPlaceSorted (NBelowAll bs c) = IsPlaceSorted c
IsPlaceSorted (NPastLet t d e c) = IsSorted (sorts_in (place_at c)) (erased (scope_at c) d) × IsPlaceSorted c
IsPlaceSorted (NPastGroup bs cs c) = AreSorted (sorts_in (place_at (NPastGroup bs cs c))) (erased_rights (below_binds bs (scope_at c)) bs) × IsPlaceSorted c
IsPlaceSorted (NPastJoin ps d e c) = IsPlaceSorted c
IsPlaceSorted (NPastJoins js ks c) = IsPlaceSorted c
IsPlaceSorted (NInAlt xt s t alts h bs c) = IsPlaceSorted c

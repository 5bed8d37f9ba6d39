-- Beta, rows of failures and casts, and rows that leave fewer nodes, lower a number.
use Rattle.std.proofs.Common.{◌≡◌, ◌≤◌, ◌+◌, ℕ, zero, suc, Bool, false, List, [], Option, Some, None, Result, Ok, Err, refl, ap, arith}
use Rattle.std.specs.List.{list_any}
use Rattle.fc_syntax.specs.declared.expr.Head.{Head}
use Rattle.fc_syntax.specs.declared.expr.Head.TheVariants as head
use Rattle.fc_model.specs.Calling.{from_some, function_ends}
use Rattle.fc_model.specs.Coercing.{Ends, ends_or_fault}
use Rattle.fc_model.specs.Faulting.{F}
use Rattle.fc_model.specs.Kinding.{Modules, same_type}
use Rattle.fc_model.specs.Nameless.{NBValue, NBType, NBCo, NATerm, NAType, NACo, NBound, NJoined, NBranch, NoNBinds, MoreNBinds, NoNJoins, MoreNJoins, NAlts, NoNAlts, MoreNAlts}
use Rattle.fc_model.specs.Nameless.{NExpr, NLocal, NApp, NLam, NLet, NCase, NCast, NFail, NJoin}
use Rattle.fc_model.specs.Replacing.{coercion_alone, join_count, renamed, replaced, type_alone, unchanged, value_alone}
use Rattle.fc_model.specs.Typing.{is_atom, type_read_off}
use Rattle.fc_model.proofs.CallsKept.{from_some_inv}
use Rattle.fc_rows.specs.Changing.{changed, made}
use Rattle.fc_rows.specs.ChangingCoercions.{as_they_are}
use Rattle.fc_rows.specs.Occurrences.{innermost_joins, is_dead, occurrences}
use Rattle.fc_rows.specs.Shrinking.{alt_dead, before_joins, beta, case_merge, cast_cast, cast_refl, fail_absorb, heads_excluded, if_equal, is_trivial, join_dead, join_once, jump_once, jump_place, known, let_atom, let_of}
use Rattle.fc_rows.specs.Shrinking.{occurs_once, same_head, without_alternative}
use Rattle.fc_rows.specs.Surroundings.{PointOf, Surroundings, behind_joins, past_joins}
use Rattle.fc_row_nodes.specs.Nodes.{alts_nodes, nodes}
use Rattle.fc_row_nodes.proofs.Jumps.{join_dead_nodes, jump_within}
use Rattle.fc_row_nodes.proofs.Made.{if_some_inv, made_inv, none_some, some_some}
use Rattle.fc_row_nodes.proofs.Points.{moved_weight, weight}
use Rattle.fc_row_nodes.proofs.Replaced.{light_alts, light_nodes, renamed_nodes, unchanged_light, value_light}
use Rattle.fc_row_nodes.proofs.Within.{trivial_field}
use Rattle.fc_row_ends.proofs.Counted.{nodes_fall}
use Rattle.fc_row_ends.proofs.Drops.{Drops, Falls, by_casts, by_forms, by_nodes, drops_plain, plain_most}
use Rattle.fc_row_ends.proofs.Numbers.{Number, Nodes, Forms, Fields, Lets, Around, Casts, count, extra, further, of_cast, of_type}
use Rattle.fc_row_ends.proofs.Put.{renamed_count}
use Rattle.fc_row_ends.proofs.Rises.{count_rises}

-- what a row makes falls
abbrev pub RowFalls : (Surroundings → NExpr → Option NExpr) → Type 0
RowFalls row = (s : Surroundings) (e f : NExpr) → row s e ≡ Some f → Falls (λ n c. Drops n c e f)

pub nothing_falls : RowFalls (λ s e. None)
nothing_falls s e f h = none_some h

pub fewer_nodes : (e f : NExpr) → is_trivial e ≡ false → nodes f + 1 ≤ nodes e → Falls (λ n c. Drops n c e f)
fewer_nodes e f plain less = by_nodes (nodes_fall e f plain less)

-- with one application to a type less
fewer_types : (e f : NExpr) → ((n : Number) → Drops n (of_type n) e f) → Falls (λ n c. Drops n c e f)
fewer_types e f d = by_forms (d Nodes) (d Forms)

-- BETA AND LETS

pub beta_falls : (ms : Modules) → RowFalls (beta ms)
beta_falls ms s (NApp (NLam (NBValue t) b) (NATerm a)) f h =
    let m = from_some_inv (λ g. made (λ p. let_of p.0 a b) (function_ends g)) (type_read_off ms s.context (NLam (NBValue t) b)) f h in
    let n = made_inv (λ p. let_of p.0 a b) (function_ends m.0) f m.2 in
    fewer_nodes (NApp (NLam (NBValue t) b) (NATerm a)) f refl (omega (arith, ap nodes n.2))
beta_falls ms s (NApp (NLam (NBType k) b) (NAType t)) f h =
    fewer_types (NApp (NLam (NBType k) b) (NAType t)) f (λ n. drops_plain n (of_type n) (NApp (NLam (NBType k) b) (NAType t)) f refl refl
    (λ l. omega (arith, ap (count n l) (some_some h), renamed_count n (type_alone t) b l, count_rises n l b)))
beta_falls ms s (NApp (NLam (NBCo r t u) b) (NACo g)) f h =
    fewer_nodes (NApp (NLam (NBCo r t u) b) (NACo g)) f refl (omega (arith, ap nodes (some_some h), light_nodes (coercion_alone g) unchanged_light b))
beta_falls ms s e f h = none_some h

pub let_atom_falls : RowFalls (λ s e. let_atom e)
let_atom_falls s (NLet false (MoreNBinds (NBound t a) NoNBinds) b) f h =
    let m = if_some_inv (is_trivial a) (Some (replaced (value_alone a) b)) f h in
    fewer_nodes (let_of t a b) f refl (omega (arith, ap nodes (some_some m.1), light_nodes (value_alone a) (value_light a unchanged (trivial_field a m.0) unchanged_light) b))
let_atom_falls s e f h = none_some h

-- CASTS

-- with one cast less
pub fewer_casts : (e f : NExpr) → ((n : Number) → Drops n (of_cast n) e f) → Falls (λ n c. Drops n c e f)
fewer_casts e f d = by_casts (d Nodes) (d Forms) (d Fields) (d Lets) (d Around) (d Casts)

atom_most : (n : Number) (a t : Bool) → extra n a t ≤ extra n false t
atom_most Fields a t = plain_most a
atom_most n a t = omega arith

pub cast_refl_falls : (ms : Modules) → RowFalls (cast_refl ms)
cast_refl_falls ms s (NCast e g) f h = judged (ends_or_fault ms s.context.kinds s.context.coercions g) h
  where
    judged : (r : Result Ends F) → if_equal e r ≡ Some f → Falls (λ n c. Drops n c (NCast e g) f)
    judged (Ok p) q =
        let is = some_some (if_some_inv (same_type p.left p.right) (Some e) f q).1 in
        fewer_casts (NCast e g) f (λ n. record {
          whole = λ l. omega (arith, ap (count n l) is, count_rises n l e);
          field = λ l. omega (arith, ap (λ x. count n l x + extra n (is_atom x) (is_trivial x)) is, count_rises n l e, atom_most n (is_atom e) (is_trivial e));
        })
    judged (Err x) q = none_some q
cast_refl_falls ms s e f h = none_some h

pub cast_cast_falls : RowFalls (λ s e. cast_cast e)
cast_cast_falls s (NCast (NCast e g) k) f h = fewer_casts (NCast (NCast e g) k) f (λ n. record {
  whole = λ l. omega (arith, ap (count n l) (some_some h), count_rises n (further n l) e);
  field = λ l. omega (arith, ap (λ x. count n l x + extra n (is_atom x) (is_trivial x)) (some_some h), count_rises n (further n l) e);
})
cast_cast_falls s e f h = none_some h

-- FAILURES

pub fail_absorb_falls : (ms : Modules) → RowFalls (fail_absorb ms)
fail_absorb_falls ms s (NApp (NFail t) (NAType u)) f h =
    let m = made_inv NFail (type_read_off ms s.context (NApp (NFail t) (NAType u))) f h in
    fewer_types (NApp (NFail t) (NAType u)) f (λ n. drops_plain n (of_type n) (NApp (NFail t) (NAType u)) f refl refl (λ l. omega (arith, ap (count n l) m.2)))
fail_absorb_falls ms s (NApp (NFail t) (NATerm a)) f h =
    let m = made_inv NFail (type_read_off ms s.context (NApp (NFail t) (NATerm a))) f h in
    fewer_nodes (NApp (NFail t) (NATerm a)) f refl (omega (arith, ap nodes m.2))
fail_absorb_falls ms s (NApp (NFail t) (NACo g)) f h =
    let m = made_inv NFail (type_read_off ms s.context (NApp (NFail t) (NACo g))) f h in
    fewer_nodes (NApp (NFail t) (NACo g)) f refl (omega (arith, ap nodes m.2))
fail_absorb_falls ms s (NCase (NFail t) xt rt alts) f h = fewer_nodes (NCase (NFail t) xt rt alts) f refl (omega (arith, ap nodes (some_some h)))
fail_absorb_falls ms s (NCast (NFail t) g) f h =
    let m = made_inv NFail (type_read_off ms s.context (NCast (NFail t) g)) f h in
    fewer_casts (NCast (NFail t) g) f (λ n. drops_plain n (of_cast n) (NCast (NFail t) g) f refl refl (λ l. omega (arith, ap (count n l) m.2)))
fail_absorb_falls ms s e f h = none_some h

-- ALTERNATIVES

pub case_merge_falls : RowFalls (λ s e. case_merge e)
case_merge_falls s (NCase e xt rt (MoreNAlts (NBranch head.Default [] (NCase (NLocal zero) yt qt alts)) NoNAlts)) f h =
    let put = value_alone (NLocal 0) in
    let light = value_light (NLocal 0) unchanged (omega arith) unchanged_light in
    fewer_nodes (NCase e xt rt (MoreNAlts (NBranch head.Default [] (NCase (NLocal zero) yt qt alts)) NoNAlts)) f refl (omega (arith, ap nodes (some_some h), light_alts put light alts))
case_merge_falls s e f h = none_some h

-- everything is made of some node
some_nodes : (e : NExpr) → 1 ≤ nodes e
some_nodes (NApp f a) = omega (arith, some_nodes f)
some_nodes (NLam b e) = omega (arith, some_nodes e)
some_nodes (NLet r bs e) = omega (arith, some_nodes e)
some_nodes (NCast e g) = omega (arith, some_nodes e)
some_nodes e = omega arith

fewer_alternatives : (hs : List Head) (i : ℕ) (alts rest : NAlts) → without_alternative hs i alts ≡ Some rest → alts_nodes rest + 1 ≤ alts_nodes alts
fewer_alternatives hs i NoNAlts rest h = none_some h
fewer_alternatives hs zero (MoreNAlts (NBranch k bs b) more) rest h =
    let m = if_some_inv (list_any (same_head k) hs) (Some more) rest h in
    omega (arith, ap alts_nodes (some_some m.1), some_nodes b)
fewer_alternatives hs (suc i) (MoreNAlts a more) rest h =
    let m = made_inv (λ x. MoreNAlts a x) (without_alternative hs i more) rest h in
    omega (arith, ap alts_nodes m.2, fewer_alternatives hs i more m.0 m.1)

pub alt_dead_falls : (i : ℕ) → RowFalls (alt_dead i)
alt_dead_falls i s (NCase e xt rt alts) f h =
    let hs = heads_excluded (known s e) in
    let m = made_inv (λ rest. NCase e xt rt rest) (without_alternative hs i alts) f h in
    fewer_nodes (NCase e xt rt alts) f refl (omega (arith, ap nodes m.2, fewer_alternatives hs i alts m.0 m.1))
alt_dead_falls i s e f h = none_some h

-- JOINS

pub join_dead_falls : RowFalls (λ s e. join_dead e)
join_dead_falls s (NJoin r t js b) f h =
    let go = before_joins (join_count js) in
    let m = if_some_inv (is_dead (occurrences (innermost_joins (join_count js)) b)) (Some (renamed go b)) f h in
    fewer_nodes (NJoin r t js b) f refl (omega (arith, ap nodes (some_some m.1), renamed_nodes go b))
join_dead_falls s e f h = none_some h

pub join_once_falls : RowFalls join_once
join_once_falls s (NJoin false t (MoreNJoins (NJoined ps d) NoNJoins) b) f h =
    let group = MoreNJoins (NJoined ps d) NoNJoins in
    let into = behind_joins false t group s in
    let m = if_some_inv (occurs_once (occurrences (innermost_joins 1) b)) _ f h in
    let p = from_some_inv (λ p. from_some (λ c. join_dead (NJoin false t group c)) (changed jump_once as_they_are into p b)) (jump_place 0 b) f m.1 in
    let c = from_some_inv (λ c. join_dead (NJoin false t group c)) (changed jump_once as_they_are into p.0 b) f p.2 in
    let left = join_dead_nodes t group c.0 f c.2 in
    let body = jump_within (weight (PointOf ps d)) 0 into (moved_weight (past_joins 1) (PointOf ps d)) p.0 b c.0 p.1 c.1 in
    fewer_nodes (NJoin false t group b) f refl (omega (arith, left, body))
join_once_falls s e f h = none_some h

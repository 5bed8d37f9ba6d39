-- Lets that go or move, and a field that gets a let, lower a number.
use Rattle.std.proofs.Common.{◌≡◌, ◌≤◌, ◌+◌, ◌&&◌, ℕ, Bool, true, false, not, if◌then◌else◌, Some, refl, ap, arith}
use Rattle.std.proofs.lemmas.Bool.{and_parts}
use Rattle.fc_model.specs.Calling.{at_type, coercion_asked, constructor, constructor_type, function_ends, is_unlifted}
use Rattle.fc_model.specs.Kinding.{Modules}
use Rattle.fc_model.specs.Nameless.{NTy, NArg, NATerm, NAType, NACo, NBound, NExpr, NLocal, NVar, NLit, NApp, NLet, NCase, NCast, NCon, NArgs, NoNArgs, MoreNArgs, NoNBinds, MoreNBinds}
use Rattle.fc_model.specs.Replacing.{below_values, bind_count, coercion_variables, past_a_value, renamed, replaced, value_alone, variables}
use Rattle.fc_model.specs.Typing.{is_atom}
use Rattle.fc_model.proofs.CallsKept.{from_some_inv}
use Rattle.fc_rows.specs.Changing.{made}
use Rattle.fc_rows.specs.Commuting.{app_of_let, case_of_let, cast_of_let, first_field, is_value_behind_lets, let_of_let, name_field, with_first_named}
use Rattle.fc_rows.specs.Occurrences.{innermost_values, is_dead, occurrences}
use Rattle.fc_rows.specs.Shrinking.{before_values, is_once, is_trivial, let_dead, let_of, let_once, moved_args}
use Rattle.fc_rows.specs.Surroundings.{past_values}
use Rattle.fc_row_nodes.proofs.Made.{if_some_inv, made_inv, none_some, some_some}
use Rattle.fc_row_ends.proofs.Drops.{Drops, Falls, by_around, by_fields, by_lets, drops_plain}
use Rattle.fc_row_ends.proofs.Numbers.{Number, Nodes, Forms, Fields, Lets, Around, Level, around, count, extra, further, in_fields, of_bind, of_let, own}
use Rattle.fc_row_ends.proofs.Put.{moved_applied, moved_fields, once_put, renamed_alts, renamed_count, renamed_still}
use Rattle.fc_row_ends.proofs.PutIn.{atom_extra}
use Rattle.fc_row_ends.proofs.Rises.{binds_rise}
use Rattle.fc_row_ends.proofs.SimpleRows.{RowFalls}

-- LETS THAT GO

-- with one let less
fewer_lets : (e f : NExpr) → ((n : Number) → ((k l : Level n) → k ≡ l) → Drops n (of_let n) e f) → Falls (λ n c. Drops n c e f)
fewer_lets e f d = by_lets (d Nodes (λ k l. refl)) (d Forms (λ k l. refl)) (d Fields (λ k l. refl)) (d Lets (λ k l. refl))

pub let_dead_falls : RowFalls (λ s e. let_dead e)
let_dead_falls s (NLet r bs b) f h =
    let go = before_values (bind_count bs) in
    let m = if_some_inv (is_dead (occurrences (innermost_values (bind_count bs)) b)) (Some (renamed go b)) f h in
    fewer_lets (NLet r bs b) f
    (λ n alike. drops_plain n (of_let n) (NLet r bs b) f refl refl (λ l. omega (arith, ap (count n l) (some_some m.1), renamed_count n go b l)))
let_dead_falls s e f h = none_some h

pub let_once_falls : RowFalls (λ s e. let_once e)
let_once_falls s (NLet false (MoreNBinds (NBound t a) NoNBinds) b) f h =
    let d = occurrences (innermost_values 1) b in
    let m = if_some_inv (not (is_unlifted t) && is_once d) (Some (replaced (value_alone a) b)) f h in
    let p = and_parts (not (is_unlifted t)) (is_once d) m.0 in
    fewer_lets (let_of t a b) f
    (λ n alike. drops_plain n (of_let n) (let_of t a b) f refl refl
    (λ l. omega (arith, ap (count n l) (some_some m.1), once_put n alike a b p.1 l, ap (λ k. count n k a) (alike l (further n l)))))
let_once_falls s e f h = none_some h

-- LETS THAT MOVE

-- what is further in counts c more for a let at least
abbrev IsStep : Number → ℕ → Type 0
IsStep n c = (l : Level n) → around n l + c ≤ around n (further n l)

-- with a let further out
further_out : (e f : NExpr) → ((n : Number) (c : ℕ) → IsStep n c → Drops n c e f) → Falls (λ n c. Drops n c e f)
further_out e f d =
    by_around (d Nodes 0 (λ l. omega arith)) (d Forms 0 (λ l. omega arith)) (d Fields 0 (λ l. omega arith)) (d Lets 0 (λ l. omega arith)) (d Around 1 (λ l. omega arith))

-- a let that is applied is not trivial
let_applied : (f : NExpr) (a : NArg) → is_trivial f ≡ false → is_trivial (NApp f a) ≡ false
let_applied f (NATerm e) plain = refl
let_applied f (NAType t) plain = plain
let_applied f (NACo g) plain = refl

pub app_of_let_falls : RowFalls (λ s e. app_of_let e)
app_of_let_falls s (NApp (NLet r bs b) a) f h =
    further_out (NApp (NLet r bs b) a) f (λ n c step. drops_plain n c (NApp (NLet r bs b) a) f refl (let_applied (NLet r bs b) a refl)
    (λ l. omega (arith, ap (count n l) (some_some h), step l, binds_rise n (further n l) bs, moved_applied n (past_values (bind_count bs)) a (further n l))))
app_of_let_falls s e f h = none_some h

pub case_of_let_falls : RowFalls (λ s e. case_of_let e)
case_of_let_falls s (NCase (NLet r bs b) xt rt alts) f h =
    let past = below_values variables coercion_variables 1 (past_values (bind_count bs)) in
    further_out (NCase (NLet r bs b) xt rt alts) f (λ n c step. drops_plain n c (NCase (NLet r bs b) xt rt alts) f refl refl
    (λ l. omega (arith, ap (count n l) (some_some h), step l, binds_rise n (further n l) bs, renamed_alts n past alts (further n l))))
case_of_let_falls s e f h = none_some h

pub cast_of_let_falls : RowFalls (λ s e. cast_of_let e)
cast_of_let_falls s (NCast (NLet r bs b) g) f h =
    further_out (NCast (NLet r bs b) g) f (λ n c step. drops_plain n c (NCast (NLet r bs b) g) f refl refl
    (λ l. omega (arith, ap (count n l) (some_some h), step l, binds_rise n (further n l) bs)))
cast_of_let_falls s e f h = none_some h

pub let_of_let_falls : RowFalls (λ s e. let_of_let e)
let_of_let_falls s (NLet false (MoreNBinds (NBound t (NLet r bs e)) NoNBinds) b) f h =
    let past = below_values variables coercion_variables 1 (past_values (bind_count bs)) in
    let m = if_some_inv (is_value_behind_lets e) (Some (NLet r bs (let_of t e (renamed past b)))) f h in
    further_out (let_of t (NLet r bs e) b) f (λ n c step. drops_plain n c (let_of t (NLet r bs e) b) f refl refl
    (λ l. omega (arith, ap (count n l) (some_some m.1), step l, binds_rise n (further n l) bs, renamed_count n past b l)))
let_of_let_falls s e f h = none_some h

-- FIELDS

plain_atom : (e : NExpr) → is_trivial e ≡ false → is_atom e ≡ false
plain_atom (NLocal i) plain = absurd cc
plain_atom (NVar x) plain = absurd cc
plain_atom (NLit z) plain = absurd cc
plain_atom e plain = refl

-- one variable as a field in place of what is not trivial
field_named : (n : Number) (t : NTy) (args : NArgs) (p : NTy × NExpr) → first_field t args ≡ Some p → (l : Level n)
    → (in_fields n l (with_first_named args) + count n l p.1) + extra n false false ≤ in_fields n l args + own n 1
field_named n t NoNArgs p h l = none_some h
field_named n t (MoreNArgs (NATerm a) rest) p h l =
    let e = from_some_inv (λ e. if is_trivial a then first_field e.1 rest else Some (e.0, a)) (function_ends t) p h in
    tested (is_trivial a) refl e.0 (λ q. field_named n e.0.1 rest p q l) e.2
  where
    plain_extra : is_trivial a ≡ false → extra n (is_atom a) (is_trivial a) ≡ extra n false false
    plain_extra plain = let atom = plain_atom a plain in cc

    tested : (b : Bool) → is_trivial a ≡ b → (e : NTy × NTy)
        → (first_field e.1 rest ≡ Some p → (in_fields n l (with_first_named rest) + count n l p.1) + extra n false false ≤ in_fields n l rest + own n 1)
        → (if b then first_field e.1 rest else Some (e.0, a)) ≡ Some p
        → (in_fields n l (if b then MoreNArgs (NATerm (renamed past_a_value a)) (with_first_named rest) else MoreNArgs (NATerm (NLocal 0)) (moved_args past_a_value rest)) + count n l p.1) + extra n false false
        ≤ in_fields n l (MoreNArgs (NATerm a) rest) + own n 1
    tested true is e later q = let d = renamed_still n past_a_value a in omega (arith, later q, d.field l)
    tested false is e later q = omega (arith, ap (λ x. count n l x.1) (some_some q), plain_extra is, moved_fields n past_a_value rest l, atom_extra n)
field_named n t (MoreNArgs (NAType u) rest) p h l =
    let v = from_some_inv (λ v. first_field v rest) (at_type t u) p h in
    omega (arith, field_named n v.0 rest p v.2 l)
field_named n t (MoreNArgs (NACo g) rest) p h l =
    let v = from_some_inv (λ q. first_field q.3 rest) (coercion_asked t) p h in
    omega (arith, field_named n v.0.3 rest p v.2 l)

-- what the field counts less pays for a let that binds it
abbrev Pays : Number → ℕ → Type 0
Pays n c = (l : Level n) → (((of_let n + around n l) + of_bind n) + own n 1) + c ≤ extra n false false

-- with one field less that is no variable
fewer_fields : (e f : NExpr) → ((n : Number) (c : ℕ) → Pays n c → Drops n c e f) → Falls (λ n c. Drops n c e f)
fewer_fields e f d = by_fields (d Nodes 0 (λ l. omega arith)) (d Forms 0 (λ l. omega arith)) (d Fields 1 (λ l. omega arith))

pub name_field_falls : (ms : Modules) → RowFalls (λ s e. name_field ms e)
name_field_falls ms s (NLet false (MoreNBinds (NBound t (NCon x args)) NoNBinds) b) f h =
    let e = let_of t (NCon x args) b in
    let past = below_values variables coercion_variables 1 past_a_value in
    let inner = let_of t (NCon x (with_first_named args)) (renamed past b) in
    let k = from_some_inv (λ k. made (λ y. let_of y.0 y.1 inner) (first_field (constructor_type x k) args)) (constructor ms x) f h in
    let m = made_inv (λ y. let_of y.0 y.1 inner) (first_field (constructor_type x k.0) args) f k.2 in
    fewer_fields e f (λ n c pays. drops_plain n c e f refl refl
    (λ l. omega (arith, ap (count n l) m.2, field_named n (constructor_type x k.0) args m.0 m.1 (further n l), renamed_count n past b l, pays l)))
name_field_falls ms s e f h = none_some h

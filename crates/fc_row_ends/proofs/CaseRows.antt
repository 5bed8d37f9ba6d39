-- Cases that are known, and cases of what is evaluated, lower a number.
use Rattle.std.proofs.Common.{◌≡◌, ◌≤◌, ◌&&◌, Bool, true, false, not, if◌then◌else◌, List, [], ◌∷◌, Option, Some, None, refl, sym, ap, ◌∙◌, arith, inl, inr}
use Rattle.fc_syntax.specs.declared.expr.Head.{Head}
use Rattle.fc_syntax.specs.declared.expr.Head.TheVariants as head
use Rattle.fc_syntax.specs.declared.ty.Name.{Name}
use Rattle.fc_model.specs.Calling.{constructor, first_of}
use Rattle.fc_model.specs.Kinding.{Modules}
use Rattle.fc_model.specs.Nameless.{NTy, NBinder, NBranch, NExpr, NLocal, NVar, NLit, NCase, NCon, NArgs, NoNArgs, NAlts, NoNAlts, MoreNAlts}
use Rattle.fc_model.specs.Replacing.{replaced, unchanged, value_alone}
use Rattle.fc_model.proofs.CallsKept.{from_some_inv}
use Rattle.fc_rows.specs.Shrinking.{alternative_of, are_trivial, at_constructor, at_scrutinee, at_variable, case_evaluated, case_known, case_of_constructor, case_of_known, case_of_variable}
use Rattle.fc_rows.specs.Shrinking.{is_con, is_evaluated_atom, let_of, same_head, without_first}
use Rattle.fc_rows.specs.Surroundings.{Known, Is, is_value}
use Rattle.fc_row_nodes.specs.Nodes.{alts_nodes, nodes}
use Rattle.fc_row_nodes.proofs.Alternatives.{atom_trivial, constructor_made, constructor_nodes, variable_nodes}
use Rattle.fc_row_nodes.proofs.Lets.{rest_light}
use Rattle.fc_row_nodes.proofs.Made.{either_way, first_of_inv, if_some_inv, none_some, some_some}
use Rattle.fc_row_nodes.proofs.Replaced.{AreLight, light_nodes, trivial_light, unchanged_light, value_light}
use Rattle.fc_row_nodes.proofs.Within.{field, trivial_field}
use Rattle.fc_row_ends.proofs.Counted.{alts_counted, nodes_counted}
use Rattle.fc_row_ends.proofs.Drops.{Drops, Falls, by_forms, drops_plain}
use Rattle.fc_row_ends.proofs.Numbers.{Number, Nodes, Forms, Level, count, in_alts}
use Rattle.fc_row_ends.proofs.SimpleRows.{RowFalls, fewer_nodes}

abbrev Found : Type 0
Found = Option (List NBinder × NExpr)

-- ALTERNATIVES

-- no number of an expression is more than that of alternatives
abbrev IsAmong : NAlts → NExpr → Type 0
IsAmong alts b = (n : Number) (l : Level n) → count n l b ≤ in_alts n l alts

found : (h : Head) (alts : NAlts) (a : List NBinder × NExpr) → alternative_of h alts ≡ Some a → IsAmong alts a.1
found h NoNAlts a q = none_some q
found h (MoreNAlts (NBranch k cs c) rest) a q =
    either_way (λ x. IsAmong (MoreNAlts (NBranch k cs c) rest) x.1) (same_head h k) (Some (cs, c)) (alternative_of h rest) a q
    (λ x n l. omega (arith, ap (λ y. count n l y.1) (some_some x)))
    (λ x n l. omega (arith, found h rest a x n l))

-- of two heads, the first that has one
first_found : (h k : Head) (alts : NAlts) (a : List NBinder × NExpr) → first_of (alternative_of h alts) (alternative_of k alts) ≡ Some a → IsAmong alts a.1
first_found h k alts a q = elim (first_of_inv (alternative_of h alts) (alternative_of k alts) a q) [ inl x ↦ found h alts a x | inr x ↦ found k alts a x ]

among_nodes : (alts : NAlts) (b : NExpr) → IsAmong alts b → nodes b ≤ alts_nodes alts
among_nodes alts b among = omega (arith, among Nodes tt, nodes_counted tt b, alts_counted tt alts)

-- A LET IN PLACE OF A CASE

scrutinee_let : (xt : NTy) (e f : NExpr) (a : List NBinder × NExpr) → at_scrutinee xt e a ≡ Some f → f ≡ let_of xt e a.1
scrutinee_let xt e f ([], b) h = sym (some_some h)
scrutinee_let xt e f (c ∷ bs, b) h = none_some h

-- with a let of what was looked at
let_instead : (e b f : NExpr) (xt rt : NTy) (alts : NAlts) → f ≡ let_of xt e b → IsAmong alts b → Falls (λ n c. Drops n c (NCase e xt rt alts) f)
let_instead e b f xt rt alts is among =
    by_forms
    (drops_plain Nodes 0 (NCase e xt rt alts) f refl refl (λ l. omega (arith, ap (count Nodes l) is, among Nodes l)))
    (drops_plain Forms 1 (NCase e xt rt alts) f refl refl (λ l. omega (arith, ap (count Forms l) is, among Forms l)))

-- CASE-KNOWN

constructor_falls : (ms : Modules) (xt rt : NTy) (n : Name) (args : NArgs) (alts : NAlts) (f : NExpr) (o d : Found)
    → alternative_of (head.Con n) alts ≡ o → alternative_of head.Default alts ≡ d → case_of_constructor ms xt n args o d ≡ Some f → Falls (λ i c. Drops i c (NCase (NCon n args) xt rt alts) f)
constructor_falls ms xt rt n args alts f (Some a) d first other h =
    let k = from_some_inv (λ k. at_constructor xt n args k a) (constructor ms n) f h in
    fewer_nodes (NCase (NCon n args) xt rt alts) f refl (omega (arith, constructor_made xt n args k.0 a f k.2, constructor_nodes n alts a first))
constructor_falls ms xt rt n args alts f None d first other h =
    let a = from_some_inv (at_scrutinee xt (NCon n args)) d f h in
    let_instead (NCon n args) a.0.1 f xt rt alts (scrutinee_let xt (NCon n args) f a.0 a.2) (found head.Default alts a.0 (other ∙ a.1))

variable_falls : (ms : Modules) (y : NExpr) (xt rt : NTy) (n : Name) (args : NArgs) (alts : NAlts) (f : NExpr) (o d : Found) → field y ≤ 1 → AreLight args
    → alternative_of (head.Con n) alts ≡ o → alternative_of head.Default alts ≡ d → case_of_variable ms y n args o d ≡ Some f → Falls (λ i c. Drops i c (NCase y xt rt alts) f)
variable_falls ms y xt rt n args alts f (Some a) d one light first other h =
    let k = from_some_inv (λ k. at_variable y (without_first k.params args) a) (constructor ms n) f h in
    fewer_nodes (NCase y xt rt alts) f refl (omega (arith, variable_nodes y f (without_first k.0.params args) a one (rest_light k.0.params args light) k.2, among_nodes alts a.1 (found (head.Con n) alts a first)))
variable_falls ms y xt rt n args alts f None d one light first other h =
    let a = from_some_inv (at_variable y NoNArgs) d f h in
    fewer_nodes (NCase y xt rt alts) f refl (omega (arith, variable_nodes y f NoNArgs a.0 one tt a.2, among_nodes alts a.0.1 (found head.Default alts a.0 (other ∙ a.1))))

known_falls : (ms : Modules) (y : NExpr) (k : Known) (xt rt : NTy) (alts : NAlts) (f : NExpr) → field y ≤ 1 → case_of_known ms y k alts ≡ Some f → Falls (λ i c. Drops i c (NCase y xt rt alts) f)
known_falls ms y (Is (NCon n args)) xt rt alts f one h =
    let m = if_some_inv (are_trivial args) (case_of_variable ms y n args (alternative_of (head.Con n) alts) (alternative_of head.Default alts)) f h in
    variable_falls ms y xt rt n args alts f (alternative_of (head.Con n) alts) (alternative_of head.Default alts) one (trivial_light args m.0) refl refl m.1
known_falls ms y (Is (NLit z)) xt rt alts f one h =
    let a = from_some_inv (at_variable y NoNArgs) (first_of (alternative_of (head.Lit z) alts) (alternative_of head.Default alts)) f h in
    fewer_nodes (NCase y xt rt alts) f refl (omega (arith, variable_nodes y f NoNArgs a.0 one tt a.2, among_nodes alts a.0.1 (first_found (head.Lit z) head.Default alts a.0 a.1)))
known_falls ms y k xt rt alts f one h = none_some h

pub case_known_falls : (ms : Modules) → RowFalls (case_known ms)
case_known_falls ms s (NCase (NCon n args) xt rt alts) f h =
    constructor_falls ms xt rt n args alts f (alternative_of (head.Con n) alts) (alternative_of head.Default alts) refl refl h
case_known_falls ms s (NCase (NLit z) xt rt alts) f h =
    let a = from_some_inv (at_scrutinee xt (NLit z)) (first_of (alternative_of (head.Lit z) alts) (alternative_of head.Default alts)) f h in
    let_instead (NLit z) a.0.1 f xt rt alts (scrutinee_let xt (NLit z) f a.0 a.2) (first_found (head.Lit z) head.Default alts a.0 a.1)
case_known_falls ms s (NCase (NLocal i) xt rt alts) f h = known_falls ms (NLocal i) (s.locals i) xt rt alts f (omega arith) h
case_known_falls ms s (NCase (NVar n) xt rt alts) f h = known_falls ms (NVar n) (s.names n) xt rt alts f (omega arith) h
case_known_falls ms s e f h = none_some h

-- CASE-EVALUATED

pub case_evaluated_falls : (ms : Modules) → RowFalls (case_evaluated ms)
case_evaluated_falls ms s (NCase e xt rt (MoreNAlts (NBranch head.Default [] b) NoNAlts)) f h = tested (is_evaluated_atom ms s e) refl h
  where
    tested : (a : Bool) → is_evaluated_atom ms s e ≡ a → (if a then Some (replaced (value_alone e) b) else (if is_value e && not (is_con e) then Some (let_of xt e b) else None)) ≡ Some f
        → Falls (λ n c. Drops n c (NCase e xt rt (MoreNAlts (NBranch head.Default [] b) NoNAlts)) f)
    tested true q k =
        fewer_nodes (NCase e xt rt (MoreNAlts (NBranch head.Default [] b) NoNAlts)) f refl
        (omega (arith, ap nodes (some_some k), light_nodes (value_alone e) (value_light e unchanged (trivial_field e (atom_trivial ms s e q)) unchanged_light) b))
    tested false q k =
        let m = if_some_inv (is_value e && not (is_con e)) (Some (let_of xt e b)) f k in
        let_instead e b f xt rt (MoreNAlts (NBranch head.Default [] b) NoNAlts) (sym (some_some m.1)) (λ n l. omega arith)
case_evaluated_falls ms s e f h = none_some h

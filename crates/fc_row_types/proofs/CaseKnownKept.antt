-- A case on what is known becomes its alternative, and keeps its type.
use Rattle.std.proofs.Common.{◌≡◌, ℕ, ◌+◌, Bool, true, false, not, ◌||◌, if◌then◌else◌, List, [], ◌∷◌, length, Option, Some, None, refl, sym, ap, ◌∙◌, subst, arith}
use Rattle.fc_syntax.specs.declared.ty.Name.{Name}
use Rattle.fc_syntax.specs.declared.expr.Head.TheVariants as head
use Rattle.fc_syntax.specs.Tree.{Kind, KStar, KHash}
use Rattle.fc_model.specs.Calling.{Constructor, Given, GivenTerm, Takes, binders_to, constructor, constructor_binders, constructor_type, first_of, from_some, is_unlifted, takes_nothing, takes_term}
use Rattle.fc_model.specs.Calling.{type_count}
use Rattle.fc_model.specs.Faulting.{at_distance}
use Rattle.fc_model.specs.Kinding.{Modules, HasKind, kind_int}
use Rattle.fc_model.specs.Nameless.{NTy, NTVar, NTInt, NBinder, NBValue, NATerm, NArgs, NoNArgs, MoreNArgs, NAlts}
use Rattle.fc_model.specs.Nameless.{NExpr, NLocal, NVar, NLit, NCase, NCon}
use Rattle.fc_model.specs.Replacing.{Renaming, below_binders, below_values, coercion_variables, past_a_value, renamed, replaced, replaced_binders, types_behind_all, unchanged, variables, with_arguments}
use Rattle.fc_model.specs.Substituting.{raised_type, substituted_type}
use Rattle.fc_model.specs.Typing.{Start, Context, is_atom, with_binders, with_value, without_joins}
use Rattle.fc_model.specs.TypingLaws.{AreDeclaredKinded, IsContextKinded, IsValueType, RenamingFits}
use Rattle.fc_model.specs.TypingRules.{AltsFit, ArgsAreGiven, no_args, one_arg, given_term, BindersAreKinded, one_binder, value_binder, HasType, typed_local, typed_declared, typed_literal, typed_case, typed_con}
use Rattle.fc_model.proofs.CallsKept.{from_some_inv, raised_by_nothing, takes_kept}
use Rattle.fc_model.proofs.FitsKept.{fits_binders, fits_value, fits_without_joins}
use Rattle.fc_model.proofs.PutInKept.{args_kept, type_kept}
use Rattle.fc_model.proofs.RenamedItself.{all_types_themselves, binders_themselves, each_type}
use Rattle.fc_model.proofs.ReplacedKept.{moved_fits, variables_stand}
use Rattle.fc_model.proofs.Sameness.{false_true}
use Rattle.fc_model.proofs.Substitutions.{variables_for_themselves}
use Rattle.fc_model.proofs.TypesKinded.{all_given_kinded, called_kinded, kinded_anywhere, without_joins_kinded}
use Rattle.fc_rows.specs.Occurrences.{occurrences, innermost_values, is_dead}
use Rattle.fc_row_types.specs.TypesKept.{KeepsTypes}
use Rattle.fc_rows.specs.Shrinking.{alternative_of, are_trivial, at_constructor, at_scrutinee, at_variable, case_known, case_of_constructor, case_of_known, case_of_variable, let_of, moved_args, named_arguments}
use Rattle.fc_rows.specs.Shrinking.{pair_with, term_count, without_first}
use Rattle.fc_rows.specs.Surroundings.{Known, Is, past_values}
use Rattle.fc_row_types.proofs.AlternativesTaken.{Body, ConBody, alternative_fits, at_binders, constructor_fits, pair_moved}
use Rattle.fc_row_types.proofs.ConstructorParts.{constructed_arguments, constructor_parts, taken_for_binders}
use Rattle.fc_row_types.proofs.Contexts.{with_all_values}
use Rattle.fc_row_types.proofs.Holding.{closed, past_a_value_fits}
use Rattle.fc_row_types.proofs.LetsKept.{let_types, lets_typed, named_are_given, named_given, named_length, named_taken, past_lets}
use Rattle.fc_row_types.proofs.Made.{if_some_inv, none_some, some_some}
use Rattle.fc_row_types.proofs.SimpleRowsKept.{let_typed}

fits_lifted : (i : Bool) → i ≡ false → not i || false ≡ true
fits_lifted true h = false_true (sym h)
fits_lifted false h = refl

fits_atom : (i : Bool) → not i || true ≡ true
fits_atom true = refl
fits_atom false = refl

pub same_found : {j k : Constructor} (o : Option Constructor) → o ≡ Some j → o ≡ Some k → j ≡ k
same_found o p q = some_some (sym p ∙ q)

module _ (ms : Modules) (declared : AreDeclaredKinded ms) where
  -- the type of a constructor, in any context
  pub constructor_kinded : (ks : List Kind) (n : Name) (k : Constructor) → constructor ms n ≡ Some k → IsValueType ms ks (constructor_type n k)
  constructor_kinded ks n k found = (KStar, kinded_anywhere ms ks (constructor_type n k) KStar (declared.constructors n k found), refl)

  -- PAST LETS

  pub past_lets_fits : (c : Context) {args : NArgs} {gs : List Given} → ArgsAreGiven ms (without_joins c) args gs
      → RenamingFits ms c (with_all_values (let_types gs c.values) c) (past_values (term_count args))
  past_lets_fits c {args = args} {gs = gs} given =
      moved_fits ms (closed ms declared) c c.coercions (let_types gs c.values) c.joins (λ i. i) (λ i. i + term_count args) (λ i. i) (λ i q a. a)
      (λ i u a. past_lets ms given c.values i ∙ a) (λ i q a. a)

  -- what stands behind binders, moved with what stands before them
  pub moved_behind : (c d : Context) (r : Renaming) → r.types ≡ each_type → RenamingFits ms c d r → (bs : List NBinder) (e : NExpr) (t : NTy)
      → HasType ms (with_binders bs c) e (raised_type (type_count bs) t)
      → HasType ms (with_binders bs d) (renamed (below_binders variables coercion_variables bs r) e) (raised_type (type_count bs) t)
  moved_behind c d r each fits bs e t h =
      let stand = variables_stand ms (closed ms declared) in
      let there = type_kept (closed ms declared) stand (with_binders bs c) (with_binders (replaced_binders r.types bs) d) (below_binders variables coercion_variables bs r)
      (fits_binders stand bs c d r fits) e (raised_type (type_count bs) t) h in
      let f = renamed (below_binders variables coercion_variables bs r) e in
      let binders : replaced_binders r.types bs ≡ bs = ap (λ s. replaced_binders s bs) each ∙ binders_themselves bs in
      let types : substituted_type (types_behind_all bs r.types) (raised_type (type_count bs) t) ≡ raised_type (type_count bs) t =
      ap (λ s. substituted_type (types_behind_all bs s) (raised_type (type_count bs) t)) each
      ∙ ap (λ s. substituted_type s (raised_type (type_count bs) t)) (all_types_themselves bs) ∙ variables_for_themselves (raised_type (type_count bs) t) in
      subst (λ x. HasType ms (with_binders bs d) f x) types (subst (λ xs. HasType ms (with_binders xs d) f (substituted_type (types_behind_all bs r.types) (raised_type (type_count bs) t))) binders there)

  value_past : (c d : Context) (r : Renaming) → r.types ≡ each_type → RenamingFits ms c d r → (x : NTy)
      → RenamingFits ms (with_value x c) (with_value x d) (below_values variables coercion_variables 1 r)
  value_past c d r each fits x =
      let same : substituted_type r.types x ≡ x = ap (λ s. substituted_type s x) each ∙ variables_for_themselves x in
      subst (λ y. RenamingFits ms (with_value x c) (with_value y d) (below_values variables coercion_variables 1 r)) same
      (fits_value (variables_stand ms (closed ms declared)) c d r fits x)

  -- A CONSTRUCTOR

  -- what is of the type of the binders to any type, past one value more
  parts_past : (d : Context) (x : NTy) (bs : List NBinder) (args : NArgs) (gs : List Given) → ArgsAreGiven ms (without_joins d) args gs → Takes (binders_to bs x) gs x
      → (hs : List Given) × ArgsAreGiven ms (without_joins (with_value x d)) (moved_args past_a_value args) hs × Takes (binders_to bs x) hs x
  parts_past d x bs args gs given takes =
      let stand = variables_stand ms (closed ms declared) in
      let m = args_kept (closed ms declared) stand (without_joins d) (without_joins (with_value x d)) past_a_value
      (fits_without_joins stand d (with_value x d) past_a_value (past_a_value_fits ms declared d x)) args gs given in
      let taken = takes_kept NTVar takes m.2 in (
        m.0,
        m.1,
        subst (λ y. Takes (binders_to bs x) m.0 y) (variables_for_themselves x) (subst (λ y. Takes y m.0 (substituted_type NTVar x)) (variables_for_themselves (binders_to bs x)) taken),
      )

  -- a case binder and the binders of an alternative
  with_case_binder : (ks : List Kind) (x : NTy) (j : Kind) (bs : List NBinder) → HasKind ms ks x j → BindersAreKinded ms false ks bs → BindersAreKinded ms false ks (NBValue x ∷ bs)
  with_case_binder ks x j bs h kinds = one_binder (value_binder j h refl) kinds

  -- an alternative for a value that has these parts
  for_value : (d : Context) (x t : NTy) (j : Kind) → HasKind ms d.kinds x j → (bs : List NBinder) (e : NExpr) → Body ms (with_value x d) t bs e → (y : NExpr)
      → HasType ms (without_joins d) y x → not (is_unlifted x) || is_atom y ≡ true → (parts : NArgs) (gs : List Given) → ArgsAreGiven ms (without_joins d) parts gs
      → (s u : NTy) → Takes (binders_to bs s) gs u → pair_with bs parts ≡ true → HasType ms d (replaced (with_arguments (MoreNArgs (NATerm y) parts) unchanged) e) t
  for_value d x t j kind bs e body y typed atom parts gs given s u takes pairs =
      at_binders ms declared false (NBValue x ∷ bs) d (with_case_binder d.kinds x j bs kind body.kinds) (MoreNArgs (NATerm y) parts) (GivenTerm x (is_atom y) ∷ gs)
      (one_arg (given_term typed) given) s u (takes_term atom takes) pairs e t body.typed

  either_typed : (d : Context) (t : NTy) (b : Bool) (e f : NExpr) → HasType ms d e t → HasType ms d f t → HasType ms d (if b then e else f) t
  either_typed d t true e f p q = p
  either_typed d t false e f p q = q

  -- an alternative of a constructor, at the constructor with lets for its terms
  constructed : (c : Context) → IsContextKinded ms (without_joins c) → (x t : NTy) (n : Name) (args : NArgs) (k : Constructor) (gs : List Given) → constructor ms n ≡ Some k → ArgsAreGiven ms (without_joins c) args gs
      → length gs ≡ length (constructor_binders k) → Takes (constructor_type n k) gs x → (bs : List NBinder) (b : NExpr) → ConBody ms (with_value x c) x t n bs b
      → (f : NExpr) → at_constructor x n args k (bs, b) ≡ Some f → HasType ms c f t
  constructed c context x t n args k gs found given long takes bs b con f h =
      let d = with_all_values (let_types gs c.values) c in
      let named = named_arguments args in
      let parts = without_first k.params named in
      let r = past_values (term_count args) in
      let body = renamed (below_binders variables coercion_variables bs (below_values variables coercion_variables 1 r)) b in
      let m = if_some_inv (pair_with bs parts) _ f h in
      let kinded = constructor_kinded c.kinds n k found in
      let value = called_kinded ms c.kinds takes (all_given_kinded ms given) kinded in
      let named_are = named_are_given ms c given c.values in
      let taken = named_taken takes in
      let whole : HasType ms (without_joins d) (NCon n named) x = typed_con k (named_given gs) found named_are (named_length gs ∙ long) taken in
      let read = constructed_arguments ms n k x takes given long in
      let p = constructor_parts ms n k x taken named_are (named_length gs ∙ long) in
      let taken_parts = taken_for_binders ms n k con.constructor_of x bs taken named_are (named_length gs ∙ long) (same_found (constructor ms n) con.found found) con.fits in
      let fits = past_lets_fits c given in
      let typed : HasType ms (with_binders bs (with_value x d)) body (raised_type (type_count bs) t) =
      moved_behind (with_value x c) (with_value x d) (below_values variables coercion_variables 1 r) refl (value_past c d r refl fits x) bs b t con.body.typed in
      let inner : Body ms (with_value x d) t bs body = record { kinds = con.body.kinds; typed = typed } in
      let unused = for_value d x t value.0 value.1 bs body inner (NCon n named) whole (fits_lifted (is_unlifted x) read.1) parts p.given p.are_given x x taken_parts m.0 in
      let past = parts_past d x bs parts p.given p.are_given taken_parts in
      let used_body = at_binders ms declared false bs (with_value x d) con.body.kinds (moved_args past_a_value parts) past.0 past.1 x x past.2
      (pair_moved past_a_value bs parts ∙ m.0) body t typed in
      let used = let_typed ms declared d x (NCon n named) _ t value whole (fits_lifted (is_unlifted x) read.1) used_body in
      let start : (i : ℕ) → at_distance c.values (i + 0) ≡ at_distance c.values i = λ i. let e : i + 0 ≡ i = omega arith in ap (at_distance c.values) e in
      lets_typed ms declared c given (constructor_type n k) takes context 0 c.values start _ f t (either_typed d t (is_dead (occurrences (innermost_values 1) (replaced (with_arguments (moved_args past_a_value parts) unchanged) body)))
      (replaced (with_arguments (MoreNArgs (NATerm (NCon n named)) parts) unchanged) body) (let_of x (NCon n named) (replaced (with_arguments (moved_args past_a_value parts) unchanged) body)) unused used) m.1

  -- an alternative without binders, behind a let
  let_scrutinee : (c : Context) (x t : NTy) (e : NExpr) → HasType ms (without_joins c) e x → IsValueType ms c.kinds x → not (is_unlifted x) || is_atom e ≡ true
      → (bs : List NBinder) (b : NExpr) → Body ms (with_value x c) t bs b → (f : NExpr) → at_scrutinee x e (bs, b) ≡ Some f → HasType ms c f t
  let_scrutinee c x t e typed value atom [] b body f h =
      subst (λ y. HasType ms c y t) (some_some h) (let_typed ms declared c x e b t value typed atom (subst (λ y. HasType ms (with_value x c) b y) (raised_by_nothing t) body.typed))
  let_scrutinee c x t e typed value atom (y ∷ bs) b body f h = none_some h

  abbrev Found : Context → NTy → NTy → Option (List NBinder × NExpr) → Type 0
  Found c x t o = (bs : List NBinder) (b : NExpr) → o ≡ Some (bs, b) → Body ms (with_value x c) t bs b

  from_scrutinee : (c : Context) (x t : NTy) (e : NExpr) → HasType ms (without_joins c) e x → IsValueType ms c.kinds x → not (is_unlifted x) || is_atom e ≡ true
      → (o : Option (List NBinder × NExpr)) → Found c x t o → (f : NExpr) → from_some (at_scrutinee x e) o ≡ Some f → HasType ms c f t
  from_scrutinee c x t e typed value atom (Some (bs, b)) found f h = let_scrutinee c x t e typed value atom bs b (found bs b refl) f h
  from_scrutinee c x t e typed value atom None found f h = none_some h

  -- a default or a literal for a variable binds nothing
  from_variable : (c : Context) (x t : NTy) (j : Kind) → HasKind ms c.kinds x j → (y : NExpr) → HasType ms (without_joins c) y x → is_atom y ≡ true
      → (o : Option (List NBinder × NExpr)) → Found c x t o → (f : NExpr) → from_some (at_variable y NoNArgs) o ≡ Some f → HasType ms c f t
  from_variable c x t j kind y typed atom (Some (bs, b)) found f h =
      let m = if_some_inv (pair_with bs NoNArgs) _ f h in
      subst (λ z. HasType ms c z t) (some_some m.1) (no_parts bs b (found bs b refl) m.0)
    where
      no_parts : (bs : List NBinder) (b : NExpr) → Body ms (with_value x c) t bs b → pair_with bs NoNArgs ≡ true
          → HasType ms c (replaced (with_arguments (MoreNArgs (NATerm y) NoNArgs) unchanged) b) t
      no_parts [] b body pairs =
          for_value c x t j kind [] b body y typed (rw atom (fits_atom (is_unlifted x))) NoNArgs [] no_args x (raised_type 0 x) takes_nothing refl
      no_parts (z ∷ bs) b body pairs = false_true pairs
  from_variable c x t j kind y typed atom None found f h = none_some h

  first_found : (c : Context) (x t : NTy) (o q : Option (List NBinder × NExpr)) → Found c x t o → Found c x t q → Found c x t (first_of o q)
  first_found c x t (Some p) q first second = first
  first_found c x t None q first second = second

  -- CASES

  on_constructor : (c : Context) → IsContextKinded ms (without_joins c) → (x t : NTy) (n : Name) (args : NArgs) (alts : NAlts) → HasType ms (without_joins c) (NCon n args) x → AltsFit ms (with_value x c) x t Start alts
      → (o : Option (List NBinder × NExpr)) → o ≡ alternative_of (head.Con n) alts → (f : NExpr)
      → case_of_constructor ms x n args o (alternative_of head.Default alts) ≡ Some f → HasType ms c f t
  on_constructor c context x t n args alts (typed_con k gs found given long takes) fit (Some (bs, b)) same f h =
      let m = from_some_inv (λ l. at_constructor x n args l (bs, b)) (constructor ms n) f h in
      let con = constructor_fits ms fit n bs b (sym same) in
      constructed c context x t n args k gs found given long takes bs b con f
      (subst (λ l. at_constructor x n args l (bs, b) ≡ Some f) (same_found (constructor ms n) m.1 found) m.2)
  on_constructor c context x t n args alts (typed_con k gs found given long takes) fit None same f h =
      let read = constructed_arguments ms n k x takes given long in
      from_scrutinee c x t (NCon n args) (typed_con k gs found given long takes) (called_kinded ms c.kinds takes (all_given_kinded ms given) (constructor_kinded c.kinds n k found))
      (fits_lifted (is_unlifted x) read.1) (alternative_of head.Default alts) (λ bs b q. alternative_fits ms fit head.Default bs b q) f h

  -- a variable that is known as a constructor
  variable_constructed : (c : Context) (x t : NTy) (j : Kind) → HasKind ms c.kinds x j → (y : NExpr) → HasType ms (without_joins c) y x → is_atom y ≡ true
      → (n : Name) (args : NArgs) (alts : NAlts) → HasType ms (without_joins c) (NCon n args) x → AltsFit ms (with_value x c) x t Start alts
      → (o : Option (List NBinder × NExpr)) → o ≡ alternative_of (head.Con n) alts → (f : NExpr)
      → case_of_variable ms y n args o (alternative_of head.Default alts) ≡ Some f → HasType ms c f t
  variable_constructed c x t j kind y typed atom n args alts (typed_con k gs found given long takes) fit (Some (bs, b)) same f h =
      let l = from_some_inv (λ l. at_variable y (without_first l.params args) (bs, b)) (constructor ms n) f h in
      let con = constructor_fits ms fit n bs b (sym same) in
      let m = if_some_inv (pair_with bs (without_first k.params args)) _ f (subst (λ l. at_variable y (without_first l.params args) (bs, b) ≡ Some f) (same_found (constructor ms n) l.1 found) l.2) in
      let p = constructor_parts ms n k x takes given long in
      let taken = taken_for_binders ms n k con.constructor_of x bs takes given long (same_found (constructor ms n) con.found found) con.fits in
      subst (λ z. HasType ms c z t) (some_some m.1)
      (for_value c x t j kind bs b con.body y typed (rw atom (fits_atom (is_unlifted x))) (without_first k.params args) p.given p.are_given x x taken m.0)
  variable_constructed c x t j kind y typed atom n args alts known fit None same f h =
      from_variable c x t j kind y typed atom (alternative_of head.Default alts) (λ bs b q. alternative_fits ms fit head.Default bs b q) f h

  on_variable : (c : Context) (x t : NTy) (j : Kind) → HasKind ms c.kinds x j → (y : NExpr) → HasType ms (without_joins c) y x → is_atom y ≡ true → (k : Known)
      → ((e : NExpr) → k ≡ Is e → HasType ms (without_joins c) e x) → (alts : NAlts) → AltsFit ms (with_value x c) x t Start alts → (f : NExpr)
      → case_of_known ms y k alts ≡ Some f → HasType ms c f t
  on_variable c x t j kind y typed atom (Is (NCon n args)) known alts fit f h =
      let m = if_some_inv (are_trivial args) _ f h in
      variable_constructed c x t j kind y typed atom n args alts (known (NCon n args) refl) fit (alternative_of (head.Con n) alts) refl f m.1
  on_variable c x t j kind y typed atom (Is (NLit n)) known alts fit f h =
      from_variable c x t j kind y typed atom (first_of (alternative_of (head.Lit n) alts) (alternative_of head.Default alts))
      (first_found c x t (alternative_of (head.Lit n) alts) (alternative_of head.Default alts) (λ bs b q. alternative_fits ms fit (head.Lit n) bs b q)
      (λ bs b q. alternative_fits ms fit head.Default bs b q)) f h
  on_variable c x t j kind y typed atom k known alts fit f h = none_some h

  pub case_known_keeps : KeepsTypes ms (case_known ms)
  case_known_keeps s g (NCase (NCon n args) x rt alts) f h t (typed_case j k p sk rk fit v) =
      on_constructor s.context (without_joins_kinded ms s.context g.kinded) x rt n args alts p fit (alternative_of (head.Con n) alts) refl f h
  case_known_keeps s g (NCase (NLit n) x rt alts) f h t (typed_case j k typed_literal sk rk fit v) =
      from_scrutinee s.context NTInt rt (NLit n) typed_literal (KHash, kind_int, refl) refl (first_of (alternative_of (head.Lit n) alts) (alternative_of head.Default alts))
      (first_found s.context NTInt rt (alternative_of (head.Lit n) alts) (alternative_of head.Default alts) (λ bs b q. alternative_fits ms fit (head.Lit n) bs b q)
      (λ bs b q. alternative_fits ms fit head.Default bs b q)) f h
  case_known_keeps s g (NCase (NLocal i) x rt alts) f h t (typed_case j k (typed_local a) sk rk fit v) =
      on_variable s.context x rt j sk (NLocal i) (typed_local a) refl (s.locals i) (λ e q. g.locals i e x q a) alts fit f h
  case_known_keeps s g (NCase (NVar n) x rt alts) f h t (typed_case j k (typed_declared a) sk rk fit v) =
      on_variable s.context x rt j sk (NVar n) (typed_declared a) refl (s.names n) (λ e q. g.names n e x q a) alts fit f h
  case_known_keeps s g e f h t typed = none_some h

-- The walk over two named types answers whether their nameless forms are the same.
use Rattle.std.proofs.Common.{◌≡◌, ◌≢◌, ℕ, ◌+◌, Bool, true, false, not, ◌&&◌, if◌then◌else◌, List, [], ◌∷◌, ◌++◌, length, Option, Some, None, option_map, Ok, bytes_eq, nat_eq, refl, sym, ap, subst, ◌∙◌, arith}
use Rattle.std.proofs.lemmas.Bool.{both_ways}
use Rattle.fc_syntax.specs.declared.ty.Name.{Name}
use Rattle.fc_syntax.specs.declared.fault.FaultKind.TheVariants.{NotExported, Unbound}
use Rattle.fc_syntax.specs.Tree.{Word, Ty}
use Rattle.fc_model.specs.Kinding.{same_name, same_type, same_word}
use Rattle.fc_model.specs.Nameless.{NTy}
use Rattle.fc_model.specs.Resolution.{Top, declared_name, index_of, resolved_ty}
use Rattle.fc_model.specs.ResolutionRules.{ResolvesTy, resolves_type_variable, resolves_type_name, resolves_int, resolves_type_application, resolves_function, resolves_forall, resolves_coforall}
use Rattle.fc_model.proofs.Parts.{need_inv, ok_ok}
use Rattle.fc_model.proofs.ResolvedTypesAre.{resolved_ty_is}
use Rattle.fc_model.proofs.Sameness.{bytes_eq_eq, bytes_eq_refl, name_of, nat_eq_eq, nat_eq_refl}
use Rattle.fc_typing.specs.Equality.{equal_in, same_variable}

-- TESTS

-- tests that hold together are the same
tests_same : (a b : Bool) → (a ≡ true → b ≡ true) → (b ≡ true → a ≡ true) → a ≡ b
tests_same true b h k = sym (h refl)
tests_same false true h k = k refl
tests_same false false h k = refl

-- a test that can not hold
never : (b : Bool) → (b ≡ true → ⊥) → b ≡ false
never true h = absurd (h refl)
never false h = refl

-- two tests that are the same as two others hold together where those do
both_tests : {a b c d : Bool} → a ≡ c → b ≡ d → (a && b) ≡ (c && d)
both_tests {b = b} {c = c} p q = ap (λ x. x && b) p ∙ ap (λ x. c && x) q

-- the test of two numbers that are equal holds
equal_test : (i j : ℕ) → i ≡ j → true ≡ nat_eq i j
equal_test i j e = sym (nat_eq_refl i) ∙ ap (λ x. nat_eq i x) e

-- the test of two numbers that are not equal does not hold
apart_test : (i j : ℕ) → i ≢ j → false ≡ nat_eq i j
apart_test i j apart = sym (never (nat_eq i j) (λ h. apart (nat_eq_eq i j h)))

-- two numbers and those behind them are equal together
further_test : (i j k l : ℕ) → k + 1 ≡ i → l + 1 ≡ j → nat_eq k l ≡ nat_eq i j
further_test i j k l e f =
    tests_same (nat_eq k l) (nat_eq i j)
    (λ h. let same : k ≡ l = nat_eq_eq k l h in let is : i ≡ j = omega arith in sym (equal_test i j is))
    (λ h. let same : i ≡ j = nat_eq_eq i j h in let is : k ≡ l = omega arith in sym (equal_test k l is))

-- VARIABLES

-- a distance behind one more word, which is the one that is sought or not
abbrev further : Bool → Option ℕ → Option ℕ
further b o = if b then Some 0 else option_map (λ i. i + 1) o

-- what is found at one place has one distance
some_some : {i j : ℕ} → Some i ≡ Some j → i ≡ j
some_some h = cc

-- what is found behind a word that is another
further_inv : (o : Option ℕ) (i : ℕ) → further false o ≡ Some i → (k : ℕ) × (o ≡ Some k) × (k + 1 ≡ i)
further_inv (Some k) i h = (k, refl, some_some h)
further_inv None i h = absurd cc

-- words that are found at one place are the same, behind one more word
one_place_step : (u v w : Word) (b c : Bool) (o p : Option ℕ) (i : ℕ) → bytes_eq u v ≡ b → bytes_eq u w ≡ c → further b o ≡ Some i → further c p ≡ Some i
    → ((k : ℕ) → o ≡ Some k → p ≡ Some k → v ≡ w) → v ≡ w
one_place_step u v w true true o p i d e h k rest = sym (bytes_eq_eq u v d) ∙ bytes_eq_eq u w e
one_place_step u v w true false o p i d e h k rest =
    let q = further_inv p i k in let zero : 0 ≡ i = some_some h in let one : q.0 + 1 ≡ i = q.2 in absurd (omega arith)
one_place_step u v w false true o p i d e h k rest =
    let q = further_inv o i h in let zero : 0 ≡ i = some_some k in let one : q.0 + 1 ≡ i = q.2 in absurd (omega arith)
one_place_step u v w false false o p i d e h k rest =
    let q = further_inv o i h in
    let r = further_inv p i k in
    let one : q.0 + 1 ≡ i = q.2 in
    let other : r.0 + 1 ≡ i = r.2 in
    let same : r.0 ≡ q.0 = omega arith in
    rest q.0 q.1 (r.1 ∙ ap (λ x. Some x) same)

-- words that are found at one place of a scope are the same
one_place : (ws : List Word) (v w : Word) (i : ℕ) → index_of ws v ≡ Some i → index_of ws w ≡ Some i → v ≡ w
one_place [] v w i h k = absurd cc
one_place (u ∷ ws) v w i h k =
    one_place_step u v w (bytes_eq u v) (bytes_eq u w) (index_of ws v) (index_of ws w) i refl refl h k (λ j. one_place ws v w j)

-- words of one scope are the same where their distances are
free_same : (ws : List Word) (v w : Word) (i j : ℕ) → index_of ws v ≡ Some i → index_of ws w ≡ Some j → bytes_eq v w ≡ nat_eq i j
free_same ws v w i j h k =
    tests_same (bytes_eq v w) (nat_eq i j)
    (λ e. let is : i ≡ j = some_some (sym h ∙ ap (index_of ws) (bytes_eq_eq v w e) ∙ k) in sym (equal_test i j is))
    (λ e. subst (λ (x : Word). bytes_eq v x ≡ true) (one_place ws v w j (h ∙ ap (λ x. Some x) (nat_eq_eq i j e)) k) (bytes_eq_refl v))

-- variables are the same where their distances are, inside of one more word on each side
variable_step : (b c : Bool) (o p : Option ℕ) (rest : Bool) (i j : ℕ) → further b o ≡ Some i → further c p ≡ Some j
    → ((k l : ℕ) → o ≡ Some k → p ≡ Some l → rest ≡ nat_eq k l) → (if b then c else not c && rest) ≡ nat_eq i j
variable_step true true o p rest i j h k same = equal_test i j (sym (some_some h) ∙ some_some k)
variable_step true false o p rest i j h k same =
    let q = further_inv p j k in let zero : 0 ≡ i = some_some h in let one : q.0 + 1 ≡ j = q.2 in apart_test i j (λ e. omega arith)
variable_step false true o p rest i j h k same =
    let q = further_inv o i h in let zero : 0 ≡ j = some_some k in let one : q.0 + 1 ≡ i = q.2 in apart_test i j (λ e. omega arith)
variable_step false false o p rest i j h k same =
    let q = further_inv o i h in let r = further_inv p j k in same q.0 r.0 q.1 r.1 ∙ further_test i j q.0 r.0 q.2 r.2

-- inside of as many words on both sides, variables are the same where their distances are
variables_same : (ws xs ys : List Word) (v w : Word) (i j : ℕ) → length xs ≡ length ys → index_of (xs ++ ws) v ≡ Some i → index_of (ys ++ ws) w ≡ Some j
    → same_variable xs ys v w ≡ nat_eq i j
variables_same ws [] [] v w i j long h k = free_same ws v w i j h k
variables_same ws (x ∷ xs) (y ∷ ys) v w i j long h k =
    variable_step (bytes_eq x v) (bytes_eq y w) (index_of (xs ++ ws) v) (index_of (ys ++ ws) w) (same_variable xs ys v w) i j h k
    (λ d e. variables_same ws xs ys v w d e (omega arith))
variables_same ws [] (y ∷ ys) v w i j long h k = absurd (omega arith)
variables_same ws (x ∷ xs) [] v w i j long h k = absurd (omega arith)

module _ (top : Top) (apart : top.imports top.own ≡ false) where
  -- NAMES

  -- the module of a name, the own one where none is written
  abbrev owner : Option Word → Word
  owner None = top.own
  owner (Some m) = m

  -- what a name is resolved to
  declared_is : (m : Option Word) (w : Word) (a : Name) → declared_name top top.types top.offers.types m w ≡ Ok a → name_of (Some (owner m)) w ≡ a
  declared_is None w a h = ok_ok ((need_inv (top.types w) Unbound _ a h).1)
  declared_is (Some m) w a h =
      ok_ok ((need_inv (top.offers.types m w) NotExported _ a ((need_inv (top.imports m) Unbound _ a h).1)).1)

  -- a module that is imported is another than this one
  other_module : (m w : Word) (a : Name) → declared_name top top.types top.offers.types (Some m) w ≡ Ok a → bytes_eq top.own m ≡ false
  other_module m w a h =
      never (bytes_eq top.own m)
      (λ e. both_ways (top.imports top.own) apart (subst (λ (x : Word). top.imports x ≡ true) (sym (bytes_eq_eq top.own m e)) ((need_inv (top.imports m) Unbound _ a h).0)))

  -- the modules of two names are the same where they are written alike
  owners_same : (m n : Option Word) (v w : Word) (a b : Name) → declared_name top top.types top.offers.types m v ≡ Ok a
      → declared_name top top.types top.offers.types n w ≡ Ok b → same_word m n ≡ bytes_eq (owner m) (owner n)
  owners_same None None v w a b h k = sym (bytes_eq_refl top.own)
  owners_same (Some m) (Some n) v w a b h k = refl
  owners_same None (Some n) v w a b h k = sym (other_module n w b k)
  owners_same (Some m) None v w a b h k =
      sym (never (bytes_eq m top.own) (λ e. both_ways (bytes_eq top.own m) (other_module m v a h) (subst (λ (x : Word). bytes_eq top.own x ≡ true) (sym (bytes_eq_eq m top.own e)) (bytes_eq_refl top.own))))

  -- two names are the same where they are written alike
  names_same : (m n a b : Name) → declared_name top top.types top.offers.types m.module m.text ≡ Ok a
      → declared_name top top.types top.offers.types n.module n.text ≡ Ok b → same_name m n ≡ same_name a b
  names_same m n a b h k =
      ap (λ x. x && bytes_eq m.text n.text) (owners_same m.module n.module m.text n.text a b h k)
      ∙ ap (λ x. same_name x (name_of (Some (owner n.module)) n.text)) (declared_is m.module m.text a h)
      ∙ ap (λ x. same_name a x) (declared_is n.module n.text b k)

  -- TYPES

  module _ (ws : List Word) where
    -- inside of as many words on both sides, types are the same where their nameless forms are
    forms_same : (xs ys ss rs : List Word) {t u : Ty} {a b : NTy} → length xs ≡ length ys → ss ≡ xs ++ ws → rs ≡ ys ++ ws
        → ResolvesTy top ss t a → ResolvesTy top rs u b → equal_in xs ys t u ≡ same_type a b
    forms_same xs ys ss rs long e f (resolves_type_variable {a = v} {i = i} h) (resolves_type_variable {a = w} {i = j} k) =
        variables_same ws xs ys v w i j long (ap (λ x. index_of x v) (sym e) ∙ h) (ap (λ x. index_of x w) (sym f) ∙ k)
    forms_same xs ys ss rs long e f (resolves_type_name {n = m} {m = a} h) (resolves_type_name {n = n} {m = b} k) = names_same m n a b h k
    forms_same xs ys ss rs long e f resolves_int resolves_int = refl
    forms_same xs ys ss rs long e f (resolves_type_application t u) (resolves_type_application t' u') =
        both_tests (forms_same xs ys ss rs long e f t t') (forms_same xs ys ss rs long e f u u')
    forms_same xs ys ss rs long e f (resolves_function t u) (resolves_function t' u') =
        both_tests (forms_same xs ys ss rs long e f t t') (forms_same xs ys ss rs long e f u u')
    forms_same xs ys ss rs long e f (resolves_forall {a = x} t) (resolves_forall {a = y} t') =
        both_tests refl (forms_same (x ∷ xs) (y ∷ ys) (x ∷ ss) (y ∷ rs) (omega arith) (ap (λ s. x ∷ s) e) (ap (λ s. y ∷ s) f) t t')
    forms_same xs ys ss rs long e f (resolves_coforall t u v) (resolves_coforall t' u' v') =
        both_tests (both_tests refl (forms_same xs ys ss rs long e f t t'))
        (both_tests (forms_same xs ys ss rs long e f u u') (forms_same xs ys ss rs long e f v v'))
    forms_same xs ys ss rs long e f p q = refl

-- the walk answers whether two types are the same, in whatever scope both have a meaning
pub equal_is_same : (top : Top) (ws : List Word) (t u : Ty) (m n : NTy) → top.imports top.own ≡ false → resolved_ty top ws t ≡ Ok m → resolved_ty top ws u ≡ Ok n
    → equal_in [] [] t u ≡ same_type m n
equal_is_same top ws t u m n apart h k = forms_same top apart ws [] [] ws ws refl refl refl (resolved_ty_is top ws t m h) (resolved_ty_is top ws u n k)

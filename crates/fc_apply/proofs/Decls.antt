-- A change in the first definition of a word is the change in the one that is found among the declarations.
use Rattle.std.proofs.Common.{◌≡◌, ℕ, zero, suc, ◌+◌, Bool, true, false, not, cond, nat_lt, arith, List, [], ◌∷◌, length, Option, Some, None, refl, sym, ap, ◌∙◌, position}
use Rattle.std.specs.Prelude.{slice_get, slice_set}
use Rattle.std.specs.List.{position_or_len}
use Rattle.std.proofs.lemmas.Bool.Decides.{nat_tests}
use Rattle.fc_syntax.specs.Tree.{Word, Kind}
use Rattle.fc_syntax.specs.declared.ty.Ref.{Ref}
use Rattle.fc_syntax.specs.declared.module.Decl as RustDecl
use Rattle.fc_model.specs.Coercing.{Ends}
use Rattle.fc_model.specs.Nameless.{NCo, NDecl, NData, NNew, NFamily, NAxiom, NDef, NWrap, NExpr}
use Rattle.fc_model.specs.NamelessView.{ndecl_of, ndecls_of}
use Rattle.fc_rows.specs.Changing.{made}
use Rattle.fc_rows.specs.Rewriting.{changed_decls, changed_right}
use Rattle.fc_rows.specs.Surroundings.{Surroundings}
use Rattle.fc_apply.specs.Definitions.{changed_decl, is_definition}

-- WHERE ONE IS FOUND

module _ {X : Type 0} (p : X → Bool) where
  lt_more : (a n : ℕ) (b : Bool) → nat_lt a n ≡ b → nat_lt (suc a) (suc n) ≡ b
  lt_more a n true is = grind (arith, nat_tests, is)
  lt_more a n false is = grind (arith, nat_tests, is)

  lt_first : (n : ℕ) → nat_lt 0 (suc n) ≡ true
  lt_first n = grind (arith, nat_tests)

  one_later : (a : ℕ) (b : Bool) → cond b (Some (suc a)) None ≡ made (λ i. suc i) (cond b (Some a) None)
  one_later a true = refl
  one_later a false = refl

  found_first : (x : X) (xs : List X) → p x ≡ true → position p (x ∷ xs) ≡ Some 0
  found_first x xs is =
      let none_before : position_or_len p (x ∷ xs) ≡ 0 = ap (λ b. cond (not b) (1 + position_or_len p xs) 0) is in
      ap (λ m. cond (nat_lt m (suc (length xs))) (Some m) None) none_before ∙ ap (λ c. cond c (Some 0) None) (lt_first (length xs))

  found_later : (x : X) (xs : List X) → p x ≡ false → position p (x ∷ xs) ≡ made (λ i. suc i) (position p xs)
  found_later x xs is =
      let sum : 1 + position_or_len p xs ≡ suc (position_or_len p xs) = omega arith in
      let one_before : position_or_len p (x ∷ xs) ≡ suc (position_or_len p xs) = ap (λ b. cond (not b) (1 + position_or_len p xs) 0) is ∙ sum in
      ap (λ m. cond (nat_lt m (suc (length xs))) (Some m) None) one_before
      ∙ ap (λ c. cond c (Some (suc (position_or_len p xs))) None) (lt_more (position_or_len p xs) (length xs) (nat_lt (position_or_len p xs) (length xs)) refl)
      ∙ one_later (position_or_len p xs) (nat_lt (position_or_len p xs) (length xs))

none_before : (o : Option ℕ) → made (λ i. suc i) o ≡ None → o ≡ None
none_before None h = refl
none_before (Some i) h = cc

some_before : (o : Option ℕ) (j : ℕ) → made (λ i. suc i) o ≡ Some (suc j) → o ≡ Some j
some_before None j h = cc
some_before (Some i) j h = ap (made (λ k. before k)) h
  where
    before : ℕ → ℕ
    before zero = zero
    before (suc k) = k

never_first : (o : Option ℕ) → made (λ i. suc i) o ≡ Some 0 → ⊥
never_first None h = cc
never_first (Some i) h = cc

-- ONE DECLARATION AND THE OTHERS

pub made_again : {X Y Z : Type 0} (f : Y → Z) (g : X → Y) (o : Option X) → made (λ x. f (g x)) o ≡ made f (made g o)
made_again f g None = refl
made_again f g (Some x) = refl

module _ (row : Surroundings → NExpr → Option NExpr) (co : List Kind → List Ends → NCo → Option NCo) (s : Surroundings) (w : Word) (p : List ℕ) where
  pub first_is : (x : NDecl) (ds : List NDecl) → is_definition w x ≡ true → changed_decls row co s w p (x ∷ ds) ≡ made (λ y. y ∷ ds) (changed_decl row co s p x)
  first_is (NDef n t e) ds is = rw is (made_again (λ y. y ∷ ds) (λ f. NDef n t f) (changed_right row co s p e))
  first_is (NWrap n t e) ds is = rw is (made_again (λ y. y ∷ ds) (λ f. NWrap n t f) (changed_right row co s p e))
  first_is (NData n ps cs) ds is = cc
  first_is (NNew n ps t con) ds is = cc
  first_is (NFamily n ps k) ds is = cc
  first_is (NAxiom n ps t u) ds is = cc

  pub first_is_not : (x : NDecl) (ds : List NDecl) → is_definition w x ≡ false → changed_decls row co s w p (x ∷ ds) ≡ made (λ rest. x ∷ rest) (changed_decls row co s w p ds)
  first_is_not (NDef n t e) ds is = rw is refl
  first_is_not (NWrap n t e) ds is = rw is refl
  first_is_not (NData n ps cs) ds is = refl
  first_is_not (NNew n ps t con) ds is = refl
  first_is_not (NFamily n ps k) ds is = refl
  first_is_not (NAxiom n ps t u) ds is = refl

  abbrev defines : RustDecl.Decl ℕ Ref → Bool
  defines d = is_definition w (ndecl_of d)

  none_step : (x : RustDecl.Decl ℕ Ref) (ds : List (RustDecl.Decl ℕ Ref)) (b : Bool) → defines x ≡ b → (position defines ds ≡ None → changed_decls row co s w p (ndecls_of ds) ≡ None)
      → position defines (x ∷ ds) ≡ None → changed_decls row co s w p (ndecls_of (x ∷ ds)) ≡ None
  none_step x ds true is rest h = let e : position defines (x ∷ ds) ≡ Some 0 = found_first defines x ds is in cc
  none_step x ds false is rest h =
      first_is_not (ndecl_of x) (ndecls_of ds) is
      ∙ ap (made (λ more. ndecl_of x ∷ more)) (rest (none_before (position defines ds) (sym (found_later defines x ds is) ∙ h)))

  pub none_changed : (ds : List (RustDecl.Decl ℕ Ref)) → position defines ds ≡ None → changed_decls row co s w p (ndecls_of ds) ≡ None
  none_changed [] h = refl
  none_changed (x ∷ ds) h = none_step x ds (defines x) refl (none_changed ds) h

  first_step : (x d : RustDecl.Decl ℕ Ref) (ds : List (RustDecl.Decl ℕ Ref)) (b : Bool) → defines x ≡ b → position defines (x ∷ ds) ≡ Some 0 → x ≡ d
      → changed_decls row co s w p (ndecls_of (x ∷ ds)) ≡ made (λ y. y ∷ ndecls_of ds) (changed_decl row co s p (ndecl_of d))
  first_step x d ds true is h same =
      first_is (ndecl_of x) (ndecls_of ds) is ∙ ap (λ z. made (λ y. y ∷ ndecls_of ds) (changed_decl row co s p (ndecl_of z))) same
  first_step x d ds false is h same = absurd (never_first (position defines ds) (sym (found_later defines x ds is) ∙ h))

  later_step : (x d : RustDecl.Decl ℕ Ref) (ds : List (RustDecl.Decl ℕ Ref)) (i : ℕ) (b : Bool) → defines x ≡ b
      → (position defines ds ≡ Some i → changed_decls row co s w p (ndecls_of ds) ≡ made (λ y. slice_set (ndecls_of ds) i y) (changed_decl row co s p (ndecl_of d)))
      → position defines (x ∷ ds) ≡ Some (suc i)
      → changed_decls row co s w p (ndecls_of (x ∷ ds)) ≡ made (λ y. ndecl_of x ∷ slice_set (ndecls_of ds) i y) (changed_decl row co s p (ndecl_of d))
  later_step x d ds i true is rest h = let e : position defines (x ∷ ds) ≡ Some 0 = found_first defines x ds is in cc
  later_step x d ds i false is rest h =
      first_is_not (ndecl_of x) (ndecls_of ds) is
      ∙ ap (made (λ more. ndecl_of x ∷ more)) (rest (some_before (position defines ds) i (sym (found_later defines x ds is) ∙ h)))
      ∙ sym (made_again (λ more. ndecl_of x ∷ more) (λ y. slice_set (ndecls_of ds) i y) (changed_decl row co s p (ndecl_of d)))

  pub one_changed : (ds : List (RustDecl.Decl ℕ Ref)) (i : ℕ) (d : RustDecl.Decl ℕ Ref) → position defines ds ≡ Some i → slice_get ds i ≡ Some d
      → changed_decls row co s w p (ndecls_of ds) ≡ made (λ y. slice_set (ndecls_of ds) i y) (changed_decl row co s p (ndecl_of d))
  one_changed [] i d h g = cc
  one_changed (x ∷ ds) zero d h g = let same : x ≡ d = cc in first_step x d ds (defines x) refl h same
  one_changed (x ∷ ds) (suc i) d h g = later_step x d ds i (defines x) refl (λ k. one_changed ds i d k g) h

-- the view of a list with one item exchanged
pub set_is : (ds : List (RustDecl.Decl ℕ Ref)) (i : ℕ) (e : RustDecl.Decl ℕ Ref) → ndecls_of (slice_set ds i e) ≡ slice_set (ndecls_of ds) i (ndecl_of e)
set_is [] i e = refl
set_is (x ∷ ds) zero e = refl
set_is (x ∷ ds) (suc i) e = ap (λ rest. ndecl_of x ∷ rest) (set_is ds i e)

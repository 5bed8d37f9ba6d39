-- The tables of modules, with one module more.
use Rattle.std.proofs.Common.{◌≡◌, refl, sym, ap, ◌∙◌, ℕ, Bool, true, false, ◌||◌, true≢false, List, [], ◌∷◌, ◌++◌, Option, Some, None, Result, Ok, Err, OnOk, if◌then◌else◌}
use Rattle.std.specs.Str.{bytes_eq}
use Rattle.fc_syntax.specs.Tree.{Word}
use Rattle.fc_syntax.specs.declared.module.Decl.{Decl}
use Rattle.fc_syntax.specs.declared.module.Module.{Module}
use Rattle.fc_syntax.specs.declared.ty.Ref.{Ref}
use Rattle.fc_model.proofs.Sameness.{bytes_eq_eq, false_true}
use Rattle.fc_model.specs.Calling.{first_of}
use Rattle.fc_types.specs.Built.{Adds, AreTables}
use Rattle.fc_types.specs.FirstDeclared.{decls_among, first_axiom, first_constructor, first_definition, first_type_decl, has_module, in_module}
use Rattle.fc_types.specs.Tables.{has_word}
use Rattle.fc_types.specs.declared.tables.Tables.{Tables}

-- ---- modules with one more behind them

has_more : (ms : List (Module ℕ Ref)) (x : Module ℕ Ref) (m : Word) → has_module (ms ++ x ∷ []) m ≡ (bytes_eq x.name m || has_module ms m)
has_more [] x m = refl
has_more (y ∷ ys) x m = ap (λ b. bytes_eq y.name m || b) (has_more ys x m) ∙ swapped (bytes_eq y.name m) (bytes_eq x.name m) (has_module ys m)
  where
    swapped : (a b c : Bool) → (a || (b || c)) ≡ (b || (a || c))
    swapped true true c = refl
    swapped true false c = refl
    swapped false b c = refl

none_among : (ms : List (Module ℕ Ref)) (m : Word) → has_module ms m ≡ false → decls_among ms m ≡ []
none_among [] m h = refl
none_among (y ∷ ys) m h = by (bytes_eq y.name m) h (none_among ys m)
  where
    by : (b : Bool) → (b || has_module ys m) ≡ false → (has_module ys m ≡ false → decls_among ys m ≡ []) → (if b then y.decls else decls_among ys m) ≡ []
    by true e rest = absurd (true≢false e)
    by false e rest = rest e

-- a module of another word changes nothing
other_among : (ms : List (Module ℕ Ref)) (x : Module ℕ Ref) (m : Word) → bytes_eq x.name m ≡ false → decls_among (ms ++ x ∷ []) m ≡ decls_among ms m
other_among [] x m e = ap (λ b. if b then x.decls else []) e
other_among (y ∷ ys) x m e = ap (λ ds. if bytes_eq y.name m then y.decls else ds) (other_among ys x m e)

-- one behind another of its word changes nothing
first_among : (ms : List (Module ℕ Ref)) (x : Module ℕ Ref) (m : Word) → has_module ms m ≡ true → decls_among (ms ++ x ∷ []) m ≡ decls_among ms m
first_among [] x m h = false_true h
first_among (y ∷ ys) x m h = by (bytes_eq y.name m) h (first_among ys x m)
  where
    by : (b : Bool) → (b || has_module ys m) ≡ true → (has_module ys m ≡ true → decls_among (ys ++ x ∷ []) m ≡ decls_among ys m)
        → (if b then y.decls else decls_among (ys ++ x ∷ []) m) ≡ (if b then y.decls else decls_among ys m)
    by true e rest = refl
    by false e rest = rest e

-- the first of its word counts
new_among : (ms : List (Module ℕ Ref)) (x : Module ℕ Ref) (m : Word) → has_module ms m ≡ false → bytes_eq x.name m ≡ true → decls_among (ms ++ x ∷ []) m ≡ x.decls
new_among [] x m h e = ap (λ b. if b then x.decls else []) e
new_among (y ∷ ys) x m h e = by (bytes_eq y.name m) h (λ g. new_among ys x m g e)
  where
    by : (b : Bool) → (b || has_module ys m) ≡ false → (has_module ys m ≡ false → decls_among (ys ++ x ∷ []) m ≡ x.decls) → (if b then y.decls else decls_among (ys ++ x ∷ []) m) ≡ x.decls
    by true g rest = absurd (true≢false g)
    by false g rest = rest g

again_among : (ms : List (Module ℕ Ref)) (x : Module ℕ Ref) (m : Word) → has_module ms x.name ≡ true → decls_among (ms ++ x ∷ []) m ≡ decls_among ms m
again_among ms x m h = by (bytes_eq x.name m) refl
  where
    by : (b : Bool) → bytes_eq x.name m ≡ b → decls_among (ms ++ x ∷ []) m ≡ decls_among ms m
    by true e = first_among ms x m (ap (has_module ms) (sym (bytes_eq_eq x.name m e)) ∙ h)
    by false e = other_among ms x m e

again_has : (ms : List (Module ℕ Ref)) (x : Module ℕ Ref) (m : Word) → has_module ms x.name ≡ true → has_module (ms ++ x ∷ []) m ≡ has_module ms m
again_has ms x m h = has_more ms x m ∙ by (bytes_eq x.name m) refl
  where
    by : (b : Bool) → bytes_eq x.name m ≡ b → (b || has_module ms m) ≡ has_module ms m
    by true e = sym (ap (has_module ms) (sym (bytes_eq_eq x.name m e)) ∙ h)
    by false e = refl

-- ---- the tables

-- of a word that a module before it has, a module adds nothing
pub AreTables-again : (ms : List (Module ℕ Ref)) (x : Module ℕ Ref) (t : Tables) → has_module ms x.name ≡ true → AreTables ms t → AreTables (ms ++ x ∷ []) t
AreTables-again ms x t h are = record {
  words = λ m. are.words m ∙ sym (again_has ms x m h);
  types = λ m w. are.types m w ∙ sym (ap (λ ds. first_type_decl ds w) (again_among ms x m h));
  axioms = λ m w. are.axioms m w ∙ sym (ap (λ ds. first_axiom m ds w) (again_among ms x m h));
  definitions = λ m w. are.definitions m w ∙ sym (ap (λ ds. first_definition ds w) (again_among ms x m h));
  constructors = λ m w. are.constructors m w ∙ sym (ap (λ ds. first_constructor m ds w) (again_among ms x m h));
}

no_second : {X : Type 0} (o : Option X) → first_of o None ≡ o
no_second (Some x) = refl
no_second None = refl

-- what is found of a word, with one module more
found_more : {X : Type 0} (find : Word → List (Decl ℕ Ref) → Option X) (ms : List (Module ℕ Ref)) (x : Module ℕ Ref) (m : Word) (old new : Option X) → ((n : Word) → find n [] ≡ None) → has_module ms x.name ≡ false
    → old ≡ find m (decls_among ms m) → new ≡ first_of old (in_module x.name m (find x.name x.decls)) → new ≡ find m (decls_among (ms ++ x ∷ []) m)
found_more find ms x m old new none h before after = after ∙ by (bytes_eq x.name m) refl
  where
    by : (b : Bool) → bytes_eq x.name m ≡ b → first_of old (if b then find x.name x.decls else None) ≡ find m (decls_among (ms ++ x ∷ []) m)
    by true e =
        let same : x.name ≡ m = bytes_eq_eq x.name m e in
        let free : has_module ms m ≡ false = ap (has_module ms) (sym same) ∙ h in
        let nothing : old ≡ None = before ∙ ap (find m) (none_among ms m free) ∙ none m in
        ap (λ o. first_of o (find x.name x.decls)) nothing ∙ ap (λ n. find n x.decls) same ∙ sym (ap (find m) (new_among ms x m free e))
    by false e = no_second old ∙ before ∙ sym (ap (find m) (other_among ms x m e))

pub AreTables-more : (ms : List (Module ℕ Ref)) (x : Module ℕ Ref) (old new : Tables) → has_module ms x.name ≡ false → Adds old new x → AreTables ms old → AreTables (ms ++ x ∷ []) new
AreTables-more ms x old new h adds are = record {
  words = λ m. adds.words m ∙ ap (λ b. bytes_eq x.name m || b) (are.words m) ∙ sym (has_more ms x m);
  types = λ m w. found_more (λ n ds. first_type_decl ds w) ms x m _ _ (λ n. refl) h (are.types m w) (adds.types m w);
  axioms = λ m w. found_more (λ n ds. first_axiom n ds w) ms x m _ _ (λ n. refl) h (are.axioms m w) (adds.axioms m w);
  definitions = λ m w. found_more (λ n ds. first_definition ds w) ms x m _ _ (λ n. refl) h (are.definitions m w) (adds.definitions m w);
  constructors = λ m w. found_more (λ n ds. first_constructor n ds w) ms x m _ _ (λ n. refl) h (are.constructors m w) (adds.constructors m w);
}

pub AreTables-added : {T E : Type 0} (r : Result T E) (x : Module ℕ Ref) (old new : Tables) → has_word old.words x.name ≡ false → OnOk r (Adds old new x)
    → OnOk r ((ms : List (Module ℕ Ref)) → AreTables ms old → AreTables (ms ++ x ∷ []) new)
AreTables-added (Ok y) x old new h adds = λ ms are. AreTables-more ms x old new (sym (are.words x.name) ∙ h) adds are
AreTables-added (Err y) x old new h adds = tt

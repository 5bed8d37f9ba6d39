-- What modules declare, by the numbers of its words.
use Rattle.std.proofs.Common.{◌≡◌, refl, sym, ap, ◌∙◌, ℕ, List, [], ◌∷◌, map, Option, Some, None, is_some, IfSome, slice_get}
use Rattle.std.proofs.lemmas.Option.{slice_get-map}
use Rattle.std.specs.Option.{option_and_then, option_map}
use Rattle.fc_model.specs.NamelessView.{nty_of}
use Rattle.fc_syntax.specs.Tree.{Word}
use Rattle.fc_syntax.specs.declared.ty.Name.{Name}
use Rattle.fc_syntax.specs.declared.ty.Ty.{Ty}
use Rattle.fc_types.specs.Listed.{IsConstructor, IsDefinitionType, axioms_in, constructors_in, own_axiom, own_axioms, own_constructor, own_constructors}
use Rattle.fc_types.specs.ModuleViews.{modules_of}
use Rattle.fc_types.specs.TableViews.{constructor_of}
use Rattle.fc_types.specs.Tables.{at}
use Rattle.fc_types.specs.declared.declarations.Declarations.{Declarations}
use Rattle.fc_types.specs.declared.keys.WordKey.{WordKey}
use Rattle.fc_types.specs.declared.tables.DeclaredCon.{DeclaredCon}
use Rattle.fc_types.proofs.FirstDeclared.{constructor_found, definition_found}
use Rattle.indexmap.specs.IndexMap.{values}
use Rattle.std.specs.Map.{values_of}
use denote.Ref.{Bor}

twice : {K V Z : Type 0} (f : V → Z) (p : Option (K × V)) → option_map f (option_map (λ x. x.1) p) ≡ option_map (λ x. f x.1) p
twice f (Some p) = refl
twice f None = refl

-- what stands at a number
pub value_at : {K V Z : Type 0} (f : V → Z) (es : List (K × V)) (i : ℕ) (o : Option (K × V)) → o ≡ slice_get es i → option_map (λ e. f e.1) o ≡ slice_get (map f (values_of es)) i
value_at f es i o e = sym (slice_get-map f (values_of es) i ∙ ap (option_map f) (slice_get-map (λ x. x.1) es i ∙ ap (option_map (λ x. x.1)) (sym e)) ∙ twice f o)

-- what stands at the number of what is found
pub value_found : {X Y : Type 0} (f : X → Y) (xs : List X) (o : Option ℕ) (x : Option X) → is_some o ≡ is_some x → IfSome o (λ i. slice_get xs i ≡ x) → option_and_then (λ i. slice_get (map f xs) i) o ≡ option_map f x
value_found f xs (Some i) x e v = slice_get-map f xs i ∙ ap (option_map f) v
value_found f xs None None e v = refl
value_found f xs None (Some y) e v = cc

-- what is found by a number is the own of the module that is asked
pub owner_found : {X Y : Type 0} (f : X → Word × Y) (xs : List X) (o : Option ℕ) (x : Option X) (q : Option Word) → is_some o ≡ is_some x → IfSome o (λ i. slice_get xs i ≡ x) → IfSome x (λ k. Some (f k).0 ≡ q)
    → IfSome o (λ i. option_map (λ p. p.0) (slice_get (map f xs) i) ≡ q)
owner_found f xs None x q e v own = tt
owner_found f xs (Some i) None q e v own = cc
owner_found f xs (Some i) (Some k) q e v own = ap (option_map (λ p. p.0)) (slice_get-map f xs i ∙ ap (option_map f) v) ∙ own

name_at : WordKey → Name
name_at k = record { «module» = Some k.module.now; text = k.word.now }

-- what stands at a word of a module is declared
pub definition_is : (d : Declarations) (k : WordKey) (t : Bor (Ty ℕ)) → at d.tables.definitions k.module.now k.word.now ≡ Some t → IsDefinitionType (modules_of d) (nty_of t.now)
unfolding name_at modules_of
definition_is d k t e = (name_at k, sym (definition_found d.tables.definitions d.modules.now (Some k.module.now) k.word.now (Some t) (sym e) d.definitions_are))

pub constructor_is : (d : Declarations) (k : WordKey) (c : DeclaredCon) → at d.tables.constructors k.module.now k.word.now ≡ Some c → IsConstructor (modules_of d) (constructor_of c)
unfolding name_at modules_of
constructor_is d k c e = (name_at k, sym (constructor_found d.tables.constructors d.modules.now (Some k.module.now) k.word.now (Some c) (sym e) d.constructors_are))

seconds : {X Y Z : Type 0} (f : X → Y × Z) (xs : List X) → map (λ x. (f x).1) xs ≡ map (λ p. p.1) (map f xs)
seconds f [] = refl
seconds f (x ∷ xs) = ap (λ zs. (f x).1 ∷ zs) (seconds f xs)

-- the axioms and the constructors, without the words of their modules
pub axioms_in-own : (d : Declarations) → axioms_in d ≡ map (λ a. a.1) (own_axioms d)
unfolding axioms_in own_axioms
axioms_in-own d = seconds own_axiom (values d.tables.axioms)

pub constructors_in-own : (d : Declarations) → constructors_in d ≡ map (λ k. k.1) (own_constructors d)
unfolding constructors_in own_constructors
constructors_in-own d = seconds own_constructor (values d.tables.constructors)

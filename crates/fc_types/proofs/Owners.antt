-- What is found of a module is the module's own.
use Rattle.std.proofs.Common.{◌≡◌, refl, ap, ◌∙◌, ℕ, ◌+◌, Bool, true, false, List, [], ◌∷◌, Option, Some, None, IfSome, if◌then◌else◌}
use Rattle.std.proofs.lemmas.Option.{same_Some}
use Rattle.std.specs.Option.{option_map}
use Rattle.std.specs.Str.{bytes_eq}
use Rattle.fc_syntax.specs.Tree.{Word}
use Rattle.fc_syntax.specs.declared.module.ConDecl.{ConDecl}
use Rattle.fc_syntax.specs.declared.module.Decl.{Decl}
use Rattle.fc_syntax.specs.declared.module.Decl.TheVariants as D
use Rattle.fc_syntax.specs.declared.module.Module.{Module}
use Rattle.fc_syntax.specs.declared.module.Param.{Param}
use Rattle.fc_syntax.specs.declared.ty.Ref.{Ref}
use Rattle.fc_model.specs.Calling.{first_of}
use Rattle.fc_types.specs.FirstDeclared.{Numbered, decls_among, first_axiom, first_constructor, has_axiom, numbered_among}
use Rattle.fc_types.specs.Tables.{at_place}
use Rattle.fc_types.specs.TableViews.{HasAxioms, HasConstructors, numbered, owned_axiom}
use Rattle.fc_types.specs.declared.keys.WordKey.{WordKey}
use Rattle.fc_types.specs.declared.tables.DeclaredAxiom.{DeclaredAxiom}
use Rattle.fc_types.specs.declared.tables.DeclaredCon.{DeclaredCon}
use Rattle.indexmap.specs.IndexMap.{IndexMap}

either_own : {X : Type 0} (owner : X → Word) (m : Word) (b : Bool) (x y : X) (r : Option X) → owner y ≡ m → Some x ≡ (if b then Some y else r) → (Some x ≡ r → owner x ≡ m) → owner x ≡ m
either_own owner m true x y r own e rest = ap owner (same_Some x y e) ∙ own
either_own owner m false x y r own e rest = rest e

axiom_own : (m : Word) (ds : List (Decl ℕ Ref)) (w : Word) (x : Word × Decl ℕ Ref) → Some x ≡ first_axiom m ds w → x.0 ≡ m
axiom_own m [] w x e = cc
axiom_own m (d ∷ ds) w x e = either_own (λ p. p.0) m (has_axiom d w) x (m, d) (first_axiom m ds w) refl e (axiom_own m ds w x)

numbered_own : (m d : Word) (ps : List Param) (i : ℕ) (cs : List (ConDecl ℕ)) (w : Word) (x : Numbered) → Some x ≡ numbered_among m d ps i cs w → x.module ≡ m
numbered_own m d ps i [] w x e = cc
numbered_own m d ps i (c ∷ cs) w x e =
    let here : Numbered = record { «module» = m; data_word = d; params = ps; number = i; con = c } in
    either_own (λ n. n.module) m (bytes_eq c.name w) x here (numbered_among m d ps (i + 1) cs w) refl e (numbered_own m d ps (i + 1) cs w x)

first_own : {X : Type 0} (owner : X → Word) (m : Word) (o r : Option X) (x : X) → Some x ≡ first_of o r → (Some x ≡ o → owner x ≡ m) → (Some x ≡ r → owner x ≡ m) → owner x ≡ m
first_own owner m (Some y) r x e first rest = first e
first_own owner m None r x e first rest = rest e

constructor_own : (m : Word) (ds : List (Decl ℕ Ref)) (w : Word) (x : Numbered) → Some x ≡ first_constructor m ds w → x.module ≡ m
constructor_own m [] w x e = cc
constructor_own m (D.DataType n ps cs ∷ ds) w x e = first_own (λ n. n.module) m (numbered_among m n ps 0 cs w) (first_constructor m ds w) x e (numbered_own m n ps 0 cs w x) (constructor_own m ds w x)
constructor_own m (D.NewType n ps t con ∷ ds) w x e = constructor_own m ds w x e
constructor_own m (D.Family n ps k ∷ ds) w x e = constructor_own m ds w x e
constructor_own m (D.Axiom n ps t u ∷ ds) w x e = constructor_own m ds w x e
constructor_own m (D.Def n t e' ∷ ds) w x e = constructor_own m ds w x e
constructor_own m (D.Wrap n t e' ∷ ds) w x e = constructor_own m ds w x e

pub axiom_owner : {S : Type 0} (table : IndexMap WordKey DeclaredAxiom S) (ms : List (Module ℕ Ref)) (o : Option Word) (w : Word) (r : Option DeclaredAxiom) → r ≡ at_place table o w → HasAxioms ms table → IfSome r (λ a. Some a.module.now ≡ o)
axiom_owner table ms o w None e has = tt
axiom_owner table ms None w (Some a) e has = cc
axiom_owner table ms (Some m) w (Some a) e has = ap Some (axiom_own m (decls_among ms m) w (owned_axiom a) (ap (option_map owned_axiom) e ∙ has m w))

pub constructor_owner : {S : Type 0} (table : IndexMap WordKey DeclaredCon S) (ms : List (Module ℕ Ref)) (o : Option Word) (w : Word) (r : Option DeclaredCon) → r ≡ at_place table o w → HasConstructors ms table → IfSome r (λ k. Some k.module.now ≡ o)
constructor_owner table ms o w None e has = tt
constructor_owner table ms None w (Some k) e has = cc
constructor_owner table ms (Some m) w (Some k) e has = ap Some (constructor_own m (decls_among ms m) w (numbered k) (ap (option_map numbered) e ∙ has m w))

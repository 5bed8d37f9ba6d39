-- Laws of coercions: the function and the rules agree, a coercion proves one thing at most, the types that it relates have one kind, and
-- coercions and types in place of variables keep what it proves.
use Rattle.std.specs.Prelude.{◌≡◌, ◌↔◌, ℕ, suc, false, List, length, reverse, Ok, Some}
use Rattle.fc_syntax.specs.declared.ty.Name.{Name}
use Rattle.fc_syntax.specs.declared.ty.Role.{Role}
use Rattle.fc_syntax.specs.Tree.{Kind}
use Rattle.fc_model.specs.Coercing.{Axiom, Ends, axiom_named, ends_or_fault}
use Rattle.fc_model.specs.CoercingRules.{Proves}
use Rattle.fc_model.specs.Faulting.{at_distance}
use Rattle.fc_model.specs.Kinding.{Modules, HasKind, is_family_applied}
use Rattle.fc_model.specs.Nameless.{NCo, NTy}
use Rattle.fc_model.specs.Replacing.{renamed_coercion, replaced_coercion}
use Rattle.fc_model.specs.Substituting.{IsScopedType, substituted_type}

-- the function gives ends exactly where the rules do
abbrev pub EndsAreByCases : Type 0
EndsAreByCases = (ms : Modules) (ks : List Kind) (cs : List Ends) (g : NCo) (e : Ends) → (ends_or_fault ms ks cs g ≡ Ok e) ↔ Proves ms ks cs g e.role e.left e.right

-- a coercion proves one thing at most
abbrev pub EndsAreUnique : Type 0
EndsAreUnique = (ms : Modules) (ks : List Kind) (cs : List Ends) (g : NCo) (q r : Role) (s t u v : NTy) → Proves ms ks cs g q s t → Proves ms ks cs g r u v
    → (q ≡ r) × (s ≡ u) × (t ≡ v)

-- KINDS

abbrev pub HaveOneKind : Modules → List Kind → NTy → NTy → Type 0
HaveOneKind ms ks s t = (k : Kind) × HasKind ms ks s k × HasKind ms ks t k

-- the ends of what coercion variables prove
abbrev pub AreEndsKinded : Modules → List Kind → List Ends → Type 0
AreEndsKinded ms ks cs = (i : ℕ) (e : Ends) → at_distance cs i ≡ Ok e → HaveOneKind ms ks e.left e.right

-- both sides of each axiom, behind its parameters
abbrev pub AreAxiomsKinded : Modules → Type 0
AreAxiomsKinded ms = (n : Name) (a : Axiom) → axiom_named ms n ≡ Some a → HaveOneKind ms (reverse a.params) a.ends.left a.ends.right

-- the ends of a coercion have one kind
abbrev pub EndsHaveOneKind : Type 0
EndsHaveOneKind = (ms : Modules) → AreAxiomsKinded ms → (ks : List Kind) (cs : List Ends) → AreEndsKinded ms ks cs
    → (g : NCo) (r : Role) (s t : NTy) → Proves ms ks cs g r s t → HaveOneKind ms ks s t

-- WHAT IS PUT IN

-- the sides of each axiom have no variables but those of its parameters
abbrev pub AreAxiomsClosed : Modules → Type 0
AreAxiomsClosed ms = (n : Name) (a : Axiom) → axiom_named ms n ≡ Some a → IsScopedType (length a.params) a.ends.left × IsScopedType (length a.params) a.ends.right

-- the type is no family that takes more arguments
abbrev pub IsSaturated : Modules → NTy → Type 0
IsSaturated ms t = (n : ℕ) → is_family_applied ms (suc n) t ≡ false

-- a type that has a kind is none
abbrev pub KindedIsSaturated : Type 0
KindedIsSaturated = (ms : Modules) (ks : List Kind) (t : NTy) (k : Kind) → HasKind ms ks t k → IsSaturated ms t

abbrev pub substituted_ends : (ℕ → NTy) → Ends → Ends
substituted_ends s e = record { role = e.role; left = substituted_type s e.left; right = substituted_type s e.right }

-- types of the kinds of the variables, none a family that takes more arguments
pub record TypesFit (ms : Modules) (ks ls : List Kind) (s : ℕ → NTy) : Type 0 where
  pub kinds : (i : ℕ) (k : Kind) → at_distance ks i ≡ Ok k → HasKind ms ls (s i) k
  pub saturated : (i : ℕ) → IsSaturated ms (s i)

-- other coercion variables in place of those of a coercion
abbrev pub CoercionRenamingKeepsEnds : Type 0
CoercionRenamingKeepsEnds = (ms : Modules) → AreAxiomsClosed ms → (ks ls : List Kind) (cs ds : List Ends) (s : ℕ → NTy) (r : ℕ → ℕ) → TypesFit ms ks ls s
    → ((i : ℕ) (e : Ends) → at_distance cs i ≡ Ok e → at_distance ds (r i) ≡ Ok (substituted_ends s e))
    → (g : NCo) (o : Role) (t u : NTy) → Proves ms ks cs g o t u → Proves ms ls ds (renamed_coercion s r g) o (substituted_type s t) (substituted_type s u)

-- coercions in place of coercion variables
abbrev pub CoercionReplacementKeepsEnds : Type 0
CoercionReplacementKeepsEnds = (ms : Modules) → AreAxiomsClosed ms → (ks ls : List Kind) (cs ds : List Ends) (s : ℕ → NTy) (r : ℕ → NCo) → TypesFit ms ks ls s
    → ((i : ℕ) (e : Ends) → at_distance cs i ≡ Ok e → Proves ms ls ds (r i) e.role (substituted_type s e.left) (substituted_type s e.right))
    → (g : NCo) (o : Role) (t u : NTy) → Proves ms ks cs g o t u → Proves ms ls ds (replaced_coercion s r g) o (substituted_type s t) (substituted_type s u)

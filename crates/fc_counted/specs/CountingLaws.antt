-- Laws of the counted relation, and of programs whose definitions are related.
use Rattle.std.specs.Prelude.{◌≡◌, ◌↔◌, ℕ, ◌<◌, Bool, true, [], Option, Some, None}
use Rattle.fc_syntax.specs.declared.ty.Name.{Name}
use Rattle.fc_model.specs.Observing.{Observation, Sees}
use Rattle.fc_model.specs.Stepping.{Program}
use Rattle.fc_model.specs.Terms.{Term, IsSorted}
use Rattle.fc_meaning.specs.Laws.{SortedProgram}
use Rattle.fc_counted.specs.Changes.{PartRelation, Change}
use Rattle.fc_counted.specs.Closings.{OpenUnder, PartsUnder}
use Rattle.fc_counted.specs.CountedRelation.{Above, Under}
use Rattle.fc_counted.specs.Places.{Place, Outside, exchange, sorts_in}

abbrev pub UnderUnfolds : Type 0
UnderUnfolds = (P Q : Program) (k : ℕ) (t u : Term) → Under P Q k t u ↔ Above P Q k (Under P Q) t u

-- PROGRAMS

-- each definition of P has one in Q that it is under at each count below k
abbrev pub ProgramUnder : Program → Program → ℕ → Type 0
ProgramUnder P Q k = (x : Name) (t : Term) → P x ≡ Some t → (u : Term) × (Q x ≡ Some u) × ((i : ℕ) → i < k → Under P Q i t u)

abbrev pub DefinitionChange : PartRelation → Option Term → Option Term → Type 0
DefinitionChange R None None = Unit {0}
DefinitionChange R (Some t) (Some u) = Change R Outside t u
DefinitionChange R None (Some u) = ⊥
DefinitionChange R (Some t) None = ⊥

-- the same names are defined, and the definitions differ in parts related by R
abbrev pub ProgramChange : PartRelation → Program → Program → Type 0
ProgramChange R P Q = (x : Name) → DefinitionChange R (P x) (Q x)

-- parts the other way round
abbrev pub Converse : PartRelation → PartRelation
Converse R = λ c t u. R (exchange c) u t

-- parts that a test relates
abbrev pub Tested : (Place → Term → Term → Bool) → PartRelation
Tested test = λ c t u. test c t u ≡ true

-- WHAT IS SHOWN

abbrev pub SeesAtLeast : Program → Program → Term → Type 0
SeesAtLeast P Q t = (o : Observation) → Sees P t o → Sees Q t o

abbrev pub SeesSame : Program → Program → Term → Type 0
SeesSame P Q t = (o : Observation) → Sees P t o ↔ Sees Q t o

-- what is under at all counts shows as much
abbrev pub UnderSeesAtLeast : Type 0
UnderSeesAtLeast = (P Q : Program) → SortedProgram P → (o : Observation) (t u : Term) → IsSorted [] t → ((m : ℕ) → Under P Q m t u) → Sees P t o → Sees Q u o

-- a closed sorted term is under itself, in programs that are under one another
abbrev pub UnderIsReflexive : Type 0
UnderIsReflexive = (P Q : Program) → SortedProgram P → SortedProgram Q → (k : ℕ) → ProgramUnder P Q k → (t : Term) → IsSorted [] t → Under P Q k t t

-- THE CONGRUENCE

-- sorted terms that differ in parts that are under one another are so themselves, at any place
abbrev pub ChangedTermsAreUnder : Type 0
ChangedTermsAreUnder = (P Q : Program) → SortedProgram P → SortedProgram Q → (k : ℕ) → ProgramUnder P Q k
    → (test : Place → Term → Term → Bool) → PartsUnder P Q (Tested test) k
    → (c : Place) (t u : Term) → Change (Tested test) c t u → IsSorted (sorts_in c) t → IsSorted (sorts_in c) u → OpenUnder P Q k c t u

-- Programs show the same where their definitions differ in parts that are under one another, in both directions, as far as the programs
-- themselves are.
abbrev pub RelatedPartsShowTheSame : Type 0
RelatedPartsShowTheSame = (P Q : Program) → SortedProgram P → SortedProgram Q → (test : Place → Term → Term → Bool)
    → ((k : ℕ) → ProgramUnder P Q k → PartsUnder P Q (Tested test) k)
    → ((k : ℕ) → ProgramUnder Q P k → PartsUnder Q P (Converse (Tested test)) k)
    → ProgramChange (Tested test) P Q → (t : Term) → IsSorted [] t → SeesSame P Q t

-- Rewrites of terms, anywhere in the definitions of a program, change nothing that is shown.
use Rattle.std.specs.Prelude.{◌≡◌, Bool, true, []}
use Rattle.fc_syntax.specs.declared.ty.Name.{Name}
use Rattle.fc_model.specs.Stepping.{Program}
use Rattle.fc_model.specs.Terms.{Term, IsSorted}
use Rattle.fc_meaning.specs.Laws.{SortedProgram}
use Rattle.fc_counted.specs.CountingLaws.{ProgramChange, SeesSame}
use Rattle.fc_term_rows.specs.Facts.{Fact, Known}
use Rattle.fc_term_rows.specs.FactsMet.{DefinesAll, GlobalsMeet}
use Rattle.fc_term_rows.specs.TermRows.{TermRow}

-- what a test knows of top-level names, and the right sides that it lets be put in for them
abbrev pub KnownBy : (Name → Fact → Bool) → Known
KnownBy test = λ x f. test x f ≡ true

abbrev pub PutBy : (Name → Term → Bool) → Name → Term → Type 0
PutBy test = λ x d. test x d ≡ true

-- Two programs show the same where their definitions differ in rewritten terms, if what the rewrites know of top-level names holds in both,
-- and what they put in for them is their right side in both.
abbrev pub RowsShowTheSame : Type 0
RowsShowTheSame = (P Q : Program) → SortedProgram P → SortedProgram Q → (known : Name → Fact → Bool) (put : Name → Term → Bool)
    → GlobalsMeet P (KnownBy known) → GlobalsMeet Q (KnownBy known) → DefinesAll P (PutBy put) → DefinesAll Q (PutBy put)
    → ProgramChange (TermRow (KnownBy known) (PutBy put)) P Q → (t : Term) → IsSorted [] t → SeesSame P Q t

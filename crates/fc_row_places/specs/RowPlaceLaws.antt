-- Rewrites of the nameless tree are rewrites of terms when types are gone.
use Rattle.std.specs.Prelude.{◌≡◌, Bool, true}
use Rattle.fc_syntax.specs.declared.ty.Name.{Name}
use Rattle.fc_model.specs.Erasure.{erased}
use Rattle.fc_model.specs.Nameless.{NExpr}
use Rattle.fc_model.specs.Terms.{IsSorted, Term}
use Rattle.fc_meaning.proofs.WrittenExpressions.{IsWritten}
use Rattle.fc_counted.specs.Changes.{Change, PartRelation}
use Rattle.fc_counted.specs.CountingLaws.{Tested}
use Rattle.fc_counted.specs.Places.{Place, sorts_in}
use Rattle.fc_term_rows.specs.TermRowLaws.{PutBy}
use Rattle.fc_term_rows.specs.TermRows.{TermRow}
use Rattle.fc_row_places.specs.KnowingRows.{NKnowingRow}
use Rattle.fc_row_places.specs.NamelessFacts.{ErasedKnown, NFact, NKnownBy}
use Rattle.fc_row_places.specs.NamelessChanges.{NChange, NPartRelation}
use Rattle.fc_row_places.specs.NamelessPlaces.{IsPlaceSorted, NPlace, place_at, scope_at}

-- Parts that are related become terms that are changed in related parts, where both are written as literals and alternatives are to be, and
-- are sorted.
abbrev pub PartsErase : NPartRelation → PartRelation → Type 0
PartsErase R S = (c : NPlace) (e d : NExpr) → R c e d → IsPlaceSorted c → IsWritten e → IsWritten d
    → IsSorted (sorts_in (place_at c)) (erased (scope_at c) e) → IsSorted (sorts_in (place_at c)) (erased (scope_at c) d)
    → Change S (place_at c) (erased (scope_at c) e) (erased (scope_at c) d)

-- parts of the nameless tree that a test relates
abbrev pub NTested : (NPlace → NExpr → NExpr → Bool) → NPartRelation
NTested test = λ c e d. test c e d ≡ true

-- so do whole expressions that differ in such parts
abbrev pub ChangesErase : Type 0
ChangesErase = (test : NPlace → NExpr → NExpr → Bool) (terms : Place → Term → Term → Bool) → PartsErase (NTested test) (Tested terms)
    → PartsErase (NChange (NTested test)) (Tested terms)

-- rewrites of the nameless tree are rewrites of terms, whatever is known of top-level names
abbrev pub RewritesErase : Type 0
RewritesErase = (known : Name → NFact → Bool) (put : Name → Term → Bool) → PartsErase (NKnowingRow (NKnownBy known)) (TermRow (ErasedKnown (NKnownBy known)) (PutBy put))

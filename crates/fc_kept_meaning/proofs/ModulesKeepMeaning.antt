-- A rewrite at one place of one right side of a module keeps what every program shows that holds the module.
use Rattle.std.proofs.Common.{◌≡◌, false, List, [], ◌∷◌, refl, subst}
use Rattle.fc_syntax.specs.declared.ty.Name.{Name}
use Rattle.fc_model.specs.Headers.{ndecls_in}
use Rattle.fc_model.specs.Kinding.{Modules, decls_at}
use Rattle.fc_model.specs.LintingRules.{DefinitionsHold, one_definition, def_holds, wrap_holds}
use Rattle.fc_model.specs.Nameless.{NTy, NExpr, NDecl, NModule, NModuleOf}
use Rattle.fc_model.specs.Stepping.{Program}
use Rattle.fc_model.specs.Terms.{Global, Term, IsSorted}
use Rattle.fc_model.specs.Typing.{Context, is_atom}
use Rattle.fc_model.specs.TypingRules.{HasType}
use Rattle.fc_outlines.specs.RightSides.{righted_def, righted_wrap, righted_later}
use Rattle.fc_outlines.proofs.HeadersAlone.{definitions_there}
use Rattle.fc_outlines.proofs.RightSides.{righted_back, righted_headers}
use Rattle.fc_meaning.specs.Laws.{SortedProgram}
use Rattle.fc_meaning.proofs.HeldDeclarations.{AreHeld}
use Rattle.fc_meaning.proofs.ScopesFit.{fits_closed}
use Rattle.fc_meaning.proofs.WrittenExpressions.{AreDeclsWritten, IsWritten}
use Rattle.fc_counted.specs.CountingLaws.{SeesSame}
use Rattle.fc_counted.specs.Places.{sorts_in}
use Rattle.fc_term_rows.specs.Facts.{Known}
use Rattle.fc_term_rows.specs.FactsMet.{GlobalsMeet, Meets}
use Rattle.fc_term_rows.specs.TermRows.{TermRow}
use Rattle.fc_row_places.specs.KnowingRows.{NKnowingRow}
use Rattle.fc_row_places.specs.NamelessChanges.{NPartRelation}
use Rattle.fc_row_places.specs.NamelessFacts.{ErasedKnown, NKnown}
use Rattle.fc_row_places.specs.NamelessPlaces.{NPlace}
use Rattle.fc_row_places.specs.RowPlaceLaws.{PartsErase}
use Rattle.fc_row_places.proofs.KnowingRowsErased.{knowing_erased}
use Rattle.fc_kept_meaning.specs.KeptMeaningLaws.{FitsAt, RewritesKeepMeaning}
use Rattle.fc_kept_meaning.specs.MeaningKept.{HoldsModule, LintsAmong, MetIn, with_module, DeclarationsChange, no_changed_declarations, same_declaration, changed_def, changed_wrap}
use Rattle.fc_kept_meaning.specs.MeaningKept.{DeclarationsRewritten, ModuleRewritten, rewritten_in_module}
use Rattle.fc_kept_meaning.specs.PlaceRows.{PlaceRow}
use Rattle.fc_kept_meaning.proofs.ChangesKeepMeaning.{own_definitions, changes_keep_meaning}
use Rattle.fc_kept_meaning.proofs.OnePlaceTyped.{place_row_no_atom, place_row_typed, place_typed}

all_same : (S : NPartRelation) (ds : List NDecl) → DeclarationsChange S ds ds
all_same S [] = no_changed_declarations
all_same S (d ∷ ds) = same_declaration (all_same S ds)

-- R: a rewrite, whose left side is no atom; S: the same between expressions that have types, among modules that hold
abbrev IsTypedAs : NPartRelation → NPartRelation → Modules → Type 0
IsTypedAs R S ms = (c : NPlace) (k : Context) (e d : NExpr) (t u : NTy) → R c e d → IsWritten e → HasType ms k e t → HasType ms k d u → FitsAt c k → S c e d

abbrev HasNoAtom : NPartRelation → Type 0
HasNoAtom R = (c : NPlace) (e d : NExpr) → R c e d → is_atom e ≡ false

decls_typed : (ms : Modules) → AreHeld ms → (R S : NPartRelation) → HasNoAtom R → IsTypedAs R S ms → {ds es : List NDecl} → DeclarationsRewritten R ds es → DefinitionsHold ms ds
    → DefinitionsHold ms es → AreDeclsWritten ds → DeclarationsChange S ds es
unfolding sorts_in
decls_typed ms held R S n typed (righted_def {ds = ds} w) (one_definition (def_holds kind e) rest) (one_definition (def_holds kind' f) rest') wr =
    changed_def (place_typed ms held R S n typed w wr.0 e f fits_closed) (all_same S ds)
decls_typed ms held R S n typed (righted_wrap {ds = ds} w) (one_definition (wrap_holds kind e) rest) (one_definition (wrap_holds kind' f) rest') wr =
    changed_wrap (place_typed ms held R S n typed w wr.0 e f fits_closed) (all_same S ds)
decls_typed ms held R S n typed (righted_later w) (one_definition d rest) (one_definition e rest') wr = same_declaration (decls_typed ms held R S n typed w rest rest' wr.1)

-- nothing is put in for a name
nothing_put : Name → Term → Type 0
nothing_put x d = ⊥

-- the law for rewrites at one place, where G is known of names
rewritten_keep_meaning : (R S : NPartRelation) (G : Known) → HasNoAtom R → ((ms : Modules) → AreHeld ms → IsTypedAs R S ms) → PartsErase S (TermRow G nothing_put) → (xs : List NModule) (m n : NModule)
    → ModuleRewritten R xs m n → LintsAmong xs m → LintsAmong xs n → AreDeclsWritten (ndecls_in m) → AreDeclsWritten (ndecls_in n) → (P : Program) → SortedProgram P → HoldsModule P m
    → GlobalsMeet P G → GlobalsMeet (with_module n P) G → (t : Term) → IsSorted [] t → SeesSame P (with_module n P) t
unfolding nothing_put
rewritten_keep_meaning R S G n typed rows xs _ _ (rewritten_in_module {m = m} {imports = imports} {exports = exports} {hidden = hidden} {ds = ds} {es = es} w)
    lm ln wm wn P sp holds pm qm t st =
    let old = NModuleOf m imports exports hidden ds in
    let new = NModuleOf m imports exports hidden es in
    let there = definitions_there (decls_at (new ∷ xs)) (decls_at (old ∷ xs)) (righted_headers m imports exports hidden xs (righted_back w)) (own_definitions xs new ln) in
    let change = decls_typed (decls_at (old ∷ xs)) lm R S n (typed (decls_at (old ∷ xs)) lm) w (own_definitions xs old lm) there wm in
    changes_keep_meaning S G nothing_put rows xs old new refl change lm ln wm wn P sp holds pm qm (λ x d k. absurd k) (λ x d k. absurd k) t st

-- nothing is known of names
abbrev pub no_names : NKnown
no_names = λ n f. ⊥

-- In each program that holds the one module the other shows the same in its place, whatever its imports tell: each closed sorted term sees the same observations.
abbrev pub ShowsTheSame : NModule → NModule → Type 0
ShowsTheSame m n = (P : Program) → SortedProgram P → HoldsModule P m → (t : Term) → IsSorted [] t → SeesSame P (with_module n P) t

-- a rewrite of one place shows the same, where nothing is known of names
pub one_place_shows_same : (xs : List NModule) (m n : NModule) → ModuleRewritten (PlaceRow no_names) xs m n → LintsAmong xs m → LintsAmong xs n → AreDeclsWritten (ndecls_in m) → AreDeclsWritten (ndecls_in n)
    → ShowsTheSame m n
one_place_shows_same xs m n r lm ln wm wn P sp holds t st =
    rewritten_keep_meaning (PlaceRow no_names) (NKnowingRow no_names) (ErasedKnown no_names) (λ c e d r. place_row_no_atom r) (λ ms held c k e d t u r wr h h' fits. place_row_typed ms held r h h' fits)
    (knowing_erased no_names nothing_put) xs m n r lm ln wm wn P sp holds (λ x f k. absurd k.1) (λ x f k. absurd k.1) t st

pub one_place_keeps_meaning : RewritesKeepMeaning
one_place_keeps_meaning xs m n P r lm ln wm wn sp tells holds out t st asked =
    let N = MetIn P (with_module n P) in
    rewritten_keep_meaning (PlaceRow N) (NKnowingRow N) (ErasedKnown N) (λ c e d r. place_row_no_atom r) (λ ms held c k e d t u r wr h h' fits. place_row_typed ms held r h h' fits)
    (knowing_erased N nothing_put) xs m n r lm ln wm wn P sp holds (λ x f k p. subst (Meets P p (Global x)) k.2 (k.1.0 p)) (λ x f k p. subst (Meets (with_module n P) p (Global x)) k.2 (k.1.1 p)) t st

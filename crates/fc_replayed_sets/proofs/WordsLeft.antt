-- The words that a module declares are distinct after the steps of a log where they were so before: a row leaves them as they were, and definitions only go.
use Rattle.std.proofs.Common.{◌≡◌, ◌∙◌, ℕ, Bool, true, false, if◌then◌else◌, List, [], ◌∷◌, ◌++◌, Some, refl, sym, ap, subst}
use Rattle.std.specs.Str.{bytes_eq}
use Rattle.fc_syntax.specs.Tree.{Word}
use Rattle.fc_log.specs.declared.log.Entry.{Entry}
use Rattle.fc_log.specs.declared.log.Row.{Row}
use Rattle.fc_log.specs.declared.log.Step.{Step}
use Rattle.fc_model.specs.Declaring.{ncoercion_words, nterm_words, ntype_words, nwords_by}
use Rattle.fc_model.specs.Headers.{ndecls_in}
use Rattle.fc_model.specs.Kinding.{decls_at}
use Rattle.fc_model.specs.Nameless.{NTy, NExpr, NDecl, NData, NNew, NFamily, NAxiom, NDef, NWrap, NModule, NModuleOf}
use Rattle.fc_model.specs.Resolution.{WordSet, no_word, plus}
use Rattle.fc_model.specs.ResolutionRules.{AreDistinct, one_word_more}
use Rattle.fc_model.proofs.CallsKept.{from_some_inv}
use Rattle.fc_outlines.specs.RightSides.{Righted, righted_def, righted_wrap, righted_later}
use Rattle.fc_rows.specs.ChangingCoercions.{as_they_are}
use Rattle.fc_rows.specs.Dropping.{with_needed}
use Rattle.fc_rows.specs.Replaying.{Replays, at_end, past_mark, past_step, Rewrites, at_a_place, of_the_module}
use Rattle.fc_rows.specs.Rewriting.{changed_decls, changed_module, looked_at, rewritten, row_result, without_definitions}
use Rattle.fc_rows.specs.Surroundings.{outside}
use Rattle.fc_row_types.proofs.DeclarationsChanged.{decls_changed}
use Rattle.fc_row_types.proofs.Made.{made_inv}
use Rattle.fc_replay_types.proofs.NeededClosed.{not_before}
use Rattle.fc_replay_types.proofs.StepsKept.{fewer_before}
use Rattle.fc_scoped.specs.LintedAreScoped.{HasDistinctWords}

-- WORDS BEHIND OTHERS

-- without those in front
all_behind : (vs ws : List Word) (earlier : WordSet) → AreDistinct earlier (vs ++ ws) → AreDistinct earlier ws
all_behind [] ws earlier h = h
all_behind (v ∷ vs) ws earlier (one_word_more new rest) = fewer_before (plus v earlier) earlier (λ w. not_before (bytes_eq v w) (earlier w)) (all_behind vs ws (plus v earlier) rest)

-- and with fewer behind those in front
fewer_behind : (vs ws us : List Word) (earlier : WordSet) → ((seen : WordSet) → AreDistinct seen ws → AreDistinct seen us) → AreDistinct earlier (vs ++ ws)
    → AreDistinct earlier (vs ++ us)
fewer_behind [] ws us earlier fewer h = fewer earlier h
fewer_behind (v ∷ vs) ws us earlier fewer (one_word_more new rest) = one_word_more new (fewer_behind vs ws us (plus v earlier) fewer rest)

-- words of declarations that are read off their heads
module _ (words : NDecl → List Word) (def : (n : Word) (t : NTy) (e f : NExpr) → words (NDef n t e) ≡ words (NDef n t f))
    (wrap : (n : Word) (t : NTy) (e f : NExpr) → words (NWrap n t e) ≡ words (NWrap n t f)) where
  abbrev DeclaresDistinct : NModule → Type 0
  DeclaresDistinct n = AreDistinct no_word (nwords_by words (ndecls_in n))

  -- ROWS

  righted_words : {R : NExpr → NExpr → Type 0} {ds es : List NDecl} → Righted R ds es → nwords_by words ds ≡ nwords_by words es
  righted_words (righted_def {n = n} {t = t} {e = e} {f = f} {ds = ds} r) = ap (λ ws. ws ++ nwords_by words ds) (def n t e f)
  righted_words (righted_wrap {n = n} {t = t} {e = e} {f = f} {ds = ds} r) = ap (λ ws. ws ++ nwords_by words ds) (wrap n t e f)
  righted_words (righted_later {d = d} r) = ap (λ ws. words d ++ ws) (righted_words r)

  row_words : (xs : List NModule) (r : Row) (w : Word) (p : List ℕ) (n k : NModule) → rewritten xs r w p n ≡ Some k → nwords_by words (ndecls_in n) ≡ nwords_by words (ndecls_in k)
  row_words xs r w p (NModuleOf m imports exports hidden ds) k h =
      let n = NModuleOf m imports exports hidden ds in
      let row = row_result (decls_at (n ∷ xs)) r in
      let q = from_some_inv (λ q. changed_module (row q.1) as_they_are xs w q.0 n) (looked_at r p) k h in
      let c = made_inv (λ cs. NModuleOf m imports exports hidden cs) (changed_decls (row q.0.1) as_they_are (outside (decls_at (n ∷ xs))) w q.0.0 ds) k q.2 in
      righted_words (decls_changed (row q.0.1) as_they_are (outside (decls_at (n ∷ xs))) w q.0.0 ds c.0 c.1) ∙ ap (λ x. nwords_by words (ndecls_in x)) c.2

  -- DEFINITIONS THAT GO

  -- what is distinct stays so, behind any words
  abbrev StayDistinct : List NDecl → List NDecl → Type 0
  StayDistinct ds es = (earlier : WordSet) → AreDistinct earlier (nwords_by words ds) → AreDistinct earlier (nwords_by words es)

  -- a declaration that stays, before others, and one that stays or goes
  one_stays : (d : NDecl) (ds es : List NDecl) → StayDistinct ds es → StayDistinct (d ∷ ds) (d ∷ es)
  one_stays d ds es later earlier h = fewer_behind (words d) (nwords_by words ds) (nwords_by words es) earlier later h

  one_may_go : (b : Bool) (d : NDecl) (ds es : List NDecl) → StayDistinct ds es → StayDistinct (d ∷ ds) (if b then d ∷ es else es)
  one_may_go true d ds es later earlier h = one_stays d ds es later earlier h
  one_may_go false d ds es later earlier h = later earlier (all_behind (words d) (nwords_by words ds) earlier h)

  module _ (keep : Word → Bool) where
    fewer_words : (ds : List NDecl) → StayDistinct ds (without_definitions keep ds)
    fewer_words [] earlier h = h
    fewer_words (NData n ps cs ∷ ds) earlier h = one_stays (NData n ps cs) ds (without_definitions keep ds) (fewer_words ds) earlier h
    fewer_words (NNew n ps t con ∷ ds) earlier h = one_stays (NNew n ps t con) ds (without_definitions keep ds) (fewer_words ds) earlier h
    fewer_words (NFamily n ps k ∷ ds) earlier h = one_stays (NFamily n ps k) ds (without_definitions keep ds) (fewer_words ds) earlier h
    fewer_words (NAxiom n ps t u ∷ ds) earlier h = one_stays (NAxiom n ps t u) ds (without_definitions keep ds) (fewer_words ds) earlier h
    fewer_words (NDef n t e ∷ ds) earlier h = one_may_go (keep n) (NDef n t e) ds (without_definitions keep ds) (fewer_words ds) earlier h
    fewer_words (NWrap n t e ∷ ds) earlier h = one_may_go (keep n) (NWrap n t e) ds (without_definitions keep ds) (fewer_words ds) earlier h

    left_distinct : (n k : NModule) → k ≡ with_needed keep n → DeclaresDistinct n → DeclaresDistinct k
    left_distinct (NModuleOf m imports exports hidden ds) k left h = subst DeclaresDistinct (sym left) (fewer_words ds no_word h)

  -- STEPS

  step_distinct : {xs : List NModule} {s : Step} {n k : NModule} → Rewrites xs s n k → DeclaresDistinct n → DeclaresDistinct k
  step_distinct {xs = xs} {n = n} {k = k} (at_a_place r w p made within) h = subst (AreDistinct no_word) (row_words xs r w p n k made) h
  step_distinct {n = n} {k = k} (of_the_module drops) h = left_distinct drops.keep n k drops.left h

  replay_distinct : {xs : List NModule} {es : List Entry} {n k : NModule} → Replays xs es n k → DeclaresDistinct n → DeclaresDistinct k
  replay_distinct at_end h = h
  replay_distinct (past_mark p rest) h = replay_distinct rest h
  replay_distinct (past_step s step rest) h = replay_distinct rest (step_distinct step h)

-- MODULES

-- the words of each space
abbrev InEachSpace : List NDecl → Type 0
InEachSpace ds = AreDistinct no_word (nwords_by ntype_words ds) × AreDistinct no_word (nwords_by nterm_words ds) × AreDistinct no_word (nwords_by ncoercion_words ds)

in_each_space : (n : NModule) → HasDistinctWords n → InEachSpace (ndecls_in n)
in_each_space (NModuleOf m imports exports hidden ds) h = h

of_each_space : (n : NModule) → InEachSpace (ndecls_in n) → HasDistinctWords n
of_each_space (NModuleOf m imports exports hidden ds) h = h

pub replays_keep_words : {xs : List NModule} {es : List Entry} {n k : NModule} → Replays xs es n k → HasDistinctWords n → HasDistinctWords k
replays_keep_words {n = n} {k = k} replays h =
    let p = in_each_space n h in
    of_each_space k (
      replay_distinct ntype_words (λ w t e f. refl) (λ w t e f. refl) replays p.0,
      replay_distinct nterm_words (λ w t e f. refl) (λ w t e f. refl) replays p.1,
      replay_distinct ncoercion_words (λ w t e f. refl) (λ w t e f. refl) replays p.2,
    )

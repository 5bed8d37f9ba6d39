-- Each step of a log keeps Lint, and so do all of them, one after the other.
use Rattle.std.proofs.Common.{◌≡◌, ℕ, Bool, true, false, if◌then◌else◌, List, [], ◌∷◌, Some, refl, sym, ap, ◌∙◌, subst}
use Rattle.std.specs.Str.{bytes_eq}
use Rattle.fc_syntax.specs.Tree.{Word}
use Rattle.fc_log.specs.declared.log.Entry.{Entry}
use Rattle.fc_log.specs.declared.log.Row.{Row}
use Rattle.fc_log.specs.declared.log.Step.{Step}
use Rattle.fc_model.specs.Headers.{ndecls_in}
use Rattle.fc_model.specs.Kinding.{decls_at}
use Rattle.fc_model.specs.Nameless.{NExpr, NDecl, NData, NNew, NFamily, NAxiom, NDef, NWrap, NModule, NModuleOf}
use Rattle.fc_model.specs.Resolution.{WordSet, no_word, plus}
use Rattle.fc_model.specs.ResolutionRules.{AreDistinct, no_words_left, one_word_more}
use Rattle.fc_model.proofs.CallsKept.{from_some_inv}
use Rattle.fc_reaching.specs.Reaching.{defined_words}
use Rattle.fc_outlines.specs.RightSides.{Righted, righted_def, righted_wrap, righted_later}
use Rattle.fc_rows.specs.ChangingCoercions.{as_they_are}
use Rattle.fc_rows.specs.Dropping.{DropsDead, is_offered}
use Rattle.fc_rows.specs.Replaying.{Replays, at_end, past_mark, past_step, Rewrites, at_a_place, of_the_module}
use Rattle.fc_rows.specs.Rewriting.{changed_decls, changed_module, looked_at, rewritten, row_result, without_definitions}
use Rattle.fc_rows.specs.Surroundings.{outside}
use Rattle.fc_row_types.proofs.DeclarationsChanged.{decls_changed}
use Rattle.fc_row_types.proofs.DefinitionsGo.{definitions_stay_linted}
use Rattle.fc_row_types.proofs.Made.{made_inv}
use Rattle.fc_row_types.proofs.RowsKept.{rows_keep_lint}
use Rattle.fc_replay_types.specs.ReplaysKept.{OffersAlike, ReplaysKeepLint, Stands, with_declarations}
use Rattle.fc_replay_types.proofs.NeededClosed.{needed_stays, not_before, offered_kept}

-- ROWS

-- a change of one right side leaves the words of definitions as they were
same_words : {R : NExpr → NExpr → Type 0} {ds es : List NDecl} → Righted R ds es → defined_words ds ≡ defined_words es
same_words (righted_def r) = refl
same_words (righted_wrap r) = refl
same_words (righted_later {d = NData n ps cs} r) = same_words r
same_words (righted_later {d = NNew n ps t con} r) = same_words r
same_words (righted_later {d = NFamily n ps k} r) = same_words r
same_words (righted_later {d = NAxiom n ps t u} r) = same_words r
same_words (righted_later {d = NDef n t e} r) = ap (λ ws. n ∷ ws) (same_words r)
same_words (righted_later {d = NWrap n t e} r) = ap (λ ws. n ∷ ws) (same_words r)

row_stands : (xs : List NModule) (r : Row) (w : Word) (p : List ℕ) (n k : NModule) → Stands xs n → rewritten xs r w p n ≡ Some k → Stands xs k × OffersAlike n k
row_stands xs r w p (NModuleOf m imports exports hidden ds) k stands h =
    let n = NModuleOf m imports exports hidden ds in
    let row = row_result (decls_at (n ∷ xs)) r in
    let q = from_some_inv (λ q. changed_module (row q.1) as_they_are xs w q.0 n) (looked_at r p) k h in
    let c = made_inv (λ cs. NModuleOf m imports exports hidden cs) (changed_decls (row q.0.1) as_they_are (outside (decls_at (n ∷ xs))) w q.0.0 ds) k q.2 in
    let words = same_words (decls_changed (row q.0.1) as_they_are (outside (decls_at (n ∷ xs))) w q.0.0 ds c.0 c.1) in
    let new = NModuleOf m imports exports hidden c.0 in
    let kept = rows_keep_lint xs r w p n new stands.lints (h ∙ ap (λ x. Some x) (sym c.2)) in
    let all : Stands xs new × OffersAlike n new = (
      record { lints = kept.0; distinct = subst (AreDistinct no_word) words stands.distinct; others = stands.others; apart = stands.apart },
      record { header = refl; types = λ v o. kept.1 v },
    ) in
    subst (λ x. Stands xs x × OffersAlike n x) c.2 all

-- DEFINITIONS THAT GO

-- words are distinct behind fewer
pub fewer_before : {ws : List Word} (s z : WordSet) → ((w : Word) → s w ≡ false → z w ≡ false) → AreDistinct s ws → AreDistinct z ws
fewer_before s z less no_words_left = no_words_left
fewer_before s z less (one_word_more {w = w} new rest) = one_word_more (less w new) (fewer_before (plus w s) (plus w z) (λ v. both v (bytes_eq w v)) rest)
  where
    both : (v : Word) (b : Bool) → (if b then true else s v) ≡ false → (if b then true else z v) ≡ false
    both v true h = h
    both v false h = less v h

module _ (keep : Word → Bool) where
  -- a definition that stays or goes, before others
  one_distinct : (earlier : WordSet) (n : Word) (d : NDecl) (es : List NDecl) → defined_words (d ∷ es) ≡ n ∷ defined_words es → earlier n ≡ false
      → AreDistinct (plus n earlier) (defined_words es) → (b : Bool) → AreDistinct earlier (defined_words (if b then d ∷ es else es))
  one_distinct earlier n d es words new rest true = subst (AreDistinct earlier) (sym words) (one_word_more new rest)
  one_distinct earlier n d es words new rest false = fewer_before (plus n earlier) earlier (λ w. not_before (bytes_eq n w) (earlier w)) rest

  words_distinct : (ds : List NDecl) (earlier : WordSet) → AreDistinct earlier (defined_words ds) → AreDistinct earlier (defined_words (without_definitions keep ds))
  words_distinct [] earlier words = words
  words_distinct (NData n ps cs ∷ ds) earlier words = words_distinct ds earlier words
  words_distinct (NNew n ps t con ∷ ds) earlier words = words_distinct ds earlier words
  words_distinct (NFamily n ps k ∷ ds) earlier words = words_distinct ds earlier words
  words_distinct (NAxiom n ps t u ∷ ds) earlier words = words_distinct ds earlier words
  words_distinct (NDef n t e ∷ ds) earlier (one_word_more new rest) =
      one_distinct earlier n (NDef n t e) (without_definitions keep ds) refl new (words_distinct ds (plus n earlier) rest) (keep n)
  words_distinct (NWrap n t e ∷ ds) earlier (one_word_more new rest) =
      one_distinct earlier n (NWrap n t e) (without_definitions keep ds) refl new (words_distinct ds (plus n earlier) rest) (keep n)

dropped_stands : (xs : List NModule) (n k : NModule) → Stands xs n → DropsDead n k → Stands xs k × OffersAlike n k
dropped_stands xs (NModuleOf m imports exports hidden ds) k stands drops =
    let n = NModuleOf m imports exports hidden ds in
    let new = NModuleOf m imports exports hidden (without_definitions drops.keep ds) in
    let stays = needed_stays m imports exports hidden ds xs stands drops.keep drops.needed in
    let left = definitions_stay_linted drops.keep xs m imports exports hidden ds stands.lints stays in
    let all : Stands xs new × OffersAlike n new = (
      record { lints = left.0; distinct = words_distinct drops.keep ds no_word stands.distinct; others = stands.others; apart = stands.apart },
      record { header = refl; types = λ w o. left.1 w (offered_kept m imports exports hidden ds xs stands drops.keep drops.needed w o) },
    ) in
    subst (λ x. Stands xs x × OffersAlike n x) (sym drops.left) all

-- STEPS

pub step_stands : {xs : List NModule} {s : Step} {n k : NModule} → Stands xs n → Rewrites xs s n k → Stands xs k × OffersAlike n k
step_stands {xs = xs} {n = n} {k = k} stands (at_a_place r w p h within) = row_stands xs r w p n k stands h
step_stands {xs = xs} {n = n} {k = k} stands (of_the_module drops) = dropped_stands xs n k stands drops

offered_same : (n k : NModule) → k ≡ with_declarations (ndecls_in k) n → (w : Word) → is_offered k w ≡ is_offered n w
offered_same (NModuleOf m imports exports hidden ds) (NModuleOf o is es hs cs) h w = ap (λ x. is_offered x w) h

header_further : (n k l : NModule) → k ≡ with_declarations (ndecls_in k) n → l ≡ with_declarations (ndecls_in l) k → l ≡ with_declarations (ndecls_in l) n
header_further (NModuleOf m imports exports hidden ds) (NModuleOf o is es hs cs) l h g = g ∙ ap (with_declarations (ndecls_in l)) h

alike_further : (n k l : NModule) → OffersAlike n k → OffersAlike k l → OffersAlike n l
alike_further n k l a b = record {
  header = header_further n k l a.header b.header;
  types = λ w o. b.types w (offered_same n k a.header w ∙ o) ∙ a.types w o;
}

alike_itself : (n : NModule) → OffersAlike n n
alike_itself (NModuleOf m imports exports hidden ds) = record { header = refl; types = λ w o. refl }

pub replayed : {xs : List NModule} {es : List Entry} {n k : NModule} → Stands xs n → Replays xs es n k → Stands xs k × OffersAlike n k
replayed {n = n} stands at_end = (stands, alike_itself n)
replayed stands (past_mark p rest) = replayed stands rest
replayed {n = n} {k = l} stands (past_step {k = k} s step rest) =
    let one = step_stands stands step in
    let all = replayed one.0 rest in
    (all.0, alike_further n k l one.1 all.1)

pub replays_keep_lint : ReplaysKeepLint
replays_keep_lint xs es n k stands log = replayed stands log

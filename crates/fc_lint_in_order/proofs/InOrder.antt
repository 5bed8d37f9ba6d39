-- A set that lints in the order in which it is built lints in order.
use Rattle.std.proofs.Common.{◌≡◌, ◌∙◌, Bool, true, false, not, ◌&&◌, ◌||◌, if◌then◌else◌, bytes_eq, List, [], ◌∷◌, length, map, refl, sym, subst}
use Rattle.std.proofs.lemmas.Bool.{and_from, and_parts, not-true, or_left, or_parts, or_right}
use Rattle.std.specs.List.{list_all}
use Rattle.fc_syntax.specs.Tree.{Word, Module, ModuleOf}
use Rattle.fc_model.specs.Declaring.{nterm_words, nwords_by}
use Rattle.fc_model.specs.Headers.{imports_of, name_of, ndecls_in}
use Rattle.fc_model.specs.Kinding.{decls_of_module}
use Rattle.fc_model.specs.Linting.{nameless_forms, offers_of, told_by}
use Rattle.fc_model.specs.Nameless.{NDecl, NModule, NModuleOf}
use Rattle.fc_model.specs.Planning.{build_order, is_among, is_ready}
use Rattle.fc_model.specs.Resolution.{no_word, plus_all, top_among}
use Rattle.fc_model.specs.ResolutionRules.{Resolves, resolves_module}
use Rattle.fc_model.proofs.Sameness.{bytes_eq_eq, bytes_eq_refl, false_true}
use Rattle.fc_reaching.specs.Numbering.{word_of}
use Rattle.fc_rows.specs.Dropping.{is_offered}
use Rattle.fc_set_rules.specs.SetRules.{AllHold, HoldsInSet, ResolvesAmong, no_modules, one_module, resolves_among}
use Rattle.fc_set_rules.proofs.SetsAre.{all_hold}
use Rattle.fc_set_types.specs.SetsReplayed.{LintInOrder, LintsBehind, is_offered_by, is_one_of, may_mention, may_use, none_lint, one_lints}
use Rattle.fc_set_types.proofs.Reached.{all_at}
use Rattle.fc_used_words.specs.Scoped.{HoldsDecls}
use Rattle.fc_lint_in_order.specs.BuildOrder.{BuiltSetsLintInOrder}
use Rattle.fc_lint_in_order.proofs.Distinct.{definitions_differ, types_differ}
use Rattle.fc_lint_in_order.proofs.Found.{Serves, names_serve}
use Rattle.fc_lint_in_order.proofs.Mentioned.{decls_seen, decls_used, mentioned}
use Rattle.fc_lint_in_order.proofs.Ready.{AreReady, built_are_ready, one_ready}
use Rattle.fc_model.proofs.Lists.{words_alone, words_put_in}

-- WHAT MODULES OFFER

-- All are those before and these. Of those before, all tell what the first of a name offers; of other names what these tell.
record AreApart (all before ns : List NModule) : Type 0 where
  told : (v w : Word) → is_one_of before v ≡ true → told_by all v w ≡ is_offered_by before v w
  later : (v w : Word) → is_one_of before v ≡ false → told_by all v w ≡ told_by ns v w

all_apart : (all : List NModule) → AreApart all [] all
all_apart all = record { told = λ v w h. false_true h; later = λ v w h. refl }

-- a module tells what it offers
first_tells : (m : Word) (imports exports hidden : List Word) (ds : List NDecl) (ns : List NModule) (v w : Word) → bytes_eq m v ≡ true
    → told_by (NModuleOf m imports exports hidden ds ∷ ns) v w ≡ is_offered (NModuleOf m imports exports hidden ds) w
first_tells m imports exports hidden ds ns v w same = rw (same, words_put_in exports (plus_all hidden no_word) w, words_alone hidden w) refl

-- one more, of a new name
one_apart : (all before ns : List NModule) (n : NModule) → is_one_of before (word_of n) ≡ false → AreApart all before (n ∷ ns) → AreApart all (n ∷ before) ns
one_apart all before ns (NModuleOf m imports exports hidden ds) new apart = record {
  told = λ v w h. told v w (bytes_eq m v) refl h;
  later = λ v w h. let p = or_parts (bytes_eq m v) (is_one_of before v) h in apart.later v w p.1 ∙ rw p.0 refl;
}
  where
    told : (v w : Word) (b : Bool) → bytes_eq m v ≡ b → (b || is_one_of before v) ≡ true
        → told_by all v w ≡ (if b then is_offered (NModuleOf m imports exports hidden ds) w else is_offered_by before v w)
    told v w true same h =
        apart.later v w (subst (λ u. is_one_of before u ≡ false) (bytes_eq_eq m v same) new) ∙ first_tells m imports exports hidden ds ns v w same
    told v w false same h = apart.told v w h

-- A MODULE

-- its own names and those of its imports, which are before it, are those that it may mention
names_behind : (all before : List NModule) {m : Module} {n : NModule} → ResolvesAmong (offers_of all) m n → list_all (is_among (map word_of before)) (imports_of m) ≡ true
    → ((v w : Word) → is_one_of before v ≡ true → told_by all v w ≡ is_offered_by before v w) → HoldsDecls (mentioned (may_mention before n) (may_use before n)) (ndecls_in n)
names_behind all before (resolves_among {m = m} {imports = imports} {exports = exports} {hidden = hidden} {ds = ds} {cs = cs} rules) there told =
    let n = NModuleOf m imports exports hidden cs in
    let top = top_among (offers_of all) (ModuleOf m imports exports hidden ds) in
    let among : (v : Word) → top.imports v ≡ true → is_among imports v ≡ true = λ v h. sym (words_alone imports v) ∙ h in
    let one : (v : Word) → top.imports v ≡ true → is_one_of before v ≡ true = λ v h. all_at (is_among (map word_of before)) imports v there (among v h) in
    let serves : Serves top (may_mention before n) (may_use before n) = record {
      own_seen = or_left (bytes_eq m m) (is_among imports m && is_one_of before m) (bytes_eq_refl m);
      imports_seen = λ v h. or_right (bytes_eq m v) (is_among imports v && is_one_of before v) (and_from (is_among imports v) (is_one_of before v) (among v h) (one v h));
      own_used = λ w. or_left (bytes_eq m m) (is_offered_by before m w) (bytes_eq_refl m);
      imports_used = λ v w h o.
          or_right (bytes_eq m v) (is_offered_by before v w)
          (sym (told v w (one v h)) ∙ (and_parts (told_by all v w) (plus_all (nwords_by nterm_words (decls_of_module all v)) no_word w) o).0);
    } in
    names_serve top (may_mention before n) (may_use before n) serves rules

same_word : {m : Module} {n : NModule} → Resolves m n → name_of m ≡ word_of n
same_word (resolves_module rules) = refl

-- a module that is ready behind others is new among them
is_new : (before : List NModule) (m : Module) (n : NModule) → Resolves m n → is_ready (map word_of before) m ≡ true → is_one_of before (word_of n) ≡ false
is_new before m n resolves ready =
    let p = and_parts (not (is_among (map word_of before) (name_of m))) (list_all (is_among (map word_of before)) (imports_of m)) ready in
    subst (λ w. is_one_of before w ≡ false) (same_word resolves) (not-true (is_among (map word_of before) (name_of m)) p.0)

lints_behind : (all before : List NModule) (m : Module) (n : NModule) → HoldsInSet all m n → is_ready (map word_of before) m ≡ true
    → ((v w : Word) → is_one_of before v ≡ true → told_by all v w ≡ is_offered_by before v w) → LintsBehind all before n
lints_behind all before m n h ready told =
    let p = and_parts (not (is_among (map word_of before) (name_of m))) (list_all (is_among (map word_of before)) (imports_of m)) ready in
    let names = names_behind all before h.offered p.1 told in
    record {
      holds = h.holds;
      types = types_differ h.resolves;
      definitions = definitions_differ h.resolves;
      new = is_new before m n h.resolves ready;
      mentions = decls_seen (may_mention before n) (may_use before n) (ndecls_in n) names;
      uses = decls_used (may_mention before n) (may_use before n) (ndecls_in n) names;
    }

-- A SET

all_lint : (all before : List NModule) {ms : List Module} {ns : List NModule} → AllHold all ms ns → AreReady (map word_of before) ms → AreApart all before ns → LintInOrder all before ns
all_lint all before no_modules ready apart = none_lint
all_lint all before (one_module {m = m} {n = n} {ms = ms} {ns = ns} h rest) (one_ready ready more) apart =
    one_lints (lints_behind all before m n h ready apart.told)
    (all_lint all (n ∷ before) rest (subst (λ w. AreReady (w ∷ map word_of before) ms) (same_word h.resolves) more) (one_apart all before ns n (is_new before m n h.resolves ready) apart))

pub built_sets_lint_in_order : BuiltSetsLintInOrder
built_sets_lint_in_order ms lints =
    let all = nameless_forms (build_order ms) in all_lint all [] (all_hold all (build_order ms) lints) (built_are_ready (length ms) [] ms) (all_apart all)

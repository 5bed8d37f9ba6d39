-- Replays of a set that lints in the order in which it is built: what is written of them is faithful, and can be written.
use Rattle.std.proofs.Common.{◌≡◌, ◌∙◌, All, true, List, [], map, sym, subst}
use Rattle.std.specs.List.{list_all}
use Rattle.std.proofs.lemmas.List.Elements.{All-nil, All-weaker}
use Rattle.fc_syntax.specs.Tokens.{is_module_name}
use Rattle.fc_syntax.specs.Tree.{Word, Module}
use Rattle.fc_log.specs.declared.log.Log.{Log}
use Rattle.fc_model.specs.Formed.{IsFormed}
use Rattle.fc_model.specs.Headers.{name_of, ndecls_in}
use Rattle.fc_model.specs.Kinding.{decls_at}
use Rattle.fc_model.specs.Linting.{SetLints, nameless_forms}
use Rattle.fc_model.specs.LintingRules.{ModuleHolds}
use Rattle.fc_model.specs.Nameless.{NModule}
use Rattle.fc_model.specs.Planning.{build_order, is_among}
use Rattle.fc_model.specs.Programs.{IsMainExpression}
use Rattle.fc_model.specs.ResolutionRules.{Resolves, resolves_module}
use Rattle.fc_headers.specs.NamelessHeaders.{modules_in_decls}
use Rattle.fc_reaching.specs.Numbering.{word_of}
use Rattle.fc_formed.specs.FormedTrees.{IsFormedModule}
use Rattle.fc_lint_in_order.proofs.InOrder.{built_sets_lint_in_order}
use Rattle.fc_meaning.specs.Laws.{ShowsTheSame}
use Rattle.fc_meaning.proofs.SortedErasure.{form_is_written}
use Rattle.fc_meaning.proofs.WrittenExpressions.{AreDeclsWritten}
use Rattle.fc_resolved_names.proofs.Distinct.{coercions_distinct, terms_distinct, types_distinct}
use Rattle.fc_scoped.specs.LintedAreScoped.{HasDistinctWords, ImportsWhatItMentions, IsAmong}
use Rattle.fc_scoped.proofs.Scoping.{linted_are_scoped}
use Rattle.fc_set_meaning.proofs.MainExpressions.{main_expressions_show_the_same}
use Rattle.fc_set_rules.specs.FormsDecide.{AllResolve}
use Rattle.fc_set_types.specs.SetsReplayed.{AreKept, LintInOrder, is_one_of}
use Rattle.fc_set_types.proofs.InOrder.{names_see}
use Rattle.fc_set_types.proofs.Mentions.{module_mentions}
use Rattle.fc_set_types.proofs.SetsKept.{replayed_sets_keep_lint}
use Rattle.fc_written_sets.proofs.SetsLint.{written_sets_lint}
use Rattle.fc_replayed_sets.specs.Faithful.{AreFaithful, CanBeWritten, OfferTheSame, ReplayedSetsAreFaithful, ReplaysCanBeWritten}
use Rattle.fc_replayed_sets.specs.Replays.{AreReplays, TellsAnything}
use Rattle.fc_replayed_sets.proofs.AmongNames.{all_among}
use Rattle.fc_replayed_sets.proofs.FormedLeft.{have_module_names, left_are_formed}
use Rattle.fc_replayed_sets.proofs.Forms.{all_import_others, each_form, form_names, resolved_forms, set_resolves}
use Rattle.fc_replayed_sets.proofs.Ordered.{AreDistinctWords, built_names_differ, order_names_others}
use Rattle.fc_replayed_sets.proofs.ReadFormed.{read_is_formed}
use Rattle.fc_replayed_sets.proofs.WhatIsLeft.{AreLeft, are_left, entries_of, imports_left, in_order, left_offer, mentions_left, names_left, tell_left, words_left}

-- the words that a module declares are distinct, as it resolves
read_words : (m : Module) (n : NModule) → Resolves m n → IsFormed m → HasDistinctWords n
read_words m n (resolves_module rules) formed = (types_distinct rules, terms_distinct rules, coercions_distinct rules)

-- the nameless forms of formed modules are formed
pub read_are_formed : (ms : List Module) → SetLints ms → All IsFormed ms → All IsFormedModule (nameless_forms ms)
read_are_formed ms lint formed = each_form IsFormed IsFormedModule read_is_formed (set_resolves ms lint) formed

module _ (ms : List Module) (lint : SetLints (build_order ms)) (formed : All IsFormed (build_order ms)) (logs : List Log) (ks : List NModule)
    (replays : AreReplays (map name_of (build_order ms)) TellsAnything [] logs (nameless_forms (build_order ms)) ks) where
  abbrev order : List Word
  order = map name_of (build_order ms)

  abbrev read : List NModule
  read = nameless_forms (build_order ms)

  resolve : AllResolve (build_order ms) read
  resolve = set_resolves (build_order ms) lint

  lints_in_order : LintInOrder read [] read
  lints_in_order = built_sets_lint_in_order ms lint

  kept : AreKept (in_order replays) × All (ModuleHolds (decls_at ks)) ks
  kept = replayed_sets_keep_lint (entries_of logs) read ks lints_in_order (in_order replays)

  left : AreLeft order read ks
  left = are_left replays kept.0

  names : map word_of ks ≡ order
  names = names_left order left ∙ sym (form_names resolve)

  -- THE WRITTEN SET

  faithful : (ws : List Module) → AllResolve ws ks → AreFaithful (build_order ms) ws
  faithful ws forms =
      let same : ks ≡ nameless_forms ws = sym (resolved_forms forms) in
      let written = each_form IsFormed (λ n. AreDeclsWritten (ndecls_in n)) (λ m n resolves f. form_is_written resolves f) resolve formed in
      record {
        lint = written_sets_lint ks ws forms (imports_left order left (all_import_others resolve (order_names_others ms))) (tell_left order left) kept.1;
        names = form_names forms ∙ names;
        offer = subst (OfferTheSame read) same (left_offer order left);
        mean = λ t main.
            subst (λ xs. IsMainExpression xs t × ShowsTheSame read xs t) same
            (main_expressions_show_the_same (entries_of logs) read ks lints_in_order written (in_order replays) t main);
      }

  -- WHAT CAN BE WRITTEN

  left_formed : All IsFormedModule ks
  left_formed =
      let read_formed = read_are_formed (build_order ms) lint formed in
      left_are_formed order (subst (λ ws. list_all is_module_name ws ≡ true) (sym (form_names resolve)) (have_module_names read read_formed)) replays (All-nil IsFormedModule) read_formed

  -- each mentions modules of the set alone
  mentioned : All (λ k. list_all (is_among order) (modules_in_decls (ndecls_in k)) ≡ true) ks
  mentioned =
      All-weaker (ModuleHolds (decls_at ks)) (λ k. list_all (is_among order) (modules_in_decls (ndecls_in k)) ≡ true)
      (λ k holds. subst (λ ws. list_all (is_among ws) (modules_in_decls (ndecls_in k)) ≡ true) names (module_mentions (is_one_of ks) (decls_at ks) (names_see ks) holds)) ks kept.1

  one_written : (k : NModule) → IsAmong ks k → HasDistinctWords k → ImportsWhatItMentions k → ModuleHolds (decls_at ks) k → IsFormedModule k → CanBeWritten k
  one_written k among words imports holds form = record { scoped = linted_are_scoped ks k among words imports holds; formed = form }

  can_be_written : All CanBeWritten ks
  can_be_written i d l =
      let among = all_among ks (subst AreDistinctWords (sym names) (built_names_differ ms)) in
      let words = words_left order left (each_form IsFormed HasDistinctWords read_words resolve formed) in
      one_written _ (among i d l) (words i d l) (mentions_left order left mentioned i d l) (kept.1 i d l) (left_formed i d l)

-- THE LAWS

pub replayed_sets_are_faithful : ReplayedSetsAreFaithful
replayed_sets_are_faithful ms lint formed logs ks replays ws forms = faithful ms lint formed logs ks replays ws forms

pub replays_can_be_written : ReplaysCanBeWritten
replays_can_be_written ms lint formed logs ks replays = can_be_written ms lint formed logs ks replays

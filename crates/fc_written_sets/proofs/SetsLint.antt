-- Modules lint as a set where their nameless forms hold against all of these, and each form tells others all that it declares.
use Rattle.std.proofs.Common.{◌≡◌, All, true, List, [], ◌∷◌, Option, Some, None, refl}
use Rattle.std.specs.List.{list_all}
use Rattle.std.proofs.lemmas.List.Elements.{All-head, All-tail}
use Rattle.fc_syntax.specs.Tree.{Word, Module, ModuleOf}
use Rattle.fc_model.specs.Declaring.{ncoercion_words, nterm_words, ntype_words, nwords_by}
use Rattle.fc_model.specs.Kinding.{decls_at}
use Rattle.fc_model.specs.Linting.{offered_by, offers_of}
use Rattle.fc_model.specs.LintingRules.{ModuleHolds}
use Rattle.fc_model.specs.Nameless.{NDecl, NModule}
use Rattle.fc_model.specs.Resolution.{all_words, no_word, plus_all, top_of}
use Rattle.fc_model.specs.ResolutionRules.{Resolves, resolves_module}
use Rattle.fc_headers.specs.NamelessHeaders.{modules_in_decls}
use Rattle.fc_resolved_names.specs.ResolvedNames.{ImportsOthers}
use Rattle.fc_resolved_names.proofs.Scoped.{in_none}
use Rattle.fc_scoped.proofs.LintedNames.{IsSaidInReach, IsSaidOfDeclared, linted_names_hold}
use Rattle.fc_set_rules.specs.FormsDecide.{AllResolve, IsOfferedIn, none_resolve, offered_names, one_resolves}
use Rattle.fc_set_rules.specs.SetRules.{AllHold, HoldsInSet, ResolvesAmong, no_modules, one_module, resolves_among}
use Rattle.fc_set_rules.proofs.FoundAmong.{decls_among}
use Rattle.fc_set_rules.proofs.SetsAre.{set_is_by_cases}
use Rattle.fc_written_sets.specs.WrittenSets.{TellsAll, WrittenSetsLint}
use Rattle.fc_written_sets.proofs.ToldWords.{AreItsOwn, declared_is_offered, own_coercions, own_terms, own_types}

-- every word is one of all
all_are_words : (m : Word) (ws : List Word) → list_all (all_words m) ws ≡ true
all_are_words m [] = refl
all_are_words m (w ∷ ws) = all_are_words m ws

module _ (ns : List NModule) (tell : All TellsAll ns) where
  -- a name that is declared is among what its module has for others, whatever module names it
  in_offers : (own : Word) (words : NDecl → List Word) → AreItsOwn words → (o : Option Word) (w : Word) → plus_all (nwords_by words (decls_at ns o)) no_word w ≡ true
      → IsOfferedIn own (offered_by words ns) o w
  in_offers own words among None w h = tt
  in_offers own words among (Some v) w h = λ other. declared_is_offered words among ns v w tell h

  are_offered : (own : Word) → IsSaidOfDeclared (decls_at ns) (offered_names own (offers_of ns)) (all_words own)
  are_offered own = record {
    type_name = λ n m h. in_offers own ntype_words own_types n.module n.text h;
    axiom_name = λ n m h. in_offers own ncoercion_words own_coercions n.module n.text h;
    constructor = λ n m h. in_offers own nterm_words own_terms n.module n.text h;
    definition = λ n m h. in_offers own nterm_words own_terms n.module n.text h;
  }

  in_reach_is_offered : (own : Word) → IsSaidInReach (offered_names own (offers_of ns))
  in_reach_is_offered own = record { type_at = λ many i h. tt; value_at = λ many i h. tt; join_at = λ many i h. tt; coercion_at = λ many i h. tt }

  -- what resolves and holds against modules resolves among them
  resolves_by_holding : {m : Module} {n : NModule} → Resolves m n → ImportsOthers n → ModuleHolds (decls_at ns) n → ResolvesAmong (offers_of ns) m n
  resolves_by_holding (resolves_module {m = m} {imports = imports} {exports = exports} {hidden = hidden} {ds = ds} {cs = cs} alone) others h =
      resolves_among (decls_among (top_of (ModuleOf m imports exports hidden ds)) (offers_of ns) (in_none imports no_word m others refl) alone
      (linted_names_hold (decls_at ns) (offered_names m (offers_of ns)) (all_words m) (in_reach_is_offered m) (are_offered m) h (all_are_words m (modules_in_decls cs))))

  all_hold : {ms : List Module} {ks : List NModule} → AllResolve ms ks → All ImportsOthers ks → All (ModuleHolds (decls_at ns)) ks → AllHold ns ms ks
  all_hold none_resolve others hold = no_modules
  all_hold (one_resolves {m = m} {n = k} {ns = ks} r more) others hold =
      let h = All-head (ModuleHolds (decls_at ns)) k ks hold in
      let here : HoldsInSet ns m k = record { resolves = r; offered = resolves_by_holding r (All-head ImportsOthers k ks others) h; holds = h } in
      one_module here (all_hold more (All-tail ImportsOthers k ks others) (All-tail (ModuleHolds (decls_at ns)) k ks hold))

pub written_sets_lint : WrittenSetsLint
written_sets_lint ns ms forms others tell hold = (set_is_by_cases ms).1 (record { forms = ns; all = all_hold ns tell forms others hold })

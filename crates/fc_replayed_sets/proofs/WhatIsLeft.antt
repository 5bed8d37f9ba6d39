-- What logs leave of modules that lint in order, each under its written header: it has the name and the exports of what was read, and offers the same.
use Rattle.std.proofs.Common.{◌≡◌, ◌∙◌, All, true, List, [], ◌∷◌, map, refl, sym, ap, subst}
use Rattle.std.specs.List.{list_all}
use Rattle.std.proofs.lemmas.Bool.{or_left}
use Rattle.std.proofs.lemmas.List.Elements.{All-cons, All-head, All-nil, All-tail}
use Rattle.fc_syntax.specs.Tree.{Word}
use Rattle.fc_log.specs.declared.log.Entry.{Entry}
use Rattle.fc_log.specs.declared.log.Log.{Log}
use Rattle.fc_model.specs.Headers.{ndecls_in}
use Rattle.fc_model.specs.Nameless.{NModule, NModuleOf}
use Rattle.fc_model.specs.Planning.{is_among}
use Rattle.fc_headers.specs.NamelessHeaders.{form_written_among, modules_in_decls}
use Rattle.fc_reaching.specs.Numbering.{word_of}
use Rattle.fc_replay_types.specs.ReplaysKept.{OffersAlike, with_declarations}
use Rattle.fc_resolved_names.specs.ResolvedNames.{ImportsOthers}
use Rattle.fc_scoped.specs.LintedAreScoped.{HasDistinctWords, ImportsWhatItMentions}
use Rattle.fc_set_types.specs.SetsReplayed.{AreKept, IsHeadedFrom, ReplayedInOrder, none_replayed, one_replayed, type_declarations}
use Rattle.fc_set_types.proofs.Headed.{written_are_headed}
use Rattle.fc_written_sets.specs.WrittenSets.{TellsAll}
use Rattle.fc_replayed_sets.specs.Faithful.{OffersTheSame, OfferTheSame, none_offer, one_offers}
use Rattle.fc_replayed_sets.specs.Replays.{AreReplays, Telling, no_replays, one_replay}
use Rattle.fc_replayed_sets.proofs.WordsLeft.{replays_keep_words}
use Rattle.fc_replayed_sets.proofs.WrittenHeaders.{imports_mentioned, imports_others, tells_all}

-- REPLAYS

abbrev pub entries_of : List Log → List (List Entry)
entries_of logs = map (λ l. l.entries) logs

-- replays are replayed in order
abbrev pub in_order : {order : List Word} {Tells : Telling} {before ns ks : List NModule} {logs : List Log} → AreReplays order Tells before logs ns ks
    → ReplayedInOrder before (entries_of logs) ns ks
in_order no_replays = none_replayed
in_order {order = order} (one_replay told is tells rest) =
    one_replayed told is.replays (subst (IsHeadedFrom is.left) (sym is.headed) (written_are_headed order is.left)) (in_order rest)

-- WHAT IS LEFT

-- a module is what is left of another, under its written header
pub record IsLeft (order : List Word) (n k : NModule) : Type 0 where
  pub left : NModule
  pub offers : OffersAlike n left
  pub declares : type_declarations (ndecls_in left) ≡ type_declarations (ndecls_in n)
  pub words : HasDistinctWords n → HasDistinctWords left
  pub headed : k ≡ form_written_among order left

pub data AreLeft (order : List Word) : List NModule → List NModule → Type 0 where
  none_left : AreLeft order [] []
  one_left : {n k : NModule} {ns ks : List NModule} → IsLeft order n k → AreLeft order ns ks → AreLeft order (n ∷ ns) (k ∷ ks)

pub are_left : {order : List Word} {Tells : Telling} {before ns ks : List NModule} {logs : List Log} (replays : AreReplays order Tells before logs ns ks) → AreKept (in_order replays)
    → AreLeft order ns ks
are_left no_replays kept = none_left
are_left (one_replay told is tells rest) kept =
    one_left (record { left = is.left; offers = kept.0.offers; declares = kept.0.declares; words = replays_keep_words is.replays; headed = is.headed }) (are_left rest kept.1)

-- EACH MODULE

module _ (order : List Word) where
  -- it is what was read, with other declarations, under its written header
  left_is : (n k : NModule) (is : IsLeft order n k) → k ≡ form_written_among order (with_declarations (ndecls_in is.left) n)
  left_is n k is = is.headed ∙ ap (form_written_among order) is.offers.header

  left_name : (n k : NModule) → IsLeft order n k → word_of k ≡ word_of n
  left_name (NModuleOf m imports exports hidden ds) k is = ap word_of (left_is (NModuleOf m imports exports hidden ds) k is)

  left_offers : (n k : NModule) → IsLeft order n k → OffersTheSame n k
  left_offers (NModuleOf m imports exports hidden ds) k is =
      let n = NModuleOf m imports exports hidden ds in
      subst (OffersTheSame n) (sym (left_is n k is)) (refl, refl, λ w h. sym (is.offers.types w (or_left (is_among exports w) (is_among hidden w) h)), sym is.declares)

  left_imports : (n k : NModule) → IsLeft order n k → ImportsOthers n → ImportsOthers k
  left_imports (NModuleOf m imports exports hidden ds) k is others =
      let n = NModuleOf m imports exports hidden ds in
      subst ImportsOthers (sym (left_is n k is)) (imports_others order (with_declarations (ndecls_in is.left) n) others)

  left_mentions : (n k : NModule) → IsLeft order n k → list_all (is_among order) (modules_in_decls (ndecls_in k)) ≡ true → ImportsWhatItMentions k
  left_mentions n k is =
      subst (λ x. list_all (is_among order) (modules_in_decls (ndecls_in x)) ≡ true → ImportsWhatItMentions x) (sym is.headed) (imports_mentioned order is.left)

  left_tells : (n k : NModule) → IsLeft order n k → TellsAll k
  left_tells n k is = subst TellsAll (sym is.headed) (tells_all order is.left)

  headed_words : (n : NModule) → HasDistinctWords n → HasDistinctWords (form_written_among order n)
  headed_words (NModuleOf m imports exports hidden ds) h = h

  left_words : (n k : NModule) → IsLeft order n k → HasDistinctWords n → HasDistinctWords k
  left_words n k is h = subst HasDistinctWords (sym is.headed) (headed_words is.left (is.words h))

  -- SETS

  pub names_left : {ns ks : List NModule} → AreLeft order ns ks → map word_of ks ≡ map word_of ns
  names_left none_left = refl
  names_left (one_left {n = n} {k = k} is rest) = rw (left_name n k is, names_left rest) refl

  pub left_offer : {ns ks : List NModule} → AreLeft order ns ks → OfferTheSame ns ks
  left_offer none_left = none_offer
  left_offer (one_left {n = n} {k = k} is rest) = one_offers (left_offers n k is) (left_offer rest)

  -- what each has of what was read and of itself
  module _ (P Q R : NModule → Type 0) (gives : (n k : NModule) → IsLeft order n k → P n → Q k → R k) where
    each_left : {ns ks : List NModule} → AreLeft order ns ks → All P ns → All Q ks → All R ks
    each_left none_left first second = All-nil R
    each_left (one_left {n = n} {k = k} {ns = ns} {ks = ks} is rest) first second =
        All-cons R k ks (gives n k is (All-head P n ns first) (All-head Q k ks second)) (each_left rest (All-tail P n ns first) (All-tail Q k ks second))

  abbrev Any : NModule → Type 0
  Any n = Unit {0}

  pub imports_left : {ns ks : List NModule} → AreLeft order ns ks → All ImportsOthers ns → All ImportsOthers ks
  imports_left are all = each_left ImportsOthers Any ImportsOthers (λ n k is h any. left_imports n k is h) are all (λ i d l. tt)

  pub words_left : {ns ks : List NModule} → AreLeft order ns ks → All HasDistinctWords ns → All HasDistinctWords ks
  words_left are all = each_left HasDistinctWords Any HasDistinctWords (λ n k is h any. left_words n k is h) are all (λ i d l. tt)

  pub mentions_left : {ns ks : List NModule} → AreLeft order ns ks → All (λ k. list_all (is_among order) (modules_in_decls (ndecls_in k)) ≡ true) ks → All ImportsWhatItMentions ks
  mentions_left are all =
      each_left Any (λ k. list_all (is_among order) (modules_in_decls (ndecls_in k)) ≡ true) ImportsWhatItMentions (λ n k is any h. left_mentions n k is h) are (λ i d l. tt) all

  pub tell_left : {ns ks : List NModule} → AreLeft order ns ks → All TellsAll ks
  tell_left are = each_left Any Any TellsAll (λ n k is any other. left_tells n k is) are (λ i d l. tt) (λ i d l. tt)

-- Modules headed anew: they reach what they did, and stand among it.
use Rattle.std.proofs.Common.{◌≡◌, ◌∙◌, Bool, true, ◌||◌, List, [], ◌∷◌, ◌++◌, inr, not, ◌&&◌, false, if◌then◌else◌, refl, sym}
use Rattle.std.proofs.lemmas.Bool.{or_left, or_right}
use Rattle.std.proofs.lemmas.List.Elements.{All-cons, All-head, All-tail}
use Rattle.std.specs.List.{list_all}
use Rattle.std.specs.Str.{bytes_eq}
use Rattle.fc_syntax.specs.Tree.{Word}
use Rattle.fc_model.specs.Declaring.{ndeclared_words}
use Rattle.fc_model.specs.Headers.{others, words_but}
use Rattle.fc_model.specs.Kinding.{Modules, decls_at, decls_of_module}
use Rattle.fc_model.specs.LintingRules.{ModuleHolds, module_holds}
use Rattle.fc_model.specs.Nameless.{NDecl, NModule, NModuleOf}
use Rattle.fc_model.specs.Planning.{is_among}
use Rattle.fc_model.specs.Resolution.{WordSet, no_word, plus, plus_all}
use Rattle.fc_model.specs.TypingLaws.{HasDistinctTypes}
use Rattle.fc_model.proofs.Sameness.{false_true}
use Rattle.fc_model.proofs.UnderHeader.{all_are_in, all_of_both, others_are_among}
use Rattle.fc_headers.specs.NamelessHeaders.{modules_in_decls}
use Rattle.fc_rows.specs.Telling.{reached_among}
use Rattle.fc_replay_types.specs.ReplaysKept.{Stands}
use Rattle.fc_set_types.specs.SetsReplayed.{headed, TheSameAreHeaded, WrittenAreHeaded, is_one_of}
use Rattle.fc_set_types.proofs.Growing.{headed_by, module_grows}
use Rattle.fc_set_types.proofs.InOrder.{StandInOrder, names_see, own_names}
use Rattle.fc_set_types.proofs.Mentions.{module_mentions}
use Rattle.fc_set_types.proofs.Reached.{all_at, all_listed, all_weaker, among_first, by_or, other_name, reached_same, reached_there}
use Rattle.fc_model.proofs.Lists.{words_alone}

module _ (m : Word) (imports exports hidden further more : List Word) (ds : List NDecl) (before : List NModule) (stand : StandInOrder before) (new : is_one_of before m ≡ false) where
  abbrev own : NModule
  own = NModuleOf m imports exports hidden ds

  abbrev anew : NModule
  anew = NModuleOf m further exports more ds

  abbrev near : List NModule
  near = reached_among imports before

  -- what it mentions it reaches
  mentioned_reached : ModuleHolds (decls_at (own ∷ near)) own → (w : Word) → is_one_of before w ≡ true → is_among (modules_in_decls ds) w ≡ true → is_one_of near w ≡ true
  mentioned_reached holds w one mentioned =
      let mentions = module_mentions (is_one_of (own ∷ near)) (decls_at (own ∷ near)) (names_see (own ∷ near)) holds in
      let seen = all_at (is_one_of (own ∷ near)) (modules_in_decls ds) w mentions mentioned in
      by_or (bytes_eq m w) (is_one_of near w) seen (λ e. false_true (sym (other_name before m w new one) ∙ e)) (λ p. p)

  -- so that more imports reach the same
  pub anew_reaches : Stands near own → list_all (is_among further) imports ≡ true → list_all (λ w. is_among imports w || is_among (modules_in_decls ds) w) further ≡ true
      → reached_among further before ≡ near
  anew_reaches stands keeps mentions =
      let holds = All-head (ModuleHolds (decls_at (own ∷ near))) own near stands.lints.hold in
      reached_same imports further before (own_names stand) (λ u. all_at (is_among further) imports u keeps)
      (λ u one a. by_or (is_among imports u) (is_among (modules_in_decls ds) u) (all_at (λ w. is_among imports w || is_among (modules_in_decls ds) w) further u mentions a)
      (λ p. reached_there imports before u p one) (mentioned_reached holds u one))

  -- it holds where it held
  pub anew_holds : {ms : Modules} → list_all (λ w. is_among hidden w || plus_all (ndeclared_words ds) no_word w) more ≡ true → ModuleHolds ms own → ModuleHolds ms anew
  anew_holds declares (module_holds e h types definitions) =
      module_holds e
      (all_weaker (λ w. is_among hidden w || plus_all (ndeclared_words ds) no_word w) (plus_all (ndeclared_words ds) no_word)
      (λ w p. by_or (is_among hidden w) (plus_all (ndeclared_words ds) no_word w) p (all_at (plus_all (ndeclared_words ds) no_word) hidden w h) (λ q. q)) more declares)
      types definitions

  -- what holds with it holds with it as it is headed now
  there : (n : NModule) → Stands near own → ModuleHolds (decls_at (own ∷ near)) n → ModuleHolds (decls_at (anew ∷ near)) n
  there n stands h =
      module_grows (own ∷ near) (anew ∷ near) (λ w. inr (headed_by (decls_of_module (own ∷ near) w) (decls_of_module (anew ∷ near) w) refl)) stands.lints.hold n h

  -- and it stands among it
  pub anew_stands : list_all (λ w. is_among hidden w || plus_all (ndeclared_words ds) no_word w) more ≡ true → Stands near own → Stands near anew
  anew_stands declares stands = record {
    lints = record {
      distinct = All-cons HasDistinctTypes anew near (All-head HasDistinctTypes own near stands.lints.distinct) (All-tail HasDistinctTypes own near stands.lints.distinct);
      hold = All-cons (ModuleHolds (decls_at (anew ∷ near))) anew near
          (anew_holds declares (there own stands (All-head (ModuleHolds (decls_at (own ∷ near))) own near stands.lints.hold)))
          (λ i d l. there _ stands (All-tail (ModuleHolds (decls_at (own ∷ near))) own near stands.lints.hold i d l));
    };
    distinct = stands.distinct;
    others = stands.others;
    apart = stands.apart;
  }

-- HEADERS

-- the words that are chosen are of the chosen ones
chosen_words : (chosen but : WordSet) (ws : List Word) → list_all chosen (words_but chosen but ws) ≡ true
chosen_words chosen but [] = refl
chosen_words chosen but (w ∷ ws) = tested (chosen w) refl (not (but w)) (chosen_words chosen but ws)
  where
    tested : (b : Bool) → chosen w ≡ b → (c : Bool) → list_all chosen (words_but chosen but ws) ≡ true
        → list_all chosen (if b && c then w ∷ words_but chosen but ws else words_but chosen but ws) ≡ true
    tested true e true h = rw e h
    tested true e false h = h
    tested false e c h = h

pub same_are_headed : TheSameAreHeaded
same_are_headed (NModuleOf m imports exports hidden ds) =
    headed (all_listed (is_among imports) imports (λ w p. p))
    (all_listed (λ w. is_among imports w || is_among (modules_in_decls ds) w) imports (λ w. or_left (is_among imports w) (is_among (modules_in_decls ds) w)))
    (all_listed (λ w. is_among hidden w || plus_all (ndeclared_words ds) no_word w) hidden (λ w. or_left (is_among hidden w) (plus_all (ndeclared_words ds) no_word w)))

pub written_are_headed : WrittenAreHeaded
written_are_headed order (NModuleOf m imports exports hidden ds) =
    let mentioned : List Word = modules_in_decls ds in
    let declared : WordSet = plus_all (ndeclared_words ds) no_word in
    let chosen : WordSet = plus_all mentioned no_word in
    let extra : List Word = words_but chosen (plus_all imports (plus m no_word)) order in
    let hidden_more : List Word = others (plus_all hidden (plus_all exports no_word)) (ndeclared_words ds) in
    let imported : WordSet = λ w. is_among imports w || is_among mentioned w in
    let hides : WordSet = λ w. is_among hidden w || declared w in
    headed (all_listed (is_among (imports ++ extra)) imports (λ w. among_first imports extra w))
    (all_of_both imported imports extra (all_listed imported imports (λ w. or_left (is_among imports w) (is_among mentioned w)))
    (all_weaker chosen imported (λ w p. or_right (is_among imports w) (is_among mentioned w) (sym (words_alone mentioned w) ∙ p))
    extra (chosen_words chosen (plus_all imports (plus m no_word)) order)))
    (all_of_both hides hidden hidden_more (all_listed hides hidden (λ w. or_left (is_among hidden w) (declared w)))
    (others_are_among hides (plus_all hidden (plus_all exports no_word)) (ndeclared_words ds)
    (all_weaker declared hides (λ w. or_right (is_among hidden w) (declared w)) (ndeclared_words ds) (all_are_in (ndeclared_words ds) no_word))))

-- Modules of a set that are replayed one after the other: at each point the program of those that are done and of those still to come shows the same.
use Rattle.std.proofs.Common.{◌≡◌, ◌∙◌, All, Bool, true, false, ◌||◌, if◌then◌else◌, List, [], ◌∷◌, ◌++◌, Option, Some, None, refl, sym, ap, subst}
use Rattle.std.proofs.lemmas.Bool.{or_left, or_parts, or_right}
use Rattle.std.proofs.lemmas.List.Elements.{All-cons, All-from_recursion, All-head, recursion_from_All}
use Rattle.std.specs.List.{AllByRecursion as Each}
use Rattle.std.specs.Str.{bytes_eq}
use Rattle.fc_syntax.specs.declared.ty.Name.{Name}
use Rattle.fc_syntax.specs.Tree.{Word}
use Rattle.fc_log.specs.declared.log.Entry.{Entry}
use Rattle.fc_model.specs.Headers.{ndecls_in}
use Rattle.fc_model.specs.Kinding.{Modules, decls_at, decls_of_module}
use Rattle.fc_model.specs.LintingRules.{DefinitionsHold, ModuleHolds, module_holds}
use Rattle.fc_model.specs.Nameless.{NModule, NModuleOf}
use Rattle.fc_model.specs.Programs.{Mentions, program_of, right_side}
use Rattle.fc_model.specs.Resolution.{no_word}
use Rattle.fc_model.specs.ResolutionRules.{AreDistinct}
use Rattle.fc_model.specs.Stepping.{Program}
use Rattle.fc_model.specs.Terms.{IsSorted, Term}
use Rattle.fc_model.proofs.Sameness.{bytes_eq_refl, same_word_eq}
use Rattle.fc_headers.specs.NamelessHeaders.{modules_in_decls}
use Rattle.fc_reaching.specs.Numbering.{word_of}
use Rattle.fc_reaching.specs.Reaching.{defined_words}
use Rattle.fc_rows.specs.Dropping.{is_offered}
use Rattle.fc_rows.specs.Replaying.{Replays}
use Rattle.fc_rows.specs.Telling.{reached_by_imports, told_module}
use Rattle.fc_meaning.specs.Laws.{SortedProgram}
use Rattle.fc_meaning.proofs.HeldDeclarations.{AreHeld, modules_are_held}
use Rattle.fc_meaning.proofs.Optional.{none_some}
use Rattle.fc_meaning.proofs.WrittenExpressions.{AreDeclsWritten}
use Rattle.fc_meaning.proofs.WrittenMeans.{mentions_more}
use Rattle.fc_counted.specs.CountingLaws.{SeesSame}
use Rattle.fc_kept_meaning.specs.FairImports.{TellsTruth}
use Rattle.fc_kept_meaning.specs.MeaningKept.{HoldsModule, MayBeAsked, OthersKeepOut, with_module}
use Rattle.fc_meaning.proofs.SortedErasure.{AreRightsSorted, rights_sorted}
use Rattle.fc_kept_meaning.proofs.ChangesKeepMeaning.{linted_rights, with_module_sorted}
use Rattle.fc_kept_meaning.proofs.ShownFurther.{placed_again, placed_holds}
use Rattle.fc_rows_written.proofs.RowsWritten.{IsModuleWritten}
use Rattle.fc_replay_meaning.proofs.ReplaysMeant.{replays_keep_meaning}
use Rattle.fc_views.specs.Views.{AreInView}
use Rattle.fc_views.proofs.TypesInView.{each_in_both}
use Rattle.fc_set_types.specs.SetsReplayed.{AreKept, IsHeadedFrom, IsKept, LintInOrder, none_lint, one_lints, LintsBehind, ReplayedInOrder, none_replayed, one_replayed, is_offered_by, is_one_of}
use Rattle.fc_set_types.proofs.InOrder.{names_see}
use Rattle.fc_set_types.proofs.Mentions.{module_mentions}
use Rattle.fc_set_types.proofs.Reached.{all_weaker, by_or, each_reached, names_differ, reached_only}
use Rattle.fc_set_types.proofs.SetsKept.{replayed_sets_keep_lint}
use Rattle.fc_set_meaning.specs.SetMeaning.{MayBeAskedOf, ReplayedSetsKeepMeaning, is_asked_of}
use Rattle.fc_set_meaning.proofs.Headers.{header_word, headed_decls, headed_program, headed_word, told_word}
use Rattle.fc_set_meaning.proofs.InPlace.{first_placed, moved, same_programs}
use Rattle.fc_set_meaning.proofs.KeptOut.{IsFirst, MentionsAmong, NamesAre, earlier_asked, later_asked, placed_keeps_out}
use Rattle.fc_set_meaning.proofs.Telling.{each_tells, each_there, module_told}
use Rattle.fc_set_meaning.proofs.Written.{replay_written, told_written}

-- WHAT IS REACHED, MENTIONED AND OFFERED

pub near_each : (P : NModule → Type 0) (n : NModule) (xs : List NModule) → Each P xs → Each P (reached_by_imports n xs)
near_each P (NModuleOf m imports exports hidden ds) xs h = each_reached P imports xs h

near_only : (n : NModule) (xs : List NModule) (w : Word) → is_one_of (reached_by_imports n xs) w ≡ true → is_one_of xs w ≡ true
near_only (NModuleOf m imports exports hidden ds) xs w h = reached_only imports xs w h

-- what mentions modules of these alone mentions modules of more
mentions_more_modules : (k : NModule) (done xs : List NModule) → Each (MentionsAmong done) xs → Each (MentionsAmong (k ∷ done)) xs
mentions_more_modules k done [] h = tt
mentions_more_modules k done (d ∷ xs) h = (
  all_weaker (is_one_of done) (is_one_of (k ∷ done)) (λ w. or_right (bytes_eq (word_of k) w) (is_one_of done w)) (modules_in_decls (ndecls_in d)) h.0,
  mentions_more_modules k done xs h.1,
)

-- the module itself is the first of its name where it is in first place
in_first_place : (n : NModule) (xs : List NModule) (w : Word) → is_offered_by (n ∷ xs) (word_of n) w ≡ true → is_offered n w ≡ true
in_first_place n xs w h = subst (λ b. (if b then is_offered n w else is_offered_by xs (word_of n) w) ≡ true) (bytes_eq_refl (word_of n)) h

is_first : (n : NModule) (xs : List NModule) → IsFirst n (n ∷ xs)
is_first n xs = (or_left (bytes_eq (word_of n) (word_of n)) (is_one_of xs (word_of n)) (bytes_eq_refl (word_of n)), in_first_place n xs)

-- ONE MODULE

module _ (all whole : List NModule) where
  -- What is known where some modules are done, and others are still to come. Of those that are done some is told; the last of these comes first.
  record Mid (read before done ns ks : List NModule) : Type 0 where
    names : (w : Word) → is_one_of before w ≡ is_one_of done w
    was_read : (w : Word) → is_one_of before w ≡ is_one_of read w
    sorted : SortedProgram (program_of (done ++ ns))
    tells : Each (TellsTruth (program_of (done ++ ns))) before
    written : Each IsModuleWritten before
    mentions : Each (MentionsAmong done) done
    left : (w : Word) → decls_of_module whole w ≡ decls_of_module (done ++ ks) w
    offered : (m w : Word) → is_one_of read m ≡ false → is_offered_by all m w ≡ true → is_offered_by ns m w ≡ true

  module _ (read before done : List NModule) (es : List Entry) (n left k : NModule) (bs : List Bool) (ns ks : List NModule) (lints : LintsBehind all read n)
      (later : LintInOrder all (n ∷ read) ns) (own : IsModuleWritten n) (mid : Mid read before done (n ∷ ns) (k ∷ ks)) (replays : Replays (reached_by_imports n before) es n left)
      (heads : IsHeadedFrom left k) (kept : IsKept (reached_by_imports n before) n left) where
    abbrev near : List NModule
    near = reached_by_imports n before

    abbrev rest : List NModule
    rest = done ++ ns

    abbrev old : Program
    old = program_of (done ++ n ∷ ns)

    new_word : word_of k ≡ word_of n
    new_word = headed_word heads ∙ header_word n left kept.offers.header

    new_before : is_one_of before (word_of n) ≡ false
    new_before = mid.was_read (word_of n) ∙ lints.new

    new_done : is_one_of done (word_of n) ≡ false
    new_done = sym (mid.names (word_of n)) ∙ new_before

    old_placed : old ≡ with_module n (program_of rest)
    old_placed = same_programs (done ++ n ∷ ns) (n ∷ rest) (moved n done ns new_done) ∙ first_placed n rest

    new_placed : with_module k old ≡ program_of (k ∷ rest)
    new_placed = ap (with_module k) old_placed ∙ placed_again n k (sym new_word) (program_of rest) ∙ sym (first_placed k rest)

    left_placed : with_module left old ≡ program_of (k ∷ rest)
    left_placed = headed_program heads old ∙ new_placed

    near_written : All IsModuleWritten (n ∷ near)
    near_written = All-cons IsModuleWritten n near own (All-from_recursion IsModuleWritten near (near_each IsModuleWritten n before mid.written))

    left_written : IsModuleWritten left
    left_written = replay_written near_written replays

    holds : HoldsModule old n
    holds = subst (λ P. HoldsModule P n) (sym old_placed) (placed_holds n (program_of rest))

    keep_out : OthersKeepOut old n
    keep_out =
        subst (λ P. OthersKeepOut P n) (sym old_placed)
        (placed_keeps_out n rest (each_in_both (NamesAre (MayBeAsked n)) done ns (earlier_asked n done new_done done mid.mentions) (later_asked n later (is_first n read))))

    asked : (y : Name) → MayBeAskedOf all y → MayBeAsked n y
    asked y h mine =
        let u : is_offered_by all (word_of n) y.text ≡ true = subst (λ o. is_asked_of all o y.text ≡ true) (same_word_eq y.module (Some (word_of n)) mine) h in
        in_first_place n ns y.text (mid.offered (word_of n) y.text lints.new u)

    -- what is left of the module shows the same in its place
    step_sees : (t : Term) → IsSorted [] t → Mentions (MayBeAskedOf all) t → SeesSame old (program_of (k ∷ rest)) t
    step_sees t st h =
        let tell = each_tells old near (near_each (TellsTruth old) n before mid.tells) in
        subst (λ P. SeesSame old P t) left_placed
        (replays_keep_meaning near es n left kept.stood near_written replays old mid.sorted tell holds keep_out t st (mentions_more (MayBeAskedOf all) (MayBeAsked n) asked t h))

    next_sorted : SortedProgram (program_of (k ∷ rest))
    next_sorted =
        subst SortedProgram left_placed
        (with_module_sorted left old mid.sorted (linted_rights near left (modules_are_held (left ∷ near) kept.stands.lints.hold) left_written))

    next_tells : Each (TellsTruth (program_of (k ∷ rest))) (told_module bs k ∷ before)
    next_tells =
        let distinct = subst (λ ds. AreDistinct no_word (defined_words ds)) (sym (headed_decls heads)) kept.stands.distinct in
        let others = names_differ before (word_of k) (ap (is_one_of before) new_word ∙ new_before) in (
          subst (λ P. TellsTruth P (told_module bs k)) new_placed (module_told (with_module k old) bs k distinct (placed_holds k old)),
          subst (λ P. Each (TellsTruth P) before) new_placed (each_there k old before others mid.tells),
        )

    next_mentions : MentionsAmong (k ∷ done) k
    next_mentions =
        let view = is_one_of (left ∷ near) in
        let seen = module_mentions view (decls_at (left ∷ near)) (names_see (left ∷ near)) (All-head (ModuleHolds (decls_at (left ∷ near))) left near kept.stands.lints.hold) in
        subst (λ ds. AreInView (is_one_of (k ∷ done)) (modules_in_decls ds)) (sym (headed_decls heads))
        (all_weaker view (is_one_of (k ∷ done))
        (λ w h. by_or (bytes_eq (word_of left) w) (is_one_of near w) h
        (λ e. or_left (bytes_eq (word_of k) w) (is_one_of done w) (ap (λ v. bytes_eq v w) (headed_word heads) ∙ e))
        (λ e. or_right (bytes_eq (word_of k) w) (is_one_of done w) (sym (mid.names w) ∙ near_only n before w e)))
        (modules_in_decls (ndecls_in left)) seen)

    next_offered : (m w : Word) → is_one_of (n ∷ read) m ≡ false → is_offered_by all m w ≡ true → is_offered_by ns m w ≡ true
    next_offered m w unread h =
        let p = or_parts (bytes_eq (word_of n) m) (is_one_of read m) unread in
        subst (λ b. (if b then is_offered n w else is_offered_by ns m w) ≡ true) p.0 (mid.offered m w p.1 h)

    next : Mid (n ∷ read) (told_module bs k ∷ before) (k ∷ done) ns ks
    next = record {
      names = λ w. ap (λ b. bytes_eq (word_of (told_module bs k)) w || b) (mid.names w) ∙ ap (λ v. bytes_eq v w || is_one_of done w) (told_word bs k);
      was_read = λ w. ap (λ b. bytes_eq (word_of (told_module bs k)) w || b) (mid.was_read w) ∙ ap (λ v. bytes_eq v w || is_one_of read w) (told_word bs k ∙ new_word);
      sorted = next_sorted;
      tells = next_tells;
      written = (told_written bs k (subst AreDeclsWritten (sym (headed_decls heads)) left_written), mid.written);
      mentions = (next_mentions, mentions_more_modules k done done mid.mentions);
      left = λ w. mid.left w ∙ moved k done ks (ap (is_one_of done) new_word ∙ new_done) w;
      offered = next_offered;
    }

  -- ALL MODULES

  further : {P Q R : Program} {t : Term} → SeesSame P Q t → SeesSame Q R t → SeesSame P R t
  further one two o = (λ h. (two o).0 ((one o).0 h), λ h. (one o).1 ((two o).1 h))

  all_mean : {read before : List NModule} {es : List (List Entry)} {ns ks : List NModule} (done : List NModule) → LintInOrder all read ns → Each IsModuleWritten ns
      → Mid read before done ns ks → (replayed : ReplayedInOrder before es ns ks) → AreKept replayed → (t : Term) → IsSorted [] t → Mentions (MayBeAskedOf all) t
      → SeesSame (program_of (done ++ ns)) (program_of whole) t
  all_mean done none_lint w mid none_replayed kept t st h =
      subst (λ P. SeesSame (program_of (done ++ [])) P t) (same_programs (done ++ []) whole (λ v. sym (mid.left v))) (λ o. (λ s. s, λ s. s))
  all_mean {read = read} {before = before} done (one_lints {n = n} lints later) w mid (one_replayed {es = es} {left = left} {k = k} {ns = ns} {ks = ks} bs replays heads more) kept t st h =
      further (step_sees read before done es n left k bs ns ks lints later w.0 mid replays heads kept.0 t st h)
      (all_mean (k ∷ done) later w.1 (next read before done es n left k bs ns ks lints later w.0 mid replays heads kept.0) more kept.1 t st h)

-- SETS

nothing_defined : (o : Option Word) (w : Word) (t : Term) → right_side (decls_at [] o) w ≡ Some t → ⊥
nothing_defined None w t h = none_some h
nothing_defined (Some v) w t h = none_some h

-- the program of modules whose right sides are sorted is
sorted_of : (xs : List NModule) → Each (λ x. AreRightsSorted (ndecls_in x)) xs → SortedProgram (program_of xs)
sorted_of [] h = λ x t found. absurd (nothing_defined x.module x.text t found)
sorted_of (n ∷ xs) h = subst SortedProgram (sym (first_placed n xs)) (with_module_sorted n (program_of xs) (sorted_of xs h.1) h.0)

all_hold : {all read ns : List NModule} → LintInOrder all read ns → Each (ModuleHolds (decls_at all)) ns
all_hold none_lint = tt
all_hold (one_lints lints more) = (lints.holds, all_hold more)

definitions_of : {ms : Modules} {n : NModule} → ModuleHolds ms n → DefinitionsHold ms (ndecls_in n)
definitions_of (module_holds x h types definitions) = definitions

each_sorted : (ms : Modules) → AreHeld ms → (ns : List NModule) → Each (ModuleHolds ms) ns → Each IsModuleWritten ns → Each (λ x. AreRightsSorted (ndecls_in x)) ns
each_sorted ms held [] hold w = tt
each_sorted ms held (n ∷ ns) hold w = (rights_sorted (definitions_of hold.0) held w.0, each_sorted ms held ns hold.1 w.1)

pub replayed_sets_keep_meaning : ReplayedSetsKeepMeaning
replayed_sets_keep_meaning es ns ks lints written replayed t st h =
    let kept = replayed_sets_keep_lint es ns ks lints replayed in
    let each = recursion_from_All IsModuleWritten ns written in
    let hold = all_hold lints in
    let held = modules_are_held ns (All-from_recursion (ModuleHolds (decls_at ns)) ns hold) in
    let mid : Mid ns ks [] [] [] ns ks = record {
      names = λ w. refl;
      was_read = λ w. refl;
      sorted = sorted_of ns (each_sorted (decls_at ns) held ns hold each);
      tells = tt;
      written = tt;
      mentions = tt;
      left = λ w. refl;
      offered = λ m w unread o. o;
    } in
    all_mean ns ks [] lints each mid replayed kept.0 t st h

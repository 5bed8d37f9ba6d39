-- Modules that lint in order are replayed, each among what is told of those before it: each stands among these, and all hold together.
use Rattle.std.proofs.Common.{◌≡◌, ◌∙◌, Bool, true, false, ◌||◌, if◌then◌else◌, List, [], ◌∷◌, inl, inr, refl, sym, ap, subst}
use Rattle.std.proofs.lemmas.Bool.{or_parts}
use Rattle.std.proofs.lemmas.List.Elements.{All-from_recursion, All-head}
use Rattle.std.specs.List.{AllByRecursion as Each}
use Rattle.std.specs.Str.{bytes_eq}
use Rattle.fc_syntax.specs.Tree.{Word}
use Rattle.fc_log.specs.declared.log.Entry.{Entry}
use Rattle.fc_model.specs.Headers.{ndecls_in}
use Rattle.fc_model.specs.Kinding.{decls_at, decls_of_module}
use Rattle.fc_model.specs.LintingRules.{ModuleHolds}
use Rattle.fc_model.specs.Nameless.{NDecl, NModule, NModuleOf}
use Rattle.fc_model.proofs.Sameness.{bytes_eq_eq, false_true}
use Rattle.fc_rows.specs.Replaying.{Replays}
use Rattle.fc_rows.specs.Telling.{reached_among, told_declarations, told_module}
use Rattle.fc_replay_types.specs.ReplaysKept.{Stands, with_declarations}
use Rattle.fc_replay_types.proofs.StepsKept.{replays_keep_lint}
use Rattle.fc_set_types.specs.SetsReplayed.{AreKept, IsHeadedFrom, headed, IsKept, LintInOrder, none_lint, one_lints, LintsBehind, ReplayedInOrder, none_replayed, one_replayed, ReplayedSetsKeepLint, is_one_of}
use Rattle.fc_set_types.proofs.AmongTold.{ToldInOrder, none_told, one_told, same_names, stands_among}
use Rattle.fc_set_types.proofs.Growing.{AreHeadedAlike, Grow, headed_by, module_grows}
use Rattle.fc_set_types.proofs.Headed.{anew_holds, anew_reaches, anew_stands}
use Rattle.fc_set_types.proofs.HeadersKept.{replay_declares, told_definitions, told_types}
use Rattle.fc_set_types.proofs.InOrder.{StandInOrder, none_stand, one_stands, own_names}
use Rattle.fc_set_types.proofs.Reached.{decided, nothing_declared, reached_found, reached_only}
use Rattle.fc_set_types.proofs.Told.{told_stands}

-- A LIST IN TWO PARTS

-- Those before, the last first, are what these begin with, where the declarations of each are related. What is left follows.
record Splits (R : List NDecl → List NDecl → Type 0) (all before ns : List NModule) : Type 0 where
  begun : (w : Word) → is_one_of before w ≡ true → R (decls_of_module before w) (decls_of_module all w)
  left : (w : Word) → is_one_of before w ≡ false → decls_of_module all w ≡ decls_of_module ns w

-- one more is before
module _ (R : List NDecl → List NDecl → Type 0) (all before ns : List NModule) (m : Word) (imports exports hidden further shown more : List Word) (cs ds : List NDecl) where
  split_more : R cs ds → is_one_of before m ≡ false → Splits R all before (NModuleOf m further shown more ds ∷ ns) → Splits R all (NModuleOf m imports exports hidden cs ∷ before) ns
  split_more related new splits = record { begun = λ w h. begun w (bytes_eq m w) refl h; left = left }
    where
      begun : (w : Word) (b : Bool) → bytes_eq m w ≡ b → (b || is_one_of before w) ≡ true → R (if b then cs else decls_of_module before w) (decls_of_module all w)
      begun w true e h =
          let unseen = ap (is_one_of before) (sym (bytes_eq_eq m w e)) ∙ new in
          subst (R cs) (sym (splits.left w unseen ∙ ap (λ b. if b then ds else decls_of_module ns w) e)) related
      begun w false e h = splits.begun w h

      left : (w : Word) → (bytes_eq m w || is_one_of before w) ≡ false → decls_of_module all w ≡ decls_of_module ns w
      left w h = let p = or_parts (bytes_eq m w) (is_one_of before w) h in splits.left w p.1 ∙ ap (λ b. if b then ds else decls_of_module ns w) p.0

nothing_split : (R : List NDecl → List NDecl → Type 0) (ns : List NModule) → Splits R ns [] ns
nothing_split R ns = record { begun = λ w h. false_true h; left = λ w h. refl }

-- what is reached grows to the whole
near_grow : (whole before ks : List NModule) (m : Word) (imports exports hidden : List Word) (cs : List NDecl) (ws : List Word) → StandInOrder before
    → Splits AreHeadedAlike whole (NModuleOf m imports exports hidden cs ∷ before) ks → Grow (NModuleOf m imports exports hidden cs ∷ reached_among ws before) whole
near_grow whole before ks m imports exports hidden cs ws stand splits w =
    let near = reached_among ws before in
    let k = NModuleOf m imports exports hidden cs in
    decided (is_one_of (k ∷ near) w) (λ h. inr (either (bytes_eq m w) h (λ p. splits.begun w p))) (λ h. inl (nothing_declared (k ∷ near) w h))
  where
    either : (b : Bool) → (b || is_one_of (reached_among ws before) w) ≡ true
        → ((b || is_one_of before w) ≡ true → AreHeadedAlike (if b then cs else decls_of_module before w) (decls_of_module whole w))
        → AreHeadedAlike (if b then cs else decls_of_module (reached_among ws before) w) (decls_of_module whole w)
    either true h p = p refl
    either false h p =
        subst (λ es. AreHeadedAlike es (decls_of_module whole w)) (reached_found ws before (own_names stand) w h) (p (reached_only ws before w h))

-- THE INDUCTION

module _ (all whole : List NModule) where
  -- what is left of modules behind those before is kept, and holds against the whole
  abbrev Kept : {before : List NModule} {es : List (List Entry)} {ns ks : List NModule} → ReplayedInOrder before es ns ks → Type 0
  Kept {ks = ks} replayed = AreKept replayed × Each (ModuleHolds (decls_at whole)) ks

  -- what is known before some modules
  record Known (read before ns ks : List NModule) : Type 0 where
    told : ToldInOrder all read before
    stand : StandInOrder before
    read_first : Splits (λ es fs. es ≡ fs) all read ns
    told_first : Splits AreHeadedAlike whole before ks

  abbrev Keeps : (read before : List NModule) (rest : List (List Entry)) (ns ks : List NModule) → Type 0
  Keeps read before rest ns ks = Known read before ns ks → (replayed : ReplayedInOrder before rest ns ks) → Kept replayed

  module _ (read before : List NModule) (es : List Entry) (rest : List (List Entry)) (ns ks : List NModule) (m : Word) (imports exports hidden : List Word) (ds : List NDecl)
      (lints : LintsBehind all read (NModuleOf m imports exports hidden ds)) where
    abbrev n : NModule
    n = NModuleOf m imports exports hidden ds

    abbrev near : List NModule
    near = reached_among imports before

    read_on : {ls : List NModule} → Known read before (n ∷ ns) ls → Splits (λ es fs. es ≡ fs) all (n ∷ read) ns
    read_on known = split_more (λ es fs. es ≡ fs) all read ns m imports exports hidden imports exports hidden ds ds refl lints.new known.read_first

    stood : {ls : List NModule} → Known read before (n ∷ ns) ls → Stands near n
    stood known = let on = read_on known in stands_among all read before known.told known.stand m imports exports hidden ds lints on.begun

    -- one that is left under the old header, and written under another, before more
    own_kept : (cs : List NDecl) (k : NModule) (bs : List Bool) → Known read before (n ∷ ns) (k ∷ ks) → Replays near es n (NModuleOf m imports exports hidden cs)
        → IsHeadedFrom (NModuleOf m imports exports hidden cs) k → (more : ReplayedInOrder (told_module bs k ∷ before) rest ns ks)
        → Keeps (n ∷ read) (told_module bs k ∷ before) rest ns ks
        → (IsKept near n (NModuleOf m imports exports hidden cs) × AreKept more) × (ModuleHolds (decls_at whole) k × Each (ModuleHolds (decls_at whole)) ks)
    own_kept cs k bs known replays (headed {further = further} {more = shown} keeps mentions hides) more later =
        let left = NModuleOf m imports exports hidden cs in
        let told = NModuleOf m further exports shown (told_declarations bs cs) in
        let new = same_names all known.told m ∙ lints.new in
        let old = stood known in
        let kept = replays_keep_lint near es n left old replays in
        let declares = replay_declares replays in
        let reaches = anew_reaches m imports exports hidden further shown cs before known.stand new kept.0 keeps mentions in
        let anew = anew_stands m imports exports hidden further shown cs before known.stand new hides kept.0 in
        let whole_on = split_more AreHeadedAlike whole before ks m imports exports hidden further exports shown cs cs (headed_by cs cs refl) new known.told_first in
        let heads : AreHeadedAlike (told_declarations bs cs) cs = (told_types bs cs, told_definitions bs cs) in
        let known_on : Known (n ∷ read) (told ∷ before) ns ks = record {
          told = one_told lints keeps (told_types bs cs ∙ declares) (λ w o. told_definitions bs cs w ∙ kept.1.types w o) known.told;
          stand = one_stands new (subst (λ xs. Stands xs told) (sym reaches) (told_stands m further exports shown bs cs near anew)) known.stand;
          read_first = read_on known;
          told_first = split_more AreHeadedAlike whole before ks m further exports shown further exports shown (told_declarations bs cs) cs heads new known.told_first;
        } in
        let after = later known_on more in
        let holds = module_grows (left ∷ near) whole (near_grow whole before ks m imports exports hidden cs imports known.stand whole_on) kept.0.lints.hold left
        (All-head (ModuleHolds (decls_at (left ∷ near))) left near kept.0.lints.hold) in (
          (record { stood = old; stands = kept.0; offers = kept.1; declares = declares }, after.0),
          (anew_holds m imports exports hidden further shown cs before known.stand new hides holds, after.1),
        )

    -- so it is of any that is left, since it keeps the header
    one_kept : (left k : NModule) (bs : List Bool) → left ≡ with_declarations (ndecls_in left) n → Known read before (n ∷ ns) (k ∷ ks) → Replays near es n left
        → IsHeadedFrom left k → (more : ReplayedInOrder (told_module bs k ∷ before) rest ns ks) → Keeps (n ∷ read) (told_module bs k ∷ before) rest ns ks
        → (IsKept near n left × AreKept more) × (ModuleHolds (decls_at whole) k × Each (ModuleHolds (decls_at whole)) ks)
    one_kept left k bs header =
        subst (λ x. Known read before (n ∷ ns) (k ∷ ks) → Replays near es n x → IsHeadedFrom x k → (more : ReplayedInOrder (told_module bs k ∷ before) rest ns ks)
        → Keeps (n ∷ read) (told_module bs k ∷ before) rest ns ks
        → (IsKept near n x × AreKept more) × (ModuleHolds (decls_at whole) k × Each (ModuleHolds (decls_at whole)) ks)) (sym header) (own_kept (ndecls_in left) k bs)

    header_kept : {ls : List NModule} (left : NModule) → Known read before (n ∷ ns) ls → Replays near es n left → left ≡ with_declarations (ndecls_in left) n
    header_kept left known replays = let kept = replays_keep_lint near es n left (stood known) replays in kept.1.header

  -- so it is of all, one after the other
  all_kept : {read before : List NModule} {es : List (List Entry)} {ns ks : List NModule} → LintInOrder all read ns → Known read before ns ks
      → (replayed : ReplayedInOrder before es ns ks) → Kept replayed
  all_kept none_lint known none_replayed = (tt, tt)
  all_kept {read = read} {before = before} (one_lints {n = NModuleOf m imports exports hidden ds} lints later) known
      (one_replayed {es = es} {left = left} {k = k} {rest = rest} {ns = ns} {ks = ks} bs replays heads more) =
      one_kept read before es rest ns ks m imports exports hidden ds lints left k bs (header_kept read before es rest ns ks m imports exports hidden ds lints left known replays) known replays
      heads more (λ next on. all_kept later next on)

-- THE LAW

pub replayed_sets_keep_lint : ReplayedSetsKeepLint
replayed_sets_keep_lint es ns ks lints replayed =
    let known : Known ns ks [] [] ns ks = record { told = none_told; stand = none_stand; read_first = nothing_split (λ es fs. es ≡ fs) ns; told_first = nothing_split AreHeadedAlike ks } in
    let kept = all_kept ns ks lints known replayed in
    (kept.0, All-from_recursion (ModuleHolds (decls_at ks)) ks kept.1)

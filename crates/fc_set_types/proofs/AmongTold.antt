-- A module that lints in its set stands among what is told of the modules before it that its imports reach.
use Rattle.std.proofs.Common.{◌≡◌, ◌∙◌, Bool, true, false, ◌&&◌, ◌||◌, if◌then◌else◌, List, [], ◌∷◌, ◌++◌, Option, Some, None, Ok, refl, sym, ap, subst}
use Rattle.std.proofs.lemmas.Bool.{and_parts, or_left, or_right}
use Rattle.std.proofs.lemmas.List.Elements.{All-cons, All-from_recursion, recursion_from_All}
use Rattle.std.specs.List.{AllByRecursion as Each, list_all}
use Rattle.std.specs.Str.{bytes_eq}
use Rattle.fc_syntax.specs.declared.ty.Name.{Name}
use Rattle.fc_syntax.specs.Tree.{Word}
use Rattle.fc_model.specs.Kinding.{decls_at, decls_of_module}
use Rattle.fc_model.specs.LintingRules.{ModuleHolds}
use Rattle.fc_model.specs.Nameless.{NTy, NDecl, NModule, NModuleOf}
use Rattle.fc_model.specs.Planning.{is_among}
use Rattle.fc_model.specs.Typing.{def_type}
use Rattle.fc_model.specs.TypingLaws.{HasDistinctTypes}
use Rattle.fc_model.proofs.Sameness.{false_true}
use Rattle.fc_headers.specs.NamelessHeaders.{modules_in_decls}
use Rattle.fc_reaching.specs.Numbering.{word_of}
use Rattle.fc_rows.specs.Dropping.{is_offered}
use Rattle.fc_rows.specs.Telling.{reached_among}
use Rattle.fc_replay_types.specs.ReplaysKept.{Stands}
use Rattle.fc_views.specs.Views.{AgreeInView, AreInView, IsClosedView, IsModuleInView, KeepsItsType, View, modules_in_headers, names_in_decls}
use Rattle.fc_views.proofs.DeclarationsInView.{modules_see_the_view}
use Rattle.fc_views.proofs.NamesInView.{names_are_in_view}
use Rattle.fc_views.proofs.ViewsClosed.{headers_close_views, headers_mention_fewer}
use Rattle.fc_set_types.specs.SetsReplayed.{LintsBehind, is_offered_by, is_one_of, may_mention, may_use, type_declarations}
use Rattle.fc_set_types.proofs.Growing.{module_grows}
use Rattle.fc_set_types.proofs.HeadersKept.{same_axioms, same_constructors, same_types}
use Rattle.fc_set_types.proofs.InOrder.{HoldTogether, StandInOrder, grow_behind, own_names, reached_hold, together_apart, types_in_order}
use Rattle.fc_set_types.proofs.Reached.{all_at, all_listed, all_weaker, among_second, by_or, each_reached, names_differ, not_reached, other_name, reached_found, reached_only, reached_there}

-- WHAT IS TOLD OF WHAT WAS READ

-- Modules as they are told, the last built first, against those that were read: each lints in the set, and keeps its name and its imports, its declarations of
-- types and the types of what it offers.
pub data ToldInOrder (all : List NModule) : List NModule → List NModule → Type 0 where
  none_told : ToldInOrder all [] []
  one_told : {m : Word} {imports exports hidden further shown : List Word} {ds cs : List NDecl} {read before : List NModule}
      → LintsBehind all read (NModuleOf m imports exports hidden ds) → list_all (is_among further) imports ≡ true → type_declarations cs ≡ type_declarations ds
      → ((w : Word) → is_offered (NModuleOf m imports exports hidden ds) w ≡ true → def_type cs w ≡ def_type ds w)
      → ToldInOrder all read before → ToldInOrder all (NModuleOf m imports exports hidden ds ∷ read) (NModuleOf m further exports shown cs ∷ before)

module _ (all : List NModule) where
  pub same_names : {read before : List NModule} → ToldInOrder all read before → (w : Word) → is_one_of before w ≡ is_one_of read w
  same_names none_told w = refl
  same_names (one_told {m = m} lints keeps types values more) w = ap (λ b. bytes_eq m w || b) (same_names more w)

  told_declare : {read before : List NModule} → ToldInOrder all read before → (w : Word) → type_declarations (decls_of_module before w) ≡ type_declarations (decls_of_module read w)
  told_declare none_told w = refl
  told_declare (one_told {m = m} {ds = ds} {cs = cs} {read = read} {before = before} lints keeps types values more) w = either (bytes_eq m w) (told_declare more w)
    where
      either : (b : Bool) → type_declarations (decls_of_module before w) ≡ type_declarations (decls_of_module read w)
          → type_declarations (if b then cs else decls_of_module before w) ≡ type_declarations (if b then ds else decls_of_module read w)
      either true h = types
      either false h = h

  told_offer : {read before : List NModule} → ToldInOrder all read before → (v w : Word) → is_offered_by read v w ≡ true
      → def_type (decls_of_module before v) w ≡ def_type (decls_of_module read v) w
  told_offer none_told v w h = refl
  told_offer (one_told {m = m} {imports = imports} {exports = exports} {hidden = hidden} {ds = ds} {cs = cs} {read = read} {before = before} lints keeps types values more) v w h =
      either (bytes_eq m v) h (told_offer more v w)
    where
      either : (b : Bool) → (if b then is_offered (NModuleOf m imports exports hidden ds) w else is_offered_by read v w) ≡ true
          → (is_offered_by read v w ≡ true → def_type (decls_of_module before v) w ≡ def_type (decls_of_module read v) w)
          → def_type (if b then cs else decls_of_module before v) w ≡ def_type (if b then ds else decls_of_module read v) w
      either true h p = values w h
      either false h p = p h

  -- what a module may mention is itself or reached by its imports, and by more words
  mentions_reached : (m : Word) (imports exports hidden further : List Word) (ds : List NDecl) (read before : List NModule) → ToldInOrder all read before
      → list_all (is_among further) imports ≡ true → (ws : List Word) (w : Word) → may_mention read (NModuleOf m imports exports hidden ds) w ≡ true
      → (bytes_eq m w || is_one_of (reached_among (ws ++ further) before) w) ≡ true
  mentions_reached m imports exports hidden further ds read before told keeps ws w h =
      let far = reached_among (ws ++ further) before in
      by_or (bytes_eq m w) (is_among imports w && is_one_of read w) h (or_left (bytes_eq m w) (is_one_of far w))
      (λ p. let q = and_parts (is_among imports w) (is_one_of read w) p in
      or_right (bytes_eq m w) (is_one_of far w)
      (reached_there (ws ++ further) before w (among_second ws further w (all_at (is_among further) imports w keeps q.0)) (same_names told w ∙ q.1)))

  -- what was read of modules that are reached mentions modules that are reached
  reached_mention : {read before : List NModule} → ToldInOrder all read before → (ws : List Word) (w : Word) → is_one_of (reached_among ws before) w ≡ true
      → AreInView (is_one_of (reached_among ws before)) (modules_in_decls (decls_of_module read w))
  reached_mention none_told ws w h = false_true h
  reached_mention
      (one_told {m = m} {imports = imports} {exports = exports} {hidden = hidden} {further = further} {shown = shown} {ds = ds} {cs = cs} {read = read} {before = before}
      lints keeps types values more) ws w h =
      tested (is_among ws m) h (reached_mention more (ws ++ further) w) (reached_mention more ws w)
    where
      inner : (b : Bool) → (b || is_one_of (reached_among (ws ++ further) before) w) ≡ true
          → (is_one_of (reached_among (ws ++ further) before) w ≡ true → AreInView (is_one_of (reached_among (ws ++ further) before)) (modules_in_decls (decls_of_module read w)))
          → AreInView (is_one_of (NModuleOf m further exports shown cs ∷ reached_among (ws ++ further) before)) (modules_in_decls (if b then ds else decls_of_module read w))
      inner true h p =
          all_weaker (may_mention read (NModuleOf m imports exports hidden ds)) (is_one_of (NModuleOf m further exports shown cs ∷ reached_among (ws ++ further) before))
          (mentions_reached m imports exports hidden further ds read before more keeps ws) (modules_in_decls ds) lints.mentions
      inner false h p =
          all_weaker (is_one_of (reached_among (ws ++ further) before)) (is_one_of (NModuleOf m further exports shown cs ∷ reached_among (ws ++ further) before))
          (λ v. or_right (bytes_eq m v) (is_one_of (reached_among (ws ++ further) before) v)) (modules_in_decls (decls_of_module read w)) (p h)

      tested : (b : Bool) → is_one_of (if b then NModuleOf m further exports shown cs ∷ reached_among (ws ++ further) before else reached_among ws before) w ≡ true
          → (is_one_of (reached_among (ws ++ further) before) w ≡ true → AreInView (is_one_of (reached_among (ws ++ further) before)) (modules_in_decls (decls_of_module read w)))
          → (is_one_of (reached_among ws before) w ≡ true → AreInView (is_one_of (reached_among ws before)) (modules_in_decls (decls_of_module read w)))
          → AreInView (is_one_of (if b then NModuleOf m further exports shown cs ∷ reached_among (ws ++ further) before else reached_among ws before))
          (modules_in_decls (if bytes_eq m w then ds else decls_of_module read w))
      tested true h p q = inner (bytes_eq m w) h p
      tested false h p q =
          let one = sym (same_names more w) ∙ reached_only ws before w h in
          subst (λ b. AreInView (is_one_of (reached_among ws before)) (modules_in_decls (if b then ds else decls_of_module read w))) (sym (other_name read m w lints.new one)) (q h)

-- A MODULE AMONG WHAT IS TOLD

module _ (all read before : List NModule) (told : ToldInOrder all read before) (stand : StandInOrder before) (m : Word) (imports exports hidden : List Word) (ds : List NDecl)
    (lints : LintsBehind all read (NModuleOf m imports exports hidden ds))
    (found : (w : Word) → is_one_of (NModuleOf m imports exports hidden ds ∷ read) w ≡ true
    → decls_of_module (NModuleOf m imports exports hidden ds ∷ read) w ≡ decls_of_module all w) where
  abbrev own : NModule
  own = NModuleOf m imports exports hidden ds

  abbrev near : List NModule
  near = reached_among imports before

  abbrev view : View
  view = is_one_of (own ∷ near)

  new_before : is_one_of before m ≡ false
  new_before = same_names all told m ∙ lints.new

  -- each in view was read
  was_read : (w : Word) → view w ≡ true → is_one_of (own ∷ read) w ≡ true
  was_read w v =
      by_or (bytes_eq m w) (is_one_of near w) v (or_left (bytes_eq m w) (is_one_of read w))
      (λ p. or_right (bytes_eq m w) (is_one_of read w) (sym (same_names all told w) ∙ reached_only imports before w p))

  in_view : (o : Option Word) (w : Word) → o ≡ Some w → IsModuleInView view o → view w ≡ true
  in_view o w e v = let p = and_parts (view w) true (subst (IsModuleInView view) e v) in p.0

  declare_alike : (o : Option Word) → IsModuleInView view o → type_declarations (decls_at all o) ≡ type_declarations (decls_at (own ∷ near) o)
  declare_alike None v = refl
  declare_alike (Some w) v =
      let one = in_view (Some w) w refl v in
      ap type_declarations (sym (found w (was_read w one))) ∙ either (bytes_eq m w) one
    where
      either : (b : Bool) → (b || is_one_of near w) ≡ true
          → type_declarations (if b then ds else decls_of_module read w) ≡ type_declarations (if b then ds else decls_of_module near w)
      either true h = refl
      either false h = sym (told_declare all told w) ∙ ap type_declarations (reached_found imports before (own_names stand) w h)

  agree : AgreeInView view (decls_at all) (decls_at (own ∷ near))
  agree = record {
    types = λ o w v. same_types (decls_at all o) (decls_at (own ∷ near) o) (declare_alike o v) w;
    constructors = λ o w v. same_constructors (decls_at all o) (decls_at (own ∷ near) o) (declare_alike o v) w;
    axioms = λ o w v. same_axioms (decls_at all o) (decls_at (own ∷ near) o) (declare_alike o v) o w;
  }

  own_mentions : AreInView view (modules_in_decls ds)
  own_mentions =
      let keeps = all_listed (is_among imports) imports (λ w p. p) in
      all_weaker (may_mention read own) view (mentions_reached all m imports exports hidden imports ds read before told keeps []) (modules_in_decls ds) lints.mentions

  headers_in : (o : Option Word) → IsModuleInView view o → AreInView view (modules_in_headers (decls_at all o))
  headers_in None v = refl
  headers_in (Some w) v =
      let one = in_view (Some w) w refl v in
      headers_mention_fewer view (decls_of_module all w) (subst (λ es. AreInView view (modules_in_decls es)) (found w (was_read w one)) (either (bytes_eq m w) one))
    where
      either : (b : Bool) → (b || is_one_of near w) ≡ true → AreInView view (modules_in_decls (if b then ds else decls_of_module read w))
      either true h = own_mentions
      either false h =
          all_weaker (is_one_of near) view (λ v. or_right (bytes_eq m v) (is_one_of near v)) (modules_in_decls (decls_of_module read w)) (reached_mention all told imports w h)

  closed : IsClosedView view (decls_at all)
  closed = headers_close_views view (decls_at all) headers_in

  -- a definition that the module may use keeps its type
  keeps_of : (o : Option Word) (w : Word) (t : NTy) → IsModuleInView view o → may_use read own (record { «module» = o; text = w }) ≡ true → def_type (decls_at all o) w ≡ Ok t
      → def_type (decls_at (own ∷ near) o) w ≡ Ok t
  keeps_of None w t v u h = h
  keeps_of (Some x) w t v u h =
      let one = in_view (Some x) x refl v in
      either (bytes_eq m x) one u (ap (λ es. def_type es w) (found x (was_read x one)) ∙ h)
    where
      either : (b : Bool) → (b || is_one_of near x) ≡ true → (b || is_offered_by read x w) ≡ true → def_type (if b then ds else decls_of_module read x) w ≡ Ok t
          → def_type (if b then ds else decls_of_module near x) w ≡ Ok t
      either true one u h = h
      either false one u h = ap (λ es. def_type es w) (sym (reached_found imports before (own_names stand) x one)) ∙ told_offer all told x w u ∙ h

  keep_all : (names : List Name) → Each (λ n. IsModuleInView view n.module) names → list_all (may_use read own) names ≡ true
      → Each (KeepsItsType (decls_at all) (decls_at (own ∷ near))) names
  keep_all [] v u = tt
  keep_all (n ∷ names) v u =
      let p = and_parts (may_use read own n) (list_all (may_use read own) names) u in
      (λ t h. keeps_of n.module n.text t v.0 p.0 h, keep_all names v.1 p.1)

  holds_among : ModuleHolds (decls_at (own ∷ near)) own
  holds_among =
      let named = recursion_from_All (λ n. IsModuleInView view n.module) (names_in_decls ds) (names_are_in_view view ds own_mentions) in
      modules_see_the_view view (decls_at all) (decls_at (own ∷ near)) agree closed own own_mentions
      (All-from_recursion (KeepsItsType (decls_at all) (decls_at (own ∷ near))) (names_in_decls ds) (keep_all (names_in_decls ds) named lints.uses)) lints.holds

  new_near : is_one_of near m ≡ false
  new_near = not_reached imports before m new_before

  near_hold : HoldTogether near
  near_hold = reached_hold imports before stand

  -- the module stands among what its imports reach
  pub stands_among : Stands near own
  stands_among = record {
    lints = record {
      distinct = All-from_recursion HasDistinctTypes (own ∷ near) (lints.types, each_reached HasDistinctTypes imports before (types_in_order stand));
      hold = All-cons (ModuleHolds (decls_at (own ∷ near))) own near holds_among
          (λ i d l. module_grows near (own ∷ near) (grow_behind own near new_near) near_hold _ (near_hold i d l));
    };
    distinct = lints.definitions;
    others = All-from_recursion (λ x. bytes_eq (word_of x) m ≡ false) near (names_differ near m new_near);
    apart = together_apart near m new_near near_hold;
  }

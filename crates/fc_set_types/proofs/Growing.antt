-- Modules that hold against themselves hold against more of them.
use Rattle.std.proofs.Common.{◌≡◌, ◌∙◌, All, Bool, true, false, ◌&&◌, if◌then◌else◌, List, [], ◌∷◌, ◌⊎◌, inl, inr, Option, Some, None, Ok, refl, sym, ap, subst}
use Rattle.std.proofs.lemmas.List.Elements.{All-head, All-tail}
use Rattle.std.specs.Str.{bytes_eq}
use Rattle.fc_syntax.specs.declared.ty.Name.{Name}
use Rattle.fc_syntax.specs.Tree.{Word}
use Rattle.fc_model.specs.Kinding.{decls_at, decls_of_module}
use Rattle.fc_model.specs.LintingRules.{ModuleHolds}
use Rattle.fc_model.specs.Nameless.{NDecl, NModule, NModuleOf}
use Rattle.fc_model.specs.Typing.{def_type}
use Rattle.fc_model.proofs.Parts.{err_ok}
use Rattle.fc_model.proofs.Sameness.{false_true}
use Rattle.fc_headers.specs.NamelessHeaders.{modules_in_decls}
use Rattle.fc_views.specs.Views.{AgreeInView, AreInView, IsClosedView, IsModuleInView, KeepsItsType, View, modules_in_headers}
use Rattle.fc_views.proofs.DeclarationsInView.{modules_see_the_view}
use Rattle.fc_views.proofs.ViewsClosed.{headers_close_views, headers_mention_fewer}
use Rattle.fc_set_types.specs.SetsReplayed.{type_declarations}
use Rattle.fc_set_types.proofs.HeadersKept.{same_axioms, same_constructors, same_types}
use Rattle.fc_set_types.proofs.Mentions.{SeesDeclared, module_mentions}

-- the same declarations of types, and definitions at the same types
abbrev pub AreHeadedAlike : List NDecl → List NDecl → Type 0
AreHeadedAlike ds es = (type_declarations ds ≡ type_declarations es) × ((w : Word) → def_type ds w ≡ def_type es w)

pub headed_by : (ds es : List NDecl) → ds ≡ es → AreHeadedAlike ds es
headed_by ds es e = (ap type_declarations e, λ w. ap (λ cs. def_type cs w) e)

-- what the one modules declare the others do too
abbrev pub Grow : List NModule → List NModule → Type 0
Grow xs ys = (w : Word) → (decls_of_module xs w ≡ []) ⊎ AreHeadedAlike (decls_of_module xs w) (decls_of_module ys w)

abbrev has_some : List NDecl → Bool
has_some [] = false
has_some (d ∷ ds) = true

module _ (xs ys : List NModule) (grow : Grow xs ys) (hold : All (ModuleHolds (decls_at xs)) xs) where
  -- in view are the modules that declare something
  abbrev declared : View
  declared w = has_some (decls_of_module xs w)

  sees : SeesDeclared declared (decls_at xs)
  sees None = inl refl
  sees (Some w) = either (decls_of_module xs w)
    where
      either : (ds : List NDecl) → ((has_some ds && true) ≡ true) ⊎ (ds ≡ [])
      either [] = inr refl
      either (d ∷ ds) = inl refl

  headed : (o : Option Word) → IsModuleInView declared o → AreHeadedAlike (decls_at xs o) (decls_at ys o)
  headed None v = headed_by [] [] refl
  headed (Some w) v = either (grow w)
    where
      either : (decls_of_module xs w ≡ []) ⊎ AreHeadedAlike (decls_of_module xs w) (decls_of_module ys w) → AreHeadedAlike (decls_of_module xs w) (decls_of_module ys w)
      either (inl e) = false_true (subst (λ ds. (has_some ds && true) ≡ true) e v)
      either (inr h) = h

  agree : AgreeInView declared (decls_at xs) (decls_at ys)
  agree = record {
    types = λ o w v. let h = headed o v in same_types (decls_at xs o) (decls_at ys o) h.0 w;
    constructors = λ o w v. let h = headed o v in same_constructors (decls_at xs o) (decls_at ys o) h.0 w;
    axioms = λ o w v. let h = headed o v in same_axioms (decls_at xs o) (decls_at ys o) h.0 o w;
  }

  found_mention : (zs : List NModule) → All (ModuleHolds (decls_at xs)) zs → (w : Word) → AreInView declared (modules_in_decls (decls_of_module zs w))
  found_mention [] h w = refl
  found_mention (NModuleOf m imports exports hidden ds ∷ zs) h w =
      let n = NModuleOf m imports exports hidden ds in
      either (bytes_eq m w) (module_mentions declared (decls_at xs) sees (All-head (ModuleHolds (decls_at xs)) n zs h))
      (found_mention zs (All-tail (ModuleHolds (decls_at xs)) n zs h) w)
    where
      either : (b : Bool) → AreInView declared (modules_in_decls ds) → AreInView declared (modules_in_decls (decls_of_module zs w))
          → AreInView declared (modules_in_decls (if b then ds else decls_of_module zs w))
      either true p q = p
      either false p q = q

  headers_in : (o : Option Word) → IsModuleInView declared o → AreInView declared (modules_in_headers (decls_at xs o))
  headers_in None v = refl
  headers_in (Some w) v = headers_mention_fewer declared (decls_of_module xs w) (found_mention xs hold w)

  closed : IsClosedView declared (decls_at xs)
  closed = headers_close_views declared (decls_at xs) headers_in

  keeps : (n : Name) → KeepsItsType (decls_at xs) (decls_at ys) n
  keeps n t h = either (sees n.module)
    where
      either : IsModuleInView declared n.module ⊎ (decls_at xs n.module ≡ []) → def_type (decls_at ys n.module) n.text ≡ Ok t
      either (inl v) = let p = headed n.module v in sym (p.1 n.text) ∙ h
      either (inr e) = err_ok (subst (λ ds. def_type ds n.text ≡ Ok t) e h)

  -- what holds against the one holds against the other
  pub module_grows : (n : NModule) → ModuleHolds (decls_at xs) n → ModuleHolds (decls_at ys) n
  module_grows n h = modules_see_the_view declared (decls_at xs) (decls_at ys) agree closed n (module_mentions declared (decls_at xs) sees h) (λ i d l. keeps _) h
